-- Scripts and gadgets one after another.
use Rattle.std.proofs.Common.{◌≡◌, ℕ, ◌%◌, Bool, true, false, cond, List, [], ◌∷◌, Option, sym, refl, ap, ◌∙◌, subst}
use Rattle.relations.specs.declared.term.Variable.{Variable}
use Rattle.relations.specs.declared.term.Variable.TheVariants.{One, Zero}
use Rattle.relations.specs.declared.term.Term.{Term}
use Rattle.relations.specs.declared.fault.GadgetFault.{GadgetFault}
use Rattle.relations.specs.declared.term.Side.{Side}
use Rattle.relations.specs.Script.{Script, answer, refuse, allocate, combine, row, then}
pub use Rattle.laws.specs.Law.{lists}
use Rattle.laws.specs.Law.{Val, total, Low, Must, Fits, Plan, Plays, Goes, RowMet, Forces, Reaches, Computes, Law, There, Constants, Wider, AllThere, TermsThere, Names, Sees, Tidy, Steady}

-- ---- scripts one after another
-- what the first forces, the second starts from
pub must_then : (p : ℕ) (ρ : Val) {A B : Type 0} (s : Script A) (k : A → Script B) (P : A → Type 0) (Q : B → Type 0) → Must p ρ s P → ((x : A) → P x → Must p ρ (k x) Q) → Must p ρ (then s k) Q
must_then p ρ (answer x) k P Q h f = f x h
must_then p ρ (refuse e) k P Q h f = tt
must_then p ρ (combine ts c) k P Q h f = λ v e. must_then p ρ (c v) k P Q (h v e) f
must_then p ρ (allocate d vs w c) k P Q h f = λ v. must_then p ρ (c v) k P Q (h v) f
must_then p ρ (row a b c s) k P Q h f = λ m. must_then p ρ s k P Q (h m) f

-- the numbers of both
abbrev pub plan_then : {A B : Type 0} (s : Script A) (k : A → Script B) → Plan s → ((x : A) → Plan (k x)) → Plan (then s k)
plan_then (answer x) k pl f = f x
plan_then (refuse e) k pl f = tt
plan_then (combine ts c) k pl f = λ v. plan_then (c v) k (pl v) f
plan_then (allocate d vs w c) k pl f = (pl.0, λ v. plan_then (c v) k (pl.1 v) f)
plan_then (row a b c s) k pl f = plan_then s k pl f

-- both play, the second from what the first says of its answer
pub plays_then : (o : Bool) (p : ℕ) (ρ : Val) {A B : Type 0} (s : Script A) (k : A → Script B) (pl : Plan s) (pk : (x : A) → Plan (k x)) (P : A → Type 0) (Q : B → Type 0) → Plays o p ρ s pl P → ((x : A) → P x → Plays o p ρ (k x) (pk x) Q) → Plays o p ρ (then s k) (plan_then s k pl pk) Q
plays_then o p ρ (answer x) k pl pk P Q h f = f x h
plays_then o p ρ (refuse e) k pl pk P Q h f = tt
plays_then o p ρ (combine ts c) k pl pk P Q h f = λ v e. plays_then o p ρ (c v) k (pl v) pk P Q (h v e) f
plays_then o p ρ (allocate d vs w c) k pl pk P Q h f = (h.0, λ v e. plays_then o p ρ (c v) k (pl.1 v) pk P Q (h.1 v e) f)
plays_then o p ρ (row a b c s) k pl pk P Q h f = (h.0, plays_then o p ρ s k pl pk P Q h.1 f)

-- what is forced may be said more weakly
pub must_mono : (p : ℕ) (ρ : Val) {A : Type 0} (s : Script A) (P Q : A → Type 0) → ((x : A) → P x → Q x) → Must p ρ s P → Must p ρ s Q
must_mono p ρ (answer x) P Q f h = f x h
must_mono p ρ (refuse e) P Q f h = tt
must_mono p ρ (combine ts c) P Q f h = λ v e. must_mono p ρ (c v) P Q f (h v e)
must_mono p ρ (allocate d vs w c) P Q f h = λ v. must_mono p ρ (c v) P Q f (h v)
must_mono p ρ (row a b c s) P Q f h = λ m. must_mono p ρ s P Q f (h m)

-- what is played may be said more weakly
pub plays_mono : (o : Bool) (p : ℕ) (ρ : Val) {A : Type 0} (s : Script A) (pl : Plan s) (P Q : A → Type 0) → ((x : A) → P x → Q x) → Plays o p ρ s pl P → Plays o p ρ s pl Q
plays_mono o p ρ (answer x) pl P Q f h = f x h
plays_mono o p ρ (refuse e) pl P Q f h = tt
plays_mono o p ρ (combine ts c) pl P Q f h = λ v e. plays_mono o p ρ (c v) (pl v) P Q f (h v e)
plays_mono o p ρ (allocate d vs w c) pl P Q f h = (h.0, λ v e. plays_mono o p ρ (c v) (pl.1 v) P Q f (h.1 v e))
plays_mono o p ρ (row a b c s) pl P Q f h = (h.0, plays_mono o p ρ s pl P Q f h.1)

-- the numbers that a script computes are numbers
pub own_plays : (p : ℕ) (ρ : Val) {A : Type 0} (s : Script A) (pl : Plan s) (Q : A → Type 0) → Plays true p ρ s pl Q → Plays false p ρ s pl Q
own_plays p ρ (answer x) pl Q h = h
own_plays p ρ (refuse e) pl Q h = tt
own_plays p ρ (combine ts c) pl Q h = λ v e. own_plays p ρ (c v) (pl v) Q (h v e)
own_plays p ρ (allocate d vs w c) pl Q h = (h.0.0, λ v e. own_plays p ρ (c v) (pl.1 v) Q (h.1 v e))
own_plays p ρ (row a b c s) pl Q h = (h.0, own_plays p ρ s pl Q h.1)

-- ---- the same with the plan inside
pub goes_then : (o : Bool) (p : ℕ) {A B : Type 0} (s : Script A) (k : A → Script B) (E : Val → Type 0) (P : Val → A → Type 0) (Q : Val → B → Type 0) → Goes o p s E P → ((x : A) → Goes o p (k x) (λ ρ. E ρ × P ρ x) Q) → Goes o p (then s k) E Q
goes_then o p s k E P Q a b = (plan_then s k a.0 (λ x. (b x).0), λ ρ low e. plays_then o p ρ s k a.0 (λ x. (b x).0) (P ρ) (Q ρ) (a.1 ρ low e) (λ x q. (b x).1 ρ low (e, q)))

-- the same from more and to less
pub goes_mono : (o : Bool) (p : ℕ) {A : Type 0} (s : Script A) (E F : Val → Type 0) (P Q : Val → A → Type 0) → ((ρ : Val) → F ρ → E ρ) → ((ρ : Val) (x : A) → F ρ → P ρ x → Q ρ x) → Goes o p s E P → Goes o p s F Q
goes_mono o p s E F P Q e f a = (a.0, λ ρ low h. plays_mono o p ρ s a.0 (P ρ) (Q ρ) (λ x q. f ρ x h q) (a.1 ρ low (e ρ h)))

-- what a script computes is one way for it to go
pub goes_own : (p : ℕ) {A : Type 0} (s : Script A) (E : Val → Type 0) (Q : Val → A → Type 0) → Goes true p s E Q → Goes false p s E Q
goes_own p s E Q a = (a.0, λ ρ low h. own_plays p ρ s a.0 (Q ρ) (a.1 ρ low h))

-- ---- the same step by step
pub goes_answer : (o : Bool) (p : ℕ) {A : Type 0} (x : A) (E : Val → Type 0) (Q : Val → A → Type 0) → ((ρ : Val) → Low p ρ → E ρ → Q ρ x) → Goes o p (answer x) E Q
goes_answer o p x E Q f = (tt, f)

-- a new input or witness has the number x
pub goes_allocate : (o : Bool) (p : ℕ) {A : Type 0} (d : Side) (vs : List Variable) (f : List (Option ℕ) → Option ℕ) (k : Variable → Script A) (E : Val → Type 0) (Q : Val → A → Type 0) (x : ℕ) → ((ρ : Val) → Low p ρ → E ρ → Fits o p ρ vs f x) → ((v : Variable) → Goes o p (k v) (λ ρ. E ρ × (ρ v ≡ x)) Q) → Goes o p (allocate d vs f k) E Q
goes_allocate o p d vs f k E Q x fits h = ((x, λ v. (h v).0), λ ρ low e. (fits ρ low e, λ v q. (h v).1 ρ low (e, q)))

-- a new combination has the value of its terms
pub goes_combine : (o : Bool) (p : ℕ) {A : Type 0} (ts : List Term) (k : Variable → Script A) (E : Val → Type 0) (Q : Val → A → Type 0) → ((v : Variable) → Goes o p (k v) (λ ρ. E ρ × (ρ v ≡ total ρ ts % p)) Q) → Goes o p (combine ts k) E Q
goes_combine o p ts k E Q h = (λ v. (h v).0, λ ρ low e v q. (h v).1 ρ low (e, q))

-- a row is met by what is known of the old variables
pub goes_row : (o : Bool) (p : ℕ) {A : Type 0} (a b c : List Term) (s : Script A) (E : Val → Type 0) (Q : Val → A → Type 0) → ((ρ : Val) → Low p ρ → E ρ → RowMet p ρ a b c) → Goes o p s E Q → Goes o p (row a b c s) E Q
goes_row o p a b c s E Q met h = (h.0, λ ρ low e. (met ρ low e, h.1 ρ low e))

-- a test of names that decides between two scripts
pub must_if : (p : ℕ) (ρ : Val) {A : Type 0} (b : Bool) (s t : Script A) (Q : A → Type 0) → (b ≡ true → Must p ρ s Q) → (b ≡ false → Must p ρ t Q) → Must p ρ (cond b s t) Q
must_if p ρ true s t Q f g = f refl
must_if p ρ false s t Q f g = g refl

-- the same for what goes
pub goes_if : (o : Bool) (p : ℕ) {A : Type 0} (b : Bool) (s t : Script A) (E : Val → Type 0) (Q : Val → A → Type 0) → (b ≡ true → Goes o p s E Q) → (b ≡ false → Goes o p t E Q) → Goes o p (cond b s t) E Q
goes_if o p true s t E Q f g = f refl
goes_if o p false s t E Q f g = g refl

-- ---- gadgets one after another: the second has the first's operands and answers
module _ (p : ℕ) {In Mid Out X Y Z : Type 0} (at : Val → In → X) (by : Val → Mid → Y) (of : Val → Out → Z) (g : In → Script Mid) (h : In → Mid → Script Out) where
  -- the operands and the first answer, as numbers
  abbrev pub At : Val → In × Mid → X × Y
  At ρ i = (at ρ i.0, by ρ i.1)

  -- the second gadget, of the operands and the first answer
  abbrev pub H : In × Mid → Script Out
  H i = h i.0 i.1

  -- soundness of both
  pub forces_then : (P : X → Type 0) (R : X → Y → Type 0) (P₂ : X × Y → Type 0) (R₂ : X × Y → Z → Type 0) (W : X → Z → Type 0)
      → ((x : X) (y : Y) → P x → R x y → P₂ (x, y))
      → ((x : X) (y : Y) (z : Z) → P x → R x y → R₂ (x, y) z → W x z)
      → Forces p at by g P R → Forces p At of H P₂ R₂ → Forces p at of (λ i. then (g i) (h i)) P W
  forces_then P R P₂ R₂ W pre joins first second ρ low i px =
      must_then p ρ (g i) (h i) (λ o. R (at ρ i) (by ρ o)) (λ o. W (at ρ i) (of ρ o)) (first ρ low i px)
      (λ o r. must_mono p ρ (h i o) (λ z. R₂ (at ρ i, by ρ o) (of ρ z)) (λ z. W (at ρ i) (of ρ z)) (λ z r₂. joins (at ρ i) (by ρ o) (of ρ z) px r r₂) (second ρ low (i, o) (pre (at ρ i) (by ρ o) px r)))

  -- the middle's numbers are those that the author names
  pub reaches_then : (P : X → Type 0) (R : X → Y → Type 0) (P₂ : X × Y → Type 0) (R₂ : X × Y → Z → Type 0) (W : X → Z → Type 0)
      → ((x : X) (z : Z) → P x → W x z → (y : Y) × R x y × P₂ (x, y) × R₂ (x, y) z)
      → Reaches p at by g P R → Reaches p At of H P₂ R₂ → Reaches p at of (λ i. then (g i) (h i)) P W
  reaches_then P R P₂ R₂ W splits first second i x z px w =
      let m = splits x z px w in
      goes_then false p (g i) (h i) (λ ρ. at ρ i ≡ x) (λ ρ o. by ρ o ≡ m.0) (λ ρ o. of ρ o ≡ z) (first i x m.0 px m.1)
      (λ o. goes_mono false p (h i o) (λ ρ. At ρ (i, o) ≡ (x, m.0)) (λ ρ. (at ρ i ≡ x) × (by ρ o ≡ m.0)) (λ ρ o. of ρ o ≡ z) (λ ρ o. of ρ o ≡ z) (λ ρ q j. (q.0 j, q.1 j)) (λ ρ o q r. r) (second (i, o) (x, m.0) z m.2 m.3))

  -- what both compute
  pub computes_then : (P : X → Type 0) (e : X → Y) (P₂ : X × Y → Type 0) (e₂ : X × Y → Z)
      → ((x : X) → P x → P₂ (x, e x))
      → Computes p at by g P e → Computes p At of H P₂ e₂ → Computes p at of (λ i. then (g i) (h i)) P (λ x. e₂ (x, e x))
  computes_then P e P₂ e₂ pre first second i x px =
      goes_then true p (g i) (h i) (λ ρ. at ρ i ≡ x) (λ ρ o. by ρ o ≡ e x) (λ ρ o. of ρ o ≡ e₂ (x, e x)) (first i x px)
      (λ o. goes_mono true p (h i o) (λ ρ. At ρ (i, o) ≡ (x, e x)) (λ ρ. (at ρ i ≡ x) × (by ρ o ≡ e x)) (λ ρ o. of ρ o ≡ e₂ (x, e x)) (λ ρ o. of ρ o ≡ e₂ (x, e x)) (λ ρ q j. (q.0 j, q.1 j)) (λ ρ o q r. r) (second (i, o) (x, e x) (pre x px)))

-- ---- one gadget
module _ (p : ℕ) {In Out X Y : Type 0} (at : Val → In → X) (of : Val → Out → Y) (g : In → Script Out) where
  -- what determines its answer is complete by what it computes
  pub reaches_computed : (P : X → Type 0) (R : X → Y → Type 0) (e : X → Y) → ((x : X) (y : Y) → P x → R x y → y ≡ e x) → Computes p at of g P e → Reaches p at of g P R
  reaches_computed P R e same c i x y px r =
      goes_own p (g i) (λ ρ. at ρ i ≡ x) (λ ρ o. of ρ o ≡ y)
      (goes_mono true p (g i) (λ ρ. at ρ i ≡ x) (λ ρ. at ρ i ≡ x) (λ ρ o. of ρ o ≡ e x) (λ ρ o. of ρ o ≡ y) (λ ρ q. q) (λ ρ o q q₂. q₂ ∙ sym (same x y px r)) (c i x px))

  -- a reading that says less
  pub forces_mono : (P : X → Type 0) (R W : X → Y → Type 0) → ((x : X) (y : Y) → P x → R x y → W x y) → Forces p at of g P R → Forces p at of g P W
  forces_mono P R W f h ρ low i px = must_mono p ρ (g i) (λ o. R (at ρ i) (of ρ o)) (λ o. W (at ρ i) (of ρ o)) (λ o r. f (at ρ i) (of ρ o) px r) (h ρ low i px)

  -- other operands, from which these are had
  module _ {J U : Type 0} (to : Val → J → U) (j : J → In) (f : U → X) (same : (ρ : Val) (k : J) → at ρ (j k) ≡ f (to ρ k)) where
    pub forces_on : (P : X → Type 0) (R : X → Y → Type 0) → Forces p at of g P R → Forces p to of (λ k. g (j k)) (λ u. P (f u)) (λ u y. R (f u) y)
    forces_on P R h ρ low k px =
        must_mono p ρ (g (j k)) (λ o. R (at ρ (j k)) (of ρ o)) (λ o. R (f (to ρ k)) (of ρ o)) (λ o r. subst (λ (x : X). R x (of ρ o)) (same ρ k) r) (h ρ low (j k) (subst P (sym (same ρ k)) px))

    pub computes_on : (P : X → Type 0) (e : X → Y) → Computes p at of g P e → Computes p to of (λ k. g (j k)) (λ u. P (f u)) (λ u. e (f u))
    computes_on P e h k u px = let a = h (j k) (f u) px in (a.0, λ ρ low q. a.1 ρ low (same ρ k ∙ ap f q))

    pub reaches_on : (P : X → Type 0) (R : X → Y → Type 0) → Reaches p at of g P R → Reaches p to of (λ k. g (j k)) (λ u. P (f u)) (λ u y. R (f u) y)
    reaches_on P R h k u y px r = let a = h (j k) (f u) y px r in (a.0, λ ρ low q. a.1 ρ low (same ρ k ∙ ap f q))

-- ---- from a gadget to a command: its operands are found in a book, its one answer is listed
pub law_on : (p : ℕ) {In Out X Y : Type 0} (at : Val → In → X) (of : Val → Out → Y) (g : In → Script Out) {J U : Type 0} (to : Val → J → U) (j : J → In) (f : U → X) → ((ρ : Val) (k : J) → at ρ (j k) ≡ f (to ρ k))
    → (P : X → Type 0) (R : X → Y → Type 0) (S : X → Type 0) (e : X → Y) → Law p at of g P R S e → Law p to of (λ k. g (j k)) (λ u. P (f u)) (λ u y. R (f u) y) (λ u. S (f u)) (λ u. e (f u))
law_on p at of g to j f same P R S e a = record {
  sound = forces_on p at of g to j f same P R a.sound;
  complete = reaches_on p at of g to j f same P R a.complete;
  own = computes_on p at of g to j f same (λ x. P x × S x) e a.own;
  obeyed = λ u. a.obeyed (f u);
  solvable = λ u. a.solvable (f u);
}

-- the reading of a list with one answer
abbrev pub Only : {X Y : Type 0} → (X → Y → Type 0) → X → List Y → Type 0
Only R x [] = ⊥
Only R x (y ∷ []) = R x y
Only R x (y ∷ z ∷ ys) = ⊥

-- a gadget whose one answer is listed, as an answer of another type with the same number
pub law_one : (p : ℕ) {In Out Out' X Y : Type 0} (at : Val → In → X) (of : Val → Out → Y) (of' : Val → Out' → Y) (f : Out → Out') → ((ρ : Val) (o : Out) → of' ρ (f o) ≡ of ρ o) → (g : In → Script Out)
    (P : X → Type 0) (R : X → Y → Type 0) (S : X → Type 0) (e : X → Y) → Law p at of g P R S e → Law p at (lists of') (λ i. then (g i) (λ o. answer (f o ∷ []))) P (Only R) S (λ x. e x ∷ [])
law_one p {In} {Out} {Out'} {X} {Y} at of of' f same g P R S e a = record {
  sound = λ ρ low i px. must_then p ρ (g i) (λ o. answer (f o ∷ [])) (λ o. R (at ρ i) (of ρ o)) (λ os. Only R (at ρ i) (lists of' ρ os)) (a.sound ρ low i px) (λ o r. subst (R (at ρ i)) (sym (same ρ o)) r);
  complete = complete;
  own = λ i x h. listed true i x (e x) (a.own i x h);
  obeyed = a.obeyed;
  solvable = solvable;
}
  where
    listed : (o : Bool) (i : In) (x : X) (y : Y) → Goes o p (g i) (λ ρ. at ρ i ≡ x) (λ ρ o. of ρ o ≡ y) → Goes o p (then (g i) (λ o. answer (f o ∷ []))) (λ ρ. at ρ i ≡ x) (λ ρ os. lists of' ρ os ≡ y ∷ [])
    listed o i x y h = goes_then o p (g i) (λ o. answer (f o ∷ [])) (λ ρ. at ρ i ≡ x) (λ ρ o. of ρ o ≡ y) (λ ρ os. lists of' ρ os ≡ y ∷ []) h (λ o. (tt, λ ρ low q. ap (λ t. t ∷ []) (same ρ o ∙ q.1)))

    complete : (i : In) (x : X) (ys : List Y) → P x → Only R x ys → Goes false p (then (g i) (λ o. answer (f o ∷ []))) (λ ρ. at ρ i ≡ x) (λ ρ os. lists of' ρ os ≡ ys)
    complete i x [] px r = absurd r
    complete i x (y ∷ []) px r = listed false i x y (a.complete i x y px r)
    complete i x (y ∷ z ∷ ys) px r = absurd r

    solvable : (x : X) (ys : List Y) → P x → Only R x ys → S x
    solvable x [] px r = absurd r
    solvable x (y ∷ []) px r = a.solvable x y px r
    solvable x (y ∷ z ∷ ys) px r = absurd r

-- ---- all three laws of one gadget after another: five facts about numbers are asked for
pub law_then : (p : ℕ) {In Mid Out X Y Z : Type 0} (at : Val → In → X) (by : Val → Mid → Y) (of : Val → Out → Z) (g : In → Script Mid) (h : In → Mid → Script Out)
    (P : X → Type 0) (R : X → Y → Type 0) (S : X → Type 0) (e : X → Y) (P₂ : X × Y → Type 0) (R₂ : X × Y → Z → Type 0) (S₂ : X × Y → Type 0) (e₂ : X × Y → Z) (W : X → Z → Type 0) (S' : X → Type 0)
    → ((x : X) (y : Y) → P x → R x y → P₂ (x, y))
    → ((x : X) (y : Y) (z : Z) → P x → R x y → R₂ (x, y) z → W x z)
    → ((x : X) (z : Z) → P x → W x z → (y : Y) × R x y × R₂ (x, y) z)
    → ((x : X) → P x → S' x → S x × S₂ (x, e x))
    → ((x : X) (z : Z) → P x → W x z → S' x)
    → Law p at by g P R S e → Law p (At p at by of g h) of (H p at by of g h) P₂ R₂ S₂ e₂ → Law p at of (λ i. then (g i) (h i)) P W S' (λ x. e₂ (x, e x))
law_then p at by of g h P R S e P₂ R₂ S₂ e₂ W S' pre joins splits owns solves a b = record {
  sound = forces_then p at by of g h P R P₂ R₂ W pre joins a.sound b.sound;
  complete = reaches_then p at by of g h P R P₂ R₂ W (λ x z px w. let m = splits x z px w in (m.0, m.1, pre x m.0 px m.1, m.2)) a.complete b.complete;
  own = computes_then p at by of g h (λ x. P x × S' x) e (λ y. P₂ y × S₂ y) e₂ (λ x q. let s = owns x q.0 q.1 in (pre x (e x) q.0 (a.obeyed x q.0 s.0), s.1)) (λ i x q. a.own i x (q.0, (owns x q.0 q.1).0)) b.own;
  obeyed = λ x px s. let q = owns x px s in let r = a.obeyed x px q.0 in joins x (e x) (e₂ (x, e x)) px r (b.obeyed (x, e x) (pre x (e x) px r) q.1);
  solvable = solves;
}

-- the same gadget with another reading and another condition
pub law_mono : (p : ℕ) {In Out X Y : Type 0} (at : Val → In → X) (of : Val → Out → Y) (g : In → Script Out) (P : X → Type 0) (R W : X → Y → Type 0) (S S' : X → Type 0) (e : X → Y)
    → ((x : X) (y : Y) → P x → R x y → W x y) → ((x : X) (y : Y) → P x → W x y → R x y) → ((x : X) → P x → S' x → S x) → ((x : X) → P x → S x → S' x) → Law p at of g P R S e → Law p at of g P W S' e
law_mono p at of g P R W S S' e to fro down up a = record {
  sound = forces_mono p at of g P R W to a.sound;
  complete = λ i x y px w. a.complete i x y px (fro x y px w);
  own = λ i x h. a.own i x (h.0, down x h.0 h.1);
  obeyed = λ x px s. to x (e x) px (a.obeyed x px (down x px s));
  solvable = λ x y px w. up x px (a.solvable x y px (fro x y px w));
}

-- a gadget whose answer is dropped: a statement
abbrev pub nothing : Val → Unit {0} → Unit {0}
nothing ρ u = tt

-- its reading says that some answer obeys
pub law_hide : (p : ℕ) {In Out X Y : Type 0} (at : Val → In → X) (of : Val → Out → Y) (g : In → Script Out) (P : X → Type 0) (R : X → Y → Type 0) (S : X → Type 0) (e : X → Y) → Law p at of g P R S e
    → Law p at nothing (λ i. then (g i) (λ o. answer tt)) P (λ x u. (y : Y) × R x y) S (λ x. tt)
law_hide p at of g P R S e a = record {
  sound = λ ρ low i px. must_then p ρ (g i) (λ o. answer tt) (λ o. R (at ρ i) (of ρ o)) (λ u. (y : _) × R (at ρ i) y) (a.sound ρ low i px) (λ o r. (of ρ o, r));
  complete = λ i x u px r. goes_then false p (g i) (λ o. answer tt) (λ ρ. at ρ i ≡ x) (λ ρ o. of ρ o ≡ r.0) (λ ρ v. nothing ρ v ≡ u) (a.complete i x r.0 px r.1) (λ o. (tt, λ ρ low q. refl));
  own = λ i x h. goes_then true p (g i) (λ o. answer tt) (λ ρ. at ρ i ≡ x) (λ ρ o. of ρ o ≡ e x) (λ ρ v. nothing ρ v ≡ tt) (a.own i x h) (λ o. (tt, λ ρ low q. refl));
  obeyed = λ x px s. (e x, a.obeyed x px s);
  solvable = λ x u px r. a.solvable x r.0 px r.1;
}

-- the reading of a list without answers
abbrev pub Nothing : {X Y : Type 0} → (X → Type 0) → X → List Y → Type 0
Nothing R x [] = R x
Nothing R x (y ∷ ys) = ⊥

-- a statement, whose list of answers is empty
pub law_none : (p : ℕ) {In Out X Y : Type 0} (at : Val → In → X) (of : Val → Out → Y) (g : In → Script (Unit {0})) (P : X → Type 0) (R : X → Type 0) (S : X → Type 0) → Law p at nothing g P (λ x u. R x) S (λ x. tt)
    → Law p at (lists of) (λ i. then (g i) (λ u. answer [])) P (Nothing R) S (λ x. [])
law_none p {In} {Out} {X} {Y} at of g P R S a = record {
  sound = λ ρ low i px. must_then p ρ (g i) (λ u. answer []) (λ u. R (at ρ i)) (λ os. Nothing R (at ρ i) (lists of ρ os)) (a.sound ρ low i px) (λ u r. r);
  complete = complete;
  own = λ i x h. goes_then true p (g i) (λ u. answer []) (λ ρ. at ρ i ≡ x) (λ ρ u. nothing ρ u ≡ tt) (λ ρ os. lists of ρ os ≡ []) (a.own i x h) (λ u. (tt, λ ρ low q. refl));
  obeyed = λ x px s. a.obeyed x px s;
  solvable = solvable;
}
  where
    complete : (i : In) (x : X) (ys : List Y) → P x → Nothing R x ys → Goes false p (then (g i) (λ u. answer [])) (λ ρ. at ρ i ≡ x) (λ ρ os. lists of ρ os ≡ ys)
    complete i x [] px r = goes_then false p (g i) (λ u. answer []) (λ ρ. at ρ i ≡ x) (λ ρ u. nothing ρ u ≡ tt) (λ ρ os. lists of ρ os ≡ []) (a.complete i x tt px r) (λ u. (tt, λ ρ low q. refl))
    complete i x (y ∷ ys) px r = absurd r

    solvable : (x : X) (ys : List Y) → P x → Nothing R x ys → S x
    solvable x [] px r = a.solvable x tt px r
    solvable x (y ∷ ys) px r = absurd r

-- ---- gadgets whose answer is a function of their operands
abbrev pub Is : {X Y : Type 0} → (X → Y) → X → Y → Type 0
Is e x y = y ≡ e x

-- soundness and own values of a gadget that answers e of its operands
pub record Function (p : ℕ) {In Out X Y : Type 0} (at : Val → In → X) (of : Val → Out → Y) (g : In → Script Out) (P : X → Type 0) (e : X → Y) : Type 0 where
  pub forces : Forces p at of g P (Is e)
  pub computes : Computes p at of g P e

-- one gadget of operands and answers of another
pub function_then : (p : ℕ) {In Mid Out X Y Z : Type 0} (at : Val → In → X) (by : Val → Mid → Y) (of : Val → Out → Z) (g : In → Script Mid) (h : In → Mid → Script Out)
    (P : X → Type 0) (e : X → Y) (P₂ : X × Y → Type 0) (e₂ : X × Y → Z) → ((x : X) → P x → P₂ (x, e x))
    → Function p at by g P e → Function p (At p at by of g h) of (H p at by of g h) P₂ e₂ → Function p at of (λ i. then (g i) (h i)) P (λ x. e₂ (x, e x))
function_then p at by of g h P e P₂ e₂ pre a b = record {
  forces = forces_then p at by of g h P (Is e) P₂ (Is e₂) (Is (λ x. e₂ (x, e x))) (λ x y px q. subst (λ y. P₂ (x, y)) (sym q) (pre x px)) (λ x y z px q r. r ∙ ap (λ y. e₂ (x, y)) q) a.forces b.forces;
  computes = computes_then p at by of g h P e P₂ e₂ pre a.computes b.computes;
}

-- the operands are had from others
pub function_on : (p : ℕ) {In Out X Y : Type 0} (at : Val → In → X) (of : Val → Out → Y) (g : In → Script Out) {J U : Type 0} (to : Val → J → U) (j : J → In) (f : U → X) → ((ρ : Val) (k : J) → at ρ (j k) ≡ f (to ρ k))
    → (P : X → Type 0) (e : X → Y) → Function p at of g P e → Function p to of (λ k. g (j k)) (λ u. P (f u)) (λ u. e (f u))
function_on p at of g to j f same P e a = record {
  forces = forces_on p at of g to j f same P (Is e) a.forces;
  computes = computes_on p at of g to j f same P e a.computes;
}

-- one gadget of another's answer
pub function_next : (p : ℕ) {In Mid Out X Y Z : Type 0} (at : Val → In → X) (by : Val → Mid → Y) (of : Val → Out → Z) (g : In → Script Mid) (h : Mid → Script Out)
    (P : X → Type 0) (e : X → Y) (P₂ : Y → Type 0) (e₂ : Y → Z) → ((x : X) → P x → P₂ (e x))
    → Function p at by g P e → Function p by of h P₂ e₂ → Function p at of (λ i. then (g i) h) P (λ x. e₂ (e x))
function_next p at by of g h P e P₂ e₂ pre a b =
    function_then p at by of g (λ i. h) P e (λ y. P₂ y.1) (λ y. e₂ y.1) pre a (function_on p by of h (At p at by of g (λ i. h)) (λ i. i.1) (λ y. y.1) (λ ρ k. refl) P₂ e₂ b)

-- all three laws, of a reading that says what the function is
pub function_law : (p : ℕ) {In Out X Y : Type 0} (at : Val → In → X) (of : Val → Out → Y) (g : In → Script Out) (P : X → Type 0) (R : X → Y → Type 0) (e : X → Y)
    → ((x : X) → P x → R x (e x)) → ((x : X) (y : Y) → P x → R x y → y ≡ e x) → Function p at of g P e → Law p at of g P R (λ x. Unit {0}) e
function_law p at of g P R e says only a = record {
  sound = forces_mono p at of g P (Is e) R (λ x y px q. subst (R x) (sym q) (says x px)) a.forces;
  complete = reaches_computed p at of g P R e only a.computes;
  own = λ i x h. a.computes i x h.0;
  obeyed = λ x px s. says x px;
  solvable = λ x y px r. tt;
}

-- ---- linear gadgets: no input, no witness and no row. What they force is what they compute
-- a script of combinations alone
abbrev pub Pure : {A : Type 0} → Script A → Type 0
Pure (answer x) = Unit {0}
Pure (refuse e) = Unit {0}
Pure (combine ts k) = (v : Variable) → Pure (k v)
Pure (allocate d vs f k) = ⊥
Pure (row a b c s) = ⊥

-- two such one after another
pub pure_then : {A B : Type 0} (s : Script A) (k : A → Script B) → Pure s → ((x : A) → Pure (k x)) → Pure (then s k)
pure_then (answer x) k h f = f x
pure_then (refuse e) k h f = tt
pure_then (combine ts c) k h f = λ v. pure_then (c v) k (h v) f
pure_then (allocate d vs w c) k h f = absurd h
pure_then (row a b c s) k h f = absurd h

-- one of two such
pub pure_if : {A : Type 0} (b : Bool) (s t : Script A) → Pure s → Pure t → Pure (cond b s t)
pure_if true s t f g = f
pure_if false s t f g = g

-- a plan of zeros
abbrev pub any_plan : {A : Type 0} (s : Script A) → Plan s
any_plan (answer x) = tt
any_plan (refuse e) = tt
any_plan (combine ts k) = λ v. any_plan (k v)
any_plan (allocate d vs f k) = (0, λ v. any_plan (k v))
any_plan (row a b c s) = any_plan s

-- what such a script forces, it plays
pub pure_plays : (o : Bool) (p : ℕ) (ρ : Val) {A : Type 0} (s : Script A) (Q : A → Type 0) → Pure s → Must p ρ s Q → Plays o p ρ s (any_plan s) Q
pure_plays o p ρ (answer x) Q u h = h
pure_plays o p ρ (refuse e) Q u h = tt
pure_plays o p ρ (combine ts k) Q u h = λ v e. pure_plays o p ρ (k v) Q (u v) (h v e)
pure_plays o p ρ (allocate d vs f k) Q u h = absurd u
pure_plays o p ρ (row a b c s) Q u h = absurd u

-- so soundness is enough
pub function_pure : (p : ℕ) {In Out X Y : Type 0} (at : Val → In → X) (of : Val → Out → Y) (g : In → Script Out) (P : X → Type 0) (e : X → Y) → ((i : In) → Pure (g i)) → Forces p at of g P (Is e) → Function p at of g P e
function_pure p at of g P e u f = record {
  forces = f;
  computes = λ i x px. (any_plan (g i), λ ρ low q. pure_plays true p ρ (g i) (λ o. of ρ o ≡ e x) (u i) (must_mono p ρ (g i) (λ o. of ρ o ≡ e (at ρ i)) (λ o. of ρ o ≡ e x) (λ o r. r ∙ ap e q) (f ρ low i (subst P (sym q) px))));
}

-- from what cannot be, a script goes
pub goes_never : (o : Bool) (p : ℕ) {A : Type 0} (s : Script A) (E : Val → Type 0) (Q : Val → A → Type 0) → ((ρ : Val) → E ρ → ⊥) → Goes o p s E Q
goes_never o p s E Q f = (any_plan s, λ ρ low e. absurd (f ρ e))

-- ---- a gadget whose answer must also be as a second one says
abbrev pub checked : {In Mid : Type 0} → (In → Script Mid) → (Mid → Script (Unit {0})) → In → Script Mid
checked g st i = then (g i) (λ o. then (st o) (λ u. answer o))

-- both go, and the first one's answer stays
goes_checked : (o : Bool) (p : ℕ) {In Mid X Y : Type 0} (at : Val → In → X) (by : Val → Mid → Y) (g : In → Script Mid) (st : Mid → Script (Unit {0})) (i : In) (x : X) (y : Y)
    → Goes o p (g i) (λ ρ. at ρ i ≡ x) (λ ρ m. by ρ m ≡ y) → ((m : Mid) → Goes o p (st m) (λ ρ. by ρ m ≡ y) (λ ρ u. nothing ρ u ≡ tt)) → Goes o p (checked g st i) (λ ρ. at ρ i ≡ x) (λ ρ m. by ρ m ≡ y)
goes_checked o p at by g st i x y a b =
    goes_then o p (g i) (λ m. then (st m) (λ u. answer m)) (λ ρ. at ρ i ≡ x) (λ ρ m. by ρ m ≡ y) (λ ρ m. by ρ m ≡ y) a
    (λ m. goes_then o p (st m) (λ u. answer m) (λ ρ. (at ρ i ≡ x) × (by ρ m ≡ y)) (λ ρ u. nothing ρ u ≡ tt) (λ ρ m. by ρ m ≡ y)
    (goes_mono o p (st m) (λ ρ. by ρ m ≡ y) (λ ρ. (at ρ i ≡ x) × (by ρ m ≡ y)) (λ ρ u. nothing ρ u ≡ tt) (λ ρ u. nothing ρ u ≡ tt) (λ ρ h. h.1) (λ ρ u h q. q) (b m))
    (λ u. (tt, λ ρ low h. h.0.1)))

-- the reading of both, of the first one's answer
pub law_checked : (p : ℕ) {In Mid X Y : Type 0} (at : Val → In → X) (by : Val → Mid → Y) (g : In → Script Mid) (st : Mid → Script (Unit {0}))
    (P : X → Type 0) (R : X → Y → Type 0) (S : X → Type 0) (e : X → Y) (P₂ T : Y → Type 0) (S' : X → Type 0)
    → ((x : X) (y : Y) → P x → R x y → P₂ y)
    → ((x : X) → P x → S' x → S x × T (e x))
    → ((x : X) (y : Y) → P x → R x y → T y → S' x)
    → Law p at by g P R S e → Law p by nothing st P₂ (λ y u. T y) T (λ y. tt) → Law p at by (checked g st) P (λ x y. R x y × T y) S' e
law_checked p {In} {Mid} {X} {Y} at by g st P R S e P₂ T S' pre splits solves a b = record {
  sound = λ ρ low i px. must_then p ρ (g i) (λ m. then (st m) (λ u. answer m)) (λ m. R (at ρ i) (by ρ m)) (λ m. R (at ρ i) (by ρ m) × T (by ρ m)) (a.sound ρ low i px)
      (λ m r. must_then p ρ (st m) (λ u. answer m) (λ u. T (by ρ m)) (λ m. R (at ρ i) (by ρ m) × T (by ρ m)) (b.sound ρ low m (pre (at ρ i) (by ρ m) px r)) (λ u t. (r, t)));
  complete = λ i x y px r. goes_checked false p at by g st i x y (a.complete i x y px r.0) (λ m. b.complete m y tt (pre x y px r.0) r.1);
  own = λ i x h. let s = splits x h.0 h.1 in goes_checked true p at by g st i x (e x) (a.own i x (h.0, s.0)) (λ m. b.own m (e x) (pre x (e x) h.0 (a.obeyed x h.0 s.0), s.1));
  obeyed = λ x px s. let q = splits x px s in (a.obeyed x px q.0, q.1);
  solvable = λ x y px r. solves x y px r.0 r.1;
}

-- ---- the laws of one script: for gadgets whose script depends on what their operands are, and not only on their numbers
pub record LawAt (p : ℕ) {Out X Y : Type 0} (at : Val → X) (of : Val → Out → Y) (s : Script Out) (Pre : X → Type 0) (R : X → Y → Type 0) (S : X → Type 0) (e : X → Y) : Type 0 where
  pub sound : (ρ : Val) → Low p ρ → Pre (at ρ) → Must p ρ s (λ o. R (at ρ) (of ρ o))
  pub complete : (x : X) (y : Y) → Pre x → R x y → Goes false p s (λ ρ. at ρ ≡ x) (λ ρ o. of ρ o ≡ y)
  pub own : (x : X) → Pre x → S x → Goes true p s (λ ρ. at ρ ≡ x) (λ ρ o. of ρ o ≡ e x)

-- a gadget's laws are laws of each of its scripts
pub law_at : (p : ℕ) {In Out X Y : Type 0} (at : Val → In → X) (of : Val → Out → Y) (g : In → Script Out) (P : X → Type 0) (R : X → Y → Type 0) (S : X → Type 0) (e : X → Y) → Law p at of g P R S e → (i : In) → LawAt p (λ ρ. at ρ i) of (g i) P R S e
law_at p at of g P R S e a i = record { sound = λ ρ low. a.sound ρ low i; complete = a.complete i; own = λ x px s. a.own i x (px, s) }

-- and the other way round
pub law_each : (p : ℕ) {In Out X Y : Type 0} (at : Val → In → X) (of : Val → Out → Y) (g : In → Script Out) (P : X → Type 0) (R : X → Y → Type 0) (S : X → Type 0) (e : X → Y)
    → ((x : X) → P x → S x → R x (e x)) → ((x : X) (y : Y) → P x → R x y → S x) → ((i : In) → LawAt p (λ ρ. at ρ i) of (g i) P R S e) → Law p at of g P R S e
law_each p at of g P R S e obeyed solvable a = record { sound = λ ρ low i. (a i).sound ρ low; complete = λ i. (a i).complete; own = λ i x h. (a i).own x h.0 h.1; obeyed = obeyed; solvable = solvable }

-- a script that only refuses keeps every law
pub at_refuse : (p : ℕ) {Out X Y : Type 0} (at : Val → X) (of : Val → Out → Y) (f : GadgetFault) (P : X → Type 0) (R : X → Y → Type 0) (S : X → Type 0) (e : X → Y) → LawAt p at of (refuse f) P R S e
at_refuse p at of f P R S e = record { sound = λ ρ low px. tt; complete = λ x y px r. (tt, λ ρ low q. tt); own = λ x px s. (tt, λ ρ low q. tt) }

-- a test of names that decides between two scripts
pub at_if : (p : ℕ) {Out X Y : Type 0} (at : Val → X) (of : Val → Out → Y) (b : Bool) (s t : Script Out) (P : X → Type 0) (R : X → Y → Type 0) (S : X → Type 0) (e : X → Y)
    → (b ≡ true → LawAt p at of s P R S e) → (b ≡ false → LawAt p at of t P R S e) → LawAt p at of (cond b s t) P R S e
at_if p at of true s t P R S e f g = f refl
at_if p at of false s t P R S e f g = g refl

-- the operands' numbers are had from other numbers
pub at_on : (p : ℕ) {Out X Y U : Type 0} (at : Val → X) (of : Val → Out → Y) (s : Script Out) (P : X → Type 0) (R : X → Y → Type 0) (S : X → Type 0) (e : X → Y) (to : Val → U) (f : U → X)
    → ((ρ : Val) → Low p ρ → at ρ ≡ f (to ρ)) → LawAt p at of s P R S e → LawAt p to of s (λ u. P (f u)) (λ u y. R (f u) y) (λ u. S (f u)) (λ u. e (f u))
at_on p {Out} {X} {Y} {U} at of s P R S e to f same a = record {
  sound = λ ρ low px. must_mono p ρ s (λ o. R (at ρ) (of ρ o)) (λ o. R (f (to ρ)) (of ρ o)) (λ o r. subst (λ (x : X). R x (of ρ o)) (same ρ low) r) (a.sound ρ low (subst P (sym (same ρ low)) px));
  complete = λ u y px r. let h = a.complete (f u) y px r in (h.0, λ ρ low q. h.1 ρ low (same ρ low ∙ ap f q));
  own = λ u px sx. let h = a.own (f u) px sx in (h.0, λ ρ low q. h.1 ρ low (same ρ low ∙ ap f q));
}

-- ---- what is answered is there
-- what both answer is there
pub names_then : {A B : Type 0} (h : There) (s : Script A) (k : A → Script B) (K : There → A → Type 0) (L : There → B → Type 0) → Names h s K → ((h₁ : There) → Wider h h₁ → (x : A) → K h₁ x → Names h₁ (k x) L) → Names h (then s k) L
names_then h (answer x) k K L n f = f h (λ v q. q) x n
names_then h (refuse e) k K L n f = tt
names_then h (allocate d vs w c) k K L n f = λ h₁ up v here. names_then h₁ (c v) k K L (n h₁ up v here) (λ h₂ up₂ x kx. f h₂ (λ u q. up₂ u (up u q)) x kx)
names_then h (combine ts c) k K L n f = λ h₁ up v here. names_then h₁ (c v) k K L (n h₁ up v here) (λ h₂ up₂ x kx. f h₂ (λ u q. up₂ u (up u q)) x kx)
names_then h (row a b c s) k K L n f = names_then h s k K L n f

-- what is answered may be said more weakly
pub names_mono : {A : Type 0} (h : There) (s : Script A) (K L : There → A → Type 0) → ((h₁ : There) → Wider h h₁ → (x : A) → K h₁ x → L h₁ x) → Names h s K → Names h s L
names_mono h (answer x) K L f n = f h (λ v q. q) x n
names_mono h (refuse e) K L f n = tt
names_mono h (allocate d vs w c) K L f n = λ h₁ up v here. names_mono h₁ (c v) K L (λ h₂ up₂ x kx. f h₂ (λ u q. up₂ u (up u q)) x kx) (n h₁ up v here)
names_mono h (combine ts c) K L f n = λ h₁ up v here. names_mono h₁ (c v) K L (λ h₂ up₂ x kx. f h₂ (λ u q. up₂ u (up u q)) x kx) (n h₁ up v here)
names_mono h (row a b c s) K L f n = names_mono h s K L f n

-- a test of names that decides between two scripts
pub names_if : {A : Type 0} (h : There) (b : Bool) (s t : Script A) (K : There → A → Type 0) → (b ≡ true → Names h s K) → (b ≡ false → Names h t K) → Names h (cond b s t) K
names_if h true s t K f g = f refl
names_if h false s t K f g = g refl

-- ---- all that is named is there
-- what both name is there
pub sees_then : {A B : Type 0} (h : There) (s : Script A) (k : A → Script B) (K : There → A → Type 0) (L : There → B → Type 0) → Sees h s K → ((h₁ : There) → Wider h h₁ → (x : A) → K h₁ x → Sees h₁ (k x) L) → Sees h (then s k) L
sees_then h (answer x) k K L n f = f h (λ v q. q) x n
sees_then h (refuse e) k K L n f = tt
sees_then h (allocate d vs w c) k K L n f = (n.0, λ h₁ up v here. sees_then h₁ (c v) k K L (n.1 h₁ up v here) (λ h₂ up₂ x kx. f h₂ (λ u q. up₂ u (up u q)) x kx))
sees_then h (combine ts c) k K L n f = (n.0, λ h₁ up v here. sees_then h₁ (c v) k K L (n.1 h₁ up v here) (λ h₂ up₂ x kx. f h₂ (λ u q. up₂ u (up u q)) x kx))
sees_then h (row a b c s) k K L n f = (n.0, n.1, n.2, sees_then h s k K L n.3 f)

-- what is answered may be said more weakly
pub sees_mono : {A : Type 0} (h : There) (s : Script A) (K L : There → A → Type 0) → ((h₁ : There) → Wider h h₁ → (x : A) → K h₁ x → L h₁ x) → Sees h s K → Sees h s L
sees_mono h (answer x) K L f n = f h (λ v q. q) x n
sees_mono h (refuse e) K L f n = tt
sees_mono h (allocate d vs w c) K L f n = (n.0, λ h₁ up v here. sees_mono h₁ (c v) K L (λ h₂ up₂ x kx. f h₂ (λ u q. up₂ u (up u q)) x kx) (n.1 h₁ up v here))
sees_mono h (combine ts c) K L f n = (n.0, λ h₁ up v here. sees_mono h₁ (c v) K L (λ h₂ up₂ x kx. f h₂ (λ u q. up₂ u (up u q)) x kx) (n.1 h₁ up v here))
sees_mono h (row a b c s) K L f n = (n.0, n.1, n.2, sees_mono h s K L f n.3)

-- a test of names that decides between two scripts
pub sees_if : {A : Type 0} (h : There) (b : Bool) (s t : Script A) (K : There → A → Type 0) → (b ≡ true → Sees h s K) → (b ≡ false → Sees h t K) → Sees h (cond b s t) K
sees_if h true s t K f g = f refl
sees_if h false s t K f g = g refl

-- where all is there, the answers are
pub sees_names : {A : Type 0} (h : There) (s : Script A) (K : There → A → Type 0) → Sees h s K → Names h s K
sees_names h (answer x) K n = n
sees_names h (refuse e) K n = tt
sees_names h (allocate d vs w c) K n = λ h₁ up v here. sees_names h₁ (c v) K (n.1 h₁ up v here)
sees_names h (combine ts c) K n = λ h₁ up v here. sees_names h₁ (c v) K (n.1 h₁ up v here)
sees_names h (row a b c s) K n = sees_names h s K n.3

-- the constants are there where more is
pub constants_wider : (h k : There) → Wider h k → Constants h → Constants k
constants_wider h k up c = record { one = up One c.one; zero = up Zero c.zero }

-- variables are there where more is
pub all_wider : (h k : There) → Wider h k → (vs : List Variable) → AllThere h vs → AllThere k vs
all_wider h k up [] a = tt
all_wider h k up (v ∷ vs) a = (up v a.0, all_wider h k up vs a.1)

-- the variables of terms are there where more is
pub terms_wider : (h k : There) → Wider h k → (ts : List Term) → TermsThere h ts → TermsThere k ts
terms_wider h k up [] a = tt
terms_wider h k up (t ∷ ts) a = (up t.variable a.0, terms_wider h k up ts a.1)

-- ---- the values that a script gives
-- both give values below p
pub tidy_then : (p : ℕ) {A B : Type 0} (s : Script A) (k : A → Script B) → Tidy p s → ((x : A) → Tidy p (k x)) → Tidy p (then s k)
tidy_then p (answer x) k h f = f x
tidy_then p (refuse e) k h f = tt
tidy_then p (allocate d vs w c) k h f = (h.0, λ v. tidy_then p (c v) k (h.1 v) f)
tidy_then p (combine ts c) k h f = λ v. tidy_then p (c v) k (h v) f
tidy_then p (row a b c s) k h f = tidy_then p s k h f

-- one of two such
pub tidy_if : (p : ℕ) {A : Type 0} (b : Bool) (s t : Script A) → Tidy p s → Tidy p t → Tidy p (cond b s t)
tidy_if p true s t f g = f
tidy_if p false s t f g = g

-- a script of combinations gives no value
pub tidy_pure : (p : ℕ) {A : Type 0} (s : Script A) → Pure s → Tidy p s
tidy_pure p (answer x) u = tt
tidy_pure p (refuse e) u = tt
tidy_pure p (allocate d vs f k) u = absurd u
tidy_pure p (combine ts k) u = λ v. tidy_pure p (k v) (u v)
tidy_pure p (row a b c s) u = absurd u

-- both give their values or not, whatever was asked for
pub steady_then : {A B : Type 0} (s : Script A) (k : A → Script B) → Steady s → ((x : A) → Steady (k x)) → Steady (then s k)
steady_then (answer x) k h f = f x
steady_then (refuse e) k h f = tt
steady_then (allocate d vs w c) k h f = (h.0, λ v. steady_then (c v) k (h.1 v) f)
steady_then (combine ts c) k h f = λ v. steady_then (c v) k (h v) f
steady_then (row a b c s) k h f = steady_then s k h f

-- one of two such
pub steady_if : {A : Type 0} (b : Bool) (s t : Script A) → Steady s → Steady t → Steady (cond b s t)
steady_if true s t f g = f
steady_if false s t f g = g

-- a script of combinations gives no value
pub steady_pure : {A : Type 0} (s : Script A) → Pure s → Steady s
steady_pure (answer x) u = tt
steady_pure (refuse e) u = tt
steady_pure (allocate d vs f k) u = absurd u
steady_pure (combine ts k) u = λ v. steady_pure (k v) (u v)
steady_pure (row a b c s) u = absurd u
