-- A script whose answer is not determined, followed by one that determines it; and laws whose reading sees which operands are constants.
use Rattle.std.proofs.Common.{◌≡◌, ℕ, Bool, true, false, eqb, List, length, refl, sym, ap, ◌∙◌, subst, true≢false, true-eqb, false-eqb}
use Rattle.relations.specs.Script.{Script, answer, then}
use Rattle.boolean.specs.declared.bits.Boolean.{Boolean}
use Rattle.laws.specs.Law.{Val, Low, Must, Goes, Law, lists}
use Rattle.laws.proofs.Frame.{must_then, must_mono, goes_then, goes_mono, goes_own, goes_never, LawAt}
use Rattle.laws.proofs.Theorem.{length_lists}
use Rattle.bit_laws.specs.Bits.{bit_number_of}
use Rattle.bit_laws.proofs.Fixes.{Fixes}

-- the rows of the first force the reading R of its answer, and it computes e; those of the second say T of the operands then, and the answer is d
pub fixes_after : {p : ℕ} {Mid Out X Y Z : Type 0} {at : Val → X} {by : Val → Mid → Y} {of : Val → Out → Z} {k : Mid → Script Out} {P : X → Type 0} {R : X → Y → Type 0} {e : X → Y} {P₂ R₂ : X × Y → Type 0} {e₂ : X × Y → Z}
    (s : Script Mid) (T : X → Type 0) (d : X → Z)
    → ((ρ : Val) → Low p ρ → P (at ρ) → Must p ρ s (λ m. R (at ρ) (by ρ m)))
    → ((x : X) → P x → Goes true p s (λ ρ. at ρ ≡ x) (λ ρ m. by ρ m ≡ e x))
    → ((m : Mid) → Fixes p (λ ρ. (at ρ, by ρ m)) of (k m) P₂ R₂ e₂)
    → ((x : X) (y : Y) → P x → R x y → P₂ (x, y))
    → ((x : X) (y : Y) → P x → R x y → R₂ (x, y) → T x × (e₂ (x, y) ≡ d x))
    → ((x : X) → P x → T x → R x (e x) × R₂ (x, e x))
    → Fixes p at of (then s k) P T d
fixes_after {p} {Mid} {Out} {X} {Y} {Z} {at} {by} {of} {k} {P} {R} {e} {P₂} {R₂} {e₂} s T d forces computes second pre joins owns = record {
  sound = λ ρ low px. must_then p ρ s k (λ m. R (at ρ) (by ρ m)) (λ o. T (at ρ) × (of ρ o ≡ d (at ρ))) (forces ρ low px)
      (λ m r. must_mono p ρ (k m) (λ o. R₂ (at ρ, by ρ m) × (of ρ o ≡ e₂ (at ρ, by ρ m))) (λ o. T (at ρ) × (of ρ o ≡ d (at ρ)))
      (λ o q. let t = joins (at ρ) (by ρ m) px r q.0 in (t.0, q.1 ∙ t.1)) ((second m).sound ρ low (pre (at ρ) (by ρ m) px r)));
  own = λ x px tx.
      let w = owns x px tx in
      goes_then true p s k (λ ρ. at ρ ≡ x) (λ ρ m. by ρ m ≡ e x) (λ ρ o. of ρ o ≡ d x) (computes x px)
      (λ m. goes_mono true p (k m) (λ ρ. ◌≡◌ {A = X × Y} (at ρ, by ρ m) (x, e x)) (λ ρ. (at ρ ≡ x) × (by ρ m ≡ e x)) (λ ρ o. of ρ o ≡ e₂ (x, e x)) (λ ρ o. of ρ o ≡ d x) (λ ρ q j. (q.0 j, q.1 j))
      (λ ρ o q r. r ∙ (joins x (e x) px w.0 w.1).1) ((second m).own (x, e x) (pre x (e x) px w.0) w.1));
}

-- of the numbers of some bits only lists as long as they matter
pub fixes_long : {p : ℕ} {Out Y : Type 0} {of : Val → Out → Y} {s : Script Out} (bs : List Boolean) (P R T : List ℕ → Type 0) (e : List ℕ → Y)
    → ((xs : List ℕ) → length xs ≡ length bs → P xs → R xs → T xs) → ((xs : List ℕ) → length xs ≡ length bs → P xs → T xs → R xs)
    → Fixes p (λ ρ. lists bit_number_of ρ bs) of s P R e → Fixes p (λ ρ. lists bit_number_of ρ bs) of s P T e
fixes_long {p} {Out} {Y} {of} {s} bs P R T e to fro a = record {
  sound = λ ρ low px. must_mono p ρ s (λ o. R (lists bit_number_of ρ bs) × (of ρ o ≡ e (lists bit_number_of ρ bs))) (λ o. T (lists bit_number_of ρ bs) × (of ρ o ≡ e (lists bit_number_of ρ bs)))
      (λ o r. (to (lists bit_number_of ρ bs) (length_lists bit_number_of ρ bs) px r.0, r.1)) (a.sound ρ low px);
  own = λ xs px tx. go xs px tx (eqb (length xs) (length bs)) refl;
}
  where
    go : (xs : List ℕ) → P xs → T xs → (b : Bool) → eqb (length xs) (length bs) ≡ b → Goes true p s (λ ρ. lists bit_number_of ρ bs ≡ xs) (λ ρ o. of ρ o ≡ e xs)
    go xs px tx true q = a.own xs px (fro xs (true-eqb (length xs) (length bs) (sym q)) px tx)
    go xs px tx false q = goes_never true p s (λ ρ. lists bit_number_of ρ bs ≡ xs) (λ ρ o. of ρ o ≡ e xs) (λ ρ z. false-eqb (length xs) (length bs) (sym q) (sym (ap length z) ∙ length_lists bit_number_of ρ bs))

-- what is known of the names is a truth value beside the numbers
told_goes : (o : Bool) {p : ℕ} {Out X : Type 0} {at : Val → X} (s : Script Out) (Q : Val → Out → Type 0) (b c : Bool) (x : X) → (b ≡ c → Goes o p s (λ ρ. at ρ ≡ x) Q) → Goes o p s (λ ρ. ◌≡◌ {A = Bool × X} (b, at ρ) (c, x)) Q
told_goes o {p} {Out} {X} {at} s Q true true x h = goes_mono o p s (λ ρ. at ρ ≡ x) (λ ρ. ◌≡◌ {A = Bool × X} (true, at ρ) (true, x)) Q Q (λ ρ q. ap (λ (t : Bool × X). t.1) q) (λ ρ m q r. r) (h refl)
told_goes o {p} {Out} {X} {at} s Q false false x h = goes_mono o p s (λ ρ. at ρ ≡ x) (λ ρ. ◌≡◌ {A = Bool × X} (false, at ρ) (false, x)) Q Q (λ ρ q. ap (λ (t : Bool × X). t.1) q) (λ ρ m q r. r) (h refl)
told_goes o {p} {Out} {X} {at} s Q true false x h = goes_never o p s (λ ρ. ◌≡◌ {A = Bool × X} (true, at ρ) (false, x)) Q (λ ρ q. true≢false (ap (λ (t : Bool × X). t.0) q))
told_goes o {p} {Out} {X} {at} s Q false true x h = goes_never o p s (λ ρ. ◌≡◌ {A = Bool × X} (false, at ρ) (true, x)) Q (λ ρ q. true≢false (sym (ap (λ (t : Bool × X). t.0) q)))

pub law_told : {p : ℕ} {In Out X Y : Type 0} {at : Val → In → X} {of : Val → Out → Y} {g : In → Script Out} {P : X → Type 0} {R : Bool → X → Y → Type 0} {S : Bool → X → Type 0} {e : X → Y} (told : In → Bool)
    → ((b : Bool) (x : X) → P x → S b x → R b x (e x)) → ((b : Bool) (x : X) (y : Y) → P x → R b x y → S b x) → ((i : In) → LawAt p (λ ρ. at ρ i) of (g i) P (R (told i)) (S (told i)) e)
    → Law p {X = Bool × X} (λ ρ i. (told i, at ρ i)) of g (λ x. P x.1) (λ x y. R x.0 x.1 y) (λ x. S x.0 x.1) (λ x. e x.1)
law_told {p} {In} {Out} {X} {Y} {at} {of} {g} {P} {R} {S} {e} told obeyed solvable a = record {
  sound = λ ρ low i px. (a i).sound ρ low px;
  complete = λ i x y px r. told_goes false (g i) (λ ρ o. of ρ o ≡ y) (told i) x.0 x.1 (λ q. (a i).complete x.1 y px (subst (λ (b : Bool). R b x.1 y) (sym q) r));
  own = λ i x h. told_goes true (g i) (λ ρ o. of ρ o ≡ e x.1) (told i) x.0 x.1 (λ q. (a i).own x.1 h.0 (subst (λ (b : Bool). S b x.1) (sym q) h.1));
  obeyed = λ x px s. obeyed x.0 x.1 px s;
  solvable = λ x y px r. solvable x.0 x.1 y px r;
}

-- a script whose answer is determined, by a reading that says what it is
pub fixes_at : {p : ℕ} {Out X Y : Type 0} {at : Val → X} {of : Val → Out → Y} {s : Script Out} {P R : X → Type 0} {e : X → Y} (W : X → Y → Type 0)
    → ((x : X) (y : Y) → P x → W x y → R x × (y ≡ e x)) → ((x : X) → P x → R x → W x (e x)) → Fixes p at of s P R e → LawAt p at of s P W R e
fixes_at {p} {Out} {X} {Y} {at} {of} {s} {P} {R} {e} W only says a = record {
  sound = λ ρ low px. must_mono p ρ s (λ o. R (at ρ) × (of ρ o ≡ e (at ρ))) (λ o. W (at ρ) (of ρ o)) (λ o r. subst (W (at ρ)) (sym r.1) (says (at ρ) px r.0)) (a.sound ρ low px);
  complete = λ x y px w. let r = only x y px w in
      goes_own p s (λ ρ. at ρ ≡ x) (λ ρ o. of ρ o ≡ y)
      (goes_mono true p s (λ ρ. at ρ ≡ x) (λ ρ. at ρ ≡ x) (λ ρ o. of ρ o ≡ e x) (λ ρ o. of ρ o ≡ y) (λ ρ q. q) (λ ρ o q z. z ∙ sym r.1) (a.own x px r.0));
  own = λ x px rx. a.own x px rx;
}

-- where more is known of the operands
pub fixes_where : {p : ℕ} {Out X Y : Type 0} {at : Val → X} {of : Val → Out → Y} {s : Script Out} {P R : X → Type 0} {e : X → Y} (Q : X → Type 0) → ((x : X) → Q x → P x) → Fixes p at of s P R e → Fixes p at of s Q R e
fixes_where {p} {Out} {X} {Y} {at} {of} {s} {P} {R} {e} Q f a = record { sound = λ ρ low q. a.sound ρ low (f (at ρ) q); own = λ x q r. a.own x (f x q) r }

-- an answer is handed on as another, whose numbers are had from its own: h of them
pub law_put : {p : ℕ} {In Out Other X Y Z : Type 0} {at : Val → In → X} {of : Val → Out → Y} {into : Val → Other → Z} {g : In → Script Out} {P : X → Type 0} {R : X → Y → Type 0} {S : X → Type 0} {e : X → Y} (f : Out → Other) (h : Y → Z)
    → ((ρ : Val) (o : Out) → into ρ (f o) ≡ h (of ρ o)) → Law p at of g P R S e → Law p at into (λ i. then (g i) (λ o. answer (f o))) P (λ x z. (y : Y) × R x y × (z ≡ h y)) S (λ x. h (e x))
law_put {p} {In} {Out} {Other} {X} {Y} {Z} {at} {of} {into} {g} {P} {R} {S} {e} f h same a = record {
  sound = λ ρ low i px. must_then p ρ (g i) (λ o. answer (f o)) (λ o. R (at ρ i) (of ρ o)) (λ o. (y : Y) × R (at ρ i) y × (into ρ o ≡ h y)) (a.sound ρ low i px) (λ o r. (of ρ o, r, same ρ o));
  complete = λ i x z px w. goes_then false p (g i) (λ o. answer (f o)) (λ ρ. at ρ i ≡ x) (λ ρ o. of ρ o ≡ w.0) (λ ρ o. into ρ o ≡ z) (a.complete i x w.0 px w.1) (λ o. (tt, λ ρ low q. same ρ o ∙ ap h q.1 ∙ sym w.2));
  own = λ i x q. goes_then true p (g i) (λ o. answer (f o)) (λ ρ. at ρ i ≡ x) (λ ρ o. of ρ o ≡ e x) (λ ρ o. into ρ o ≡ h (e x)) (a.own i x q) (λ o. (tt, λ ρ low r. same ρ o ∙ ap h r.1));
  obeyed = λ x px s. (e x, a.obeyed x px s, refl);
  solvable = λ x z px w. a.solvable x w.0 px w.1;
}
