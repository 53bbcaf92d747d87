-- The values that a system keeps: they stay, they are right, and they meet the rows of gadgets that compute them.
use Rattle.std.proofs.Common.{◌≡◌, ℕ, zero, suc, ◌+◌, ◌-◌, ◌<◌, Bool, true, false, cond, eqb, ltb, List, [], ◌∷◌, ◌++◌, map, length, get_or, Some, None, Ok, Option, sym, refl, ap, ◌∙◌, subst, ⊎_elim, arith, ltb-true}
use lib.ListN.{get_or-append}
use borrow.Author.Tests.{clash}
use Rattle.relations.specs.declared.term.Variable.{Variable}
use Rattle.relations.specs.declared.term.Variable.TheVariants.{One, Zero, Input, Witness, Combination}
use Rattle.relations.specs.declared.term.Term.{Term}
use Rattle.relations.specs.Sum.{Row, sum_of, row_of}
use Rattle.relations.specs.Meaning.{Meaning, Combo, places, is_head, number, kept_at, has, assigned, kept, next_of, with_new, with_combo, combo_of, with_row}
use Rattle.relations.specs.declared.term.Side.{Side}
use Rattle.relations.specs.declared.term.Side.TheVariants.{Input as input, Witness as witness}
use Rattle.relations.specs.Script.{Script, answer, refuse, allocate, combine, row, run}
use Rattle.relations.specs.Meaning.{Grows}
use Rattle.laws.specs.Law.{Val, Low, Given, Goes, TermsThere, Below, Tidy}
use Rattle.laws.specs.Runs.{Sums, Same, Bounded, Proper, Solves, Right}
use Rattle.laws.proofs.Heads.{kept_append, kept_new, head_cases}
use Rattle.laws.proofs.Trace.{Keeps, allocated, combined, enforced, refused}
use Rattle.laws.proofs.Link.{sum_bounded, sum_total, sums_same, sums_snoc, solves_same, solves_new, solves_combo, solves_row, proper_new, proper_combo, proper_row, wider_new, wider_combo, new_there, combo_there, total_row}

-- ---- what is kept stays
-- an old element behind which more was added
get_or_old : {A : Type 0} (xs ys : List A) (d : A) (k : ℕ) → ltb k (length xs) ≡ true → get_or (xs ++ ys) k d ≡ get_or xs k d
get_or_old xs ys d k h = get_or-append xs ys d k (ltb-true k (length xs) h)

-- the newest element
get_or_new : {A : Type 0} (xs : List A) (y d : A) → get_or (xs ++ (y ∷ [])) (length xs) d ≡ y
get_or_new [] y d = refl
get_or_new (x ∷ xs) y d = get_or_new xs y d

-- in a system that grew
pub assigned_grows : (m n : Meaning) → Grows m n → Same m (assigned m) (assigned n)
assigned_grows m n g One k = refl
assigned_grows m n g Zero k = refl
assigned_grows m n g (Input i) k = ap (λ (l : List (Option ℕ)). number (get_or l i None)) g.inputs_are ∙ ap number (get_or_old m.inputs g.inputs None i k)
assigned_grows m n g (Witness i) k = ap (λ (l : List (Option ℕ)). number (get_or l i None)) g.witnesses_are ∙ ap number (get_or_old m.witnesses g.witnesses None i k)
assigned_grows m n g (Combination c) k = ap (kept_at c) g.combos_are ∙ kept_append c m.combos g.combos k

-- with one more input or witness
pub assigned_new : (d : Side) (o : Option ℕ) (m : Meaning) → Same m (assigned m) (assigned (with_new d o m))
assigned_new input o m One k = refl
assigned_new input o m Zero k = refl
assigned_new input o m (Input i) k = ap number (get_or_old m.inputs (o ∷ []) None i k)
assigned_new input o m (Witness i) k = refl
assigned_new input o m (Combination c) k = refl
assigned_new witness o m One k = refl
assigned_new witness o m Zero k = refl
assigned_new witness o m (Input i) k = refl
assigned_new witness o m (Witness i) k = ap number (get_or_old m.witnesses (o ∷ []) None i k)
assigned_new witness o m (Combination c) k = refl

-- with one more combination
pub assigned_combo : (x : Combo) (m : Meaning) → Same m (assigned m) (assigned (with_combo x m))
assigned_combo x m One k = refl
assigned_combo x m Zero k = refl
assigned_combo x m (Input i) k = refl
assigned_combo x m (Witness i) k = refl
assigned_combo x m (Combination c) k = kept_append c m.combos (x ∷ []) k

-- with one more row
pub assigned_row : (r : Row) (m : Meaning) → assigned m ≡ assigned (with_row r m)
assigned_row r m = λ i v. go v i
  where
    go : (v : Variable) → assigned m v ≡ assigned (with_row r m) v
    go One = refl
    go Zero = refl
    go (Input i) = refl
    go (Witness i) = refl
    go (Combination c) = refl

-- ---- the newest
-- the newest input or witness has its value
at_new : (d : Side) (o : Option ℕ) (m : Meaning) → assigned (with_new d o m) (next_of d m) ≡ number o
at_new input o m = ap number (get_or_new m.inputs o None)
at_new witness o m = ap number (get_or_new m.witnesses o None)

-- the newest combination has the value of its sum
at_combo : (p : ℕ) (ts : List Term) (m : Meaning) → m.keeps ≡ true → assigned (with_combo (combo_of p ts m) m) (Combination (places m.combos + (sum_of p ts).size)) ≡ (sum_of p ts).value (assigned m)
at_combo p ts m keeps = kept_new m.combos (combo_of p ts m) ∙ ap (λ (b : Bool). number (cond b (Some ((sum_of p ts).value (assigned m))) None)) keeps

-- a system goes on keeping values
pub keeps_new : (d : Side) (o : Option ℕ) (m : Meaning) → (with_new d o m).keeps ≡ m.keeps
keeps_new input o m = refl
keeps_new witness o m = refl

-- ---- below p
-- a kept value is below p
number_low : (p : ℕ) → 1 < p → (o : Option ℕ) → Below p o → number o < p
number_low p above None b = omega arith
number_low p above (Some x) b = b

-- so are all with one more
numbers_low : (p : ℕ) → 1 < p → (xs : List (Option ℕ)) (o : Option ℕ) → Below p o → ((k : ℕ) → number (get_or xs k None) < p) → (k : ℕ) → number (get_or (xs ++ (o ∷ [])) k None) < p
numbers_low p above [] o b h zero = number_low p above o b
numbers_low p above [] o b h (suc k) = omega arith
numbers_low p above (x ∷ xs) o b h zero = h zero
numbers_low p above (x ∷ xs) o b h (suc k) = numbers_low p above xs o b (λ k. h (suc k)) k

-- nothing is kept where no heading stands
kept_none : (c : ℕ) (cs : List Combo) → is_head c cs ≡ false → kept_at c cs ≡ 0
kept_none c [] e = refl
kept_none c (x ∷ cs) e = go (eqb c x.sum.size) (ltb c x.sum.size) e (kept_none (c - (x.sum.size + 1)) cs)
  where
    go : (b d : Bool) → cond b true (cond d false (is_head (c - (x.sum.size + 1)) cs)) ≡ false → (is_head (c - (x.sum.size + 1)) cs ≡ false → kept_at (c - (x.sum.size + 1)) cs ≡ 0) → cond b (number x.kept) (cond d 0 (kept_at (c - (x.sum.size + 1)) cs)) ≡ 0
    go true d e f = absurd (clash (sym e))
    go false true e f = refl
    go false false e f = f e

-- so are those of combinations with one more
pub kept_low : (p : ℕ) → 1 < p → (cs : List Combo) (x : Combo) → ((c : ℕ) → kept_at c cs < p) → number x.kept < p → (c : ℕ) → kept_at c (cs ++ (x ∷ [])) < p
kept_low p above cs x h l c = go (is_head c (cs ++ (x ∷ []))) refl
  where
    go : (b : Bool) → is_head c (cs ++ (x ∷ [])) ≡ b → kept_at c (cs ++ (x ∷ [])) < p
    go true e = ⊎_elim
        (λ k. subst (λ (y : ℕ). y < p) (sym (kept_append c cs (x ∷ []) k)) (h c))
        (λ q. subst (λ (y : ℕ). y < p) (sym (ap (λ (n : ℕ). kept_at n (cs ++ (x ∷ []))) q ∙ kept_new cs x)) l)
        (head_cases c cs x e)
    go false e = subst (λ (y : ℕ). y < p) (sym (kept_none c (cs ++ (x ∷ [])) e)) (omega arith)

-- so are all numbers with one more input or witness
low_new : (p : ℕ) → 1 < p → (d : Side) (o : Option ℕ) (m : Meaning) → Below p o → Low p (assigned m) → Low p (assigned (with_new d o m))
low_new p above input o m b l = record { one = refl; zero = refl; low = go }
  where
    go : (v : Variable) → assigned (with_new input o m) v < p
    go One = above
    go Zero = omega arith
    go (Input k) = numbers_low p above m.inputs o b (λ k. l.low (Input k)) k
    go (Witness k) = l.low (Witness k)
    go (Combination c) = l.low (Combination c)
low_new p above witness o m b l = record { one = refl; zero = refl; low = go }
  where
    go : (v : Variable) → assigned (with_new witness o m) v < p
    go One = above
    go Zero = omega arith
    go (Input k) = l.low (Input k)
    go (Witness k) = numbers_low p above m.witnesses o b (λ k. l.low (Witness k)) k
    go (Combination c) = l.low (Combination c)

-- and with one more combination
low_combo : (p : ℕ) → 1 < p → (x : Combo) (m : Meaning) → number x.kept < p → Low p (assigned m) → Low p (assigned (with_combo x m))
low_combo p above x m b l = record { one = refl; zero = refl; low = go }
  where
    go : (v : Variable) → assigned (with_combo x m) v < p
    go One = above
    go Zero = omega arith
    go (Input k) = l.low (Input k)
    go (Witness k) = l.low (Witness k)
    go (Combination c) = kept_low p above m.combos x (λ c. l.low (Combination c)) b c

-- and with one that terms make
combo_low : (p : ℕ) → 1 < p → (ts : List Term) (m : Meaning) → Bounded p (has m) (sum_of p ts) → Low p (assigned m) → Low p (assigned (with_combo (combo_of p ts m) m))
combo_low p above ts m b l = low_combo p above (combo_of p ts m) m (pick m.keeps) l
  where
    pick : (q : Bool) → number (cond q (Some ((sum_of p ts).value (assigned m))) None) < p
    pick true = b.below (assigned m)
    pick false = omega arith

-- ---- the kept values are right
-- they stay right with one more input or witness
right_new : (p : ℕ) → 1 < p → (d : Side) (o : Option ℕ) (m : Meaning) → Below p o → Proper p m → Right p m → Right p (with_new d o m)
right_new p above input o m b pr r = record {
  low = low_new p above input o m b r.low;
  sums = sums_same p (length m.inputs) (length m.witnesses) (assigned m) (assigned (with_new input o m)) [] m.combos (assigned_new input o m) pr.formed r.sums;
}
right_new p above witness o m b pr r = record {
  low = low_new p above witness o m b r.low;
  sums = sums_same p (length m.inputs) (length m.witnesses) (assigned m) (assigned (with_new witness o m)) [] m.combos (assigned_new witness o m) pr.formed r.sums;
}

-- and with one more combination
right_combo : (p : ℕ) → 1 < p → (ts : List Term) (m : Meaning) → m.keeps ≡ true → Bounded p (has m) (sum_of p ts) → Proper p m → Right p m → Right p (with_combo (combo_of p ts m) m)
right_combo p above ts m keeps b pr r = record {
  low = combo_low p above ts m b r.low;
  sums = sums_snoc σ [] m.combos (combo_of p ts m)
      (sums_same p (length m.inputs) (length m.witnesses) (assigned m) σ [] m.combos (assigned_combo (combo_of p ts m) m) pr.formed r.sums)
      (at_combo p ts m keeps ∙ sym (b.local (assigned m) σ (assigned_combo (combo_of p ts m) m)));
}
  where
    σ : Val
    σ = assigned (with_combo (combo_of p ts m) m)

-- and with one more row
right_row : (p : ℕ) (q : Row) (m : Meaning) → Right p m → Right p (with_row q m)
right_row p q m r = record {
  low = subst (Low p) (assigned_row q m) r.low;
  sums = subst (λ (ρ : Val). Sums ρ [] m.combos) (assigned_row q m) r.sums;
}

-- and in an accepted run
pub right_run : (p : ℕ) → 1 < p → {A : Type 0} (s : Script A) (m n : Meaning) (x : A) → run p s m ≡ (Ok x, n) → Tidy p s → m.keeps ≡ true → Proper p m → Right p m → Right p n
right_run p above (answer y) m n x e t keeps pr r = subst (Right p) (ap (λ q. q.1) e) r
right_run p above (refuse f) m n x e t keeps pr r = absurd (refused f m n x e)
right_run p above (allocate d vs f k) m n x e t keeps pr r =
    let a = allocated d vs f (λ v. run p (k v)) m n x e in
    let o : Option ℕ = a.value in
    let kk : Keeps true (f (map (kept m) vs)) o = subst (λ (b : Bool). Keeps b (f (map (kept m) vs)) o) keeps a.keeps in
    let asked : map (λ v. Some (assigned m v)) vs ≡ map (kept m) vs = sym (ap (λ (b : Bool). map (λ v. cond b (Some (assigned m v)) None) vs) keeps) in
    let b : Below p o = subst (Below p) (ap f asked ∙ kk.1 ∙ sym kk.2) (t.0 (assigned m) r.low) in
    right_run p above (k (next_of d m)) (with_new d o m) n x a.rest (t.1 (next_of d m)) (keeps_new d o m ∙ keeps) (proper_new p d o m pr) (right_new p above d o m b pr r)
right_run p above (combine ts k) m n x e t keeps pr r =
    let a = combined p ts (λ v. run p (k v)) m n x e in
    let b : Bounded p (has m) (sum_of p ts) = sum_bounded p (omega arith) (has m) refl ts a.there in
    let v : Variable = Combination (places m.combos + (sum_of p ts).size) in
    right_run p above (k v) (with_combo (combo_of p ts m) m) n x a.rest (t v) keeps (proper_combo p (combo_of p ts m) m b pr) (right_combo p above ts m keeps b pr r)
right_run p above (row a b c s) m n x e t keeps pr r =
    let q = enforced p a b c (run p s) m n x e in
    let bound : (ts : List Term) → TermsThere (has m) ts → Bounded p (has m) (sum_of p ts) = λ ts. sum_bounded p (omega arith) (has m) refl ts in
    right_run p above s (with_row (row_of p a b c) m) n x q.rest t keeps (proper_row p (row_of p a b c) m (bound a q.there_a, bound b q.there_b, bound c q.there_c) pr) (right_row p (row_of p a b c) m r)

-- ---- and they meet the rows that were added
-- the kept values solve a system, and are as Q says
pub record Owned (p : ℕ) (n : Meaning) (Q : Val → Type 0) : Type 0 where
  pub solves : Solves p n (assigned n)
  pub says : Q (assigned n)

-- where a script goes by what it computes, the kept values solve the system at its exit
pub own_run : (p : ℕ) → 1 < p → {A : Type 0} (s : Script A) (m n : Meaning) (x : A) (Q : Val → A → Type 0)
    → run p s m ≡ (Ok x, n) → m.keeps ≡ true → Proper p m → Solves p m (assigned m) → Goes true p s (Same m (assigned m)) Q → Owned p n (λ σ. Q σ x)
own_run p above (answer y) m n x Q e keeps pr sol h =
    let q : y ≡ x = cc (ap (λ r. r.0) e) in
    subst (λ (l : Meaning). Owned p l (λ σ. Q σ x)) (ap (λ r. r.1) e) (record { solves = sol; says = subst (Q (assigned m)) q (h.1 (assigned m) sol.low (λ v k. refl)) })
own_run p above (refuse f) m n x Q e keeps pr sol h = absurd (refused f m n x e)
own_run p above (allocate d vs f k) m n x Q e keeps pr sol h =
    let r = allocated d vs f (λ v. run p (k v)) m n x e in
    let u : Variable = next_of d m in
    let o : Option ℕ = r.value in
    let y : ℕ = h.0.0 in
    let ρ : Val = assigned m in
    let m₁ : Meaning = with_new d o m in
    let ρ₁ : Val = assigned m₁ in
    let fits = (h.1 ρ sol.low (λ v kn. refl)).0 in
    let kk : Keeps true (f (map (kept m) vs)) o = subst (λ (b : Bool). Keeps b (f (map (kept m) vs)) o) keeps r.keeps in
    let asked : map (kept m) vs ≡ map (λ v. Some (assigned m v)) vs = ap (λ (b : Bool). map (λ v. cond b (Some (assigned m v)) None) vs) keeps in
    let eo : o ≡ Some y = kk.2 ∙ ap Some (subst (λ (q : Option ℕ). Given q y) (sym (ap f asked) ∙ kk.1) fits.1) in
    let low : Low p ρ₁ = low_new p above d o m (subst (Below p) (sym eo) fits.0) sol.low in
    let down : (σ : Val) → Same m₁ ρ₁ σ → Same m ρ σ = λ σ g v kn. g v (wider_new d o m v kn) ∙ assigned_new d o m v kn in
    let at : (σ : Val) → Same m₁ ρ₁ σ → σ u ≡ y = λ σ g. g u (new_there d o m) ∙ at_new d o m ∙ ap number eo in
    own_run p above (k u) m₁ n x Q r.rest (keeps_new d o m ∙ keeps) (proper_new p d o m pr) (solves_new p d o m ρ₁ (solves_same p m ρ ρ₁ pr (assigned_new d o m) low sol)) (h.0.1 u, λ σ l g. (h.1 σ l (down σ g)).1 u (at σ g))
own_run p above (combine ts k) m n x Q e keeps pr sol h =
    let r = combined p ts (λ v. run p (k v)) m n x e in
    let c : Combo = combo_of p ts m in
    let u : Variable = Combination (places m.combos + (sum_of p ts).size) in
    let b : Bounded p (has m) (sum_of p ts) = sum_bounded p (omega arith) (has m) refl ts r.there in
    let ρ : Val = assigned m in
    let m₁ : Meaning = with_combo c m in
    let ρ₁ : Val = assigned m₁ in
    let low : Low p ρ₁ = combo_low p above ts m b sol.low in
    let down : (σ : Val) → Same m₁ ρ₁ σ → Same m ρ σ = λ σ g v kn. g v (wider_combo c m v kn) ∙ assigned_combo c m v kn in
    let at : (σ : Val) → Same m₁ ρ₁ σ → σ u ≡ (sum_of p ts).value σ = λ σ g. g u (combo_there c m) ∙ at_combo p ts m keeps ∙ sym (b.local ρ σ (down σ g)) in
    own_run p above (k u) m₁ n x Q r.rest keeps (proper_combo p c m b pr) (solves_combo p c m ρ₁ (solves_same p m ρ ρ₁ pr (assigned_combo c m) low sol) (at ρ₁ (λ v kn. refl))) (h.0 u, λ σ l g. h.1 σ l (down σ g) u (at σ g ∙ sum_total p σ l.zero ts))
own_run p above (row a b c s) m n x Q e keeps pr sol h =
    let r = enforced p a b c (run p s) m n x e in
    let ρ : Val = assigned m in
    let q : Row = row_of p a b c in
    let bound : (ts : List Term) → TermsThere (has m) ts → Bounded p (has m) (sum_of p ts) = λ ts. sum_bounded p (omega arith) (has m) refl ts in
    let met = total_row p ρ sol.low.zero a b c (h.1 ρ sol.low (λ v kn. refl)).0 in
    own_run p above s (with_row q m) n x Q r.rest keeps (proper_row p q m (bound a r.there_a, bound b r.there_b, bound c r.there_c) pr)
    (subst (λ (σ : Val). Solves p (with_row q m) σ) (assigned_row q m) (solves_row p q m ρ sol met))
    (h.0, λ σ l g. (h.1 σ l (λ v kn. g v kn ∙ sym (λ i. assigned_row q m i v))).1)
