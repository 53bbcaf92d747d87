-- What an accepted script did first, and what is left of it.
use Rattle.std.proofs.Common.{◌≡◌, ℕ, ◌+◌, Bool, true, false, cond, ◌&&◌, ltb, leb, List, [], ◌∷◌, map, length, Some, None, Ok, Err, Option, Result, sym, refl, ap, subst, arith}
use borrow.Author.Tests.{clash}
use Rattle.relations.specs.declared.term.Variable.{Variable}
use Rattle.relations.specs.declared.term.Variable.TheVariants.{Combination}
use Rattle.relations.specs.declared.term.Term.{Term}
use Rattle.relations.specs.declared.fault.SystemFault.{SystemFault}
use Rattle.relations.specs.declared.fault.SystemFault.TheVariants.{UnknownVariable, TermsFull}
use Rattle.relations.specs.declared.fault.GadgetFault.{GadgetFault}
use Rattle.relations.specs.Sum.{sum_of, row_of}
use Rattle.relations.specs.Meaning.{Meaning, Combo, Step, has, has_all, has_row, known, all_known, kept, listed, room, next_of, full, with_new, keeping, places, used, row_use, with_combo, combo_of, new_lc, with_row, rows_full, enforce}
use Rattle.relations.specs.declared.term.Side.{Side}
use Rattle.relations.specs.Script.{next, asking}
use Rattle.laws.specs.Law.{AllThere, TermsThere}

-- ---- tests of two parts
-- the first part holds
pub left : (x y : Bool) → (x && y) ≡ true → x ≡ true
left true y e = refl
left false y e = e

-- the second part holds
pub right : (x y : Bool) → (x && y) ≡ true → y ≡ true
right true y e = e
right false y e = absurd (clash e)

-- terms that passed the system's test are there
pub terms_there : (i w : ℕ) (cs : List Combo) (ts : List Term) → all_known i w cs ts ≡ true → TermsThere (known i w cs) ts
terms_there i w cs [] e = tt
terms_there i w cs (t ∷ ts) e = (left (known i w cs t.variable) (all_known i w cs ts) e, terms_there i w cs ts (right (known i w cs t.variable) (all_known i w cs ts) e))

-- a refusal is no answer
pub refused : {A : Type 0} (e : GadgetFault) (m n : Meaning) (x : A) → ◌≡◌ {A = Result A GadgetFault × Meaning} (Err e, m) (Ok x, n) → ⊥
refused e m n x q = let z : ◌≡◌ {A = ℕ} 0 1 = cc (ap (λ r. r.0) q) in omega arith

-- the value that is kept for a new input or witness
abbrev pub Keeps : Bool → Option ℕ → Option ℕ → Type 0
Keeps true o w = (x : ℕ) × (o ≡ Some x) × (w ≡ Some x)
Keeps false o w = w ≡ None

-- ---- a new input or witness
-- all that was asked for was there, and the rest was run with the new variable
pub record Allocated {A : Type 0} (d : Side) (vs : List Variable) (f : List (Option ℕ) → Option ℕ) (k : Variable → Step (Result A GadgetFault)) (m n : Meaning) (x : A) : Type 0 where
  pub there : AllThere (has m) vs
  pub value : Option ℕ
  pub keeps : Keeps m.keeps (f (map (kept m) vs)) value
  pub rest : k (next_of d m) (with_new d value m) ≡ (Ok x, n)

-- so it was where the run was accepted
pub allocated : {A : Type 0} (d : Side) (vs : List Variable) (f : List (Option ℕ) → Option ℕ) (k : Variable → Step (Result A GadgetFault)) (m n : Meaning) (x : A) → asking d vs f k m ≡ (Ok x, n) → Allocated d vs f k m n x
allocated {A} d [] f k m n x e = go (ltb (length (listed d m)) (room d m)) m.keeps (f []) refl refl e
  where
    go : (b q : Bool) (o : Option ℕ) → m.keeps ≡ q → f [] ≡ o → next {A = Variable} {B = A} (cond {A = Result Variable SystemFault × Meaning} b (keeping q d o m) (Err (full d), m)).0 (cond {A = Result Variable SystemFault × Meaning} b (keeping q d o m) (Err (full d), m)).1 k ≡ (Ok x, n) → Allocated d [] f k m n x
    go true false o kq ko e₁ = record { there = tt; value = None; keeps = subst (λ (c : Bool). Keeps c (f []) None) (sym kq) refl; rest = e₁ }
    go true true None kq ko e₁ = absurd (refused _ m n x e₁)
    go true true (Some y) kq ko e₁ = record { there = tt; value = Some y; keeps = subst (λ (c : Bool). Keeps c (f []) (Some y)) (sym kq) (y, ko, refl); rest = e₁ }
    go false q o kq ko e₁ = absurd (refused _ m n x e₁)
allocated {A} d (v ∷ vs) f k m n x e = go (has m v) refl e (λ e₁. allocated d vs (λ os. f (kept m v ∷ os)) k m n x e₁)
  where
    go : (b : Bool) → has m v ≡ b → next {A = Option ℕ} {B = A} (cond {A = Result (Option ℕ) SystemFault} b (Ok (kept m v)) (Err UnknownVariable)) m (λ o. asking d vs (λ os. f (o ∷ os)) k) ≡ (Ok x, n)
        → (asking d vs (λ os. f (kept m v ∷ os)) k m ≡ (Ok x, n) → Allocated d vs (λ os. f (kept m v ∷ os)) k m n x) → Allocated d (v ∷ vs) f k m n x
    go true h e₁ r = let a = r e₁ in record { there = (h, a.there); value = a.value; keeps = a.keeps; rest = a.rest }
    go false h e₁ r = absurd (refused _ m n x e₁)

-- ---- a new combination
-- all terms were there, and the rest was run with the new combination
pub record Combined {A : Type 0} (p : ℕ) (ts : List Term) (k : Variable → Step (Result A GadgetFault)) (m n : Meaning) (x : A) : Type 0 where
  pub there : TermsThere (has m) ts
  pub rest : k (Combination (places m.combos + (sum_of p ts).size)) (with_combo (combo_of p ts m) m) ≡ (Ok x, n)

-- so it was where the run was accepted
pub combined : {A : Type 0} (p : ℕ) (ts : List Term) (k : Variable → Step (Result A GadgetFault)) (m n : Meaning) (x : A) → next {A = Variable} {B = A} (new_lc p ts m).0 (new_lc p ts m).1 k ≡ (Ok x, n) → Combined p ts k m n x
combined {A} p ts k m n x e = go (has_all m ts) (leb (used m + ((sum_of p ts).size + 1)) m.term_room) refl e
  where
    go : (b c : Bool) → has_all m ts ≡ b
        → next {A = Variable} {B = A} (cond {A = Result Variable SystemFault × Meaning} b (cond c (Ok (Combination (places m.combos + (sum_of p ts).size)), with_combo (combo_of p ts m) m) (Err TermsFull, m)) (Err UnknownVariable, m)).0
        (cond {A = Result Variable SystemFault × Meaning} b (cond c (Ok (Combination (places m.combos + (sum_of p ts).size)), with_combo (combo_of p ts m) m) (Err TermsFull, m)) (Err UnknownVariable, m)).1 k ≡ (Ok x, n)
        → Combined p ts k m n x
    go true true h e₁ = record { there = terms_there (length m.inputs) (length m.witnesses) m.combos ts h; rest = e₁ }
    go true false h e₁ = absurd (refused _ m n x e₁)
    go false c h e₁ = absurd (refused _ m n x e₁)

-- ---- a new row
-- all terms were there, and the rest was run with the new row
pub record Enforced {A : Type 0} (p : ℕ) (a b c : List Term) (k : Step (Result A GadgetFault)) (m n : Meaning) (x : A) : Type 0 where
  pub there_a : TermsThere (has m) a
  pub there_b : TermsThere (has m) b
  pub there_c : TermsThere (has m) c
  pub rest : k (with_row (row_of p a b c) m) ≡ (Ok x, n)

-- so it was where the run was accepted
pub enforced : {A : Type 0} (p : ℕ) (a b c : List Term) (k : Step (Result A GadgetFault)) (m n : Meaning) (x : A) → next {A = Unit {0}} {B = A} (enforce p a b c m).0 (enforce p a b c m).1 (λ u. k) ≡ (Ok x, n) → Enforced p a b c k m n x
enforced {A} p a b c k m n x e = go (has_row m a b c) (leb (used m + row_use (row_of p a b c)) m.term_room) (ltb (length m.rows) m.row_room) refl e
  where
    go : (q t r : Bool) → has_row m a b c ≡ q
        → next {A = Unit {0}} {B = A} (cond {A = Result (Unit {0}) SystemFault × Meaning} q (cond t (cond r (Ok tt, with_row (row_of p a b c) m) (Err (rows_full m.capped), m)) (Err TermsFull, m)) (Err UnknownVariable, m)).0
        (cond {A = Result (Unit {0}) SystemFault × Meaning} q (cond t (cond r (Ok tt, with_row (row_of p a b c) m) (Err (rows_full m.capped), m)) (Err TermsFull, m)) (Err UnknownVariable, m)).1 (λ u. k) ≡ (Ok x, n)
        → Enforced p a b c k m n x
    go true true true h e₁ =
        let i = length m.inputs in
        let w = length m.witnesses in
        let hb : (has_all m b && has_all m c) ≡ true = right (has_all m a) (has_all m b && has_all m c) h in
        record {
          there_a = terms_there i w m.combos a (left (has_all m a) (has_all m b && has_all m c) h);
          there_b = terms_there i w m.combos b (left (has_all m b) (has_all m c) hb);
          there_c = terms_there i w m.combos c (right (has_all m b) (has_all m c) hb);
          rest = e₁;
        }
    go true true false h e₁ = absurd (refused _ m n x e₁)
    go true false r h e₁ = absurd (refused _ m n x e₁)
    go false t r h e₁ = absurd (refused _ m n x e₁)
