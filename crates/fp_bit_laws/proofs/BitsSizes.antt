-- How many terms a sum of different variables takes, and the names of new bits and combinations.
use Rattle.std.proofs.Common.{◌≡◌, ◌≢◌, ℕ, zero, suc, ◌+◌, ◌*◌, ◌%◌, ◌<◌, ◌≤◌, Bool, true, false, cond, eqb, List, [], ◌∷◌, ◌++◌, length, sym, refl, ap, ◌∙◌, subst, arith, eq-eqb, ne_eqb, ⊎_elim, mod-eq_of_lt}
use native.Mathlib.Nat.{mod-mod}
use Rattle.arith.proofs.Euclid.{zero_factor}
use Rattle.field.specs.Laws.{OddPrime}
use Rattle.relations.specs.declared.term.Variable.TheVariants.{Witness}
use Rattle.relations.specs.declared.term.Term.{Term}
use Rattle.relations.specs.Sum.{code, counted, Pairs, handed, total, named, weight, merged, sum_of}
use Rattle.relations.specs.Terms.{times}
use Rattle.allocated.specs.Gates.{allocated}
use Rattle.boolean.specs.declared.bits.Boolean.{Boolean}
use Rattle.boolean.specs.declared.bits.Boolean.TheVariants.{Var as variable_bit}
use Rattle.fp_bits.specs.Digits.{heavier}
use Rattle.fp_bits.specs.Bits.{weighted}
use Rattle.laws.specs.History.{Each}
use Rattle.bit_laws.specs.Bits.{real}
use Rattle.bit_laws.proofs.Sizes.{counts}

-- ---- terms of different variables
abbrev pub Separate : List Term → Type 0
Separate [] = Unit {0}
Separate (t ∷ ts) = Each (λ u. code t.variable ≢ code u.variable) ts × Separate ts

-- a term that counts: of an input, a witness or a combination, with a coefficient that is not 0 modulo p
abbrev pub Solid : ℕ → Term → Type 0
Solid p t = (real t.variable ≡ true) × (t.coefficient % p ≢ 0)

module _ (p : ℕ) where
  apart_total : (c : ℕ) (ts : List Term) (a : ℕ) → Each (λ u. c ≢ code u.variable) ts → total p a (handed ts) c ≡ a
  apart_total c [] a h = refl
  apart_total c (t ∷ ts) a h = ap (λ (b : Bool). total p (cond b ((a + counted t.variable t.coefficient) % p) a) (handed ts) c) (ne_eqb (code t.variable) c (λ e. h.0 (sym e))) ∙ apart_total c ts a h.1

  apart_named : (c : ℕ) (ts : List Term) → Each (λ u. c ≢ code u.variable) ts → named c (handed ts) ≡ false
  apart_named c [] h = refl
  apart_named c (t ∷ ts) h = ap (λ (b : Bool). cond b true (named c (handed ts))) (ne_eqb (code t.variable) c (λ e. h.0 (sym e))) ∙ apart_named c ts h.1

  -- in the sum all each counts once
  abbrev Counted : Pairs → Term → Type 0
  Counted all t = total p 0 all (code t.variable) ≢ 0

  after_other : (t : Term) (ts us : List Term) → Each (λ u. code t.variable ≢ code u.variable) us → Each (Counted (handed ts)) us → Each (Counted (handed (t ∷ ts))) us
  after_other t ts [] n h = tt
  after_other t ts (u ∷ us) n h = (
    subst (λ (b : Bool). total p (cond b ((0 + counted t.variable t.coefficient) % p) 0) (handed ts) (code u.variable) ≢ 0) (sym (ne_eqb (code t.variable) (code u.variable) n.0)) h.0,
    after_other t ts us n.1 h.1,
  )

  once : (ts : List Term) → Separate ts → Each (Solid p) ts → Each (Counted (handed ts)) ts
  once [] s h = tt
  once (t ∷ ts) s h = (
    λ e. h.0.1 (ap (λ (k : ℕ). k % p) (sym (counts t.variable t.coefficient h.0.0)) ∙ ap (λ (k : ℕ). k % p) (omega arith) ∙ sym (own t ts s.0) ∙ e),
    after_other t ts ts s.0 (once ts s.1 h.1),
  )
    where
      own : (t : Term) (ts : List Term) → Each (λ u. code t.variable ≢ code u.variable) ts → total p 0 (handed (t ∷ ts)) (code t.variable) ≡ (0 + counted t.variable t.coefficient) % p
      own t ts a = ap (λ (b : Bool). total p (cond b ((0 + counted t.variable t.coefficient) % p) 0) (handed ts) (code t.variable)) (eq-eqb (code t.variable) (code t.variable) refl) ∙ apart_total (code t.variable) ts ((0 + counted t.variable t.coefficient) % p) a

  merged_size : (all : Pairs) (ts : List Term) → Separate ts → Each (Counted all) ts → length (merged p all (handed ts)) ≡ length ts
  merged_size all [] s h = refl
  merged_size all (t ∷ ts) s h =
      let c : ℕ = code t.variable in
      let q : weight p all c (handed ts) ≡ total p 0 all c = ap (λ (b : Bool). cond b 0 (total p 0 all c)) (apart_named c ts s.0) in
      ap (λ (k : ℕ). length (cond (eqb k 0) (merged p all (handed ts)) ((c, k) ∷ merged p all (handed ts)))) q
      ∙ ap (λ (b : Bool). length (cond b (merged p all (handed ts)) ((c, total p 0 all c) ∷ merged p all (handed ts)))) (ne_eqb (total p 0 all c) 0 h.0)
      ∙ ap suc (merged_size all ts s.1 h.1)

  pub separate_size : (ts : List Term) → Separate ts → Each (Solid p) ts → (sum_of p ts).size ≡ length ts
  separate_size ts s h = merged_size (handed ts) ts s (once ts s h)

-- one more, which is another
pub separate_end : (ts : List Term) (t : Term) → Separate ts → Each (λ u. code u.variable ≢ code t.variable) ts → Separate (ts ++ (t ∷ []))
separate_end [] t s h = (tt, tt)
separate_end (u ∷ ts) t s h = (all ts s.0, separate_end ts t s.1 h.1)
  where
    all : (us : List Term) → Each (λ v. code u.variable ≢ code v.variable) us → Each (λ v. code u.variable ≢ code v.variable) (us ++ (t ∷ []))
    all [] a = (h.0, tt)
    all (v ∷ us) a = (a.0, all us a.1)

-- ---- weights
-- no weight is 0
pub heavier_some : (p w : ℕ) → OddPrime p → w % p ≢ 0 → heavier p w % p ≢ 0
heavier_some p w P h e = ⊎_elim
    (λ z. let q : 2 % p ≡ 2 = mod-eq_of_lt (odd_two p P.prime.0 P.odd) in absurd (omega (arith, z, q))) (λ z. h z)
    (zero_factor p P.prime 2 w (sym (mod-mod (2 * w) p) ∙ e))
  where
    odd_two : (p : ℕ) → 1 < p → p % 2 ≡ 1 → 2 < p
    odd_two p a o = omega arith

-- ---- new bits
-- k witnesses from j on, as bits
abbrev pub witness_bits : ℕ → ℕ → List Boolean
witness_bits j zero = []
witness_bits j (suc k) = variable_bit (allocated (Witness j)) ∷ witness_bits (j + 1) k

-- what holds of each of their terms, and of the last one
each_weighted : (p : ℕ) (Q : Term → Type 0) (t : Term) (w j k : ℕ) → ((c m : ℕ) → j ≤ m → Q (times c (Witness m))) → Q t → Each Q (weighted p w (witness_bits j k) ++ (t ∷ []))
each_weighted p Q t w j zero f q = (q, tt)
each_weighted p Q t w j (suc k) f q = (f w j (omega arith), each_weighted p Q t (heavier p w) (j + 1) k (λ c m l. f c m (omega arith)) q)

weighted_separate : (p : ℕ) (t : Term) (w j k : ℕ) → ((m : ℕ) → j ≤ m → code (Witness m) ≢ code t.variable) → Separate (weighted p w (witness_bits j k) ++ (t ∷ []))
weighted_separate p t w j zero h = (tt, tt)
weighted_separate p t w j (suc k) h = (
  each_weighted p (λ u. code (Witness j) ≢ code u.variable) t (heavier p w) (j + 1) k (λ c m l e. omega (arith, l, e)) (h j (omega arith)),
  weighted_separate p t (heavier p w) (j + 1) k (λ m l. h m (omega (arith, l))),
)

weighted_solid : (p : ℕ) → OddPrime p → (t : Term) (w j k : ℕ) → w % p ≢ 0 → Solid p t → Each (Solid p) (weighted p w (witness_bits j k) ++ (t ∷ []))
weighted_solid p P t w j zero h q = (q, tt)
weighted_solid p P t w j (suc k) h q = ((refl, h), weighted_solid p P t (heavier p w) (j + 1) k (heavier_some p w P h) q)

weighted_long : (p : ℕ) (t : Term) (w j k : ℕ) → length (weighted p w (witness_bits j k) ++ (t ∷ [])) ≡ k + 1
weighted_long p t w j zero = refl
weighted_long p t w j (suc k) = omega (arith, weighted_long p t (heavier p w) (j + 1) k)

-- the sum of the weighted bits and another variable
pub weighted_size : (p : ℕ) → OddPrime p → (t : Term) (w j k : ℕ) → w % p ≢ 0 → Solid p t → ((m : ℕ) → j ≤ m → code (Witness m) ≢ code t.variable) → (sum_of p (weighted p w (witness_bits j k) ++ (t ∷ []))).size ≡ k + 1
weighted_size p P t w j k h q apart =
    separate_size p (weighted p w (witness_bits j k) ++ (t ∷ [])) (weighted_separate p t w j k apart) (weighted_solid p P t w j k h q) ∙ weighted_long p t w j k
