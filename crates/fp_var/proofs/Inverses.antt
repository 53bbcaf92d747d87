-- The inverses that a field gives, as those that are found by search.
use Rattle.std.proofs.Common.{◌≡◌, ℕ, zero, suc, ◌*◌, ◌%◌, ◌<◌, false, cond, ◌==◌, Option, Some, None, MatchOption, sym, refl, ap, ◌∙◌, eq-eqb, ne_eqb}
use Rattle.std.specs.Option.{option_map, unwrap_or}
use Rattle.std.proofs.Math.Nat.{mod-eq_of_lt, zero-mul, zero-mod}
use Rattle.arith.proofs.Bits.{pos_of_prime}
use Rattle.arith.proofs.Residue.{unit_not_zero}
use Rattle.field.specs.Laws.{FieldLaws}
use Rattle.fp.specs.Equality.{seek, inverse, gap}
use Rattle.fp.proofs.Inverse.{inverse_is, same_where_no_gap, no_gap_where_same}
use Rattle.fp_var.specs.Numbers.{apart}

-- a search from zero finds nothing
seek_zero : (p n : ℕ) → 1 < p → seek p 0 n ≡ 0
seek_zero p zero h = refl
seek_zero p (suc n) h = ap (λ k. cond (k % p == 1) n (seek p 0 n)) (zero-mul n) ∙ ap (λ k. cond (k == 1) n (seek p 0 n)) (zero-mod p) ∙ seek_zero p n h

-- zero has no inverse, and the search answers 0
pub no_inverse : (p : ℕ) → 1 < p → inverse p 0 ≡ 0
no_inverse p h = seek_zero p p h

-- the inverse of an element, or zero where there is none
pub inverse_or_zero : {F : Type 0} (number : F → ℕ) (p : ℕ) (x z : F) (o : Option F) → FieldLaws p number → number z ≡ 0
    → MatchOption o (number x ≡ 0) (λ m. (number x * number m) % p ≡ 1) → number (unwrap_or o z) ≡ inverse p (number x)
inverse_or_zero number p x z None laws ez h = ez ∙ sym (ap (inverse p) h ∙ no_inverse p laws.prime.0)
inverse_or_zero number p x z (Some m) laws ez h = sym (inverse_is p (number x) (number m) laws.prime (laws.below m) h)

-- the inverse of an element's number n: none for zero alone
pub inverse_found : {F : Type 0} (number : F → ℕ) (p : ℕ) (x : F) (o : Option F) → FieldLaws p number
    → MatchOption o (number x ≡ 0) (λ m. (number x * number m) % p ≡ 1) → option_map number o ≡ cond (number x == 0) None (Some (inverse p (number x)))
inverse_found number p x None laws h = sym (ap (λ b. cond b None (Some (inverse p (number x)))) (eq-eqb (number x) 0 h))
inverse_found number p x (Some m) laws h =
    ap Some (sym (inverse_is p (number x) (number m) laws.prime (laws.below m) h)) ∙ sym (ap (λ b. cond b None (Some (inverse p (number x)))) (ne_eqb (number x) 0 some))
  where
    some : number x ≡ 0 → ⊥
    some e = unit_not_zero p (number x) (number m) laws.prime.0 h (ap (λ k. k % p) e ∙ mod-eq_of_lt (pos_of_prime laws.prime))

-- the inverse of the difference of two elements, where a condition is not 0: the multiplier that shows them apart
pub apart_found : {F : Type 0} (number : F → ℕ) (p : ℕ) (x y c d : F) (o : Option F) → FieldLaws p number → number d ≡ gap p (number x) (number y) → (number c == 0) ≡ false
    → MatchOption o (number d ≡ 0) (λ m. (number d * number m) % p ≡ 1) → option_map number o ≡ apart p (number x) (number y) (number c)
apart_found number p x y c d None laws ed ec h =
    sym (ap (λ b. cond b (Some 0) (cond (number x == number y) None (Some (inverse p (gap p (number x) (number y)))))) ec
    ∙ ap (λ b. cond b None (Some (inverse p (gap p (number x) (number y))))) (eq-eqb (number x) (number y) (same_where_no_gap p (number x) (number y) (laws.below x) (laws.below y) (sym ed ∙ h))))
apart_found number p x y c d (Some m) laws ed ec h =
    ap Some (sym (inverse_is p (gap p (number x) (number y)) (number m) laws.prime (laws.below m) found))
    ∙ sym (ap (λ b. cond b (Some 0) (cond (number x == number y) None (Some (inverse p (gap p (number x) (number y)))))) ec
    ∙ ap (λ b. cond b None (Some (inverse p (gap p (number x) (number y))))) (ne_eqb (number x) (number y) differ))
  where
    found : (gap p (number x) (number y) * number m) % p ≡ 1
    found = ap (λ k. (k * number m) % p) (sym ed) ∙ h

    differ : number x ≡ number y → ⊥
    differ i = unit_not_zero p (gap p (number x) (number y)) (number m) laws.prime.0 found (ap (λ k. k % p) (no_gap_where_same p (number x) (number y) (laws.below y) i) ∙ mod-eq_of_lt (pos_of_prime laws.prime))
