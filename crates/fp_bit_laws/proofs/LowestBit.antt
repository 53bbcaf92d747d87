-- The lowest bit of twice the difference of two numbers that are at most half of an odd modulus.
use Rattle.std.proofs.Common.{◌≡◌, ℕ, ◌+◌, ◌-◌, ◌*◌, ◌%◌, ◌<◌, ◌≤◌, Bool, true, false, ltb, leb, sym, refl, ap, ◌∙◌, arith, mod-eq_of_lt, ltb-true, ltb-false, le-leb}
use Rattle.std.proofs.lemmas.Bool.{lt-leb}
use native.Mathlib.Nat.{mul-add-mod_self_left}
use Rattle.field.specs.Modulus.{half_of}
use Rattle.allocated.specs.Gates.{bit}
use Rattle.bit_laws.proofs.BitLaws.{flipped}
use Rattle.number_laws.specs.Numbers.{difference, twice}
use Rattle.fp_bit_laws.specs.Compared.{BothHalf, smaller_bit}

-- a number plus the modulus is that number modulo it
once_around : (p x y : ℕ) → x < p → y ≡ p * 1 + x → y % p ≡ x
once_around p x y l e = ap (λ (t : ℕ). t % p) e ∙ mul-add-mod_self_left p 1 x ∙ mod-eq_of_lt l

-- a difference that is not negative doubles to an even number
even_is : (p l r : ℕ) → p % 2 ≡ 1 → r ≤ l → l ≤ half_of p → r ≤ half_of p → twice p (difference p (l, r)) % 2 ≡ 0
even_is p l r odd le hl hr =
    let d : difference p (l, r) ≡ l - r = once_around p (l - r) (l + (p - r)) (omega arith) (omega arith) in
    let e : twice p (difference p (l, r)) ≡ 2 * (l - r) = ap (twice p) d ∙ mod-eq_of_lt (omega arith) in
    omega (arith, e)

-- one that is negative doubles to p less an even number, which is odd
odd_is : (p l r : ℕ) → p % 2 ≡ 1 → l < r → l ≤ half_of p → r ≤ half_of p → twice p (difference p (l, r)) % 2 ≡ 1
odd_is p l r odd lt hl hr =
    let d : difference p (l, r) ≡ p - (r - l) = ap (λ (t : ℕ). t % p) (omega arith) ∙ mod-eq_of_lt (omega arith) in
    let e : twice p (difference p (l, r)) ≡ p - 2 * (r - l) = ap (twice p) d ∙ once_around p (p - 2 * (r - l)) (2 * (p - (r - l))) (omega arith) (omega arith) in
    omega (arith, e)

pub lowest_says : (p : ℕ) (x : ℕ × ℕ) → p % 2 ≡ 1 → BothHalf p x → twice p (difference p x) % 2 ≡ smaller_bit false x
lowest_says p x odd h = go (ltb x.0 x.1) refl
  where
    go : (b : Bool) → ltb x.0 x.1 ≡ b → twice p (difference p x) % 2 ≡ bit b
    go true q = odd_is p x.0 x.1 odd (ltb-true x.0 x.1 q) h.0 h.1
    go false q = even_is p x.0 x.1 odd (ltb-false x.0 x.1 q) h.0 h.1

-- not greater is not the other way round smaller
pub lowest_says_not : (p : ℕ) (x : ℕ × ℕ) → p % 2 ≡ 1 → BothHalf p x → flipped (twice p (difference p (x.1, x.0)) % 2) ≡ smaller_bit true x
lowest_says_not p x odd h = ap flipped (lowest_says p (x.1, x.0) odd (h.1, h.0)) ∙ go (ltb x.1 x.0) refl
  where
    go : (b : Bool) → ltb x.1 x.0 ≡ b → flipped (bit b) ≡ bit (leb x.0 x.1)
    go true q = ap bit (sym (lt-leb x.0 x.1 (ltb-true x.1 x.0 q)))
    go false q = ap bit (sym (le-leb x.0 x.1 (ltb-false x.1 x.0 q)))
