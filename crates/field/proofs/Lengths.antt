-- What holds of the number of bits of a modulus, and of its half.
use Rattle.std.proofs.Common.{◌≡◌, ℕ, ◌+◌, ◌-◌, ◌*◌, ◌%◌, ◌^◌, ◌<◌, ◌≤◌, arith, sym, subst}
use Rattle.std.proofs.lemmas.Nat.{leading_top}
use Rattle.field.specs.Modulus.{bit_length, half_of}

-- the top bit of a number that is not zero
pub record TopBit (p : ℕ) : Type 0 where
  pub place : ℕ
  pub length : bit_length p ≡ place + 1
  pub low : 2 ^ place ≤ p
  pub high : p < 2 ^ (place + 1)

pub top_bit : (p : ℕ) → 0 < p → p < 2 ^ 32 → TopBit p
unfolding bit_length
top_bit p h lt =
    let t = leading_top 32 p h lt in
    record { place = t.0; length = omega (arith, t.1); low = t.2; high = subst (λ (n : ℕ). p < 2 ^ n) (omega arith) t.3 }

-- 2 ^ (n - 1) ≤ p
pub bit_length-low : (p : ℕ) → 0 < p → p < 2 ^ 32 → 2 ^ (bit_length p - 1) ≤ p
bit_length-low p h lt =
    let t = top_bit p h lt in
    let e : bit_length p - 1 ≡ t.place = omega (arith, t.length) in
    subst (λ (n : ℕ). 2 ^ n ≤ p) (sym e) t.low

-- p < 2 ^ n
pub bit_length-high : (p : ℕ) → 0 < p → p < 2 ^ 32 → p < 2 ^ bit_length p
bit_length-high p h lt = let t = top_bit p h lt in subst (λ (n : ℕ). p < 2 ^ n) (sym t.length) t.high

-- an odd number is one more than twice its half
pub half_twice : (p : ℕ) → p % 2 ≡ 1 → 2 * half_of p + 1 ≡ p
half_twice p o = omega arith
