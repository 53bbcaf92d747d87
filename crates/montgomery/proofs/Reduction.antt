-- What a reduction gives, and the operations on codes.
use Rattle.std.proofs.Common.{◌≡◌, ℕ, ◌+◌, ◌-◌, ◌*◌, ◌/◌, ◌%◌, ◌<◌, ◌≤◌, [], ◌∷◌, sym, ◌∙◌, arith, mod-lt, mod-eq_of_lt, lit<}
use native.Mathlib.Nat.{div-add-mod}
use lib.Dec.{eqb}
use Rattle.std.proofs.lemmas.Bool.Decides.{nat_tests}
use Rattle.arith.proofs.Ring.{≈-by, done}
use Rattle.arith.proofs.Solve.{reads, none, times, by_mod, by_zero}
use Rattle.montgomery.specs.Form.{Form, number_of}

-- below 2 p one subtraction gives the remainder
pub once : (p u : ℕ) → p ≤ u → u < 2 * p → u - p ≡ u % p
once p u h lt = sym (mod-eq_of_lt (omega arith)) ∙ ≈-by p (u - p) u 1 0 (omega arith)

-- the multiple of p that a reduction adds
abbrev multiple : ℕ → ℕ → ℕ → ℕ
multiple p minus t = t % 4294967296 * minus % 4294967296 * p

-- with it t is a multiple of 2 ^ 32
whole : (p minus t : ℕ) → (minus * p + 1) % 4294967296 ≡ 0 → (t + multiple p minus t) % 4294967296 ≡ 0
whole p minus t h =
    by_zero 4294967296 (lit< tt) (p ∷ minus ∷ t ∷ []) (times t h (search reads depth 9) none) (search reads depth 9) done

-- what it divides to is t / 2 ^ 32 modulo p
pub reduces : (p minus square back t : ℕ) → 0 < p → Form p minus square back → ((t + multiple p minus t) / 4294967296) % p ≡ number_of p back t
reduces p minus square back t pos f = divided ((t + multiple p minus t) / 4294967296) (t % 4294967296 * minus % 4294967296) (omega (arith, div-add-mod (t + multiple p minus t) 4294967296, whole p minus t f.minus_is))
  where
    divided : (u m : ℕ) → u * 4294967296 ≡ t + m * p → u % p ≡ (t * back) % p
    divided u m e =
        by_mod p pos (u ∷ m ∷ t ∷ back ∷ []) (times back e (search reads depth 9) (times ((p - 1) * u) f.back_is (search reads depth 9) none)) (search reads depth 9) done

pub of_sum : (p back a b : ℕ) → 0 < p → number_of p back ((a + b) % p) ≡ (number_of p back a + number_of p back b) % p
of_sum p back a b pos = by_mod p pos (a ∷ b ∷ back ∷ []) none (search reads depth 9) done

pub of_difference : (p back a b : ℕ) → 0 < p → b < p → number_of p back ((a + (p - b)) % p) ≡ (number_of p back a + (p - number_of p back b)) % p
of_difference p back a b pos lt = lesser (p - b) (p - number_of p back b) (omega arith) (omega (arith, mod-lt (b * back) pos))
  where
    lesser : (d e : ℕ) → d + b ≡ p → e + (b * back) % p ≡ p → ((a + d) % p * back) % p ≡ ((a * back) % p + e) % p
    lesser d e h g =
        by_mod p pos (a ∷ b ∷ d ∷ e ∷ back ∷ []) (times back h (search reads depth 9) (times (p - 1) g (search reads depth 9) none)) (search reads depth 9) done

pub of_product : (p back a b : ℕ) → 0 < p → number_of p back (number_of p back (a * b)) ≡ (number_of p back a * number_of p back b) % p
of_product p back a b pos = by_mod p pos (a ∷ b ∷ back ∷ []) none (search reads depth 9) done

-- the code of n, made by one reduction
pub of_number : (p minus square back n : ℕ) → 0 < p → Form p minus square back → number_of p back (number_of p back (n * square)) ≡ n % p
of_number p minus square back n pos f =
    by_mod p pos (n ∷ square ∷ back ∷ [])
    (times (n * back * back) f.square_is (search reads depth 9)
    (times (n * (back * 4294967296 + 1)) f.back_is (search reads depth 9) none))
    (search reads depth 9) done

-- two tests for zero that agree
pub same_test : (a b : ℕ) → (a ≡ 0 → b ≡ 0) → (b ≡ 0 → a ≡ 0) → eqb a 0 ≡ eqb b 0
same_test a b f g = grind (arith, nat_tests)
