-- Montgomery's form of the numbers modulo a prime, with 2 ^ 32.
use Rattle.std.specs.Prelude.{◌≡◌, ℕ, ◌+◌, ◌*◌, ◌%◌, ◌<◌}

-- the code of a number modulo p
abbrev pub code_of : ℕ → ℕ → ℕ
code_of p number = (number * 4294967296) % p

-- the number that a code stands for, where `back` is the inverse of 2 ^ 32 modulo p
abbrev pub number_of : ℕ → ℕ → ℕ → ℕ
number_of p back code = (code * back) % p

-- what the form takes of p: sums of two codes have 32 bits, `minus` is the negative inverse of p modulo 2 ^ 32, `square` is 2 ^ 64 modulo p, and
-- `back` is the inverse of 2 ^ 32 modulo p
pub record Form (p minus square back : ℕ) : Type 0 where
  pub small : p < 2147483648
  pub minus_is : (minus * p + 1) % 4294967296 ≡ 0
  pub square_below : square < p
  pub square_is : square % p ≡ (4294967296 * 4294967296) % p
  pub back_is : (back * 4294967296) % p ≡ 1
