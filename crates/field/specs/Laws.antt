-- What holds of the elements of a field of a prime number of elements.
use Rattle.std.specs.Prelude.{◌≡◌, ℕ, ◌%◌, ◌<◌}
use Rattle.arith.specs.Number.{Prime, ZeroFactor}

-- an odd prime of at most 32 bits
pub record OddPrime (p : ℕ) : Type 0 where
  pub prime : Prime p
  pub odd : p % 2 ≡ 1
  pub small : p < 4294967296

pub record FieldLaws {F : Type 0} (modulus : ℕ) (number : F → ℕ) : Type 0 where
  -- the number of elements is an odd prime of at most 32 bits
  pub prime : Prime modulus
  pub odd : modulus % 2 ≡ 1
  pub small : modulus < 4294967296
  -- each element stands for a number below the prime, no two for one number, and each such number has its element
  pub below : (x : F) → number x < modulus
  pub same : (x y : F) → number x ≡ number y → x ≡ y
  pub has : (n : ℕ) → n < modulus → (x : F) × (number x ≡ n)
  -- a product is zero only if a factor is
  pub factor : ZeroFactor modulus
