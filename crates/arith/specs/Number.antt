-- Primes, what holds modulo a prime, and signed numbers read modulo a number.
use Rattle.std.specs.Prelude.{◌≡◌, ◌⊎◌, ℕ, ◌-◌, ◌*◌, ◌%◌, ◌<◌, ℤ, pos, negsuc}

-- a prime is above 1 and has no divisor between 1 and itself
abbrev pub Prime : ℕ → Type 0
Prime p = (1 < p) × ((d : ℕ) → 1 < d → d < p → p % d ≡ 0 → ⊥)

-- a product is zero modulo p only if one of its factors is
abbrev pub ZeroFactor : ℕ → Type 0
ZeroFactor p = (a b : ℕ) → (a * b) % p ≡ 0 → (a % p ≡ 0) ⊎ (b % p ≡ 0)

-- each number from 1 below p has an inverse below p modulo p
abbrev pub HasInverses : ℕ → Type 0
HasInverses p = (a : ℕ) → 0 < a → a < p → (x : ℕ) × (x < p) × ((a * x) % p ≡ 1)

-- the number below p that a signed number is modulo p
abbrev pub residue : ℕ → ℤ → ℕ
residue p (pos n) = n % p
residue p (negsuc n) = p - 1 - n % p
