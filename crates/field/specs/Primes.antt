-- The primes that are served, each by trial division: none of 2 .. k + 1 divides p, and p is below (k + 2) * (k + 2).
use Rattle.std.specs.Prelude.{◌≡◌, ℕ, ◌+◌, ◌*◌, ◌%◌, ◌<◌, T, refl}
use Rattle.std.proofs.Common.{lit<}
use Rattle.arith.proofs.Trial.{none, by_trial}
use Rattle.field.specs.Laws.{OddPrime}

pub by_division : (p k : ℕ) → 1 < p → p < (k + 2) * (k + 2) → T (none p k) → p % 2 ≡ 1 → p < 4294967296 → OddPrime p
by_division p k one square t o s = record { prime = by_trial p k one square t; odd = o; small = s }

pub prime_3 : OddPrime 3
prime_3 = by_division 3 0 (lit< tt) (lit< tt) tt refl (lit< tt)

pub prime_7 : OddPrime 7
prime_7 = by_division 7 1 (lit< tt) (lit< tt) tt refl (lit< tt)

pub prime_101 : OddPrime 101
prime_101 = by_division 101 9 (lit< tt) (lit< tt) tt refl (lit< tt)

pub prime_2013265921 : OddPrime 2013265921
prime_2013265921 = by_division 2013265921 44868 (lit< tt) (lit< tt) tt refl (lit< tt)

pub prime_4294967291 : OddPrime 4294967291
prime_4294967291 = by_division 4294967291 65534 (lit< tt) (lit< tt) tt refl (lit< tt)
