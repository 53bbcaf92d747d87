-- 29 is an odd prime: none of 2 .. 5 divides it, and it is below 36.
use Rattle.std.specs.Prelude.{refl}
use Rattle.std.proofs.Common.{lit<}
use Rattle.field.specs.Laws.{OddPrime}
use Rattle.field.specs.Primes.{by_division}

pub prime_29 : OddPrime 29
prime_29 = by_division 29 4 (lit< tt) (lit< tt) tt refl (lit< tt)
