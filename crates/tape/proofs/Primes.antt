-- An odd prime is above two.
use Rattle.std.proofs.Common.{◌≡◌, ℕ, ◌%◌, ◌<◌, arith}
use Rattle.arith.specs.Number.{Prime}

pub above_two : (p : ℕ) → Prime p → p % 2 ≡ 1 → 2 < p
above_two p P odd = let h = P.0 in omega arith
