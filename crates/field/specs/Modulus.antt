-- Two numbers that a modulus determines.
use Rattle.std.specs.Prelude.{ℕ, ◌-◌, ◌/◌}
use Rattle.std.specs.Int.{leading_zeros}
use mir.Syntax.{w32}

-- how many bits a number below 2 ^ 32 has in binary: all but the zeros at the top
unfoldable pub bit_length : ℕ → ℕ
bit_length p = 32 - leading_zeros w32 p

-- half of the way to p
abbrev pub half_of : ℕ → ℕ
half_of p = (p - 1) / 2
