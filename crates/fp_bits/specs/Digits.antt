-- Numbers and their binary digits, the lowest first.
use Rattle.std.specs.Prelude.{ℕ, zero, suc, ◌+◌, ◌*◌, ◌/◌, ◌%◌, Bool, List, [], ◌∷◌, map, ◌==◌}
use Rattle.allocated.specs.Gates.{bit}
use Rattle.boolean.specs.declared.bits.Boolean.{Boolean}
use Rattle.boolean.specs.declared.bits.Boolean.TheVariants.{Constant, Var}

-- the lowest k digits of a number
abbrev pub digits : ℕ → ℕ → List Bool
digits zero x = []
digits (suc k) x = (x % 2 == 1) ∷ digits k (x / 2)

-- the number that the digits spell
abbrev pub number_of_digits : List Bool → ℕ
number_of_digits [] = 0
number_of_digits (b ∷ bs) = bit b + 2 * number_of_digits bs

-- the digits of a constant
abbrev pub constant_bits : ℕ → ℕ → List Boolean
constant_bits k x = map Constant (digits k x)

-- the weight of the next digit modulo p
abbrev pub heavier : ℕ → ℕ → ℕ
heavier p w = (2 * w) % p

-- what the constants among some bits come to modulo p, where the first weighs w
abbrev pub constants_weight : ℕ → ℕ → List Boolean → ℕ
constants_weight p w [] = 0
constants_weight p w (Constant b ∷ bs) = (bit b * w + constants_weight p (heavier p w) bs) % p
constants_weight p w (Var a ∷ bs) = constants_weight p (heavier p w) bs

-- the weight of the first digit
abbrev pub first_weight : ℕ → ℕ
first_weight p = 1 % p
