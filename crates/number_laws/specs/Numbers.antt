-- The numbers that an assignment gives to the operands of calls on numbers, which of them are there, and what the calls make of them.
use Rattle.std.specs.Prelude.{◌≡◌, ◌≢◌, ℕ, ◌+◌, ◌-◌, ◌*◌, ◌%◌, ◌<◌, ◌≤◌, true, Some, None, Option}
use Rattle.boolean.specs.declared.mode.AllocationMode.{AllocationMode}
use Rattle.boolean.specs.declared.mode.AllocationMode.TheVariants.{Constant as as_constant, Input as as_input, Witness as as_witness}
use Rattle.boolean.specs.declared.bits.Boolean.{Boolean}
use Rattle.fp_var.specs.declared.numbers.FpVar.{FpVar}
use Rattle.fp_var.specs.declared.numbers.FpVar.TheVariants.{Constant, Var}
use Rattle.laws.specs.Law.{Val, There}
use Rattle.bit_laws.specs.Bits.{bit_number_of, ThereBit, real}

-- ---- one number
-- the number that an assignment ρ gives to an operand: a constant is itself. A call reads a constant modulo p; those of a book are below p, since every
-- script that answers a constant answers one below p
abbrev pub fp_number_of : Val → FpVar → ℕ
fp_number_of ρ (Constant c) = c
fp_number_of ρ (Var a) = ρ a.variable

-- what a number names is there
abbrev pub ThereFp : There → FpVar → Type 0
ThereFp h (Constant c) = Unit {0}
ThereFp h (Var a) = h a.variable ≡ true

-- a number is a constant, or names an input, a witness or a combination
abbrev pub RealFp : FpVar → Type 0
RealFp (Constant c) = Unit {0}
RealFp (Var a) = real a.variable ≡ true

-- x is a number modulo p
abbrev pub Below : ℕ → ℕ → Type 0
Below p x = x < p

-- ---- several operands
-- the numbers of two operands
abbrev pub pair_fp : Val → FpVar × FpVar → ℕ × ℕ
pair_fp ρ i = (fp_number_of ρ i.0, fp_number_of ρ i.1)

-- those of three
abbrev pub triple_fp : Val → FpVar × FpVar × FpVar → ℕ × ℕ × ℕ
triple_fp ρ i = (fp_number_of ρ i.0, fp_number_of ρ i.1, fp_number_of ρ i.2)

-- those of a bit and of the two numbers of which it chooses one
abbrev pub choice_fp : Val → Boolean × FpVar × FpVar → ℕ × ℕ × ℕ
choice_fp ρ i = (bit_number_of ρ i.0, fp_number_of ρ i.1, fp_number_of ρ i.2)

-- those of two numbers and of the condition under which something is said of them
abbrev pub guarded_fp : Val → FpVar × FpVar × Boolean → ℕ × ℕ × ℕ
guarded_fp ρ i = (fp_number_of ρ i.0, fp_number_of ρ i.1, bit_number_of ρ i.2)

-- what two operands name is there
abbrev pub TherePair : There → FpVar × FpVar → Type 0
TherePair h i = ThereFp h i.0 × ThereFp h i.1

-- what three name is there
abbrev pub ThereTriple : There → FpVar × FpVar × FpVar → Type 0
ThereTriple h i = ThereFp h i.0 × ThereFp h i.1 × ThereFp h i.2

-- what a bit and two numbers name is there
abbrev pub ThereChoice : There → Boolean × FpVar × FpVar → Type 0
ThereChoice h i = ThereBit h i.0 × ThereFp h i.1 × ThereFp h i.2

-- what two numbers and a condition name is there
abbrev pub ThereGuarded : There → FpVar × FpVar × Boolean → Type 0
ThereGuarded h i = ThereFp h i.0 × ThereFp h i.1 × ThereBit h i.2

-- two numbers modulo p
abbrev pub BothBelow : ℕ → ℕ × ℕ → Type 0
BothBelow p x = Below p x.0 × Below p x.1

-- three numbers modulo p
abbrev pub ThreeBelow : ℕ → ℕ × ℕ × ℕ → Type 0
ThreeBelow p x = Below p x.0 × Below p x.1 × Below p x.2

-- a bit and two numbers modulo p
abbrev pub ChoiceBelow : ℕ → ℕ × ℕ × ℕ → Type 0
ChoiceBelow p x = (x.0 ≤ 1) × Below p x.1 × Below p x.2

-- two numbers modulo p and a bit
abbrev pub GuardedBelow : ℕ → ℕ × ℕ × ℕ → Type 0
GuardedBelow p x = Below p x.0 × Below p x.1 × (x.2 ≤ 1)

-- ---- what the calls make of numbers
-- the sum of two numbers modulo p
abbrev pub sum : ℕ → ℕ × ℕ → ℕ
sum p x = (x.0 + x.1) % p

-- the first less the second
abbrev pub difference : ℕ → ℕ × ℕ → ℕ
difference p x = (x.0 + (p - x.1)) % p

-- minus a number
abbrev pub negative : ℕ → ℕ → ℕ
negative p x = (p - x) % p

-- twice a number
abbrev pub twice : ℕ → ℕ → ℕ
twice p x = (2 * x) % p

-- the product of two numbers modulo p
abbrev pub multiplied : ℕ → ℕ × ℕ → ℕ
multiplied p x = (x.0 * x.1) % p

-- ---- what the calls say of numbers
-- y is the inverse of x
abbrev pub Inverts : ℕ → ℕ → ℕ → Type 0
Inverts p x y = ((x * y) % p ≡ 1) × Below p y

-- a number modulo a prime has an inverse where it is not 0
abbrev pub Invertible : ℕ → Type 0
Invertible x = x ≢ 0

-- a new number is the one that was given, modulo p, where it is a constant
abbrev pub Assigned : ℕ → AllocationMode → Option ℕ → ℕ → Type 0
Assigned p as_constant None y = Unit {0}
Assigned p as_constant (Some x) y = y ≡ x % p
Assigned p as_input o y = Unit {0}
Assigned p as_witness o y = Unit {0}

-- a new number: it is below p, and the one that was given where it is a constant
abbrev pub NewFp : ℕ → AllocationMode → Option ℕ → ℕ → Type 0
NewFp p mode o y = Below p y × Assigned p mode o y

-- the product of the first two of three numbers is the third
abbrev pub ProductIs : ℕ → ℕ × ℕ × ℕ → Type 0
ProductIs p x = (x.0 * x.1) % p ≡ x.2

-- the square of the first of two numbers is the second
abbrev pub SquareIs : ℕ → ℕ × ℕ → Type 0
SquareIs p x = (x.0 * x.0) % p ≡ x.1
