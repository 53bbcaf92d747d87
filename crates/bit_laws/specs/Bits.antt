-- The numbers that an assignment gives to bits, and which bits are there.
use Rattle.std.specs.Prelude.{◌≡◌, ◌≢◌, ℕ, ◌+◌, ◌*◌, ◌≤◌, Bool, true, false, not, cond, List, [], ◌∷◌, map, Some, None, Option, ◌==◌}
use Rattle.relations.specs.declared.term.Variable.{Variable}
use Rattle.relations.specs.declared.term.Variable.TheVariants.{One, Zero, Input, Witness, Combination}
use Rattle.boolean.specs.declared.mode.AllocationMode.{AllocationMode}
use Rattle.boolean.specs.declared.mode.AllocationMode.TheVariants.{Constant as as_constant, Input as as_input, Witness as as_witness}
use Rattle.boolean.specs.declared.bits.Boolean.{Boolean}
use Rattle.boolean.specs.declared.bits.Boolean.TheVariants.{Constant, Var}
use Rattle.allocated.specs.Gates.{bit, truth}
use Rattle.gates.specs.declared.wide.Wide.{Wide}
use Rattle.gates.specs.declared.wide.Wide.TheVariants.{And}
use Rattle.gates.specs.Kary.{joined}
use Rattle.laws.specs.Law.{There}
use Rattle.laws.specs.History.{Each}

-- the number that an assignment ρ gives to a bit
abbrev pub bit_number_of : (Variable → ℕ) → Boolean → ℕ
bit_number_of ρ (Constant b) = bit b
bit_number_of ρ (Var a) = ρ a.variable

-- a constant is the value that the tape gives
abbrev pub Valued : AllocationMode → Option Bool → ℕ → Type 0
Valued as_constant None r = Unit {0}
Valued as_constant (Some b) r = r ≡ bit b
Valued as_input o r = Unit {0}
Valued as_witness o r = Unit {0}

-- what a bit names is there
abbrev pub ThereBit : There → Boolean → Type 0
ThereBit h (Constant b) = Unit {0}
ThereBit h (Var a) = h a.variable ≡ true

-- an input, a witness or a combination
abbrev pub real : Variable → Bool
real One = false
real Zero = false
real (Input i) = true
real (Witness i) = true
real (Combination c) = true

-- a bit is a constant, or names one of these
abbrev pub RealBit : Boolean → Type 0
RealBit (Constant b) = Unit {0}
RealBit (Var a) = real a.variable ≡ true

-- ---- what some gates make of numbers
-- 1 where two numbers are equal
abbrev pub equality : ℕ × ℕ → ℕ
equality x = bit (x.0 == x.1)

-- 1 where they differ
abbrev pub inequality : ℕ × ℕ → ℕ
inequality x = bit (not (x.0 == x.1))

-- the second of three where the first is 1, else the third
abbrev pub picked : ℕ × ℕ × ℕ → ℕ
picked x = cond (truth x.0) x.1 x.2

-- ---- what statements say, where the last of three is the condition
-- where it is 1, the others are equal
abbrev pub EqualIf : ℕ × ℕ × ℕ → Type 0
EqualIf x = x.2 ≡ 1 → x.0 ≡ x.1

-- where it is 1, they differ
abbrev pub UnequalIf : ℕ × ℕ × ℕ → Type 0
UnequalIf x = x.2 ≡ 1 → x.0 ≢ x.1

-- three bits
abbrev pub Three : ℕ × ℕ × ℕ → Type 0
Three x = (x.0 ≤ 1) × (x.1 ≤ 1) × (x.2 ≤ 1)

-- ---- lists of bits
-- each is 0 or 1
abbrev pub AllBits : List ℕ → Type 0
AllBits xs = Each (λ x. x ≤ 1) xs

-- their truth values
abbrev pub truths : List ℕ → List Bool
truths xs = map truth xs

-- the number of a gate of many bits
abbrev pub joined_bit : Wide → List ℕ → ℕ
joined_bit g xs = bit (joined g (truths xs))

-- not all are one
abbrev pub NotAll : List ℕ → Type 0
NotAll xs = joined And (truths xs) ≡ false

-- the number that bits spell, the lowest first
abbrev pub spelled : List ℕ → ℕ
spelled [] = 0
spelled (x ∷ xs) = x + 2 * spelled xs
