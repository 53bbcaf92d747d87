-- Numbers in binary, as lists of numbers 0 and 1, the lowest first; and what the calls on numbers' bits say.
use Rattle.std.specs.Prelude.{◌≡◌, ℕ, zero, suc, ◌/◌, ◌%◌, ◌<◌, ◌≤◌, Bool, true, false, List, [], ◌∷◌, length}
use Rattle.fp_var.specs.declared.numbers.FpVar.{FpVar}
use Rattle.fp_var.specs.declared.numbers.FpVar.TheVariants.{Constant, Var}
use Rattle.bit_laws.specs.Bits.{AllBits, spelled}
use Rattle.field.specs.Modulus.{bit_length as prime_bits}

-- the lowest k binary digits of a number
abbrev pub lowest : ℕ → ℕ → List ℕ
lowest zero x = []
lowest (suc k) x = (x % 2) ∷ lowest k (x / 2)

-- k bits
abbrev pub ManyBits : ℕ → List ℕ → Type 0
ManyBits k xs = AllBits xs × (length xs ≡ k)

-- k bits spell x, or another number that is x modulo p
abbrev pub SplitsTo : ℕ → ℕ → ℕ → List ℕ → Type 0
SplitsTo p k x ys = ManyBits k ys × (spelled ys % p ≡ x)

-- k bits spell x
abbrev pub Spells : ℕ → ℕ → List ℕ → Type 0
Spells k x ys = ManyBits k ys × (spelled ys ≡ x)

-- whether a number is a constant
abbrev pub is_constant : FpVar → Bool
is_constant (Constant c) = true
is_constant (Var a) = false

-- k bits spell x where it is a constant, and else x or another number that is x modulo p
abbrev pub SplitsKnown : ℕ → ℕ → Bool → ℕ → List ℕ → Type 0
SplitsKnown p k constant x ys = SplitsTo p k x ys × (constant ≡ true → spelled ys ≡ x)

-- bits that are as many as the prime has spell a number below it, unless all are constants
abbrev pub BelowPrime : ℕ → Bool → List ℕ → Type 0
BelowPrime p constant xs = constant ≡ false → prime_bits p ≤ length xs → spelled xs < p
