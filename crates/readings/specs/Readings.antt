-- The plain readings of the commands, over numbers alone.
use Rattle.std.specs.Prelude.{◌≡◌, ◌≢◌, ℕ, zero, suc, ◌+◌, ◌-◌, ◌*◌, ◌%◌, ◌<◌, ◌≤◌, not, cond, false, List, [], ◌∷◌, ◌==◌, slice_index}
use Rattle.relations.specs.declared.term.Variable.{Variable}
use Rattle.allocated.specs.Gates.{bit, truth, applied}
use Rattle.gates.specs.Kary.{all_of, any_of}
use Rattle.bit_laws.specs.Bits.{bit_number_of, Valued, ThereBit, truths, spelled}
use Rattle.command.specs.declared.commands.Range.{Range}
use Rattle.command.specs.declared.commands.Kary.{Kary}
use Rattle.command.specs.declared.commands.Kary.TheVariants.{And, Or, Nand, EnforceNand}
use Rattle.command.specs.declared.commands.Claim.{Claim}
use Rattle.command.specs.declared.commands.Claim.TheVariants.{Equal, Unequal}
use Rattle.command.specs.declared.commands.Command.{Command}
use Rattle.command.specs.declared.commands.Command.TheVariants.{Bit as BitCommand, Clone, Not, Gated, Kary as KaryCommand, IsEqual, Select, Enforce, AtMost, Number as NumberCommand, Binary as BinaryCommand, Unary as UnaryCommand, MulEquals, SquareEquals, Compare, EnforceNumbers, SelectNumber, FromBit}
use Rattle.command.specs.declared.commands.Binary.{Binary}
use Rattle.command.specs.declared.commands.Binary.TheVariants.{Add, Sub, Mul}
use Rattle.command.specs.declared.commands.Unary.{Unary}
use Rattle.command.specs.declared.commands.Unary.TheVariants.{Negate, Double, Inverse}
use Rattle.command.specs.declared.commands.Comparison.{Comparison}
use Rattle.command.specs.declared.commands.Comparison.TheVariants.{IsEq, IsNeq}
use Rattle.command.specs.declared.answers.Answer.{Answer}
use Rattle.command.specs.declared.answers.Answer.TheVariants.{Bit, Number}
use Rattle.command.specs.Answers.{mode_of, value_of, element_of, number_of as tape_number}
use Rattle.number_laws.specs.Numbers.{fp_number_of, ThereFp, NewFp, Inverts}
use Rattle.laws.specs.Law.{There, lists}
use Rattle.laws.proofs.Frame.{Only, Nothing}

-- ---- the numbers that an assignment ρ gives to answers
-- the number of one answer
abbrev pub number_of : (Variable → ℕ) → Answer → ℕ
number_of ρ (Bit b) = bit_number_of ρ b
number_of ρ (Number x) = fp_number_of ρ x

-- the numbers of a book's answers, oldest first
abbrev pub numbers_of : (Variable → ℕ) → List Answer → List ℕ
numbers_of ρ book = lists number_of ρ book

-- ---- operands
-- so many of the numbers from one on
abbrev pub numbers_from : List ℕ → ℕ → ℕ → List ℕ
numbers_from xs a zero = []
numbers_from xs a (suc k) = slice_index xs a ∷ numbers_from xs (a + 1) k

-- those of a range
abbrev pub numbers_at : List ℕ → Range → List ℕ
numbers_at xs r = numbers_from xs r.first r.count

-- ---- what a command says of the numbers so far and of its answers
-- all bits of a range are one, some are, or some are not; the statement has no answer
abbrev pub KaryReading : Kary → Range → List ℕ → List ℕ → Type 0
KaryReading And r xs ys = Only (λ zs y. y ≡ bit (all_of (truths (numbers_at zs r)))) xs ys
KaryReading Or r xs ys = Only (λ zs y. y ≡ bit (any_of (truths (numbers_at zs r)))) xs ys
KaryReading Nand r xs ys = Only (λ zs y. y ≡ bit (not (all_of (truths (numbers_at zs r))))) xs ys
KaryReading EnforceNand r xs ys = Nothing (λ zs. all_of (truths (numbers_at zs r)) ≡ false) xs ys

-- where the condition c is 1, two numbers are equal, or they differ
abbrev pub ClaimReading : Claim → ℕ → ℕ → ℕ → List ℕ → List ℕ → Type 0
ClaimReading Equal a b c xs ys = Nothing (λ zs. slice_index zs c ≡ 1 → slice_index zs a ≡ slice_index zs b) xs ys
ClaimReading Unequal a b c xs ys = Nothing (λ zs. slice_index zs c ≡ 1 → slice_index zs a ≢ slice_index zs b) xs ys

-- the sum, the difference or the product of two numbers, modulo p
abbrev pub BinaryReading : ℕ → Binary → ℕ → ℕ → List ℕ → List ℕ → Type 0
BinaryReading p Add a b xs ys = Only (λ zs y. y ≡ (slice_index zs a + slice_index zs b) % p) xs ys
BinaryReading p Sub a b xs ys = Only (λ zs y. y ≡ (slice_index zs a + (p - slice_index zs b)) % p) xs ys
BinaryReading p Mul a b xs ys = Only (λ zs y. y ≡ (slice_index zs a * slice_index zs b) % p) xs ys

-- minus a number or twice it, modulo p, or its inverse: the number below p whose product with it is 1
abbrev pub UnaryReading : ℕ → Unary → ℕ → List ℕ → List ℕ → Type 0
UnaryReading p Negate a xs ys = Only (λ zs y. y ≡ (p - slice_index zs a) % p) xs ys
UnaryReading p Double a xs ys = Only (λ zs y. y ≡ (2 * slice_index zs a) % p) xs ys
UnaryReading p Inverse a xs ys = Only (λ zs y. Inverts p (slice_index zs a) y) xs ys

-- whether two numbers are equal, or are not
abbrev pub CompareReading : Comparison → ℕ → ℕ → List ℕ → List ℕ → Type 0
CompareReading IsEq a b xs ys = Only (λ zs y. y ≡ bit (slice_index zs a == slice_index zs b)) xs ys
CompareReading IsNeq a b xs ys = Only (λ zs y. y ≡ bit (not (slice_index zs a == slice_index zs b))) xs ys

-- of the numbers so far, xs, and those of the answers, ys: a new bit is 0 or 1, a new number is below p, and a constant is the value that the tape gives; a
-- clone is its original; not, and, or and xor are truth tables; an equality is 1 exactly where two numbers are equal; a choice is the number that its
-- condition says; the bits under a bound spell at most that, the lowest first; a product and a square are modulo p; a bit is a number too
abbrev pub Reading : ℕ → Command → List ℕ → List ℕ → Type 0
Reading p (BitCommand mode value) xs ys = Only (λ zs y. (y ≤ 1) × Valued (mode_of mode) (value_of value) y) xs ys
Reading p (Clone a) xs ys = Only (λ zs y. y ≡ slice_index zs a) xs ys
Reading p (Not a) xs ys = Only (λ zs y. y ≡ bit (not (truth (slice_index zs a)))) xs ys
Reading p (Gated g a b) xs ys = Only (λ zs y. y ≡ bit (applied g (truth (slice_index zs a)) (truth (slice_index zs b)))) xs ys
Reading p (KaryCommand k r) xs ys = KaryReading k r xs ys
Reading p (IsEqual a b) xs ys = Only (λ zs y. y ≡ bit (slice_index zs a == slice_index zs b)) xs ys
Reading p (Select c a b) xs ys = Only (λ zs y. y ≡ cond (truth (slice_index zs c)) (slice_index zs a) (slice_index zs b)) xs ys
Reading p (Enforce e a b c) xs ys = ClaimReading e a b c xs ys
Reading p (AtMost r e) xs ys = Nothing (λ zs. spelled (numbers_at zs r) ≤ element_of e) xs ys
Reading p (NumberCommand mode there value) xs ys = Only (λ zs y. NewFp p (mode_of mode) (tape_number p there value) y) xs ys
Reading p (BinaryCommand o a b) xs ys = BinaryReading p o a b xs ys
Reading p (UnaryCommand o a) xs ys = UnaryReading p o a xs ys
Reading p (MulEquals a b c) xs ys = Nothing (λ zs. (slice_index zs a * slice_index zs b) % p ≡ slice_index zs c) xs ys
Reading p (SquareEquals a b) xs ys = Nothing (λ zs. (slice_index zs a * slice_index zs a) % p ≡ slice_index zs b) xs ys
Reading p (Compare o a b) xs ys = CompareReading o a b xs ys
Reading p (EnforceNumbers e a b c) xs ys = ClaimReading e a b c xs ys
Reading p (SelectNumber c a b) xs ys = Only (λ zs y. y ≡ cond (truth (slice_index zs c)) (slice_index zs a) (slice_index zs b)) xs ys
Reading p (FromBit a) xs ys = Only (λ zs y. y ≡ slice_index zs a) xs ys

-- a bit is 0 or 1, a number is below p
abbrev pub BoundedByKind : ℕ → Answer → ℕ → Type 0
BoundedByKind p (Bit b) x = x ≤ 1
BoundedByKind p (Number y) x = x < p

-- what an answer names is there
abbrev pub NamesThere : There → Answer → Type 0
NamesThere h (Bit b) = ThereBit h b
NamesThere h (Number x) = ThereFp h x
