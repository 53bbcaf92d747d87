-- What is to be shown of each command, in tables: what must be known of its operands, when it can be obeyed, and what its steps compute.
use Rattle.std.proofs.Common.{ℕ, ◌≤◌, not, List, [], ◌∷◌, get_or}
use Rattle.relations.specs.Meaning.{number}
use Rattle.allocated.specs.Gates.{bit, bit_number}
use Rattle.gates.specs.declared.wide.Wide.TheVariants.{And as all, Or as some}
use Rattle.gates.specs.Kary.{all_of}
use Rattle.command.specs.declared.commands.Kary.{Kary}
use Rattle.command.specs.declared.commands.Kary.TheVariants.{And, Or, Nand, EnforceNand}
use Rattle.command.specs.declared.commands.Claim.{Claim}
use Rattle.command.specs.declared.commands.Claim.TheVariants.{Equal, Unequal}
use Rattle.command.specs.declared.commands.Command.{Command}
use Rattle.command.specs.declared.commands.Command.TheVariants.{Bit as BitCommand, Clone, Not, Gated, Kary as KaryCommand, IsEqual, Select, Enforce, AtMost, Number as NumberCommand, Binary as BinaryCommand, Unary as UnaryCommand, MulEquals, SquareEquals, Compare, EnforceNumbers, SelectNumber, FromBit}
use Rattle.command.specs.declared.commands.Binary.{Binary}
use Rattle.command.specs.declared.commands.Binary.TheVariants.{Add, Sub, Mul}
use Rattle.command.specs.declared.commands.Unary.{Unary}
use Rattle.command.specs.declared.commands.Unary.TheVariants.{Negate, Double, Inverse}
use Rattle.command.specs.declared.commands.Comparison.{Comparison}
use Rattle.command.specs.declared.commands.Comparison.TheVariants.{IsEq, IsNeq}
use Rattle.fp.specs.Equality.{inverse}
use Rattle.number_laws.specs.Numbers.{Below, BothBelow, ThreeBelow, ChoiceBelow, GuardedBelow, sum, difference, negative, twice, multiplied, Invertible, ProductIs, SquareIs}
use Rattle.fp_var.specs.Numbers.{reduced}
use Rattle.command.specs.Decide.{fits, answers}
use Rattle.command.specs.Answers.{value_of, element_of, number_of as tape_number, command_script}
use Rattle.bit_laws.specs.Bits.{Three, AllBits, EqualIf, UnequalIf, NotAll, equality, inequality, picked, joined_bit, truths, spelled}
use Rattle.bit_laws.proofs.BitLaws.{flipped, tabled, Bits}
use Rattle.readings.specs.Readings.{numbers_at, Reading}
use Rattle.readings.specs.Decision.{bill}
use Rattle.readings.proofs.OnBook.{Served}

-- ---- what must be known of operands: those that are read are bits, or numbers below p
abbrev pub Pre : ℕ → Command → List ℕ → Type 0
Pre p (BitCommand m v) xs = Unit {0}
Pre p (Clone a) xs = Unit {0}
Pre p (Not a) xs = get_or xs a 0 ≤ 1
Pre p (Gated g a b) xs = Bits (get_or xs a 0, get_or xs b 0)
Pre p (KaryCommand k r) xs = AllBits (numbers_at xs r)
Pre p (IsEqual a b) xs = Bits (get_or xs a 0, get_or xs b 0)
Pre p (Select c a b) xs = Three (get_or xs c 0, get_or xs a 0, get_or xs b 0)
Pre p (Enforce e a b c) xs = Three (get_or xs a 0, get_or xs b 0, get_or xs c 0)
Pre p (AtMost r e) xs = AllBits (numbers_at xs r)
Pre p (NumberCommand m t v) xs = Unit {0}
Pre p (BinaryCommand o a b) xs = BothBelow p (get_or xs a 0, get_or xs b 0)
Pre p (UnaryCommand o a) xs = Below p (get_or xs a 0)
Pre p (MulEquals a b c) xs = ThreeBelow p (get_or xs a 0, get_or xs b 0, get_or xs c 0)
Pre p (SquareEquals a b) xs = BothBelow p (get_or xs a 0, get_or xs b 0)
Pre p (Compare o a b) xs = BothBelow p (get_or xs a 0, get_or xs b 0)
Pre p (EnforceNumbers e a b c) xs = GuardedBelow p (get_or xs a 0, get_or xs b 0, get_or xs c 0)
Pre p (SelectNumber c a b) xs = ChoiceBelow p (get_or xs c 0, get_or xs a 0, get_or xs b 0)
Pre p (FromBit a) xs = get_or xs a 0 ≤ 1

-- ---- for which operands a command can be obeyed
abbrev pub KarySolvable : Kary → List ℕ → Type 0
KarySolvable And xs = Unit {0}
KarySolvable Or xs = Unit {0}
KarySolvable Nand xs = Unit {0}
KarySolvable EnforceNand xs = NotAll xs

abbrev pub ClaimSolvable : Claim → ℕ × ℕ × ℕ → Type 0
ClaimSolvable Equal = EqualIf
ClaimSolvable Unequal = UnequalIf

abbrev pub UnarySolvable : ℕ → Unary → ℕ → Type 0
UnarySolvable p Negate x = Unit {0}
UnarySolvable p Double x = Unit {0}
UnarySolvable p Inverse x = Invertible x

abbrev pub Solvable : ℕ → Command → List ℕ → Type 0
Solvable p (BitCommand m v) xs = Unit {0}
Solvable p (Clone a) xs = Unit {0}
Solvable p (Not a) xs = Unit {0}
Solvable p (Gated g a b) xs = Unit {0}
Solvable p (KaryCommand k r) xs = KarySolvable k (numbers_at xs r)
Solvable p (IsEqual a b) xs = Unit {0}
Solvable p (Select c a b) xs = Unit {0}
Solvable p (Enforce e a b c) xs = ClaimSolvable e (get_or xs a 0, get_or xs b 0, get_or xs c 0)
Solvable p (AtMost r e) xs = spelled (numbers_at xs r) ≤ element_of e
Solvable p (NumberCommand m t v) xs = Unit {0}
Solvable p (BinaryCommand o a b) xs = Unit {0}
Solvable p (UnaryCommand o a) xs = UnarySolvable p o (get_or xs a 0)
Solvable p (MulEquals a b c) xs = ProductIs p (get_or xs a 0, get_or xs b 0, get_or xs c 0)
Solvable p (SquareEquals a b) xs = SquareIs p (get_or xs a 0, get_or xs b 0)
Solvable p (Compare o a b) xs = Unit {0}
Solvable p (EnforceNumbers e a b c) xs = ClaimSolvable e (get_or xs a 0, get_or xs b 0, get_or xs c 0)
Solvable p (SelectNumber c a b) xs = Unit {0}
Solvable p (FromBit a) xs = Unit {0}

-- ---- what its steps compute
abbrev pub kary_computed : Kary → List ℕ → List ℕ
kary_computed And xs = joined_bit all xs ∷ []
kary_computed Or xs = joined_bit some xs ∷ []
kary_computed Nand xs = bit (not (all_of (truths xs))) ∷ []
kary_computed EnforceNand xs = []

abbrev pub binary_computed : ℕ → Binary → ℕ × ℕ → ℕ
binary_computed p Add x = sum p x
binary_computed p Sub x = difference p x
binary_computed p Mul x = multiplied p x

abbrev pub unary_computed : ℕ → Unary → ℕ → ℕ
unary_computed p Negate x = negative p x
unary_computed p Double x = twice p x
unary_computed p Inverse x = inverse p x

abbrev pub comparison_computed : Comparison → ℕ × ℕ → ℕ
comparison_computed IsEq x = equality x
comparison_computed IsNeq x = inequality x

abbrev pub computed : ℕ → Command → List ℕ → List ℕ
computed p (BitCommand m v) xs = number (bit_number (value_of v)) ∷ []
computed p (Clone a) xs = get_or xs a 0 ∷ []
computed p (Not a) xs = flipped (get_or xs a 0) ∷ []
computed p (Gated g a b) xs = tabled g (get_or xs a 0, get_or xs b 0) ∷ []
computed p (KaryCommand k r) xs = kary_computed k (numbers_at xs r)
computed p (IsEqual a b) xs = equality (get_or xs a 0, get_or xs b 0) ∷ []
computed p (Select c a b) xs = picked (get_or xs c 0, get_or xs a 0, get_or xs b 0) ∷ []
computed p (Enforce e a b c) xs = []
computed p (AtMost r e) xs = []
computed p (NumberCommand m t v) xs = number (reduced p (tape_number p t v)) ∷ []
computed p (BinaryCommand o a b) xs = binary_computed p o (get_or xs a 0, get_or xs b 0) ∷ []
computed p (UnaryCommand o a) xs = unary_computed p o (get_or xs a 0) ∷ []
computed p (MulEquals a b c) xs = []
computed p (SquareEquals a b) xs = []
computed p (Compare o a b) xs = comparison_computed o (get_or xs a 0, get_or xs b 0) ∷ []
computed p (EnforceNumbers e a b c) xs = []
computed p (SelectNumber c a b) xs = picked (get_or xs c 0, get_or xs a 0, get_or xs b 0) ∷ []
computed p (FromBit a) xs = get_or xs a 0 ∷ []

-- what is shown of a command
abbrev pub Serves : ℕ → Command → Type 0
Serves p c = Served p (command_script p c) (fits c) (answers c) (Pre p c) (Reading p c) (Solvable p c) (computed p c) (λ q. bill p q c)
