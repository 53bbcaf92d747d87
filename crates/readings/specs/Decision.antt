-- How a command is decided: by its operands and the book's places, and then by its bill against the system's rooms.
use Rattle.std.specs.Prelude.{ℕ, Bool, true, false, List, [], ◌∷◌, Some, None, Ok, Err, Option, Result}
use Rattle.relations.specs.declared.fault.GadgetFault.{GadgetFault}
use Rattle.relations.specs.declared.fault.GadgetFault.TheVariants.{NoValue}
use Rattle.relations.specs.Meaning.{Meaning, assigned}
use Rattle.relations.specs.declared.term.Side.TheVariants.{Input as input, Witness as witness}
use Rattle.boolean.specs.declared.bits.Boolean.{Boolean}
use Rattle.boolean.specs.declared.mode.AllocationMode.{AllocationMode}
use Rattle.boolean.specs.declared.mode.AllocationMode.TheVariants.{Constant as as_constant, Input as as_input, Witness as as_witness}
use Rattle.command.specs.declared.commands.Kind.{Kind}
use Rattle.command.specs.declared.commands.Command.{Command}
use Rattle.command.specs.declared.commands.Command.TheVariants.{Bit as BitCommand, Clone, Not, Gated, Kary as KaryCommand, IsEqual, Select, Enforce, AtMost, Number as NumberCommand, Binary as BinaryCommand, Unary as UnaryCommand, MulEquals, SquareEquals, Compare, EnforceNumbers, SelectNumber, FromBit}
use Rattle.command.specs.declared.commands.Binary.{Binary}
use Rattle.command.specs.declared.commands.Binary.TheVariants.{Add, Sub, Mul}
use Rattle.command.specs.declared.commands.Unary.{Unary}
use Rattle.command.specs.declared.commands.Unary.TheVariants.{Negate, Double, Inverse}
use Rattle.command.specs.declared.commands.Comparison.{Comparison}
use Rattle.command.specs.declared.commands.Comparison.TheVariants.{IsEq, IsNeq}
use Rattle.command.specs.declared.commands.Kary.{Kary}
use Rattle.command.specs.declared.commands.Kary.TheVariants.{And, Or, Nand, EnforceNand}
use Rattle.command.specs.declared.commands.Claim.{Claim}
use Rattle.command.specs.declared.commands.Claim.TheVariants.{Equal, Unequal}
use Rattle.gates.specs.declared.wide.Wide.TheVariants.{And as all, Or as some}
use Rattle.command.specs.declared.answers.Answer.{Answer}
use Rattle.command.specs.declared.answers.Answer.TheVariants.{Bit, Number}
use Rattle.command.specs.declared.fault.TapeFault.{TapeFault}
use Rattle.command.specs.declared.fault.TapeFault.TheVariants.{Gadget}
use Rattle.command.specs.Decide.{checked}
use Rattle.command.specs.Answers.{kinds, mode_of, value_of, element_of, number_of as tape_number, bit_at, number_at, bits_at}
use Rattle.bit_laws.specs.Bits.{RealBit}
use Rattle.bit_laws.specs.Bills.{Due, owes, quits, shadow, shadows, same_name, not_due, gate_due, is_eq_due, select_due, equal_due, unequal_due, kary_due, nand_due, enforce_nand_due, walk_due}
use Rattle.laws.specs.Law.{Val}
use Rattle.fp_var.specs.declared.numbers.FpVar.{FpVar}
use Rattle.number_laws.specs.Numbers.{RealFp}
use Rattle.number_laws.specs.Bills.{number_shadow, same_number, alloc_due, add_due, sub_due, mul_due, negate_due, double_due, inverse_due, of_bit_due, select_due as number_select_due, is_eq_due as numbers_is_eq_due, is_neq_due as numbers_is_neq_due, mul_equals_due, square_equals_due, equal_due as numbers_equal_due, unequal_due as numbers_unequal_due, has_multiplier}
use Rattle.laws.specs.Bill.{Charge, takes_variable, takes_row, Account, settled}

-- ---- the bill of each command: what it asks of the rooms, in order
-- whether the tape gives a value
abbrev pub given : Option Bool → Bool
given None = false
given (Some b) = true

-- a new bit: a constant asks for nothing but its value; an input or a witness, and a row of three terms
abbrev pub new_due : AllocationMode → Option Bool → Due (Option Bool)
new_due as_constant None = quits NoValue
new_due as_constant (Some b) = owes [] (Some b)
new_due as_input o = owes (takes_variable input (given o) ∷ (takes_row 3 ∷ [])) None
new_due as_witness o = owes (takes_variable witness (given o) ∷ (takes_row 3 ∷ [])) None

-- a question or a statement on many bits
abbrev pub kary_charge : Kary → ℕ → List (Option Bool) → List Charge
kary_charge And p bs = (kary_due all p bs).0
kary_charge Or p bs = (kary_due some p bs).0
kary_charge Nand p bs = (nand_due p bs).0
kary_charge EnforceNand p bs = (enforce_nand_due p bs).0

-- a statement on two bits under a condition, by whether the two are one variable
abbrev pub claim_charge : Claim → Bool → Option Bool → Option Bool → Option Bool → List Charge
claim_charge Equal same a b c = (equal_due same a b c).0
claim_charge Unequal same a b c = (unequal_due same a b c).0

-- commands on numbers: which operands are constants, and which are one variable
abbrev pub binary_charge : ℕ → Binary → FpVar → FpVar → List Charge
binary_charge p Add a b = (add_due p (same_number a b) (number_shadow a) (number_shadow b)).0
binary_charge p Sub a b = (sub_due p (same_number a b) (number_shadow a) (number_shadow b)).0
binary_charge p Mul a b = (mul_due p (number_shadow a) (number_shadow b)).0

-- the same of one number
abbrev pub unary_charge : ℕ → Unary → Option ℕ → List Charge
unary_charge p Negate a = (negate_due p a).0
unary_charge p Double a = (double_due p a).0
unary_charge p Inverse a = (inverse_due p a).0

-- of a question on two numbers
abbrev pub compare_charge : ℕ → Comparison → FpVar → FpVar → List Charge
compare_charge p IsEq a b = (numbers_is_eq_due p (same_number a b) (number_shadow a) (number_shadow b)).0
compare_charge p IsNeq a b = (numbers_is_neq_due p (same_number a b) (number_shadow a) (number_shadow b)).0

-- of the statement that a product is a number
abbrev pub mul_equals_charge : ℕ → FpVar → FpVar → FpVar → List Charge
mul_equals_charge p a b c = (mul_equals_due p (same_number a c) (same_number b c) (number_shadow a) (number_shadow b) (number_shadow c)).0

-- and of a statement on two numbers under a condition
abbrev pub number_claim_charge : ℕ → Val → Claim → FpVar → FpVar → Boolean → List Charge
number_claim_charge p q Equal a b c = (numbers_equal_due p (same_number a b) (number_shadow a) (number_shadow b) (shadow c)).0
number_claim_charge p q Unequal a b c = (numbers_unequal_due p (same_number a b) (has_multiplier p q a b c) (number_shadow a) (number_shadow b) (shadow c)).0

-- the bill of a command: it goes by the constants among the operands, modulo p, by which of two operands are one variable, and by p itself. One goes
-- by the numbers q that are kept for the operands: that two numbers differ has no witness where they are equal under the condition 1
abbrev pub bill : ℕ → Val → Command → List Answer → List Charge
bill p q (BitCommand m v) book = (new_due (mode_of m) (value_of v)).0
bill p q (Clone a) book = []
bill p q (Not a) book = (not_due (shadow (bit_at book a))).0
bill p q (Gated g a b) book = (gate_due g (same_name (bit_at book a) (bit_at book b)) (shadow (bit_at book a)) (shadow (bit_at book b))).0
bill p q (KaryCommand k r) book = kary_charge k p (shadows (bits_at book r))
bill p q (IsEqual a b) book = (is_eq_due (same_name (bit_at book a) (bit_at book b)) (shadow (bit_at book a)) (shadow (bit_at book b))).0
bill p q (Select c a b) book = (select_due (same_name (bit_at book a) (bit_at book b)) (shadow (bit_at book c)) (shadow (bit_at book a)) (shadow (bit_at book b))).0
bill p q (Enforce e a b c) book = claim_charge e (same_name (bit_at book a) (bit_at book b)) (shadow (bit_at book a)) (shadow (bit_at book b)) (shadow (bit_at book c))
bill p q (AtMost r e) book = (walk_due p (shadows (bits_at book r)) (element_of e)).0
bill p q (NumberCommand m t v) book = (alloc_due p (mode_of m) (tape_number p t v)).0
bill p q (BinaryCommand o a b) book = binary_charge p o (number_at book a) (number_at book b)
bill p q (UnaryCommand o a) book = unary_charge p o (number_shadow (number_at book a))
bill p q (MulEquals a b c) book = mul_equals_charge p (number_at book a) (number_at book b) (number_at book c)
bill p q (SquareEquals a b) book = (square_equals_due p (number_shadow (number_at book a)) (number_shadow (number_at book b))).0
bill p q (Compare o a b) book = compare_charge p o (number_at book a) (number_at book b)
bill p q (EnforceNumbers e a b c) book = number_claim_charge p q e (number_at book a) (number_at book b) (bit_at book c)
bill p q (SelectNumber c a b) book = (number_select_due p (same_number (number_at book a) (number_at book b)) (shadow (bit_at book c)) (number_shadow (number_at book a)) (number_shadow (number_at book b))).0
bill p q (FromBit a) book = (of_bit_due (shadow (bit_at book a))).0

-- ---- the decision: the kinds of the answers, or the refusal
-- a bill that is paid: the answers are of the kinds that the check gave; else the refusal is the gadget's
abbrev pub by_bill : List Kind → Result Account GadgetFault → Result (List Kind) TapeFault
by_bill ks (Ok a) = Ok ks
by_bill ks (Err e) = Err (Gadget e)

-- a check that is passed: the bill decides, settled in the system; else the refusal is the check's
abbrev pub by_check : ℕ → Command → Meaning → List Answer → Result (List Kind) TapeFault → Result (List Kind) TapeFault
by_check p c m book (Ok ks) = by_bill ks (settled (bill p (assigned m) c book) m)
by_check p c m book (Err f) = Err f

-- what is decided of a command in a system with a book and so many places
abbrev pub decision : ℕ → Command → Meaning → List Answer → ℕ → Result (List Kind) TapeFault
decision p c m book places = by_check p c m book (checked c (kinds book) places)

-- an answer is a constant, or names an input, a witness or a combination
abbrev pub Real : Answer → Type 0
Real (Bit b) = RealBit b
Real (Number x) = RealFp x
