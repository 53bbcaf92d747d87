-- Answers of the book, and what a command's steps are on a book.
use Rattle.std.specs.Prelude.{ℕ, ℤ, zero, suc, ◌+◌, ◌%◌, ◌^◌, Bool, true, false, cond, List, [], ◌∷◌, map, Some, None, Option, ◌==◌, slice_index_or}
use Rattle.relations.specs.Script.{Script, answer, then}
use Rattle.boolean.specs.declared.mode.AllocationMode.{AllocationMode}
use Rattle.boolean.specs.declared.mode.AllocationMode.TheVariants.{Constant as as_constant, Input as as_input, Witness as as_witness}
use Rattle.boolean.specs.declared.bits.Boolean.{Boolean}
use Rattle.boolean.specs.declared.bits.Boolean.TheVariants.{Constant}
use Rattle.boolean.specs.Booleans.{alloc_script, not_script, gated_script, is_eq_script, select_script, equal_script, unequal_script}
use Rattle.arith.specs.Number.{residue}
use Rattle.fp_var.specs.declared.numbers.FpVar.{FpVar}
use Rattle.fp_var.specs.declared.numbers.FpVar.TheVariants.{Constant as constant_number}
use Rattle.fp_var.specs.Numbers.{add_script, sub_script, mul_script, negate_script, double_script, inverse_script, of_bit_script, mul_equals_script, square_equals_script, alloc_script as number_script, is_eq_script as numbers_is_eq_script, is_neq_script as numbers_is_neq_script, equal_script as numbers_equal_script, unequal_script as numbers_unequal_script, select_script as number_select_script}
use Rattle.gates.specs.declared.wide.Wide.TheVariants.{And as all, Or as some}
use Rattle.gates.specs.Kary.{kary_script, nand_script, enforce_nand_script}
use Rattle.gates.specs.Walk.{walk_script}
use Rattle.command.specs.declared.commands.Kind.{Kind}
use Rattle.command.specs.declared.commands.Kind.TheVariants.{Bit as a_bit, Number as a_number}
use Rattle.command.specs.declared.commands.Range.{Range}
use Rattle.command.specs.declared.commands.Kary.{Kary}
use Rattle.command.specs.declared.commands.Kary.TheVariants.{And, Or, Nand, EnforceNand}
use Rattle.command.specs.declared.commands.Claim.{Claim}
use Rattle.command.specs.declared.commands.Claim.TheVariants.{Equal, Unequal}
use Rattle.command.specs.declared.commands.Command.{Command}
use Rattle.command.specs.declared.commands.Command.TheVariants.{Bit as BitCommand, Clone, Not, Gated, Kary as KaryCommand, IsEqual, Select, Enforce, AtMost, Number as NumberCommand, Binary as BinaryCommand, Unary as UnaryCommand, MulEquals, SquareEquals, Compare, EnforceNumbers, SelectNumber, FromBit}
use Rattle.command.specs.declared.commands.Binary.{Binary}
use Rattle.command.specs.declared.commands.Binary.TheVariants.{Add, Sub, Mul}
use Rattle.command.specs.declared.commands.Unary.{Unary}
use Rattle.command.specs.declared.commands.Unary.TheVariants.{Negate, Double, Inverse}
use Rattle.command.specs.declared.commands.Comparison.{Comparison}
use Rattle.command.specs.declared.commands.Comparison.TheVariants.{IsEq, IsNeq}
use Rattle.command.specs.declared.answers.Answer.{Answer}
use Rattle.command.specs.declared.answers.Answer.TheVariants.{Bit, Number}

-- what an answer is: a bit or a number
abbrev pub kind_of : Answer → Kind
kind_of (Bit b) = a_bit
kind_of (Number x) = a_number

-- the kinds of a book's answers
abbrev pub kinds : List Answer → List Kind
kinds book = map kind_of book

-- the mode that a byte stands for: 0 constant, 1 input, 2 witness
abbrev pub mode_of : ℕ → AllocationMode
mode_of m = cond (m == 0) as_constant (cond (m == 1) as_input as_witness)

-- the truth value that a byte stands for: 0 and 1, and none else
abbrev pub value_of : ℕ → Option Bool
value_of v = cond (v == 0) (Some false) (cond (v == 1) (Some true) None)

-- a number of the tape modulo p, where the byte before it says that it is there
abbrev pub number_of : ℕ → ℕ → ℤ → Option ℕ
number_of p t v = cond (t == 0) None (Some (residue p v))

-- a bound is a number of 64 bits
abbrev pub element_of : ℕ → ℕ
element_of e = e % 2 ^ 64

-- an answer of the book; a book that has no such answer stands for a constant, which no accepted command reads
abbrev pub answer_at : List Answer → ℕ → Answer
answer_at book a = slice_index_or book a (Bit (Constant false))

-- as a bit: a number stands for a constant, which no accepted command reads as a bit
abbrev pub as_bit : Answer → Boolean
as_bit (Bit b) = b
as_bit (Number x) = Constant false

-- as a number: a bit stands for a constant, which no accepted command reads as a number
abbrev pub as_number : Answer → FpVar
as_number (Bit b) = constant_number 0
as_number (Number x) = x

-- the bit with a number
abbrev pub bit_at : List Answer → ℕ → Boolean
bit_at book a = as_bit (answer_at book a)

-- the number of the circuit with a number
abbrev pub number_at : List Answer → ℕ → FpVar
number_at book a = as_number (answer_at book a)

-- the bits of so many answers from one on
abbrev pub bits_from : List Answer → ℕ → ℕ → List Boolean
bits_from book a zero = []
bits_from book a (suc k) = bit_at book a ∷ bits_from book (a + 1) k

-- the bits of a range
abbrev pub bits_at : List Answer → Range → List Boolean
bits_at book r = bits_from book r.first r.count

-- ---- steps, and the answers that they come to: a bit, a number, or none
-- steps that come to a bit, as steps that come to one answer
abbrev pub one_bit : Script Boolean → Script (List Answer)
one_bit s = then s (λ b. answer (Bit b ∷ []))

-- the same of a number
abbrev pub one_number : Script FpVar → Script (List Answer)
one_number s = then s (λ x. answer (Number x ∷ []))

-- the same of a statement, which has no answer
abbrev pub no_answer : Script (Unit {0}) → Script (List Answer)
no_answer s = then s (λ u. answer [])

-- those of a command on any number of bits
abbrev pub kary_steps : Kary → ℕ → List Boolean → Script (List Answer)
kary_steps And p bs = one_bit (kary_script all p bs)
kary_steps Or p bs = one_bit (kary_script some p bs)
kary_steps Nand p bs = one_bit (nand_script p bs)
kary_steps EnforceNand p bs = no_answer (enforce_nand_script p bs)

-- those of a statement on two bits under a condition
abbrev pub claim_steps : Claim → ℕ → Boolean → Boolean → Boolean → Script (List Answer)
claim_steps Equal p a b c = no_answer (equal_script p a b c)
claim_steps Unequal p a b c = no_answer (unequal_script p a b c)

-- those of a command on two numbers
abbrev pub binary_steps : Binary → ℕ → FpVar → FpVar → Script (List Answer)
binary_steps Add p a b = one_number (add_script p a b)
binary_steps Sub p a b = one_number (sub_script p a b)
binary_steps Mul p a b = one_number (mul_script p a b)

-- those of a command on one number
abbrev pub unary_steps : Unary → ℕ → FpVar → Script (List Answer)
unary_steps Negate p a = one_number (negate_script p a)
unary_steps Double p a = one_number (double_script p a)
unary_steps Inverse p a = one_number (inverse_script p a)

-- those of a question on two numbers
abbrev pub comparison_steps : Comparison → ℕ → FpVar → FpVar → Script (List Answer)
comparison_steps IsEq p a b = one_bit (numbers_is_eq_script p a b)
comparison_steps IsNeq p a b = one_bit (numbers_is_neq_script p a b)

-- those of a statement on two numbers under a condition
abbrev pub number_claim_steps : Claim → ℕ → FpVar → FpVar → Boolean → Script (List Answer)
number_claim_steps Equal p a b c = no_answer (numbers_equal_script p a b c)
number_claim_steps Unequal p a b c = no_answer (numbers_unequal_script p a b c)

-- the steps of a command on a book
abbrev pub command_script : ℕ → Command → List Answer → Script (List Answer)
command_script p (BitCommand mode value) book = one_bit (alloc_script p (mode_of mode) (value_of value))
command_script p (Clone a) book = answer (answer_at book a ∷ [])
command_script p (Not a) book = one_bit (not_script p (bit_at book a))
command_script p (Gated g a b) book = one_bit (gated_script g p (bit_at book a) (bit_at book b))
command_script p (KaryCommand k r) book = kary_steps k p (bits_at book r)
command_script p (IsEqual a b) book = one_bit (is_eq_script p (bit_at book a) (bit_at book b))
command_script p (Select c a b) book = one_bit (select_script p (bit_at book c) (bit_at book a) (bit_at book b))
command_script p (Enforce e a b c) book = claim_steps e p (bit_at book a) (bit_at book b) (bit_at book c)
command_script p (AtMost r e) book = no_answer (walk_script p (bits_at book r) (element_of e))
command_script p (NumberCommand mode there value) book = one_number (number_script p (mode_of mode) (number_of p there value))
command_script p (BinaryCommand o a b) book = binary_steps o p (number_at book a) (number_at book b)
command_script p (UnaryCommand o a) book = unary_steps o p (number_at book a)
command_script p (MulEquals a b c) book = no_answer (mul_equals_script p (number_at book a) (number_at book b) (number_at book c))
command_script p (SquareEquals a b) book = no_answer (square_equals_script p (number_at book a) (number_at book b))
command_script p (Compare o a b) book = comparison_steps o p (number_at book a) (number_at book b)
command_script p (EnforceNumbers e a b c) book = number_claim_steps e p (number_at book a) (number_at book b) (bit_at book c)
command_script p (SelectNumber c a b) book = one_number (number_select_script p (bit_at book c) (number_at book a) (number_at book b))
command_script p (FromBit a) book = one_number (of_bit_script (bit_at book a))
