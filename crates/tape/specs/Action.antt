-- What a command asks for, its operands looked up.
use Rattle.std.specs.Prelude.{ℕ, Bool, true, List, [], ◌∷◌}
use Rattle.relations.specs.Script.{Script, answer}
use Rattle.boolean.specs.declared.bits.BooleanCall.TheVariants.{Allocate, Not as NotCall, Gated as GatedCall, Equality, Choice}
use Rattle.boolean.specs.declared.bits.BooleanStatement.TheVariants.{Equal as EqualStatement, Unequal as UnequalStatement}
use Rattle.boolean.specs.Booleans.{call_script, statement_script}
use Rattle.boolean.specs.declared.bits.Boolean.{Boolean}
use Rattle.boolean.specs.declared.bits.BooleanStatement.{BooleanStatement}
use Rattle.fp_var.specs.declared.numbers.FpVar.{FpVar}
use Rattle.fp_var.specs.declared.numbers.FpCall.{FpCall}
use Rattle.fp_var.specs.declared.numbers.FpCall.TheVariants.{Allocate as AllocateNumber, Add as AddCall, Sub as SubCall, Mul as MulCall, Negate as NegateCall, Double as DoubleCall, Inverse as InverseCall, Select as SelectCall, FromBit as FromBitCall}
use Rattle.fp_var.specs.declared.numbers.FpQuestion.{FpQuestion}
use Rattle.fp_var.specs.declared.numbers.FpQuestion.TheVariants.{IsEq as IsEqQuestion, IsNeq as IsNeqQuestion}
use Rattle.fp_var.specs.declared.numbers.FpStatement.{FpStatement}
use Rattle.fp_var.specs.declared.numbers.FpStatement.TheVariants.{MulEquals as MulEqualsStatement, SquareEquals as SquareEqualsStatement, Equal as EqualNumbers, Unequal as UnequalNumbers}
use Rattle.fp_var.specs.Numbers.{call_script as number_call_script, question_script, statement_script as number_statement_script}
use Rattle.command.specs.declared.commands.Binary.{Binary}
use Rattle.command.specs.declared.commands.Binary.TheVariants.{Add, Sub, Mul}
use Rattle.command.specs.declared.commands.Unary.{Unary}
use Rattle.command.specs.declared.commands.Unary.TheVariants.{Negate, Double, Inverse}
use Rattle.command.specs.declared.commands.Comparison.{Comparison}
use Rattle.command.specs.declared.commands.Comparison.TheVariants.{IsEq, IsNeq}
use Rattle.gates.specs.Walk.{walk_script}
use Rattle.command.specs.declared.commands.Claim.{Claim}
use Rattle.command.specs.declared.commands.Claim.TheVariants.{Equal, Unequal}
use Rattle.command.specs.declared.commands.Command.{Command}
use Rattle.command.specs.declared.commands.Command.TheVariants.{Bit as BitCommand, Clone, Not, Gated, Kary as KaryCommand, IsEqual, Select, Enforce, AtMost, Number as NumberCommand, Binary as BinaryCommand, Unary as UnaryCommand, MulEquals, SquareEquals, Compare, EnforceNumbers, SelectNumber, FromBit}
use Rattle.command.specs.declared.answers.Answer.{Answer}
use Rattle.command.specs.Decide.{short}
use Rattle.command.specs.Answers.{mode_of, value_of, element_of, number_of, answer_at, bit_at, number_at, bits_at, one_bit, one_number, no_answer, kary_steps}
use Rattle.tape.specs.declared.action.Action.{Action}
use Rattle.tape.specs.declared.action.Action.TheVariants.{Alias, Bits, Claim as Claims, Kary as KaryAction, AtMost as AtMostAction, Numbers, Question, NumberClaim as NumberClaims}

-- the statement that a command makes of two bits
abbrev pub bit_claim : Claim → Boolean → Boolean → Boolean → BooleanStatement
bit_claim Equal a b c = EqualStatement a b c
bit_claim Unequal a b c = UnequalStatement a b c

-- and of two numbers
abbrev pub number_claim : Claim → FpVar → FpVar → Boolean → FpStatement
number_claim Equal a b c = EqualNumbers a b c
number_claim Unequal a b c = UnequalNumbers a b c

-- the calls of commands on two numbers
abbrev pub binary_call : Binary → FpVar → FpVar → FpCall
binary_call Add a b = AddCall a b
binary_call Sub a b = SubCall a b
binary_call Mul a b = MulCall a b

-- and on one
abbrev pub unary_call : Unary → FpVar → FpCall
unary_call Negate a = NegateCall a
unary_call Double a = DoubleCall a
unary_call Inverse a = InverseCall a

-- the question of a command on two numbers
abbrev pub comparison_of : Comparison → FpVar → FpVar → FpQuestion
comparison_of IsEq a b = IsEqQuestion a b
comparison_of IsNeq a b = IsNeqQuestion a b

-- what a command asks for, its operands looked up in a book
abbrev pub action : ℕ → Command → List Answer → Action
action p (BitCommand mode value) book = Bits (Allocate (mode_of mode) (value_of value))
action p (Clone a) book = Alias (answer_at book a)
action p (Not a) book = Bits (NotCall (bit_at book a))
action p (Gated g a b) book = Bits (GatedCall g (bit_at book a) (bit_at book b))
action p (KaryCommand k r) book = KaryAction k r
action p (IsEqual a b) book = Bits (Equality (bit_at book a) (bit_at book b))
action p (Select c a b) book = Bits (Choice (bit_at book c) (bit_at book a) (bit_at book b))
action p (Enforce e a b c) book = Claims (bit_claim e (bit_at book a) (bit_at book b) (bit_at book c))
action p (AtMost r e) book = AtMostAction r (element_of e)
action p (NumberCommand mode there value) book = Numbers (AllocateNumber (mode_of mode) (number_of p there value))
action p (BinaryCommand o a b) book = Numbers (binary_call o (number_at book a) (number_at book b))
action p (UnaryCommand o a) book = Numbers (unary_call o (number_at book a))
action p (MulEquals a b c) book = NumberClaims (MulEqualsStatement (number_at book a) (number_at book b) (number_at book c))
action p (SquareEquals a b) book = NumberClaims (SquareEqualsStatement (number_at book a) (number_at book b))
action p (Compare o a b) book = Question (comparison_of o (number_at book a) (number_at book b))
action p (EnforceNumbers e a b c) book = NumberClaims (number_claim e (number_at book a) (number_at book b) (bit_at book c))
action p (SelectNumber c a b) book = Numbers (SelectCall (bit_at book c) (number_at book a) (number_at book b))
action p (FromBit a) book = Numbers (FromBitCall (bit_at book a))

-- a range is not too long
abbrev pub short_enough : Action → Bool
short_enough (Alias x) = true
short_enough (Bits c) = true
short_enough (Claims s) = true
short_enough (KaryAction k r) = short r
short_enough (AtMostAction r e) = short r
short_enough (Numbers c) = true
short_enough (Question q) = true
short_enough (NumberClaims s) = true

-- its steps on a book, and the answers that they come to
abbrev pub action_script : ℕ → Action → List Answer → Script (List Answer)
action_script p (Alias x) book = answer (x ∷ [])
action_script p (Bits c) book = one_bit (call_script p c)
action_script p (Claims s) book = no_answer (statement_script p s)
action_script p (KaryAction k r) book = kary_steps k p (bits_at book r)
action_script p (AtMostAction r e) book = no_answer (walk_script p (bits_at book r) e)
action_script p (Numbers c) book = one_number (number_call_script p c)
action_script p (Question q) book = one_bit (question_script p q)
action_script p (NumberClaims s) book = no_answer (number_statement_script p s)
