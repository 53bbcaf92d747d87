-- The table of marked circuits: small circuits at the edges of the rules, each with what holds of it over the prime 7.
use Rattle.std.specs.Prelude.{ℕ, pos, negsuc, List, [], ◌∷◌, ◌++◌, replicate, codes}
use Rattle.relations.specs.declared.fault.GadgetFault.TheVariants.{System, TooManyMembers, NoValue, Unsatisfiable}
use Rattle.relations.specs.declared.fault.SystemFault.TheVariants.{MissingValue}
use Rattle.allocated.specs.declared.gate.Gate.TheVariants.{Xor}
use Rattle.command.specs.declared.commands.Command.{Command}
use Rattle.command.specs.declared.commands.Command.TheVariants.{Bit, Clone, Not, Gated, Kary, IsEqual, Select, Enforce, AtMost, Number, Binary, Unary, MulEquals, SquareEquals, Compare, EnforceNumbers, SelectNumber, FromBit}
use Rattle.command.specs.declared.commands.Binary.TheVariants.{Add, Sub, Mul}
use Rattle.command.specs.declared.commands.Unary.TheVariants.{Negate, Double, Inverse}
use Rattle.command.specs.declared.commands.Comparison.TheVariants.{IsEq, IsNeq}
use Rattle.command.specs.declared.commands.Kary.TheVariants.{And, Or, Nand, EnforceNand}
use Rattle.command.specs.declared.commands.Claim.TheVariants.{Equal, Unequal}
use Rattle.command.specs.declared.fault.TapeFault.TheVariants.{Gadget, Operand, Length}
use Rattle.command.specs.Tape.{ranged}
use Rattle.laws.specs.Bill.{Account}
use Rattle.marked.specs.Lines.{Line, line, line_by_keeping, passes, refuses, meets, allows, always, bars, adds_nothing, uses}

-- ---- commands that begin a circuit, and what it uses
-- a new witness bit, with the value t
abbrev pub witness : ℕ → Command
witness t = Bit 2 t

-- a constant bit
abbrev pub constant : ℕ → Command
constant t = Bit 0 t

-- so many witness bits of the value 1
abbrev pub witnesses : ℕ → List Command
witnesses n = replicate n (witness 1)

-- so many constants of the value t
abbrev pub constants : ℕ → ℕ → List Command
constants n t = replicate n (constant t)

-- a new witness number, with the value v
abbrev pub number : ℕ → Command
number v = Number 2 1 (pos v)

-- a constant number
abbrev pub constant_number : ℕ → Command
constant_number v = Number 0 1 (pos v)

-- so many witnesses, terms and rows, and no input
abbrev pub used_so : ℕ → ℕ → ℕ → Account
used_so w t r = record { inputs = 0; witnesses = w; terms = t; rows = r }

-- ---- gates of many bits
-- six members are fewer than 7
abbrev pub and_of_six : Line
and_of_six = line (codes "01 02 01 01 02 01 01 02 01 01 02 01 01 02 01 01 02 01 14 00 00 06") (witnesses 6 ++ (Kary And (ranged 0 6) ∷ [])) passes

-- seven are not: modulo 7 their sum is 0 where all are 1, and where none is
abbrev pub and_of_seven : Line
and_of_seven = line (codes "01 02 01 01 02 01 01 02 01 01 02 01 01 02 01 01 02 01 01 02 01 14 00 00 07") (witnesses 7 ++ (Kary And (ranged 0 7) ∷ [])) (refuses (Gadget TooManyMembers))

-- six members of or
abbrev pub or_of_six : Line
or_of_six = line (codes "01 02 01 01 02 01 01 02 01 01 02 01 01 02 01 01 02 01 15 00 00 06") (witnesses 6 ++ (Kary Or (ranged 0 6) ∷ [])) passes

-- seven members of or
abbrev pub or_of_seven : Line
or_of_seven = line (codes "01 02 01 01 02 01 01 02 01 01 02 01 01 02 01 01 02 01 01 02 01 15 00 00 07") (witnesses 7 ++ (Kary Or (ranged 0 7) ∷ [])) (refuses (Gadget TooManyMembers))

-- and eight, which are more than 7
abbrev pub or_of_eight : Line
or_of_eight = line (codes "01 02 01 01 02 01 01 02 01 01 02 01 01 02 01 01 02 01 01 02 01 01 02 01 15 00 00 08") (witnesses 8 ++ (Kary Or (ranged 0 8) ∷ [])) (refuses (Gadget TooManyMembers))

-- the question whether some of seven bits is 0
abbrev pub nand_of_seven : Line
nand_of_seven = line (codes "01 02 01 01 02 01 01 02 01 01 02 01 01 02 01 01 02 01 01 02 01 16 00 00 07") (witnesses 7 ++ (Kary Nand (ranged 0 7) ∷ [])) (refuses (Gadget TooManyMembers))

-- the statement that some of seven bits is 0
abbrev pub some_zero_of_seven : Line
some_zero_of_seven = line (codes "01 02 01 01 02 01 01 02 01 01 02 01 01 02 01 01 02 01 01 02 01 17 00 00 07") (witnesses 7 ++ (Kary EnforceNand (ranged 0 7) ∷ [])) (refuses (Gadget TooManyMembers))

-- members are counted before constants are folded
abbrev pub and_of_seven_constants : Line
and_of_seven_constants = line (codes "01 00 00 01 00 00 01 00 00 01 00 00 01 00 00 01 00 00 01 00 00 14 00 00 07") (constants 7 0 ++ (Kary And (ranged 0 7) ∷ [])) (refuses (Gadget TooManyMembers))

-- that all members are there is looked at first
abbrev pub and_of_one_that_is_not_there : Line
and_of_one_that_is_not_there = line (codes "01 02 01 01 02 01 01 02 01 01 02 01 01 02 01 01 02 01 14 00 00 07") (witnesses 6 ++ (Kary And (ranged 0 7) ∷ [])) (refuses Operand)

-- and then that there are members
abbrev pub and_of_none : Line
and_of_none = line (codes "14 00 00 00") (Kary And (ranged 0 0) ∷ []) (refuses Length)

-- six copies of one variable: their sum is 6 times its number
abbrev pub and_of_six_copies : Line
and_of_six_copies = line (codes "01 02 01 03 00 00 03 00 00 03 00 00 03 00 00 03 00 00 14 00 00 06") (witnesses 1 ++ (Clone 0 ∷ Clone 0 ∷ Clone 0 ∷ Clone 0 ∷ Clone 0 ∷ Kary And (ranged 0 6) ∷ [])) (allows ((0 ∷ 0 ∷ 0 ∷ 0 ∷ 0 ∷ 0 ∷ 0 ∷ []) ∷ (1 ∷ 1 ∷ 1 ∷ 1 ∷ 1 ∷ 1 ∷ 1 ∷ []) ∷ []))

-- three members are a chain: two witnesses and two rows more than the bits themselves have
abbrev pub chain_of_three : Line
chain_of_three = line (codes "01 02 01 01 02 01 01 02 01 14 00 00 03") (witnesses 3 ++ (Kary And (ranged 0 3) ∷ [])) (uses (used_so 5 15 5))

-- four are a sum that is compared: two witnesses and two rows more too, and seven combinations
abbrev pub sum_of_four : Line
sum_of_four = line (codes "01 02 01 01 02 01 01 02 01 01 02 01 14 00 00 04") (witnesses 4 ++ (Kary And (ranged 0 4) ∷ [])) (uses (used_so 6 40 6))

-- a statement that constants break
abbrev pub some_zero_of_ones : Line
some_zero_of_ones = line (codes "01 00 01 01 00 01 01 00 01 01 00 01 17 00 00 04") (constants 4 1 ++ (Kary EnforceNand (ranged 0 4) ∷ [])) (refuses (Gadget Unsatisfiable))

-- ---- two bits, and statements under a condition
-- a variable is equal to itself
abbrev pub equal_to_itself : Line
equal_to_itself = line (codes "01 02 01 18 00 00 00 00") (witnesses 1 ++ (IsEqual 0 0 ∷ [])) (always 1)

-- and does not differ from itself
abbrev pub xor_with_itself : Line
xor_with_itself = line (codes "01 02 01 13 00 00 00 00") (witnesses 1 ++ (Gated Xor 0 0 ∷ [])) (always 0)

-- where the condition is 0, two bits that are to differ may be equal
abbrev pub differ_where_the_condition_is_zero : Line
differ_where_the_condition_is_zero = line (codes "01 02 01 01 02 01 01 02 00 1B 00 00 01 00 02 00") (witnesses 2 ++ (witness 0 ∷ Enforce Unequal 0 1 2 ∷ [])) (meets (1 ∷ 1 ∷ 0 ∷ []))

-- a variable differs from itself only where the condition is 0
abbrev pub differ_from_itself : Line
differ_from_itself = line (codes "01 02 01 01 02 00 1B 00 00 00 00 01 00") (witnesses 1 ++ (witness 0 ∷ Enforce Unequal 0 0 1 ∷ [])) (allows ((0 ∷ 0 ∷ []) ∷ (1 ∷ 0 ∷ []) ∷ []))

-- and never where the condition is the constant 1
abbrev pub differ_from_itself_always : Line
differ_from_itself_always = line (codes "01 02 01 01 00 01 1B 00 00 00 00 01 00") (witnesses 1 ++ (constant 1 ∷ Enforce Unequal 0 0 1 ∷ [])) bars

-- two constants that are not equal leave the condition only the number 0
abbrev pub unequal_constants_under_a_variable : Line
unequal_constants_under_a_variable = line (codes "01 00 01 01 00 00 01 02 00 1A 00 00 01 00 02 00") (constants 1 1 ++ (constant 0 ∷ witness 0 ∷ Enforce Equal 0 1 2 ∷ [])) (allows ((1 ∷ 0 ∷ 0 ∷ []) ∷ []))

-- under the constant 1 they are refused
abbrev pub unequal_constants_under_one : Line
unequal_constants_under_one = line (codes "01 00 01 01 00 00 01 00 01 1A 00 00 01 00 02 00") (constants 1 1 ++ (constant 0 ∷ constant 1 ∷ Enforce Equal 0 1 2 ∷ [])) (refuses (Gadget Unsatisfiable))

-- under the constant 0 they say nothing
abbrev pub unequal_constants_under_zero : Line
unequal_constants_under_zero = line (codes "01 00 01 01 00 00 01 00 00 1A 00 00 01 00 02 00") (constants 1 1 ++ (constant 0 ∷ constant 0 ∷ Enforce Equal 0 1 2 ∷ [])) adds_nothing

-- two that are equal and are to differ do the same
abbrev pub equal_constants_under_a_variable : Line
equal_constants_under_a_variable = line (codes "01 00 01 01 00 01 01 02 00 1B 00 00 01 00 02 00") (constants 2 1 ++ (witness 0 ∷ Enforce Unequal 0 1 2 ∷ [])) (allows ((1 ∷ 1 ∷ 0 ∷ []) ∷ []))

-- a constant wants a value
abbrev pub constant_without_a_value : Line
constant_without_a_value = line (codes "01 00 02") (constant 2 ∷ []) (refuses (Gadget NoValue))

-- a variable wants one where values are kept
abbrev pub bit_without_a_value : Line
bit_without_a_value = line_by_keeping (codes "01 02 02") (witness 2 ∷ []) (refuses (Gadget (System MissingValue))) passes

-- ---- the bound on what bits spell
-- two bits, the lowest first, spell 0, 1 or 2, and not 3
abbrev pub at_most_two : Line
at_most_two = line (codes "01 02 01 01 02 01 34 00 00 02 02 00 00 00 00 00 00 00") (witnesses 2 ++ (AtMost (ranged 0 2) 2 ∷ [])) (allows ((0 ∷ 0 ∷ []) ∷ (1 ∷ 0 ∷ []) ∷ (0 ∷ 1 ∷ []) ∷ []))

-- a bit above those of the bound is 0
abbrev pub at_most_two_of_three_bits : Line
at_most_two_of_three_bits = line (codes "01 02 01 01 02 01 01 02 01 34 00 00 03 02 00 00 00 00 00 00 00") (witnesses 3 ++ (AtMost (ranged 0 3) 2 ∷ [])) (allows ((0 ∷ 0 ∷ 0 ∷ []) ∷ (1 ∷ 0 ∷ 0 ∷ []) ∷ (0 ∷ 1 ∷ 0 ∷ []) ∷ []))

-- a bound of two bits is not set on one
abbrev pub at_most_two_of_one_bit : Line
at_most_two_of_one_bit = line (codes "01 02 01 34 00 00 01 02 00 00 00 00 00 00 00") (witnesses 1 ++ (AtMost (ranged 0 1) 2 ∷ [])) (refuses Length)

-- constants that spell more are refused
abbrev pub at_most_two_of_ones : Line
at_most_two_of_ones = line (codes "01 00 01 01 00 01 34 00 00 02 02 00 00 00 00 00 00 00") (constants 2 1 ++ (AtMost (ranged 0 2) 2 ∷ [])) (refuses (Gadget Unsatisfiable))

-- no bits spell 0; where they would begin is not looked at
abbrev pub at_most_zero_of_no_bits : Line
at_most_zero_of_no_bits = line (codes "34 FF FF 00 00 00 00 00 00 00 00 00") (AtMost (ranged 65535 0) 0 ∷ []) adds_nothing

-- five ones of the bound in a row make a gate of six members: the walk begins with a constant
abbrev pub at_most_62 : Line
at_most_62 = line (codes "01 02 01 01 02 01 01 02 01 01 02 01 01 02 01 01 02 01 34 00 00 06 3E 00 00 00 00 00 00 00") (witnesses 6 ++ (AtMost (ranged 0 6) 62 ∷ [])) passes

-- six make one of seven
abbrev pub at_most_126 : Line
at_most_126 = line (codes "01 02 01 01 02 01 01 02 01 01 02 01 01 02 01 01 02 01 01 02 01 34 00 00 07 7E 00 00 00 00 00 00 00") (witnesses 7 ++ (AtMost (ranged 0 7) 126 ∷ [])) (refuses (Gadget TooManyMembers))

-- ---- a choice of bits
-- the first bit says which of the other two the answer is
abbrev pub choice_of_bits : Line
choice_of_bits = line (codes "01 02 01 01 02 01 01 02 00 19 00 00 01 00 02 00") (witness 1 ∷ witness 1 ∷ witness 0 ∷ Select 0 1 2 ∷ []) (allows ((0 ∷ 0 ∷ 0 ∷ 0 ∷ []) ∷ (0 ∷ 0 ∷ 1 ∷ 1 ∷ []) ∷ (0 ∷ 1 ∷ 0 ∷ 0 ∷ []) ∷ (0 ∷ 1 ∷ 1 ∷ 1 ∷ []) ∷ (1 ∷ 0 ∷ 0 ∷ 0 ∷ []) ∷ (1 ∷ 0 ∷ 1 ∷ 0 ∷ []) ∷ (1 ∷ 1 ∷ 0 ∷ 1 ∷ []) ∷ (1 ∷ 1 ∷ 1 ∷ 1 ∷ []) ∷ []))

-- a choice between the constants 1 and 0 is its condition
abbrev pub choice_of_constants : Line
choice_of_constants = line (codes "01 02 01 01 00 01 01 00 00 19 00 00 01 00 02 00") (witness 1 ∷ constant 1 ∷ constant 0 ∷ Select 0 1 2 ∷ []) (allows ((0 ∷ 1 ∷ 0 ∷ 0 ∷ []) ∷ (1 ∷ 1 ∷ 0 ∷ 1 ∷ []) ∷ []))

-- under the constant 1 it is the first of the two
abbrev pub choice_by_one : Line
choice_by_one = line (codes "01 00 01 01 02 01 01 02 00 19 00 00 01 00 02 00") (constant 1 ∷ witness 1 ∷ witness 0 ∷ Select 0 1 2 ∷ []) adds_nothing

-- ---- new numbers
-- numbers are modulo 7: the constant 8 is 1
abbrev pub eight : Line
eight = line (codes "02 00 01 08 00 00 00 00 00 00 00") (constant_number 8 ∷ []) (allows ((1 ∷ []) ∷ []))

-- and the constant -1 is 6
abbrev pub minus_one : Line
minus_one = line (codes "02 00 01 FF FF FF FF FF FF FF FF") (Number 0 1 (negsuc 0) ∷ []) (allows ((6 ∷ []) ∷ []))

-- a variable may be any of the seven numbers, whatever the tape gives it
abbrev pub any_number : Line
any_number = line (codes "02 02 01 03 00 00 00 00 00 00 00") (number 3 ∷ []) (allows ((0 ∷ []) ∷ (1 ∷ []) ∷ (2 ∷ []) ∷ (3 ∷ []) ∷ (4 ∷ []) ∷ (5 ∷ []) ∷ (6 ∷ []) ∷ []))

-- a constant number wants a value
abbrev pub number_without_a_value : Line
number_without_a_value = line (codes "02 00 00 00 00 00 00 00 00 00 00") (Number 0 0 (pos 0) ∷ []) (refuses (Gadget NoValue))

-- a variable wants one where values are kept
abbrev pub number_variable_without_a_value : Line
number_variable_without_a_value = line_by_keeping (codes "02 02 00 00 00 00 00 00 00 00 00") (Number 2 0 (pos 0) ∷ []) (refuses (Gadget (System MissingValue))) passes

-- a number is no operand of a command on bits
abbrev pub number_as_a_bit : Line
number_as_a_bit = line (codes "02 02 01 01 00 00 00 00 00 00 00 10 00 00") (number 1 ∷ Not 0 ∷ []) (refuses Operand)

-- and a bit none of a command on numbers
abbrev pub bit_as_a_number : Line
bit_as_a_number = line (codes "01 02 01 23 00 00") (witness 1 ∷ Unary Negate 0 ∷ []) (refuses Operand)

-- but a bit can be made a number
abbrev pub number_of_a_bit : Line
number_of_a_bit = line (codes "01 02 01 2D 00 00") (witness 1 ∷ FromBit 0 ∷ []) (allows ((0 ∷ 0 ∷ []) ∷ (1 ∷ 1 ∷ []) ∷ []))

-- ---- arithmetic
-- 3 and 5 are 1
abbrev pub three_and_five : Line
three_and_five = line (codes "02 00 01 03 00 00 00 00 00 00 00 02 00 01 05 00 00 00 00 00 00 00 20 00 00 01 00") (constant_number 3 ∷ constant_number 5 ∷ Binary Add 0 1 ∷ []) (allows ((3 ∷ 5 ∷ 1 ∷ []) ∷ []))

-- 3 less 5 is 5
abbrev pub three_less_five : Line
three_less_five = line (codes "02 00 01 03 00 00 00 00 00 00 00 02 00 01 05 00 00 00 00 00 00 00 21 00 00 01 00") (constant_number 3 ∷ constant_number 5 ∷ Binary Sub 0 1 ∷ []) (allows ((3 ∷ 5 ∷ 5 ∷ []) ∷ []))

-- 3 times 5 is 1
abbrev pub three_times_five : Line
three_times_five = line (codes "02 00 01 03 00 00 00 00 00 00 00 02 00 01 05 00 00 00 00 00 00 00 22 00 00 01 00") (constant_number 3 ∷ constant_number 5 ∷ Binary Mul 0 1 ∷ []) (allows ((3 ∷ 5 ∷ 1 ∷ []) ∷ []))

-- minus 0 is 0, and not 7
abbrev pub minus_zero : Line
minus_zero = line (codes "02 00 01 00 00 00 00 00 00 00 00 23 00 00") (constant_number 0 ∷ Unary Negate 0 ∷ []) (allows ((0 ∷ 0 ∷ []) ∷ []))

-- twice a variable
abbrev pub twice_a_number : Line
twice_a_number = line (codes "02 02 01 03 00 00 00 00 00 00 00 24 00 00") (number 3 ∷ Unary Double 0 ∷ []) (allows ((0 ∷ 0 ∷ []) ∷ (1 ∷ 2 ∷ []) ∷ (2 ∷ 4 ∷ []) ∷ (3 ∷ 6 ∷ []) ∷ (4 ∷ 1 ∷ []) ∷ (5 ∷ 3 ∷ []) ∷ (6 ∷ 5 ∷ []) ∷ []))

-- a variable less itself is 0
abbrev pub less_itself : Line
less_itself = line (codes "02 02 01 03 00 00 00 00 00 00 00 21 00 00 00 00") (number 3 ∷ Binary Sub 0 0 ∷ []) (always 0)

-- and is a combination of no terms, which takes one for its heading
abbrev pub less_itself_is_a_combination : Line
less_itself_is_a_combination = line (codes "02 02 01 03 00 00 00 00 00 00 00 21 00 00 00 00") (number 3 ∷ Binary Sub 0 0 ∷ []) (uses (used_so 1 1 0))

-- a variable times the constant 0 is 0
abbrev pub times_zero : Line
times_zero = line (codes "02 02 01 03 00 00 00 00 00 00 00 02 00 01 00 00 00 00 00 00 00 00 22 00 00 01 00") (number 3 ∷ constant_number 0 ∷ Binary Mul 0 1 ∷ []) (always 0)

-- and is a combination of no terms too
abbrev pub times_zero_is_a_combination : Line
times_zero_is_a_combination = line (codes "02 02 01 03 00 00 00 00 00 00 00 02 00 01 00 00 00 00 00 00 00 00 22 00 00 01 00") (number 3 ∷ constant_number 0 ∷ Binary Mul 0 1 ∷ []) (uses (used_so 1 1 0))

-- a variable times the constant 1 is that variable
abbrev pub times_one : Line
times_one = line (codes "02 02 01 03 00 00 00 00 00 00 00 02 00 01 01 00 00 00 00 00 00 00 22 00 00 01 00") (number 3 ∷ constant_number 1 ∷ Binary Mul 0 1 ∷ []) adds_nothing

-- and 8 is 1
abbrev pub times_eight : Line
times_eight = line (codes "02 02 01 03 00 00 00 00 00 00 00 02 00 01 08 00 00 00 00 00 00 00 22 00 00 01 00") (number 3 ∷ constant_number 8 ∷ Binary Mul 0 1 ∷ []) adds_nothing

-- two variables have a witness and a row of three terms for their product
abbrev pub product_of_two_variables : Line
product_of_two_variables = line (codes "02 02 01 03 00 00 00 00 00 00 00 02 02 01 05 00 00 00 00 00 00 00 22 00 00 01 00") (number 3 ∷ number 5 ∷ Binary Mul 0 1 ∷ []) (uses (used_so 3 3 1))

-- the inverse of 3 is 5
abbrev pub inverse_of_constant_three : Line
inverse_of_constant_three = line (codes "02 00 01 03 00 00 00 00 00 00 00 25 00 00") (constant_number 3 ∷ Unary Inverse 0 ∷ []) (allows ((3 ∷ 5 ∷ []) ∷ []))

-- the constant 0 has none
abbrev pub inverse_of_constant_zero : Line
inverse_of_constant_zero = line (codes "02 00 01 00 00 00 00 00 00 00 00 25 00 00") (constant_number 0 ∷ Unary Inverse 0 ∷ []) (refuses (Gadget NoValue))

-- a variable that has an inverse is not 0
abbrev pub inverse_of_a_variable : Line
inverse_of_a_variable = line (codes "02 02 01 03 00 00 00 00 00 00 00 25 00 00") (number 3 ∷ Unary Inverse 0 ∷ []) (allows ((1 ∷ 1 ∷ []) ∷ (2 ∷ 4 ∷ []) ∷ (3 ∷ 5 ∷ []) ∷ (4 ∷ 2 ∷ []) ∷ (5 ∷ 3 ∷ []) ∷ (6 ∷ 6 ∷ []) ∷ []))

-- the same where the value 0 is kept for it
abbrev pub inverse_where_zero_is_kept : Line
inverse_where_zero_is_kept = line (codes "02 02 01 00 00 00 00 00 00 00 00 25 00 00") (number 0 ∷ Unary Inverse 0 ∷ []) (allows ((1 ∷ 1 ∷ []) ∷ (2 ∷ 4 ∷ []) ∷ (3 ∷ 5 ∷ []) ∷ (4 ∷ 2 ∷ []) ∷ (5 ∷ 3 ∷ []) ∷ (6 ∷ 6 ∷ []) ∷ []))

-- a variable that is always 0 has no inverse: nothing meets the rows
abbrev pub inverse_of_a_variable_that_is_zero : Line
inverse_of_a_variable_that_is_zero = line (codes "02 02 01 03 00 00 00 00 00 00 00 21 00 00 00 00 25 01 00") (number 3 ∷ Binary Sub 0 0 ∷ Unary Inverse 1 ∷ []) bars

-- ---- products and squares that are given
-- constants that obey
abbrev pub two_times_three_is_six : Line
two_times_three_is_six = line (codes "02 00 01 02 00 00 00 00 00 00 00 02 00 01 03 00 00 00 00 00 00 00 02 00 01 06 00 00 00 00 00 00 00 26 00 00 01 00 02 00") (constant_number 2 ∷ constant_number 3 ∷ constant_number 6 ∷ MulEquals 0 1 2 ∷ []) adds_nothing

-- constants that do not
abbrev pub two_times_three_is_five : Line
two_times_three_is_five = line (codes "02 00 01 02 00 00 00 00 00 00 00 02 00 01 03 00 00 00 00 00 00 00 02 00 01 05 00 00 00 00 00 00 00 26 00 00 01 00 02 00") (constant_number 2 ∷ constant_number 3 ∷ constant_number 5 ∷ MulEquals 0 1 2 ∷ []) (refuses (Gadget Unsatisfiable))

-- twice a variable is 6: it is 3
abbrev pub two_times_which_is_six : Line
two_times_which_is_six = line (codes "02 00 01 02 00 00 00 00 00 00 00 02 02 01 01 00 00 00 00 00 00 00 02 00 01 06 00 00 00 00 00 00 00 26 00 00 01 00 02 00") (constant_number 2 ∷ number 1 ∷ constant_number 6 ∷ MulEquals 0 1 2 ∷ []) (allows ((2 ∷ 3 ∷ 6 ∷ []) ∷ []))

-- 2 times 3 is a variable: it is 6
abbrev pub two_times_three_is_which : Line
two_times_three_is_which = line (codes "02 00 01 02 00 00 00 00 00 00 00 02 00 01 03 00 00 00 00 00 00 00 02 02 01 01 00 00 00 00 00 00 00 26 00 00 01 00 02 00") (constant_number 2 ∷ constant_number 3 ∷ number 1 ∷ MulEquals 0 1 2 ∷ []) (allows ((2 ∷ 3 ∷ 6 ∷ []) ∷ []))

-- 0 times a variable is never 1
abbrev pub zero_times_which_is_one : Line
zero_times_which_is_one = line (codes "02 00 01 00 00 00 00 00 00 00 00 02 02 01 01 00 00 00 00 00 00 00 02 00 01 01 00 00 00 00 00 00 00 26 00 00 01 00 02 00") (constant_number 0 ∷ number 1 ∷ constant_number 1 ∷ MulEquals 0 1 2 ∷ []) bars

-- the product of a variable with itself is that variable: it is 0 or 1
abbrev pub times_itself_is_itself : Line
times_itself_is_itself = line (codes "02 02 01 03 00 00 00 00 00 00 00 26 00 00 00 00 00 00") (number 3 ∷ MulEquals 0 0 0 ∷ []) (allows ((0 ∷ []) ∷ (1 ∷ []) ∷ []))

-- the square of 3 is 2
abbrev pub square_of_three_is_two : Line
square_of_three_is_two = line (codes "02 00 01 03 00 00 00 00 00 00 00 02 00 01 02 00 00 00 00 00 00 00 27 00 00 01 00") (constant_number 3 ∷ constant_number 2 ∷ SquareEquals 0 1 ∷ []) adds_nothing

-- and not 3
abbrev pub square_of_three_is_three : Line
square_of_three_is_three = line (codes "02 00 01 03 00 00 00 00 00 00 00 02 00 01 03 00 00 00 00 00 00 00 27 00 00 01 00") (constant_number 3 ∷ constant_number 3 ∷ SquareEquals 0 1 ∷ []) (refuses (Gadget Unsatisfiable))

-- a variable whose square is 2 is 3 or 4
abbrev pub square_is_two : Line
square_is_two = line (codes "02 02 01 03 00 00 00 00 00 00 00 02 00 01 02 00 00 00 00 00 00 00 27 00 00 01 00") (number 3 ∷ constant_number 2 ∷ SquareEquals 0 1 ∷ []) (allows ((3 ∷ 2 ∷ []) ∷ (4 ∷ 2 ∷ []) ∷ []))

-- no square is 3
abbrev pub square_is_three : Line
square_is_three = line (codes "02 02 01 03 00 00 00 00 00 00 00 02 00 01 03 00 00 00 00 00 00 00 27 00 00 01 00") (number 3 ∷ constant_number 3 ∷ SquareEquals 0 1 ∷ []) bars

-- ---- whether two numbers are equal
-- 3 is 3
abbrev pub three_equals_three : Line
three_equals_three = line (codes "02 00 01 03 00 00 00 00 00 00 00 02 00 01 03 00 00 00 00 00 00 00 28 00 00 01 00") (constant_number 3 ∷ constant_number 3 ∷ Compare IsEq 0 1 ∷ []) (allows ((3 ∷ 3 ∷ 1 ∷ []) ∷ []))

-- and does not differ from it
abbrev pub three_differs_from_three : Line
three_differs_from_three = line (codes "02 00 01 03 00 00 00 00 00 00 00 02 00 01 03 00 00 00 00 00 00 00 29 00 00 01 00") (constant_number 3 ∷ constant_number 3 ∷ Compare IsNeq 0 1 ∷ []) (allows ((3 ∷ 3 ∷ 0 ∷ []) ∷ []))

-- a variable is equal to itself
abbrev pub number_equals_itself : Line
number_equals_itself = line (codes "02 02 01 03 00 00 00 00 00 00 00 28 00 00 00 00") (number 3 ∷ Compare IsEq 0 0 ∷ []) (always 1)

-- and does not differ from itself
abbrev pub number_differs_from_itself : Line
number_differs_from_itself = line (codes "02 02 01 03 00 00 00 00 00 00 00 29 00 00 00 00") (number 3 ∷ Compare IsNeq 0 0 ∷ []) (always 0)

-- a variable is 3, or it is not
abbrev pub which_equals_three : Line
which_equals_three = line (codes "02 02 01 03 00 00 00 00 00 00 00 02 00 01 03 00 00 00 00 00 00 00 28 00 00 01 00") (number 3 ∷ constant_number 3 ∷ Compare IsEq 0 1 ∷ []) (allows ((0 ∷ 3 ∷ 0 ∷ []) ∷ (1 ∷ 3 ∷ 0 ∷ []) ∷ (2 ∷ 3 ∷ 0 ∷ []) ∷ (3 ∷ 3 ∷ 1 ∷ []) ∷ (4 ∷ 3 ∷ 0 ∷ []) ∷ (5 ∷ 3 ∷ 0 ∷ []) ∷ (6 ∷ 3 ∷ 0 ∷ []) ∷ []))

-- ---- statements on numbers under a condition
-- two constants that are not equal leave the condition only the number 0
abbrev pub unequal_numbers_under_a_variable : Line
unequal_numbers_under_a_variable = line (codes "02 00 01 03 00 00 00 00 00 00 00 02 00 01 04 00 00 00 00 00 00 00 01 02 00 2A 00 00 01 00 02 00") (constant_number 3 ∷ constant_number 4 ∷ witness 0 ∷ EnforceNumbers Equal 0 1 2 ∷ []) (allows ((3 ∷ 4 ∷ 0 ∷ []) ∷ []))

-- under the constant 1 they are refused
abbrev pub unequal_numbers_under_one : Line
unequal_numbers_under_one = line (codes "02 00 01 03 00 00 00 00 00 00 00 02 00 01 04 00 00 00 00 00 00 00 01 00 01 2A 00 00 01 00 02 00") (constant_number 3 ∷ constant_number 4 ∷ constant 1 ∷ EnforceNumbers Equal 0 1 2 ∷ []) (refuses (Gadget Unsatisfiable))

-- under the constant 0 they say nothing
abbrev pub unequal_numbers_under_zero : Line
unequal_numbers_under_zero = line (codes "02 00 01 03 00 00 00 00 00 00 00 02 00 01 04 00 00 00 00 00 00 00 01 00 00 2A 00 00 01 00 02 00") (constant_number 3 ∷ constant_number 4 ∷ constant 0 ∷ EnforceNumbers Equal 0 1 2 ∷ []) adds_nothing

-- two that are equal and are to differ do the same
abbrev pub equal_numbers_under_a_variable : Line
equal_numbers_under_a_variable = line (codes "02 00 01 03 00 00 00 00 00 00 00 02 00 01 03 00 00 00 00 00 00 00 01 02 00 2B 00 00 01 00 02 00") (constant_number 3 ∷ constant_number 3 ∷ witness 0 ∷ EnforceNumbers Unequal 0 1 2 ∷ []) (allows ((3 ∷ 3 ∷ 0 ∷ []) ∷ []))

-- under the constant 1 they are refused too
abbrev pub equal_numbers_under_one : Line
equal_numbers_under_one = line (codes "02 00 01 03 00 00 00 00 00 00 00 02 00 01 03 00 00 00 00 00 00 00 01 00 01 2B 00 00 01 00 02 00") (constant_number 3 ∷ constant_number 3 ∷ constant 1 ∷ EnforceNumbers Unequal 0 1 2 ∷ []) (refuses (Gadget Unsatisfiable))

-- a variable that is equal to 3 is 3
abbrev pub number_is_three : Line
number_is_three = line (codes "02 02 01 04 00 00 00 00 00 00 00 02 00 01 03 00 00 00 00 00 00 00 01 00 01 2A 00 00 01 00 02 00") (number 4 ∷ constant_number 3 ∷ constant 1 ∷ EnforceNumbers Equal 0 1 2 ∷ []) (allows ((3 ∷ 3 ∷ 1 ∷ []) ∷ []))

-- and one that differs from 3 is one of the six others
abbrev pub number_is_not_three : Line
number_is_not_three = line (codes "02 02 01 04 00 00 00 00 00 00 00 02 00 01 03 00 00 00 00 00 00 00 01 00 01 2B 00 00 01 00 02 00") (number 4 ∷ constant_number 3 ∷ constant 1 ∷ EnforceNumbers Unequal 0 1 2 ∷ []) (allows ((0 ∷ 3 ∷ 1 ∷ []) ∷ (1 ∷ 3 ∷ 1 ∷ []) ∷ (2 ∷ 3 ∷ 1 ∷ []) ∷ (4 ∷ 3 ∷ 1 ∷ []) ∷ (5 ∷ 3 ∷ 1 ∷ []) ∷ (6 ∷ 3 ∷ 1 ∷ []) ∷ []))

-- so it is where the tape gives it the value 3 and no values are kept; where they are kept the multiplier has none
abbrev pub number_is_not_its_value : Line
number_is_not_its_value = line_by_keeping (codes "02 02 01 03 00 00 00 00 00 00 00 02 00 01 03 00 00 00 00 00 00 00 01 00 01 2B 00 00 01 00 02 00") (number 3 ∷ constant_number 3 ∷ constant 1 ∷ EnforceNumbers Unequal 0 1 2 ∷ []) (refuses (Gadget (System MissingValue))) (allows ((0 ∷ 3 ∷ 1 ∷ []) ∷ (1 ∷ 3 ∷ 1 ∷ []) ∷ (2 ∷ 3 ∷ 1 ∷ []) ∷ (4 ∷ 3 ∷ 1 ∷ []) ∷ (5 ∷ 3 ∷ 1 ∷ []) ∷ (6 ∷ 3 ∷ 1 ∷ []) ∷ []))

-- a variable differs from itself only where the condition is 0, which is its value here
abbrev pub number_is_not_itself : Line
number_is_not_itself = line (codes "02 02 01 03 00 00 00 00 00 00 00 01 02 00 2B 00 00 00 00 01 00") (number 3 ∷ witness 0 ∷ EnforceNumbers Unequal 0 0 1 ∷ []) (allows ((0 ∷ 0 ∷ []) ∷ (1 ∷ 0 ∷ []) ∷ (2 ∷ 0 ∷ []) ∷ (3 ∷ 0 ∷ []) ∷ (4 ∷ 0 ∷ []) ∷ (5 ∷ 0 ∷ []) ∷ (6 ∷ 0 ∷ []) ∷ []))

-- where the tape gives the condition the value 1 and values are kept, this is refused
abbrev pub number_is_not_itself_under_one : Line
number_is_not_itself_under_one = line_by_keeping (codes "02 02 01 03 00 00 00 00 00 00 00 01 02 01 2B 00 00 00 00 01 00") (number 3 ∷ witness 1 ∷ EnforceNumbers Unequal 0 0 1 ∷ []) (refuses (Gadget (System MissingValue))) (allows ((0 ∷ 0 ∷ []) ∷ (1 ∷ 0 ∷ []) ∷ (2 ∷ 0 ∷ []) ∷ (3 ∷ 0 ∷ []) ∷ (4 ∷ 0 ∷ []) ∷ (5 ∷ 0 ∷ []) ∷ (6 ∷ 0 ∷ []) ∷ []))

-- under the constant 1 it is refused where values are kept, and nothing meets the rows where none are
abbrev pub number_is_not_itself_under_constant_one : Line
number_is_not_itself_under_constant_one = line_by_keeping (codes "02 02 01 03 00 00 00 00 00 00 00 01 00 01 2B 00 00 00 00 01 00") (number 3 ∷ constant 1 ∷ EnforceNumbers Unequal 0 0 1 ∷ []) (refuses (Gadget (System MissingValue))) bars

-- ---- a choice of numbers
-- a variable condition chooses between the constants 3 and 5
abbrev pub choice_of_constant_numbers : Line
choice_of_constant_numbers = line (codes "01 02 01 02 00 01 03 00 00 00 00 00 00 00 02 00 01 05 00 00 00 00 00 00 00 2C 00 00 01 00 02 00") (witness 1 ∷ constant_number 3 ∷ constant_number 5 ∷ SelectNumber 0 1 2 ∷ []) (allows ((0 ∷ 3 ∷ 5 ∷ 5 ∷ []) ∷ (1 ∷ 3 ∷ 5 ∷ 3 ∷ []) ∷ []))

-- 0 and 1 can be chosen from too
abbrev pub choice_of_zero : Line
choice_of_zero = line (codes "01 02 01 02 00 01 00 00 00 00 00 00 00 00 02 00 01 01 00 00 00 00 00 00 00 2C 00 00 01 00 02 00") (witness 1 ∷ constant_number 0 ∷ constant_number 1 ∷ SelectNumber 0 1 2 ∷ []) (allows ((0 ∷ 0 ∷ 1 ∷ 1 ∷ []) ∷ (1 ∷ 0 ∷ 1 ∷ 0 ∷ []) ∷ []))

-- and a variable beside a constant
abbrev pub choice_with_a_variable : Line
choice_with_a_variable = line (codes "01 02 01 02 02 01 04 00 00 00 00 00 00 00 02 00 01 03 00 00 00 00 00 00 00 2C 00 00 01 00 02 00") (witness 1 ∷ number 4 ∷ constant_number 3 ∷ SelectNumber 0 1 2 ∷ []) (allows ((0 ∷ 0 ∷ 3 ∷ 3 ∷ []) ∷ (0 ∷ 1 ∷ 3 ∷ 3 ∷ []) ∷ (0 ∷ 2 ∷ 3 ∷ 3 ∷ []) ∷ (0 ∷ 3 ∷ 3 ∷ 3 ∷ []) ∷ (0 ∷ 4 ∷ 3 ∷ 3 ∷ []) ∷ (0 ∷ 5 ∷ 3 ∷ 3 ∷ []) ∷ (0 ∷ 6 ∷ 3 ∷ 3 ∷ []) ∷ (1 ∷ 0 ∷ 3 ∷ 0 ∷ []) ∷ (1 ∷ 1 ∷ 3 ∷ 1 ∷ []) ∷ (1 ∷ 2 ∷ 3 ∷ 2 ∷ []) ∷ (1 ∷ 3 ∷ 3 ∷ 3 ∷ []) ∷ (1 ∷ 4 ∷ 3 ∷ 4 ∷ []) ∷ (1 ∷ 5 ∷ 3 ∷ 5 ∷ []) ∷ (1 ∷ 6 ∷ 3 ∷ 6 ∷ []) ∷ []))

-- under the constant 0 it is the second
abbrev pub choice_of_numbers_by_zero : Line
choice_of_numbers_by_zero = line (codes "01 00 00 02 02 01 04 00 00 00 00 00 00 00 02 02 01 03 00 00 00 00 00 00 00 2C 00 00 01 00 02 00") (constant 0 ∷ number 4 ∷ number 3 ∷ SelectNumber 0 1 2 ∷ []) adds_nothing

-- ---- the table
-- the table
abbrev pub table : List Line
table =
    and_of_six
    ∷ and_of_seven
    ∷ or_of_six
    ∷ or_of_seven
    ∷ or_of_eight
    ∷ nand_of_seven
    ∷ some_zero_of_seven
    ∷ and_of_seven_constants
    ∷ and_of_one_that_is_not_there
    ∷ and_of_none
    ∷ and_of_six_copies
    ∷ chain_of_three
    ∷ sum_of_four
    ∷ some_zero_of_ones
    ∷ equal_to_itself
    ∷ xor_with_itself
    ∷ differ_where_the_condition_is_zero
    ∷ differ_from_itself
    ∷ differ_from_itself_always
    ∷ unequal_constants_under_a_variable
    ∷ unequal_constants_under_one
    ∷ unequal_constants_under_zero
    ∷ equal_constants_under_a_variable
    ∷ constant_without_a_value
    ∷ bit_without_a_value
    ∷ at_most_two
    ∷ at_most_two_of_three_bits
    ∷ at_most_two_of_one_bit
    ∷ at_most_two_of_ones
    ∷ at_most_zero_of_no_bits
    ∷ at_most_62
    ∷ at_most_126
    ∷ choice_of_bits
    ∷ choice_of_constants
    ∷ choice_by_one
    ∷ eight
    ∷ minus_one
    ∷ any_number
    ∷ number_without_a_value
    ∷ number_variable_without_a_value
    ∷ number_as_a_bit
    ∷ bit_as_a_number
    ∷ number_of_a_bit
    ∷ three_and_five
    ∷ three_less_five
    ∷ three_times_five
    ∷ minus_zero
    ∷ twice_a_number
    ∷ less_itself
    ∷ less_itself_is_a_combination
    ∷ times_zero
    ∷ times_zero_is_a_combination
    ∷ times_one
    ∷ times_eight
    ∷ product_of_two_variables
    ∷ inverse_of_constant_three
    ∷ inverse_of_constant_zero
    ∷ inverse_of_a_variable
    ∷ inverse_where_zero_is_kept
    ∷ inverse_of_a_variable_that_is_zero
    ∷ two_times_three_is_six
    ∷ two_times_three_is_five
    ∷ two_times_which_is_six
    ∷ two_times_three_is_which
    ∷ zero_times_which_is_one
    ∷ times_itself_is_itself
    ∷ square_of_three_is_two
    ∷ square_of_three_is_three
    ∷ square_is_two
    ∷ square_is_three
    ∷ three_equals_three
    ∷ three_differs_from_three
    ∷ number_equals_itself
    ∷ number_differs_from_itself
    ∷ which_equals_three
    ∷ unequal_numbers_under_a_variable
    ∷ unequal_numbers_under_one
    ∷ unequal_numbers_under_zero
    ∷ equal_numbers_under_a_variable
    ∷ equal_numbers_under_one
    ∷ number_is_three
    ∷ number_is_not_three
    ∷ number_is_not_its_value
    ∷ number_is_not_itself
    ∷ number_is_not_itself_under_one
    ∷ number_is_not_itself_under_constant_one
    ∷ choice_of_constant_numbers
    ∷ choice_of_zero
    ∷ choice_with_a_variable
    ∷ choice_of_numbers_by_zero
    ∷ []
