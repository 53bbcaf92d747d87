-- A tape's bytes as commands.
use Rattle.std.specs.Int.{from_le_bytes, cast_signed, w64}
use Rattle.std.specs.Prelude.{ℕ, ℤ, ◌+◌, ◌*◌, cond, List, [], ◌∷◌, length, Some, None, Option, ◌==◌, nat_le, slice_index}
use Rattle.allocated.specs.declared.gate.Gate.TheVariants.{And, Or, Xor}
use Rattle.command.specs.declared.commands.Command.{Command}
use Rattle.command.specs.declared.commands.Command.TheVariants.{Bit, Clone, Not, Gated, Kary as KaryCommand, IsEqual, Select, Enforce, AtMost, Number as NumberCommand, Binary as BinaryCommand, Unary as UnaryCommand, MulEquals, SquareEquals, Compare, EnforceNumbers, SelectNumber, FromBit}
use Rattle.command.specs.declared.commands.Binary.TheVariants.{Add, Sub, Mul}
use Rattle.command.specs.declared.commands.Unary.TheVariants.{Negate, Double, Inverse}
use Rattle.command.specs.declared.commands.Comparison.TheVariants.{IsEq, IsNeq}
use Rattle.command.specs.declared.commands.Kary.TheVariants.{And as all_ones, Or as some_one, Nand as some_zero, EnforceNand as force_zero}
use Rattle.command.specs.declared.commands.Claim.TheVariants.{Equal, Unequal}
use Rattle.command.specs.declared.decoding.Shape.{Shape}
use Rattle.command.specs.declared.decoding.Shape.TheVariants.{Short, Ranged, Two, Three, Valued, Bounded}
use Rattle.command.specs.declared.commands.Range.{Range}
use Rattle.command.specs.declared.commands.Decoded.{Decoded}

-- how many bytes a command of a shape takes, its opcode counted
abbrev pub length_of : Shape → ℕ
length_of Short = 3
length_of Ranged = 4
length_of Two = 5
length_of Three = 7
length_of Valued = 11
length_of Bounded = 12

-- the shape of the command with an opcode, none where there is no such command
abbrev pub shape_of : ℕ → Option Shape
shape_of op =
    cond (op == 1) (Some Short) (cond (op == 3) (Some Short) (cond (op == 16) (Some Short) (cond (op == 35) (Some Short) (cond (op == 36) (Some Short) (cond (op == 37) (Some Short) (cond (op == 45) (Some Short)
    (cond (op == 20) (Some Ranged) (cond (op == 21) (Some Ranged) (cond (op == 22) (Some Ranged) (cond (op == 23) (Some Ranged)
    (cond (op == 17) (Some Two) (cond (op == 18) (Some Two) (cond (op == 19) (Some Two) (cond (op == 24) (Some Two) (cond (op == 32) (Some Two) (cond (op == 33) (Some Two) (cond (op == 34) (Some Two) (cond (op == 39) (Some Two) (cond (op == 40) (Some Two) (cond (op == 41) (Some Two)
    (cond (op == 25) (Some Three) (cond (op == 26) (Some Three) (cond (op == 27) (Some Three) (cond (op == 38) (Some Three) (cond (op == 42) (Some Three) (cond (op == 43) (Some Three) (cond (op == 44) (Some Three)
    (cond (op == 2) (Some Valued)
    (cond (op == 52) (Some Bounded) None)))))))))))))))))))))))))))))

-- the number of an answer, in two bytes, the low one first
abbrev pub operand : List ℕ → ℕ → ℕ
operand bs i = slice_index bs i + 256 * slice_index bs (i + 1)

-- so many answers from the one with the number a
abbrev pub ranged : ℕ → ℕ → Range
ranged a k = record { first = a; count = k }

-- a range, in three bytes from place i on
abbrev pub range : List ℕ → ℕ → Range
range bs i = ranged (operand bs i) (slice_index bs (i + 2))

-- the number of eight bytes, the low one first
abbrev pub element : List ℕ → ℕ → ℕ
element bs i = from_le_bytes w64 (slice_index bs i ∷ (slice_index bs (i + 1) ∷ (slice_index bs (i + 2) ∷ (slice_index bs (i + 3) ∷ (slice_index bs (i + 4) ∷ (slice_index bs (i + 5) ∷ (slice_index bs (i + 6) ∷ (slice_index bs (i + 7) ∷ []))))))))

-- a signed number of eight bytes, the low one first
abbrev pub signed : List ℕ → ℕ → ℤ
signed bs i = cast_signed w64 (element bs i)

-- ---- what an opcode stands for before two bytes, a range, two answers and three
-- before two bytes: a mode and a value, or the number of an answer
abbrev pub short : ℕ → ℕ → ℕ → Command
short op x y =
    cond (op == 1) (Bit x y) (cond (op == 3) (Clone (x + 256 * y)) (cond (op == 16) (Not (x + 256 * y)) (cond (op == 35) (UnaryCommand Negate (x + 256 * y)) (cond (op == 36) (UnaryCommand Double (x + 256 * y))
    (cond (op == 37) (UnaryCommand Inverse (x + 256 * y)) (FromBit (x + 256 * y)))))))

-- before a range
abbrev pub on_range : ℕ → Range → Command
on_range op r = KaryCommand (cond (op == 20) all_ones (cond (op == 21) some_one (cond (op == 22) some_zero force_zero))) r

-- before two answers
abbrev pub on_two : ℕ → ℕ → ℕ → Command
on_two op a b =
    cond (op == 17) (Gated And a b) (cond (op == 18) (Gated Or a b) (cond (op == 19) (Gated Xor a b) (cond (op == 24) (IsEqual a b)
    (cond (op == 32) (BinaryCommand Add a b) (cond (op == 33) (BinaryCommand Sub a b) (cond (op == 34) (BinaryCommand Mul a b) (cond (op == 39) (SquareEquals a b)
    (cond (op == 40) (Compare IsEq a b) (Compare IsNeq a b)))))))))

-- before three answers
abbrev pub on_three : ℕ → ℕ → ℕ → ℕ → Command
on_three op a b c =
    cond (op == 25) (Select a b c) (cond (op == 26) (Enforce Equal a b c) (cond (op == 27) (Enforce Unequal a b c) (cond (op == 38) (MulEquals a b c)
    (cond (op == 42) (EnforceNumbers Equal a b c) (cond (op == 43) (EnforceNumbers Unequal a b c) (SelectNumber a b c))))))

-- the command of a shape that the bytes spell, its opcode first
abbrev pub spelled : Shape → ℕ → List ℕ → Command
spelled Short op bs = short op (slice_index bs 1) (slice_index bs 2)
spelled Ranged op bs = on_range op (range bs 1)
spelled Two op bs = on_two op (operand bs 1) (operand bs 3)
spelled Three op bs = on_three op (operand bs 1) (operand bs 3) (operand bs 5)
spelled Valued op bs = NumberCommand (slice_index bs 1) (slice_index bs 2) (signed bs 3)
spelled Bounded op bs = AtMost (range bs 1) (element bs 4)

-- the command of a shape, none where it is cut off
abbrev pub shaped : Option Shape → List ℕ → Option Decoded
shaped None bs = None
shaped (Some s) bs = cond (nat_le (length_of s) (length bs)) (Some (record { command = spelled s (slice_index bs 0) bs; length = length_of s })) None

-- the first command of some bytes, none where it is unknown or cut off; the byte 0 is no opcode
abbrev pub decoded : List ℕ → Option Decoded
decoded bs = shaped (shape_of (slice_index bs 0)) bs
