-- What a command's operands, lengths and answers decide before any gadget runs: nothing here sees a value, a constant or a variable.
use Rattle.std.specs.Prelude.{ℕ, zero, suc, ◌+◌, Bool, true, false, cond, ◌&&◌, List, [], ◌∷◌, length, Some, None, Ok, Err, Option, Result, nat_le, nat_lt, slice_index_or}
use Rattle.gates.specs.Walk.{bit_length}
use Rattle.command.specs.declared.commands.Kind.{Kind}
use Rattle.command.specs.declared.commands.Kind.TheVariants.{Bit as a_bit, Number as a_number}
use Rattle.command.specs.declared.commands.Command.{Command}
use Rattle.command.specs.declared.commands.Command.TheVariants.{Bit, Clone, Not, Gated, Kary as KaryCommand, IsEqual, Select, Enforce, AtMost, Number as NumberCommand, Binary as BinaryCommand, Unary as UnaryCommand, MulEquals, SquareEquals, Compare, EnforceNumbers, SelectNumber, FromBit}
use Rattle.command.specs.declared.commands.Kary.{Kary}
use Rattle.command.specs.declared.commands.Kary.TheVariants.{And, Or, Nand, EnforceNand}
use Rattle.command.specs.declared.commands.Range.{Range}
use Rattle.command.specs.declared.fault.TapeFault.{TapeFault}
use Rattle.command.specs.declared.fault.TapeFault.TheVariants.{Operand, Length, BookFull}

-- whether a kind is that of bits
abbrev pub bit_kind : Kind → Bool
bit_kind a_bit = true
bit_kind a_number = false

-- and that of numbers
abbrev pub number_kind : Kind → Bool
number_kind a_bit = false
number_kind a_number = true

-- the kind of the answer a, none where there is no such answer
abbrev pub kind_at : List Kind → ℕ → Option Kind
kind_at ks a = cond (nat_lt a (length ks)) (Some (slice_index_or ks a a_number)) None

-- whether the book has an answer a
abbrev pub present : List Kind → ℕ → Bool
present ks a = nat_lt a (length ks)

-- whether the book has an answer a that is a bit
abbrev pub is_bit : List Kind → ℕ → Bool
is_bit ks a = present ks a && bit_kind (slice_index_or ks a a_number)

-- and whether it has one that is a number
abbrev pub is_number : List Kind → ℕ → Bool
is_number ks a = present ks a && number_kind (slice_index_or ks a a_bit)

-- whether all answers of a range are there and are bits
abbrev pub are_bits : List Kind → ℕ → ℕ → Bool
are_bits ks a zero = true
are_bits ks a (suc k) = is_bit ks a && are_bits ks (a + 1) k

-- the same of a range
abbrev pub range_is_bits : List Kind → Range → Bool
range_is_bits ks r = are_bits ks r.first r.count

-- whether a command's operands name answers of the right kinds and its bytes are among their values
abbrev pub fits : Command → List Kind → Bool
fits (Bit mode value) ks = nat_le mode 2 && nat_le value 2
fits (Clone a) ks = present ks a
fits (Not a) ks = is_bit ks a
fits (Gated g a b) ks = is_bit ks a && is_bit ks b
fits (KaryCommand g r) ks = range_is_bits ks r
fits (IsEqual a b) ks = is_bit ks a && is_bit ks b
fits (Select c a b) ks = is_bit ks c && (is_bit ks a && is_bit ks b)
fits (Enforce e a b c) ks = is_bit ks a && (is_bit ks b && is_bit ks c)
fits (AtMost r e) ks = range_is_bits ks r
fits (NumberCommand mode there value) ks = nat_le mode 2 && nat_le there 1
fits (BinaryCommand o a b) ks = is_number ks a && is_number ks b
fits (UnaryCommand o a) ks = is_number ks a
fits (MulEquals a b c) ks = is_number ks a && (is_number ks b && is_number ks c)
fits (SquareEquals a b) ks = is_number ks a && is_number ks b
fits (Compare o a b) ks = is_number ks a && is_number ks b
fits (EnforceNumbers e a b c) ks = is_number ks a && (is_number ks b && is_bit ks c)
fits (SelectNumber c a b) ks = is_bit ks c && (is_number ks a && is_number ks b)
fits (FromBit a) ks = is_bit ks a

-- no range is longer than 64 answers
abbrev pub short : Range → Bool
short r = nat_le r.count 64

-- whether a command's lengths are right: a gate has members, and as many bits as a bound has are there
abbrev pub measured : Command → Bool
measured (Bit mode value) = true
measured (Clone a) = true
measured (Not a) = true
measured (Gated g a b) = true
measured (KaryCommand g r) = nat_le 1 r.count && short r
measured (IsEqual a b) = true
measured (Select c a b) = true
measured (Enforce e a b c) = true
measured (AtMost r e) = nat_le (bit_length e) r.count && short r
measured (NumberCommand mode there value) = true
measured (BinaryCommand o a b) = true
measured (UnaryCommand o a) = true
measured (MulEquals a b c) = true
measured (SquareEquals a b) = true
measured (Compare o a b) = true
measured (EnforceNumbers e a b c) = true
measured (SelectNumber c a b) = true
measured (FromBit a) = true

-- a question on many bits has one answer, and the statement none
abbrev pub kary_answers : Kary → List Kind
kary_answers And = a_bit ∷ []
kary_answers Or = a_bit ∷ []
kary_answers Nand = a_bit ∷ []
kary_answers EnforceNand = []

-- the kinds of the answers that a command adds to the book
abbrev pub answers : Command → List Kind → List Kind
answers (Bit mode value) ks = a_bit ∷ []
answers (Clone a) ks = slice_index_or ks a a_number ∷ []
answers (Not a) ks = a_bit ∷ []
answers (Gated g a b) ks = a_bit ∷ []
answers (KaryCommand g r) ks = kary_answers g
answers (IsEqual a b) ks = a_bit ∷ []
answers (Select c a b) ks = a_bit ∷ []
answers (Enforce e a b c) ks = []
answers (AtMost r e) ks = []
answers (NumberCommand mode there value) ks = a_number ∷ []
answers (BinaryCommand o a b) ks = a_number ∷ []
answers (UnaryCommand o a) ks = a_number ∷ []
answers (MulEquals a b c) ks = []
answers (SquareEquals a b) ks = []
answers (Compare o a b) ks = a_bit ∷ []
answers (EnforceNumbers e a b c) ks = []
answers (SelectNumber c a b) ks = a_number ∷ []
answers (FromBit a) ks = a_number ∷ []

-- unfit operands first, then wrong lengths, then a book with too few places left
abbrev pub checked : Command → List Kind → ℕ → Result (List Kind) TapeFault
checked c ks places = cond (fits c ks) (cond (measured c) (cond (nat_le (length ks + length (answers c ks)) places) (Ok (answers c ks)) (Err BookFull)) (Err Length)) (Err Operand)
