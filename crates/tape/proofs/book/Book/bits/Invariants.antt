use Rattle.std.proofs.Common.{◌≡◌, length, take}
use Rattle.command.specs.Answers.{bits_from}
use Rattle.tape.specs.Book.{held_by}
use Rattle.tape.proofs.book.Book.bits.Given as goal

abbrev pub invariant-loop-i : goal.invariant-loop-i
invariant-loop-i l = (take l.i l.bits ≡ bits_from (held_by l.self) l.first l.i) × (length l.bits ≡ 64)
