use Rattle.std.proofs.Common.{◌≡◌, ◌++◌, string_bytes}
use Rattle.tape.specs.Book.{held_by}
use Rattle.beside.specs.Lines.{answers_text}
use Rattle.beside.proofs.answers.push_answers.Given as goal

abbrev pub invariant-loop-number : goal.invariant-loop-number
invariant-loop-number g l =
    string_bytes l.text ≡ string_bytes l.fn.text ++ answers_text (g.S.System.meaning l.fn.system) (held_by l.fn.book) l.number
