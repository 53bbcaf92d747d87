-- What a book holds.
use Rattle.std.specs.Prelude.{ℕ, min, List, length, take}
use Rattle.command.specs.declared.answers.Answer.{Answer}
use Rattle.tape.specs.declared.book.Book.{Book}

-- the answers below the count
abbrev pub held_by : Book → List Answer
held_by b = take b.count b.answers.now

-- how many answers it takes
abbrev pub places_of : Book → ℕ
places_of b = min 4096 (length b.answers.now)
