-- The answers of one command.
use Rattle.std.specs.Prelude.{List, take}
use Rattle.command.specs.declared.answers.Answer.{Answer}
use Rattle.command.specs.declared.answers.Answers.{Answers}

-- as a list, in their order
abbrev pub listed : Answers → List Answer
listed a = take a.count a.list
