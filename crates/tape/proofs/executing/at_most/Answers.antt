use Rattle.std.proofs.Common.{[], sym, ap, ◌∙◌}
use Rattle.relations.specs.Script.{run, whole}
use Rattle.gates.specs.Walk.{walk_script}
use Rattle.command.specs.Answers.{bits_at}
use Rattle.tape.specs.Book.{held_by}
use Rattle.tape.proofs.Executes.{answered}
use Rattle.tape.proofs.executing.at_most.Goals as goal

pub returns-clause-does : goal.returns-clause-does
returns-clause-does g c =
    let p = g.F.Field.modulus in
    let m = g.S.System.meaning c.args.cs.now in
    let e = c.args.element in
    answered p (walk_script p (bits_at (held_by c.args.book.now) c.args.range) e) (λ u. []) _ _ _ _ (ap (λ bs. whole (run p (walk_script p bs e)) m) (sym c.bits-bits.ensures) ∙ c.call.ensures.does) c.no_answer.ensures
