use Rattle.std.proofs.Common.{◌≡◌, ap, ◌∙◌, rules}
use Rattle.relations.specs.Script.{run, whole}
use Rattle.gates.specs.Walk.{walk_script}
use Rattle.command.specs.declared.commands.Command.{Command}
use Rattle.command.specs.Answers.{bits_at, element_of, no_answer}
use Rattle.tape.specs.Action.{action as action_of, action_script}
use Rattle.tape.specs.Book.{held_by}
use Rattle.tape.proofs.resolving.perform.Goals as goal

pub returns-in-AtMost-clause-does : goal.returns-in-AtMost-clause-does
returns-in-AtMost-clause-does g c =
    let p = g.F.Field.modulus in
    let m = g.S.System.meaning c.args.cs.now in
    let held = held_by c.args.book.now in
    let x = c.in-AtMost.element in
    let same : element_of x ≡ x = search rules in
    ap (λ (k : Command). whole (run p (action_script p (action_of p k held) held)) m) c.in-AtMost.is
    ∙ ap (λ e. whole (run p (no_answer (walk_script p (bits_at held c.in-AtMost.range) e))) m) same ∙ c.at_most.ensures.does
