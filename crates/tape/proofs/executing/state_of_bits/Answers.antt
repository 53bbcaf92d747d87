use Rattle.std.proofs.Common.{[]}
use Rattle.boolean.specs.Booleans.{statement_script}
use Rattle.tape.proofs.Executes.{answered}
use Rattle.tape.proofs.executing.state_of_bits.Goals as goal

pub returns-clause-does : goal.returns-clause-does
returns-clause-does g c = answered g.F.Field.modulus (statement_script g.F.Field.modulus c.args.statement) (λ u. []) _ _ _ _ c.call.ensures.does c.no_answer.ensures
