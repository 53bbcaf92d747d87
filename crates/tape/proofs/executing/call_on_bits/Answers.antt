use Rattle.std.proofs.Common.{◌∷◌, []}
use Rattle.boolean.specs.Booleans.{call_script}
use Rattle.command.specs.declared.answers.Answer.TheVariants.{Bit}
use Rattle.tape.proofs.Executes.{answered}
use Rattle.tape.proofs.executing.call_on_bits.Goals as goal

pub returns-clause-does : goal.returns-clause-does
returns-clause-does g c = answered g.F.Field.modulus (call_script g.F.Field.modulus c.args.gadget) (λ b. Bit b ∷ []) _ _ _ _ c.call.ensures.does c.one_bit.ensures
