use Rattle.std.proofs.Common.{◌∷◌, []}
use Rattle.fp_var.specs.Numbers.{question_script}
use Rattle.command.specs.declared.answers.Answer.TheVariants.{Bit}
use Rattle.tape.proofs.Executes.{answered}
use Rattle.tape.proofs.executing.ask_of_numbers.Goals as goal

pub returns-clause-does : goal.returns-clause-does
returns-clause-does g c = answered g.F.Field.modulus (question_script g.F.Field.modulus c.args.question) (λ b. Bit b ∷ []) _ _ _ _ c.call.ensures.does c.one_bit.ensures
