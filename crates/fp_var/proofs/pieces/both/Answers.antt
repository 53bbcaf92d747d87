use Rattle.std.proofs.Common.{[], ◌∷◌, sym, ◌∙◌}
use Rattle.relations.specs.Script.{run}
use Rattle.fp_var.specs.Numbers.{linear}
use Rattle.fp_var.proofs.pieces.both.Goals as goal

pub returns-clause-does : goal.returns-clause-does
returns-clause-does g c =
    (λ i. run g.F.Field.modulus (linear (sym c.times.ensures i ∷ (sym c.times-2.ensures i ∷ []))) (g.S.System.meaning c.args.cs.now)) ∙ c.linear.ensures.does
