use Rattle.std.proofs.Common.{[], ◌∷◌, sym, ap, ◌∙◌}
use Rattle.relations.specs.declared.term.Variable.TheVariants.{One}
use Rattle.relations.specs.Script.{run}
use Rattle.relations.specs.Terms.{times}
use Rattle.fp_var.specs.Numbers.{linear}
use Rattle.fp_var.proofs.arithmetic.less_constant.Goals as goal

pub returns-clause-does : goal.returns-clause-does
returns-clause-does g c =
    let constant = c.times-2.ensures ∙ ap (λ k. times k One) c.opposite.ensures in
    (λ i. run g.F.Field.modulus (linear (sym c.times.ensures i ∷ (sym constant i ∷ []))) (g.S.System.meaning c.args.cs.now)) ∙ c.linear.ensures.does
