use Rattle.std.proofs.Common.{sym, ◌∙◌}
use Rattle.relations.specs.Script.{run}
use Rattle.relations.specs.Terms.{less}
use Rattle.fp_var.specs.Numbers.{linear, sub_script}
use Rattle.fp_var.proofs.numbers.FpVar.sub_steps.Goals as goal

pub returns-in-Var-Var-clause-does : goal.returns-in-Var-Var-clause-does
returns-in-Var-Var-clause-does g c =
    let p = g.F.Field.modulus in
    let m = g.S.System.meaning c.args.cs.now in
    (λ i. run p (sub_script p (c.in-Var-Var.is-0 i) (c.in-Var-Var.is-1 i)) m)
    ∙ (λ i. run p (linear (less p (sym c.variable-in-Var-Var.ensures i) (sym c.variable-in-Var-Var-2.ensures i))) m)
    ∙ (λ i. run p (linear (sym c.less.ensures i)) m)
    ∙ c.linear.ensures.does
