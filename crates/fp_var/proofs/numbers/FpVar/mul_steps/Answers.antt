use Rattle.std.proofs.Common.{sym, ◌∙◌}
use Rattle.relations.specs.Script.{run}
use Rattle.fp_var.specs.Numbers.{mul_variables, mul_script}
use Rattle.fp_var.proofs.numbers.FpVar.mul_steps.Goals as goal

pub returns-in-Var-Var-clause-does : goal.returns-in-Var-Var-clause-does
returns-in-Var-Var-clause-does g c =
    let p = g.F.Field.modulus in
    let m = g.S.System.meaning c.args.cs.now in
    (λ i. run p (mul_script p (c.in-Var-Var.is-0 i) (c.in-Var-Var.is-1 i)) m)
    ∙ (λ i. run p (mul_variables p (sym c.variable.ensures i) (sym c.variable-in-Var-Var.ensures i)) m)
    ∙ c.mul_variables.ensures.does
