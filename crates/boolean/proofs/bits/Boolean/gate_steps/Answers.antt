use Rattle.std.proofs.Common.{◌≡◌, ◌∙◌, rules}
use Rattle.relations.specs.Script.{over}
use Rattle.allocated.specs.Gates.{gate_script}
use Rattle.boolean.specs.declared.bits.Boolean.TheVariants.{Var}
use Rattle.boolean.specs.Booleans.{gated_script}
use Rattle.boolean.proofs.Folds.{var_runs, of_vars}
use Rattle.boolean.proofs.bits.Boolean.gate_steps.Goals as goal

pub returns-in-Var-Var-clause-does : goal.returns-in-Var-Var-clause-does
returns-in-Var-Var-clause-does g c =
    let p = g.F.Field.modulus in
    let mapped : c.map.result ≡ over Var c.gate_steps.result = search rules in
    var_runs p (gate_script c.args.gate p c.in-Var-Var.a c.in-Var-Var.b) (gated_script c.args.gate p c.args.self c.args.other) _ _ _ _ ((λ i. gated_script c.args.gate p (c.in-Var-Var.is-0 i) (c.in-Var-Var.is-1 i)) ∙ of_vars c.args.gate p c.in-Var-Var.a c.in-Var-Var.b) c.gate_steps.ensures.does mapped
