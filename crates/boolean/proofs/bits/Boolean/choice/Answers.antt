use Rattle.std.proofs.Common.{◌≡◌, rules}
use Rattle.relations.specs.Script.{over}
use Rattle.allocated.specs.Gates.{choice_script}
use Rattle.boolean.specs.declared.bits.Boolean.TheVariants.{Var}
use Rattle.boolean.specs.Booleans.{select_script}
use Rattle.boolean.proofs.Folds.{var_runs}
use Rattle.boolean.proofs.bits.Boolean.choice.Goals as goal

pub returns-in-Var-Var-Var-clause-does : goal.returns-in-Var-Var-Var-clause-does
returns-in-Var-Var-Var-clause-does g c =
    let p = g.F.Field.modulus in
    let mapped : c.map.result ≡ over Var c.choice_steps.result = search rules in
    var_runs p (choice_script p c.in-Var-Var-Var.c c.in-Var-Var-Var.x c.in-Var-Var-Var.y) (select_script p c.args.self c.args.a c.args.b) _ _ _ _ (λ i. select_script p (c.in-Var-Var-Var.is-0 i) (c.in-Var-Var-Var.is-1 i) (c.in-Var-Var-Var.is-2 i)) c.choice_steps.ensures.does mapped
