use Rattle.std.proofs.Common.{◌≡◌, refl, rules}
use Rattle.relations.specs.Script.{over}
use Rattle.boolean.specs.declared.bits.Boolean.TheVariants.{Var}
use Rattle.boolean.specs.Booleans.{as_var}
use Rattle.boolean.proofs.Folds.{var_runs}
use Rattle.fp.specs.Equality.{is_eq_script as same_script}
use Rattle.fp_var.proofs.comparing.equals.Goals as goal

pub returns-clause-does : goal.returns-clause-does
returns-clause-does g c =
    let s = same_script g.F.Field.modulus c.args.x.variable c.args.y.variable in
    let mapped : c.map.result ≡ over Var c.is_eq_steps.result = search rules in
    var_runs g.F.Field.modulus s (as_var s) _ _ _ _ refl c.is_eq_steps.ensures.does mapped
