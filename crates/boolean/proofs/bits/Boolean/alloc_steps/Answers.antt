use Rattle.std.proofs.Common.{◌≡◌, sym, ap, ◌∙◌, rules}
use Rattle.relations.specs.Script.{over}
use Rattle.allocated.specs.Gates.{new_bit}
use Rattle.boolean.specs.declared.bits.Boolean.TheVariants.{Var}
use Rattle.boolean.specs.Booleans.{as_var, alloc_script}
use Rattle.boolean.proofs.Folds.{var_runs}
use Rattle.boolean.proofs.bits.Boolean.alloc_steps.Goals.{in-Input, in-Witness}
use Rattle.boolean.proofs.bits.Boolean.alloc_steps.Goals as goal

pub returns-clause-does : goal.returns-clause-does
returns-clause-does g c =
    let p = g.F.Field.modulus in
    let o = c.args.value in
    let mapped : c.map-2.result ≡ over Var c.variable_steps.result = search rules in
    let is : alloc_script p c.args.mode o ≡ as_var (new_bit p c.match-mode.side o) =
    elim c.match-mode.branch [
      | in-Input w ↦ ap (λ x. alloc_script p x o) w.in-Input.is ∙ ap (λ d. as_var (new_bit p d o)) (sym w.side-is)
      | in-Witness w ↦ ap (λ x. alloc_script p x o) w.in-Witness.is ∙ ap (λ d. as_var (new_bit p d o)) (sym w.side-is)
    ]
    in
    var_runs p (new_bit p c.match-mode.side o) (alloc_script p c.args.mode o) _ _ _ _ is c.variable_steps.ensures.does mapped
