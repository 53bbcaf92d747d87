use Rattle.std.proofs.Common.{◌≡◌, Err, sym, ap, ◌∙◌, rules}
use Rattle.relations.proofs.Added.{adds_both}
use Rattle.relations.proofs.Then.{then_ok, then_err}
use Rattle.boolean.specs.Booleans.{not_script, gated_script}
use Rattle.boolean.proofs.bits.Boolean.not_gate_steps.Goals as goal

pub returns-in_err-not_steps-clause-does : goal.returns-in_err-not_steps-clause-does
returns-in_err-not_steps-clause-does g c =
    let p = g.F.Field.modulus in
    let is : c.from_residual.result ≡ Err c.in_err-not_steps.field-0.0 = search rules in
    then_err p (not_script p c.args.self) (λ t. gated_script c.args.gate p t c.args.other) _ _ _ c.in_err-not_steps.ensures.does ∙ ap (λ x. (x, g.S.System.meaning c.not_steps.new.cs)) (sym is)

pub returns-clause-does : goal.returns-clause-does
returns-clause-does g c =
    let p = g.F.Field.modulus in
    then_ok p (not_script p c.args.self) (λ t. gated_script c.args.gate p t c.args.other) _ _ _ c.in_ok-not_steps.ensures.does ∙ c.gate_steps.ensures.does

pub returns-clause-adds : goal.returns-clause-adds
returns-clause-adds g c = adds_both c.in_ok-not_steps.ensures.adds c.gate_steps.ensures.adds
