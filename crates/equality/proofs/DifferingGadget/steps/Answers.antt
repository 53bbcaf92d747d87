use Rattle.std.proofs.Common.{◌≡◌, Err, sym, ap, ◌∙◌, rules}
use Rattle.relations.proofs.Added.{adds_both}
use Rattle.relations.proofs.Then.{then_ok, then_err}
use Rattle.boolean.specs.Booleans.{not_script}
use Rattle.equality.proofs.DifferingGadget.steps.Goals as goal

pub returns-in_err-is_eq_steps-clause-does : goal.returns-in_err-is_eq_steps-clause-does
returns-in_err-is_eq_steps-clause-does g c =
    let p = g.F.Field.modulus in
    let is : c.from_residual.result ≡ Err c.in_err-is_eq_steps.field-0.0 = search rules in
    then_err p (g.T.EqGadget.equality p c.args.self.now.a c.args.self.now.b) (not_script p) _ _ _ c.in_err-is_eq_steps.ensures.does ∙ ap (λ x. (x, g.S.System.meaning c.is_eq_steps.new.cs)) (sym is)

pub returns-clause-does : goal.returns-clause-does
returns-clause-does g c =
    let p = g.F.Field.modulus in
    then_ok p (g.T.EqGadget.equality p c.args.self.now.a c.args.self.now.b) (not_script p) _ _ _ c.in_ok-is_eq_steps.ensures.does ∙ c.not_steps.ensures.does

pub returns-clause-adds : goal.returns-clause-adds
returns-clause-adds g c = adds_both c.in_ok-is_eq_steps.ensures.adds c.not_steps.ensures.adds
