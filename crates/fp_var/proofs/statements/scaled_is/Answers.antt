use Rattle.std.proofs.Common.{◌≡◌, Err, sym, ap, ◌∙◌, rules}
use Rattle.relations.proofs.Added.{adds_both}
use Rattle.relations.proofs.Then.{then_ok, then_err}
use Rattle.fp_var.specs.Numbers.{scaled, variable_is}
use Rattle.fp_var.proofs.statements.scaled_is.Goals as goal

pub returns-in_err-m-clause-does : goal.returns-in_err-m-clause-does
returns-in_err-m-clause-does g c =
    let p = g.F.Field.modulus in
    let is : c.from_residual.result ≡ Err c.in_err-m.field-0.0 = search rules in
    then_err p (scaled p c.args.c c.args.v) (λ m. variable_is p m c.args.number) _ _ _ c.in_err-m.ensures.does ∙ ap (λ r. (r, g.S.System.meaning c.scaled.new.cs)) (sym is)

pub returns-clause-does : goal.returns-clause-does
returns-clause-does g c =
    let p = g.F.Field.modulus in
    then_ok p (scaled p c.args.c c.args.v) (λ m. variable_is p m c.args.number) _ _ _ c.in_ok-m.ensures.does ∙ c.variable_is.ensures.does

pub returns-clause-adds : goal.returns-clause-adds
returns-clause-adds g c = adds_both c.in_ok-m.ensures.adds c.variable_is.ensures.adds
