use Rattle.std.proofs.Common.{◌≡◌, Err, sym, ap, ◌∙◌, rules}
use Rattle.relations.proofs.Added.{adds_both}
use Rattle.relations.proofs.Then.{then_ok, then_err}
use Rattle.fp_var.specs.Numbers.{constant_lc, product_is}
use Rattle.fp_var.proofs.statements.product_is_constant.Goals as goal

pub returns-in_err-x-clause-does : goal.returns-in_err-x-clause-does
returns-in_err-x-clause-does g c =
    let p = g.F.Field.modulus in
    let is : c.from_residual.result ≡ Err c.in_err-x.field-0.0 = search rules in
    then_err p (constant_lc c.args.c) (product_is c.args.a c.args.b) _ _ _ c.in_err-x.ensures.does ∙ ap (λ r. (r, g.S.System.meaning c.constant_lc.new.cs)) (sym is)

pub returns-clause-does : goal.returns-clause-does
returns-clause-does g c =
    let p = g.F.Field.modulus in
    then_ok p (constant_lc c.args.c) (product_is c.args.a c.args.b) _ _ _ c.in_ok-x.ensures.does ∙ c.product_is.ensures.does

pub returns-clause-adds : goal.returns-clause-adds
returns-clause-adds g c = adds_both c.in_ok-x.ensures.adds c.product_is.ensures.adds
