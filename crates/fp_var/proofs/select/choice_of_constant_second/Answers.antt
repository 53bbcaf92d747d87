use Rattle.std.proofs.Common.{◌≡◌, Err, sym, ap, ◌∙◌, rules}
use Rattle.relations.proofs.Added.{adds_both}
use Rattle.relations.proofs.Then.{then_ok, then_err}
use Rattle.fp_var.specs.Numbers.{constant_lc, choice_of}
use Rattle.fp_var.proofs.select.choice_of_constant_second.Goals as goal

pub returns-in_err-y-clause-does : goal.returns-in_err-y-clause-does
returns-in_err-y-clause-does g c =
    let p = g.F.Field.modulus in
    let is : c.from_residual.result ≡ Err c.in_err-y.field-0.0 = search rules in
    then_err p (constant_lc c.args.b) (λ y. choice_of p c.args.bit.variable c.args.x y) _ _ _ c.in_err-y.ensures.does ∙ ap (λ r. (r, g.S.System.meaning c.constant_lc.new.cs)) (sym is)

pub returns-clause-does : goal.returns-clause-does
returns-clause-does g c =
    let p = g.F.Field.modulus in
    then_ok p (constant_lc c.args.b) (λ y. choice_of p c.args.bit.variable c.args.x y) _ _ _ c.in_ok-y.ensures.does ∙ c.choice_of.ensures.does

pub returns-clause-adds : goal.returns-clause-adds
returns-clause-adds g c = adds_both c.in_ok-y.ensures.adds c.choice_of.ensures.adds
