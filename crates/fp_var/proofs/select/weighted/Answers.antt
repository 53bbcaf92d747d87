use Rattle.std.proofs.Common.{◌≡◌, ◌∷◌, Err, sym, ap, ◌∙◌, rules}
use Rattle.relations.specs.Script.{then}
use Rattle.relations.specs.Terms.{times, just}
use Rattle.relations.proofs.Added.{adds_both}
use Rattle.relations.proofs.Then.{then_ok, then_err}
use Rattle.fp_var.specs.Numbers.{linear, scaled}
use Rattle.fp_var.proofs.select.weighted.Goals as goal

pub returns-in_err-y-clause-does : goal.returns-in_err-y-clause-does
returns-in_err-y-clause-does g c =
    let p = g.F.Field.modulus in
    let first = scaled p c.args.a c.args.v in
    let second = scaled p c.args.b c.args.w in
    let is : c.from_residual-in_err-y.result ≡ Err c.in_err-y.field-0.0 = search rules in
    then_ok p first (λ x. then second (λ y. linear (times 1 x ∷ just y))) _ _ _ c.in_ok-x.ensures.does
    ∙ then_err p second (λ y. linear (times 1 c.in_ok-x.x ∷ just y)) _ _ _ c.in_err-y.ensures.does
    ∙ ap (λ r. (r, g.S.System.meaning c.scaled-2.new.cs)) (sym is)

pub returns-in_err-y-clause-adds : goal.returns-in_err-y-clause-adds
returns-in_err-y-clause-adds g c = adds_both c.in_ok-x.ensures.adds c.in_err-y.ensures.adds

pub returns-clause-does : goal.returns-clause-does
returns-clause-does g c =
    let p = g.F.Field.modulus in
    let first = scaled p c.args.a c.args.v in
    let second = scaled p c.args.b c.args.w in
    then_ok p first (λ x. then second (λ y. linear (times 1 x ∷ just y))) _ _ _ c.in_ok-x.ensures.does
    ∙ then_ok p second (λ y. linear (times 1 c.in_ok-x.x ∷ just y)) _ _ _ c.in_ok-y.ensures.does
    ∙ c.both.ensures.does

pub returns-clause-adds : goal.returns-clause-adds
returns-clause-adds g c = adds_both (adds_both c.in_ok-x.ensures.adds c.in_ok-y.ensures.adds) c.both.ensures.adds
