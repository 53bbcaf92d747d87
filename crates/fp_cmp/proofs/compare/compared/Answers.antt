use Rattle.std.proofs.Common.{◌≡◌, Err, sym, ap, ◌∙◌, rules}
use Rattle.relations.specs.Script.{then}
use Rattle.relations.proofs.Added.{adds_both}
use Rattle.relations.proofs.Then.{then_ok, then_err}
use Rattle.fp_cmp.specs.Compare.{at_most_half, smaller}
use Rattle.fp_cmp.proofs.compare.compared.Goals as goal

pub returns-in_err-at_most_half-clause-does : goal.returns-in_err-at_most_half-clause-does
returns-in_err-at_most_half-clause-does g c =
    let p = g.F.Field.modulus in
    let end = g.S.System.meaning c.at_most_half.new.cs in
    let is : c.from_residual.result ≡ Err c.in_err-at_most_half.field-0.0 = search rules in
    then_err p (at_most_half p c.args.x) (λ u. then (at_most_half p c.args.y) (λ v. smaller p c.args.or_equal c.args.x c.args.y)) _ end _ c.in_err-at_most_half.ensures.does
    ∙ ap (λ r. (r, end)) (sym is)

pub returns-in_err-at_most_half-2-clause-does : goal.returns-in_err-at_most_half-2-clause-does
returns-in_err-at_most_half-2-clause-does g c =
    let p = g.F.Field.modulus in
    let end = g.S.System.meaning c.at_most_half-2.new.cs in
    let is : c.from_residual-in_err-at_most_half-2.result ≡ Err c.in_err-at_most_half-2.field-0.0 = search rules in
    then_ok p (at_most_half p c.args.x) (λ u. then (at_most_half p c.args.y) (λ v. smaller p c.args.or_equal c.args.x c.args.y)) _ _ _ c.in_ok-at_most_half.ensures.does
    ∙ then_err p (at_most_half p c.args.y) (λ v. smaller p c.args.or_equal c.args.x c.args.y) _ end _ c.in_err-at_most_half-2.ensures.does
    ∙ ap (λ r. (r, end)) (sym is)

pub returns-in_err-at_most_half-2-clause-adds : goal.returns-in_err-at_most_half-2-clause-adds
returns-in_err-at_most_half-2-clause-adds g c = adds_both c.in_ok-at_most_half.ensures.adds c.in_err-at_most_half-2.ensures.adds

pub returns-clause-does : goal.returns-clause-does
returns-clause-does g c =
    let p = g.F.Field.modulus in
    then_ok p (at_most_half p c.args.x) (λ u. then (at_most_half p c.args.y) (λ v. smaller p c.args.or_equal c.args.x c.args.y)) _ _ _ c.in_ok-at_most_half.ensures.does
    ∙ then_ok p (at_most_half p c.args.y) (λ v. smaller p c.args.or_equal c.args.x c.args.y) _ _ _ c.in_ok-at_most_half-2.ensures.does
    ∙ c.smaller.ensures.does

pub returns-clause-adds : goal.returns-clause-adds
returns-clause-adds g c = adds_both (adds_both c.in_ok-at_most_half.ensures.adds c.in_ok-at_most_half-2.ensures.adds) c.smaller.ensures.adds
