use Rattle.std.proofs.Common.{◌≡◌, Err, sym, ap, ◌∙◌, rules}
use Rattle.relations.specs.Script.{run}
use Rattle.relations.proofs.Added.{adds_both}
use Rattle.relations.proofs.Then.{then_ok, then_err}
use Rattle.boolean.specs.Booleans.{not_script}
use Rattle.fp_cmp.specs.Compare.{lowest_of_double, smaller}
use Rattle.fp_cmp.proofs.compare.smaller.Goals as goal

pub returns-in_err-lowest_of_double-clause-does : goal.returns-in_err-lowest_of_double-clause-does
returns-in_err-lowest_of_double-clause-does g c =
    let p = g.F.Field.modulus in
    let end = g.S.System.meaning c.lowest_of_double.new.cs in
    let is : c.from_residual.result ≡ Err c.in_err-lowest_of_double.field-0.0 = search rules in
    ap (λ f. run p (smaller p f c.args.x c.args.y) (g.S.System.meaning c.args.cs.now)) c.if-or_equal.true
    ∙ then_err p (lowest_of_double p c.args.y c.args.x) (not_script p) _ end _ c.in_err-lowest_of_double.ensures.does
    ∙ ap (λ r. (r, end)) (sym is)

pub returns-in_ok-lowest_of_double-clause-does : goal.returns-in_ok-lowest_of_double-clause-does
returns-in_ok-lowest_of_double-clause-does g c =
    let p = g.F.Field.modulus in
    ap (λ f. run p (smaller p f c.args.x c.args.y) (g.S.System.meaning c.args.cs.now)) c.if-or_equal.true
    ∙ then_ok p (lowest_of_double p c.args.y c.args.x) (not_script p) _ _ _ c.in_ok-lowest_of_double.ensures.does
    ∙ c.not_steps.ensures.does

pub returns-in_ok-lowest_of_double-clause-adds : goal.returns-in_ok-lowest_of_double-clause-adds
returns-in_ok-lowest_of_double-clause-adds g c = adds_both c.in_ok-lowest_of_double.ensures.adds c.not_steps.ensures.adds
