use Rattle.std.proofs.Common.{◌≡◌, Err, sym, ap, ◌∙◌, rules}
use Rattle.relations.specs.declared.term.Variable.TheVariants.{One}
use Rattle.relations.specs.Script.{answer, row}
use Rattle.relations.specs.Terms.{just}
use Rattle.relations.proofs.Added.{adds_both}
use Rattle.relations.proofs.Then.{then_ok, then_err}
use Rattle.boolean.specs.Booleans.{bit_terms}
use Rattle.fp_cmp.specs.Compare.{compared}
use Rattle.fp_cmp.proofs.compare.forced_by_row.Goals as goal

pub returns-in_err-holds-clause-does : goal.returns-in_err-holds-clause-does
returns-in_err-holds-clause-does g c =
    let p = g.F.Field.modulus in
    let end = g.S.System.meaning c.compared.new.cs in
    let is : c.from_residual.result ≡ Err c.in_err-holds.field-0.0 = search rules in
    then_err p (compared p c.args.or_equal c.args.x c.args.y) (λ b. row (bit_terms b) (just One) (just One) (answer tt)) _ end _ c.in_err-holds.ensures.does
    ∙ ap (λ r. (r, end)) (sym is)

pub returns-clause-does : goal.returns-clause-does
returns-clause-does g c =
    let p = g.F.Field.modulus in
    then_ok p (compared p c.args.or_equal c.args.x c.args.y) (λ b. row (bit_terms b) (just One) (just One) (answer tt)) _ _ _ c.in_ok-holds.ensures.does
    ∙ c.one_row.ensures.does

pub returns-clause-adds : goal.returns-clause-adds
returns-clause-adds g c = adds_both c.in_ok-holds.ensures.adds c.one_row.ensures.adds
