use Rattle.std.proofs.Common.{◌≡◌, Err, sym, ap, ◌∙◌, rules}
use Rattle.relations.specs.Script.{run, then}
use Rattle.relations.specs.Terms.{less}
use Rattle.relations.proofs.Added.{adds_both}
use Rattle.relations.proofs.Then.{then_ok, then_err}
use Rattle.allocated.specs.Gates.{difference_rows}
use Rattle.fp.specs.Equality.{loose_difference, new_multiplier}
use Rattle.fp.proofs.number.AllocatedFp.differ_steps.Goals as goal

pub returns-in_err-differs-clause-does : goal.returns-in_err-differs-clause-does
returns-in_err-differs-clause-does g c =
    let p = g.F.Field.modulus in
    let x = c.args.self.variable in
    let y = c.args.other.variable in
    let is : c.from_residual.result ≡ Err c.in_err-differs.field-0.0 = search rules in
    then_err p (loose_difference x y) (λ w. then (new_multiplier p x y) (λ m. difference_rows p (less p x y) m w.variable)) _ _ _ c.in_err-differs.ensures.does ∙ ap (λ r. (r, g.S.System.meaning c.loose_difference.new.cs)) (sym is)

pub returns-in_err-differs-2-clause-does : goal.returns-in_err-differs-2-clause-does
returns-in_err-differs-2-clause-does g c =
    let p = g.F.Field.modulus in
    let x = c.args.self.variable in
    let y = c.args.other.variable in
    let w = c.in_ok-differs.differs in
    let end = g.S.System.meaning c.multiplier-multiplier.new.cs in
    let is : c.from_residual-in_err-differs-2.result ≡ Err c.in_err-differs-2.field-0.0 = search rules in
    then_ok p (loose_difference x y) (λ w. then (new_multiplier p x y) (λ m. difference_rows p (less p x y) m w.variable)) _ _ _ c.in_ok-differs.ensures.does
    ∙ then_err p (new_multiplier p x y) (λ m. difference_rows p (less p x y) m w.variable) _ end _ (c.multiplier-multiplier.ensures.does ∙ ap (λ r. (r, end)) c.in_err-differs-2.ensures.answer)
    ∙ ap (λ r. (r, end)) (sym is)

pub returns-in_err-differs-2-clause-adds : goal.returns-in_err-differs-2-clause-adds
returns-in_err-differs-2-clause-adds g c = adds_both c.in_ok-differs.ensures.adds c.multiplier-multiplier.ensures.adds

pub returns-clause-does : goal.returns-clause-does
returns-clause-does g c =
    let p = g.F.Field.modulus in
    let x = c.args.self.variable in
    let y = c.args.other.variable in
    let w = c.in_ok-differs.differs in
    let end = g.S.System.meaning c.multiplier-multiplier.new.cs in
    let m = c.in_ok-differs-2.multiplier in
    then_ok p (loose_difference x y) (λ w. then (new_multiplier p x y) (λ m. difference_rows p (less p x y) m w.variable)) _ _ _ c.in_ok-differs.ensures.does
    ∙ then_ok p (new_multiplier p x y) (λ m. difference_rows p (less p x y) m w.variable) _ end m (c.multiplier-multiplier.ensures.does ∙ ap (λ r. (r, end)) c.in_ok-differs-2.ensures.answer)
    ∙ (λ i. run p (difference_rows p (sym c.less.ensures i) m (sym c.in_ok-differs-2.ensures.bit i).variable) end)
    ∙ c.enforce_difference.ensures.does

pub returns-clause-adds : goal.returns-clause-adds
returns-clause-adds g c = adds_both (adds_both c.in_ok-differs.ensures.adds c.multiplier-multiplier.ensures.adds) c.enforce_difference.ensures.adds
