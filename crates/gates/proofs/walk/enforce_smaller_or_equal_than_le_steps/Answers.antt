use Rattle.std.proofs.Common.{◌≡◌, true, [], drop, Err, sym, ap, ◌∙◌, rules}
use Rattle.relations.specs.Script.{run, then}
use Rattle.relations.proofs.Added.{adds_both}
use Rattle.relations.proofs.Then.{then_ok, then_err}
use Rattle.boolean.specs.declared.bits.Boolean.TheVariants.{Constant}
use Rattle.gates.specs.Walk.{above_script, descent}
use Rattle.gates.proofs.walk.enforce_smaller_or_equal_than_le_steps.Goals as goal

pub returns-in_err-none_above-clause-does : goal.returns-in_err-none_above-clause-does
returns-in_err-none_above-clause-does g c =
    let p = g.F.Field.modulus in
    let e = c.args.element in
    let bs = c.args.bits.now in
    let top = c.bits_up_to-top.result in
    let end = g.S.System.meaning c.none_above.new.cs in
    let is : c.from_residual.result ≡ Err c.in_err-none_above.field-0.0 = search rules in
    (λ i. run p (then (above_script p (drop (sym c.bits_up_to-top.ensures.counts i) bs)) (λ u. descent p e (sym c.bits_up_to-top.ensures.counts i) bs (Constant true) [])) (g.S.System.meaning c.args.cs.now))
    ∙ then_err p (above_script p (drop top bs)) (λ u. descent p e top bs (Constant true) []) _ end _ c.in_err-none_above.ensures.does
    ∙ ap (λ r. (r, end)) (sym is)

pub returns-clause-does : goal.returns-clause-does
returns-clause-does g c =
    let p = g.F.Field.modulus in
    let e = c.args.element in
    let bs = c.args.bits.now in
    let top = c.bits_up_to-top.result in
    (λ i. run p (then (above_script p (drop (sym c.bits_up_to-top.ensures.counts i) bs)) (λ u. descent p e (sym c.bits_up_to-top.ensures.counts i) bs (Constant true) [])) (g.S.System.meaning c.args.cs.now))
    ∙ then_ok p (above_script p (drop top bs)) (λ u. descent p e top bs (Constant true) []) _ _ _ c.in_ok-none_above.ensures.does
    ∙ c.descend.ensures.does

pub returns-clause-adds : goal.returns-clause-adds
returns-clause-adds g c = adds_both c.in_ok-none_above.ensures.adds c.descend.ensures.adds
