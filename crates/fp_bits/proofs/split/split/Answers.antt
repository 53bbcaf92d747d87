use Rattle.std.proofs.Common.{◌≡◌, Err, sym, ap, ◌∙◌, rules}
use Rattle.relations.specs.Script.{answer, run, then, over}
use Rattle.relations.proofs.Added.{adds_both}
use Rattle.relations.proofs.Then.{then_ok, then_err}
use Rattle.fp_bits.specs.Bits.{new_digits}
use Rattle.fp_bits.specs.Listed.{bits_listed}
use Rattle.fp_bits.proofs.Splits.{bits_few, sum_row, after_digits}
use Rattle.fp_bits.proofs.split.split.Goals as goal

pub new_digits-requires : goal.new_digits-requires
new_digits-requires g c = bits_few g.F.Field.modulus c.bits.result c.bits.ensures.is

pub returns-in_err-bits-clause-does : goal.returns-in_err-bits-clause-does
returns-in_err-bits-clause-does g c =
    let p = g.F.Field.modulus in
    let a = c.args.variable in
    let end = g.S.System.meaning c.new_digits.new.cs in
    let is : c.from_residual.result ≡ Err c.in_err-bits.field-0.0 = search rules in
    (λ i. run p (then (new_digits p a 0 (sym c.bits.ensures.is i)) (after_digits p a)) (g.S.System.meaning c.args.cs.now))
    ∙ then_err p (new_digits p a 0 c.bits.result) (after_digits p a) _ end _ c.in_err-bits.ensures.does
    ∙ ap (λ r. (over bits_listed r, end)) (sym is)

pub returns-in_err-sum_row-clause-does : goal.returns-in_err-sum_row-clause-does
returns-in_err-sum_row-clause-does g c =
    let p = g.F.Field.modulus in
    let a = c.args.variable in
    let bs = bits_listed c.in_ok-bits.bits in
    let middle = g.S.System.meaning c.new_digits.new.cs in
    let end = g.S.System.meaning c.sum_row.new.cs in
    let is : c.from_residual-in_err-sum_row.result ≡ Err c.in_err-sum_row.field-0.0 = search rules in
    (λ i. run p (then (new_digits p a 0 (sym c.bits.ensures.is i)) (after_digits p a)) (g.S.System.meaning c.args.cs.now))
    ∙ then_ok p (new_digits p a 0 c.bits.result) (after_digits p a) _ middle bs c.in_ok-bits.ensures.does
    ∙ then_err p (sum_row p a bs) (λ u. answer bs) middle end _ ((λ i. run p (sum_row p a (sym c.as_slice.ensures i)) middle) ∙ c.in_err-sum_row.ensures.does)
    ∙ ap (λ r. (over bits_listed r, end)) (sym is)

pub returns-in_err-sum_row-clause-adds : goal.returns-in_err-sum_row-clause-adds
returns-in_err-sum_row-clause-adds g c = adds_both c.in_ok-bits.ensures.adds c.in_err-sum_row.ensures.adds

pub returns-clause-does : goal.returns-clause-does
returns-clause-does g c =
    let p = g.F.Field.modulus in
    let a = c.args.variable in
    let bs = bits_listed c.in_ok-bits.bits in
    let middle = g.S.System.meaning c.new_digits.new.cs in
    (λ i. run p (then (new_digits p a 0 (sym c.bits.ensures.is i)) (after_digits p a)) (g.S.System.meaning c.args.cs.now))
    ∙ then_ok p (new_digits p a 0 c.bits.result) (after_digits p a) _ middle bs c.in_ok-bits.ensures.does
    ∙ then_ok p (sum_row p a bs) (λ u. answer bs) middle _ _ ((λ i. run p (sum_row p a (sym c.as_slice.ensures i)) middle) ∙ c.in_ok-sum_row.ensures.does)

pub returns-clause-adds : goal.returns-clause-adds
returns-clause-adds g c = adds_both c.in_ok-bits.ensures.adds c.in_ok-sum_row.ensures.adds
