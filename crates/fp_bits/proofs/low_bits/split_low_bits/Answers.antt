use Rattle.std.proofs.Common.{◌≡◌, Err, sym, ap, ◌∙◌, rules}
use Rattle.relations.specs.Script.{answer, run, then, over}
use Rattle.relations.proofs.Added.{adds_both}
use Rattle.relations.proofs.Then.{then_ok, then_err}
use Rattle.fp_var.specs.declared.numbers.FpVar.TheVariants.{Var}
use Rattle.fp_var.specs.Numbers.{sub_script}
use Rattle.fp_bits.specs.Bits.{new_digits, le_bits_script, nothing_left}
use Rattle.fp_bits.specs.Listed.{bits_listed}
use Rattle.fp_bits.proofs.Splits.{after_bits, after_low, after_rest}
use Rattle.fp_bits.proofs.low_bits.split_low_bits.Goals as goal

pub returns-in_err-bits-clause-does : goal.returns-in_err-bits-clause-does
returns-in_err-bits-clause-does g c =
    let p = g.F.Field.modulus in
    let a = c.args.number in
    let k = c.args.count in
    let end = g.S.System.meaning c.new_digits.new.cs in
    let is : c.from_residual.result ≡ Err c.in_err-bits.field-0.0 = search rules in
    (λ i. run p (then (new_digits p (sym c.variable.ensures i) 0 k) (after_bits p a)) (g.S.System.meaning c.args.cs.now))
    ∙ then_err p (new_digits p c.variable.result 0 k) (after_bits p a) _ end _ c.in_err-bits.ensures.does
    ∙ ap (λ r. (over (λ r. (bits_listed r.0, r.1)) r, end)) (sym is)

pub returns-in_err-low-clause-does : goal.returns-in_err-low-clause-does
returns-in_err-low-clause-does g c =
    let p = g.F.Field.modulus in
    let a = c.args.number in
    let k = c.args.count in
    let bs = bits_listed c.in_ok-bits.bits in
    let first = g.S.System.meaning c.new_digits.new.cs in
    let end = g.S.System.meaning c.spelled.new.cs in
    let is : c.from_residual-in_err-low.result ≡ Err c.in_err-low.field-0.0 = search rules in
    (λ i. run p (then (new_digits p (sym c.variable.ensures i) 0 k) (after_bits p a)) (g.S.System.meaning c.args.cs.now))
    ∙ then_ok p (new_digits p c.variable.result 0 k) (after_bits p a) _ first bs c.in_ok-bits.ensures.does
    ∙ then_err p (le_bits_script p bs) (after_low p a bs) first end _ ((λ i. run p (le_bits_script p (sym c.as_slice.ensures i)) first) ∙ c.in_err-low.ensures.does)
    ∙ ap (λ r. (over (λ r. (bits_listed r.0, r.1)) r, end)) (sym is)

pub returns-in_err-low-clause-adds : goal.returns-in_err-low-clause-adds
returns-in_err-low-clause-adds g c = adds_both c.in_ok-bits.ensures.adds c.in_err-low.ensures.adds

pub returns-in_err-rest-clause-does : goal.returns-in_err-rest-clause-does
returns-in_err-rest-clause-does g c =
    let p = g.F.Field.modulus in
    let a = c.args.number in
    let k = c.args.count in
    let bs = bits_listed c.in_ok-bits.bits in
    let x = c.in_ok-low.low in
    let first = g.S.System.meaning c.new_digits.new.cs in
    let second = g.S.System.meaning c.spelled.new.cs in
    let end = g.S.System.meaning c.sub_steps.new.cs in
    let is : c.from_residual-in_err-rest.result ≡ Err c.in_err-rest.field-0.0 = search rules in
    (λ i. run p (then (new_digits p (sym c.variable.ensures i) 0 k) (after_bits p a)) (g.S.System.meaning c.args.cs.now))
    ∙ then_ok p (new_digits p c.variable.result 0 k) (after_bits p a) _ first bs c.in_ok-bits.ensures.does
    ∙ then_ok p (le_bits_script p bs) (after_low p a bs) first second x ((λ i. run p (le_bits_script p (sym c.as_slice.ensures i)) first) ∙ c.in_ok-low.ensures.does)
    ∙ then_err p (sub_script p (Var a) x) (after_rest p bs) second end _ c.in_err-rest.ensures.does
    ∙ ap (λ r. (over (λ r. (bits_listed r.0, r.1)) r, end)) (sym is)

pub returns-in_err-rest-clause-adds : goal.returns-in_err-rest-clause-adds
returns-in_err-rest-clause-adds g c = adds_both (adds_both c.in_ok-bits.ensures.adds c.in_ok-low.ensures.adds) c.in_err-rest.ensures.adds

pub returns-in_err-nothing_left-clause-does : goal.returns-in_err-nothing_left-clause-does
returns-in_err-nothing_left-clause-does g c =
    let p = g.F.Field.modulus in
    let a = c.args.number in
    let k = c.args.count in
    let bs = bits_listed c.in_ok-bits.bits in
    let x = c.in_ok-low.low in
    let r = c.in_ok-rest.rest in
    let first = g.S.System.meaning c.new_digits.new.cs in
    let second = g.S.System.meaning c.spelled.new.cs in
    let third = g.S.System.meaning c.sub_steps.new.cs in
    let end = g.S.System.meaning c.nothing_left.new.cs in
    let is : c.from_residual-in_err-nothing_left.result ≡ Err c.in_err-nothing_left.field-0.0 = search rules in
    (λ i. run p (then (new_digits p (sym c.variable.ensures i) 0 k) (after_bits p a)) (g.S.System.meaning c.args.cs.now))
    ∙ then_ok p (new_digits p c.variable.result 0 k) (after_bits p a) _ first bs c.in_ok-bits.ensures.does
    ∙ then_ok p (le_bits_script p bs) (after_low p a bs) first second x ((λ i. run p (le_bits_script p (sym c.as_slice.ensures i)) first) ∙ c.in_ok-low.ensures.does)
    ∙ then_ok p (sub_script p (Var a) x) (after_rest p bs) second third r c.in_ok-rest.ensures.does
    ∙ then_err p (nothing_left p r) (λ u. answer (bs, r)) third end _ c.in_err-nothing_left.ensures.does
    ∙ ap (λ r. (over (λ r. (bits_listed r.0, r.1)) r, end)) (sym is)

pub returns-in_err-nothing_left-clause-adds : goal.returns-in_err-nothing_left-clause-adds
returns-in_err-nothing_left-clause-adds g c = adds_both (adds_both (adds_both c.in_ok-bits.ensures.adds c.in_ok-low.ensures.adds) c.in_ok-rest.ensures.adds) c.in_err-nothing_left.ensures.adds

pub returns-clause-does : goal.returns-clause-does
returns-clause-does g c =
    let p = g.F.Field.modulus in
    let a = c.args.number in
    let k = c.args.count in
    let bs = bits_listed c.in_ok-bits.bits in
    let x = c.in_ok-low.low in
    let r = c.in_ok-rest.rest in
    let first = g.S.System.meaning c.new_digits.new.cs in
    let second = g.S.System.meaning c.spelled.new.cs in
    let third = g.S.System.meaning c.sub_steps.new.cs in
    (λ i. run p (then (new_digits p (sym c.variable.ensures i) 0 k) (after_bits p a)) (g.S.System.meaning c.args.cs.now))
    ∙ then_ok p (new_digits p c.variable.result 0 k) (after_bits p a) _ first bs c.in_ok-bits.ensures.does
    ∙ then_ok p (le_bits_script p bs) (after_low p a bs) first second x ((λ i. run p (le_bits_script p (sym c.as_slice.ensures i)) first) ∙ c.in_ok-low.ensures.does)
    ∙ then_ok p (sub_script p (Var a) x) (after_rest p bs) second third r c.in_ok-rest.ensures.does
    ∙ then_ok p (nothing_left p r) (λ u. answer (bs, r)) third _ _ c.in_ok-nothing_left.ensures.does

pub returns-clause-adds : goal.returns-clause-adds
returns-clause-adds g c = adds_both (adds_both (adds_both c.in_ok-bits.ensures.adds c.in_ok-low.ensures.adds) c.in_ok-rest.ensures.adds) c.in_ok-nothing_left.ensures.adds
