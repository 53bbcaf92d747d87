use Rattle.std.proofs.Common.{◌≡◌, ◌+◌, ◌<◌, ◌≤◌, ◌∷◌, [], ◌++◌, length, take, Err, sym, ap, ◌∙◌, arith, rules}
use Rattle.std.proofs.Math.ListN.{length-set}
use Rattle.std.proofs.lemmas.List.{take_more_set}
use Rattle.relations.specs.Script.{run, then, combine}
use Rattle.relations.proofs.Added.{adds_both}
use Rattle.fp_var.specs.Numbers.{copied, scaled, add_constant}
use Rattle.fp_bits.specs.Digits.{constants_weight, first_weight}
use Rattle.fp_bits.proofs.Weights.{weighed_takes, weighed_stops}
use Rattle.fp_bits.proofs.spelled.gathered.Goals as goal

pub returns-in_err-weighed_bit-clause-does : goal.returns-in_err-weighed_bit-clause-does
returns-in_err-weighed_bit-clause-does g c =
    let p = g.F.Field.modulus in
    let number = g.F.Field.number in
    let l = c.loop-bit in
    let bs = c.args.bits.now in
    let m = g.S.System.meaning l.cs in
    let end = g.S.System.meaning c.weighed_bit.new.cs in
    let is : c.from_residual.result ≡ Err c.in_err-weighed_bit.field-0.0 = search rules in
    sym l.invariant.does
    ∙ weighed_stops p (number l.next) _ (λ ts. combine ts (λ s. add_constant p (constants_weight p (first_weight p) bs) s)) (take l.count l.terms) _ bs l.bit-index m c.loop-bit-test.true c.double-next.ensures
    c.in-Var.a c.in_err-weighed_bit.field-0.0 end c.in-Var.is
    ((λ i. run p (then (copied (sym c.variable.ensures i)) (λ x. scaled p (sym c.to_number-weight.ensures i) x)) m) ∙ c.in_err-weighed_bit.ensures.does)
    ∙ ap (λ r. (r, end)) (sym is)

pub returns-in_err-weighed_bit-clause-adds : goal.returns-in_err-weighed_bit-clause-adds
returns-in_err-weighed_bit-clause-adds g c = adds_both c.loop-bit.invariant.adds c.in_err-weighed_bit.ensures.adds

pub loop-bit-preserved : goal.loop-bit-preserved
loop-bit-preserved g c =
    let p = g.F.Field.modulus in
    let number = g.F.Field.number in
    let l = c.loop-bit in
    let bs = c.args.bits.now in
    let m = g.S.System.meaning l.cs in
    let room : l.count < length l.terms = omega arith in
    let few : l.count + 1 ≤ l.bit-index + 1 = omega arith in
    record {
      long = length-set l.terms l.count c.times.result ∙ l.invariant.long;
      few = few;
      does = sym
          (weighed_takes p (number l.next) _ (λ ts. combine ts (λ s. add_constant p (constants_weight p (first_weight p) bs) s)) (take l.count l.terms) _ bs l.bit-index m c.loop-bit-test.true c.double-next.ensures
          c.in-Var.a c.in_ok-weighed_bit.field-0 _ (g.S.System.meaning c.weighed_bit.new.cs) c.in-Var.is
          ((λ i. run p (then (copied (sym c.variable.ensures i)) (λ x. scaled p (sym c.to_number-weight.ensures i) x)) m) ∙ c.in_ok-weighed_bit.ensures.does)
          (take_more_set l.terms l.count c.times.result room ∙ ap (λ t. take l.count l.terms ++ (t ∷ [])) c.times.ensures))
          ∙ l.invariant.does;
      adds = adds_both l.invariant.adds c.in_ok-weighed_bit.ensures.adds;
    }

pub returns-in_err-sum-clause-adds : goal.returns-in_err-sum-clause-adds
returns-in_err-sum-clause-adds g c = adds_both c.loop-bit.invariant.adds c.in_err-sum.ensures.adds

pub returns-clause-adds : goal.returns-clause-adds
returns-clause-adds g c = adds_both (adds_both c.loop-bit.invariant.adds c.in_ok-sum.ensures.adds) c.add_steps.ensures.adds
