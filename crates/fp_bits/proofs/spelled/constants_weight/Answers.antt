use Rattle.std.proofs.Common.{sym, ◌∙◌}
use Rattle.arith.proofs.Bits.{pos_of_prime}
use Rattle.fp_bits.proofs.Weights.{weight_begins, weight_counts, weight_ends}
use Rattle.fp_bits.proofs.spelled.constants_weight.Goals as goal

pub loop-bit-init : goal.loop-bit-init
loop-bit-init g c =
    let laws = g.F.Field.laws in
    weight_begins g.F.Field.modulus _ _ c.args.bits.now laws.prime.0 (pos_of_prime laws.prime) c.zero-sum.ensures c.one-weight.ensures

pub loop-bit-preserved : goal.loop-bit-preserved
loop-bit-preserved g c =
    let number = g.F.Field.number in
    let l = c.loop-bit in
    weight_counts g.F.Field.modulus (number l.sum) (number l.weight) _ _ _ _ c.args.bits.now l.bit-index (pos_of_prime g.F.Field.laws.prime) c.loop-bit-test.true c.counted.ensures c.add-sum.ensures c.double-weight.ensures
    ∙ l.invariant

pub returns : goal.returns
returns g c =
    let number = g.F.Field.number in
    let l = c.loop-bit in
    c.to_number.ensures
    ∙ sym (weight_ends g.F.Field.modulus (number l.sum) (number l.weight) c.args.bits.now l.bit-index (g.F.Field.laws.below l.sum) c.loop-bit-test.false)
    ∙ l.invariant
