use Rattle.std.proofs.Common.{◌≡◌, ◌+◌, ◌%◌, drop}
use Rattle.fp_bits.specs.Digits.{constants_weight, first_weight}
use Rattle.fp_bits.proofs.spelled.constants_weight.Given as goal

abbrev pub invariant-loop-bit : goal.invariant-loop-bit
invariant-loop-bit g l =
    let p = g.F.Field.modulus in
    let number = g.F.Field.number in
    (number l.sum + constants_weight p (number l.weight) (drop l.bit-index l.bits)) % p ≡ constants_weight p (first_weight p) l.bits
