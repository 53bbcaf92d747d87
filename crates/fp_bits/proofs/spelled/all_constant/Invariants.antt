use Rattle.std.proofs.Common.{◌≡◌, drop}
use Rattle.gates.specs.Kary.{all_constant}
use Rattle.fp_bits.proofs.spelled.all_constant.Given as goal

abbrev pub invariant-loop-bit : goal.invariant-loop-bit
invariant-loop-bit l = all_constant (drop l.bit-index l.bits) ≡ all_constant l.bits
