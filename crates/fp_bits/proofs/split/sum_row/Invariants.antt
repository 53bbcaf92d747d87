use Rattle.std.proofs.Common.{◌≡◌, ◌+◌, ◌≤◌, ◌++◌, length, drop, take}
use Rattle.fp_bits.specs.declared.bits.TheConstants.{MOST_BITS}
use Rattle.fp_bits.specs.Digits.{first_weight}
use Rattle.fp_bits.specs.Bits.{weighted}
use Rattle.fp_bits.proofs.split.sum_row.Given as goal

abbrev pub invariant-loop-bit : goal.invariant-loop-bit
invariant-loop-bit g l =
    let p = g.F.Field.modulus in
    record {
      long : length l.terms ≡ MOST_BITS + 1;
      few : l.count ≤ l.bit-index;
      so_far : take l.count l.terms ++ weighted p (g.F.Field.number l.next) (drop l.bit-index l.bits) ≡ weighted p (first_weight p) l.bits;
    }
