use Rattle.std.proofs.Common.{◌≡◌, ◌-◌, ◌++◌, length, take}
use Rattle.fp_bits.specs.declared.bits.TheConstants.{MOST_BITS}
use Rattle.fp_bits.specs.Digits.{constant_bits}
use Rattle.fp_bits.proofs.digits.constant_bits.Given as goal

abbrev pub invariant-loop-place : goal.invariant-loop-place
invariant-loop-place l =
    record {
      long : length l.list ≡ MOST_BITS;
      so_far : take l.place l.list ++ constant_bits (l.count - l.place) l.rest ≡ constant_bits l.count l.constant;
    }
