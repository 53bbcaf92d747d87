use Rattle.std.proofs.Common.{◌≡◌, ◌≤◌, length, drop, take}
use Rattle.relations.specs.Meaning.{Adds}
use Rattle.relations.specs.Script.{run, then, combine}
use Rattle.fp_var.specs.Numbers.{add_constant}
use Rattle.fp_bits.specs.declared.bits.TheConstants.{MOST_BITS}
use Rattle.fp_bits.specs.Digits.{constants_weight, first_weight}
use Rattle.fp_bits.specs.Bits.{weighed, gathered}
use Rattle.fp_bits.proofs.spelled.gathered.Given as goal

abbrev pub invariant-loop-bit : goal.invariant-loop-bit
invariant-loop-bit g l =
    let p = g.F.Field.modulus in
    record {
      long : length l.terms ≡ MOST_BITS;
      few : l.count ≤ l.bit-index;
      does : run p (then (weighed p (g.F.Field.number l.next) (drop l.bit-index l.bits) (take l.count l.terms)) (λ ts. combine ts (λ s. add_constant p (constants_weight p (first_weight p) l.bits) s))) (g.S.System.meaning l.cs) ≡ run p (gathered p l.bits) (g.S.System.meaning l.initial.cs);
      adds : Adds g.S.System.meaning g.S.System.stored g.S.System.knows l.initial.cs l.cs;
    }
