use Rattle.std.proofs.Common.{◌≡◌, ◌-◌, ◌++◌, length, take}
use Rattle.relations.specs.Meaning.{Adds}
use Rattle.relations.specs.Script.{run, then, answer}
use Rattle.fp_bits.specs.declared.bits.TheConstants.{MOST_BITS}
use Rattle.fp_bits.specs.Bits.{new_digits}
use Rattle.fp_bits.proofs.digits.new_digits.Given as goal

abbrev pub invariant-loop-place : goal.invariant-loop-place
invariant-loop-place g l =
    let p = g.F.Field.modulus in
    record {
      long : length l.list ≡ MOST_BITS;
      does : run p (then (new_digits p l.variable l.place (l.count - l.place)) (λ bs. answer (take l.place l.list ++ bs))) (g.S.System.meaning l.cs) ≡ run p (new_digits p l.variable 0 l.count) (g.S.System.meaning l.initial.cs);
      adds : Adds g.S.System.meaning g.S.System.stored g.S.System.knows l.initial.cs l.cs;
    }
