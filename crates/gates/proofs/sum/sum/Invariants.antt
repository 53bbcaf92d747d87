use Rattle.std.proofs.Common.{◌≡◌, ◌≤◌, length, drop, take}
use Rattle.relations.specs.Meaning.{Adds}
use Rattle.relations.specs.Script.{run, then, combine}
use Rattle.gates.specs.declared.members.TheConstants.{MOST_MEMBERS}
use Rattle.gates.specs.Kary.{summands, topped, ones, sum_script}
use Rattle.gates.proofs.sum.sum.Given as goal

abbrev pub invariant-loop-bit : goal.invariant-loop-bit
invariant-loop-bit g l =
    let p = g.F.Field.modulus in
    record {
      long : length l.terms ≡ MOST_MEMBERS;
      few : l.count ≤ l.bit-index;
      does : run p (then (summands (drop l.bit-index l.bits) (take l.count l.terms)) (λ ts. combine ts (λ s. topped (ones l.bits) s))) (g.S.System.meaning l.cs) ≡ run p (sum_script l.bits) (g.S.System.meaning l.initial.cs);
      adds : Adds g.S.System.meaning g.S.System.stored g.S.System.knows l.initial.cs l.cs;
    }
