use Rattle.std.proofs.Common.{◌≡◌, ◌+◌, ◌≤◌, true, [], length, take}
use Rattle.relations.specs.Meaning.{Adds}
use Rattle.relations.specs.Script.{run}
use Rattle.boolean.specs.declared.bits.Boolean.TheVariants.{Constant}
use Rattle.gates.specs.declared.members.TheConstants.{MOST_MEMBERS}
use Rattle.gates.specs.Walk.{descent}
use Rattle.gates.proofs.walk.descend.Given as goal

abbrev pub invariant-loop-i : goal.invariant-loop-i
invariant-loop-i g l =
    let p = g.F.Field.modulus in
    record {
      long : length l.gathered ≡ MOST_MEMBERS;
      room : l.count + l.i ≤ l.top;
      does : run p (descent p l.element l.i l.bits l.last (take l.count l.gathered)) (g.S.System.meaning l.cs) ≡ run p (descent p l.element l.top l.bits (Constant true) []) (g.S.System.meaning l.initial.cs);
      adds : Adds g.S.System.meaning g.S.System.stored g.S.System.knows l.initial.cs l.cs;
    }
