use Rattle.std.proofs.Common.{◌≡◌, drop}
use Rattle.relations.specs.Meaning.{Adds}
use Rattle.relations.specs.Script.{run}
use Rattle.gates.specs.Kary.{chain_from}
use Rattle.gates.proofs.sum.chain_from.Given as goal

abbrev pub invariant-loop-bit : goal.invariant-loop-bit
invariant-loop-bit g l =
    let p = g.F.Field.modulus in
    record {
      does : run p (chain_from l.gate p l.joined (drop l.bit-index l.rest)) (g.S.System.meaning l.cs) ≡ run p (chain_from l.gate p l.fn.first l.rest) (g.S.System.meaning l.initial.cs);
      adds : Adds g.S.System.meaning g.S.System.stored g.S.System.knows l.initial.cs l.cs;
    }
