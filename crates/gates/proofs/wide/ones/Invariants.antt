use Rattle.std.proofs.Common.{◌≡◌, ◌+◌, ◌≤◌, drop}
use Rattle.gates.specs.Kary.{ones}
use Rattle.gates.proofs.wide.ones.Given as goal

abbrev pub invariant-loop-member : goal.invariant-loop-member
invariant-loop-member l = record { so_far : l.count + ones (drop l.member-index l.members) ≡ ones l.members; few : l.count ≤ l.member-index }
