use Rattle.std.proofs.Common.{◌≡◌, drop}
use Rattle.gates.proofs.Folds.{folds}
use Rattle.gates.proofs.wide.Wide.folded.Given as goal

abbrev pub invariant-loop-member : goal.invariant-loop-member
invariant-loop-member l = folds l.self l.value (drop l.member-index l.members) ≡ folds l.self l.initial.value l.members
