use Rattle.std.proofs.Common.{◌≡◌}
use Rattle.words.proofs.Cuts.{CutTo}
use Rattle.words.proofs.scan.Combinations.first.Given as goal

abbrev pub invariant-loop-rest : goal.invariant-loop-rest
invariant-loop-rest l = record {
  same : l.rest.words.now ≡ l.self.words.now;
  cut : CutTo l.k l.self.left l.rest.left l.rest.end l.self.end l.self.words.now;
}

abbrev pub decreases-loop-rest : goal.decreases-loop-rest
decreases-loop-rest l = l.rest.left
