use Rattle.std.proofs.Common.{◌≡◌, length}
use Rattle.words.specs.Counting.{left}
use Rattle.words.proofs.merge.CountingIterator.next.Given as goal

abbrev pub invariant-loop-t : goal.invariant-loop-t
invariant-loop-t l = left l.self ≡ left l.initial.self

abbrev pub decreases-loop-t : goal.decreases-loop-t
decreases-loop-t l = length l.self.rest.now
