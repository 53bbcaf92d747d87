use Rattle.euclid.proofs.Signs.{Running}
use Rattle.euclid.proofs.inverse_of.Given as goal

abbrev pub invariant-loop-r1 : goal.invariant-loop-r1
invariant-loop-r1 l = Running l.p l.a l.r0 l.r1 l.t0 l.t1

abbrev pub decreases-loop-r1 : goal.decreases-loop-r1
decreases-loop-r1 l = l.r1
