use Rattle.std.proofs.Common.{◌≡◌}
use Rattle.gates.specs.Walk.{bits_up_to}
use Rattle.gates.proofs.walk.bits_up_to.Given as goal

abbrev pub invariant-loop-place : goal.invariant-loop-place
invariant-loop-place l = bits_up_to l.number l.place ≡ bits_up_to l.number l.most
