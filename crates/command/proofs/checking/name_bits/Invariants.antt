use Rattle.std.proofs.Common.{◌≡◌, ◌+◌, ◌-◌}
use Rattle.command.specs.Decide.{are_bits}
use Rattle.command.proofs.checking.name_bits.Given as goal

abbrev pub invariant-loop-i : goal.invariant-loop-i
invariant-loop-i g l = are_bits (g.B.Kinds.kinds l.book) (l.first + l.i) (l.fn.range.count - l.i) ≡ are_bits (g.B.Kinds.kinds l.book) l.fn.range.first l.fn.range.count
