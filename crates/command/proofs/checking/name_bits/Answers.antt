use Rattle.command.proofs.Ranges.{past_bit}
use Rattle.command.proofs.checking.name_bits.Goals as goal

pub loop-i-preserved : goal.loop-i-preserved
loop-i-preserved g c = past_bit (g.B.Kinds.kinds c.args.book.now) c.args.range.first c.into-first.result c.loop-i.i c.args.range.count c.into-first.ensures c.loop-i-test.true c.if-not-names_bit.ensures c.loop-i.invariant
