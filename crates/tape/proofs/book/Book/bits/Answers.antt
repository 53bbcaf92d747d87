use Rattle.std.proofs.Common.{rules}
use Rattle.tape.specs.Book.{held_by}
use Rattle.tape.proofs.Gathered.{one_more}
use Rattle.tape.proofs.book.Book.bits.Goals as goal

pub loop-i-preserved : goal.loop-i-preserved
loop-i-preserved c = one_more (held_by c.args.self.now) c.into-first.result c.loop-i.i c.loop-i.bits c.bit.result c.loop-i.invariant (search rules) c.bit.ensures
