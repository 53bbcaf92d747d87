use Rattle.written.proofs.Adding.{spread_more}
use Rattle.written.proofs.writer.Writer.add_terms.Goals as goal

pub loop-c-preserved : goal.loop-c-preserved
loop-c-preserved c = spread_more _ _ _ c.loop-c.c-index c.args.terms.now _ _ _ _ c.loop-c-test.true c.loop-c.invariant c.add_term.ensures
