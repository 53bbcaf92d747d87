use Rattle.std.proofs.Common.{refl}
use Rattle.words.proofs.Cuts.{rows_kept, rows_fail}
use Rattle.words.proofs.scan.Bounds.has_rows.Goals as goal

pub returns-then-not-has_row_at : goal.returns-then-not-has_row_at
returns-then-not-has_row_at c = rows_fail _ _ _ c.loop-i.i c.args.rows.now.words.now c.args.rows.now.terms.now _ _ c.loop-i-test.true refl c.if-not-has_row_at.ensures c.loop-i.invariant

pub loop-i-preserved : goal.loop-i-preserved
loop-i-preserved c = rows_kept _ _ _ c.loop-i.i c.args.rows.now.words.now c.args.rows.now.terms.now _ _ c.loop-i-test.true refl c.if-not-has_row_at.ensures c.loop-i.invariant
