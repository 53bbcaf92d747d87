use Rattle.std.proofs.Common.{arith}
use Rattle.words.proofs.Cuts.{Lies, lies}
use Rattle.words.proofs.scan.Bounds.has_row_at.Goals as goal

pub part-requires : goal.part-requires
part-requires c = let l : Lies c.args.rows.now.top c.args.i c.args.rows.now.words.now = lies _ _ _ _ c.requires c.args.rows.now.stack in (omega arith, l.a)

pub part-requires-then-has_all : goal.part-requires-then-has_all
part-requires-then-has_all c = let l : Lies c.args.rows.now.top c.args.i c.args.rows.now.words.now = lies _ _ _ _ c.requires c.args.rows.now.stack in (omega arith, l.b)

pub part-requires-then-has_all-2 : goal.part-requires-then-has_all-2
part-requires-then-has_all-2 c = let l : Lies c.args.rows.now.top c.args.i c.args.rows.now.words.now = lies _ _ _ _ c.requires c.args.rows.now.stack in (omega arith, l.c)
