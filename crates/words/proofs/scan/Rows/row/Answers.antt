use Rattle.std.proofs.Common.{arith}
use Rattle.words.proofs.Cuts.{Lies, lies}
use Rattle.words.proofs.scan.Rows.row.Goals as goal

pub part-requires : goal.part-requires
part-requires c = let l : Lies c.args.self.now.top c.args.i c.args.self.now.words.now = lies _ _ _ _ c.requires c.args.self.now.stack in (omega arith, l.a)

pub part-requires-2 : goal.part-requires-2
part-requires-2 c = let l : Lies c.args.self.now.top c.args.i c.args.self.now.words.now = lies _ _ _ _ c.requires c.args.self.now.stack in (omega arith, l.b)

pub part-requires-3 : goal.part-requires-3
part-requires-3 c = let l : Lies c.args.self.now.top c.args.i c.args.self.now.words.now = lies _ _ _ _ c.requires c.args.self.now.stack in (omega arith, l.c)
