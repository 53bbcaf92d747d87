use Rattle.std.proofs.Common.{rules}
use Rattle.words.proofs.Frames.{put_says}
use Rattle.words.proofs.Combining.{lc_written}
use Rattle.words.proofs.merge.Merged.write_combination.Goals as goal

pub returns : goal.returns
returns c = lc_written _ _ _ _ _ _ _ _ c.requires.long record { holds = c.store.ensures.holds; below = c.store.ensures.below; above = c.store.ensures.above } (put_says _ _ _ _ _ (search rules) c.put.ensures)
