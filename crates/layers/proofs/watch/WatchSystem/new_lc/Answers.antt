use Rattle.layers.proofs.Watched.{watched_lc}
use Rattle.layers.proofs.watch.WatchSystem.new_lc.Goals as goal

pub returns-clause-adds : goal.returns-clause-adds
returns-clause-adds g c = record {
  words = c.new_lc.ensures.adds.words;
  knowing = λ k. (c.new_lc.ensures.adds.knowing k.0, watched_lc g.F.Field.modulus c.args.self.now.unmet c.args.terms.now _ _ _ c.new_lc.ensures.does k.1);
}
