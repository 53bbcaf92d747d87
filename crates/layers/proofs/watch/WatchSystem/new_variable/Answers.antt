use Rattle.std.specs.Option.{option_map}
use Rattle.layers.proofs.Watched.{watched_new}
use Rattle.layers.proofs.watch.WatchSystem.new_variable.Goals as goal

pub returns-clause-adds : goal.returns-clause-adds
returns-clause-adds g c = record {
  words = c.new_variable.ensures.adds.words;
  knowing = λ k. (c.new_variable.ensures.adds.knowing k.0, watched_new g.F.Field.modulus c.args.self.now.unmet c.args.side (option_map g.F.Field.number c.args.value) _ _ _ c.new_variable.ensures.does k.1);
}
