use Rattle.systems.proofs.Besides.{bare_fit}
use Rattle.systems.proofs.valued.Valued.working_words.Goals as goal

pub working_words-requires : goal.working_words-requires
working_words-requires g c = bare_fit c.args.self.now.store c.args.self.now.values.now c.args.self.now.fit
