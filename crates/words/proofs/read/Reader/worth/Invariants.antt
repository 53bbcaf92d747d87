use Rattle.std.specs.Slice.Iter.{iter_rest}
use Rattle.std.specs.Iterator.Adapters.{rev_source}
use Rattle.relations.specs.Sum.{handed}
use Rattle.words.proofs.Worths.{Adding}
use Rattle.words.proofs.read.Reader.worth.Given as goal

abbrev pub invariant-loop-t : goal.invariant-loop-t
invariant-loop-t l = Adding l.p l.self.input_room l.self.inputs l.self.witnesses l.self.front l.sum l.self.values.now l.self.terms.now (handed (iter_rest (rev_source l.t-iterator))) (handed l.ts)
