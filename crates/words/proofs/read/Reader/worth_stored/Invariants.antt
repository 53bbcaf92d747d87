use Rattle.std.specs.Slice.Iter.{iter_rest}
use Rattle.std.specs.Iterator.Adapters.{rev_source}
use Rattle.words.specs.Words.{stored}
use Rattle.words.proofs.Worths.{Adding}
use Rattle.words.proofs.read.Reader.worth_stored.Given as goal

abbrev pub invariant-loop-c : goal.invariant-loop-c
invariant-loop-c l = Adding l.p l.self.input_room l.self.inputs l.self.witnesses l.self.front l.sum l.self.values.now l.self.terms.now (stored (iter_rest (rev_source l.c-iterator))) (stored l.terms)
