use Rattle.std.specs.Iterator.Adapters.{enumerate_source, enumerate_count}
use Rattle.words.specs.Words.{whole}
use Rattle.words.specs.Counting.{left}
use Rattle.words.proofs.Storing.{Storing}
use Rattle.words.proofs.merge.Merged.store.Given as goal

abbrev pub invariant-loop-i : goal.invariant-loop-i
invariant-loop-i l = Storing l.at (enumerate_count l.i-iterator) (left (enumerate_source l.i-iterator)) (whole l.self.modulus l.self.terms.now) l.words l.initial.words
