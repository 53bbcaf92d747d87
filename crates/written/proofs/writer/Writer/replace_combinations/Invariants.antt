use Rattle.std.proofs.Common.{◌≡◌}
use Rattle.written.proofs.Going.{Replacing}
use Rattle.written.proofs.writer.Writer.replace_combinations.Given as goal

abbrev pub invariant-loop-place : goal.invariant-loop-place
invariant-loop-place l = record {
  same : l.place-iterator.words.now ≡ l.self.terms.now;
  going : Replacing l.self.modulus l.self.counts l.place-iterator.left l.place-iterator.end l.self.terms.now l.initial.out l.out;
}
