use Rattle.std.proofs.Common.{take}
use Rattle.words.specs.Words.{stored}
use Rattle.written.specs.Cells.{Spread}
use Rattle.written.proofs.writer.Writer.add_terms.Given as goal

abbrev pub invariant-loop-c : goal.invariant-loop-c
invariant-loop-c l = Spread l.self.modulus l.self.counts l.k (stored (take l.c-index l.terms)) l.initial.out l.out
