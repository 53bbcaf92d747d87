-- A combination written: its terms, and then its heading.
use Rattle.std.proofs.Common.{◌≡◌, ℕ, ◌+◌, ◌*◌, List, length, sym, ◌∙◌, subst, arith}
use Rattle.relations.specs.declared.term.Term.{Term}
use Rattle.words.specs.Words.{pairs, whole, LcWritten}
use Rattle.words.proofs.Frames.{pairs_same, Put}
use Rattle.words.proofs.Storing.{Held}

pub lc_written : (p front n kept : ℕ) (ts : List Term) (ws us vs : List ℕ) → n ≡ length (whole p ts) → Held p front ts us ws → Put (front + n) (8 * n + 4) kept us vs → LcWritten p front n kept ts ws vs
lc_written p front n kept ts ws us vs e h x = record {
  holds = pairs_same front n vs us (λ j l u. x.below j u) ∙ subst (λ (m : ℕ). pairs front m us ≡ whole p ts) (sym e) h.holds;
  heading = x.first;
  word = x.second;
  below = λ j l. x.below j (omega arith) ∙ h.below j l;
  above = λ j l. x.above j (omega arith) ∙ h.above j (omega arith);
}
