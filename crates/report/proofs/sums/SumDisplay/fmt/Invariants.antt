use Rattle.std.proofs.Common.{◌≡◌, ℕ, List, ◌++◌}
use Rattle.std.specs.Fmt.{HasWritten, IsPlainFormatter}
use Rattle.report.specs.Text.{sum_text, more_terms}
use Rattle.report.proofs.Terms.{left}
use Rattle.report.proofs.sums.SumDisplay.fmt.Given as goal

-- what is written, and what is still to be written, are together the whole
abbrev pub invariant-loop-index : goal.invariant-loop-index
invariant-loop-index g l =
    IsPlainFormatter l.fn.f →
    (done : List ℕ) × HasWritten g.W.Write.write_str_gives l.fn.f done l.f
    × (done ++ more_terms (left l.fn.self.inputs l.index-iterator) ≡ sum_text l.fn.self.inputs l.fn.self.coefficients.now)
