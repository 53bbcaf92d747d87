-- What is reported of a system.
use Rattle.std.specs.Prelude.{ℕ, List, map, length}
use Rattle.relations.specs.Sum.{Row}
use Rattle.relations.specs.Meaning.{Meaning}
use Rattle.systems.specs.declared.store.Part.{Part}
use Rattle.systems.specs.declared.store.Part.TheVariants.{A, B, C}
use Rattle.systems.specs.Outline.{coefficients, row_sum}
use Rattle.systems.specs.Verdict.{verdict}
use Rattle.report.specs.Text.{Sums, Page, sum_text, row_text}

-- a row's sums, written out
abbrev pub sums_of : ℕ → Meaning → Row → Sums
sums_of p m r = record { left = coefficients p m r.a; right = coefficients p m r.b; product = coefficients p m r.c }

-- what is reported of a system
abbrev pub page_of : ℕ → Meaning → Page
page_of p m = record { inputs = length m.inputs; witnesses = length m.witnesses; rows = map (sums_of p m) m.rows; verdict = verdict p m }

-- the text of a part of row i, and of its line
abbrev pub part_text : ℕ → Meaning → ℕ → Part → List ℕ
part_text p m i part = sum_text (length m.inputs) (coefficients p m (row_sum part i m))

-- the text of one of its rows
abbrev pub line_text : ℕ → Meaning → ℕ → List ℕ
line_text p m i =
    row_text (length m.inputs) (coefficients p m (row_sum A i m)) (coefficients p m (row_sum B i m)) (coefficients p m (row_sum C i m))
