use Rattle.std.proofs.Common.{◌≡◌, ◌++◌, take, string_bytes}
use Rattle.systems.specs.Held.{shown_by}
use Rattle.report.specs.Text.{rows_text}
use Rattle.report.specs.Sheet.{page_of}
use Rattle.beside.proofs.rows.push_rows.Given as goal

abbrev pub invariant-loop-row : goal.invariant-loop-row
invariant-loop-row g l =
    let page = page_of g.F.Field.modulus (shown_by l.fn.system) in
    string_bytes l.text ≡ string_bytes l.fn.text ++ rows_text page.inputs (take l.row page.rows)
