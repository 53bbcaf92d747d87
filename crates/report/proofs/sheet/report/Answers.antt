use Rattle.std.proofs.Common.{◌≡◌, ◌++◌, length, string_bytes, sym, ◌∙◌}
use Rattle.std.proofs.lemmas.List.{length-map}
use Rattle.systems.specs.Held.{meant_by}
use Rattle.report.specs.Text.{counts_text, rows_text, verdict_text}
use Rattle.report.specs.Sheet.{sums_of, page_of}
use Rattle.report.proofs.Pages.{whole}
use Rattle.report.proofs.sheet.report.Goals as goal

pub returns : goal.returns
returns g c =
    let p = g.F.Field.modulus in
    let m = meant_by c.args.system.now in
    let page = page_of p m in
    let said = c.counts-inputs.ensures in
    let long = length-map m.rows (sums_of p m) in
    let second : string_bytes c.push_counts.new.text ≡ string_bytes c.push_refusals.new.text ++ counts_text page.inputs page.witnesses (length page.rows) = cc (c.in_ok-push_counts.ensures, said.inputs, said.witnesses, said.rows ∙ sym long) in
    let third : string_bytes c.push_rows.new.text ≡ string_bytes c.push_counts.new.text ++ rows_text page.inputs page.rows = cc (c.in_ok-push_rows.ensures, c.in_ok-new.ensures) in
    let fourth : string_bytes c.push_verdict.new.text ≡ string_bytes c.push_rows.new.text ++ verdict_text page.verdict = cc (c.in_ok-push_verdict.ensures, c.verdict.ensures) in
    whole _ _ _ _ _ _ _ _ _ c.new-text.ensures.bytes c.in_ok-push_refusals.ensures second third fourth
