use Rattle.std.proofs.Common.{◌<◌, length, string_bytes, arith}
use Rattle.systems.specs.Held.{shown_by}
use Rattle.report.proofs.Pages.{rows_more}
use Rattle.beside.proofs.rows.push_rows.Goals as goal

pub loop-row-preserved : goal.loop-row-preserved
loop-row-preserved g c =
    let m = shown_by c.args.system.now in
    let within : c.loop-row.row < length m.rows = omega (arith, c.counts-row-end.ensures.rows) in
    let more = rows_more g.F.Field.modulus m c.loop-row.row (string_bytes c.args.text.now) within in
    cc (more, c.in_ok-push_row.ensures, c.loop-row.invariant)
