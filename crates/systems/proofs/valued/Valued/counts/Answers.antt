use Rattle.std.proofs.Common.{sym, ◌∙◌}
use Rattle.systems.specs.Held.{state}
use Rattle.systems.proofs.Views.{inputs_long, witnesses_long, lcs_long, rows_long}
use Rattle.systems.proofs.valued.Valued.counts.Goals as goal

pub returns : goal.returns
returns g c =
    let s = state c.args.self.now in
    let e = c.counts.ensures in
    record { inputs = e.inputs ∙ sym (inputs_long s); witnesses = e.witnesses ∙ sym (witnesses_long s); combinations = e.combinations ∙ sym (lcs_long s); rows = e.rows ∙ sym (rows_long s) }
