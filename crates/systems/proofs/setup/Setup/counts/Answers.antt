use Rattle.std.proofs.Common.{sym, ◌∙◌}
use Rattle.systems.specs.Stores.{bare}
use Rattle.systems.proofs.Views.{rows_long}
use Rattle.systems.proofs.Shown.{shown_inputs, shown_witnesses, shown_combos}
use Rattle.systems.proofs.setup.Setup.counts.Goals as goal

pub returns : goal.returns
returns g c =
    let s = c.args.self.now.store in
    let e = c.counts.ensures in
    record { inputs = e.inputs ∙ sym (shown_inputs s); witnesses = e.witnesses ∙ sym (shown_witnesses s); combinations = e.combinations ∙ sym (shown_combos s); rows = e.rows ∙ sym (rows_long (bare s)) }
