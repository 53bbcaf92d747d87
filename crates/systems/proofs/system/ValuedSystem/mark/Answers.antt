use Rattle.std.proofs.Common.{sym, ◌∙◌}
use Rattle.systems.specs.Held.{state}
use Rattle.systems.proofs.Views.{inputs_long, witnesses_long, lcs_long, rows_long, sane_is}
use Rattle.systems.proofs.Grown.{same_words}
use Rattle.systems.proofs.Besides.{bare_fit}
use Rattle.systems.proofs.system.ValuedSystem.mark.Goals as goal

pub mark-requires : goal.mark-requires
mark-requires g c = bare_fit c.args.self.now.store c.args.self.now.values.now c.args.self.now.fit

pub returns : goal.returns
returns g c =
    let s = state c.args.self.now in
    let e = c.mark.ensures in
    record { inputs = e.inputs ∙ sym (inputs_long s); witnesses = e.witnesses ∙ sym (witnesses_long s); combinations = e.combinations ∙ sym (lcs_long s); rows = e.rows ∙ sym (rows_long s); sane = sane_is s c.args.self.now.fit; words = same_words s c.args.self.now.fit }
