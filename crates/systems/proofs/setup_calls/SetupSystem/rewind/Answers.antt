use Rattle.std.proofs.Common.{◌∙◌}
use Rattle.systems.proofs.Blanks.{rewind_blank}
use Rattle.systems.proofs.Shown.{rewind_shown}
use Rattle.systems.proofs.setup_calls.SetupSystem.rewind.Goals as goal

pub invariant_of-self : goal.invariant_of-self
invariant_of-self g c =
    let v = c.args.self.now in
    let m = c.args.mark in
    let d = rewind_shown v.store c.rewind.new.self m.inputs m.witnesses m.combinations m.rows c.rewind.result v.fit v.ordered c.rewind.ensures in
    record { prime = d.modulus ∙ v.prime; fit = d.fit; ordered = d.ordered; blank = rewind_blank v.store c.rewind.new.self m.inputs m.witnesses m.combinations m.rows c.rewind.result c.rewind.ensures v.blank }

pub returns : goal.returns
returns g c =
    let v = c.args.self.now in
    let m = c.args.mark in
    let d = rewind_shown v.store c.rewind.new.self m.inputs m.witnesses m.combinations m.rows c.rewind.result v.fit v.ordered c.rewind.ensures in
    record { does = d.does; cuts = d.cuts; knowing = λ h. h }
