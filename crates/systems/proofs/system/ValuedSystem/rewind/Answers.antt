use Rattle.std.proofs.Common.{◌∙◌}
use Rattle.systems.proofs.Besides.{bare_fit, rewind_called}
use Rattle.systems.proofs.system.ValuedSystem.rewind.Goals as goal

pub rewind-requires : goal.rewind-requires
rewind-requires g c = bare_fit c.args.self.now.store c.args.self.now.values.now c.args.self.now.fit

pub invariant_of-self : goal.invariant_of-self
invariant_of-self g c =
    let v = c.args.self.now in
    let m = c.args.mark in
    let d = rewind_called v.store c.rewind.new.self v.values.now m.inputs m.witnesses m.combinations m.rows c.rewind.result v.fit v.ordered c.rewind.ensures in
    record { prime = d.modulus ∙ v.prime; fit = d.rewound.fit; ordered = d.ordered }

pub returns : goal.returns
returns g c =
    let v = c.args.self.now in
    let m = c.args.mark in
    let d = rewind_called v.store c.rewind.new.self v.values.now m.inputs m.witnesses m.combinations m.rows c.rewind.result v.fit v.ordered c.rewind.ensures in
    record { does = d.rewound.does; cuts = d.rewound.cuts; knowing = λ h. h }
