use Rattle.std.proofs.Common.{Some, ◌∙◌}
use Rattle.std.specs.Option.{option_map}
use Rattle.systems.specs.Stores.{bare}
use Rattle.systems.proofs.Variables.{full, room}
use Rattle.systems.proofs.Blanks.{variable_blank}
use Rattle.systems.proofs.Shown.{variable_shown, full_shown}
use Rattle.systems.proofs.setup_calls.SetupSystem.new_variable.Goals as goal

pub returns-then-n-room-clause-does : goal.returns-then-n-room-clause-does
returns-then-n-room-clause-does g c =
    let v = c.args.self.now in
    (full_shown v.store c.args.side (option_map g.F.Field.number c.args.value) c.side-n.result.2 v.fit v.ordered (full (bare v.store) c.args.side c.side-n.result (Some 0) v.fit c.side-n.ensures c.if-n-room.true)).does

pub invariant_of-self : goal.invariant_of-self
invariant_of-self g c =
    let v = c.args.self.now in
    let d = variable_shown v.store c.add_variable.new.self c.args.side (Some 0) c.add_variable.result v.fit v.ordered (room (bare v.store) c.args.side c.side-n.result c.side-n.ensures c.if-n-room.false) c.add_variable.ensures.names c.add_variable.ensures.counts in
    record { prime = d.modulus ∙ v.prime; fit = d.fit; ordered = d.ordered; blank = variable_blank v.store c.add_variable.new.self c.args.side c.add_variable.ensures.counts v.blank }

pub returns : goal.returns
returns g c =
    let v = c.args.self.now in
    let d = variable_shown v.store c.add_variable.new.self c.args.side (option_map g.F.Field.number c.args.value) c.add_variable.result v.fit v.ordered (room (bare v.store) c.args.side c.side-n.result c.side-n.ensures c.if-n-room.false) c.add_variable.ensures.names c.add_variable.ensures.counts in
    record { does = d.does; adds = record { words = d.adds; knowing = λ h. h }; leaves = d.leaves }
