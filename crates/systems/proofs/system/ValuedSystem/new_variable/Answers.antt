use Rattle.std.proofs.Common.{◌<◌, set, Some, Ok, sym, ap, ◌∙◌, arith}
use Rattle.std.specs.Option.{option_map}
use Rattle.relations.specs.Meaning.{new_variable}
use Rattle.systems.specs.Held.{state}
use Rattle.systems.specs.Stores.{beside}
use Rattle.systems.proofs.Variables.{full, missing, room}
use Rattle.systems.proofs.Besides.{bare_fit, Called, variable_called}
use Rattle.systems.proofs.system.ValuedSystem.new_variable.Goals as goal

pub returns-then-n-room-clause-does : goal.returns-then-n-room-clause-does
returns-then-n-room-clause-does g c = (full (state c.args.self.now) c.args.side c.side-n.result _ c.args.self.now.fit c.side-n.ensures c.if-n-room.true).does

pub returns-in_default-clause-does : goal.returns-in_default-clause-does
returns-in_default-clause-does g c = (missing (state c.args.self.now) c.args.side c.side-n.result _ c.args.self.now.fit c.side-n.ensures c.if-n-room.false (ap (option_map g.F.Field.number) c.in_default.is)).does

pub next_word-at-requires : goal.next_word-at-requires
next_word-at-requires g c = bare_fit c.args.self.now.store c.args.self.now.values.now c.args.self.now.fit

pub invariant_of-self : goal.invariant_of-self
invariant_of-self g c =
    let s = state c.args.self.now in
    let below : c.to_number.result < s.modulus = omega (arith, g.F.Field.laws.below c.in-Some.x, c.to_number.ensures, c.args.self.now.prime) in
    let d : Called (new_variable c.args.side (option_map g.F.Field.number c.args.value)) s (Ok c.add_variable.result) (beside c.add_variable.new.self (set s.value_words c.next_word-at.result c.to_number.result)) =
    variable_called c.args.self.now.store c.add_variable.new.self s.value_words c.args.side _ c.to_number.result c.next_word-at.result c.add_variable.result c.args.self.now.fit c.args.self.now.ordered (room s c.args.side c.side-n.result c.side-n.ensures c.if-n-room.false) (ap (option_map g.F.Field.number) c.in-Some.is ∙ ap Some (sym c.to_number.ensures)) below c.next_word-at.ensures c.add_variable.ensures.names c.add_variable.ensures.counts
    in
    record { prime = d.modulus ∙ c.args.self.now.prime; fit = d.done.fit; ordered = d.ordered }

pub returns : goal.returns
returns g c =
    let s = state c.args.self.now in
    let below : c.to_number.result < s.modulus = omega (arith, g.F.Field.laws.below c.in-Some.x, c.to_number.ensures, c.args.self.now.prime) in
    let d : Called (new_variable c.args.side (option_map g.F.Field.number c.args.value)) s (Ok c.add_variable.result) (beside c.add_variable.new.self (set s.value_words c.next_word-at.result c.to_number.result)) =
    variable_called c.args.self.now.store c.add_variable.new.self s.value_words c.args.side _ c.to_number.result c.next_word-at.result c.add_variable.result c.args.self.now.fit c.args.self.now.ordered (room s c.args.side c.side-n.result c.side-n.ensures c.if-n-room.false) (ap (option_map g.F.Field.number) c.in-Some.is ∙ ap Some (sym c.to_number.ensures)) below c.next_word-at.ensures c.add_variable.ensures.names c.add_variable.ensures.counts
    in
    record { does = d.done.does; adds = record { words = d.done.adds; knowing = λ h. h }; leaves = d.done.leaves }
