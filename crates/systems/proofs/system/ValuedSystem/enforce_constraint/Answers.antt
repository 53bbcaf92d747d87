use Rattle.std.proofs.Common.{ℕ, ◌∙◌, subst}
use Rattle.relations.specs.Meaning.{enforce}
use Rattle.systems.specs.Held.{state}
use Rattle.systems.specs.Stores.{beside}
use Rattle.systems.proofs.Besides.{bare_fit, Called, row_called}
use Rattle.systems.proofs.system.ValuedSystem.enforce_constraint.Goals as goal

pub enforce-requires : goal.enforce-requires
enforce-requires g c = bare_fit c.args.self.now.store c.args.self.now.values.now c.args.self.now.fit

pub invariant_of-self : goal.invariant_of-self
invariant_of-self g c =
    let v = c.args.self.now in
    let d = row_called v.store c.enforce.new.self v.values.now c.args.a.now c.args.b.now c.args.c.now c.enforce.result v.fit v.ordered c.enforce.ensures in
    record { prime = d.modulus ∙ v.prime; fit = d.done.fit; ordered = d.ordered }

pub returns : goal.returns
returns g c =
    let v = c.args.self.now in
    let d : Called (enforce g.F.Field.modulus c.args.a.now c.args.b.now c.args.c.now) (state v) c.enforce.result (beside c.enforce.new.self v.values.now) =
    subst (λ (p : ℕ). Called (enforce p c.args.a.now c.args.b.now c.args.c.now) (state v) c.enforce.result (beside c.enforce.new.self v.values.now)) v.prime
    (row_called v.store c.enforce.new.self v.values.now c.args.a.now c.args.b.now c.args.c.now c.enforce.result v.fit v.ordered c.enforce.ensures)
    in
    record { does = d.done.does; adds = record { words = d.done.adds; knowing = λ h. h }; leaves = d.done.leaves }
