use Rattle.std.proofs.Common.{ℕ, ◌∙◌, subst}
use Rattle.relations.specs.Meaning.{enforce}
use Rattle.systems.proofs.Blanks.{row_blank}
use Rattle.systems.proofs.Shown.{Shown, row_shown}
use Rattle.systems.proofs.setup_calls.SetupSystem.enforce_constraint.Goals as goal

pub invariant_of-self : goal.invariant_of-self
invariant_of-self g c =
    let v = c.args.self.now in
    let d = row_shown v.store c.enforce.new.self c.args.a.now c.args.b.now c.args.c.now c.enforce.result v.fit v.ordered c.enforce.ensures in
    record { prime = d.modulus ∙ v.prime; fit = d.fit; ordered = d.ordered; blank = row_blank v.store c.enforce.new.self c.args.a.now c.args.b.now c.args.c.now c.enforce.result v.fit c.enforce.ensures v.blank }

pub returns : goal.returns
returns g c =
    let v = c.args.self.now in
    let d : Shown (enforce g.F.Field.modulus c.args.a.now c.args.b.now c.args.c.now) v.store c.enforce.result c.enforce.new.self =
    subst (λ (p : ℕ). Shown (enforce p c.args.a.now c.args.b.now c.args.c.now) v.store c.enforce.result c.enforce.new.self) v.prime
    (row_shown v.store c.enforce.new.self c.args.a.now c.args.b.now c.args.c.now c.enforce.result v.fit v.ordered c.enforce.ensures)
    in
    record { does = d.does; adds = record { words = d.adds; knowing = λ h. h }; leaves = d.leaves }
