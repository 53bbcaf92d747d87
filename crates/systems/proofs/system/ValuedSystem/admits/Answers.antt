use Rattle.std.proofs.Common.{ℕ, ap, ◌∙◌}
use Rattle.relations.specs.Meaning.{admit}
use Rattle.systems.specs.Held.{meant_by}
use Rattle.systems.specs.Stores.{zeros}
use Rattle.systems.proofs.Forgetting.{admit_answer}
use Rattle.systems.proofs.Besides.{bare_fit, beside_same}
use Rattle.systems.proofs.system.ValuedSystem.admits.Goals as goal

pub admits-requires : goal.admits-requires
admits-requires g c = bare_fit c.args.self.now.store c.args.self.now.values.now c.args.self.now.fit

pub returns : goal.returns
returns g c =
    let v = c.args.self.now in
    c.admits.ensures
    ∙ beside_same (λ m. (admit v.store.modulus c.args.a.now c.args.b.now c.args.c.now m).0) (admit_answer v.store.modulus c.args.a.now c.args.b.now c.args.c.now) v.store (zeros 131072) v.values.now
    ∙ ap (λ (p : ℕ). (admit p c.args.a.now c.args.b.now c.args.c.now (meant_by v)).0) v.prime
