use Rattle.std.proofs.Common.{ℕ, ap, sym, ◌∙◌}
use Rattle.relations.specs.Meaning.{admit}
use Rattle.words.specs.State.{view}
use Rattle.systems.specs.Held.{shown_by}
use Rattle.systems.specs.Stores.{bare}
use Rattle.systems.proofs.Forgetting.{admit_answer}
use Rattle.systems.proofs.setup_calls.SetupSystem.admits.Goals as goal

pub returns : goal.returns
returns g c =
    let v = c.args.self.now in
    c.admits.ensures
    ∙ sym (admit_answer v.store.modulus c.args.a.now c.args.b.now c.args.c.now (view (bare v.store)))
    ∙ ap (λ (p : ℕ). (admit p c.args.a.now c.args.b.now c.args.c.now (shown_by v)).0) v.prime
