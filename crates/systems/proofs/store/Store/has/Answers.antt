use Rattle.std.proofs.Common.{◌∙◌}
use Rattle.words.specs.Words.{there}
use Rattle.systems.specs.Stores.{bare}
use Rattle.systems.proofs.Views.{has_is}
use Rattle.systems.proofs.store.Store.has.Goals as goal

pub returns : goal.returns
returns c =
    let e = c.names.ensures in
    c.has.ensures ∙ (λ i. there (e.inputs i) (e.witnesses i) (e.front i) (e.terms i) c.args.variable) ∙ has_is (bare c.args.self.now) c.args.variable c.requires
