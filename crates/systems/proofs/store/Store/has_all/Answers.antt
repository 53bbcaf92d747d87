use Rattle.std.proofs.Common.{◌∙◌}
use Rattle.words.specs.Words.{all_there}
use Rattle.systems.specs.Stores.{bare}
use Rattle.systems.proofs.Views.{has_all_is}
use Rattle.systems.proofs.store.Store.has_all.Goals as goal

pub returns : goal.returns
returns c =
    let e = c.names.ensures in
    c.has_all.ensures ∙ (λ i. all_there (e.inputs i) (e.witnesses i) (e.front i) (e.terms i) c.args.ts.now) ∙ has_all_is (bare c.args.self.now) c.args.ts.now c.requires
