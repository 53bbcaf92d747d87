use Rattle.std.proofs.Common.{◌≡◌, rules}
use Rattle.relations.specs.Script.{over}
use Rattle.systems.specs.Stores.{bare}
use Rattle.systems.proofs.Calls.{admitted}
use Rattle.systems.proofs.store.Store.admits.Goals as goal

pub returns : goal.returns
returns c =
    let mapped : c.map.result ≡ over (λ n. tt) c.sizes.result = search rules in
    admitted (bare c.args.self.now) c.args.a.now c.args.b.now c.args.c.now c.sizes.result c.map.result c.requires c.sizes.ensures mapped
