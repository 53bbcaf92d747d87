use Rattle.std.proofs.Common.{arith}
use Rattle.systems.specs.Stores.{bare}
use Rattle.systems.proofs.Calls.{few_lcs}
use Rattle.systems.proofs.store.Store.mark.Goals as goal

pub overflow_cast-result-3 : goal.overflow_cast-result-3
overflow_cast-result-3 c = omega (arith, few_lcs (bare c.args.self.now) c.requires)
