use Rattle.layers.proofs.Quoted.{adds_quoted}
use Rattle.layers.proofs.quota.QuotaSystem.new_variable.Goals as goal

pub returns-clause-adds : goal.returns-clause-adds
returns-clause-adds g c = adds_quoted (λ q. q.limit) (λ q. q.below) c.args.self.now _ c.new_variable.ensures.adds
