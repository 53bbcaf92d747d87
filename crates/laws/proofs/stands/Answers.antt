use Rattle.laws.specs.Law.{AllThere}
use Rattle.laws.proofs.Settle.{settles, settle_accepts, settle_accepted}
use Rattle.laws.proofs.stands.Goals as goal

pub returns : goal.returns
returns c = record { settles = λ p s m see st. settles p s m AllThere see st; pays = settle_accepts; paid = settle_accepted }
