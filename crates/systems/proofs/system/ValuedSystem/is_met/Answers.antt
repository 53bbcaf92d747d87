use Rattle.systems.specs.Held.{state}
use Rattle.systems.proofs.Verdicts.{row_judged, row_missing}
use Rattle.systems.proofs.system.ValuedSystem.is_met.Goals as goal

pub returns-then-i-self : goal.returns-then-i-self
returns-then-i-self g c = row_judged (state c.args.self.now) g.F.Field.modulus c.args.row c.row_met.result c.args.self.now.prime c.if-i-self.true c.row_met.ensures

pub returns-else-i-self : goal.returns-else-i-self
returns-else-i-self g c = row_missing (state c.args.self.now) g.F.Field.modulus c.args.row c.if-i-self.false
