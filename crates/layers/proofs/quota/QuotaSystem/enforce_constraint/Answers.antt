use Rattle.std.proofs.Common.{arith}
use Rattle.layers.proofs.Quoted.{adds_quoted, below_limit}
use Rattle.layers.proofs.quota.QuotaSystem.enforce_constraint.Goals as goal

pub returns-then-row_count-self-clause-does : goal.returns-then-row_count-self-clause-does
returns-then-row_count-self-clause-does g c = below_limit g.F.Field.modulus c.args.self.now.limit c.args.a.now c.args.b.now c.args.c.now (g.S.System.meaning c.args.self.now.below) _ _ (omega (arith, c.row_count.ensures.count)) c.enforce_constraint.ensures.does

pub returns-then-row_count-self-clause-adds : goal.returns-then-row_count-self-clause-adds
returns-then-row_count-self-clause-adds g c = adds_quoted (λ q. q.limit) (λ q. q.below) c.args.self.now _ c.enforce_constraint.ensures.adds
