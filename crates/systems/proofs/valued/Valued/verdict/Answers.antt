use Rattle.std.proofs.Common.{ℕ, ap, ◌∙◌}
use Rattle.relations.specs.Unmet.{first_unmet}
use Rattle.systems.specs.Held.{state, meant_by}
use Rattle.systems.specs.Verdict.{verdict_of}
use Rattle.systems.proofs.Verdicts.{on, stop, end}
use Rattle.systems.proofs.valued.Valued.verdict.Goals as goal

pub returns-then-not-row_met : goal.returns-then-not-row_met
returns-then-not-row_met g c = ap verdict_of (stop (state c.args.self.now) c.loop-i.i c.loop-i-test.true c.if-not-row_met.ensures c.loop-i.invariant ∙ ap (λ (p : ℕ). first_unmet p (meant_by c.args.self.now)) c.args.self.now.prime)

pub loop-i-preserved : goal.loop-i-preserved
loop-i-preserved g c = on (state c.args.self.now) c.loop-i.i c.loop-i-test.true c.if-not-row_met.ensures c.loop-i.invariant

pub returns : goal.returns
returns g c = ap verdict_of (end (state c.args.self.now) c.loop-i.i c.loop-i-test.false c.loop-i.invariant ∙ ap (λ (p : ℕ). first_unmet p (meant_by c.args.self.now)) c.args.self.now.prime)
