use Rattle.std.proofs.Common.{◌≡◌, arith}
use Rattle.words.proofs.Cuts.{take_step, take_here}
use Rattle.words.proofs.scan.Combinations.first.Goals as goal

pub loop-rest-preserved : goal.loop-rest-preserved
loop-rest-preserved c =
    let s = take_step c.args.k c.args.self.left c.loop-rest.rest.left c.loop-rest.rest.end c.args.self.end _ _ _ _ _ _ _ _ _ _ c.loop-rest-test.true c.loop-rest.invariant.same c.next.ensures.steps c.loop-rest.invariant.cut in
    record { same = s.0; cut = s.1 }

pub returns-clause-cut : goal.returns-clause-cut
returns-clause-cut c =
    let e : c.args.k ≡ c.loop-rest.rest.left = omega (arith, c.loop-rest.invariant.cut.more, c.loop-rest-test.false) in
    take_here _ _ _ _ _ e c.loop-rest.invariant.cut.cut
