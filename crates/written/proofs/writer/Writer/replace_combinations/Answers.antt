use Rattle.std.proofs.Common.{refl, arith}
use Rattle.words.proofs.Cuts.{Last, last}
use Rattle.written.proofs.Going.{replacing_step}
use Rattle.written.proofs.writer.Writer.replace_combinations.Goals as goal

pub bounds-out-self : goal.bounds-out-self
bounds-out-self c =
    let l : Last c.loop-place.place-iterator.left c.loop-place.place-iterator.end c.loop-place.place-iterator.words.now = last _ _ _ c.in-Some.ensures.steps.some c.loop-place.place-iterator.chain in
    omega (arith, l.some, c.in-Some.ensures.steps.place, c.loop-place.invariant.going.low, c.requires.room)

pub loop-place-preserved : goal.loop-place-preserved
loop-place-preserved c =
    let s = replacing_step _ _ _ _ _ _ _ _ _ _ _ c.args.self.now.terms.now _ _ _ c.args.self.now.nonzero c.loop-place.invariant.same c.in-Some.ensures.steps refl c.add_terms.ensures c.loop-place.invariant.going in
    record { same = s.0; going = s.1 }
