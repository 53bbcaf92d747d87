use Rattle.std.proofs.Common.{◌*◌, ◌+◌, ◌≤◌, length, ap, ◌∙◌, arith}
use Rattle.std.specs.Iterator.Adapters.{enumerate_source, enumerate_count}
use Rattle.words.specs.Words.{whole}
use Rattle.words.specs.Counting.{left}
use Rattle.words.proofs.Storing.{start, put_in, ended}
use Rattle.words.proofs.merge.Merged.store.Goals as goal

pub loop-i-init : goal.loop-i-init
loop-i-init c =
    start _ _ _ _ _ _ (ap enumerate_count c.into_iter-i-iterator.ensures.into_iter_gives ∙ c.enumerate-i-items.ensures.count)
    (ap (λ x. left (enumerate_source x)) c.into_iter-i-iterator.ensures.into_iter_gives ∙ ap left c.enumerate-i-items.ensures.source ∙ c.stored.ensures) c.requires.small

pub loop-i-preserved : goal.loop-i-preserved
loop-i-preserved c =
    let f : 2 * (c.args.at + length (whole c.args.self.now.modulus c.args.self.now.terms.now)) ≤ length c.loop-i.words = omega (arith, c.requires.fits.0) in
    put_in _ _ _ _ _ _ _ _ _ _ _ _ c.in-Some.ensures.steps.1 c.in-Some.ensures.steps.2 c.put.ensures c.in-Some.ensures.steps.0 f c.loop-i.invariant

pub returns : goal.returns
returns c = let h = ended c.args.self.now.modulus _ _ c.args.self.now.terms.now _ _ _ c.in-None.ensures.steps.0.0 c.loop-i.invariant in record { holds = h.holds; below = h.below; above = h.above }
