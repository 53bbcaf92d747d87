use Rattle.words.proofs.Cuts.{lists_kept, lists_fail}
use Rattle.words.proofs.scan.Bounds.has_combinations.Goals as goal

pub returns-then-not-has_all : goal.returns-then-not-has_all
returns-then-not-has_all c = lists_fail _ _ _ _ _ _ _ _ _ _ _ _ c.loop-terms.terms-iterator.chain c.in-Some.ensures.steps c.if-not-has_all.ensures c.loop-terms.invariant

pub loop-terms-preserved : goal.loop-terms-preserved
loop-terms-preserved c = lists_kept _ _ _ _ _ _ _ _ _ _ _ _ c.loop-terms.terms-iterator.chain c.in-Some.ensures.steps c.if-not-has_all.ensures c.loop-terms.invariant
