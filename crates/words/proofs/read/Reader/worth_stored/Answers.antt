use Rattle.words.proofs.Worths.{adding_last, adding_step, stored_last}
use Rattle.words.proofs.read.Reader.worth_stored.Goals as goal

pub add-sum-requires-clause-there : goal.add-sum-requires-clause-there
add-sum-requires-clause-there c = adding_last _ _ _ _ _ _ _ _ _ _ _ _ (stored_last _ _ c.in-Some.field-0.now c.in-Some.ensures.steps) c.loop-c.invariant

pub loop-c-preserved : goal.loop-c-preserved
loop-c-preserved c = adding_step _ _ _ _ _ _ _ _ _ _ _ _ _ (stored_last _ _ c.in-Some.field-0.now c.in-Some.ensures.steps) c.add-sum.ensures c.loop-c.invariant
