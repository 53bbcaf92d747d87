use Rattle.words.proofs.Worths.{adding_last, adding_step, handed_last}
use Rattle.words.proofs.read.Reader.worth.Goals as goal

pub add-sum-requires-clause-there : goal.add-sum-requires-clause-there
add-sum-requires-clause-there c = rw c.code_of.ensures (adding_last _ _ _ _ _ _ _ _ _ _ _ _ (handed_last _ _ c.in-Some.t.now c.in-Some.ensures.steps) c.loop-t.invariant)

pub loop-t-preserved : goal.loop-t-preserved
loop-t-preserved c =
    adding_step _ _ _ _ _ _ _ _ _ _ _ _ _ (handed_last _ _ c.in-Some.t.now c.in-Some.ensures.steps) (cc) c.loop-t.invariant
