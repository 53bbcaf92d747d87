use Rattle.relations.proofs.Added.{adds_both}
use Rattle.allocated.proofs.allocated.AllocatedBool.choice_steps.Goals as goal

pub returns-clause-adds : goal.returns-clause-adds
returns-clause-adds g c = adds_both c.in_ok-w.ensures.adds c.forced.ensures.adds
