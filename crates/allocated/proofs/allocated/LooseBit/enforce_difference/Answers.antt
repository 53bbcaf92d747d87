use Rattle.relations.proofs.Added.{adds_both}
use Rattle.allocated.proofs.allocated.LooseBit.enforce_difference.Goals as goal

pub returns-in_err-complement-clause-adds : goal.returns-in_err-complement-clause-adds
returns-in_err-complement-clause-adds g c = adds_both c.in_ok-enforce_constraint.ensures.adds c.in_err-complement.ensures.adds

pub returns-clause-adds : goal.returns-clause-adds
returns-clause-adds g c = adds_both (adds_both c.in_ok-enforce_constraint.ensures.adds c.in_ok-complement.ensures.adds) c.forced.ensures.adds
