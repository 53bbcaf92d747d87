use Rattle.relations.proofs.Added.{adds_both}
use Rattle.fp_bits.proofs.spelled.weighed_bit.Goals as goal

pub returns-clause-adds : goal.returns-clause-adds
returns-clause-adds g c = adds_both c.in_ok-copy.ensures.adds c.scaled.ensures.adds
