use Rattle.relations.proofs.Added.{adds_both}
use Rattle.fp_var.proofs.statements.apart_from_known.Goals as goal

pub returns-clause-adds : goal.returns-clause-adds
returns-clause-adds g c = adds_both c.in_ok-m.ensures.adds c.apart_row.ensures.adds
