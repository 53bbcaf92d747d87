use Rattle.relations.proofs.Added.{adds_both}
use Rattle.fp_var.proofs.arithmetic.mul_variables.Goals as goal

pub returns-in_err-enforce_constraint-clause-adds : goal.returns-in_err-enforce_constraint-clause-adds
returns-in_err-enforce_constraint-clause-adds g c = adds_both c.in_ok-w.ensures.adds c.in_err-enforce_constraint.ensures.adds

pub returns-clause-adds : goal.returns-clause-adds
returns-clause-adds g c = adds_both c.in_ok-w.ensures.adds c.in_ok-enforce_constraint.ensures.adds
