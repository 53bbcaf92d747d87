use Rattle.std.proofs.Common.{rules}
use Rattle.relations.proofs.Added.{adds_both}
use Rattle.allocated.proofs.allocated.AllocatedBool.variable_steps.Goals as goal

pub returns : goal.returns
returns g c =
    record {
      does = search rules;
      adds = adds_both c.in_ok-variable.ensures.adds c.enforce_boolean.ensures.adds;
    }
