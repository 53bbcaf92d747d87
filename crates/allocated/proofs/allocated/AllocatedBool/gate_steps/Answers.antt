use Rattle.std.proofs.Common.{rules}
use Rattle.relations.proofs.Added.{adds_both}
use Rattle.allocated.proofs.allocated.AllocatedBool.gate_steps.Goals as goal

pub returns-in-And : goal.returns-in-And
returns-in-And g c =
    record {
      does = search rules;
      adds = adds_both c.in_ok-w.ensures.adds c.forced.ensures.adds;
    }

pub returns-in-Or : goal.returns-in-Or
returns-in-Or g c =
    record {
      does = search rules;
      adds = adds_both c.in_ok-w.ensures.adds c.forced-in-Or.ensures.adds;
    }

pub returns-in-Xor : goal.returns-in-Xor
returns-in-Xor g c =
    record {
      does = search rules;
      adds = adds_both c.in_ok-w.ensures.adds c.forced-in-Xor.ensures.adds;
    }
