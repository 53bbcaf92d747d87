use Rattle.std.proofs.Common.{◌≡◌}
use Rattle.relations.specs.Unmet.{first_unmet}
use Rattle.layers.proofs.Firsts.{unmet_after}
use Rattle.layers.proofs.watch.seek.Given as goal

abbrev pub invariant-loop-row : goal.invariant-loop-row
invariant-loop-row g l = unmet_after g.F.Field.modulus l.row (g.S.System.meaning l.system) ≡ first_unmet g.F.Field.modulus (g.S.System.meaning l.system)
