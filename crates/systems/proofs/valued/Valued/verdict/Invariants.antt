use Rattle.std.proofs.Common.{◌≡◌, drop}
use Rattle.relations.specs.Meaning.{assigned}
use Rattle.relations.specs.Unmet.{unmet_from, first_unmet}
use Rattle.systems.specs.Held.{meant_by}
use Rattle.systems.proofs.valued.Valued.verdict.Given as goal

abbrev pub invariant-loop-i : goal.invariant-loop-i
invariant-loop-i g l = unmet_from l.self.store.modulus (assigned (meant_by l.self)) l.i (drop l.i (meant_by l.self).rows) ≡ first_unmet l.self.store.modulus (meant_by l.self)
