use Rattle.std.proofs.Common.{◌≡◌}
use Rattle.words.specs.Words.{combinations, lists_in}
use Rattle.words.proofs.scan.Bounds.has_combinations.Given as goal

abbrev pub invariant-loop-terms : goal.invariant-loop-terms
invariant-loop-terms l =
    lists_in l.self.inputs l.self.witnesses l.self.places (combinations l.terms-iterator.left l.terms-iterator.end l.terms-iterator.words.now)
    ≡ lists_in l.self.inputs l.self.witnesses l.self.places (combinations l.fn.combos.left l.fn.combos.end l.fn.combos.words.now)
