use Rattle.std.proofs.Common.{◌≡◌, ◌<◌, drop}
use Rattle.relations.specs.Sum.{total, handed}
use Rattle.words.proofs.merge.Merged.coefficient.Given as goal

abbrev pub invariant-loop-t : goal.invariant-loop-t
invariant-loop-t l = (l.a < l.self.modulus) × (total l.self.modulus l.a (handed (drop l.t-index l.self.terms.now)) l.c ≡ total l.self.modulus 0 (handed l.self.terms.now) l.c)
