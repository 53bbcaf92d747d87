use Rattle.std.proofs.Common.{◌≡◌}
use Rattle.words.specs.Words.{triples_in, rows}
use Rattle.words.proofs.scan.Bounds.has_rows.Given as goal

abbrev pub invariant-loop-i : goal.invariant-loop-i
invariant-loop-i l =
    triples_in l.self.inputs l.self.witnesses l.self.places (rows l.i l.rows.words.now l.rows.terms.now)
    ≡ triples_in l.self.inputs l.self.witnesses l.self.places (rows l.r l.rows.words.now l.rows.terms.now)
