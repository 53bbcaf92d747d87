use Rattle.std.proofs.Common.{inl, ap, length, arith}
use Rattle.words.proofs.Storing.{whole_short}
use Rattle.words.proofs.merge.Merged.len.Goals as goal

pub count-requires-clause-fits : goal.count-requires-clause-fits
count-requires-clause-fits c = inl (omega (arith, ap length c.stored.ensures, whole_short c.args.self.now.modulus c.args.self.now.terms.now))
