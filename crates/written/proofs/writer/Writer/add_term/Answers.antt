use Rattle.std.proofs.Common.{ℕ, set, ap}
use Rattle.written.proofs.Adding.{added_some}
use Rattle.written.proofs.writer.Writer.add_term.Goals as goal

pub returns-in-Some : goal.returns-in-Some
returns-in-Some c = added_some c.args.self.now.modulus c.args.self.now.counts c.args.k c.args.c c.args.x c.in-Some.i _ _ c.in-Some.ensures c.requires (ap (λ (y : ℕ). set c.args.out.now c.in-Some.i y) c.multiply_add.ensures)
