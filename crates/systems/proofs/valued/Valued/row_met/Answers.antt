use Rattle.std.proofs.Common.{ℕ, eqb, ap, ◌∙◌}
use Rattle.systems.specs.Held.{state}
use Rattle.systems.proofs.Readers.{named_in, row_named, worth_in}
use Rattle.systems.proofs.Besides.{bare_fit}
use Rattle.systems.proofs.Verdicts.{met_is}
use Rattle.systems.proofs.valued.Valued.row_met.Goals as goal

pub worth_stored-a-requires-clause-there : goal.worth_stored-a-requires-clause-there
worth_stored-a-requires-clause-there g c =
    let s = state c.args.self.now in
    named_in s c.reader-reader.result _ _ c.reader-reader.ensures c.row-row.ensures.a (row_named s c.args.i c.args.self.now.fit c.requires).0

pub worth_stored-b-requires-clause-there : goal.worth_stored-b-requires-clause-there
worth_stored-b-requires-clause-there g c =
    let s = state c.args.self.now in
    named_in s c.reader-reader.result _ _ c.reader-reader.ensures c.row-row.ensures.b (row_named s c.args.i c.args.self.now.fit c.requires).1

pub worth_stored-requires-clause-there : goal.worth_stored-requires-clause-there
worth_stored-requires-clause-there g c =
    let s = state c.args.self.now in
    named_in s c.reader-reader.result _ _ c.reader-reader.ensures c.row-row.ensures.c (row_named s c.args.i c.args.self.now.fit c.requires).2

pub returns : goal.returns
returns g c =
    let s = state c.args.self.now in
    let f = c.args.self.now.fit in
    let r = c.reader-reader in
    let named = row_named s c.args.i f c.requires in
    let a = worth_in s r.result _ _ c.worth_stored-a.result f r.ensures c.row-row.ensures.a named.0 c.worth_stored-a.ensures in
    let b = worth_in s r.result _ _ c.worth_stored-b.result f r.ensures c.row-row.ensures.b named.1 c.worth_stored-b.ensures in
    let k = worth_in s r.result _ _ c.worth_stored.result f r.ensures c.row-row.ensures.c named.2 c.worth_stored.ensures in
    ap (λ (x : ℕ). eqb x c.worth_stored.result) c.multiply_add.ensures ∙ met_is s.modulus c.worth_stored-a.result c.worth_stored-b.result c.worth_stored.result _ _ _ a b k

pub row-row-requires-clause-laid : goal.row-row-requires-clause-laid
row-row-requires-clause-laid g c = bare_fit c.args.self.now.store c.args.self.now.values.now c.args.self.now.fit
