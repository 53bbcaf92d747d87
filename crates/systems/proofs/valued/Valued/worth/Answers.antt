use Rattle.std.proofs.Common.{ℕ, ◌<◌, refl, sym, subst}
use Rattle.relations.specs.Sum.{handed, decode}
use Rattle.relations.specs.Meaning.{assigned}
use Rattle.words.specs.State.{view}
use Rattle.systems.specs.Held.{state}
use Rattle.systems.proofs.Views.{has_all_in, worth_below}
use Rattle.systems.proofs.Readers.{named_in, worth_in}
use Rattle.systems.proofs.valued.Valued.worth.Goals as goal

pub worth-requires-clause-there : goal.worth-requires-clause-there
worth-requires-clause-there g c =
    let s = state c.args.self.now in
    named_in s c.reader.result (handed c.args.ts.now) (handed c.args.ts.now) c.reader.ensures refl (has_all_in s c.args.ts.now c.args.self.now.fit c.requires)

pub returns : goal.returns
returns g c =
    let s = state c.args.self.now in
    let ts = handed c.args.ts.now in
    let e = worth_in s c.reader.result ts ts c.worth.result c.args.self.now.fit c.reader.ensures refl (has_all_in s c.args.ts.now c.args.self.now.fit c.requires) c.worth.ensures in
    record { is = e; below = subst (λ (x : ℕ). x < s.modulus) (sym e) (worth_below s.modulus (λ n. assigned (view s) (decode n)) ts c.args.self.now.fit.modulus) }
