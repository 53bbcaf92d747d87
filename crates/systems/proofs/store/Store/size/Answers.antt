use Rattle.std.proofs.Common.{ℕ, length, sym, ap, ◌∙◌}
use Rattle.words.specs.Words.{whole}
use Rattle.systems.specs.Stores.{bare}
use Rattle.systems.proofs.Calls.{lc_full}
use Rattle.systems.proofs.store.Store.size.Goals as goal

pub returns-then-n-self : goal.returns-then-n-self
returns-then-n-self c = lc_full (bare c.args.self.now) c.args.sum.terms.now c.len-n.result c.requires.laid (sym c.if-not-has_all.ensures) (c.len-n.ensures ∙ ap (λ (p : ℕ). length (whole p c.args.sum.terms.now)) c.requires.modulus) c.if-n-self.true
