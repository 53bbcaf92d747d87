use Rattle.std.proofs.Common.{◌≡◌, ℕ, false, ◌%◌, ◌<◌, sym, ap, ◌∙◌, subst, mod-eq_of_lt}
use Rattle.relations.specs.Meaning.{has, assigned}
use Rattle.systems.specs.Stores.{zeros}
use Rattle.systems.proofs.Forgetting.{has_same}
use Rattle.systems.proofs.Besides.{bare_fit, beside_same}
use Rattle.words.specs.State.{view}
use Rattle.systems.specs.Held.{state}
use Rattle.systems.proofs.Views.{word_below, told_is}
use Rattle.systems.proofs.system.ValuedSystem.value.Goals as goal

pub returns-then-not-has : goal.returns-then-not-has
returns-then-not-has g c =
    let v = c.args.self.now in
    let h = beside_same (λ m. has m c.args.variable) (λ m. has_same m c.args.variable) v.store (zeros 131072) v.values.now in
    let none : has (view (state v)) c.args.variable ≡ false = sym h ∙ sym c.if-not-has.ensures in
    sym (rw none)

pub word-requires : goal.word-requires
word-requires g c =
    let v = c.args.self.now in
    beside_same (λ m. has m c.args.variable) (λ m. has_same m c.args.variable) v.store v.values.now (zeros 131072) ∙ sym c.if-not-has.ensures

pub returns-in_default : goal.returns-in_default
returns-in_default g c =
    let s = state c.args.self.now in
    let h = beside_same (λ m. has m c.args.variable) (λ m. has_same m c.args.variable) c.args.self.now.store c.args.self.now.values.now (zeros 131072) ∙ sym c.if-not-has.ensures in
    let below : assigned (view s) c.args.variable < g.F.Field.modulus = subst (λ (p : ℕ). assigned (view s) c.args.variable < p) c.args.self.now.prime (word_below s c.args.variable c.args.self.now.fit h c.in_default.not-One) in
    told_is s c.args.variable _ h (c.from_number.ensures ∙ ap (λ (x : ℕ). x % g.F.Field.modulus) c.word.ensures ∙ mod-eq_of_lt below)

pub has-requires : goal.has-requires
has-requires g c = bare_fit c.args.self.now.store c.args.self.now.values.now c.args.self.now.fit
