use Rattle.std.proofs.Common.{◌≡◌, ℕ, Ok, Err, refl, sym, ap, ◌∙◌, subst, rules}
use Rattle.relations.specs.Meaning.{new_lc}
use Rattle.systems.specs.Held.{shown_by}
use Rattle.systems.specs.Stores.{bare}
use Rattle.systems.proofs.Calls.{lc_fits, few_lcs}
use Rattle.systems.proofs.Blanks.{lc_blank}
use Rattle.systems.proofs.Shown.{Shown, lc_shown, lc_hidden}
use Rattle.systems.proofs.setup_calls.SetupSystem.new_lc.Goals as goal

pub returns-in_err-n-clause-does : goal.returns-in_err-n-clause-does
returns-in_err-n-clause-does g c =
    let v = c.args.self.now in
    let e = c.in_err-n.field-0.0 in
    let is : c.from_residual.result ≡ Err e = search rules in
    let d : Shown (new_lc g.F.Field.modulus c.args.terms.now) v.store (Err e) v.store =
    subst (λ (p : ℕ). Shown (new_lc p c.args.terms.now) v.store (Err e) v.store) v.prime (lc_hidden v.store c.args.terms.now e v.fit v.ordered c.in_err-n.ensures)
    in
    d.does ∙ ap (λ r. (r, shown_by v)) (sym is)

pub add_combination-requires : goal.add_combination-requires
add_combination-requires g c =
    let v = c.args.self.now in
    record { fits = lc_fits (bare v.store) c.args.terms.now c.in_ok-n.n 0 v.fit c.in_ok-n.ensures; few = few_lcs (bare v.store) v.fit; modulus = refl }

pub invariant_of-self : goal.invariant_of-self
invariant_of-self g c =
    let v = c.args.self.now in
    let d = lc_shown v.store c.add_combination.new.self c.args.terms.now c.in_ok-n.n c.add_combination.result v.fit v.ordered c.in_ok-n.ensures c.add_combination.ensures.names c.add_combination.ensures.added in
    record { prime = d.modulus ∙ v.prime; fit = d.fit; ordered = d.ordered; blank = lc_blank v.store c.add_combination.new.self c.args.terms.now c.in_ok-n.n v.fit c.add_combination.ensures.added v.blank }

pub returns : goal.returns
returns g c =
    let v = c.args.self.now in
    let d : Shown (new_lc g.F.Field.modulus c.args.terms.now) v.store (Ok c.add_combination.result) c.add_combination.new.self =
    subst (λ (p : ℕ). Shown (new_lc p c.args.terms.now) v.store (Ok c.add_combination.result) c.add_combination.new.self) v.prime
    (lc_shown v.store c.add_combination.new.self c.args.terms.now c.in_ok-n.n c.add_combination.result v.fit v.ordered c.in_ok-n.ensures c.add_combination.ensures.names c.add_combination.ensures.added)
    in
    record { does = d.does; adds = record { words = d.adds; knowing = λ h. h }; leaves = d.leaves }
