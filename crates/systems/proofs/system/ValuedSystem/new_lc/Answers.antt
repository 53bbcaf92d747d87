use Rattle.std.proofs.Common.{◌≡◌, ℕ, Ok, Err, refl, sym, ap, ◌∙◌, subst, rules}
use Rattle.relations.specs.Meaning.{new_lc}
use Rattle.systems.specs.Held.{state, meant_by}
use Rattle.systems.specs.Stores.{beside, bare, zeros}
use Rattle.systems.proofs.Grown.{Done}
use Rattle.systems.proofs.Calls.{lc_fits, few_lcs}
use Rattle.systems.proofs.Besides.{bare_fit, known_beside, Called, lc_called, lc_barred}
use Rattle.systems.proofs.system.ValuedSystem.new_lc.Goals as goal

pub size-requires-clause-laid : goal.size-requires-clause-laid
size-requires-clause-laid g c = bare_fit c.args.self.now.store c.args.self.now.values.now c.args.self.now.fit

pub returns-in_err-n-clause-does : goal.returns-in_err-n-clause-does
returns-in_err-n-clause-does g c =
    let v = c.args.self.now in
    let e = c.in_err-n.field-0.0 in
    let is : c.from_residual.result ≡ Err e = search rules in
    let d : Done (new_lc g.F.Field.modulus c.args.terms.now) (state v) (Err e) (state v) =
    subst (λ (p : ℕ). Done (new_lc p c.args.terms.now) (state v) (Err e) (state v)) v.prime (lc_barred v.store v.values.now c.args.terms.now e v.fit c.in_err-n.ensures)
    in
    d.does ∙ ap (λ r. (r, meant_by v)) (sym is)

pub worth-kept-requires : goal.worth-kept-requires
worth-kept-requires g c = known_beside c.args.self.now.store (zeros 131072) c.args.self.now.values.now c.args.terms.now c.in_ok-n.ensures.known

pub add_combination-requires : goal.add_combination-requires
add_combination-requires g c =
    let v = c.args.self.now in
    let f = bare_fit v.store v.values.now v.fit in
    record { fits = lc_fits (bare v.store) c.args.terms.now c.in_ok-n.n c.worth-kept.result f c.in_ok-n.ensures; few = few_lcs (bare v.store) f; modulus = refl }

pub invariant_of-self : goal.invariant_of-self
invariant_of-self g c =
    let v = c.args.self.now in
    let d = lc_called v.store c.add_combination.new.self v.values.now c.args.terms.now c.in_ok-n.n c.worth-kept.result c.add_combination.result v.fit v.ordered c.in_ok-n.ensures c.worth-kept.ensures.is c.worth-kept.ensures.below c.add_combination.ensures.names c.add_combination.ensures.added in
    record { prime = d.modulus ∙ v.prime; fit = d.done.fit; ordered = d.ordered }

pub returns : goal.returns
returns g c =
    let v = c.args.self.now in
    let d : Called (new_lc g.F.Field.modulus c.args.terms.now) (state v) (Ok c.add_combination.result) (beside c.add_combination.new.self v.values.now) =
    subst (λ (p : ℕ). Called (new_lc p c.args.terms.now) (state v) (Ok c.add_combination.result) (beside c.add_combination.new.self v.values.now)) v.prime
    (lc_called v.store c.add_combination.new.self v.values.now c.args.terms.now c.in_ok-n.n c.worth-kept.result c.add_combination.result v.fit v.ordered c.in_ok-n.ensures c.worth-kept.ensures.is c.worth-kept.ensures.below c.add_combination.ensures.names c.add_combination.ensures.added)
    in
    record { does = d.done.does; adds = record { words = d.done.adds; knowing = λ h. h }; leaves = d.done.leaves }
