-- A system that keeps no values has none in its headings.
use Rattle.std.proofs.Common.{◌≡◌, ℕ, zero, suc, ◌-◌, ◌≤◌, List, [], ◌∷◌, ◌++◌, take, Ok, Err, Result, MatchResult, refl, sym, subst, arith}
use Rattle.relations.specs.declared.term.Term.{Term}
use Rattle.relations.specs.declared.term.Side.{Side}
use Rattle.relations.specs.declared.term.Side.TheVariants.{Input as input, Witness as witness}
use Rattle.relations.specs.declared.fault.SystemFault.{SystemFault}
use Rattle.words.specs.Words.{Kept, combinations}
use Rattle.words.specs.State.{State, Fit}
use Rattle.systems.specs.declared.store.Store.{Store}
use Rattle.systems.specs.Stores.{beside, bare, zeros, LcAdded}
use Rattle.systems.specs.Adding.{with_side, RowTaken, RowRefused, StoreCut, CutRefused}
use Rattle.systems.specs.Blank.{AllBlank, Blank}
use Rattle.systems.proofs.Calls.{lc_combos, row_combos}

blank_append : (xs ys : List Kept) → AllBlank xs → AllBlank ys → AllBlank (xs ++ ys)
blank_append [] ys a b = b
blank_append (x ∷ xs) ys a b = (a.0, blank_append xs ys a.1 b)

take_blank : (k : ℕ) (xs : List Kept) → AllBlank xs → AllBlank (take k xs)
take_blank zero xs h = tt
take_blank (suc k) [] h = tt
take_blank (suc k) (x ∷ xs) h = (h.0, take_blank k xs h.1)

side_blank : (s : State) (d : Side) (vs : List ℕ) → Blank s → Blank (with_side d s vs)
side_blank s input vs h = h
side_blank s witness vs h = h

pub variable_blank : (s t : Store) (d : Side) → ((us ws : List ℕ) → beside t ws ≡ with_side d (beside s us) ws) → Blank (bare s) → Blank (bare t)
variable_blank s t d e h = subst Blank (sym (e (zeros 131072) (zeros 131072))) (side_blank (bare s) d (zeros 131072) h)

pub lc_blank : (s t : Store) (ts : List Term) (n : ℕ) → Fit (bare s) → LcAdded n 0 ts s t → Blank (bare s) → Blank (bare t)
lc_blank s t ts n f x h =
    subst Blank (sym (x.rest (zeros 131072)))
    (subst AllBlank (sym (lc_combos (bare s) ts n 0 t.terms.now f x.written))
    (blank_append (combinations s.combinations s.front s.terms.now) _ h (refl, tt)))

pub row_blank : (s t : Store) (a b c : List Term) (r : Result (Unit {0}) SystemFault) → Fit (bare s) → MatchResult r (λ _. RowTaken a b c s t) (RowRefused a b c s t) → Blank (bare s) → Blank (bare t)
row_blank s t a b c (Ok u) f x h =
    let low : ℕ = s.back - x.la - x.lb - x.lc in
    let under : s.front ≤ low = omega (arith, x.sized.room, f.terms_in) in
    subst Blank (sym (x.added.rest (zeros 131072))) (subst AllBlank (row_combos (bare s) a b c low t.rows.now t.terms.now f under x.added.written) h)
row_blank s t a b c (Err e) f x h = subst (λ (u : Store). Blank (bare u)) (sym x.same) h

pub rewind_blank : (s t : Store) (i w k n : ℕ) (r : Result (Unit {0}) SystemFault) → MatchResult r (λ _. StoreCut i w k n s t) (CutRefused i w k n s t) → Blank (bare s) → Blank (bare t)
rewind_blank s t i w k n (Ok u) x h = subst Blank (sym (x.rest (zeros 131072))) (subst AllBlank x.at.cut (take_blank k (combinations s.combinations s.front s.terms.now) h))
rewind_blank s t i w k n (Err e) x h = subst (λ (u : Store). Blank (bare u)) (sym x.same) h
