-- Calls of a system that keeps no values, from those of its store beside zeros.
use Rattle.std.proofs.Common.{◌≡◌, ℕ, ◌+◌, ◌<◌, true, false, leb, List, [], ◌∷◌, ◌++◌, map, length, Some, Ok, Err, Option, Result, MatchResult, refl, sym, ap, ◌∙◌, subst, arith, le-leb}
use Rattle.std.proofs.lemmas.List.{map-append, length-map}
use Rattle.relations.specs.declared.term.Term.{Term}
use Rattle.relations.specs.declared.term.Variable.{Variable}
use Rattle.relations.specs.declared.term.Variable.TheVariants.{Combination}
use Rattle.relations.specs.declared.term.Side.{Side}
use Rattle.relations.specs.declared.fault.SystemFault.{SystemFault}
use Rattle.relations.specs.Sum.{sum_of}
use Rattle.relations.specs.Meaning.{Meaning, Step, Ran, Stored, Extends, Leaves, Cuts, Sane, cut, places, combos_within, rows_within, has_all, used, combo_of, new_variable, new_lc, enforce, rewind}
use Rattle.relations.specs.Rows.{reached, LocalRows, RowsLocal, RowsFit}
use Rattle.relations.proofs.Undone.{begins_refl}
use Rattle.words.specs.Words.{whole, meant}
use Rattle.words.specs.State.{State, Fit, view, words_of, with_lc}
use Rattle.systems.specs.declared.store.Store.{Store}
use Rattle.systems.specs.Stores.{beside, bare, zeros, LcAdded}
use Rattle.systems.specs.Forgotten.{no_value, shape, forgotten, without}
use Rattle.systems.specs.Held.{at_side}
use Rattle.systems.specs.Adding.{side_variable, next_word, with_side, LcSized, LcRefused, RowTaken, RowRefused, StoreCut, CutRefused}
use Rattle.systems.specs.Order.{Ordered}
use Rattle.systems.proofs.Views.{inputs_long, witnesses_long, lcs_long, places_are, used_is, sane_is}
use Rattle.systems.proofs.Rows.{rows_local, rows_fit}
use Rattle.systems.proofs.Grown.{Later, Done, later_begins, same_words}
use Rattle.systems.proofs.Calls.{lc_fit, lc_later, lc_more, lc_rows}
use Rattle.systems.proofs.Order.{lc_ordered}
use Rattle.systems.proofs.Forgetting.{hidden, places_same, used_same, has_all_same, within_same, variable_hidden, lc_answer, lc_stays, enforce_hidden, rewind_hidden, cut_without, adds_without}
use Rattle.systems.proofs.Besides.{zero_set, Called, variable_called, row_called, Back, rewind_called}

-- what a store means, and what it stores, where no values are kept
abbrev pub meaning : Store → Meaning
meaning s = forgotten (view (bare s))

abbrev pub stored : Store → Stored
stored s = without (words_of (bare s))

-- a call from s to t with the answer r: what its contract says, and what stays so
pub record Shown {A : Type 0} (step : Step (Result A SystemFault)) (s : Store) (r : Result A SystemFault) (t : Store) : Type 0 where
  pub fit : Fit (bare t)
  pub ordered : Ordered (bare t)
  pub modulus : t.modulus ≡ s.modulus
  pub does : Ran step (meaning s) r (meaning t)
  pub adds : Extends (meaning s) (stored s) (meaning t) (stored t)
  pub leaves : Leaves r (stored s) (stored t)

leaves_without : {A : Type 0} (r : Result A SystemFault) (s t : Stored) → Leaves r s t → Leaves r (without s) (without t)
leaves_without (Ok x) s t h = tt
leaves_without (Err e) s t h = ap without h

-- from a call beside zeros that does the same but for the values
shown : {A : Type 0} (step hid : Step (Result A SystemFault)) (s t : Store) (r : Result A SystemFault) → Fit (bare s) → hid (meaning s) ≡ hidden (step (view (bare s))) → Called step (bare s) r (bare t) → Shown hid s r t
shown step hid s t r f e d = record {
  fit = d.done.fit;
  ordered = d.ordered;
  modulus = d.modulus;
  does = e ∙ ap hidden d.done.does;
  adds = adds_without (view (bare s)) (view (bare t)) (words_of (bare s)) (words_of (bare t)) (d.done.adds (view (bare s)) (words_of (bare s)) (begins_refl (view (bare s)) (words_of (bare s)) (same_words (bare s) f)));
  leaves = leaves_without r (words_of (bare s)) (words_of (bare t)) d.done.leaves;
}

-- a refusal: nothing changes
stays : {A : Type 0} (hid : Step (Result A SystemFault)) (s : Store) (e : SystemFault) → Fit (bare s) → Ordered (bare s) → Ran hid (meaning s) (Err e) (meaning s) → Shown hid s (Err e) s
stays hid s e f o h = record { fit = f; ordered = o; modulus = refl; does = h; adds = λ l u b. b; leaves = refl }

-- ---- each call
pub variable_shown : (s t : Store) (d : Side) (o : Option ℕ) (v : Variable) → Fit (bare s) → Ordered (bare s) → (at_side (bare s) d).0 < (at_side (bare s) d).1 → v ≡ side_variable (bare s) d → ((us ws : List ℕ) → beside t ws ≡ with_side d (beside s us) ws) → Shown (new_variable d o) s (Ok v) t
variable_shown s t d o v f r h ev e =
    shown (new_variable d (Some 0)) (new_variable d o) s t (Ok v) f (variable_hidden d o 0 (view (bare s)))
    (subst (λ (vs : List ℕ). Called (new_variable d (Some 0)) (bare s) (Ok v) (beside t vs)) (zero_set 131072 (next_word (bare s) d))
    (variable_called s t (zeros 131072) d (Some 0) 0 (next_word (bare s) d) v f r h refl f.modulus refl ev e))

pub full_shown : (s : Store) (d : Side) (o : Option ℕ) (e : SystemFault) → Fit (bare s) → Ordered (bare s) → Done (new_variable d (Some 0)) (bare s) (Err e) (bare s) → Shown (new_variable d o) s (Err e) s
full_shown s d o e f r h = stays (new_variable d o) s e f r (variable_hidden d o 0 (view (bare s)) ∙ ap hidden h.does)

pub lc_shown : (s t : Store) (ts : List Term) (n : ℕ) (v : Variable) → Fit (bare s) → Ordered (bare s) → LcSized (bare s) ts n → v ≡ Combination (s.front + n) → LcAdded n 0 ts s t → Shown (new_lc s.modulus ts) s (Ok v) t
lc_shown s t ts n v f o z ev x = record {
  fit = fit;
  ordered = subst Ordered (sym is) (lc_ordered (bare s) ts n 0 vs f z x.written o);
  modulus = ap (λ (u : State). u.modulus) is;
  does = does;
  adds = adds_without (view (bare s)) (view (bare t)) (words_of (bare s)) (words_of (bare t)) (later_begins (bare s) (bare t) f fit (subst (λ (u : State). Later (bare s) u) (sym is) (lc_later (bare s) ts n 0 vs z x.written)));
  leaves = tt;
}
  where
    vs : List ℕ
    vs = t.terms.now

    is : bare t ≡ with_lc (bare s) n vs
    is = x.rest (zeros 131072)

    fit : Fit (bare t)
    fit = subst Fit (sym is) (lc_fit (bare s) ts n 0 vs f z f.modulus x.long x.written)

    more : map shape (view (bare s)).combos ++ (combo_of s.modulus ts (meaning s) ∷ []) ≡ map shape (view (with_lc (bare s) n vs)).combos
    more = sym (ap (map shape) (lc_more (bare s) ts n 0 vs f x.written) ∙ map-append shape (view (bare s)).combos (record { sum = sum_of s.modulus ts; kept = Some 0 } ∷ []))

    ran : new_lc s.modulus ts (meaning s) ≡ (Ok (Combination (s.front + n)), forgotten (view (with_lc (bare s) n vs)))
    ran =
        let k : has_all (meaning s) ts ≡ true = has_all_same (view (bare s)) ts ∙ z.known in
        let u : leb (used (meaning s) + (length (whole s.modulus ts) + 1)) s.term_room ≡ true = le-leb _ _ (omega (arith, used_same (view (bare s)), used_is (bare s) f, f.terms_in, f.back_in, z.room, z.long)) in
        rw (k, u) (λ i. (Ok (Combination ((places_same (view (bare s)).combos ∙ places_are (bare s) f) i + sym z.long i)), record { keeps = false; inputs = (meaning s).inputs; witnesses = (meaning s).witnesses; combos = more i; rows = map (meant s.modulus) (lc_rows (bare s) ts n 0 vs f z.room x.written i); input_room = s.input_room; witness_room = s.witness_room; term_room = s.term_room; row_room = s.row_room; capped = false }))

    does : Ran (new_lc s.modulus ts) (meaning s) (Ok v) (meaning t)
    does = ran ∙ (λ i. (Ok (sym ev i), forgotten (view (sym is i))))

pub lc_hidden : (s : Store) (ts : List Term) (e : SystemFault) → Fit (bare s) → Ordered (bare s) → LcRefused (bare s) ts e → Shown (new_lc s.modulus ts) s (Err e) s
lc_hidden s ts e f o h = stays (new_lc s.modulus ts) s e f o (lc_stays s.modulus ts (meaning s) e (lc_answer s.modulus ts (view (bare s)) ∙ h))

pub row_shown : (s t : Store) (a b c : List Term) (r : Result (Unit {0}) SystemFault) → Fit (bare s) → Ordered (bare s) → MatchResult r (λ _. RowTaken a b c s t) (RowRefused a b c s t) → Shown (enforce s.modulus a b c) s r t
row_shown s t a b c r f o x = shown (enforce s.modulus a b c) (enforce s.modulus a b c) s t r f (enforce_hidden s.modulus a b c (view (bare s))) (row_called s t (zeros 131072) a b c r f o x)

-- a rewinding
pub record Returned (s : Store) (i w k n : ℕ) (r : Result (Unit {0}) SystemFault) (t : Store) : Type 0 where
  pub fit : Fit (bare t)
  pub ordered : Ordered (bare t)
  pub modulus : t.modulus ≡ s.modulus
  pub does : Ran (rewind i w k n) (meaning s) r (meaning t)
  pub cuts : Cuts r (meaning t) (stored s) (stored t)

cuts_without : (r : Result (Unit {0}) SystemFault) (n : Meaning) (s t : Stored) → Cuts r n s t → Cuts r (forgotten n) (without s) (without t)
cuts_without (Ok x) n s t h = ap without h ∙ sym (cut_without n s)
cuts_without (Err e) n s t h = ap without h

pub rewind_shown : (s t : Store) (i w k n : ℕ) (r : Result (Unit {0}) SystemFault) → Fit (bare s) → Ordered (bare s) → MatchResult r (λ _. StoreCut i w k n s t) (CutRefused i w k n s t) → Returned s i w k n r t
rewind_shown s t i w k n r f o x =
    let d : Back (bare s) i w k n r (bare t) = rewind_called s t (zeros 131072) i w k n r f o x in
    record {
      fit = d.rewound.fit;
      ordered = d.ordered;
      modulus = d.modulus;
      does = rewind_hidden i w k n (view (bare s)) ∙ ap hidden d.rewound.does;
      cuts = cuts_without r (view (bare t)) (words_of (bare s)) (words_of (bare t)) d.rewound.cuts;
    }

-- ---- what is told of it
pub shown_inputs : (s : Store) → length (meaning s).inputs ≡ s.inputs
shown_inputs s = length-map (view (bare s)).inputs no_value ∙ inputs_long (bare s)

pub shown_witnesses : (s : Store) → length (meaning s).witnesses ≡ s.witnesses
shown_witnesses s = length-map (view (bare s)).witnesses no_value ∙ witnesses_long (bare s)

pub shown_combos : (s : Store) → length (meaning s).combos ≡ s.combinations
shown_combos s = length-map (view (bare s)).combos shape ∙ lcs_long (bare s)

pub shown_sane : (s : Store) → Fit (bare s) → Sane (meaning s)
shown_sane s f =
    let m = view (bare s) in
    let z = sane_is (bare s) f in
    record {
      combos = (λ i. combos_within (length-map m.inputs no_value i) (length-map m.witnesses no_value i) (places_same m.combos i) (map shape m.combos)) ∙ within_same (length m.inputs) (length m.witnesses) (places m.combos) m.combos ∙ z.combos;
      rows = (λ i. rows_within (length-map m.inputs no_value i) (length-map m.witnesses no_value i) (places_same m.combos i) m.rows) ∙ z.rows;
    }

pub shown_words : (s : Store) → Fit (bare s) → cut (meaning s) (stored s) ≡ stored s
shown_words s f = cut_without (view (bare s)) (words_of (bare s)) ∙ ap without (same_words (bare s) f)

pub shown_local : (s : Store) → Fit (bare s) → RowsLocal (meaning s)
shown_local s f =
    let m = view (bare s) in
    subst (λ (x : Type 0). x) (sym (λ i. LocalRows (reached (length-map m.inputs no_value i) (length-map m.witnesses no_value i) (places_same m.combos i)) m.rows)) (rows_local (bare s) f)

pub shown_fit : (s : Store) → Fit (bare s) → RowsFit (meaning s)
shown_fit s f h = rows_fit (bare s) f h
