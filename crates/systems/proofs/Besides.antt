-- A store beside one list of values or another.
use Rattle.std.proofs.Common.{◌≡◌, ℕ, zero, suc, ◌+◌, ◌<◌, true, false, List, [], ◌∷◌, ◌++◌, map, length, get_or, set, replicate, ◌-◌, Some, None, Ok, Err, Option, Result, MatchResult, refl, sym, ap, ◌∙◌, subst, arith}
use Rattle.std.proofs.lemmas.List.{map-append, set-get_or, length-replicate}
use Rattle.relations.specs.declared.term.Term.{Term}
use Rattle.relations.specs.declared.fault.SystemFault.{SystemFault}
use Rattle.relations.specs.declared.fault.SystemFault.TheVariants.{MarkRefused}
use Rattle.relations.specs.declared.term.Variable.{Variable}
use Rattle.relations.specs.declared.term.Variable.TheVariants.{Combination}
use Rattle.relations.specs.declared.term.Side.{Side}
use Rattle.relations.specs.Sum.{sum_of}
use Rattle.relations.specs.Meaning.{Meaning, Step, Ran, has_all, assigned, new_variable, new_lc, enforce, may_cut, rewind}
use Rattle.words.specs.Words.{tabulate}
use Rattle.words.specs.State.{State, Fit, view, with_lc, with_row}
use Rattle.systems.specs.declared.store.Store.{Store}
use Rattle.systems.specs.Stores.{beside, bare, zeros, LcAdded}
use Rattle.systems.specs.Forgotten.{no_value, shape, forgotten}
use Rattle.systems.specs.Held.{at_side, Sized, CutAt}
use Rattle.systems.specs.Adding.{next_word, side_variable, with_side, LcSized, LcRefused, RowTaken, RowRefused, StoreCut, CutRefused, cut_state, PartWritten}
use Rattle.systems.specs.Order.{Ordered}
use Rattle.systems.specs.declared.store.Part.{Part}
use Rattle.systems.proofs.Forgetting.{has_all_same, lc_answer, lc_stays, enforce_hidden, enforce_stays, may_cut_same}
use Rattle.systems.proofs.Grown.{Done, refuse}
use Rattle.systems.proofs.Calls.{lc_new, row_new}
use Rattle.systems.proofs.Order.{lc_ordered, row_ordered, cut_ordered}
use Rattle.systems.proofs.Variables.{added, side_ordered, side_modulus}
use Rattle.systems.proofs.Rewinds.{Rewound, done}

-- ---- zeros
pub zeros_long : (n : ℕ) → length (zeros n) ≡ n
unfolding zeros
zeros_long n = length-replicate n 0

pub zero_at : (n i : ℕ) → get_or (zeros n) i 0 ≡ 0
unfolding zeros
zero_at n i = go n i
  where
    go : (n i : ℕ) → ◌≡◌ {A = ℕ} (get_or (replicate n 0) i 0) 0
    go zero i = refl
    go (suc n) zero = refl
    go (suc n) (suc i) = go n i

-- a zero more among zeros
pub zero_set : (n i : ℕ) → set (zeros n) i 0 ≡ zeros n
zero_set n i = ap (set (zeros n) i) (sym (zero_at n i)) ∙ set-get_or (zeros n) i 0

-- ---- what does not depend on the values
-- a store that is well laid beside some values is so beside zeros
pub bare_fit : (s : Store) (vs : List ℕ) → Fit (beside s vs) → Fit (bare s)
bare_fit s vs f = record {
  modulus = f.modulus;
  small = f.small;
  rows_long = f.rows_long;
  terms_long = f.terms_long;
  values_long = omega (arith, zeros_long 131072, f.input_limit, f.witness_limit);
  input_limit = f.input_limit;
  witness_limit = f.witness_limit;
  term_limit = f.term_limit;
  row_limit = f.row_limit;
  inputs_in = f.inputs_in;
  witnesses_in = f.witnesses_in;
  rows_in = f.rows_in;
  terms_in = f.terms_in;
  back_in = f.back_in;
  chain = f.chain;
  tagged = f.tagged;
  stack = f.stack;
  at_floor = f.at_floor;
  inputs_below = λ j k. subst (λ (x : ℕ). x < s.modulus) (sym (zero_at 131072 j)) f.modulus;
  witnesses_below = λ j k. subst (λ (x : ℕ). x < s.modulus) (sym (zero_at 131072 (s.input_room + j))) f.modulus;
  combos_named = f.combos_named;
  rows_named = f.rows_named;
}

no_values : (n : ℕ) (f g : ℕ → Option ℕ) → map no_value (tabulate n f) ≡ map no_value (tabulate n g)
no_values zero f g = refl
no_values (suc n) f g =
    map-append no_value (tabulate n f) (f n ∷ [])
    ∙ ap (λ (xs : List (Option ℕ)). xs ++ (None ∷ [])) (no_values n f g)
    ∙ sym (map-append no_value (tabulate n g) (g n ∷ []))

pub forgotten_same : (s : Store) (vs ws : List ℕ) → forgotten (view (beside s vs)) ≡ forgotten (view (beside s ws))
forgotten_same s vs ws = λ i. record {
  keeps = false;
  inputs = no_values s.inputs (λ j. Some (get_or vs j 0)) (λ j. Some (get_or ws j 0)) i;
  witnesses = no_values s.witnesses (λ j. Some (get_or vs (s.input_room + j) 0)) (λ j. Some (get_or ws (s.input_room + j) 0)) i;
  combos = map shape (view (beside s vs)).combos;
  rows = (view (beside s vs)).rows;
  input_room = s.input_room;
  witness_room = s.witness_room;
  term_room = s.term_room;
  row_room = s.row_room;
  capped = false;
}

-- what is the same where values are forgotten does not depend on them
pub beside_same : {X : Type 0} (f : Meaning → X) → ((m : Meaning) → f (forgotten m) ≡ f m) → (s : Store) (vs ws : List ℕ) → f (view (beside s vs)) ≡ f (view (beside s ws))
beside_same f h s vs ws = sym (h (view (beside s vs))) ∙ ap f (forgotten_same s vs ws) ∙ h (view (beside s ws))

pub known_beside : (s : Store) (vs ws : List ℕ) (ts : List Term) → has_all (view (beside s vs)) ts ≡ true → has_all (view (beside s ws)) ts ≡ true
known_beside s vs ws ts h = beside_same (λ m. has_all m ts) (λ m. has_all_same m ts) s ws vs ∙ h

pub lc_beside : (s : Store) (vs ws : List ℕ) (ts : List Term) (n : ℕ) → LcSized (beside s vs) ts n → LcSized (beside s ws) ts n
lc_beside s vs ws ts n z = record { known = known_beside s vs ws ts z.known; long = z.long; room = z.room }

sized_beside : (s : Store) (vs ws : List ℕ) (a b c : List Term) (la lb lc : ℕ) → Sized (beside s vs) a b c la lb lc → Sized (beside s ws) a b c la lb lc
sized_beside s vs ws a b c la lb lc z = record {
  a_known = known_beside s vs ws a z.a_known;
  b_known = known_beside s vs ws b z.b_known;
  c_known = known_beside s vs ws c z.c_known;
  a_long = z.a_long;
  b_long = z.b_long;
  c_long = z.c_long;
  room = z.room;
}

may_cut_beside : (s : Store) (vs ws : List ℕ) (i w k r : ℕ) → may_cut i w k r (view (beside s vs)) ≡ may_cut i w k r (view (beside s ws))
may_cut_beside s vs ws i w k r = beside_same (may_cut i w k r) (may_cut_same i w k r) s vs ws

cut_beside : (s : Store) (vs ws : List ℕ) (i w k r end low : ℕ) → CutAt (beside s vs) i w k r end low → CutAt (beside s ws) i w k r end low
cut_beside s vs ws i w k r end low x = record {
  i_in = x.i_in;
  w_in = x.w_in;
  r_in = x.r_in;
  below = x.below;
  chain = x.chain;
  tagged = x.tagged;
  cut = x.cut;
  low_is = x.low_is;
  combos_named = x.combos_named;
  rows_named = x.rows_named;
  allowed = may_cut_beside s ws vs i w k r ∙ x.allowed;
}

pub ordered_beside : (s : Store) (vs ws : List ℕ) → Ordered (beside s vs) → Ordered (beside s ws)
ordered_beside s vs ws o = record { combos = o.combos; rows = o.rows }

pub part_beside : (s : Store) (vs ws : List ℕ) (part : Part) (i : ℕ) (os qs : List ℕ) → PartWritten (beside s vs) part i os qs → PartWritten (beside s ws) part i os qs
part_beside s vs ws part i os qs w = record { same_long = w.same_long; over = w.over; keeps = w.keeps }

-- ---- calls of a store, beside any values
-- a call from s to t: what its contract says, and that the terms stay in order
pub record Called {A : Type 0} (step : Step (Result A SystemFault)) (s : State) (r : Result A SystemFault) (t : State) : Type 0 where
  pub done : Done step s r t
  pub modulus : t.modulus ≡ s.modulus
  pub ordered : Ordered t

-- the same of what a system is left as, under another name
pub called : {A : Type 0} (step : Step (Result A SystemFault)) (s t u : State) (r : Result A SystemFault) → t ≡ u → Done step s r u → u.modulus ≡ s.modulus → Ordered u → Called step s r t
called step s t u r e d m o = subst (λ (x : State). Called step s r x) (sym e) record { done = d; modulus = m; ordered = o }

pub row_called : (s t : Store) (vs : List ℕ) (a b c : List Term) (r : Result (Unit {0}) SystemFault) → Fit (beside s vs) → Ordered (beside s vs) → MatchResult r (λ _. RowTaken a b c s t) (RowRefused a b c s t) → Called (enforce s.modulus a b c) (beside s vs) r (beside t vs)
row_called s t vs a b c (Ok u) f o x =
    let z = sized_beside s (zeros 131072) vs a b c x.la x.lb x.lc x.sized in
    let low : ℕ = s.back - x.la - x.lb - x.lc in
    let sum : low + (x.la + x.lb + x.lc) ≡ s.back = omega (arith, z.room) in
    called (enforce s.modulus a b c) (beside s vs) (beside t vs) (with_row (beside s vs) low t.rows.now t.terms.now) (Ok tt) (x.added.rest vs)
    (row_new (beside s vs) a b c x.la x.lb x.lc low t.rows.now t.terms.now f z x.room sum x.added.rows_long x.added.terms_long x.added.written)
    refl
    (row_ordered (beside s vs) a b c x.la x.lb x.lc low t.rows.now t.terms.now f z sum x.added.written o)
row_called s t vs a b c (Err e) f o x =
    let answer = beside_same (λ m. (enforce s.modulus a b c m).0) (λ m. ap (λ q. q.0) (enforce_hidden s.modulus a b c m)) s vs (zeros 131072) in
    called (enforce s.modulus a b c) (beside s vs) (beside t vs) (beside s vs) (Err e) (ap (λ (u : Store). beside u vs) x.same)
    (refuse (enforce s.modulus a b c) (beside s vs) e f (enforce_stays s.modulus a b c (view (beside s vs)) e (answer ∙ x.does)))
    refl
    o

pub lc_called : (s t : Store) (vs : List ℕ) (ts : List Term) (n kept : ℕ) (v : Variable) → Fit (beside s vs) → Ordered (beside s vs) → LcSized (bare s) ts n → kept ≡ (sum_of s.modulus ts).value (assigned (view (beside s vs))) → kept < s.modulus → v ≡ Combination (s.front + n) → LcAdded n kept ts s t → Called (new_lc s.modulus ts) (beside s vs) (Ok v) (beside t vs)
lc_called s t vs ts n kept v f o z k b e x =
    let y = lc_beside s (zeros 131072) vs ts n z in
    subst (λ (v : Variable). Called (new_lc s.modulus ts) (beside s vs) (Ok v) (beside t vs)) (sym e)
    (called (new_lc s.modulus ts) (beside s vs) (beside t vs) (with_lc (beside s vs) n t.terms.now) (Ok (Combination (s.front + n))) (x.rest vs)
    (lc_new (beside s vs) ts n kept t.terms.now f y k b x.long x.written)
    refl
    (lc_ordered (beside s vs) ts n kept t.terms.now f y x.written o))

pub lc_barred : (s : Store) (vs : List ℕ) (ts : List Term) (e : SystemFault) → Fit (beside s vs) → LcRefused (bare s) ts e → Done (new_lc s.modulus ts) (beside s vs) (Err e) (beside s vs)
lc_barred s vs ts e f h =
    let answer = beside_same (λ m. (new_lc s.modulus ts m).0) (λ m. lc_answer s.modulus ts m) s vs (zeros 131072) in
    refuse (new_lc s.modulus ts) (beside s vs) e f (lc_stays s.modulus ts (view (beside s vs)) e (answer ∙ h))

pub variable_called : (s t : Store) (vs : List ℕ) (d : Side) (o : Option ℕ) (x at : ℕ) (v : Variable) → Fit (beside s vs) → Ordered (beside s vs) → (at_side (bare s) d).0 < (at_side (bare s) d).1 → o ≡ Some x → x < s.modulus → at ≡ next_word (bare s) d → v ≡ side_variable (bare s) d → ((us ws : List ℕ) → beside t ws ≡ with_side d (beside s us) ws) → Called (new_variable d o) (beside s vs) (Ok v) (beside t (set vs at x))
variable_called s t vs d o x at v f r h eo b ea ev e =
    subst (λ (o : Option ℕ). Called (new_variable d o) (beside s vs) (Ok v) (beside t (set vs at x))) (sym eo)
    (subst (λ (v : Variable). Called (new_variable d (Some x)) (beside s vs) (Ok v) (beside t (set vs at x))) (sym ev)
    (subst (λ (at : ℕ). Called (new_variable d (Some x)) (beside s vs) (Ok (side_variable (bare s) d)) (beside t (set vs at x))) (sym ea)
    (called (new_variable d (Some x)) (beside s vs) (beside t (set vs (next_word (bare s) d) x)) (with_side d (beside s vs) (set vs (next_word (bare s) d) x)) (Ok (side_variable (bare s) d)) (e vs (set vs (next_word (bare s) d) x))
    (added (beside s vs) d x f h b)
    (side_modulus (beside s vs) d (set vs (next_word (bare s) d) x))
    (side_ordered (beside s vs) d (set vs (next_word (bare s) d) x) r))))

-- a rewinding from s to t
pub record Back (s : State) (i w k n : ℕ) (r : Result (Unit {0}) SystemFault) (t : State) : Type 0 where
  pub rewound : Rewound s i w k n r t
  pub modulus : t.modulus ≡ s.modulus
  pub ordered : Ordered t

back : (s t u : State) (i w k n : ℕ) (r : Result (Unit {0}) SystemFault) → t ≡ u → Rewound s i w k n r u → u.modulus ≡ s.modulus → Ordered u → Back s i w k n r t
back s t u i w k n r e d m o = subst (λ (x : State). Back s i w k n r x) (sym e) record { rewound = d; modulus = m; ordered = o }

pub rewind_called : (s t : Store) (vs : List ℕ) (i w k n : ℕ) (r : Result (Unit {0}) SystemFault) → Fit (beside s vs) → Ordered (beside s vs) → MatchResult r (λ _. StoreCut i w k n s t) (CutRefused i w k n s t) → Back (beside s vs) i w k n r (beside t vs)
rewind_called s t vs i w k n (Ok u) f o x =
    let y = cut_beside s (zeros 131072) vs i w k n x.end x.low x.at in
    back (beside s vs) (beside t vs) (cut_state (beside s vs) i w k n x.end x.low) i w k n (Ok tt) (x.rest vs)
    (done (beside s vs) i w k n x.end x.low f y)
    refl
    (cut_ordered (beside s vs) i w k n x.end x.low y o)
rewind_called s t vs i w k n (Err e) f o x =
    let b : may_cut i w k n (view (beside s vs)) ≡ false = may_cut_beside s vs (zeros 131072) i w k n ∙ x.barred in
    let does : Ran (rewind i w k n) (view (beside s vs)) (Err MarkRefused) (view (beside s vs)) = rw b in
    back (beside s vs) (beside t vs) (beside s vs) i w k n (Err e) (ap (λ (u : Store). beside u vs) x.same)
    (subst (λ (e : SystemFault). Rewound (beside s vs) i w k n (Err e) (beside s vs)) (sym x.fault) record { fit = f; does = does; cuts = refl })
    refl
    o
