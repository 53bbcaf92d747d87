-- Each call that adds to a system over words does its step.
use Rattle.std.proofs.Common.{◌≡◌, ℕ, ◌+◌, ◌-◌, ◌*◌, ◌<◌, ◌≤◌, true, false, ◌&&◌, ltb, leb, List, [], ◌∷◌, ◌++◌, map, length, get_or, set, Some, None, Ok, Err, Option, Result, MatchResult, sym, refl, ap, ◌∙◌, subst, inl, inr, eq-or-lt_of_le, arith, length-set, get_or-set_other, get_or-set_same, le-ltb, lt-ltb, le-leb}
use borrow.Author.Tests.{lt-leb}
use Rattle.std.proofs.lemmas.List.{map-append}
use Rattle.relations.specs.declared.term.Variable.TheVariants.{Input, Witness, Combination}
use Rattle.relations.specs.declared.term.Term.{Term}
use Rattle.relations.specs.declared.fault.SystemFault.TheVariants.{UnknownVariable, MissingValue, InputsFull, WitnessesFull, TermsFull, RowsFull}
use Rattle.relations.specs.Sum.{handed, all_in, sum_of, row_of}
use Rattle.relations.specs.Meaning.{Ran, new_variable, has_all, has_row, assigned, used, row_use, combo_of, new_lc, admit, enforce}
use Rattle.relations.specs.declared.term.Side.TheVariants.{Input as input, Witness as witness}
use Rattle.relations.specs.declared.fault.SystemFault.{SystemFault}
use Rattle.relations.specs.Script.{over}
use Rattle.words.specs.declared.merge.Sizes.{Sizes}
use Rattle.words.specs.Words.{tabulate, whole, combinations, combo, rows, meant, triple, floor, Placed, lists_in, triples_in, LcFits, LcWritten, RowWritten}
use Rattle.words.specs.State.{State, Fit, view, with_lc, with_row}
use Rattle.words.proofs.Tables.{tabulate_same, tabulate_more}
use Rattle.words.proofs.Values.{stored_means}
use Rattle.words.proofs.Areas.{chain_count, chain_same, chain_more, tagged_same, tagged_more, combinations_same, combinations_more, rows_same, rows_more, stack_same, stack_more, floor_same, floor_more}
use Rattle.std.proofs.lemmas.Bool.{and_parts}
use Rattle.words.proofs.Cuts.{lists_in_append, triples_in_append, lists_in_more, triples_in_more, all_in_more}
use Rattle.words.proofs.There.{merged_in, stored_free}
use Rattle.systems.specs.Held.{Sized, Refused}
use Rattle.systems.specs.Adding.{LcSized, LcRefused, with_side}
use Rattle.systems.proofs.Views.{inputs_long, witnesses_long, rows_long, places_are, used_is, has_all_in, has_small}
use Rattle.systems.proofs.Grown.{Later, Done, refuse, accept}

-- ---- inputs and witnesses
abbrev pub with_input : State → List ℕ → State
with_input s vs = with_side input s vs

abbrev pub with_witness : State → List ℕ → State
with_witness s vs = with_side witness s vs

pub input_full : (s : State) (o : Option ℕ) → Fit s → s.input_room ≤ s.inputs → Done (new_variable input o) s (Err InputsFull) s
input_full s o f h =
    let t : ltb (length (view s).inputs) s.input_room ≡ false = le-ltb _ _ (omega (arith, inputs_long s)) in
    refuse (new_variable input o) s InputsFull f (rw t)

pub witness_full : (s : State) (o : Option ℕ) → Fit s → s.witness_room ≤ s.witnesses → Done (new_variable witness o) s (Err WitnessesFull) s
witness_full s o f h =
    let t : ltb (length (view s).witnesses) s.witness_room ≡ false = le-ltb _ _ (omega (arith, witnesses_long s)) in
    refuse (new_variable witness o) s WitnessesFull f (rw t)

pub input_missing : (s : State) → Fit s → s.inputs < s.input_room → Done (new_variable input None) s (Err MissingValue) s
input_missing s f h =
    let t : ltb (length (view s).inputs) s.input_room ≡ true = lt-ltb _ _ (omega (arith, inputs_long s)) in
    refuse (new_variable input None) s MissingValue f (rw t)

pub witness_missing : (s : State) → Fit s → s.witnesses < s.witness_room → Done (new_variable witness None) s (Err MissingValue) s
witness_missing s f h =
    let t : ltb (length (view s).witnesses) s.witness_room ≡ true = lt-ltb _ _ (omega (arith, witnesses_long s)) in
    refuse (new_variable witness None) s MissingValue f (rw t)

-- a word written at place n, and what is below p up to it
set_below : (p n x b : ℕ) (vs : List ℕ) → b + n < length vs → x < p → ((j : ℕ) → j < n → get_or vs (b + j) 0 < p) → (j : ℕ) → j < n + 1 → get_or (set vs (b + n) x) (b + j) 0 < p
set_below p n x b vs l h f j k =
    elim (eq-or-lt_of_le {n = j} {m = n} (omega arith)) [
      | inl e ↦ subst (λ (y : ℕ). y < p) (sym (ap (λ (y : ℕ). get_or (set vs (b + n) x) (b + y) 0) e ∙ get_or-set_same vs (b + n) x 0 l)) h
      | inr g ↦ subst (λ (y : ℕ). y < p) (sym (get_or-set_other vs (b + n) (b + j) x 0 (λ e. omega arith))) (f j g)
    ]

set_more : (n x b : ℕ) (vs : List ℕ) → b + n < length vs → tabulate n (λ j. Some (get_or vs (b + j) 0)) ++ (Some x ∷ []) ≡ tabulate (n + 1) (λ j. Some (get_or (set vs (b + n) x) (b + j) 0))
set_more n x b vs l = sym (tabulate_more n (λ j. Some (get_or (set vs (b + n) x) (b + j) 0))
    ∙ (λ i. tabulate_same n (λ j. Some (get_or (set vs (b + n) x) (b + j) 0)) (λ j. Some (get_or vs (b + j) 0)) (λ j h. ap Some (get_or-set_other vs (b + n) (b + j) x 0 (λ e. omega arith))) i
    ++ (Some (get_or-set_same vs (b + n) x 0 l i) ∷ [])))

input_more : (n x : ℕ) (vs : List ℕ) → n < length vs → tabulate n (λ j. Some (get_or vs j 0)) ++ (Some x ∷ []) ≡ tabulate (n + 1) (λ j. Some (get_or (set vs n x) j 0))
input_more n x vs l = sym (tabulate_more n (λ j. Some (get_or (set vs n x) j 0))
    ∙ (λ i. tabulate_same n (λ j. Some (get_or (set vs n x) j 0)) (λ j. Some (get_or vs j 0)) (λ j h. ap Some (get_or-set_other vs n j x 0 (λ e. omega arith))) i
    ++ (Some (get_or-set_same vs n x 0 l i) ∷ [])))

input_below : (p n x : ℕ) (vs : List ℕ) → n < length vs → x < p → ((j : ℕ) → j < n → get_or vs j 0 < p) → (j : ℕ) → j < n + 1 → get_or (set vs n x) j 0 < p
input_below p n x vs l h f j k =
    elim (eq-or-lt_of_le {n = j} {m = n} (omega arith)) [
      | inl e ↦ subst (λ (y : ℕ). y < p) (sym (ap (λ (y : ℕ). get_or (set vs n x) y 0) e ∙ get_or-set_same vs n x 0 l)) h
      | inr g ↦ subst (λ (y : ℕ). y < p) (sym (get_or-set_other vs n j x 0 (λ e. omega arith))) (f j g)
    ]

input_fit : (s : State) (x : ℕ) → Fit s → s.inputs < s.input_room → x < s.modulus → Fit (with_input s (set s.value_words s.inputs x))
input_fit s x f h b = record {
  modulus = f.modulus;
  small = f.small;
  rows_long = f.rows_long;
  terms_long = f.terms_long;
  values_long = simp length-set f.values_long;
  input_limit = f.input_limit;
  witness_limit = f.witness_limit;
  term_limit = f.term_limit;
  row_limit = f.row_limit;
  inputs_in = omega arith;
  witnesses_in = f.witnesses_in;
  rows_in = f.rows_in;
  terms_in = f.terms_in;
  back_in = f.back_in;
  chain = f.chain;
  tagged = f.tagged;
  stack = f.stack;
  at_floor = f.at_floor;
  inputs_below = input_below s.modulus s.inputs x s.value_words (omega arith) b f.inputs_below;
  witnesses_below = λ j k. subst (λ (y : ℕ). y < s.modulus) (sym (get_or-set_other s.value_words s.inputs (s.input_room + j) x 0 (λ e. omega arith))) (f.witnesses_below j k);
  combos_named = lists_in_more s.inputs s.witnesses s.front (s.inputs + 1) s.witnesses s.front (combinations s.lcs s.front s.term_words) (omega arith) (omega arith) (omega arith) f.combos_named;
  rows_named = triples_in_more s.inputs s.witnesses s.front (s.inputs + 1) s.witnesses s.front (rows s.count s.row_words s.term_words) (omega arith) (omega arith) (omega arith) f.rows_named;
}

pub input_new : (s : State) (x : ℕ) → Fit s → s.inputs < s.input_room → x < s.modulus → Done (new_variable input (Some x)) s (Ok (Input s.inputs)) (with_input s (set s.value_words s.inputs x))
input_new s x f h b =
    accept (new_variable input (Some x)) s (with_input s (set s.value_words s.inputs x)) (Input s.inputs) f (input_fit s x f h b)
    record {
      inputs = omega arith;
      witnesses = omega arith;
      front = omega arith;
      count = omega arith;
      back = omega arith;
      input_room = refl;
      term_room = refl;
      input_words = λ j k. get_or-set_other s.value_words s.inputs j x 0 (λ e. omega arith);
      witness_words = λ j k. get_or-set_other s.value_words s.inputs (s.input_room + j) x 0 (λ e. omega arith);
      combo_words = λ j k. refl;
      row_words = λ j k. refl;
      row_terms = λ j k l. refl;
    }
    ran
  where
    long : s.inputs < length s.value_words
    long = omega (arith, f.values_long)

    wits : tabulate s.witnesses (λ j. Some (get_or s.value_words (s.input_room + j) 0)) ≡ tabulate s.witnesses (λ j. Some (get_or (set s.value_words s.inputs x) (s.input_room + j) 0))
    wits = tabulate_same s.witnesses (λ j. Some (get_or s.value_words (s.input_room + j) 0)) (λ j. Some (get_or (set s.value_words s.inputs x) (s.input_room + j) 0)) (λ j k. ap Some (sym (get_or-set_other s.value_words s.inputs (s.input_room + j) x 0 (λ e. omega arith))))

    ran : Ran (new_variable input (Some x)) (view s) (Ok (Input s.inputs)) (view (with_input s (set s.value_words s.inputs x)))
    ran =
        let t : ltb (length (view s).inputs) s.input_room ≡ true = lt-ltb _ _ (omega (arith, inputs_long s)) in
        rw t (λ i. (Ok (Input (inputs_long s i)), record { keeps = true; inputs = input_more s.inputs x s.value_words long i; witnesses = wits i; combos = (view s).combos; rows = (view s).rows; input_room = s.input_room; witness_room = s.witness_room; term_room = s.term_room; row_room = s.row_room; capped = false }))

witness_fit : (s : State) (x : ℕ) → Fit s → s.witnesses < s.witness_room → x < s.modulus → Fit (with_witness s (set s.value_words (s.input_room + s.witnesses) x))
witness_fit s x f h b = record {
  modulus = f.modulus;
  small = f.small;
  rows_long = f.rows_long;
  terms_long = f.terms_long;
  values_long = simp length-set f.values_long;
  input_limit = f.input_limit;
  witness_limit = f.witness_limit;
  term_limit = f.term_limit;
  row_limit = f.row_limit;
  inputs_in = f.inputs_in;
  witnesses_in = omega arith;
  rows_in = f.rows_in;
  terms_in = f.terms_in;
  back_in = f.back_in;
  chain = f.chain;
  tagged = f.tagged;
  stack = f.stack;
  at_floor = f.at_floor;
  inputs_below = λ j k. subst (λ (y : ℕ). y < s.modulus) (sym (get_or-set_other s.value_words (s.input_room + s.witnesses) j x 0 (λ e. omega arith))) (f.inputs_below j k);
  witnesses_below = set_below s.modulus s.witnesses x s.input_room s.value_words (omega arith) b f.witnesses_below;
  combos_named = lists_in_more s.inputs s.witnesses s.front s.inputs (s.witnesses + 1) s.front (combinations s.lcs s.front s.term_words) (omega arith) (omega arith) (omega arith) f.combos_named;
  rows_named = triples_in_more s.inputs s.witnesses s.front s.inputs (s.witnesses + 1) s.front (rows s.count s.row_words s.term_words) (omega arith) (omega arith) (omega arith) f.rows_named;
}

pub witness_new : (s : State) (x : ℕ) → Fit s → s.witnesses < s.witness_room → x < s.modulus → Done (new_variable witness (Some x)) s (Ok (Witness s.witnesses)) (with_witness s (set s.value_words (s.input_room + s.witnesses) x))
witness_new s x f h b =
    accept (new_variable witness (Some x)) s (with_witness s (set s.value_words (s.input_room + s.witnesses) x)) (Witness s.witnesses) f (witness_fit s x f h b)
    record {
      inputs = omega arith;
      witnesses = omega arith;
      front = omega arith;
      count = omega arith;
      back = omega arith;
      input_room = refl;
      term_room = refl;
      input_words = λ j k. get_or-set_other s.value_words (s.input_room + s.witnesses) j x 0 (λ e. omega arith);
      witness_words = λ j k. get_or-set_other s.value_words (s.input_room + s.witnesses) (s.input_room + j) x 0 (λ e. omega arith);
      combo_words = λ j k. refl;
      row_words = λ j k. refl;
      row_terms = λ j k l. refl;
    }
    ran
  where
    long : s.input_room + s.witnesses < length s.value_words
    long = omega (arith, f.values_long)

    ins : tabulate s.inputs (λ j. Some (get_or s.value_words j 0)) ≡ tabulate s.inputs (λ j. Some (get_or (set s.value_words (s.input_room + s.witnesses) x) j 0))
    ins = tabulate_same s.inputs (λ j. Some (get_or s.value_words j 0)) (λ j. Some (get_or (set s.value_words (s.input_room + s.witnesses) x) j 0)) (λ j k. ap Some (sym (get_or-set_other s.value_words (s.input_room + s.witnesses) j x 0 (λ e. omega (arith, f.inputs_in)))))

    ran : Ran (new_variable witness (Some x)) (view s) (Ok (Witness s.witnesses)) (view (with_witness s (set s.value_words (s.input_room + s.witnesses) x)))
    ran =
        let t : ltb (length (view s).witnesses) s.witness_room ≡ true = lt-ltb _ _ (omega (arith, witnesses_long s)) in
        rw t (λ i. (Ok (Witness (witnesses_long s i)), record { keeps = true; inputs = ins i; witnesses = set_more s.witnesses x s.input_room s.value_words long i; combos = (view s).combos; rows = (view s).rows; input_room = s.input_room; witness_room = s.witness_room; term_room = s.term_room; row_room = s.row_room; capped = false }))

-- ---- combinations
pub lc_unknown : (s : State) (ts : List Term) → has_all (view s) ts ≡ false → LcRefused s ts UnknownVariable
lc_unknown s ts e = rw e

pub lc_full : (s : State) (ts : List Term) (n : ℕ) → Fit s → has_all (view s) ts ≡ true → n ≡ length (whole s.modulus ts) → s.back - s.front ≤ n → LcRefused s ts TermsFull
lc_full s ts n f e q h =
    let z : leb (used (view s) + (length (whole s.modulus ts) + 1)) s.term_room ≡ false = lt-leb _ _ (omega (arith, used_is s f, f.terms_in, f.back_in)) in
    rw (e, z)

pub lc_combos : (s : State) (ts : List Term) (n kept : ℕ) (vs : List ℕ) → Fit s → LcWritten s.modulus s.front n kept ts s.term_words vs → combinations (s.lcs + 1) (s.front + n + 1) vs ≡ combinations s.lcs s.front s.term_words ++ (record { terms = whole s.modulus ts; word = kept } ∷ [])
lc_combos s ts n kept vs f x =
    combinations_more s.lcs s.front n vs x.heading
    ∙ (λ i. sym (combinations_same s.lcs s.front s.term_words vs (λ j a b. sym (x.below j b)) f.chain) i ++ (record { terms = x.holds i; word = x.word i } ∷ []))

pub lc_rows : (s : State) (ts : List Term) (n kept : ℕ) (vs : List ℕ) → Fit s → n < s.back - s.front → LcWritten s.modulus s.front n kept ts s.term_words vs → rows s.count s.row_words s.term_words ≡ rows s.count s.row_words vs
lc_rows s ts n kept vs f h x = rows_same s.term_room s.count s.row_words s.row_words s.term_words vs (λ j a b. refl) (λ j a b. sym (x.above j (omega (arith, f.at_floor)))) f.stack

pub lc_fit : (s : State) (ts : List Term) (n kept : ℕ) (vs : List ℕ) → Fit s → LcSized s ts n → kept < s.modulus → length vs ≡ length s.term_words → LcWritten s.modulus s.front n kept ts s.term_words vs → Fit (with_lc s n vs)
lc_fit s ts n kept vs f z b l x = record {
  modulus = f.modulus;
  small = f.small;
  rows_long = f.rows_long;
  terms_long = omega (arith, f.terms_long);
  values_long = f.values_long;
  input_limit = f.input_limit;
  witness_limit = f.witness_limit;
  term_limit = f.term_limit;
  row_limit = f.row_limit;
  inputs_in = f.inputs_in;
  witnesses_in = f.witnesses_in;
  rows_in = f.rows_in;
  terms_in = omega (arith, z.room);
  back_in = f.back_in;
  chain = chain_more s.lcs s.front n vs x.heading (chain_same s.lcs s.front s.term_words vs (λ j a b. sym (x.below j b)) f.chain);
  tagged = tagged_more s.modulus s.lcs s.front n vs x.heading (subst (λ (y : ℕ). y < s.modulus) (sym x.word) b) (stored_free s.modulus s.front n vs ts x.holds)
      (tagged_same s.modulus s.lcs s.front s.term_words vs (λ j a b. sym (x.below j b)) f.chain f.tagged);
  stack = f.stack;
  at_floor = f.at_floor;
  inputs_below = f.inputs_below;
  witnesses_below = f.witnesses_below;
  combos_named =
      ap (lists_in s.inputs s.witnesses (s.front + n + 1)) (lc_combos s ts n kept vs f x)
      ∙ lists_in_append s.inputs s.witnesses (s.front + n + 1) (combinations s.lcs s.front s.term_words) (record { terms = whole s.modulus ts; word = kept } ∷ [])
      ∙ (λ i. lists_in_more s.inputs s.witnesses s.front s.inputs s.witnesses (s.front + n + 1) (combinations s.lcs s.front s.term_words) (omega arith) (omega arith) (omega arith) f.combos_named i
      && (all_in_more s.inputs s.witnesses s.front s.inputs s.witnesses (s.front + n + 1) (whole s.modulus ts) (omega arith) (omega arith) (omega arith)
      (merged_in s.modulus s.inputs s.witnesses s.front (handed ts) (handed ts) (has_all_in s ts f z.known)) i && true));
  rows_named =
      ap (triples_in s.inputs s.witnesses (s.front + n + 1)) (sym (lc_rows s ts n kept vs f z.room x))
      ∙ triples_in_more s.inputs s.witnesses s.front s.inputs s.witnesses (s.front + n + 1) (rows s.count s.row_words s.term_words) (omega arith) (omega arith) (omega arith) f.rows_named;
}

-- the words have room for it
pub lc_fits : (s : State) (ts : List Term) (n kept : ℕ) → Fit s → LcSized s ts n → LcFits s.modulus s.front n kept ts s.term_words
lc_fits s ts n kept f z = record {
  modulus = f.modulus;
  long = z.long;
  limit = omega (arith, z.room, f.back_in, f.term_limit);
  words = omega (arith, z.room, f.back_in, f.terms_long);
  small = has_small s ts f z.known;
}

pub few_lcs : (s : State) → Fit s → s.lcs ≤ 65536
few_lcs s f = omega (arith, chain_count s.lcs s.front s.term_words f.chain, f.terms_in, f.back_in, f.term_limit)

-- all that was there is there after
pub lc_later : (s : State) (ts : List Term) (n kept : ℕ) (vs : List ℕ) → LcSized s ts n → LcWritten s.modulus s.front n kept ts s.term_words vs → Later s (with_lc s n vs)
lc_later s ts n kept vs z x = record {
  inputs = omega arith;
  witnesses = omega arith;
  front = omega arith;
  count = omega arith;
  back = omega arith;
  input_room = refl;
  term_room = refl;
  input_words = λ j c. refl;
  witness_words = λ j c. refl;
  combo_words = x.below;
  row_words = λ j c. refl;
  row_terms = λ j c d. x.above j (omega (arith, z.room));
}

-- the combinations that it means, with one more
pub lc_more : (s : State) (ts : List Term) (n kept : ℕ) (vs : List ℕ) → Fit s → LcWritten s.modulus s.front n kept ts s.term_words vs → (view (with_lc s n vs)).combos ≡ (view s).combos ++ (record { sum = sum_of s.modulus ts; kept = Some kept } ∷ [])
lc_more s ts n kept vs f x =
    ap (map (combo s.modulus)) (lc_combos s ts n kept vs f x)
    ∙ map-append (combo s.modulus) (combinations s.lcs s.front s.term_words) (record { terms = whole s.modulus ts; word = kept } ∷ [])
    ∙ (λ i. map (combo s.modulus) (combinations s.lcs s.front s.term_words) ++ (record { sum = stored_means s.modulus ts f.modulus i; kept = Some kept } ∷ []))

pub lc_room : (s : State) (ts : List Term) (n : ℕ) → Fit s → LcSized s ts n → leb (used (view s) + (length (whole s.modulus ts) + 1)) s.term_room ≡ true
lc_room s ts n f z = le-leb _ _ (omega (arith, used_is s f, f.terms_in, f.back_in, z.room, z.long))

pub lc_new : (s : State) (ts : List Term) (n kept : ℕ) (vs : List ℕ) → Fit s → LcSized s ts n → kept ≡ (sum_of s.modulus ts).value (assigned (view s)) → kept < s.modulus → length vs ≡ length s.term_words → LcWritten s.modulus s.front n kept ts s.term_words vs →
    Done (new_lc s.modulus ts) s (Ok (Combination (s.front + n))) (with_lc s n vs)
lc_new s ts n kept vs f z k b l x =
    accept (new_lc s.modulus ts) s (with_lc s n vs) (Combination (s.front + n)) f (lc_fit s ts n kept vs f z b l x) (lc_later s ts n kept vs z x) ran
  where
    more : (view s).combos ++ (combo_of s.modulus ts (view s) ∷ []) ≡ (view (with_lc s n vs)).combos
    more = sym (lc_more s ts n kept vs f x ∙ (λ i. (view s).combos ++ (record { sum = sum_of s.modulus ts; kept = Some (k i) } ∷ [])))

    ran : Ran (new_lc s.modulus ts) (view s) (Ok (Combination (s.front + n))) (view (with_lc s n vs))
    ran =
        let t = z.known in
        let u = lc_room s ts n f z in
        rw (t, u) (λ i. (Ok (Combination (places_are s f i + sym z.long i)), record { keeps = true; inputs = (view s).inputs; witnesses = (view s).witnesses; combos = more i; rows = map (meant s.modulus) (lc_rows s ts n kept vs f z.room x i); input_room = s.input_room; witness_room = s.witness_room; term_room = s.term_room; row_room = s.row_room; capped = false }))

-- ---- rows
-- what a row names is there where each of its sums names what is there
pub each_known : (s : State) (a b c : List Term) → has_row (view s) a b c ≡ true → (has_all (view s) a ≡ true) × (has_all (view s) b ≡ true) × (has_all (view s) c ≡ true)
each_known s a b c e =
    let x = and_parts (has_all (view s) a) _ e in
    let y = and_parts (has_all (view s) b) (has_all (view s) c) x.1 in
    (x.0, y.0, y.1)

pub row_terms_full : (s : State) (a b c : List Term) (la lb lc : ℕ) → Fit s → has_row (view s) a b c ≡ true → la ≡ length (whole s.modulus a) → lb ≡ length (whole s.modulus b) → lc ≡ length (whole s.modulus c) → s.back - s.front < la + lb + lc → Refused s a b c TermsFull
row_terms_full s a b c la lb lc f t ea eb ec h =
    let z : leb (used (view s) + row_use (row_of s.modulus a b c)) s.term_room ≡ false = lt-leb _ _ (omega (arith, used_is s f, f.terms_in, f.back_in)) in
    record { admits = rw (t, z); does = rw (t, z) }

sized_known : (s : State) (a b c : List Term) (la lb lc : ℕ) → Sized s a b c la lb lc → has_row (view s) a b c ≡ true
sized_known s a b c la lb lc x = λ i. x.a_known i && (x.b_known i && x.c_known i)

sized_room : (s : State) (a b c : List Term) (la lb lc : ℕ) → Fit s → Sized s a b c la lb lc → leb (used (view s) + row_use (row_of s.modulus a b c)) s.term_room ≡ true
sized_room s a b c la lb lc f x = le-leb _ _ (omega (arith, used_is s f, f.terms_in, f.back_in, x.a_long, x.b_long, x.c_long, x.room))

pub row_admitted : (s : State) (a b c : List Term) (la lb lc : ℕ) → Fit s → Sized s a b c la lb lc → Ran (admit s.modulus a b c) (view s) (Ok tt) (view s)
row_admitted s a b c la lb lc f x =
    let t = sized_known s a b c la lb lc x in
    let z = sized_room s a b c la lb lc f x in
    rw (t, z)

pub admitted : (s : State) (a b c : List Term) (r : Result Sizes SystemFault) (q : Result (Unit {0}) SystemFault) → Fit s → MatchResult r (λ n. Sized s a b c n.a n.b n.c) (Refused s a b c) → q ≡ over (λ n. tt) r → q ≡ (admit s.modulus a b c (view s)).0
admitted s a b c (Ok n) q f h e = e ∙ sym (ap (λ x. x.0) (row_admitted s a b c n.a n.b n.c f h))
admitted s a b c (Err k) q f h e = e ∙ sym (ap (λ x. x.0) h.admits)

pub row_full : (s : State) (a b c : List Term) (la lb lc : ℕ) → Fit s → Sized s a b c la lb lc → s.row_room ≤ s.count → Done (enforce s.modulus a b c) s (Err RowsFull) s
row_full s a b c la lb lc f x h =
    let t = sized_known s a b c la lb lc x in
    let z = sized_room s a b c la lb lc f x in
    let y : ltb (length (view s).rows) s.row_room ≡ false = le-ltb _ _ (omega (arith, rows_long s)) in
    refuse (enforce s.modulus a b c) s RowsFull f (rw (t, z, y))

pub row_combos : (s : State) (a b c : List Term) (low : ℕ) (qs vs : List ℕ) → Fit s → s.front ≤ low → RowWritten s.modulus s.count s.back low a b c s.row_words qs s.term_words vs → combinations s.lcs s.front s.term_words ≡ combinations s.lcs s.front vs
row_combos s a b c low qs vs f h x = combinations_same s.lcs s.front s.term_words vs (λ j u v. sym (x.terms_below j (omega arith))) f.chain

pub row_rows : (s : State) (a b c : List Term) (low : ℕ) (qs vs : List ℕ) → Fit s → RowWritten s.modulus s.count s.back low a b c s.row_words qs s.term_words vs → rows (s.count + 1) qs vs ≡ rows s.count s.row_words s.term_words ++ (triple s.modulus a b c ∷ [])
row_rows s a b c low qs vs f x =
    rows_more s.count qs vs
    ∙ (λ i. sym (rows_same s.term_room s.count s.row_words qs s.term_words vs (λ j u v. sym (x.rows_kept j v)) (λ j u v. sym (x.terms_above j (omega (arith, f.at_floor)))) f.stack) i ++ (x.holds i ∷ []))

row_fit : (s : State) (a b c : List Term) (la lb lc low : ℕ) (qs vs : List ℕ) → Fit s → Sized s a b c la lb lc → s.count < s.row_room → low + (la + lb + lc) ≡ s.back → length qs ≡ length s.row_words → length vs ≡ length s.term_words → RowWritten s.modulus s.count s.back low a b c s.row_words qs s.term_words vs → Fit (with_row s low qs vs)
row_fit s a b c la lb lc low qs vs f z g e lq lv x = record {
  modulus = f.modulus;
  small = f.small;
  rows_long = omega (arith, f.rows_long);
  terms_long = omega (arith, f.terms_long);
  values_long = f.values_long;
  input_limit = f.input_limit;
  witness_limit = f.witness_limit;
  term_limit = f.term_limit;
  row_limit = f.row_limit;
  inputs_in = f.inputs_in;
  witnesses_in = f.witnesses_in;
  rows_in = omega arith;
  terms_in = under;
  back_in = omega (arith, f.back_in);
  chain = chain_same s.lcs s.front s.term_words vs kept f.chain;
  tagged = tagged_same s.modulus s.lcs s.front s.term_words vs kept f.chain f.tagged;
  stack = stack_more s.term_room s.count low qs placed (stack_same s.term_room s.count s.row_words qs (λ j u v. sym (x.rows_kept j v)) f.stack);
  at_floor = floor_more s.term_room s.count low qs placed;
  inputs_below = f.inputs_below;
  witnesses_below = f.witnesses_below;
  combos_named = ap (lists_in s.inputs s.witnesses s.front) (sym (row_combos s a b c low qs vs f under x)) ∙ f.combos_named;
  rows_named =
      ap (triples_in s.inputs s.witnesses s.front) (row_rows s a b c low qs vs f x)
      ∙ triples_in_append s.inputs s.witnesses s.front (rows s.count s.row_words s.term_words) (triple s.modulus a b c ∷ [])
      ∙ (λ i. f.rows_named i && ((one a z.a_known i && (one b z.b_known i && one c z.c_known i)) && true));
}
  where
    under : s.front ≤ low
    under = omega (arith, z.room, f.terms_in)

    kept : (j : ℕ) → 0 ≤ j → j < 2 * s.front → get_or s.term_words j 0 ≡ get_or vs j 0
    kept j u v = sym (x.terms_below j (omega (arith, under)))

    placed : Placed s.count (floor s.term_room s.count qs) low qs
    placed = subst (λ (y : ℕ). Placed s.count y low qs) (sym f.at_floor ∙ floor_same s.term_room s.count s.row_words qs (λ j u v. sym (x.rows_kept j v))) x.placed

    one : (ts : List Term) → has_all (view s) ts ≡ true → all_in s.inputs s.witnesses s.front (whole s.modulus ts) ≡ true
    one ts h = merged_in s.modulus s.inputs s.witnesses s.front (handed ts) (handed ts) (has_all_in s ts f h)

pub row_new : (s : State) (a b c : List Term) (la lb lc low : ℕ) (qs vs : List ℕ) → Fit s → Sized s a b c la lb lc → s.count < s.row_room → low + (la + lb + lc) ≡ s.back → length qs ≡ length s.row_words → length vs ≡ length s.term_words → RowWritten s.modulus s.count s.back low a b c s.row_words qs s.term_words vs →
    Done (enforce s.modulus a b c) s (Ok tt) (with_row s low qs vs)
row_new s a b c la lb lc low qs vs f x g e lq lv w =
    accept (enforce s.modulus a b c) s (with_row s low qs vs) tt f (row_fit s a b c la lb lc low qs vs f x g e lq lv w)
    record {
      inputs = omega arith;
      witnesses = omega arith;
      front = omega arith;
      count = omega arith;
      back = omega arith;
      input_room = refl;
      term_room = refl;
      input_words = λ j k. refl;
      witness_words = λ j k. refl;
      combo_words = λ j k. w.terms_below j (omega (arith, under));
      row_words = w.rows_kept;
      row_terms = λ j k l. w.terms_above j k;
    }
    ran
  where
    under : s.front ≤ low
    under = omega (arith, x.room, f.terms_in)

    one : meant s.modulus (triple s.modulus a b c) ≡ row_of s.modulus a b c
    one = λ i. record { a = stored_means s.modulus a f.modulus i; b = stored_means s.modulus b f.modulus i; c = stored_means s.modulus c f.modulus i }

    more : map (meant s.modulus) (rows s.count s.row_words s.term_words) ++ (row_of s.modulus a b c ∷ []) ≡ map (meant s.modulus) (rows (s.count + 1) qs vs)
    more = sym (ap (map (meant s.modulus)) (row_rows s a b c low qs vs f w)
        ∙ map-append (meant s.modulus) (rows s.count s.row_words s.term_words) (triple s.modulus a b c ∷ [])
        ∙ (λ i. map (meant s.modulus) (rows s.count s.row_words s.term_words) ++ (one i ∷ [])))

    ran : Ran (enforce s.modulus a b c) (view s) (Ok tt) (view (with_row s low qs vs))
    ran =
        let t = sized_known s a b c la lb lc x in
        let z = sized_room s a b c la lb lc f x in
        let y : ltb (length (view s).rows) s.row_room ≡ true = lt-ltb _ _ (omega (arith, rows_long s)) in
        rw (t, z, y) (λ i. (Ok tt, record { keeps = true; inputs = (view s).inputs; witnesses = (view s).witnesses; combos = map (combo s.modulus) (row_combos s a b c low qs vs f under w i); rows = more i; input_room = s.input_room; witness_room = s.witness_room; term_room = s.term_room; row_room = s.row_room; capped = false }))
