-- Words that are stored stay where a system grows, and are what is left where it is cut.
use Rattle.std.proofs.Common.{◌≡◌, ℕ, ◌+◌, ◌-◌, ◌*◌, ◌<◌, ◌≤◌, length, get_or, take, Ok, Err, Result, sym, refl, ap, ◌∙◌, arith}
use Rattle.std.proofs.lemmas.List.{take-take}
use Rattle.relations.specs.declared.fault.SystemFault.{SystemFault}
use Rattle.relations.specs.Meaning.{Meaning, Stored, Step, Ran, places, rows_use, cut, Shorter, Begins, Extends, Leaves}
use Rattle.words.specs.State.{State, Fit, view, words_of}
use Rattle.words.proofs.Tables.{tabulate_same, tabulate_take}
use Rattle.systems.proofs.Views.{inputs_long, witnesses_long, rows_long, places_are, use_is}

-- a system that is no shorter, whose first words are the same, adds
pub grown : (m n : Meaning) (s t : Stored) → Shorter m n → cut m t ≡ s → Extends m s n t
grown m n s t h e = λ l u b. record {
  shorter = record {
    inputs = omega (arith, b.shorter.inputs, h.inputs);
    witnesses = omega (arith, b.shorter.witnesses, h.witnesses);
    combos = omega (arith, b.shorter.combos, h.combos);
    rows = omega (arith, b.shorter.rows, h.rows);
    terms = omega (arith, b.shorter.terms, h.terms);
  };
  words = sym (twice l b.shorter) ∙ ap (cut l) e ∙ b.words;
}
  where
    twice : (l : Meaning) → Shorter l m → cut l (cut m t) ≡ cut l t
    twice l k = λ i. record {
      inputs = take-take _ _ t.inputs k.inputs i;
      witnesses = take-take _ _ t.witnesses k.witnesses i;
      combos = take-take (2 * places l.combos) (2 * places m.combos) t.combos (omega (arith, k.combos)) i;
      rows = take-take (6 * length l.rows) (6 * length m.rows) t.rows (omega (arith, k.rows)) i;
      terms = take-take (2 * rows_use l.rows) (2 * rows_use m.rows) t.terms (omega (arith, k.terms)) i;
    }

-- t holds all that s holds
pub record Later (s t : State) : Type 0 where
  pub inputs : s.inputs ≤ t.inputs
  pub witnesses : s.witnesses ≤ t.witnesses
  pub front : s.front ≤ t.front
  pub count : s.count ≤ t.count
  pub back : t.back ≤ s.back
  pub input_room : t.input_room ≡ s.input_room
  pub term_room : t.term_room ≡ s.term_room
  pub input_words : (j : ℕ) → j < s.inputs → get_or t.value_words j 0 ≡ get_or s.value_words j 0
  pub witness_words : (j : ℕ) → j < s.witnesses → get_or t.value_words (s.input_room + j) 0 ≡ get_or s.value_words (s.input_room + j) 0
  pub combo_words : (j : ℕ) → j < 2 * s.front → get_or t.term_words j 0 ≡ get_or s.term_words j 0
  pub row_words : (j : ℕ) → j < 6 * s.count → get_or t.row_words j 0 ≡ get_or s.row_words j 0
  pub row_terms : (j : ℕ) → 2 * s.back ≤ j → j < 2 * s.term_room → get_or t.term_words j 0 ≡ get_or s.term_words j 0

pub kept_words : (s t : State) → Fit s → Fit t → Later s t → cut (view s) (words_of t) ≡ words_of s
kept_words s t f g l = λ i. record { inputs = ins i; witnesses = wits i; combos = cs i; rows = rs i; terms = ts i }
  where
    ins : take (length (view s).inputs) (words_of t).inputs ≡ (words_of s).inputs
    ins = (λ k. take (inputs_long s k) (words_of t).inputs) ∙ tabulate_take s.inputs t.inputs (λ j. get_or t.value_words j 0) l.inputs ∙ tabulate_same s.inputs (λ j. get_or t.value_words j 0) (λ j. get_or s.value_words j 0) l.input_words

    wits : take (length (view s).witnesses) (words_of t).witnesses ≡ (words_of s).witnesses
    wits = (λ k. take (witnesses_long s k) (words_of t).witnesses) ∙ tabulate_take s.witnesses t.witnesses (λ j. get_or t.value_words (t.input_room + j) 0) l.witnesses
        ∙ tabulate_same s.witnesses (λ j. get_or t.value_words (t.input_room + j) 0) (λ j. get_or s.value_words (s.input_room + j) 0) (λ j h. ap (λ (x : ℕ). get_or t.value_words (x + j) 0) l.input_room ∙ l.witness_words j h)

    cs : take (2 * places (view s).combos) (words_of t).combos ≡ (words_of s).combos
    cs = (λ k. take (2 * places_are s f k) (words_of t).combos) ∙ tabulate_take (2 * s.front) (2 * t.front) (λ j. get_or t.term_words j 0) (omega (arith, l.front)) ∙ tabulate_same (2 * s.front) (λ j. get_or t.term_words j 0) (λ j. get_or s.term_words j 0) l.combo_words

    rs : take (6 * length (view s).rows) (words_of t).rows ≡ (words_of s).rows
    rs = (λ k. take (6 * rows_long s k) (words_of t).rows) ∙ tabulate_take (6 * s.count) (6 * t.count) (λ j. get_or t.row_words j 0) (omega (arith, l.count)) ∙ tabulate_same (6 * s.count) (λ j. get_or t.row_words j 0) (λ j. get_or s.row_words j 0) l.row_words

    ts : take (2 * rows_use (view s).rows) (words_of t).terms ≡ (words_of s).terms
    ts = (λ k. take (2 * use_is s f k) (words_of t).terms) ∙ tabulate_take (2 * (s.term_room - s.back)) (2 * (t.term_room - t.back)) (λ j. get_or t.term_words (2 * t.term_room - 1 - j) 0) (omega (arith, l.back, l.term_room))
        ∙ tabulate_same (2 * (s.term_room - s.back)) (λ j. get_or t.term_words (2 * t.term_room - 1 - j) 0) (λ j. get_or s.term_words (2 * s.term_room - 1 - j) 0)
        (λ j h. ap (λ (x : ℕ). get_or t.term_words (2 * x - 1 - j) 0) l.term_room ∙ l.row_terms (2 * s.term_room - 1 - j) (omega (arith, f.back_in)) (omega (arith, f.back_in)))

pub same_words : (s : State) → Fit s → cut (view s) (words_of s) ≡ words_of s
same_words s f = kept_words s s f f record { inputs = omega arith; witnesses = omega arith; front = omega arith; count = omega arith; back = omega arith; input_room = refl; term_room = refl; input_words = λ j h. refl; witness_words = λ j h. refl; combo_words = λ j h. refl; row_words = λ j h. refl; row_terms = λ j h k. refl }

-- a call from s to t with the answer r: what its contract says
pub record Done {A : Type 0} (step : Step (Result A SystemFault)) (s : State) (r : Result A SystemFault) (t : State) : Type 0 where
  pub fit : Fit t
  pub does : Ran step (view s) r (view t)
  pub adds : Extends (view s) (words_of s) (view t) (words_of t)
  pub leaves : Leaves r (words_of s) (words_of t)

pub refuse : {A : Type 0} (step : Step (Result A SystemFault)) (s : State) (e : SystemFault) → Fit s → Ran step (view s) (Err e) (view s) → Done step s (Err e) s
refuse step s e f h = record { fit = f; does = h; adds = λ l u b. b; leaves = refl }

pub later_begins : (s t : State) → Fit s → Fit t → Later s t → Begins (view s) (words_of s) (view t) (words_of t)
later_begins s t f g l = record {
  shorter = record {
    inputs = omega (arith, inputs_long s, inputs_long t, l.inputs);
    witnesses = omega (arith, witnesses_long s, witnesses_long t, l.witnesses);
    combos = omega (arith, places_are s f, places_are t g, l.front);
    rows = omega (arith, rows_long s, rows_long t, l.count);
    terms = omega (arith, use_is s f, use_is t g, l.back, l.term_room);
  };
  words = kept_words s t f g l;
}

pub accept : {A : Type 0} (step : Step (Result A SystemFault)) (s t : State) (x : A) → Fit s → Fit t → Later s t → Ran step (view s) (Ok x) (view t) → Done step s (Ok x) t
accept step s t x f g l h =
    let b = later_begins s t f g l in
    record { fit = g; does = h; adds = grown (view s) (view t) (words_of s) (words_of t) b.shorter b.words; leaves = tt }
