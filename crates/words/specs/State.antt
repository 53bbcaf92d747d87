-- A system as words hold it: its counts and rooms, and the three lent buffers.
use Rattle.std.specs.Prelude.{◌≡◌, ℕ, ◌+◌, ◌-◌, ◌*◌, ◌<◌, ◌≤◌, true, false, List, map, length, Some, slice_index}
use Rattle.relations.specs.Meaning.{Meaning, Stored}
use Rattle.words.specs.Words.{tabulate, combinations, combo, Chain, Tagged, rows, meant, floor, Stack, lists_in, triples_in}

pub record State : Type 0 where
  pub modulus : ℕ
  pub inputs : ℕ
  pub witnesses : ℕ
  pub lcs : ℕ
  pub count : ℕ
  pub front : ℕ
  pub back : ℕ
  pub input_room : ℕ
  pub witness_room : ℕ
  pub term_room : ℕ
  pub row_room : ℕ
  pub row_words : List ℕ
  pub term_words : List ℕ
  pub value_words : List ℕ

-- what it means
abbrev pub view : State → Meaning
view s = record {
  keeps = true;
  inputs = tabulate s.inputs (λ j. Some (slice_index s.value_words j));
  witnesses = tabulate s.witnesses (λ j. Some (slice_index s.value_words (s.input_room + j)));
  combos = map (combo s.modulus) (combinations s.lcs s.front s.term_words);
  rows = map (meant s.modulus) (rows s.count s.row_words s.term_words);
  input_room = s.input_room;
  witness_room = s.witness_room;
  term_room = s.term_room;
  row_room = s.row_room;
  capped = false;
}

-- the words below its counts, each list in the order in which it grew: the terms of rows grow from the top of their room down
abbrev pub words_of : State → Stored
words_of s = record {
  inputs = tabulate s.inputs (λ j. slice_index s.value_words j);
  witnesses = tabulate s.witnesses (λ j. slice_index s.value_words (s.input_room + j));
  combos = tabulate (2 * s.front) (λ j. slice_index s.term_words j);
  rows = tabulate (6 * s.count) (λ j. slice_index s.row_words j);
  terms = tabulate (2 * (s.term_room - s.back)) (λ j. slice_index s.term_words (2 * s.term_room - 1 - j));
}

-- the counts lie in their rooms and the rooms in the buffers, the lists are well laid and name what is there, and kept values are below the modulus
pub record Fit (s : State) : Type 0 where
  pub modulus : 0 < s.modulus
  pub small : s.modulus < 4294967296
  pub rows_long : 6 * s.row_room ≤ length s.row_words
  pub terms_long : 2 * s.term_room ≤ length s.term_words
  pub values_long : s.input_room + s.witness_room ≤ length s.value_words
  pub input_limit : s.input_room ≤ 65536
  pub witness_limit : s.witness_room ≤ 65536
  pub term_limit : s.term_room ≤ 65536
  pub row_limit : s.row_room ≤ 65536
  pub inputs_in : s.inputs ≤ s.input_room
  pub witnesses_in : s.witnesses ≤ s.witness_room
  pub rows_in : s.count ≤ s.row_room
  pub terms_in : s.front ≤ s.back
  pub back_in : s.back ≤ s.term_room
  pub chain : Chain s.lcs s.front s.term_words
  pub tagged : Tagged s.modulus s.lcs s.front s.term_words
  pub stack : Stack s.term_room s.count s.row_words
  pub at_floor : floor s.term_room s.count s.row_words ≡ s.back
  pub inputs_below : (j : ℕ) → j < s.inputs → slice_index s.value_words j < s.modulus
  pub witnesses_below : (j : ℕ) → j < s.witnesses → slice_index s.value_words (s.input_room + j) < s.modulus
  pub combos_named : lists_in s.inputs s.witnesses s.front (combinations s.lcs s.front s.term_words) ≡ true
  pub rows_named : triples_in s.inputs s.witnesses s.front (rows s.count s.row_words s.term_words) ≡ true

-- with a combination of n terms more, written into the terms
abbrev pub with_lc : State → ℕ → List ℕ → State
with_lc s n vs = record { modulus = s.modulus; inputs = s.inputs; witnesses = s.witnesses; lcs = s.lcs + 1; count = s.count; front = s.front + n + 1; back = s.back; input_room = s.input_room; witness_room = s.witness_room; term_room = s.term_room; row_room = s.row_room; row_words = s.row_words; term_words = vs; value_words = s.value_words }

-- with a row more, whose terms begin at place low
abbrev pub with_row : State → ℕ → List ℕ → List ℕ → State
with_row s low qs vs = record { modulus = s.modulus; inputs = s.inputs; witnesses = s.witnesses; lcs = s.lcs; count = s.count + 1; front = s.front; back = low; input_room = s.input_room; witness_room = s.witness_room; term_room = s.term_room; row_room = s.row_room; row_words = qs; term_words = vs; value_words = s.value_words }
