-- A system without its values.
use Rattle.std.specs.Prelude.{ℕ, false, [], map, None, Option}
use Rattle.relations.specs.Meaning.{Meaning, Combo, Stored}

-- in place of a value
abbrev pub no_value : Option ℕ → Option ℕ
no_value o = None

-- a combination, with no value kept for it
abbrev pub shape : Combo → Combo
shape x = record { sum = x.sum; kept = None }

-- the same system, where no values are kept
abbrev pub forgotten : Meaning → Meaning
forgotten m = record {
  keeps = false;
  inputs = map no_value m.inputs;
  witnesses = map no_value m.witnesses;
  combos = map shape m.combos;
  rows = m.rows;
  input_room = m.input_room;
  witness_room = m.witness_room;
  term_room = m.term_room;
  row_room = m.row_room;
  capped = m.capped;
}

-- of stored words those that hold no value of an input or a witness
abbrev pub without : Stored → Stored
without t = record { inputs = []; witnesses = []; combos = t.combos; rows = t.rows; terms = t.terms }
