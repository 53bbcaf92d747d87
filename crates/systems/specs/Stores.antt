-- A store of rows and terms in lent words.
use Rattle.std.specs.Prelude.{◌≡◌, ℕ, ◌-◌, List, length, replicate}
use Rattle.systems.specs.declared.store.Store.{Store}
use Rattle.relations.specs.declared.term.Term.{Term}
use Rattle.words.specs.Words.{LcWritten, RowWritten}
use Rattle.words.specs.State.{State, Fit, with_lc, with_row}

-- a store, beside these kept values
abbrev pub beside : Store → List ℕ → State
beside s vs = record {
  modulus = s.modulus;
  inputs = s.inputs;
  witnesses = s.witnesses;
  lcs = s.combinations;
  count = s.count;
  front = s.front;
  back = s.back;
  input_room = s.input_room;
  witness_room = s.witness_room;
  term_room = s.term_room;
  row_room = s.row_room;
  row_words = s.rows.now;
  term_words = s.terms.now;
  value_words = vs;
}

-- n zeros
unfoldable pub zeros : ℕ → List ℕ
zeros n = replicate n 0

-- a store beside zeros in place of kept values, as many as inputs and witnesses can be
abbrev pub bare : Store → State
bare s = beside s (zeros 131072)

-- the words of a store are well laid, whatever values are kept beside it
abbrev pub Laid : Store → Type 0
Laid s = Fit (bare s)

-- a store with a combination more
pub record LcAdded (n kept : ℕ) (ts : List Term) (s t : Store) : Type 0 where
  pub written : LcWritten s.modulus s.front n kept ts s.terms.now t.terms.now
  pub long : length t.terms.now ≡ length s.terms.now
  pub rest : (vs : List ℕ) → beside t vs ≡ with_lc (beside s vs) n t.terms.now

-- a store with a row more
pub record RowAdded (la lb lc : ℕ) (a b c : List Term) (s t : Store) : Type 0 where
  pub written : RowWritten s.modulus s.count s.back (s.back - la - lb - lc) a b c s.rows.now t.rows.now s.terms.now t.terms.now
  pub rows_long : length t.rows.now ≡ length s.rows.now
  pub terms_long : length t.terms.now ≡ length s.terms.now
  pub rest : (vs : List ℕ) → beside t vs ≡ with_row (beside s vs) (s.back - la - lb - lc) t.rows.now t.terms.now
