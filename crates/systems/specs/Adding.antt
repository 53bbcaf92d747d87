-- What calls do to a store.
use Rattle.std.specs.Prelude.{◌≡◌, ℕ, ◌+◌, ◌-◌, ◌<◌, true, List, length, Err, slice_index}
use Rattle.relations.specs.declared.term.Term.{Term}
use Rattle.relations.specs.declared.term.Variable.{Variable}
use Rattle.relations.specs.declared.term.Variable.TheVariants.{Input, Witness}
use Rattle.relations.specs.declared.term.Side.{Side}
use Rattle.relations.specs.declared.term.Side.TheVariants.{Input as input, Witness as witness}
use Rattle.relations.specs.declared.fault.SystemFault.{SystemFault}
use Rattle.relations.specs.declared.fault.SystemFault.TheVariants.{MarkRefused}
use Rattle.relations.specs.Meaning.{has_all, new_lc, enforce}
use Rattle.words.specs.Words.{whole}
use Rattle.words.specs.State.{State, view}
use Rattle.written.specs.Cells.{Over, written_out}
use Rattle.written.specs.Keeps.{Keeps}
use Rattle.systems.specs.declared.store.Store.{Store}
use Rattle.systems.specs.declared.store.Part.{Part}
use Rattle.systems.specs.Stores.{beside, bare, RowAdded}
use Rattle.systems.specs.Held.{Sized, CutAt, Barred}
use Rattle.systems.specs.Order.{outline}
use Rattle.systems.specs.Outline.{place}

-- ---- inputs and witnesses
-- the word that the next input or witness has among kept values
abbrev pub next_word : State → Side → ℕ
next_word s input = s.inputs
next_word s witness = s.input_room + s.witnesses

-- with an input or a witness more, and these kept values
abbrev pub with_side : Side → State → List ℕ → State
with_side input s vs = record s { inputs = s.inputs + 1; value_words = vs }
with_side witness s vs = record s { witnesses = s.witnesses + 1; value_words = vs }

-- the variable that comes next on a side
abbrev pub side_variable : State → Side → Variable
side_variable s input = Input s.inputs
side_variable s witness = Witness s.witnesses

-- ---- combinations
-- a combination whose variables are there and whose terms, n of them, find room with their heading
pub record LcSized (s : State) (ts : List Term) (n : ℕ) : Type 0 where
  pub known : has_all (view s) ts ≡ true
  pub long : n ≡ length (whole s.modulus ts)
  pub room : n < s.back - s.front

-- one that is refused
abbrev pub LcRefused : State → List Term → SystemFault → Type 0
LcRefused s ts e = (new_lc s.modulus ts (view s)).0 ≡ Err e

-- ---- rows
-- a store with a row more, whose variables were there and for which there was room
pub record RowTaken (a b c : List Term) (s t : Store) : Type 0 where
  pub la : ℕ
  pub lb : ℕ
  pub lc : ℕ
  pub sized : Sized (bare s) a b c la lb lc
  pub room : s.count < s.row_room
  pub added : RowAdded la lb lc a b c s t

-- a store that is left as it was, since a row is refused
pub record RowRefused (a b c : List Term) (s t : Store) (e : SystemFault) : Type 0 where
  pub same : t ≡ s
  pub does : (enforce s.modulus a b c (view (bare s))).0 ≡ Err e

-- ---- cutting back
-- the system cut to i inputs, w witnesses, k combinations, which end at a place, and r rows, whose terms begin at a place
abbrev pub cut_state : State → ℕ → ℕ → ℕ → ℕ → ℕ → ℕ → State
cut_state s i w k r end low = record s { inputs = i; witnesses = w; lcs = k; count = r; front = end; back = low }

-- a store that is cut
pub record StoreCut (i w k r : ℕ) (s t : Store) : Type 0 where
  pub end : ℕ
  pub low : ℕ
  pub at : CutAt (bare s) i w k r end low
  pub rest : (vs : List ℕ) → beside t vs ≡ cut_state (beside s vs) i w k r end low

-- a store that is left as it was, since a cut is refused
pub record CutRefused (i w k r : ℕ) (s t : Store) (e : SystemFault) : Type 0 where
  pub same : t ≡ s
  pub fault : e ≡ MarkRefused
  pub barred : Barred (bare s) i w k r

-- ---- writing out
-- what writing a part of row i out leaves, as the words tell
pub record PartWritten (s : State) (part : Part) (i : ℕ) (os qs : List ℕ) : Type 0 where
  pub same_long : length qs ≡ length os
  pub over : Over (outline s) (written_out s.modulus (outline s) (slice_index s.row_words (place part i)) (slice_index s.row_words (place part i + 1)) s.term_words) os qs
  pub keeps : Keeps s.modulus (outline s) (slice_index s.row_words (place part i)) (slice_index s.row_words (place part i + 1)) s.term_words qs
