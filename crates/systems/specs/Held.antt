-- What a system over lent words holds.
use Rattle.std.specs.Prelude.{◌≡◌, ℕ, ◌+◌, ◌-◌, ◌≤◌, true, false, List, length, take, Err}
use Rattle.field.specs.declared.Field.{Ghosts}
use Rattle.systems.specs.declared.valued.Valued.{Valued}
use Rattle.systems.specs.declared.setup.Setup.{Setup}
use Rattle.relations.specs.declared.term.Term.{Term}
use Rattle.relations.specs.declared.fault.SystemFault.{SystemFault}
use Rattle.relations.specs.declared.term.Side.{Side}
use Rattle.relations.specs.declared.term.Side.TheVariants.{Input as input, Witness as witness}
use Rattle.relations.specs.Meaning.{Meaning, Stored, Ran, has_all, admit, enforce, may_cut, full}
use Rattle.words.specs.Words.{whole, combinations, Chain, Tagged, rows, floor, lists_in, triples_in}
use Rattle.words.specs.State.{State, view, words_of}
use Rattle.systems.specs.Stores.{beside, bare}
use Rattle.systems.specs.Forgotten.{forgotten, without}

abbrev pub state : {F : Type 0} {G : Ghosts F} → Valued F G → State
state v = beside v.store v.values.now

abbrev pub meant_by : {F : Type 0} {G : Ghosts F} → Valued F G → Meaning
meant_by v = view (state v)

abbrev pub stored_by : {F : Type 0} {G : Ghosts F} → Valued F G → Stored
stored_by v = words_of (state v)

-- what a system that keeps no values means, and what it stores: a store's share of both
abbrev pub shown_by : {F : Type 0} {G : Ghosts F} → Setup F G → Meaning
shown_by v = forgotten (view (bare v.store))

abbrev pub laid_by : {F : Type 0} {G : Ghosts F} → Setup F G → Stored
laid_by v = without (words_of (bare v.store))

-- how many variables a side has, its room, and what a full one is refused with
abbrev pub at_side : State → Side → ℕ × ℕ × SystemFault
at_side s input = (s.inputs, s.input_room, full input)
at_side s witness = (s.witnesses, s.witness_room, full witness)

-- a row whose variables are there and whose terms, la, lb and lc of them, find room
pub record Sized (s : State) (a b c : List Term) (la lb lc : ℕ) : Type 0 where
  pub a_known : has_all (view s) a ≡ true
  pub b_known : has_all (view s) b ≡ true
  pub c_known : has_all (view s) c ≡ true
  pub a_long : la ≡ length (whole s.modulus a)
  pub b_long : lb ≡ length (whole s.modulus b)
  pub c_long : lc ≡ length (whole s.modulus c)
  pub room : la + lb + lc ≤ s.back - s.front

-- a row that is refused
pub record Refused (s : State) (a b c : List Term) (e : SystemFault) : Type 0 where
  pub admits : Ran (admit s.modulus a b c) (view s) (Err e) (view s)
  pub does : Ran (enforce s.modulus a b c) (view s) (Err e) (view s)

-- a cut to i inputs, w witnesses, k combinations and r rows is allowed; the combinations then end and the rows' terms begin at these places
pub record CutAt (s : State) (i w k r end low : ℕ) : Type 0 where
  pub i_in : i ≤ s.inputs
  pub w_in : w ≤ s.witnesses
  pub r_in : r ≤ s.count
  pub below : end ≤ s.front
  pub chain : Chain k end s.term_words
  pub tagged : Tagged s.modulus k end s.term_words
  pub cut : take k (combinations s.lcs s.front s.term_words) ≡ combinations k end s.term_words
  pub low_is : low ≡ floor s.term_room r s.row_words
  pub combos_named : lists_in i w end (combinations k end s.term_words) ≡ true
  pub rows_named : triples_in i w end (rows r s.row_words s.term_words) ≡ true
  pub allowed : may_cut i w k r (view s) ≡ true

abbrev pub Barred : State → ℕ → ℕ → ℕ → ℕ → Type 0
Barred s i w k r = may_cut i w k r (view s) ≡ false
