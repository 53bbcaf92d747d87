-- Opening a system: the rooms, then the lengths of the lent words.
use Rattle.std.specs.Prelude.{◌≡◌, ℕ, ◌+◌, ◌*◌, Bool, true, false, cond, ◌&&◌, List, [], length, Some, None, Option, nat_le}
use Rattle.relations.specs.declared.fault.Refusal.{Refusal}
use Rattle.relations.specs.Fault.{refusal}
use Rattle.relations.specs.Meaning.{Stored, empty}
use Rattle.field.specs.declared.Field.{Ghosts}
use Rattle.systems.specs.declared.store.Store.{Store}
use Rattle.systems.specs.declared.valued.Valued.{Valued}
use Rattle.systems.specs.declared.setup.Setup.{Setup}
use Rattle.words.specs.State.{State}
use Rattle.systems.specs.Stores.{beside}
use Rattle.systems.specs.declared.rooms.Rooms.{Rooms}
use Rattle.systems.specs.declared.rooms.OpenFault.{OpenFault}
use Rattle.systems.specs.declared.rooms.OpenFault.TheVariants.{RoomTooLarge, ShortValues, ShortTerms, ShortRows}
use Rattle.systems.specs.Held.{meant_by, stored_by, shown_by, laid_by}

-- each refusal with its number, in the layer of systems
abbrev pub of_opening : OpenFault → Refusal
of_opening RoomTooLarge = refusal 3 3
of_opening ShortValues = refusal 8 3
of_opening ShortTerms = refusal 9 3
of_opening ShortRows = refusal 10 3

-- no room is above 65,536
abbrev pub small : Rooms → Bool
small r = nat_le r.inputs 65536 && (nat_le r.witnesses 65536 && (nat_le r.terms 65536 && nat_le r.rows 65536))

-- what too few words are refused with, where t words of terms and w words of rows are lent
abbrev pub lent : Rooms → ℕ → ℕ → Option OpenFault
lent r t w = cond (nat_le (2 * r.terms) t) (cond (nat_le (6 * r.rows) w) None (Some ShortRows)) (Some ShortTerms)

-- what an opening is refused with, where v values are lent besides
abbrev pub opening : Rooms → ℕ → ℕ → ℕ → Option OpenFault
opening r v t w = cond (small r) (cond (nat_le (r.inputs + r.witnesses) v) (lent r t w) (Some ShortValues)) (Some RoomTooLarge)

-- the same, where no values are kept
abbrev pub opening_setup : Rooms → ℕ → ℕ → Option OpenFault
opening_setup r t w = cond (small r) (lent r t w) (Some RoomTooLarge)

-- an empty store over lent words as they are, beside these values
abbrev pub fresh : ℕ → Rooms → List ℕ → List ℕ → List ℕ → State
fresh p r ts rs vs = record {
  modulus = p;
  inputs = 0;
  witnesses = 0;
  lcs = 0;
  count = 0;
  front = 0;
  back = r.terms;
  input_room = r.inputs;
  witness_room = r.witnesses;
  term_room = r.terms;
  row_room = r.rows;
  row_words = rs;
  term_words = ts;
  value_words = vs;
}

-- a store just opened
pub record StoreOpened (p : ℕ) (r : Rooms) (ts rs : List ℕ) (s : Store) : Type 0 where
  pub fits : lent r (length ts) (length rs) ≡ None
  pub is : (vs : List ℕ) → beside s vs ≡ fresh p r ts rs vs

abbrev pub nothing : Stored
nothing = record { inputs = []; witnesses = []; combos = []; rows = []; terms = [] }

-- a system just opened over the field with p elements: empty, over the lent words as they are
pub record Opened {F : Type 0} {G : Ghosts F} (p : ℕ) (r : Rooms) (vs ts rs : List ℕ) (v : Valued F G) : Type 0 where
  pub fits : opening r (length vs) (length ts) (length rs) ≡ None
  pub prime : v.store.modulus ≡ p
  pub means : meant_by v ≡ empty true r.inputs r.witnesses r.terms r.rows false
  pub stored : stored_by v ≡ nothing
  pub values : v.values.now ≡ vs
  pub terms : v.store.terms.now ≡ ts
  pub rows : v.store.rows.now ≡ rs

-- the same of a system that keeps no values
pub record SetupOpened {F : Type 0} {G : Ghosts F} (p : ℕ) (r : Rooms) (ts rs : List ℕ) (v : Setup F G) : Type 0 where
  pub fits : opening_setup r (length ts) (length rs) ≡ None
  pub prime : v.store.modulus ≡ p
  pub means : shown_by v ≡ empty false r.inputs r.witnesses r.terms r.rows false
  pub stored : laid_by v ≡ nothing
  pub terms : v.store.terms.now ≡ ts
  pub rows : v.store.rows.now ≡ rs
