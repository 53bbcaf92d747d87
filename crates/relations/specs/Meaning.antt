-- What a constraint system is, and what each of its calls does to it.
use Rattle.std.specs.Prelude.{◌≡◌, ℕ, ◌+◌, ◌-◌, ◌*◌, ◌≤◌, Bool, true, false, cond, ◌&&◌, List, [], ◌∷◌, ◌++◌, length, take, Some, None, Ok, Err, Option, Result, ◌==◌, nat_le, nat_lt, slice_index_or}
use Rattle.relations.specs.declared.term.Variable.{Variable}
use Rattle.relations.specs.declared.term.Variable.TheVariants.{One, Zero, Input, Witness, Combination}
use Rattle.relations.specs.declared.term.Term.{Term}
use Rattle.relations.specs.declared.term.Side.{Side}
use Rattle.relations.specs.declared.term.Side.TheVariants.{Input as input, Witness as witness}
use Rattle.relations.specs.declared.fault.SystemFault.{SystemFault}
use Rattle.relations.specs.declared.fault.SystemFault.TheVariants.{UnknownVariable, MissingValue, InputsFull, WitnessesFull, TermsFull, RowsFull, QuotaFull, MarkRefused}
use Rattle.relations.specs.Sum.{Sum, sum_of, Row, row_of}

-- a combination: a named sum, and its value where values are kept
pub record Combo : Type 0 where
  pub sum : Sum
  pub kept : Option ℕ

-- a system: whether it keeps values, each input and each witness with the value that is kept for it, the combinations, the rows,
-- the stated rooms, and whether a quota is what a full row room comes from
pub record Meaning : Type 0 where
  pub keeps : Bool
  pub inputs : List (Option ℕ)
  pub witnesses : List (Option ℕ)
  pub combos : List Combo
  pub rows : List Row
  pub input_room : ℕ
  pub witness_room : ℕ
  pub term_room : ℕ
  pub row_room : ℕ
  pub capped : Bool

-- a call: from what the system is at its entry to the answer and what the system is at its exit
abbrev pub Step : Type 0 → Type 0
Step A = Meaning → A × Meaning

abbrev pub Ran : {A : Type 0} → Step A → Meaning → A → Meaning → Type 0
Ran s m r n = s m ≡ (r, n)

-- ---- combinations by the places of their headings: a combination takes as many places as it has terms, and then one for its heading
abbrev pub places : List Combo → ℕ
places [] = 0
places (x ∷ xs) = x.sum.size + 1 + places xs

-- whether a heading stands at place c
abbrev pub is_head : ℕ → List Combo → Bool
is_head c [] = false
is_head c (x ∷ xs) = cond (c == x.sum.size) true (cond (nat_lt c x.sum.size) false (is_head (c - (x.sum.size + 1)) xs))

abbrev pub number : Option ℕ → ℕ
number None = 0
number (Some x) = x

-- the value kept for the combination whose heading stands at place c
abbrev pub kept_at : ℕ → List Combo → ℕ
kept_at c [] = 0
kept_at c (x ∷ xs) = cond (c == x.sum.size) (number x.kept) (cond (nat_lt c x.sum.size) 0 (kept_at (c - (x.sum.size + 1)) xs))

-- ---- variables
-- whether a variable is one of the first i inputs, the first w witnesses and these combinations
abbrev pub known : ℕ → ℕ → List Combo → Variable → Bool
known i w cs One = true
known i w cs Zero = true
known i w cs (Input k) = nat_lt k i
known i w cs (Witness k) = nat_lt k w
known i w cs (Combination c) = is_head c cs

abbrev pub all_known : ℕ → ℕ → List Combo → List Term → Bool
all_known i w cs [] = true
all_known i w cs (t ∷ ts) = known i w cs t.variable && all_known i w cs ts

-- whether a system has a variable, and all variables of some terms
abbrev pub has : Meaning → Variable → Bool
has m v = known (length m.inputs) (length m.witnesses) m.combos v

abbrev pub has_all : Meaning → List Term → Bool
has_all m ts = all_known (length m.inputs) (length m.witnesses) m.combos ts

-- the number that the kept values give a variable
abbrev pub assigned : Meaning → Variable → ℕ
assigned m One = 1
assigned m Zero = 0
assigned m (Input k) = number (slice_index_or m.inputs k None)
assigned m (Witness k) = number (slice_index_or m.witnesses k None)
assigned m (Combination c) = kept_at c m.combos

-- the number that is kept for a variable, none where no values are kept
abbrev pub kept : Meaning → Variable → Option ℕ
kept m v = cond m.keeps (Some (assigned m v)) None

-- asking for a variable's value
abbrev pub ask : Variable → Step (Result (Option ℕ) SystemFault)
ask v m = (cond (has m v) (Ok (kept m v)) (Err UnknownVariable), m)

-- ---- inputs and witnesses
abbrev pub listed : Side → Meaning → List (Option ℕ)
listed input m = m.inputs
listed witness m = m.witnesses

abbrev pub room : Side → Meaning → ℕ
room input m = m.input_room
room witness m = m.witness_room

abbrev pub next_of : Side → Meaning → Variable
next_of input m = Input (length m.inputs)
next_of witness m = Witness (length m.witnesses)

abbrev pub full : Side → SystemFault
full input = InputsFull
full witness = WitnessesFull

-- the system with one input or witness more, whose kept value is o
abbrev pub with_new : Side → Option ℕ → Meaning → Meaning
with_new input o m = record { keeps = m.keeps; inputs = m.inputs ++ (o ∷ []); witnesses = m.witnesses; combos = m.combos; rows = m.rows; input_room = m.input_room; witness_room = m.witness_room; term_room = m.term_room; row_room = m.row_room; capped = m.capped }
with_new witness o m = record { keeps = m.keeps; inputs = m.inputs; witnesses = m.witnesses ++ (o ∷ []); combos = m.combos; rows = m.rows; input_room = m.input_room; witness_room = m.witness_room; term_room = m.term_room; row_room = m.row_room; capped = m.capped }

-- where values are kept, a missing one is refused
abbrev pub keeping : Bool → Side → Option ℕ → Meaning → Result Variable SystemFault × Meaning
keeping false d o m = (Ok (next_of d m), with_new d None m)
keeping true d None m = (Err MissingValue, m)
keeping true d (Some x) m = (Ok (next_of d m), with_new d (Some x) m)

-- a new input or witness: room first, then the value
abbrev pub new_variable : Side → Option ℕ → Step (Result Variable SystemFault)
new_variable d o m = cond (nat_lt (length (listed d m)) (room d m)) (keeping m.keeps d o m) (Err (full d), m)

-- ---- combinations and rows
abbrev pub row_use : Row → ℕ
row_use r = r.a.size + r.b.size + r.c.size

abbrev pub rows_use : List Row → ℕ
rows_use [] = 0
rows_use (r ∷ rs) = row_use r + rows_use rs

-- how many terms are used
abbrev pub used : Meaning → ℕ
used m = places m.combos + rows_use m.rows

abbrev pub with_combo : Combo → Meaning → Meaning
with_combo x m = record { keeps = m.keeps; inputs = m.inputs; witnesses = m.witnesses; combos = m.combos ++ (x ∷ []); rows = m.rows; input_room = m.input_room; witness_room = m.witness_room; term_room = m.term_room; row_room = m.row_room; capped = m.capped }

-- the combination that terms make in a system
abbrev pub combo_of : ℕ → List Term → Meaning → Combo
combo_of p ts m = record { sum = sum_of p ts; kept = cond m.keeps (Some ((sum_of p ts).value (assigned m))) None }

-- a new combination: one term for its heading and one for each different variable with a nonzero coefficient
abbrev pub new_lc : ℕ → List Term → Step (Result Variable SystemFault)
new_lc p ts m =
    cond (has_all m ts)
    (cond (nat_le (used m + ((sum_of p ts).size + 1)) m.term_room)
    (Ok (Combination (places m.combos + (sum_of p ts).size)), with_combo (combo_of p ts m) m)
    (Err TermsFull, m))
    (Err UnknownVariable, m)

abbrev pub with_row : Row → Meaning → Meaning
with_row r m = record { keeps = m.keeps; inputs = m.inputs; witnesses = m.witnesses; combos = m.combos; rows = m.rows ++ (r ∷ []); input_room = m.input_room; witness_room = m.witness_room; term_room = m.term_room; row_room = m.row_room; capped = m.capped }

-- what a full row room is refused with
abbrev pub rows_full : Bool → SystemFault
rows_full false = RowsFull
rows_full true = QuotaFull

abbrev pub has_row : Meaning → List Term → List Term → List Term → Bool
has_row m a b c = has_all m a && (has_all m b && has_all m c)

-- whether a row's variables are there and its terms find room; nothing is added
abbrev pub admit : ℕ → List Term → List Term → List Term → Step (Result (Unit {0}) SystemFault)
admit p a b c m =
    cond (has_row m a b c)
    (cond (nat_le (used m + row_use (row_of p a b c)) m.term_room) (Ok tt, m) (Err TermsFull, m))
    (Err UnknownVariable, m)

-- a new row: its variables, then the terms, then the row
abbrev pub enforce : ℕ → List Term → List Term → List Term → Step (Result (Unit {0}) SystemFault)
enforce p a b c m =
    cond (has_row m a b c)
    (cond (nat_le (used m + row_use (row_of p a b c)) m.term_room)
    (cond (nat_lt (length m.rows) m.row_room) (Ok tt, with_row (row_of p a b c) m) (Err (rows_full m.capped), m))
    (Err TermsFull, m))
    (Err UnknownVariable, m)

-- ---- cutting back
-- the lists cut to i inputs, w witnesses, k combinations and r rows; the rooms are stated rooms, so what was used is room again
abbrev pub cut_to : ℕ → ℕ → ℕ → ℕ → Meaning → Meaning
cut_to i w k r m = record { keeps = m.keeps; inputs = take i m.inputs; witnesses = take w m.witnesses; combos = take k m.combos; rows = take r m.rows; input_room = m.input_room; witness_room = m.witness_room; term_room = m.term_room; row_room = m.row_room; capped = m.capped }

abbrev pub combos_within : ℕ → ℕ → ℕ → List Combo → Bool
combos_within i w e [] = true
combos_within i w e (x ∷ xs) = x.sum.within i w e && combos_within i w e xs

abbrev pub row_within : ℕ → ℕ → ℕ → Row → Bool
row_within i w e r = r.a.within i w e && (r.b.within i w e && r.c.within i w e)

abbrev pub rows_within : ℕ → ℕ → ℕ → List Row → Bool
rows_within i w e [] = true
rows_within i w e (r ∷ rs) = row_within i w e r && rows_within i w e rs

-- whether a cut is allowed: no list is shorter than that, and what is left names nothing that is cut
abbrev pub may_cut : ℕ → ℕ → ℕ → ℕ → Meaning → Bool
may_cut i w k r m =
    (nat_le i (length m.inputs) && (nat_le w (length m.witnesses) && (nat_le k (length m.combos) && nat_le r (length m.rows))))
    && (combos_within i w (places (take k m.combos)) (take k m.combos) && rows_within i w (places (take k m.combos)) (take r m.rows))

abbrev pub rewind : ℕ → ℕ → ℕ → ℕ → Step (Result (Unit {0}) SystemFault)
rewind i w k r m = cond (may_cut i w k r m) (Ok tt, cut_to i w k r m) (Err MarkRefused, m)

-- ---- a system whose lists are empty
pub record Fresh (m : Meaning) : Type 0 where
  pub no_inputs : m.inputs ≡ []
  pub no_witnesses : m.witnesses ≡ []
  pub no_combos : m.combos ≡ []
  pub no_rows : m.rows ≡ []

abbrev pub empty : Bool → ℕ → ℕ → ℕ → ℕ → Bool → Meaning
empty q i w t r x = record { keeps = q; inputs = []; witnesses = []; combos = []; rows = []; input_room = i; witness_room = w; term_room = t; row_room = r; capped = x }

-- ---- the words in which a system is stored, below its counts, each list in the order in which it grew
pub record Stored : Type 0 where
  pub inputs : List ℕ
  pub witnesses : List ℕ
  pub combos : List ℕ
  pub rows : List ℕ
  pub terms : List ℕ

abbrev pub valued : Bool → ℕ → ℕ
valued true n = n
valued false n = 0

-- of stored words those that hold a system's lists: a word for each kept value, six for each row, two for each term
abbrev pub cut : Meaning → Stored → Stored
cut m s = record {
  inputs = take (valued m.keeps (length m.inputs)) s.inputs;
  witnesses = take (valued m.keeps (length m.witnesses)) s.witnesses;
  combos = take (2 * places m.combos) s.combos;
  rows = take (6 * length m.rows) s.rows;
  terms = take (2 * rows_use m.rows) s.terms;
}

-- m's lists are no longer than n's, with the same rooms
pub record Shorter (m n : Meaning) : Type 0 where
  pub inputs : valued m.keeps (length m.inputs) ≤ valued n.keeps (length n.inputs)
  pub witnesses : valued m.keeps (length m.witnesses) ≤ valued n.keeps (length n.witnesses)
  pub combos : places m.combos ≤ places n.combos
  pub rows : length m.rows ≤ length n.rows
  pub terms : rows_use m.rows ≤ rows_use n.rows

-- the words s, which hold m's lists, are the first of the words t, which hold n's
pub record Begins (m : Meaning) (s : Stored) (n : Meaning) (t : Stored) : Type 0 where
  pub shorter : Shorter m n
  pub words : cut m t ≡ s

-- words that were stored before are stored after
abbrev pub Extends : Meaning → Stored → Meaning → Stored → Type 0
Extends m s n t = (l : Meaning) (u : Stored) → Begins l u m s → Begins l u n t

-- a call that only adds, or refuses and changes nothing: the stored words are extended, and what a system knows of itself it still knows
pub record Adds {S : Type 0} (meaning : S → Meaning) (stored : S → Stored) (knows : S → Type 0) (s t : S) : Type 0 where
  pub words : Extends (meaning s) (stored s) (meaning t) (stored t)
  pub knowing : knows s → knows t

-- a refused call leaves the stored words as they are
abbrev pub Leaves : {A E : Type 0} → Result A E → Stored → Stored → Type 0
Leaves (Ok x) s t = Unit {0}
Leaves (Err e) s t = t ≡ s

-- a rewinding cuts the stored words to those of the system that it leaves
abbrev pub Cuts : {A E : Type 0} → Result A E → Meaning → Stored → Stored → Type 0
Cuts (Ok x) n s t = t ≡ cut n s
Cuts (Err e) n s t = t ≡ s

-- what a system's combinations and rows name is there
pub record Sane (m : Meaning) : Type 0 where
  pub combos : combos_within (length m.inputs) (length m.witnesses) (places m.combos) m.combos ≡ true
  pub rows : rows_within (length m.inputs) (length m.witnesses) (places m.combos) m.rows ≡ true

-- n is m with more at the ends of its lists, and the same rooms
pub record Grows (m n : Meaning) : Type 0 where
  pub inputs : List (Option ℕ)
  pub witnesses : List (Option ℕ)
  pub combos : List Combo
  pub rows : List Row
  pub inputs_are : n.inputs ≡ m.inputs ++ inputs
  pub witnesses_are : n.witnesses ≡ m.witnesses ++ witnesses
  pub combos_are : n.combos ≡ m.combos ++ combos
  pub rows_are : n.rows ≡ m.rows ++ rows
  pub keeps_is : n.keeps ≡ m.keeps
  pub input_room_is : n.input_room ≡ m.input_room
  pub witness_room_is : n.witness_room ≡ m.witness_room
  pub term_room_is : n.term_room ≡ m.term_room
  pub row_room_is : n.row_room ≡ m.row_room
  pub capped_is : n.capped ≡ m.capped
