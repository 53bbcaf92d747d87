-- What holds of a system's rows at any time.
use Rattle.std.specs.Prelude.{◌≡◌, ℕ, ◌≤◌, Bool, true, false, List, [], ◌∷◌, length, nat_lt}
use Rattle.relations.specs.declared.term.Variable.{Variable}
use Rattle.relations.specs.declared.term.Variable.TheVariants.{One, Zero, Input, Witness, Combination}
use Rattle.relations.specs.Sum.{Sum, Row}
use Rattle.relations.specs.Meaning.{Meaning, places}

-- whether a variable is a constant, or among the first i inputs, the first w witnesses and the combinations with a heading below e
abbrev pub reached : ℕ → ℕ → ℕ → Variable → Bool
reached i w e One = true
reached i w e Zero = true
reached i w e (Input k) = nat_lt k i
reached i w e (Witness k) = nat_lt k w
reached i w e (Combination c) = nat_lt c e

-- the variables that a system reaches
abbrev pub reach : Meaning → Variable → Bool
reach m v = reached (length m.inputs) (length m.witnesses) (places m.combos) v

-- b gives these variables the numbers that a gives them
abbrev pub Agree : (Variable → Bool) → (Variable → ℕ) → (Variable → ℕ) → Type 0
Agree h a b = (v : Variable) → h v ≡ true → b v ≡ a v

-- a sum's value depends on these variables alone
abbrev pub Local : (Variable → Bool) → Sum → Type 0
Local h s = (a b : Variable → ℕ) → Agree h a b → s.value b ≡ s.value a

-- so do the values of all sums of some rows
abbrev pub LocalRows : (Variable → Bool) → List Row → Type 0
LocalRows h [] = Unit {0}
LocalRows h (r ∷ rs) = (Local h r.a × Local h r.b × Local h r.c) × LocalRows h rs

-- what a system's rows say depends on variables that it reaches
abbrev pub RowsLocal : Meaning → Type 0
RowsLocal m = LocalRows (reach m) m.rows

-- there are no more rows than there is room for; a quota may be put on a system that has more
abbrev pub RowsFit : Meaning → Type 0
RowsFit m = m.capped ≡ false → length m.rows ≤ m.row_room
