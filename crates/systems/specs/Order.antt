-- What the terms of a system name: each by its code, and a combination only what stands before it.
use Rattle.std.specs.Prelude.{ℕ, ◌+◌, List, [], ◌∷◌, length}
use Rattle.words.specs.Words.{Kept, Triple, combinations, rows}
use Rattle.words.specs.State.{State}
use Rattle.written.specs.declared.Counts.{Counts}
use Rattle.written.specs.Keeps.{up_to, Named}

-- how much there is to write a sum out over
abbrev pub outline : State → Counts
outline s = record { inputs = s.inputs; witnesses = s.witnesses; lcs = s.lcs; front = s.front }

-- each of some combinations, which stand from place e on, names only what stands before it
abbrev pub InOrder : Counts → ℕ → List Kept → Type 0
InOrder n e [] = Unit {0}
InOrder n e (x ∷ xs) = Named (up_to n e) x.terms × InOrder n (e + length x.terms + 1) xs

-- the three sums of each row name what is there
abbrev pub RowsNamed : Counts → List Triple → Type 0
RowsNamed n [] = Unit {0}
RowsNamed n (t ∷ ts) = (Named n t.a × Named n t.b × Named n t.c) × RowsNamed n ts

pub record Ordered (s : State) : Type 0 where
  pub combos : InOrder (outline s) 0 (combinations s.lcs s.front s.term_words)
  pub rows : RowsNamed (outline s) (rows s.count s.row_words s.term_words)
