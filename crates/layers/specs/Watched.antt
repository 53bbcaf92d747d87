-- A watch on rows.
use Rattle.std.specs.Prelude.{◌≡◌, ℕ, Bool, true, false, cond, Some, None, Option, nat_lt}
use Rattle.relations.specs.Meaning.{Meaning}
use Rattle.relations.specs.Rows.{RowsLocal}
use Rattle.relations.specs.Unmet.{is_met, first_unmet}

-- whether a judgement says that a row is not met
abbrev pub unmet : Option Bool → Bool
unmet None = false
unmet (Some true) = false
unmet (Some false) = true

-- whether a row is there and the kept values do not meet it
abbrev pub fails : ℕ → ℕ → Meaning → Bool
fails p i m = unmet (is_met p i m)

-- what a watch knows of the system below it: the first row that the kept values do not meet, and that no row is judged by variables that are still to come
pub record Watched (p : ℕ) (row : Option ℕ) (m : Meaning) : Type 0 where
  pub first : row ≡ first_unmet p m
  pub local : RowsLocal m

-- a row's number, if it is below n
abbrev pub among : ℕ → Option ℕ → Option ℕ
among n None = None
among n (Some j) = cond (nat_lt j n) (Some j) None
