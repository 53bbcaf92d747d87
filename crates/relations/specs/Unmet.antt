-- Which rows the kept values meet.
use Rattle.std.specs.Prelude.{ℕ, ◌+◌, ◌*◌, ◌%◌, Bool, cond, List, [], ◌∷◌, length, Some, None, Option, ◌==◌, nat_lt, slice_index_or}
use Rattle.relations.specs.declared.term.Variable.{Variable}
use Rattle.relations.specs.Sum.{Row, row_of}
use Rattle.relations.specs.Meaning.{Meaning, assigned}

-- whether a row is met where a variable has the number a v: the product of A and B is C
abbrev pub met : ℕ → (Variable → ℕ) → Row → Bool
met p a r = (r.a.value a * r.b.value a) % p == r.c.value a

-- whether the kept values meet row i; none where no values are kept, or there is no such row
abbrev pub is_met : ℕ → ℕ → Meaning → Option Bool
is_met p i m = cond m.keeps (cond (nat_lt i (length m.rows)) (Some (met p (assigned m) (slice_index_or m.rows i (row_of 0 [] [] [])))) None) None

-- the number of the first of some rows, of which the first has the number n, that is not met
abbrev pub unmet_from : ℕ → (Variable → ℕ) → ℕ → List Row → Option ℕ
unmet_from p a n [] = None
unmet_from p a n (r ∷ rs) = cond (met p a r) (unmet_from p a (n + 1) rs) (Some n)

-- the number of the first row that the kept values do not meet; none where no values are kept
abbrev pub first_unmet : ℕ → Meaning → Option ℕ
first_unmet p m = cond m.keeps (unmet_from p (assigned m) 0 m.rows) None
