-- Short sums that gadgets hand in.
use Rattle.std.specs.Prelude.{ℕ, ◌-◌, List, [], ◌∷◌}
use Rattle.relations.specs.declared.term.Variable.{Variable}
use Rattle.relations.specs.declared.term.Variable.TheVariants.{One}
use Rattle.relations.specs.declared.term.Term.{Term}

abbrev pub times : ℕ → Variable → Term
times k v = record { coefficient = k; variable = v }

-- a variable alone
abbrev pub just : Variable → List Term
just v = times 1 v ∷ []

-- x less y
abbrev pub less : ℕ → Variable → Variable → List Term
less p x y = times 1 x ∷ (times (p - 1) y ∷ [])

-- one less a variable
abbrev pub one_less : ℕ → Variable → List Term
one_less p v = less p One v
