-- Sums written out: over One, inputs and witnesses alone.
use Rattle.std.specs.Prelude.{ℕ, ◌+◌, ◌*◌, ◌%◌, List, [], ◌∷◌, reverse}
use Rattle.relations.specs.declared.term.Variable.{Variable}
use Rattle.relations.specs.declared.term.Variable.TheVariants.{Combination}
use Rattle.relations.specs.Sum.{Sum}
use Rattle.relations.specs.Meaning.{Meaning, Combo, places}

-- coefficients in which each combination, the newest first, is replaced by its terms
abbrev pub expanded : ℕ → (Variable → ℕ) → List Combo → Variable → ℕ
expanded p f [] = f
expanded p f (x ∷ older) = expanded p (λ v. (f v + f (Combination (places older + x.sum.size)) * x.sum.at v) % p) older

-- the coefficient of each variable in a sum of a system, written out
abbrev pub written : ℕ → Meaning → Sum → Variable → ℕ
written p m s = expanded p s.at (reverse m.combos)
