-- Whether the kept values meet the rows.
use Rattle.std.specs.Prelude.{ℕ, Some, None, Option}
use Rattle.relations.specs.Meaning.{Meaning}
use Rattle.relations.specs.Unmet.{first_unmet}
use Rattle.systems.specs.declared.reading.Verdict.{Verdict}
use Rattle.systems.specs.declared.reading.Verdict.TheVariants.{Met, Unmet}

-- by the number of the first row that is not met, if there is one
abbrev pub verdict_of : Option ℕ → Verdict
verdict_of None = Met
verdict_of (Some n) = Unmet n

-- that of a system
abbrev pub verdict : ℕ → Meaning → Verdict
verdict p m = verdict_of (first_unmet p m)
