-- Whether two values differ.
use Rattle.std.specs.Prelude.{ℕ}
use Rattle.relations.specs.Script.{Script, then}
use Rattle.boolean.specs.declared.bits.Boolean.{Boolean}
use Rattle.boolean.specs.Booleans.{not_script}

-- the opposite of whether they are equal, whose script is s
abbrev pub inequality : ℕ → Script Boolean → Script Boolean
inequality p s = then s (not_script p)
