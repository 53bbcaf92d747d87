use Rattle.std.proofs.Common.{◌≡◌, ℕ, drop, vec_items}
use Rattle.relations.specs.Meaning.{Adds}
use Rattle.readings.specs.Runs.{History, Running}
use Rattle.tape.specs.State.{state_of}
use Rattle.tape.specs.Tape.{Progress}
use Rattle.tape.proofs.running.run.Given as goal

abbrev pub invariant-loop-number : goal.invariant-loop-number
invariant-loop-number g l =
    (at : ℕ) × (l.rest ≡ drop at l.tape)
    × Adds g.S.System.meaning g.S.System.stored g.S.System.knows l.initial.circuit.system l.circuit.system
    × ((h : History) → Running g.F.Field.modulus h (state_of g.S.System.meaning l.initial.circuit)
    → Progress g.F.Field.modulus l.tape h (state_of g.S.System.meaning l.initial.circuit) (state_of g.S.System.meaning l.circuit) at l.number (vec_items l.initial.refused) (vec_items l.refused))
