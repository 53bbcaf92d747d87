-- What a circuit is.
use Rattle.relations.specs.Meaning.{Meaning}
use Rattle.readings.specs.State.{State, state}
use Rattle.tape.specs.declared.circuit.Circuit.{Circuit}
use Rattle.tape.specs.Book.{held_by, places_of}

-- what a circuit is, by what its system means
abbrev pub state_of : {S : Type 0} → (S → Meaning) → Circuit S → State
state_of meaning c = state (meaning c.system) (held_by c.book) (places_of c.book)
