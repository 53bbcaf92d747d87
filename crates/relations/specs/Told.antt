-- What is told of elements, as numbers.
use Rattle.std.specs.Prelude.{ℕ, Ok, Err, Option, Result}
use Rattle.std.specs.Option.{option_map}

-- an answer about an element, or none, as an answer about its number
abbrev pub told : {F E : Type 0} → (F → ℕ) → Result (Option F) E → Result (Option ℕ) E
told f (Ok o) = Ok (option_map f o)
told f (Err e) = Err e
