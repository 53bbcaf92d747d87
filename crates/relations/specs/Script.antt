-- A gadget as a script of calls, and the one function that runs scripts.
use Rattle.std.specs.Prelude.{ℕ, List, [], ◌∷◌, Ok, Err, Option, Result}
use Rattle.relations.specs.declared.term.Variable.{Variable}
use Rattle.relations.specs.declared.term.Term.{Term}
use Rattle.relations.specs.declared.fault.SystemFault.{SystemFault}
use Rattle.relations.specs.declared.fault.GadgetFault.{GadgetFault}
use Rattle.relations.specs.declared.fault.GadgetFault.TheVariants.{System}
use Rattle.relations.specs.Meaning.{Meaning, Step, ask, new_variable, new_lc, enforce}
use Rattle.relations.specs.declared.term.Side.{Side}

-- what a gadget asks of a system, step by step. The value of a new input or witness is a function of values that are asked for right before it,
-- and nothing else of a script sees a value: the calls that follow never depend on one
pub data Script (A : Type 0) : Type 0 where
  answer : A → Script A
  refuse : GadgetFault → Script A
  allocate : Side → List Variable → (List (Option ℕ) → Option ℕ) → (Variable → Script A) → Script A
  combine : List Term → (Variable → Script A) → Script A
  row : List Term → List Term → List Term → Script A → Script A

-- one script and then another, which sees the first one's answer
abbrev pub then : {A B : Type 0} → Script A → (A → Script B) → Script B
then (answer x) k = k x
then (refuse e) k = refuse e
then (allocate d vs f c) k = allocate d vs f (λ v. then (c v) k)
then (combine ts c) k = combine ts (λ v. then (c v) k)
then (row a b c s) k = row a b c (then s k)

-- what follows a system's call: a refusal ends the script, and travels whole inside the gadget's
abbrev pub next : {A B : Type 0} → Result A SystemFault → Meaning → (A → Step (Result B GadgetFault)) → Result B GadgetFault × Meaning
next (Ok x) m k = k x m
next (Err e) m k = (Err (System e), m)

-- asks for the values one after another, and then adds the input or witness
abbrev pub asking : {A : Type 0} → Side → List Variable → (List (Option ℕ) → Option ℕ) → (Variable → Step (Result A GadgetFault)) → Step (Result A GadgetFault)
asking d [] f k m = next (new_variable d (f []) m).0 (new_variable d (f []) m).1 k
asking d (v ∷ vs) f k m = next (ask v m).0 m (λ o. asking d vs (λ os. f (o ∷ os)) k)

abbrev pub run : {A : Type 0} → ℕ → Script A → Step (Result A GadgetFault)
run p (answer x) m = (Ok x, m)
run p (refuse e) m = (Err e, m)
run p (allocate d vs f k) m = asking d vs f (λ v. run p (k v)) m
run p (combine ts k) m = next (new_lc p ts m).0 (new_lc p ts m).1 (λ v. run p (k v))
run p (row a b c s) m = next (enforce p a b c m).0 (enforce p a b c m).1 (λ u. run p s)

-- steps as one call: a refusal leaves the system as it was
abbrev pub restored : {A E : Type 0} → Meaning → Result A E → Meaning → Result A E × Meaning
restored m (Ok x) n = (Ok x, n)
restored m (Err e) n = (Err e, m)

abbrev pub whole : {A E : Type 0} → Step (Result A E) → Step (Result A E)
whole s m = restored m (s m).0 (s m).1

-- a result with another answer in place of its own
abbrev pub over : {A B E : Type 0} → (A → B) → Result A E → Result B E
over f (Ok x) = Ok (f x)
over f (Err e) = Err e
