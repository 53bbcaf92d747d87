-- A new variable on either side.
use Rattle.std.proofs.Common.{◌≡◌, ℕ, ◌<◌, ◌≤◌, set, Some, None, Ok, Err, List, Option, length, refl, sym, subst, arith}
use Rattle.relations.specs.declared.term.Side.{Side}
use Rattle.relations.specs.declared.term.Side.TheVariants.{Input as input, Witness as witness}
use Rattle.relations.specs.declared.fault.SystemFault.{SystemFault}
use Rattle.relations.specs.declared.fault.SystemFault.TheVariants.{MissingValue}
use Rattle.relations.specs.Meaning.{new_variable}
use Rattle.words.specs.State.{State, Fit}
use Rattle.systems.specs.Held.{at_side}
use Rattle.systems.specs.Adding.{next_word, side_variable, with_side}
use Rattle.systems.specs.Order.{Ordered}
use Rattle.systems.proofs.Grown.{Done}
use Rattle.systems.proofs.Order.{variable_ordered}
use Rattle.systems.proofs.Calls.{input_full, witness_full, input_missing, witness_missing, input_new, witness_new}

-- what a side has and takes, as it is read
abbrev pub Read : Type 0
Read = ℕ × ℕ × SystemFault

full_at : (s : State) (d : Side) (o : Option ℕ) → Fit s → (at_side s d).1 ≤ (at_side s d).0 → Done (new_variable d o) s (Err (at_side s d).2) s
full_at s input o f h = input_full s o f h
full_at s witness o f h = witness_full s o f h

pub full : (s : State) (d : Side) (k : Read) (o : Option ℕ) → Fit s → k ≡ at_side s d → k.1 ≤ k.0 → Done (new_variable d o) s (Err k.2) s
full s d k o f e h =
    subst (λ (k : Read). Done (new_variable d o) s (Err k.2) s) (sym e)
    (full_at s d o f (subst (λ (k : Read). k.1 ≤ k.0) e h))

missing_at : (s : State) (d : Side) → Fit s → (at_side s d).0 < (at_side s d).1 → Done (new_variable d None) s (Err MissingValue) s
missing_at s input f h = input_missing s f h
missing_at s witness f h = witness_missing s f h

pub room : (s : State) (d : Side) (k : Read) → k ≡ at_side s d → k.0 < k.1 → (at_side s d).0 < (at_side s d).1
room s d k e h = subst (λ (k : Read). k.0 < k.1) e h

pub missing : (s : State) (d : Side) (k : Read) (o : Option ℕ) → Fit s → k ≡ at_side s d → k.0 < k.1 → o ≡ None → Done (new_variable d o) s (Err MissingValue) s
missing s d k o f e h eo = subst (λ (o : Option ℕ). Done (new_variable d o) s (Err MissingValue) s) (sym eo) (missing_at s d f (room s d k e h))

pub added : (s : State) (d : Side) (x : ℕ) → Fit s → (at_side s d).0 < (at_side s d).1 → x < s.modulus → Done (new_variable d (Some x)) s (Ok (side_variable s d)) (with_side d s (set s.value_words (next_word s d) x))
added s input x f h b = input_new s x f h b
added s witness x f h b = witness_new s x f h b

-- a side takes 65,536 variables at most
pub side_limit : (s : State) (d : Side) → Fit s → (at_side s d).1 ≤ 65536
side_limit s input f = f.input_limit
side_limit s witness f = f.witness_limit

-- the word of the next variable is among the kept values
pub word_there : (s : State) (d : Side) → Fit s → (at_side s d).0 < (at_side s d).1 → next_word s d < length s.value_words
word_there s input f h = omega (arith, f.values_long)
word_there s witness f h = omega (arith, f.values_long)

-- the terms stay in order
pub side_ordered : (s : State) (d : Side) (vs : List ℕ) → Ordered s → Ordered (with_side d s vs)
side_ordered s input vs o = variable_ordered s (with_side input s vs) (omega arith, omega arith) (omega arith) refl refl o
side_ordered s witness vs o = variable_ordered s (with_side witness s vs) (omega arith, omega arith) (omega arith) refl refl o

pub side_modulus : (s : State) (d : Side) (vs : List ℕ) → (with_side d s vs).modulus ≡ s.modulus
side_modulus s input vs = refl
side_modulus s witness vs = refl
