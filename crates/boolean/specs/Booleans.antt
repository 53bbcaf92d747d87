-- Booleans, constants folded, and what the calls on them ask of a system.
use Rattle.std.specs.Prelude.{ℕ, Bool, true, false, not, List, [], ◌∷◌, Some, None, Option}
use Rattle.relations.specs.declared.term.Variable.TheVariants.{One}
use Rattle.relations.specs.declared.term.Term.{Term}
use Rattle.relations.specs.declared.fault.GadgetFault.TheVariants.{NoValue, Unsatisfiable}
use Rattle.relations.specs.declared.term.Side.TheVariants.{Input as input, Witness as witness}
use Rattle.relations.specs.Script.{Script, answer, refuse, row, then}
use Rattle.relations.specs.Terms.{times, just, less, one_less}
use Rattle.allocated.specs.declared.gate.Gate.{Gate}
use Rattle.allocated.specs.declared.gate.Gate.TheVariants.{And, Or, Xor}
use Rattle.allocated.specs.declared.allocated.AllocatedBool.{AllocatedBool}
use Rattle.allocated.specs.Gates.{differ, new_bit, gate_script, not_allocated, choice_script}
use Rattle.boolean.specs.declared.mode.AllocationMode.{AllocationMode}
use Rattle.boolean.specs.declared.mode.AllocationMode.TheVariants.{Constant as as_constant, Input as as_input, Witness as as_witness}
use Rattle.boolean.specs.declared.bits.Boolean.{Boolean}
use Rattle.boolean.specs.declared.bits.Boolean.TheVariants.{Constant, Var}
use Rattle.boolean.specs.declared.bits.BooleanCall.{BooleanCall}
use Rattle.boolean.specs.declared.bits.BooleanCall.TheVariants.{Allocate, Not, Gated, Equality, Choice}
use Rattle.boolean.specs.declared.bits.BooleanStatement.{BooleanStatement}
use Rattle.boolean.specs.declared.bits.BooleanStatement.TheVariants.{Equal, Unequal}

-- a script for a variable bit as a script for a Boolean
abbrev pub as_var : Script AllocatedBool → Script Boolean
as_var s = then s (λ a. answer (Var a))

abbrev pub alloc_script : ℕ → AllocationMode → Option Bool → Script Boolean
alloc_script p as_constant None = refuse NoValue
alloc_script p as_constant (Some b) = answer (Constant b)
alloc_script p as_input o = as_var (new_bit p input o)
alloc_script p as_witness o = as_var (new_bit p witness o)

abbrev pub not_script : ℕ → Boolean → Script Boolean
not_script p (Constant b) = answer (Constant (not b))
not_script p (Var a) = as_var (not_allocated p a)

abbrev pub and_script : ℕ → Boolean → Boolean → Script Boolean
and_script p (Constant true) b = answer b
and_script p (Constant false) b = answer (Constant false)
and_script p (Var a) (Constant true) = answer (Var a)
and_script p (Var a) (Constant false) = answer (Constant false)
and_script p (Var a) (Var b) = as_var (gate_script And p a b)

abbrev pub or_script : ℕ → Boolean → Boolean → Script Boolean
or_script p (Constant true) b = answer (Constant true)
or_script p (Constant false) b = answer b
or_script p (Var a) (Constant true) = answer (Constant true)
or_script p (Var a) (Constant false) = answer (Var a)
or_script p (Var a) (Var b) = as_var (gate_script Or p a b)

abbrev pub xor_script : ℕ → Boolean → Boolean → Script Boolean
xor_script p (Constant true) b = not_script p b
xor_script p (Constant false) b = answer b
xor_script p (Var a) (Constant true) = not_script p (Var a)
xor_script p (Var a) (Constant false) = answer (Var a)
xor_script p (Var a) (Var b) = as_var (gate_script Xor p a b)

-- a gate on two bits
abbrev pub gated_script : Gate → ℕ → Boolean → Boolean → Script Boolean
gated_script And = and_script
gated_script Or = or_script
gated_script Xor = xor_script

-- a gate on a constant and a bit
abbrev pub folded_script : Gate → ℕ → Bool → Boolean → Script Boolean
folded_script And p true b = answer b
folded_script And p false b = answer (Constant false)
folded_script Or p true b = answer (Constant true)
folded_script Or p false b = answer b
folded_script Xor p true b = not_script p b
folded_script Xor p false b = answer b

-- whether two bits are equal: not their xor
abbrev pub is_eq_script : ℕ → Boolean → Boolean → Script Boolean
is_eq_script p a b = then (xor_script p a b) (not_script p)

-- a where the condition c is 1, else b
abbrev pub select_script : ℕ → Boolean → Boolean → Boolean → Script Boolean
select_script p (Constant true) a b = answer a
select_script p (Constant false) a b = answer b
select_script p (Var c) a (Constant false) = and_script p (Var c) a
select_script p (Var c) (Constant false) (Constant true) = then (not_script p (Var c)) (λ t. and_script p t (Constant true))
select_script p (Var c) (Constant false) (Var b) = then (not_script p (Var c)) (λ t. and_script p t (Var b))
select_script p (Var c) (Constant true) (Constant true) = or_script p (Var c) (Constant true)
select_script p (Var c) (Constant true) (Var b) = or_script p (Var c) (Var b)
select_script p (Var c) (Var a) (Constant true) = then (not_script p (Var c)) (λ t. or_script p t (Var a))
select_script p (Var c) (Var a) (Var b) = as_var (choice_script p c a b)

-- ---- statements, which answer nothing
-- a bit as a sum
abbrev pub bit_terms : Boolean → List Term
bit_terms (Constant true) = just One
bit_terms (Constant false) = []
bit_terms (Var a) = just a.variable

-- a statement on constants alone under a condition: nothing where it holds or the condition is 0; else a variable condition is forced to 0,
-- and under the condition 1 the statement is refused
abbrev pub on_constants : Bool → Boolean → Script (Unit {0})
on_constants true c = answer tt
on_constants false (Constant true) = refuse Unsatisfiable
on_constants false (Constant false) = answer tt
on_constants false (Var c) = row (just One) (just c.variable) [] (answer tt)

-- a row under a condition, unless that is 0
abbrev pub under : Boolean → Script (Unit {0}) → Script (Unit {0})
under (Constant false) s = answer tt
under (Constant true) s = s
under (Var c) s = s

-- two bits that are not both constant are equal where this sum is 0
abbrev pub difference : ℕ → Boolean → Boolean → List Term
difference p (Constant a) (Constant b) = []
difference p (Constant true) (Var b) = one_less p b.variable
difference p (Constant false) (Var b) = just b.variable
difference p (Var a) (Constant true) = one_less p a.variable
difference p (Var a) (Constant false) = just a.variable
difference p (Var a) (Var b) = less p b.variable a.variable

-- and they differ where this sum is 1
abbrev pub together : Boolean → Boolean → List Term
together (Constant a) (Constant b) = []
together (Constant true) (Var b) = times 1 One ∷ just b.variable
together (Constant false) (Var b) = just b.variable
together (Var a) (Constant true) = times 1 One ∷ just a.variable
together (Var a) (Constant false) = just a.variable
together (Var a) (Var b) = times 1 b.variable ∷ just a.variable

-- where c is 1, a and b are equal
abbrev pub equal_script : ℕ → Boolean → Boolean → Boolean → Script (Unit {0})
equal_script p (Constant a) (Constant b) c = on_constants (not (differ a b)) c
equal_script p (Constant a) (Var b) c = under c (row (difference p (Constant a) (Var b)) (bit_terms c) [] (answer tt))
equal_script p (Var a) b c = under c (row (difference p (Var a) b) (bit_terms c) [] (answer tt))

-- where c is 1, a and b differ
abbrev pub unequal_script : ℕ → Boolean → Boolean → Boolean → Script (Unit {0})
unequal_script p (Constant a) (Constant b) c = on_constants (differ a b) c
unequal_script p (Constant a) (Var b) c = under c (row (together (Constant a) (Var b)) (bit_terms c) (bit_terms c) (answer tt))
unequal_script p (Var a) b c = under c (row (together (Var a) b) (bit_terms c) (bit_terms c) (answer tt))

-- a bit is 0
abbrev pub zero_script : Boolean → Script (Unit {0})
zero_script (Constant true) = refuse Unsatisfiable
zero_script (Constant false) = answer tt
zero_script (Var a) = row (just a.variable) (just One) [] (answer tt)

-- ---- the calls on bits that a circuit's author makes
abbrev pub call_script : ℕ → BooleanCall → Script Boolean
call_script p (Allocate mode value) = alloc_script p mode value
call_script p (Not a) = not_script p a
call_script p (Gated g a b) = gated_script g p a b
call_script p (Equality a b) = is_eq_script p a b
call_script p (Choice c a b) = select_script p c a b

abbrev pub statement_script : ℕ → BooleanStatement → Script (Unit {0})
statement_script p (Equal a b c) = equal_script p a b c
statement_script p (Unequal a b c) = unequal_script p a b c
