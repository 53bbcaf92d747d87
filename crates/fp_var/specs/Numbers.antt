-- Numbers of a circuit, constants folded, and what the calls on them ask of a system.
use Rattle.std.specs.Prelude.{ℕ, ◌+◌, ◌-◌, ◌*◌, ◌%◌, Bool, true, false, not, cond, List, [], ◌∷◌, Some, None, Option, ◌==◌}
use Rattle.relations.specs.declared.term.Variable.{Variable}
use Rattle.relations.specs.declared.term.Variable.TheVariants.{One, Zero}
use Rattle.relations.specs.declared.term.Term.{Term}
use Rattle.relations.specs.declared.fault.GadgetFault.TheVariants.{NoValue, Unsatisfiable}
use Rattle.relations.specs.declared.term.Side.{Side}
use Rattle.relations.specs.declared.term.Side.TheVariants.{Input as input, Witness as witness}
use Rattle.relations.specs.Script.{Script, answer, refuse, allocate, combine, row, then}
use Rattle.relations.specs.Terms.{times, just, less}
use Rattle.allocated.specs.declared.allocated.AllocatedBool.{AllocatedBool}
use Rattle.allocated.specs.Gates.{bit, of_two, of_three, chosen, not_allocated}
use Rattle.boolean.specs.declared.mode.AllocationMode.{AllocationMode}
use Rattle.boolean.specs.declared.mode.AllocationMode.TheVariants.{Constant as as_constant, Input as as_input, Witness as as_witness}
use Rattle.boolean.specs.declared.bits.Boolean.{Boolean}
use Rattle.boolean.specs.declared.bits.Boolean.TheVariants.{Constant as constant_bit, Var as variable_bit}
use Rattle.boolean.specs.Booleans.{as_var, on_constants}
use Rattle.fp.specs.Equality.{inverse, gap, where_both, is_eq_script as same_script, is_neq_script as differ_script}
use Rattle.fp_var.specs.declared.numbers.FpVar.{FpVar}
use Rattle.fp_var.specs.declared.numbers.FpVar.TheVariants.{Constant, Var}
use Rattle.fp_var.specs.declared.numbers.FpCall.{FpCall}
use Rattle.fp_var.specs.declared.numbers.FpCall.TheVariants.{Allocate, Add, Sub, Mul, Negate, Double, Inverse, Select, FromBit}
use Rattle.fp_var.specs.declared.numbers.FpQuestion.{FpQuestion}
use Rattle.fp_var.specs.declared.numbers.FpQuestion.TheVariants.{IsEq, IsNeq}
use Rattle.fp_var.specs.declared.numbers.FpStatement.{FpStatement}
use Rattle.fp_var.specs.declared.numbers.FpStatement.TheVariants.{MulEquals, SquareEquals, Equal, Unequal}

-- ---- numbers by their names
-- the number that a variable stands for
abbrev pub named : Variable → FpVar
named v = Var (record { variable = v })

-- a combination of terms, as a number
abbrev pub linear : List Term → Script FpVar
linear ts = combine ts (λ v. answer (named v))

-- a constant as a combination
abbrev pub constant_lc : ℕ → Script Variable
constant_lc c = combine (times c One ∷ []) (λ v. answer v)

-- ---- allocation
-- a number that may be absent, modulo p
abbrev pub reduced : ℕ → Option ℕ → Option ℕ
reduced p None = None
reduced p (Some x) = Some (x % p)

-- a new input or witness, which no row forces
abbrev pub new_number : ℕ → Side → Option ℕ → Script FpVar
new_number p d o = allocate d [] (λ os. reduced p o) (λ v. answer (named v))

-- a new number: a constant asks for nothing but its value
abbrev pub alloc_script : ℕ → AllocationMode → Option ℕ → Script FpVar
alloc_script p as_constant None = refuse NoValue
alloc_script p as_constant (Some x) = answer (Constant (x % p))
alloc_script p as_input o = new_number p input o
alloc_script p as_witness o = new_number p witness o

-- ---- sums and differences
-- a constant added to a variable: the variable itself where the constant is 0
abbrev pub add_constant : ℕ → ℕ → Variable → Script FpVar
add_constant p c v = cond (c % p == 0) (answer (named v)) (linear (times 1 v ∷ (times c One ∷ [])))

-- the sum of two numbers
abbrev pub add_script : ℕ → FpVar → FpVar → Script FpVar
add_script p (Constant a) (Constant b) = answer (Constant ((a + b) % p))
add_script p (Constant a) (Var b) = add_constant p a b.variable
add_script p (Var a) (Constant b) = add_constant p b a.variable
add_script p (Var a) (Var b) = linear (times 1 a.variable ∷ just b.variable)

-- minus a number, modulo p
abbrev pub opposite : ℕ → ℕ → ℕ
opposite p c = (p - c % p) % p

-- minus a variable
abbrev pub negated : ℕ → Variable → Script FpVar
negated p v = linear (times (p - 1) v ∷ [])

-- minus a number
abbrev pub negate_script : ℕ → FpVar → Script FpVar
negate_script p (Constant a) = answer (Constant (opposite p a))
negate_script p (Var a) = negated p a.variable

-- a variable less a constant
abbrev pub less_constant : ℕ → Variable → ℕ → Script FpVar
less_constant p v c = linear (times 1 v ∷ (times (opposite p c) One ∷ []))

-- a constant less a variable: minus the variable where the constant is 0, else minus the combination of the variable less the constant
abbrev pub constant_less : ℕ → ℕ → Variable → Script FpVar
constant_less p c v = cond (c % p == 0) (negated p v) (then (less_constant p v c) (negate_script p))

-- the first number less the second
abbrev pub sub_script : ℕ → FpVar → FpVar → Script FpVar
sub_script p (Constant a) (Constant b) = answer (Constant ((a + opposite p b) % p))
sub_script p (Constant a) (Var b) = constant_less p a b.variable
sub_script p (Var a) (Constant b) = add_constant p (opposite p b) a.variable
sub_script p (Var a) (Var b) = linear (less p a.variable b.variable)

-- twice a number
abbrev pub double_script : ℕ → FpVar → Script FpVar
double_script p (Constant a) = answer (Constant ((2 * a) % p))
double_script p (Var a) = linear (times 2 a.variable ∷ [])

-- ---- products
-- the product of two numbers modulo p
abbrev pub product : ℕ → ℕ → ℕ → ℕ
product p x y = (x * y) % p

-- a variable times a constant: the variable itself where the constant is 1
abbrev pub scaled : ℕ → ℕ → Variable → Script Variable
scaled p c v = cond (c % p == 1) (answer v) (combine (times c v ∷ []) (λ x. answer x))

-- the same, as a number
abbrev pub mul_constant : ℕ → ℕ → Variable → Script FpVar
mul_constant p c v = then (scaled p c v) (λ x. answer (named x))

-- a witness w for the product of two variables, with the row a * b = w
abbrev pub mul_variables : ℕ → Variable → Variable → Script FpVar
mul_variables p a b = allocate witness (a ∷ b ∷ []) (of_two (where_both (product p))) (λ w. row (just a) (just b) (just w) (answer (named w)))

-- the product of two numbers
abbrev pub mul_script : ℕ → FpVar → FpVar → Script FpVar
mul_script p (Constant a) (Constant b) = answer (Constant (product p a b))
mul_script p (Constant a) (Var b) = mul_constant p a b.variable
mul_script p (Var a) (Constant b) = mul_constant p b a.variable
mul_script p (Var a) (Var b) = mul_variables p a.variable b.variable

-- ---- inverses
-- the inverse of a value, and 0 for 0, where the value is there
abbrev pub inverse_known : ℕ → Option ℕ → Option ℕ
inverse_known p None = None
inverse_known p (Some x) = Some (inverse p x)

-- the same of the first of some values
abbrev pub inverse_of : ℕ → List (Option ℕ) → Option ℕ
inverse_of p [] = None
inverse_of p (None ∷ os) = None
inverse_of p (Some x ∷ os) = Some (inverse p x)

-- a witness w for the inverse of a variable, with the row v * w = 1
abbrev pub inverse_variable : ℕ → Variable → Script FpVar
inverse_variable p v = allocate witness (v ∷ []) (inverse_of p) (λ w. row (just v) (just w) (just One) (answer (named w)))

-- a constant 0 has none, and is refused; of a variable a witness w with the row a * w = 1
abbrev pub inverse_script : ℕ → FpVar → Script FpVar
inverse_script p (Constant a) = cond (a % p == 0) (refuse NoValue) (answer (Constant (inverse p (a % p))))
inverse_script p (Var a) = inverse_variable p a.variable

-- ---- a bit as a number
-- a constant is 0 or 1, and a variable becomes a combination of its own
abbrev pub of_bit_script : Boolean → Script FpVar
of_bit_script (constant_bit b) = answer (Constant (bit b))
of_bit_script (variable_bit a) = linear (just a.variable)

-- ---- questions
-- whether two constants are equal modulo p
abbrev pub same_constants : ℕ → ℕ → ℕ → Bool
same_constants p a b = a % p == b % p

-- a question on a constant and a variable: the constant as a combination stands first
abbrev pub beside : {A : Type 0} → ℕ → Variable → (Variable → Variable → Script A) → Script A
beside c v k = then (constant_lc c) (λ x. k x v)

-- whether two numbers are equal
abbrev pub is_eq_script : ℕ → FpVar → FpVar → Script Boolean
is_eq_script p (Constant a) (Constant b) = answer (constant_bit (same_constants p a b))
is_eq_script p (Constant a) (Var b) = beside a b.variable (λ x y. as_var (same_script p x y))
is_eq_script p (Var a) (Constant b) = beside b a.variable (λ x y. as_var (same_script p x y))
is_eq_script p (Var a) (Var b) = as_var (same_script p a.variable b.variable)

-- and whether they are not
abbrev pub is_neq_script : ℕ → FpVar → FpVar → Script Boolean
is_neq_script p (Constant a) (Constant b) = answer (constant_bit (not (same_constants p a b)))
is_neq_script p (Constant a) (Var b) = beside a b.variable (λ x y. as_var (differ_script p x y))
is_neq_script p (Var a) (Constant b) = beside b a.variable (λ x y. as_var (differ_script p x y))
is_neq_script p (Var a) (Var b) = as_var (differ_script p a.variable b.variable)

-- ---- statements
-- a statement on constants alone: nothing where it holds, else a refusal
abbrev pub holding : Bool → Script (Unit {0})
holding true = answer tt
holding false = refuse Unsatisfiable

-- the row x - y = 0
abbrev pub same_row : ℕ → Variable → Variable → Script (Unit {0})
same_row p x y = row (less p x y) (just One) [] (answer tt)

-- a variable is a constant, which enters as a combination and stands first
abbrev pub variable_is_constant : ℕ → ℕ → Variable → Script (Unit {0})
variable_is_constant p c v = then (constant_lc c) (λ x. same_row p x v)

-- a variable is a number
abbrev pub variable_is : ℕ → Variable → FpVar → Script (Unit {0})
variable_is p m (Constant c) = variable_is_constant p c m
variable_is p m (Var c) = same_row p c.variable m

-- a constant is a number
abbrev pub constant_is : ℕ → ℕ → FpVar → Script (Unit {0})
constant_is p m (Constant c) = holding (same_constants p m c)
constant_is p m (Var c) = variable_is_constant p m c.variable

-- the row a * b = x
abbrev pub product_is : Variable → Variable → Variable → Script (Unit {0})
product_is a b x = row (just a) (just b) (just x) (answer tt)

-- the product of two variables is a number: a constant enters as a combination
abbrev pub product_row : Variable → Variable → FpVar → Script (Unit {0})
product_row a b (Constant c) = then (constant_lc c) (product_is a b)
product_row a b (Var c) = product_is a b c.variable

-- a * b = c
abbrev pub mul_equals_script : ℕ → FpVar → FpVar → FpVar → Script (Unit {0})
mul_equals_script p (Constant a) (Constant b) c = constant_is p (product p a b) c
mul_equals_script p (Constant a) (Var b) c = then (scaled p a b.variable) (λ m. variable_is p m c)
mul_equals_script p (Var a) (Constant b) c = then (scaled p b a.variable) (λ m. variable_is p m c)
mul_equals_script p (Var a) (Var b) c = product_row a.variable b.variable c

-- the square of a constant, which enters as a combination, is a variable
abbrev pub constant_square_is : ℕ → Variable → Script (Unit {0})
constant_square_is c v = then (constant_lc c) (λ x. product_is x x v)

-- a * a = b: a constant enters as a combination
abbrev pub square_equals_script : ℕ → FpVar → FpVar → Script (Unit {0})
square_equals_script p (Constant a) (Constant b) = holding (same_constants p (product p a a) b)
square_equals_script p (Constant a) (Var b) = constant_square_is a b.variable
square_equals_script p (Var a) b = product_row a.variable a.variable b

-- a condition as a variable, constants too
abbrev pub condition : Boolean → Variable
condition (constant_bit true) = One
condition (constant_bit false) = Zero
condition (variable_bit c) = c.variable

-- where the condition k is 1, x and y are equal
abbrev pub equal_row : ℕ → Variable → Variable → Variable → Script (Unit {0})
equal_row p k x y = row (less p x y) (just k) [] (answer tt)

-- where the condition is 1, two numbers are equal
abbrev pub equal_script : ℕ → FpVar → FpVar → Boolean → Script (Unit {0})
equal_script p (Constant a) (Constant b) c = on_constants (same_constants p a b) c
equal_script p (Constant a) (Var b) c = beside a b.variable (equal_row p (condition c))
equal_script p (Var a) (Constant b) c = beside b a.variable (equal_row p (condition c))
equal_script p (Var a) (Var b) c = equal_row p (condition c) a.variable b.variable

-- the multiplier that shows that x and y differ where the condition c is 1: the inverse of their difference, and none where they are equal; 0 where c is 0
abbrev pub apart : ℕ → ℕ → ℕ → ℕ → Option ℕ
apart p x y c = cond (c == 0) (Some 0) (cond (x == y) None (Some (inverse p (gap p x y))))

-- the same of values that may be absent, and of a constant and such values
abbrev pub apart_values : ℕ → Option ℕ → Option ℕ → Option ℕ → Option ℕ
apart_values p None y c = None
apart_values p (Some x) None c = None
apart_values p (Some x) (Some y) None = None
apart_values p (Some x) (Some y) (Some c) = apart p x y c

-- (x - y) * m = k
abbrev pub apart_row : ℕ → Variable → Variable → Variable → Variable → Script (Unit {0})
apart_row p k x y m = row (less p x y) (just m) (just k) (answer tt)

-- a variable x, whose value is the constant a and is not asked for, beside a variable b
abbrev pub apart_from_known : ℕ → ℕ → Variable → Variable → Variable → Script (Unit {0})
apart_from_known p a x b k = allocate witness (b ∷ k ∷ []) (of_two (apart_values p (Some (a % p)))) (apart_row p k x b)

-- a constant a beside a variable b: only operands are asked for their values
abbrev pub apart_from : ℕ → ℕ → Variable → Variable → Script (Unit {0})
apart_from p a b k = then (constant_lc a) (λ x. apart_from_known p a x b k)

-- two variables
abbrev pub apart_both : ℕ → Variable → Variable → Variable → Script (Unit {0})
apart_both p a b k = allocate witness (a ∷ b ∷ k ∷ []) (of_three (apart_values p)) (apart_row p k a b)

-- where the condition c is 1, a and b differ
abbrev pub unequal_script : ℕ → FpVar → FpVar → Boolean → Script (Unit {0})
unequal_script p (Constant a) (Constant b) c = on_constants (not (same_constants p a b)) c
unequal_script p (Constant a) (Var b) c = apart_from p a b.variable (condition c)
unequal_script p (Var a) (Constant b) c = apart_from p b a.variable (condition c)
unequal_script p (Var a) (Var b) c = apart_both p a.variable b.variable (condition c)

-- ---- a choice
-- a witness w with the row c * (x - y) = w - y
abbrev pub choice_of : ℕ → Variable → Variable → Variable → Script FpVar
choice_of p c x y = allocate witness (c ∷ x ∷ y ∷ []) (of_three chosen) (λ w. row (just c) (less p x y) (less p w y) (answer (named w)))

-- a variable as a combination of its own
abbrev pub copied : Variable → Script Variable
copied v = combine (just v) (λ x. answer x)

-- a times the variable v and b times the variable w, together
abbrev pub weighted : ℕ → ℕ → Variable → ℕ → Variable → Script FpVar
weighted p a v b w = then (scaled p a v) (λ x. then (scaled p b w) (λ y. linear (times 1 x ∷ just y)))

-- two constants: the first times the condition, and the second times its opposite, together
abbrev pub choice_of_constants : ℕ → AllocatedBool → ℕ → ℕ → Script FpVar
choice_of_constants p c a b =
    then (copied c.variable) (λ i.
    then (not_allocated p c) (λ t.
    then (copied t.variable) (λ o.
    weighted p a i b o)))

-- a where the condition is 1, else b: a constant beside a variable enters as a combination
abbrev pub select_script : ℕ → Boolean → FpVar → FpVar → Script FpVar
select_script p (constant_bit true) a b = answer a
select_script p (constant_bit false) a b = answer b
select_script p (variable_bit c) (Constant a) (Constant b) = choice_of_constants p c a b
select_script p (variable_bit c) (Constant a) (Var b) = then (constant_lc a) (λ x. choice_of p c.variable x b.variable)
select_script p (variable_bit c) (Var a) (Constant b) = then (constant_lc b) (λ y. choice_of p c.variable a.variable y)
select_script p (variable_bit c) (Var a) (Var b) = choice_of p c.variable a.variable b.variable

-- ---- the calls on numbers that a circuit's author makes
-- a call that answers a number
abbrev pub call_script : ℕ → FpCall → Script FpVar
call_script p (Allocate mode value) = alloc_script p mode value
call_script p (Add a b) = add_script p a b
call_script p (Sub a b) = sub_script p a b
call_script p (Mul a b) = mul_script p a b
call_script p (Negate a) = negate_script p a
call_script p (Double a) = double_script p a
call_script p (Inverse a) = inverse_script p a
call_script p (Select c a b) = select_script p c a b
call_script p (FromBit b) = of_bit_script b

-- a question, which answers a bit
abbrev pub question_script : ℕ → FpQuestion → Script Boolean
question_script p (IsEq a b) = is_eq_script p a b
question_script p (IsNeq a b) = is_neq_script p a b

-- a statement
abbrev pub statement_script : ℕ → FpStatement → Script (Unit {0})
statement_script p (MulEquals a b c) = mul_equals_script p a b c
statement_script p (SquareEquals a b) = square_equals_script p a b
statement_script p (Equal a b c) = equal_script p a b c
statement_script p (Unequal a b c) = unequal_script p a b c
