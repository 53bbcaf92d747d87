-- What the calls on numbers ask of a system, by which of their operands are constants, and which are one variable.
use Rattle.std.specs.Prelude.{ℕ, ◌+◌, ◌*◌, ◌%◌, Bool, true, false, not, cond, List, [], ◌∷◌, ◌++◌, Some, None, Option, ◌==◌}
use Rattle.relations.specs.declared.fault.GadgetFault.TheVariants.{NoValue, Unsatisfiable}
use Rattle.relations.specs.declared.term.Side.TheVariants.{Input as input, Witness as witness}
use Rattle.relations.specs.Sum.{code}
use Rattle.allocated.specs.Gates.{bit}
use Rattle.boolean.specs.declared.mode.AllocationMode.{AllocationMode}
use Rattle.boolean.specs.declared.mode.AllocationMode.TheVariants.{Constant as as_constant, Input as as_input, Witness as as_witness}
use Rattle.boolean.specs.declared.bits.Boolean.{Boolean}
use Rattle.fp.specs.Equality.{inverse}
use Rattle.fp_var.specs.declared.numbers.FpVar.{FpVar}
use Rattle.fp_var.specs.declared.numbers.FpVar.TheVariants.{Constant, Var}
use Rattle.fp_var.specs.Numbers.{opposite, product, same_constants, condition, apart}
use Rattle.laws.specs.Law.{Val, present}
use Rattle.laws.specs.Bill.{Charge, takes_variable, takes_combination, takes_row}
use Rattle.bit_laws.specs.Bills.{Due, owes, quits, due_then, on_due, is_eq_bill, is_neq_bill}

-- ---- operands: in place of each its shadow
-- the shadow of a number: the value of a constant; a variable has none
abbrev pub number_shadow : FpVar → Option ℕ
number_shadow (Constant c) = Some c
number_shadow (Var a) = None

-- whether two numbers are one variable
abbrev pub same_number : FpVar → FpVar → Bool
same_number (Constant a) b = false
same_number (Var a) (Constant b) = false
same_number (Var a) (Var b) = code a.variable == code b.variable

-- ---- parts of bills
-- how many terms a multiple of a variable takes: none where the coefficient is 0 modulo p
abbrev pub multiple_terms : ℕ → ℕ → ℕ
multiple_terms p c = cond (c % p == 0) 0 1

-- a constant as a combination
abbrev pub constant_bill : ℕ → ℕ → List Charge
constant_bill p c = takes_combination (multiple_terms p c) ∷ []

-- a combination of k terms, which is the answer
abbrev pub combined_due : ℕ → Due (Option ℕ)
combined_due k = owes (takes_combination k ∷ []) None

-- a witness, which is the answer, and a row of k terms
abbrev pub witness_due : ℕ → Due (Option ℕ)
witness_due k = owes (takes_variable witness true ∷ (takes_row k ∷ [])) None

-- a multiple of a variable: nothing where the coefficient is 1. Of the variable itself same is known, and of a combination that it is another
abbrev pub scaled_due : {A : Type 0} → ℕ → ℕ → A → A → Due A
scaled_due p c same other = cond (c % p == 1) (owes [] same) (owes (takes_combination (multiple_terms p c) ∷ []) other)

-- the same without what is known
abbrev pub scaled_bill : ℕ → ℕ → List Charge
scaled_bill p c = cond (c % p == 1) [] (takes_combination (multiple_terms p c) ∷ [])

-- ---- calls that answer a number. Here and below same says whether the two operands are one variable
-- a constant and a variable: nothing where the constant is 0
abbrev pub add_constant_due : ℕ → ℕ → Due (Option ℕ)
add_constant_due p c = cond (c % p == 0) (owes [] None) (combined_due 2)

-- a sum: two constants fold, and two variables are a combination
abbrev pub add_due : ℕ → Bool → Option ℕ → Option ℕ → Due (Option ℕ)
add_due p same (Some a) (Some b) = owes [] (Some ((a + b) % p))
add_due p same (Some a) None = add_constant_due p a
add_due p same None (Some b) = add_constant_due p b
add_due p same None None = combined_due (cond same 1 2)

-- minus a number
abbrev pub negate_due : ℕ → Option ℕ → Due (Option ℕ)
negate_due p (Some a) = owes [] (Some (opposite p a))
negate_due p None = combined_due 1

-- a constant less a variable: where the constant is not 0 the combination of both, and then minus that
abbrev pub constant_less_due : ℕ → ℕ → Due (Option ℕ)
constant_less_due p c = cond (c % p == 0) (combined_due 1) (owes (takes_combination 2 ∷ (takes_combination 1 ∷ [])) None)

-- a difference: a constant that is taken off a variable is added as its opposite
abbrev pub sub_due : ℕ → Bool → Option ℕ → Option ℕ → Due (Option ℕ)
sub_due p same (Some a) (Some b) = owes [] (Some ((a + opposite p b) % p))
sub_due p same (Some a) None = constant_less_due p a
sub_due p same None (Some b) = add_constant_due p (opposite p b)
sub_due p same None None = combined_due (cond same 0 2)

-- twice a number
abbrev pub double_due : ℕ → Option ℕ → Due (Option ℕ)
double_due p (Some a) = owes [] (Some ((2 * a) % p))
double_due p None = combined_due 1

-- a product: two variables have a witness
abbrev pub mul_due : ℕ → Option ℕ → Option ℕ → Due (Option ℕ)
mul_due p (Some a) (Some b) = owes [] (Some (product p a b))
mul_due p (Some a) None = scaled_due p a None None
mul_due p None (Some b) = scaled_due p b None None
mul_due p None None = witness_due 3

-- an inverse: the constant 0 has none, and that of a variable is a witness
abbrev pub inverse_due : ℕ → Option ℕ → Due (Option ℕ)
inverse_due p (Some a) = cond (a % p == 0) (quits NoValue) (owes [] (Some (inverse p (a % p))))
inverse_due p None = witness_due 3

-- a bit as a number: a variable is a combination of its own
abbrev pub of_bit_due : Option Bool → Due (Option ℕ)
of_bit_due (Some b) = owes [] (Some (bit b))
of_bit_due None = combined_due 1

-- a new number, whose value may be absent
abbrev pub alloc_due : ℕ → AllocationMode → Option ℕ → Due (Option ℕ)
alloc_due p as_constant None = quits NoValue
alloc_due p as_constant (Some x) = owes [] (Some (x % p))
alloc_due p as_input o = owes (takes_variable input (present o) ∷ []) None
alloc_due p as_witness o = owes (takes_variable witness (present o) ∷ []) None

-- a choice. Of two constants: the condition and its opposite as combinations, the multiples of both, and their sum. Else a constant enters as a combination
abbrev pub select_due : ℕ → Bool → Option Bool → Option ℕ → Option ℕ → Due (Option ℕ)
select_due p same (Some true) a b = owes [] a
select_due p same (Some false) a b = owes [] b
select_due p same None (Some a) (Some b) = owes (takes_combination 1 ∷ (takes_combination 2 ∷ (takes_combination 1 ∷ (scaled_bill p a ++ (scaled_bill p b ++ (takes_combination 2 ∷ [])))))) None
select_due p same None (Some a) None = owes (constant_bill p a ++ (takes_variable witness true ∷ (takes_row 5 ∷ []))) None
select_due p same None None (Some b) = owes (constant_bill p b ++ (takes_variable witness true ∷ (takes_row 5 ∷ []))) None
select_due p same None None None = witness_due (cond same 3 5)

-- ---- questions, which answer a bit: a constant beside a variable enters as a combination
-- whether two numbers are equal
abbrev pub is_eq_due : ℕ → Bool → Option ℕ → Option ℕ → Due (Option Bool)
is_eq_due p same (Some a) (Some b) = owes [] (Some (same_constants p a b))
is_eq_due p same (Some a) None = owes (constant_bill p a ++ is_eq_bill false) None
is_eq_due p same None (Some b) = owes (constant_bill p b ++ is_eq_bill false) None
is_eq_due p same None None = owes (is_eq_bill same) None

-- whether they differ
abbrev pub is_neq_due : ℕ → Bool → Option ℕ → Option ℕ → Due (Option Bool)
is_neq_due p same (Some a) (Some b) = owes [] (Some (not (same_constants p a b)))
is_neq_due p same (Some a) None = owes (constant_bill p a ++ is_neq_bill false) None
is_neq_due p same None (Some b) = owes (constant_bill p b ++ is_neq_bill false) None
is_neq_due p same None None = owes (is_neq_bill same) None

-- ---- statements
-- one on constants alone
abbrev pub holding_due : Bool → Due (Unit {0})
holding_due true = owes [] tt
holding_due false = quits Unsatisfiable

-- a constant as a combination, and a row of k terms
abbrev pub constant_row_due : ℕ → ℕ → ℕ → Due (Unit {0})
constant_row_due p c k = owes (constant_bill p c ++ (takes_row k ∷ [])) tt

-- a variable is a number: same says whether that is the same variable
abbrev pub variable_is_due : ℕ → Bool → Option ℕ → Due (Unit {0})
variable_is_due p same (Some c) = constant_row_due p c 3
variable_is_due p same None = owes (takes_row (cond same 1 3) ∷ []) tt

-- a constant is a number
abbrev pub constant_is_due : ℕ → ℕ → Option ℕ → Due (Unit {0})
constant_is_due p m (Some c) = holding_due (same_constants p m c)
constant_is_due p m None = constant_row_due p m 3

-- a multiple of a variable is a number: same says whether that is the same variable
abbrev pub multiple_is_due : ℕ → Bool → ℕ → Option ℕ → Due (Unit {0})
multiple_is_due p same a c = due_then (scaled_due p a same false) (λ s. variable_is_due p s c)

-- the product of two variables is a number
abbrev pub product_row_due : ℕ → Option ℕ → Due (Unit {0})
product_row_due p (Some c) = constant_row_due p c 3
product_row_due p None = owes (takes_row 3 ∷ []) tt

-- a * b = c: first says whether a and c are one variable, and second whether b and c are
abbrev pub mul_equals_due : ℕ → Bool → Bool → Option ℕ → Option ℕ → Option ℕ → Due (Unit {0})
mul_equals_due p first second (Some a) (Some b) c = constant_is_due p (product p a b) c
mul_equals_due p first second (Some a) None c = multiple_is_due p second a c
mul_equals_due p first second None (Some b) c = multiple_is_due p first b c
mul_equals_due p first second None None c = product_row_due p c

-- a * a = b
abbrev pub square_equals_due : ℕ → Option ℕ → Option ℕ → Due (Unit {0})
square_equals_due p (Some a) (Some b) = holding_due (same_constants p (product p a a) b)
square_equals_due p (Some a) None = constant_row_due p a 3
square_equals_due p None b = product_row_due p b

-- how many terms a condition takes: none where it is the constant 0
abbrev pub condition_terms : Option Bool → ℕ
condition_terms (Some false) = 0
condition_terms (Some true) = 1
condition_terms None = 1

-- where a condition is 1, two numbers are equal
abbrev pub equal_due : ℕ → Bool → Option ℕ → Option ℕ → Option Bool → Due (Unit {0})
equal_due p same (Some a) (Some b) c = on_due (same_constants p a b) c
equal_due p same (Some a) None c = constant_row_due p a (2 + condition_terms c)
equal_due p same None (Some b) c = constant_row_due p b (2 + condition_terms c)
equal_due p same None None c = owes (takes_row (cond same 0 2 + condition_terms c) ∷ []) tt

-- where a condition is 1, two numbers differ: told says whether their multiplier has a value
abbrev pub unequal_due : ℕ → Bool → Bool → Option ℕ → Option ℕ → Option Bool → Due (Unit {0})
unequal_due p same told (Some a) (Some b) c = on_due (not (same_constants p a b)) c
unequal_due p same told (Some a) None c = owes (constant_bill p a ++ (takes_variable witness told ∷ (takes_row (3 + condition_terms c) ∷ []))) tt
unequal_due p same told None (Some b) c = owes (constant_bill p b ++ (takes_variable witness told ∷ (takes_row (3 + condition_terms c) ∷ []))) tt
unequal_due p same told None None c = owes (takes_variable witness told ∷ (takes_row (cond same 0 2 + 1 + condition_terms c) ∷ [])) tt

-- whether the multiplier has a value, where q are the numbers of the variables
abbrev pub has_multiplier : ℕ → Val → FpVar → FpVar → Boolean → Bool
has_multiplier p q (Constant a) (Constant b) c = present (apart p (a % p) (b % p) (q (condition c)))
has_multiplier p q (Constant a) (Var b) c = present (apart p (a % p) (q b.variable) (q (condition c)))
has_multiplier p q (Var a) (Constant b) c = present (apart p (b % p) (q a.variable) (q (condition c)))
has_multiplier p q (Var a) (Var b) c = present (apart p (q a.variable) (q b.variable) (q (condition c)))

-- the same in plain words: the condition is 0, or the numbers differ
abbrev pub apart_or_free : ℕ × ℕ × ℕ → Bool
apart_or_free x = cond (x.2 == 0) true (not (x.0 == x.1))
