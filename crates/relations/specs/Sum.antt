-- Sums of terms, whatever the order in which they are written.
use Rattle.std.specs.Prelude.{ℕ, ◌+◌, ◌*◌, ◌/◌, ◌%◌, Bool, true, false, cond, ◌&&◌, List, [], ◌∷◌, length, ◌==◌, nat_lt}
use Rattle.relations.specs.declared.term.Variable.{Variable}
use Rattle.relations.specs.declared.term.Variable.TheVariants.{One, Zero, Input, Witness, Combination}
use Rattle.relations.specs.declared.term.Term.{Term}

-- a variable as a number: three bits of tag and an index. The tag 4 is left for headings
abbrev pub code : Variable → ℕ
code One = 0
code Zero = 5
code (Input i) = 8 * i + 1
code (Witness i) = 8 * i + 2
code (Combination c) = 8 * c + 3

-- the variable with a code
abbrev pub decode : ℕ → Variable
decode c = cond (c % 8 == 1) (Input (c / 8)) (cond (c % 8 == 2) (Witness (c / 8)) (cond (c % 8 == 3) (Combination (c / 8)) One))

-- what a coefficient counts: nothing at the variable zero
abbrev pub counted : Variable → ℕ → ℕ
counted One k = k
counted Zero k = 0
counted (Input i) k = k
counted (Witness i) k = k
counted (Combination c) k = k

-- codes of variables, each with a coefficient
abbrev pub Pairs : Type 0
Pairs = List (ℕ × ℕ)

-- the terms that a caller hands in
abbrev pub handed : List Term → Pairs
handed [] = []
handed (t ∷ ts) = (code t.variable, counted t.variable t.coefficient) ∷ handed ts

-- the coefficients of the variable with the code c, summed modulo p onto a
abbrev pub total : ℕ → ℕ → Pairs → ℕ → ℕ
total p a [] c = a
total p a (t ∷ ts) c = total p (cond (t.0 == c) ((a + t.1) % p) a) ts c

-- whether a term names the variable with the code c
abbrev pub named : ℕ → Pairs → Bool
named c [] = false
named c (t ∷ ts) = cond (t.0 == c) true (named c ts)

-- what a term of c counts where the terms ts follow it: the whole coefficient of c in all, if it is the last to name c, and else nothing
abbrev pub weight : ℕ → Pairs → ℕ → Pairs → ℕ
weight p all c ts = cond (named c ts) 0 (total p 0 all c)

-- the different variables of the terms ts of all with their whole coefficients, where those are not zero: one term for each, in the place of the last that names it
abbrev pub merged : ℕ → Pairs → Pairs → Pairs
merged p all [] = []
merged p all (t ∷ ts) = cond (weight p all t.0 ts == 0) (merged p all ts) ((t.0, weight p all t.0 ts) ∷ merged p all ts)

-- whether the variable with the code c is a constant, or among the first i inputs, the first w witnesses and the combinations with a heading below e
abbrev pub code_in : ℕ → ℕ → ℕ → ℕ → Bool
code_in i w e c = cond (c % 8 == 1) (nat_lt (c / 8) i) (cond (c % 8 == 2) (nat_lt (c / 8) w) (cond (c % 8 == 3) (nat_lt (c / 8) e) true))

abbrev pub all_in : ℕ → ℕ → ℕ → Pairs → Bool
all_in i w e [] = true
all_in i w e (t ∷ ts) = code_in i w e t.0 && all_in i w e ts

-- the value modulo p where the variable with the code c has the number a c
abbrev pub value : ℕ → (ℕ → ℕ) → Pairs → ℕ
value p a [] = 0
value p a (t ∷ ts) = (t.1 * a t.0 + value p a ts) % p

-- a sum, whatever the order of its terms: its value modulo p for all numbers of the variables, the coefficient of each variable,
-- how many of these are not zero, and whether the variables with a nonzero coefficient are among the first inputs, witnesses and places
pub record Sum : Type 0 where
  pub value : (Variable → ℕ) → ℕ
  pub at : Variable → ℕ
  pub size : ℕ
  pub within : ℕ → ℕ → ℕ → Bool

-- the sum that handed terms mean
abbrev pub sum_of : ℕ → List Term → Sum
sum_of p ts = record {
  value = λ a. value p (λ c. a (decode c)) (handed ts);
  at = λ v. total p 0 (handed ts) (code v);
  size = length (merged p (handed ts) (handed ts));
  within = λ i w e. all_in i w e (merged p (handed ts) (handed ts));
}

-- a row: it is met where the product of the values of a and b is the value of c modulo p
pub record Row : Type 0 where
  pub a : Sum
  pub b : Sum
  pub c : Sum

abbrev pub row_of : ℕ → List Term → List Term → List Term → Row
row_of p a b c = record { a = sum_of p a; b = sum_of p b; c = sum_of p c }
