-- What the calls on numbers' bits and on comparison ask of a system, by which of their operands are constants, and which are one variable.
use Rattle.std.specs.Prelude.{ℕ, zero, suc, ◌+◌, ◌-◌, ◌*◌, ◌%◌, ◌^◌, Bool, true, false, cond, List, [], ◌∷◌, ◌++◌, map, length, replicate, Some, None, Option, ◌==◌, nat_le, nat_lt, slice_index_or}
use Rattle.std.specs.declared.cmp.Ordering.{Ordering}
use Rattle.std.specs.declared.cmp.Ordering.TheVariants.{Less, Equal, Greater}
use Rattle.field.specs.Modulus.{bit_length as prime_bits, half_of}
use Rattle.relations.specs.declared.fault.GadgetFault.TheVariants.{Unsatisfiable}
use Rattle.relations.specs.declared.term.Side.TheVariants.{Witness as witness}
use Rattle.allocated.specs.Gates.{bit}
use Rattle.fp_bits.specs.Digits.{digits, number_of_digits, heavier, first_weight}
use Rattle.fp_cmp.specs.Compare.{ordered}
use Rattle.laws.specs.Bill.{Charge, takes_variable, takes_combination, takes_row}
use Rattle.bit_laws.specs.Bills.{Due, owes, quits, due_then, not_due, all_known, values_of, variables, walk_due}
use Rattle.number_laws.specs.Bills.{add_constant_due, sub_due, double_due, constant_is_due, holding_due, condition_terms}

-- ---- bits from a number. In place of the operand its shadow: the value of a constant
-- k new bits: for each a witness and its row
abbrev pub new_bits_bill : ℕ → List Charge
new_bits_bill zero = []
new_bits_bill (suc k) = takes_variable witness true ∷ (takes_row 3 ∷ new_bits_bill k)

-- as many new bits as the prime has, and the row of all of them and the number
abbrev pub split_due : ℕ → Due (List (Option Bool))
split_due p = owes (new_bits_bill (prime_bits p) ++ (takes_row (prime_bits p + 1) ∷ [])) (replicate (prime_bits p) None)

-- the digits of a constant
abbrev pub constant_bits_due : ℕ → ℕ → Due (List (Option Bool))
constant_bits_due k x = owes [] (map Some (digits k x))

-- bits that spell a number modulo p
abbrev pub to_non_unique_bits_due : ℕ → Option ℕ → Due (List (Option Bool))
to_non_unique_bits_due p (Some c) = constant_bits_due (prime_bits p) (c % p)
to_non_unique_bits_due p None = split_due p

-- bits that spell the number: the walk comes after
abbrev pub to_bits_due : ℕ → Option ℕ → Due (List (Option Bool))
to_bits_due p (Some c) = constant_bits_due (prime_bits p) (c % p)
to_bits_due p None = due_then (split_due p) (λ os. due_then (walk_due p os (p - 1)) (λ u. owes [] os))

-- ---- a number from bits, in place of each its shadow
-- a variable that weighs w: nothing where that is 1, else a combination
abbrev pub weight_bill : ℕ → ℕ → List Charge
weight_bill p w = cond (w % p == 1) [] (takes_combination 1 ∷ [])

-- each variable as a combination, times its weight
abbrev pub weighed_bill : ℕ → ℕ → List (Option Bool) → List Charge
weighed_bill p w [] = []
weighed_bill p w (Some b ∷ os) = weighed_bill p (heavier p w) os
weighed_bill p w (None ∷ os) = takes_combination 1 ∷ (weight_bill p w ++ weighed_bill p (heavier p w) os)

-- what the constants come to, where the first bit weighs w
abbrev pub known_weight : ℕ → ℕ → List (Option Bool) → ℕ
known_weight p w [] = 0
known_weight p w (Some b ∷ os) = (bit b * w + known_weight p (heavier p w) os) % p
known_weight p w (None ∷ os) = known_weight p (heavier p w) os

-- the sum of the variables, and of what the constants come to unless that is 0
abbrev pub gathered_due : ℕ → List (Option Bool) → Due (Option ℕ)
gathered_due p os = due_then (owes (weighed_bill p (first_weight p) os) (tt {0})) (λ u. due_then (owes (takes_combination (variables os) ∷ []) (tt {0})) (λ v. add_constant_due p (known_weight p (first_weight p) os)))

-- the walk of bits that are as many as the prime has
abbrev pub below_due : ℕ → List (Option Bool) → Due (Unit {0})
below_due p os = cond (nat_le (prime_bits p) (length os)) (walk_due p os (p - 1)) (owes [] tt)

-- constants fold
abbrev pub le_bits_due : ℕ → List (Option Bool) → Due (Option ℕ)
le_bits_due p os = cond (all_known os) (owes [] (Some (number_of_digits (values_of os) % p))) (due_then (gathered_due p os) (λ y. due_then (below_due p os) (λ u. owes [] y)))

-- ---- the lowest k bits of a number, and what is left, which is 0
abbrev pub top_bits_zero_due : ℕ → ℕ → Option ℕ → Due (List (Option Bool) × Option ℕ)
top_bits_zero_due p k (Some c) = cond (nat_lt (c % p) (2 ^ k)) (owes [] (map Some (digits k (c % p)), Some 0)) (quits Unsatisfiable)
top_bits_zero_due p k None =
    due_then (owes (new_bits_bill k) (replicate k None)) (λ os. due_then (le_bits_due p os) (λ x. due_then (sub_due p false None x) (λ r. due_then (constant_is_due p 0 r) (λ u. owes [] (os, r)))))

-- ---- comparison: same says whether the two numbers are one variable
-- a number is at most half of the prime
abbrev pub half_due : ℕ → Option ℕ → Due (Unit {0})
half_due p x = due_then (to_non_unique_bits_due p x) (λ os. walk_due p os (half_of p))

-- the lowest bit of twice the difference
abbrev pub lowest_due : ℕ → Bool → Option ℕ → Option ℕ → Due (Option Bool)
lowest_due p same x y = due_then (sub_due p same x y) (λ d. due_then (double_due p d) (λ e. due_then (to_bits_due p e) (λ os. owes [] (slice_index_or os 0 (Some false)))))

abbrev pub smaller_due : ℕ → Bool → Bool → Option ℕ → Option ℕ → Due (Option Bool)
smaller_due p false same x y = lowest_due p same x y
smaller_due p true same x y = due_then (lowest_due p same y x) not_due

abbrev pub compared_due : ℕ → Bool → Bool → Option ℕ → Option ℕ → Due (Option Bool)
compared_due p flag same x y = due_then (half_due p x) (λ u. due_then (half_due p y) (λ v. smaller_due p flag same x y))

-- the order equal is refused
abbrev pub is_cmp_due : ℕ → Ordering → Bool → Bool → Option ℕ → Option ℕ → Due (Option Bool)
is_cmp_due p Less flag same x y = compared_due p flag same x y
is_cmp_due p Equal flag same x y = quits Unsatisfiable
is_cmp_due p Greater flag same x y = compared_due p flag same y x

-- the row that says that an answer is 1
abbrev pub true_due : Option Bool → Due (Unit {0})
true_due c = owes (takes_row (condition_terms c + 2) ∷ []) tt

-- as a statement: constants fold
abbrev pub forced_due : ℕ → Bool → Bool → Option ℕ → Option ℕ → Due (Unit {0})
forced_due p flag same (Some x) (Some y) = holding_due (ordered p flag x y)
forced_due p flag same (Some x) None = due_then (compared_due p flag same (Some x) None) true_due
forced_due p flag same None y = due_then (compared_due p flag same None y) true_due

abbrev pub enforce_cmp_due : ℕ → Ordering → Bool → Bool → Option ℕ → Option ℕ → Due (Unit {0})
enforce_cmp_due p Less flag same x y = forced_due p flag same x y
enforce_cmp_due p Equal flag same x y = quits Unsatisfiable
enforce_cmp_due p Greater flag same x y = forced_due p flag same y x
