-- Numbers from bits and bits from numbers, and what that asks of a system.
use Rattle.std.specs.Prelude.{ℕ, zero, suc, ◌+◌, ◌-◌, ◌/◌, ◌%◌, ◌^◌, cond, List, [], ◌∷◌, ◌++◌, length, Some, None, Option, nat_le, nat_lt}
use Rattle.relations.specs.declared.term.Variable.{Variable}
use Rattle.relations.specs.declared.term.Term.{Term}
use Rattle.relations.specs.declared.fault.GadgetFault.TheVariants.{Unsatisfiable}
use Rattle.relations.specs.declared.term.Side.TheVariants.{Witness as witness}
use Rattle.relations.specs.Script.{Script, answer, refuse, allocate, combine, row, then}
use Rattle.relations.specs.Terms.{times, just}
use Rattle.field.specs.Modulus.{bit_length as prime_bits}
use Rattle.allocated.specs.Gates.{booleanity}
use Rattle.boolean.specs.declared.bits.Boolean.{Boolean}
use Rattle.boolean.specs.declared.bits.Boolean.TheVariants.{Constant as constant_bit, Var as variable_bit}
use Rattle.fp_var.specs.declared.numbers.FpVar.{FpVar}
use Rattle.fp_var.specs.declared.numbers.FpVar.TheVariants.{Constant, Var}
use Rattle.fp_var.specs.Numbers.{copied, scaled, add_constant, sub_script, constant_is}
use Rattle.gates.specs.Kary.{all_constant, told_all}
use Rattle.gates.specs.Walk.{walk_script}
use Rattle.fp_bits.specs.Digits.{number_of_digits, constant_bits, heavier, constants_weight, first_weight}

-- ---- a number from bits
-- each variable bit as a combination, times its weight, where the first bit weighs w: a combination more unless the weight is 1
abbrev pub weighed : ℕ → ℕ → List Boolean → List Term → Script (List Term)
weighed p w [] ts = answer ts
weighed p w (constant_bit b ∷ bs) ts = weighed p (heavier p w) bs ts
weighed p w (variable_bit a ∷ bs) ts = then (copied a.variable) (λ x. then (scaled p w x) (λ y. weighed p (heavier p w) bs (ts ++ just y)))

-- the sum of the weighed bits, and of what the constants come to unless that is 0
abbrev pub gathered : ℕ → List Boolean → Script FpVar
gathered p bs = then (weighed p (first_weight p) bs []) (λ ts. combine ts (λ s. add_constant p (constants_weight p (first_weight p) bs) s))

-- bits that are as many as the prime has spell at most p - 1
abbrev pub below_prime : ℕ → List Boolean → Script (Unit {0})
below_prime p bs = cond (nat_le (prime_bits p) (length bs)) (walk_script p bs (p - 1)) (answer tt)

-- the number that bits spell: constants fold
abbrev pub le_bits_script : ℕ → List Boolean → Script FpVar
le_bits_script p bs = cond (all_constant bs) (answer (Constant (number_of_digits (told_all bs) % p))) (then (gathered p bs) (λ s. then (below_prime p bs) (λ u. answer s)))

-- ---- bits from a number
-- digit i of a value
abbrev pub digit_of : ℕ → List (Option ℕ) → Option ℕ
digit_of i [] = None
digit_of i (None ∷ os) = None
digit_of i (Some x ∷ os) = Some ((x / 2 ^ i) % 2)

-- k new bits with the digits of the value of a variable, from place i on
abbrev pub new_digits : ℕ → Variable → ℕ → ℕ → Script (List Boolean)
new_digits p a i zero = answer []
new_digits p a i (suc k) = allocate witness (a ∷ []) (digit_of i) (λ w. then (booleanity p w) (λ b. then (new_digits p a (i + 1) k) (λ bs. answer (variable_bit b ∷ bs))))

-- the bits' variables times their weights, where the first weighs w
abbrev pub weighted : ℕ → ℕ → List Boolean → List Term
weighted p w [] = []
weighted p w (constant_bit b ∷ bs) = weighted p (heavier p w) bs
weighted p w (variable_bit a ∷ bs) = times w a.variable ∷ weighted p (heavier p w) bs

-- as many new bits as the prime has, with the row 0 * 0 = their weighted sum less the variable
abbrev pub split_script : ℕ → Variable → Script (List Boolean)
split_script p a = then (new_digits p a 0 (prime_bits p)) (λ bs. row [] [] (weighted p (first_weight p) bs ++ (times (p - 1) a ∷ [])) (answer bs))

-- bits that spell a number or the number plus p
abbrev pub to_non_unique_bits_script : ℕ → FpVar → Script (List Boolean)
to_non_unique_bits_script p (Constant c) = answer (constant_bits (prime_bits p) (c % p))
to_non_unique_bits_script p (Var a) = split_script p a.variable

-- and bits that spell the number itself: at most p - 1
abbrev pub to_bits_script : ℕ → FpVar → Script (List Boolean)
to_bits_script p (Constant c) = answer (constant_bits (prime_bits p) (c % p))
to_bits_script p (Var a) = then (split_script p a.variable) (λ bs. then (walk_script p bs (p - 1)) (λ u. answer bs))

-- ---- the lowest k bits of a number whose other bits are 0
-- what is left of a number without its bits is 0
abbrev pub nothing_left : ℕ → FpVar → Script (Unit {0})
nothing_left p r = constant_is p 0 r

-- k bits, and what is left, which is 0: a constant that does not fit is refused
abbrev pub top_bits_zero_script : ℕ → ℕ → FpVar → Script (List Boolean × FpVar)
top_bits_zero_script p k (Constant c) = cond (nat_lt (c % p) (2 ^ k)) (answer (constant_bits k (c % p), Constant 0)) (refuse Unsatisfiable)
top_bits_zero_script p k (Var a) =
    then (new_digits p a.variable 0 k) (λ bs.
    then (le_bits_script p bs) (λ x.
    then (sub_script p (Var a) x) (λ r.
    then (nothing_left p r) (λ u. answer (bs, r)))))
