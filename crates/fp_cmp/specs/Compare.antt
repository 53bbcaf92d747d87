-- Comparing two numbers that are at most half of the prime.
use Rattle.std.specs.Prelude.{ℕ, ◌%◌, Bool, true, false, ◌&&◌, nat_le, nat_lt}
use Rattle.relations.specs.declared.term.Variable.TheVariants.{One}
use Rattle.relations.specs.declared.fault.GadgetFault.TheVariants.{Unsatisfiable}
use Rattle.relations.specs.Script.{Script, answer, refuse, row, then}
use Rattle.relations.specs.Terms.{just}
use Rattle.field.specs.Modulus.{half_of}
use Rattle.boolean.specs.declared.bits.Boolean.{Boolean}
use Rattle.boolean.specs.Booleans.{bit_terms, not_script}
use Rattle.fp_var.specs.declared.numbers.FpVar.{FpVar}
use Rattle.fp_var.specs.declared.numbers.FpVar.TheVariants.{Constant, Var}
use Rattle.fp_var.specs.Numbers.{sub_script, double_script, holding}
use Rattle.gates.specs.Walk.{walk_script, place}
use Rattle.std.specs.declared.cmp.Ordering.{Ordering}
use Rattle.std.specs.declared.cmp.Ordering.TheVariants.{Less, Equal, Greater}
use Rattle.fp_bits.specs.Bits.{to_non_unique_bits_script, to_bits_script}

-- a number is at most half of the prime
abbrev pub at_most_half : ℕ → FpVar → Script (Unit {0})
at_most_half p x = then (to_non_unique_bits_script p x) (λ bs. walk_script p bs (half_of p))

-- the lowest bit of twice the difference x - y: of two numbers at most half of the prime it is 1 where x is the smaller
abbrev pub lowest_of_double : ℕ → FpVar → FpVar → Script Boolean
lowest_of_double p x y = then (sub_script p x y) (λ d. then (double_script p d) (λ e. then (to_bits_script p e) (λ bs. answer (place bs 0))))

-- whether x is smaller than y, or, with the flag, not greater: that y is not smaller than x
abbrev pub smaller : ℕ → Bool → FpVar → FpVar → Script Boolean
smaller p false x y = lowest_of_double p x y
smaller p true x y = then (lowest_of_double p y x) (not_script p)

-- both are at most half of the prime, the left one first
abbrev pub compared : ℕ → Bool → FpVar → FpVar → Script Boolean
compared p flag x y = then (at_most_half p x) (λ u. then (at_most_half p y) (λ v. smaller p flag x y))

-- less keeps the sides, greater swaps them, and equal is refused
abbrev pub is_cmp_script : ℕ → Ordering → Bool → FpVar → FpVar → Script Boolean
is_cmp_script p Less flag a b = compared p flag a b
is_cmp_script p Equal flag a b = refuse Unsatisfiable
is_cmp_script p Greater flag a b = compared p flag b a

-- whether two constants are at most half of the prime and the left one is smaller, or, with the flag, not greater
abbrev pub ordered : ℕ → Bool → ℕ → ℕ → Bool
ordered p false x y = nat_le (x % p) (half_of p) && (nat_le (y % p) (half_of p) && nat_lt (x % p) (y % p))
ordered p true x y = nat_le (x % p) (half_of p) && (nat_le (y % p) (half_of p) && nat_le (x % p) (y % p))

-- the comparison is true
abbrev pub forced : ℕ → Bool → FpVar → FpVar → Script (Unit {0})
forced p flag (Constant x) (Constant y) = holding (ordered p flag x y)
forced p flag (Constant x) (Var y) = then (compared p flag (Constant x) (Var y)) (λ b. row (bit_terms b) (just One) (just One) (answer tt))
forced p flag (Var x) y = then (compared p flag (Var x) y) (λ b. row (bit_terms b) (just One) (just One) (answer tt))

abbrev pub enforce_cmp_script : ℕ → Ordering → Bool → FpVar → FpVar → Script (Unit {0})
enforce_cmp_script p Less flag a b = forced p flag a b
enforce_cmp_script p Equal flag a b = refuse Unsatisfiable
enforce_cmp_script p Greater flag a b = forced p flag b a
