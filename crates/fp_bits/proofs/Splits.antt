-- What follows new bits of a number.
use Rattle.std.proofs.Common.{◌≡◌, ℕ, ◌-◌, ◌≤◌, List, [], ◌∷◌, ◌++◌, arith}
use Rattle.relations.specs.declared.term.Variable.{Variable}
use Rattle.relations.specs.Script.{Script, answer, row, then}
use Rattle.relations.specs.Terms.{times}
use Rattle.field.specs.Modulus.{bit_length}
use Rattle.boolean.specs.declared.bits.Boolean.{Boolean}
use Rattle.fp.specs.declared.number.AllocatedFp.{AllocatedFp}
use Rattle.fp_var.specs.declared.numbers.FpVar.{FpVar}
use Rattle.fp_var.specs.declared.numbers.FpVar.TheVariants.{Var}
use Rattle.fp_var.specs.Numbers.{sub_script}
use Rattle.gates.specs.Walk.{walk_script}
use Rattle.fp_bits.specs.Digits.{first_weight}
use Rattle.fp_bits.specs.Bits.{weighted, le_bits_script, nothing_left}

-- a prime has at most 32 bits
pub bits_few : (p n : ℕ) → n ≡ bit_length p → n ≤ 64
unfolding bit_length
bits_few p n e = omega arith

-- the row that some bits come to a variable
abbrev pub sum_row : ℕ → Variable → List Boolean → Script (Unit {0})
sum_row p a bs = row [] [] (weighted p (first_weight p) bs ++ (times (p - 1) a ∷ [])) (answer tt)

abbrev pub after_digits : ℕ → Variable → List Boolean → Script (List Boolean)
after_digits p a bs = then (sum_row p a bs) (λ u. answer bs)

-- the bits spell less than the prime
abbrev pub held_below : ℕ → List Boolean → Script (List Boolean)
held_below p bs = then (walk_script p bs (p - 1)) (λ u. answer bs)

-- ---- the lowest bits and the rest
abbrev pub after_rest : ℕ → List Boolean → FpVar → Script (List Boolean × FpVar)
after_rest p bs r = then (nothing_left p r) (λ u. answer (bs, r))

abbrev pub after_low : ℕ → AllocatedFp → List Boolean → FpVar → Script (List Boolean × FpVar)
after_low p a bs x = then (sub_script p (Var a) x) (after_rest p bs)

abbrev pub after_bits : ℕ → AllocatedFp → List Boolean → Script (List Boolean × FpVar)
after_bits p a bs = then (le_bits_script p bs) (after_low p a bs)
