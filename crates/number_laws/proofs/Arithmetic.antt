-- Sums, differences, opposites and doubles of numbers, and bits as numbers: each is a function of its operands.
use Rattle.std.proofs.Common.{◌≡◌, ℕ, ◌+◌, ◌%◌, ◌<◌, ◌≤◌, eqb, [], ◌∷◌, sym, refl, ap, ◌∙◌, arith, true-eqb, mod-eq_of_lt}
use Rattle.arith.specs.Number.{Prime}
use Rattle.relations.specs.declared.term.Variable.{Variable}
use Rattle.relations.specs.declared.term.Variable.TheVariants.{One}
use Rattle.relations.specs.Script.{answer, then}
use Rattle.relations.specs.Terms.{times}
use Rattle.boolean.specs.declared.bits.Boolean.{Boolean}
use Rattle.boolean.specs.declared.bits.Boolean.TheVariants.{Constant as constant_bit, Var as variable_bit}
use Rattle.fp_var.specs.declared.numbers.FpVar.{FpVar}
use Rattle.fp_var.specs.declared.numbers.FpVar.TheVariants.{Constant, Var}
use Rattle.fp_var.specs.Numbers.{named, linear, add_constant, add_script, opposite, negated, negate_script, constant_less, sub_script, double_script, of_bit_script}
use Rattle.laws.specs.Law.{Val, Low, Must}
use Rattle.laws.proofs.Frame.{must_mono, must_if, Function, Pure, pure_if}
use Rattle.bit_laws.specs.Bits.{bit_number_of}
use Rattle.bit_laws.proofs.Fixes.{Fixes, Always, fixes_pure, fixes_function}
use Rattle.bit_laws.proofs.Differences.{gap_is}
use Rattle.number_laws.specs.Numbers.{fp_number_of, pair_fp, Below, BothBelow, sum, difference, negative, twice}
use Rattle.number_laws.proofs.Modulo.{opposite_below, and_opposite, negative_is, nothing_added, constant_added, taken_off_nothing, taken_off}

-- ---- a constant and a variable
add_constant_pure : (p c : ℕ) (v : Variable) → Pure (add_constant p c v)
add_constant_pure p c v = pure_if (eqb (c % p) 0) (answer (named v)) (linear (times 1 v ∷ (times c One ∷ []))) tt (λ x. tt)

constant_less_pure : (p c : ℕ) (v : Variable) → Pure (constant_less p c v)
constant_less_pure p c v = pure_if (eqb (c % p) 0) (negated p v) (then (linear (times 1 v ∷ (times (opposite p c) One ∷ []))) (negate_script p)) (λ x. tt) (λ u x. tt)

module _ (p : ℕ) (P : Prime p) (ρ : Val) (low : Low p ρ) where
  pos : 0 < p
  pos = omega (arith, P.0)

  add_constant_must : (c : ℕ) (v : Variable) → Must p ρ (add_constant p c v) (λ o. fp_number_of ρ o ≡ (ρ v + c) % p)
  add_constant_must c v = must_if p ρ (eqb (c % p) 0) (answer (named v)) (linear (times 1 v ∷ (times c One ∷ []))) (λ o. fp_number_of ρ o ≡ (ρ v + c) % p)
      (λ e. nothing_added p (ρ v) c (low.low v) (true-eqb (c % p) 0 (sym e)))
      (λ e x q. q ∙ constant_added p (ρ v) c (ρ One) pos low.one)

  constant_less_must : (c : ℕ) (v : Variable) → Must p ρ (constant_less p c v) (λ o. fp_number_of ρ o ≡ difference p (c, ρ v))
  constant_less_must c v = must_if p ρ (eqb (c % p) 0) (negated p v) (then (linear (times 1 v ∷ (times (opposite p c) One ∷ []))) (negate_script p)) (λ o. fp_number_of ρ o ≡ difference p (c, ρ v))
      (λ e x q. q ∙ taken_off_nothing p (ρ v) c (low.low v) (true-eqb (c % p) 0 (sym e)))
      (λ e u eu x q. q ∙ taken_off p (ρ v) c (ρ u) (low.low v) (eu ∙ constant_added p (ρ v) (opposite p c) (ρ One) pos low.one))

-- ---- the scripts
module _ (p : ℕ) (P : Prime p) where
  pub add_fixes : (a b : FpVar) → Fixes p (λ ρ. pair_fp ρ (a, b)) fp_number_of (add_script p a b) (BothBelow p) Always (sum p)
  add_fixes (Constant a) (Constant b) = fixes_pure (add_script p (Constant a) (Constant b)) (BothBelow p) (sum p) tt (λ ρ low h. refl)
  add_fixes (Constant a) (Var b) = fixes_pure (add_script p (Constant a) (Var b)) (BothBelow p) (sum p) (add_constant_pure p a b.variable)
      (λ ρ low h. must_mono p ρ (add_constant p a b.variable) (λ o. fp_number_of ρ o ≡ (ρ b.variable + a) % p) (λ o. fp_number_of ρ o ≡ sum p (a, ρ b.variable)) (λ o q. q ∙ ap (λ (t : ℕ). t % p) (omega arith)) (add_constant_must p P ρ low a b.variable))
  add_fixes (Var a) (Constant b) = fixes_pure (add_script p (Var a) (Constant b)) (BothBelow p) (sum p) (add_constant_pure p b a.variable) (λ ρ low h. add_constant_must p P ρ low b a.variable)
  add_fixes (Var a) (Var b) = fixes_pure (add_script p (Var a) (Var b)) (BothBelow p) (sum p) (λ v. tt) (λ ρ low h v q. q ∙ ap (λ (t : ℕ). t % p) (omega arith))

  pub negate_fixes : (a : FpVar) → Fixes p (λ ρ. fp_number_of ρ a) fp_number_of (negate_script p a) (Below p) Always (negative p)
  negate_fixes (Constant a) = fixes_pure (negate_script p (Constant a)) (Below p) (negative p) tt (λ ρ low h. opposite_below p a h)
  negate_fixes (Var a) = fixes_pure (negate_script p (Var a)) (Below p) (negative p) (λ v. tt) (λ ρ low h v q. q ∙ negative_is p (ρ a.variable) h)

  pub sub_fixes : (a b : FpVar) → Fixes p (λ ρ. pair_fp ρ (a, b)) fp_number_of (sub_script p a b) (BothBelow p) Always (difference p)
  sub_fixes (Constant a) (Constant b) = fixes_pure (sub_script p (Constant a) (Constant b)) (BothBelow p) (difference p) tt (λ ρ low h. and_opposite p a b h.1)
  sub_fixes (Constant a) (Var b) = fixes_pure (sub_script p (Constant a) (Var b)) (BothBelow p) (difference p) (constant_less_pure p a b.variable) (λ ρ low h. constant_less_must p P ρ low a b.variable)
  sub_fixes (Var a) (Constant b) = fixes_pure (sub_script p (Var a) (Constant b)) (BothBelow p) (difference p) (add_constant_pure p (opposite p b) a.variable)
      (λ ρ low h. must_mono p ρ (add_constant p (opposite p b) a.variable) (λ o. fp_number_of ρ o ≡ (ρ a.variable + opposite p b) % p) (λ o. fp_number_of ρ o ≡ difference p (ρ a.variable, b)) (λ o q. q ∙ and_opposite p (ρ a.variable) b h.1)
      (add_constant_must p P ρ low (opposite p b) a.variable))
  sub_fixes (Var a) (Var b) = fixes_pure (sub_script p (Var a) (Var b)) (BothBelow p) (difference p) (λ v. tt) (λ ρ low h v q. q ∙ gap_is p (ρ a.variable) (ρ b.variable) (omega (arith, P.0)) h.1)

  pub double_fixes : (a : FpVar) → Fixes p (λ ρ. fp_number_of ρ a) fp_number_of (double_script p a) (Below p) Always (twice p)
  double_fixes (Constant a) = fixes_pure (double_script p (Constant a)) (Below p) (twice p) tt (λ ρ low h. refl)
  double_fixes (Var a) = fixes_pure (double_script p (Var a)) (Below p) (twice p) (λ v. tt) (λ ρ low h v q. q ∙ ap (λ (t : ℕ). t % p) (omega arith))

  -- a bit's number stays what it is
  pub of_bit_fixes : (b : Boolean) → Fixes p (λ ρ. bit_number_of ρ b) fp_number_of (of_bit_script b) (λ x. x ≤ 1) Always (λ x. x)
  of_bit_fixes (constant_bit b) = fixes_pure (of_bit_script (constant_bit b)) (λ x. x ≤ 1) (λ x. x) tt (λ ρ low h. refl)
  of_bit_fixes (variable_bit a) = fixes_pure (of_bit_script (variable_bit a)) (λ x. x ≤ 1) (λ x. x) (λ v. tt) (λ ρ low h v q. q ∙ ap (λ (t : ℕ). t % p) (omega arith) ∙ mod-eq_of_lt (low.low a.variable))

  -- ---- as functions
  pub add_function : Function p pair_fp fp_number_of (λ i. add_script p i.0 i.1) (BothBelow p) (sum p)
  add_function = fixes_function (λ i. add_fixes i.0 i.1)

  pub sub_function : Function p pair_fp fp_number_of (λ i. sub_script p i.0 i.1) (BothBelow p) (difference p)
  sub_function = fixes_function (λ i. sub_fixes i.0 i.1)

  pub negate_function : Function p fp_number_of fp_number_of (negate_script p) (Below p) (negative p)
  negate_function = fixes_function negate_fixes

  pub double_function : Function p fp_number_of fp_number_of (double_script p) (Below p) (twice p)
  double_function = fixes_function double_fixes

  pub of_bit_function : Function p bit_number_of fp_number_of of_bit_script (λ x. x ≤ 1) (λ x. x)
  of_bit_function = fixes_function of_bit_fixes
