-- Whether two numbers are equal, as a bit.
use Rattle.std.proofs.Common.{◌≡◌, ℕ, ◌%◌, ◌<◌, Bool, true, false, not, eqb, sym, refl, ap, ap₂, mod-eq_of_lt, true-eqb, false-eqb, eq-eqb, ne_eqb}
use Rattle.arith.specs.Number.{Prime}
use Rattle.relations.specs.declared.term.Variable.{Variable}
use Rattle.relations.specs.Script.{Script}
use Rattle.allocated.specs.declared.allocated.AllocatedBool.{AllocatedBool}
use Rattle.allocated.specs.Gates.{bit}
use Rattle.boolean.specs.declared.bits.Boolean.{Boolean}
use Rattle.boolean.specs.declared.bits.Boolean.TheVariants.{Constant as constant_bit, Var as variable_bit}
use Rattle.boolean.specs.Booleans.{as_var}
use Rattle.fp.specs.Equality.{is_eq_script as same_script, is_neq_script as differ_script}
use Rattle.fp_var.specs.declared.numbers.FpVar.{FpVar}
use Rattle.fp_var.specs.declared.numbers.FpVar.TheVariants.{Constant, Var}
use Rattle.fp_var.specs.Numbers.{same_constants, beside, is_eq_script, is_neq_script}
use Rattle.laws.specs.Law.{Val}
use Rattle.laws.proofs.Frame.{Function}
use Rattle.bit_laws.specs.Bits.{bit_number_of, equality, inequality}
use Rattle.bit_laws.proofs.Fixes.{Fixes, Always, fixes_next, fixes_then, fixes_on, fixes_is, fixes_answer, fixes_function}
use Rattle.bit_laws.proofs.Differences.{numbers, allocated_number, is_eq_fixes as same_fixes, is_neq_fixes as differ_fixes}
use Rattle.number_laws.specs.Numbers.{pair_fp, BothBelow}
use Rattle.number_laws.proofs.Shapes.{number_at, constant_fixes}

-- ---- tests of numbers
-- the order does not matter
pub same_either : (x y : ℕ) → eqb x y ≡ eqb y x
same_either x y = go (eqb y x) refl
  where
    go : (t : Bool) → eqb y x ≡ t → eqb x y ≡ t
    go true e = eq-eqb x y (sym (true-eqb y x (sym e)))
    go false e = ne_eqb x y (λ q. false-eqb y x (sym e) (sym q))

-- constants below p are equal modulo p where they are equal
pub same_below : (p a b : ℕ) → a < p → b < p → same_constants p a b ≡ eqb a b
same_below p a b la lb = ap₂ eqb (mod-eq_of_lt la) (mod-eq_of_lt lb)

-- ---- the answer of a test of variables as a bit
as_bit : {p : ℕ} {X : Type 0} {at : Val → X} {s : Script AllocatedBool} {P : X → Type 0} {e : X → ℕ} → Fixes p at allocated_number s P Always e → Fixes p at bit_number_of (as_var s) P Always e
as_bit {p} {X} {at} {s} {P} {e} a =
    fixes_is P e (λ x h. h) (λ x h. (tt, tt)) (λ x h. refl)
    (fixes_next {e₂ = λ (y : ℕ). y} a (λ m. fixes_answer {at = λ ρ. allocated_number ρ m} (variable_bit m) (λ y. Unit {0}) Always (λ y. y) (λ ρ low h. (tt, refl))) (λ x h r. tt))

-- a test t of a constant c, as a combination, and a variable. f takes the variable's number from those of the operands at, g the constant's
beside_fixes : {p : ℕ} {X : Type 0} {at : Val → X} (c : ℕ) (v : Variable) (k : Variable → Variable → Script Boolean) (P : X → Type 0) (f g : X → ℕ) (t : ℕ × ℕ → ℕ)
    → ((ρ : Val) → P (at ρ) → c % p ≡ g (at ρ)) → ((ρ : Val) → ρ v ≡ f (at ρ)) → ((x : Variable) → Fixes p (λ ρ. numbers ρ (x, v)) bit_number_of (k x v) Always Always t)
    → Fixes p at bit_number_of (beside c v k) P Always (λ x. t (g x, f x))
beside_fixes {p} {X} {at} c v k P f g t constant variable a =
    fixes_is P (λ x. t (g x, f x)) (λ x h. h) (λ x h. (tt, tt)) (λ x h. refl)
    (fixes_then {P₂ = Always} {R₂ = Always} {e₂ = λ (q : X × ℕ). t (q.1, f q.0)} (constant_fixes c P g (λ ρ low h. constant ρ h))
    (λ x. fixes_on (λ ρ. (at ρ, number_at ρ x)) (λ q. (q.1, f q.0)) (λ ρ low i. (ρ x, variable ρ i)) (a x)) (λ x h r. tt))

module _ (p : ℕ) (P : Prime p) where
  -- two variables
  same_variables : (x y : Variable) → Fixes p (λ ρ. numbers ρ (x, y)) bit_number_of (as_var (same_script p x y)) Always Always equality
  same_variables x y = as_bit (same_fixes p P x y)

  other_variables : (x y : Variable) → Fixes p (λ ρ. numbers ρ (x, y)) bit_number_of (as_var (differ_script p x y)) Always Always inequality
  other_variables x y = as_bit (differ_fixes p P x y)

  pub is_eq_fixes : (a b : FpVar) → Fixes p (λ ρ. pair_fp ρ (a, b)) bit_number_of (is_eq_script p a b) (BothBelow p) Always equality
  is_eq_fixes (Constant a) (Constant b) = fixes_answer (constant_bit (same_constants p a b)) (BothBelow p) Always equality (λ ρ low h. (tt, ap bit (same_below p a b h.0 h.1)))
  is_eq_fixes (Constant a) (Var b) = beside_fixes a b.variable (λ x y. as_var (same_script p x y)) (BothBelow p) (λ x. x.1) (λ x. x.0) equality (λ ρ h. mod-eq_of_lt h.0) (λ ρ. refl) (λ x. same_variables x b.variable)
  is_eq_fixes (Var a) (Constant b) =
      fixes_is (BothBelow p) equality (λ x h. h) (λ x h. tt) (λ x h. ap bit (same_either x.1 x.0))
      (beside_fixes b a.variable (λ x y. as_var (same_script p x y)) (BothBelow p) (λ x. x.0) (λ x. x.1) equality (λ ρ h. mod-eq_of_lt h.1) (λ ρ. refl) (λ x. same_variables x a.variable))
  is_eq_fixes (Var a) (Var b) = fixes_is (BothBelow p) equality (λ x h. tt) (λ x h. tt) (λ x h. refl) (same_variables a.variable b.variable)

  pub is_neq_fixes : (a b : FpVar) → Fixes p (λ ρ. pair_fp ρ (a, b)) bit_number_of (is_neq_script p a b) (BothBelow p) Always inequality
  is_neq_fixes (Constant a) (Constant b) = fixes_answer (constant_bit (not (same_constants p a b))) (BothBelow p) Always inequality (λ ρ low h. (tt, ap (λ (t : Bool). bit (not t)) (same_below p a b h.0 h.1)))
  is_neq_fixes (Constant a) (Var b) = beside_fixes a b.variable (λ x y. as_var (differ_script p x y)) (BothBelow p) (λ x. x.1) (λ x. x.0) inequality (λ ρ h. mod-eq_of_lt h.0) (λ ρ. refl) (λ x. other_variables x b.variable)
  is_neq_fixes (Var a) (Constant b) =
      fixes_is (BothBelow p) inequality (λ x h. h) (λ x h. tt) (λ x h. ap (λ (t : Bool). bit (not t)) (same_either x.1 x.0))
      (beside_fixes b a.variable (λ x y. as_var (differ_script p x y)) (BothBelow p) (λ x. x.0) (λ x. x.1) inequality (λ ρ h. mod-eq_of_lt h.1) (λ ρ. refl) (λ x. other_variables x a.variable))
  is_neq_fixes (Var a) (Var b) = fixes_is (BothBelow p) inequality (λ x h. tt) (λ x h. tt) (λ x h. refl) (other_variables a.variable b.variable)

  pub is_eq_function : Function p pair_fp bit_number_of (λ i. is_eq_script p i.0 i.1) (BothBelow p) equality
  is_eq_function = fixes_function (λ i. is_eq_fixes i.0 i.1)

  pub is_neq_function : Function p pair_fp bit_number_of (λ i. is_neq_script p i.0 i.1) (BothBelow p) inequality
  is_neq_function = fixes_function (λ i. is_neq_fixes i.0 i.1)
