-- The scripts of the calls that answer a number or a bit, in order: all that they name is there, and the values that they give are below p, and are there or not whatever was asked for.
use Rattle.std.proofs.Common.{◌≡◌, ℕ, ◌+◌, ◌-◌, ◌*◌, ◌%◌, ◌<◌, Bool, true, false, cond, not, eqb, List, [], ◌∷◌, Some, None, Option, refl, arith, mod-lt}
use Rattle.relations.specs.declared.term.Variable.{Variable}
use Rattle.relations.specs.declared.term.Variable.TheVariants.{One}
use Rattle.relations.specs.declared.term.Term.{Term}
use Rattle.relations.specs.declared.fault.GadgetFault.TheVariants.{NoValue}
use Rattle.relations.specs.Script.{Script, then}
use Rattle.relations.specs.Terms.{times, just, less}
use Rattle.allocated.specs.declared.allocated.AllocatedBool.{AllocatedBool}
use Rattle.allocated.specs.Gates.{truth, not_allocated}
use Rattle.boolean.specs.declared.mode.AllocationMode.{AllocationMode}
use Rattle.boolean.specs.declared.mode.AllocationMode.TheVariants.{Constant as as_constant, Input as as_input, Witness as as_witness}
use Rattle.boolean.specs.declared.bits.Boolean.{Boolean}
use Rattle.boolean.specs.declared.bits.Boolean.TheVariants.{Constant as constant_bit, Var as variable_bit}
use Rattle.boolean.specs.Booleans.{as_var}
use Rattle.fp.specs.Equality.{inverse, is_eq_script as same_script, is_neq_script as differ_script}
use Rattle.fp_var.specs.declared.numbers.FpVar.{FpVar}
use Rattle.fp_var.specs.declared.numbers.FpVar.TheVariants.{Constant, Var}
use Rattle.fp_var.specs.Numbers.{named, linear, constant_lc, reduced, alloc_script, add_constant, add_script, opposite, negated, negate_script, constant_less, sub_script, double_script, product, scaled, mul_constant, mul_script, inverse_script, of_bit_script, same_constants, beside, is_eq_script, is_neq_script, copied, choice_of, choice_of_constants, select_script}
use Rattle.laws.specs.Law.{There, Constants, Wider, TermsThere, Below as BelowIfThere, Orderly}
use Rattle.bit_laws.specs.Bits.{ThereBit}
use Rattle.bit_laws.proofs.Fixes.{Neat, Stays, neat_then, neat_next, neat_on, neat_if, neat_answer, neat_refuse, neat_orderly, neat_combine}
use Rattle.bit_laws.proofs.Differences.{seek_below, Both, ThereAllocated, allocated_not_neat, is_eq_neat as same_neat, is_neq_neat as differ_neat}
use Rattle.number_laws.specs.Numbers.{ThereFp, TherePair, ThereChoice}

-- ---- what is there stays there
pub fp_wider : (h k : There) → Wider h k → (a : FpVar) → ThereFp h a → ThereFp k a
fp_wider h k up (Constant c) t = tt
fp_wider h k up (Var a) t = up a.variable t

-- a variable is there
abbrev pub Has : Variable → There → Type 0
Has v h = h v ≡ true

module _ (p : ℕ) where
  -- ---- parts
  linear_neat : (ts : List Term) (KI : There → Type 0) → ((h : There) → Constants h → KI h → TermsThere h ts) → Neat p (linear ts) KI ThereFp
  linear_neat ts KI f = record { sees = λ h z k. (f h z k, λ h₁ up v hv. hv); tidy = λ v. tt; steady = λ v. tt }

  pub constant_neat : (c : ℕ) (KI : There → Type 0) → Neat p (constant_lc c) KI (λ h v. Has v h)
  constant_neat c KI = neat_combine (times c One ∷ []) KI (λ h z k. (z.one, tt))

  pub scaled_neat : (c : ℕ) (v : Variable) → Neat p (scaled p c v) (Has v) (λ h v. Has v h)
  scaled_neat c v = neat_if (eqb (c % p) 1) (neat_answer v (Has v) (λ h v. Has v h) (λ h k. k)) (neat_combine (times c v ∷ []) (Has v) (λ h z k. (k, tt)))

  -- a constant's combination stands first
  pub beside_neat : {Out : Type 0} {KO : There → Out → Type 0} (c : ℕ) (v : Variable) (k : Variable → Variable → Script Out) (KI : There → Type 0) → Stays KI → ((x : Variable) → Neat p (k x v) (λ h. KI h × Has x h) KO) → Neat p (beside c v k) KI KO
  beside_neat c v k KI stay a = neat_then stay (constant_neat c KI) a

  -- ---- sums
  add_constant_neat : (c : ℕ) (v : Variable) → Neat p (add_constant p c v) (Has v) ThereFp
  add_constant_neat c v = neat_if (eqb (c % p) 0) (neat_answer (named v) (Has v) ThereFp (λ h k. k)) (linear_neat (times 1 v ∷ (times c One ∷ [])) (Has v) (λ h z k. (k, (z.one, tt))))

  pub add_neat : (a b : FpVar) → Neat p (add_script p a b) (λ h. TherePair h (a, b)) ThereFp
  add_neat (Constant a) (Constant b) = neat_answer (Constant ((a + b) % p)) (λ h. TherePair h (Constant a, Constant b)) ThereFp (λ h k. tt)
  add_neat (Constant a) (Var b) = neat_on (λ h. TherePair h (Constant a, Var b)) (λ h k. k.1) (add_constant_neat a b.variable)
  add_neat (Var a) (Constant b) = neat_on (λ h. TherePair h (Var a, Constant b)) (λ h k. k.0) (add_constant_neat b a.variable)
  add_neat (Var a) (Var b) = linear_neat (times 1 a.variable ∷ just b.variable) (λ h. TherePair h (Var a, Var b)) (λ h z k. (k.0, (k.1, tt)))

  negated_neat : (v : Variable) → Neat p (negated p v) (Has v) ThereFp
  negated_neat v = linear_neat (times (p - 1) v ∷ []) (Has v) (λ h z k. (k, tt))

  pub negate_neat : (a : FpVar) → Neat p (negate_script p a) (λ h. ThereFp h a) ThereFp
  negate_neat (Constant a) = neat_answer (Constant (opposite p a)) (λ h. ThereFp h (Constant a)) ThereFp (λ h k. tt)
  negate_neat (Var a) = negated_neat a.variable

  constant_less_neat : (c : ℕ) (v : Variable) → Neat p (constant_less p c v) (Has v) ThereFp
  constant_less_neat c v = neat_if (eqb (c % p) 0) (negated_neat v) (neat_next (linear_neat (times 1 v ∷ (times (opposite p c) One ∷ [])) (Has v) (λ h z k. (k, (z.one, tt)))) negate_neat)

  pub sub_neat : (a b : FpVar) → Neat p (sub_script p a b) (λ h. TherePair h (a, b)) ThereFp
  sub_neat (Constant a) (Constant b) = neat_answer (Constant ((a + opposite p b) % p)) (λ h. TherePair h (Constant a, Constant b)) ThereFp (λ h k. tt)
  sub_neat (Constant a) (Var b) = neat_on (λ h. TherePair h (Constant a, Var b)) (λ h k. k.1) (constant_less_neat a b.variable)
  sub_neat (Var a) (Constant b) = neat_on (λ h. TherePair h (Var a, Constant b)) (λ h k. k.0) (add_constant_neat (opposite p b) a.variable)
  sub_neat (Var a) (Var b) = linear_neat (less p a.variable b.variable) (λ h. TherePair h (Var a, Var b)) (λ h z k. (k.0, (k.1, tt)))

  pub double_neat : (a : FpVar) → Neat p (double_script p a) (λ h. ThereFp h a) ThereFp
  double_neat (Constant a) = neat_answer (Constant ((2 * a) % p)) (λ h. ThereFp h (Constant a)) ThereFp (λ h k. tt)
  double_neat (Var a) = linear_neat (times 2 a.variable ∷ []) (λ h. ThereFp h (Var a)) (λ h z k. (k, tt))

  pub of_bit_neat : (b : Boolean) → Neat p (of_bit_script b) (λ h. ThereBit h b) ThereFp
  of_bit_neat (constant_bit b) = neat_answer _ (λ h. ThereBit h (constant_bit b)) ThereFp (λ h k. tt)
  of_bit_neat (variable_bit a) = linear_neat (just a.variable) (λ h. ThereBit h (variable_bit a)) (λ h z k. (k, tt))

  -- a multiple of a variable
  mul_constant_neat : (c : ℕ) (v : Variable) → Neat p (mul_constant p c v) (Has v) ThereFp
  mul_constant_neat c v = neat_next (scaled_neat c v) (λ x. neat_answer (named x) (Has x) ThereFp (λ h k. k))

module _ (p : ℕ) (above : 1 < p) where
  pos : 0 < p
  pos = omega arith

  -- ---- products, inverses and new numbers
  pub mul_neat : (a b : FpVar) → Neat p (mul_script p a b) (λ h. TherePair h (a, b)) ThereFp
  mul_neat (Constant a) (Constant b) = neat_answer (Constant (product p a b)) (λ h. TherePair h (Constant a, Constant b)) ThereFp (λ h k. tt)
  mul_neat (Constant a) (Var b) = neat_on (λ h. TherePair h (Constant a, Var b)) (λ h k. k.1) (mul_constant_neat p a b.variable)
  mul_neat (Var a) (Constant b) = neat_on (λ h. TherePair h (Var a, Constant b)) (λ h k. k.0) (mul_constant_neat p b a.variable)
  mul_neat (Var a) (Var b) = record {
    sees = λ h z k. ((k.0, (k.1, tt)), λ h₁ up w hw. ((up a.variable k.0, tt), (up b.variable k.1, tt), (hw, tt), hw));
    tidy = ((λ ρ low. mod-lt (ρ a.variable * ρ b.variable) pos), λ w. tt);
    steady = ((λ ρ. refl), λ w. tt);
  }

  pub inverse_neat : (a : FpVar) → Neat p (inverse_script p a) (λ h. ThereFp h a) ThereFp
  inverse_neat (Constant a) = neat_if (eqb (a % p) 0) (neat_refuse NoValue (λ h. ThereFp h (Constant a)) ThereFp) (neat_answer (Constant (inverse p (a % p))) (λ h. ThereFp h (Constant a)) ThereFp (λ h k. tt))
  inverse_neat (Var a) = record {
    sees = λ h z k. ((k, tt), λ h₁ up w hw. ((up a.variable k, tt), (hw, tt), (up One z.one, tt), hw));
    tidy = ((λ ρ low. seek_below p (ρ a.variable) p pos (omega arith)), λ w. tt);
    steady = ((λ ρ. refl), λ w. tt);
  }

  reduced_below : (o : Option ℕ) → BelowIfThere p (reduced p o)
  reduced_below None = tt
  reduced_below (Some x) = mod-lt x pos

  pub alloc_neat : (mode : AllocationMode) (o : Option ℕ) → Neat p (alloc_script p mode o) (λ h. Unit {0}) ThereFp
  alloc_neat as_constant None = neat_refuse NoValue (λ h. Unit {0}) ThereFp
  alloc_neat as_constant (Some x) = neat_answer (Constant (x % p)) (λ h. Unit {0}) ThereFp (λ h k. tt)
  alloc_neat as_input o = record { sees = λ h z k. (tt, λ h₁ up v hv. hv); tidy = ((λ ρ low. reduced_below o), λ v. tt); steady = ((λ ρ. refl), λ v. tt) }
  alloc_neat as_witness o = record { sees = λ h z k. (tt, λ h₁ up v hv. hv); tidy = ((λ ρ low. reduced_below o), λ v. tt); steady = ((λ ρ. refl), λ v. tt) }

  -- ---- questions
  as_bit_neat : {s : Script AllocatedBool} {KI : There → Type 0} → Neat p s KI ThereAllocated → Neat p (as_var s) KI ThereBit
  as_bit_neat a = neat_next a (λ b. neat_answer (variable_bit b) (λ h. ThereAllocated h b) ThereBit (λ h k. k))

  -- a question on a constant and a variable
  asked_neat : (c : ℕ) (v : Variable) (k : Variable → Variable → Script Boolean) → ((x y : Variable) → Neat p (k x y) (λ h. Both h (x, y)) ThereBit) → Neat p (beside c v k) (Has v) ThereBit
  asked_neat c v k a = beside_neat p c v k (Has v) (λ h l up t. up v t) (λ x. neat_on (λ h. Has v h × Has x h) (λ h t. (t.1, t.0)) (a x v))

  same_bit_neat : (x y : Variable) → Neat p (as_var (same_script p x y)) (λ h. Both h (x, y)) ThereBit
  same_bit_neat x y = as_bit_neat (same_neat p above x y)

  differ_bit_neat : (x y : Variable) → Neat p (as_var (differ_script p x y)) (λ h. Both h (x, y)) ThereBit
  differ_bit_neat x y = as_bit_neat (differ_neat p above x y)

  pub is_eq_neat : (a b : FpVar) → Neat p (is_eq_script p a b) (λ h. TherePair h (a, b)) ThereBit
  is_eq_neat (Constant a) (Constant b) = neat_answer (constant_bit (same_constants p a b)) (λ h. TherePair h (Constant a, Constant b)) ThereBit (λ h k. tt)
  is_eq_neat (Constant a) (Var b) = neat_on (λ h. TherePair h (Constant a, Var b)) (λ h k. k.1) (asked_neat a b.variable (λ x y. as_var (same_script p x y)) same_bit_neat)
  is_eq_neat (Var a) (Constant b) = neat_on (λ h. TherePair h (Var a, Constant b)) (λ h k. k.0) (asked_neat b a.variable (λ x y. as_var (same_script p x y)) same_bit_neat)
  is_eq_neat (Var a) (Var b) = same_bit_neat a.variable b.variable

  pub is_neq_neat : (a b : FpVar) → Neat p (is_neq_script p a b) (λ h. TherePair h (a, b)) ThereBit
  is_neq_neat (Constant a) (Constant b) = neat_answer (constant_bit (not (same_constants p a b))) (λ h. TherePair h (Constant a, Constant b)) ThereBit (λ h k. tt)
  is_neq_neat (Constant a) (Var b) = neat_on (λ h. TherePair h (Constant a, Var b)) (λ h k. k.1) (asked_neat a b.variable (λ x y. as_var (differ_script p x y)) differ_bit_neat)
  is_neq_neat (Var a) (Constant b) = neat_on (λ h. TherePair h (Var a, Constant b)) (λ h k. k.0) (asked_neat b a.variable (λ x y. as_var (differ_script p x y)) differ_bit_neat)
  is_neq_neat (Var a) (Var b) = differ_bit_neat a.variable b.variable

  -- ---- a choice
  choice_neat : (c x y : Variable) (KI : There → Type 0) → ((h : There) → KI h → (Has c h × Has x h × Has y h)) → Neat p (choice_of p c x y) KI ThereFp
  choice_neat c x y KI f = record {
    sees = λ h z k. let t = f h k in ((t.0, (t.1, (t.2, tt))), λ h₁ up w hw. ((up c t.0, tt), (up x t.1, (up y t.2, tt)), (hw, (up y t.2, tt)), hw));
    tidy = ((λ ρ low. go (truth (ρ c)) (ρ x) (ρ y) (low.low x) (low.low y)), λ w. tt);
    steady = ((λ ρ. refl), λ w. tt);
  }
    where
      go : (t : Bool) (a b : ℕ) → a < p → b < p → cond t a b < p
      go true a b ha hb = ha
      go false a b ha hb = hb

  -- the multiples of the condition and of its opposite, together
  mixed_neat : (a b : ℕ) (i o : Variable) → Neat p (then (scaled p a i) (λ x. then (scaled p b o) (λ y. linear (times 1 x ∷ just y)))) (λ h. Has i h × Has o h) ThereFp
  mixed_neat a b i o =
      neat_then (λ h l up t. (up i t.0, up o t.1)) (neat_on (λ h. Has i h × Has o h) (λ h t. t.0) (scaled_neat p a i))
      (λ x. neat_then (λ h l up t. ((up i t.0.0, up o t.0.1), up x t.1)) (neat_on (λ h. (Has i h × Has o h) × Has x h) (λ h t. t.0.1) (scaled_neat p b o))
      (λ y. linear_neat p (times 1 x ∷ just y) (λ h. ((Has i h × Has o h) × Has x h) × Has y h) (λ h z t. (t.0.1, (t.1, tt)))))

  constants_neat : (c : AllocatedBool) (a b : ℕ) → Neat p (choice_of_constants p c a b) (Has c.variable) ThereFp
  constants_neat c a b =
      neat_then {s = copied c.variable} {k = λ i. then (not_allocated p c) (λ t. then (copied t.variable) (λ o. then (scaled p a i) (λ x. then (scaled p b o) (λ y. linear (times 1 x ∷ just y)))))} (λ h l up t. up c.variable t) (neat_combine (just c.variable) (Has c.variable) (λ h z k. (k, tt)))
      (λ i. neat_then {k = λ t. then (copied t.variable) (λ o. then (scaled p a i) (λ x. then (scaled p b o) (λ y. linear (times 1 x ∷ just y))))} (λ h l up t. (up c.variable t.0, up i t.1)) (neat_on (λ h. Has c.variable h × Has i h) (λ h t. t.0) (allocated_not_neat p above c))
      (λ t. neat_then {s = copied t.variable} {k = λ o. then (scaled p a i) (λ x. then (scaled p b o) (λ y. linear (times 1 x ∷ just y)))} (λ h l up q. ((up c.variable q.0.0, up i q.0.1), up t.variable q.1)) (neat_combine (just t.variable) (λ h. (Has c.variable h × Has i h) × ThereAllocated h t) (λ h z k. (k.1, tt)))
      (λ o. neat_on (λ h. ((Has c.variable h × Has i h) × ThereAllocated h t) × Has o h) (λ h q. (q.0.0.1, q.1)) (mixed_neat a b i o))))

  pub select_neat : (c : Boolean) (a b : FpVar) → Neat p (select_script p c a b) (λ h. ThereChoice h (c, a, b)) ThereFp
  select_neat (constant_bit true) a b = neat_answer a (λ h. ThereChoice h (constant_bit true, a, b)) ThereFp (λ h t. t.1)
  select_neat (constant_bit false) a b = neat_answer b (λ h. ThereChoice h (constant_bit false, a, b)) ThereFp (λ h t. t.2)
  select_neat (variable_bit c) (Constant a) (Constant b) = neat_on (λ h. ThereChoice h (variable_bit c, Constant a, Constant b)) (λ h t. t.0) (constants_neat c a b)
  select_neat (variable_bit c) (Constant a) (Var b) = neat_then (λ h l up t. (up c.variable t.0, tt, up b.variable t.2)) (constant_neat p a (λ h. ThereChoice h (variable_bit c, Constant a, Var b)))
      (λ x. choice_neat c.variable x b.variable (λ h. ThereChoice h (variable_bit c, Constant a, Var b) × Has x h) (λ h t. (t.0.0, t.1, t.0.2)))
  select_neat (variable_bit c) (Var a) (Constant b) = neat_then (λ h l up t. (up c.variable t.0, up a.variable t.1, tt)) (constant_neat p b (λ h. ThereChoice h (variable_bit c, Var a, Constant b)))
      (λ y. choice_neat c.variable a.variable y (λ h. ThereChoice h (variable_bit c, Var a, Constant b) × Has y h) (λ h t. (t.0.0, t.0.1, t.1)))
  select_neat (variable_bit c) (Var a) (Var b) = choice_neat c.variable a.variable b.variable (λ h. ThereChoice h (variable_bit c, Var a, Var b)) (λ h t. t)

  -- ---- the calls
  pub add_orderly : Orderly p (λ i. add_script p i.0 i.1) TherePair ThereFp
  add_orderly = neat_orderly (λ i. add_neat p i.0 i.1)

  pub sub_orderly : Orderly p (λ i. sub_script p i.0 i.1) TherePair ThereFp
  sub_orderly = neat_orderly (λ i. sub_neat p i.0 i.1)

  pub negate_orderly : Orderly p (negate_script p) ThereFp ThereFp
  negate_orderly = neat_orderly (negate_neat p)

  pub double_orderly : Orderly p (double_script p) ThereFp ThereFp
  double_orderly = neat_orderly (double_neat p)

  pub of_bit_orderly : Orderly p of_bit_script ThereBit ThereFp
  of_bit_orderly = neat_orderly (of_bit_neat p)

  pub mul_orderly : Orderly p (λ i. mul_script p i.0 i.1) TherePair ThereFp
  mul_orderly = neat_orderly (λ i. mul_neat i.0 i.1)

  pub inverse_orderly : Orderly p (inverse_script p) ThereFp ThereFp
  inverse_orderly = neat_orderly inverse_neat

  pub alloc_orderly : {In : Type 0} (mode : AllocationMode) (o : Option ℕ) → Orderly p {In = In} (λ i. alloc_script p mode o) (λ h i. Unit {0}) ThereFp
  alloc_orderly mode o = neat_orderly (λ i. alloc_neat mode o)

  pub is_eq_orderly : Orderly p (λ i. is_eq_script p i.0 i.1) TherePair ThereBit
  is_eq_orderly = neat_orderly (λ i. is_eq_neat i.0 i.1)

  pub is_neq_orderly : Orderly p (λ i. is_neq_script p i.0 i.1) TherePair ThereBit
  is_neq_orderly = neat_orderly (λ i. is_neq_neat i.0 i.1)

  pub select_orderly : Orderly p (λ i. select_script p i.0 i.1 i.2) ThereChoice ThereFp
  select_orderly = neat_orderly (λ i. select_neat i.0 i.1 i.2)
