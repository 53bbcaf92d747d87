-- The scripts of statements on numbers in order. Whether the witness of unequal has a value depends on the values of its operands: that is foreseen where these are there.
use Rattle.std.proofs.Common.{ℕ, ◌%◌, ◌<◌, Bool, true, false, cond, not, eqb, [], Some, None, sym, ◌∙◌, arith}
use Rattle.relations.specs.declared.term.Variable.{Variable}
use Rattle.relations.specs.declared.term.Variable.TheVariants.{One}
use Rattle.relations.specs.declared.fault.GadgetFault.TheVariants.{Unsatisfiable}
use Rattle.relations.specs.Script.{Script, answer, refuse, allocate, combine, row}
use Rattle.relations.specs.Terms.{just, less}
use Rattle.boolean.specs.declared.bits.Boolean.{Boolean}
use Rattle.boolean.specs.declared.bits.Boolean.TheVariants.{Constant as constant_bit, Var as variable_bit}
use Rattle.boolean.specs.Booleans.{on_constants}
use Rattle.fp.specs.Equality.{inverse, gap}
use Rattle.fp_var.specs.declared.numbers.FpVar.{FpVar}
use Rattle.fp_var.specs.declared.numbers.FpVar.TheVariants.{Constant, Var}
use Rattle.fp_var.specs.Numbers.{product, same_constants, beside, holding, variable_is_constant, variable_is, constant_is, product_row, mul_equals_script, square_equals_script, condition, equal_row, equal_script, apart, apart_from, unequal_script}
use Rattle.laws.specs.Law.{Val, There, Constants, Below as BelowIfThere, present, Sees, Tidy, Steady, Orderly}
use Rattle.bit_laws.specs.Bits.{ThereBit}
use Rattle.bit_laws.proofs.Choices.{bit_wider}
use Rattle.bit_laws.proofs.Fixes.{Neat, neat_then, neat_on, neat_answer, neat_refuse, neat_orderly}
use Rattle.bit_laws.proofs.Statements.{Silent, row_neat, on_neat}
use Rattle.bit_laws.proofs.Differences.{seek_below}
use Rattle.number_laws.specs.Numbers.{ThereFp, TherePair, ThereTriple, ThereGuarded}
use Rattle.laws.specs.Bill.{Foreseen}
use Rattle.number_laws.proofs.NumberOrder.{fp_wider, Has, constant_neat, scaled_neat, beside_neat}

-- ---- what is there
-- a condition's variable, constants too
condition_there : (h : There) → Constants h → (c : Boolean) → ThereBit h c → Has (condition c) h
condition_there h z (constant_bit true) t = z.one
condition_there h z (constant_bit false) t = z.zero
condition_there h z (variable_bit c) t = t

-- what does not depend on any value is foreseen
pub steady_foreseen : {A : Type 0} (h : There) (q : Val) (s : Script A) → Steady s → Foreseen h q s
steady_foreseen h q (answer x) d = tt
steady_foreseen h q (refuse e) d = tt
steady_foreseen h q (allocate d vs f k) e = ((λ ρ a. e.0 ρ ∙ sym (e.0 q)), λ v. steady_foreseen h q (k v) (e.1 v))
steady_foreseen h q (combine ts k) d = λ v. steady_foreseen h q (k v) (d v)
steady_foreseen h q (row a b c s) d = steady_foreseen h q s d

pub orderly_foreseen : {p : ℕ} {In Out : Type 0} {g : In → Script Out} {KI : There → In → Type 0} {KO : There → Out → Type 0} → Orderly p g KI KO → (h : There) (q : Val) (i : In) → Foreseen h q (g i)
orderly_foreseen {p} {In} {Out} {g} a h q i = steady_foreseen h q (g i) (a.steady i)

module _ (p : ℕ) where
  -- ---- parts of statements: their operands are as KI says of what is there
  pub holding_neat : (t : Bool) (KI : There → Type 0) → Neat p (holding t) KI Silent
  holding_neat true KI = neat_answer tt KI Silent (λ h k. tt)
  holding_neat false KI = neat_refuse Unsatisfiable KI Silent

  variable_is_constant_neat : (c : ℕ) (v : Variable) → Neat p (variable_is_constant p c v) (Has v) Silent
  variable_is_constant_neat c v = neat_then (λ h l up t. up v t) (constant_neat p c (Has v)) (λ x. row_neat p (λ h. Has v h × Has x h) (less p x v) (just One) [] (λ h z t. ((t.1, (t.0, tt)), (z.one, tt), tt)))

  variable_is_neat : (m : Variable) (c : FpVar) → Neat p (variable_is p m c) (λ h. Has m h × ThereFp h c) Silent
  variable_is_neat m (Constant c) = neat_on (λ h. Has m h × ThereFp h (Constant c)) (λ h t. t.0) (variable_is_constant_neat c m)
  variable_is_neat m (Var c) = row_neat p (λ h. Has m h × ThereFp h (Var c)) (less p c.variable m) (just One) [] (λ h z t. ((t.1, (t.0, tt)), (z.one, tt), tt))

  pub constant_is_neat : (m : ℕ) (c : FpVar) → Neat p (constant_is p m c) (λ h. ThereFp h c) Silent
  constant_is_neat m (Constant c) = holding_neat (same_constants p m c) (λ h. ThereFp h (Constant c))
  constant_is_neat m (Var c) = variable_is_constant_neat m c.variable

  -- a multiple of a variable is a number
  multiple_is_neat : (a : ℕ) (v : Variable) (c : FpVar) → Neat p (mul_equals_script p (Constant a) (Var (record { variable = v })) c) (λ h. Has v h × ThereFp h c) Silent
  multiple_is_neat a v c = neat_then (λ h l up t. (up v t.0, fp_wider h l up c t.1)) (neat_on (λ h. Has v h × ThereFp h c) (λ h t. t.0) (scaled_neat p a v)) (λ m. neat_on (λ h. (Has v h × ThereFp h c) × Has m h) (λ h t. (t.1, t.0.1)) (variable_is_neat m c))

  product_row_neat : (a b : Variable) (c : FpVar) → Neat p (product_row a b c) (λ h. Has a h × Has b h × ThereFp h c) Silent
  product_row_neat a b (Constant c) =
      neat_then (λ h l up t. (up a t.0, up b t.1, tt)) (constant_neat p c (λ h. Has a h × Has b h × ThereFp h (Constant c)))
      (λ x. row_neat p (λ h. (Has a h × Has b h × ThereFp h (Constant c)) × Has x h) (just a) (just b) (just x) (λ h z t. ((t.0.0, tt), (t.0.1, tt), (t.1, tt))))
  product_row_neat a b (Var c) = row_neat p (λ h. Has a h × Has b h × ThereFp h (Var c)) (just a) (just b) (just c.variable) (λ h z t. ((t.0, tt), (t.1, tt), (t.2, tt)))

  -- ---- the statements whose scripts give no value
  pub mul_equals_neat : (a b c : FpVar) → Neat p (mul_equals_script p a b c) (λ h. ThereTriple h (a, b, c)) Silent
  mul_equals_neat (Constant a) (Constant b) c = neat_on (λ h. ThereTriple h (Constant a, Constant b, c)) (λ h t. t.2) (constant_is_neat (product p a b) c)
  mul_equals_neat (Constant a) (Var b) c = neat_on (λ h. ThereTriple h (Constant a, Var b, c)) (λ h t. (t.1, t.2)) (multiple_is_neat a b.variable c)
  mul_equals_neat (Var a) (Constant b) c = neat_on (λ h. ThereTriple h (Var a, Constant b, c)) (λ h t. (t.0, t.2)) (multiple_is_neat b a.variable c)
  mul_equals_neat (Var a) (Var b) c = product_row_neat a.variable b.variable c

  pub square_equals_neat : (a b : FpVar) → Neat p (square_equals_script p a b) (λ h. TherePair h (a, b)) Silent
  square_equals_neat (Constant a) (Constant b) = holding_neat (same_constants p (product p a a) b) (λ h. TherePair h (Constant a, Constant b))
  square_equals_neat (Constant a) (Var b) =
      neat_then (λ h l up t. (tt, up b.variable t.1)) (constant_neat p a (λ h. TherePair h (Constant a, Var b)))
      (λ x. row_neat p (λ h. TherePair h (Constant a, Var b) × Has x h) (just x) (just x) (just b.variable) (λ h z t. ((t.1, tt), (t.1, tt), (t.0.1, tt))))
  square_equals_neat (Var a) b = neat_on (λ h. TherePair h (Var a, b)) (λ h t. (t.0, t.0, t.1)) (product_row_neat a.variable a.variable b)

  equal_row_neat : (c : Boolean) (x y : Variable) → Neat p (equal_row p (condition c) x y) (λ h. Has x h × Has y h × ThereBit h c) Silent
  equal_row_neat c x y = row_neat p (λ h. Has x h × Has y h × ThereBit h c) (less p x y) (just (condition c)) [] (λ h z t. ((t.0, (t.1, tt)), (condition_there h z c t.2, tt), tt))

  equal_beside_neat : (c : Boolean) (a : ℕ) (v : Variable) → Neat p (beside a v (equal_row p (condition c))) (λ h. Has v h × ThereBit h c) Silent
  equal_beside_neat c a v = beside_neat p a v (equal_row p (condition c)) (λ h. Has v h × ThereBit h c) (λ h l up t. (up v t.0, bit_wider h l up c t.1)) (λ x. neat_on (λ h. (Has v h × ThereBit h c) × Has x h) (λ h t. (t.1, t.0.0, t.0.1)) (equal_row_neat c x v))

  pub equal_neat : (a b : FpVar) (c : Boolean) → Neat p (equal_script p a b c) (λ h. ThereGuarded h (a, b, c)) Silent
  equal_neat (Constant a) (Constant b) c = on_neat p (λ h. ThereGuarded h (Constant a, Constant b, c)) (same_constants p a b) c (λ h t. t.2)
  equal_neat (Constant a) (Var b) c = neat_on (λ h. ThereGuarded h (Constant a, Var b, c)) (λ h t. (t.1, t.2)) (equal_beside_neat c a b.variable)
  equal_neat (Var a) (Constant b) c = neat_on (λ h. ThereGuarded h (Var a, Constant b, c)) (λ h t. (t.0, t.2)) (equal_beside_neat c b a.variable)
  equal_neat (Var a) (Var b) c = equal_row_neat c a.variable b.variable

  pub mul_equals_orderly : Orderly p (λ i. mul_equals_script p i.0 i.1 i.2) ThereTriple Silent
  mul_equals_orderly = neat_orderly (λ i. mul_equals_neat i.0 i.1 i.2)

  pub square_equals_orderly : Orderly p (λ i. square_equals_script p i.0 i.1) TherePair Silent
  square_equals_orderly = neat_orderly (λ i. square_equals_neat i.0 i.1)

  pub equal_orderly : Orderly p (λ i. equal_script p i.0 i.1 i.2) ThereGuarded Silent
  equal_orderly = neat_orderly (λ i. equal_neat i.0 i.1 i.2)

  -- ---- unequal: all that it names is there, and its witness is below p
  apart_from_sees : (h : There) → Constants h → (a : ℕ) (v k : Variable) → Has v h → Has k h → Sees h (apart_from p a v k) Silent
  apart_from_sees h z a v k hv hk = ((z.one, tt), λ h₁ up x hx. ((up v hv, (up k hk, tt)), λ h₂ next m hm. ((next x hx, (next v (up v hv), tt)), (hm, tt), (next k (up k hk), tt), tt)))

  pub unequal_sees : (h : There) → Constants h → (a b : FpVar) (c : Boolean) → ThereGuarded h (a, b, c) → Sees h (unequal_script p a b c) Silent
  unequal_sees h z (Constant a) (Constant b) c t = (on_neat p (λ h. ThereGuarded h (Constant a, Constant b, c)) (not (same_constants p a b)) c (λ h t. t.2)).sees h z t
  unequal_sees h z (Constant a) (Var b) c t = apart_from_sees h z a b.variable (condition c) t.1 (condition_there h z c t.2)
  unequal_sees h z (Var a) (Constant b) c t = apart_from_sees h z b a.variable (condition c) t.0 (condition_there h z c t.2)
  unequal_sees h z (Var a) (Var b) c t =
      let hc = condition_there h z c t.2 in ((t.0, (t.1, (hc, tt))), λ h₁ up m hm. ((up a.variable t.0, (up b.variable t.1, tt)), (hm, tt), (up (condition c) hc, tt), tt))

  apart_tidy : 0 < p → (x y c : ℕ) → BelowIfThere p (apart p x y c)
  apart_tidy pos x y c = go (eqb c 0) (eqb x y)
    where
      go : (s t : Bool) → BelowIfThere p (cond s (Some 0) (cond t None (Some (inverse p (gap p x y)))))
      go true t = pos
      go false true = tt
      go false false = seek_below p (gap p x y) p pos (omega arith)

  pub unequal_tidy : 0 < p → (a b : FpVar) (c : Boolean) → Tidy p (unequal_script p a b c)
  unequal_tidy pos (Constant a) (Constant b) c = (on_neat p (λ h. ThereBit h c) (not (same_constants p a b)) c (λ h t. t)).tidy
  unequal_tidy pos (Constant a) (Var b) c = λ x. ((λ ρ low. apart_tidy pos (a % p) (ρ b.variable) (ρ (condition c))), λ m. tt)
  unequal_tidy pos (Var a) (Constant b) c = λ x. ((λ ρ low. apart_tidy pos (b % p) (ρ a.variable) (ρ (condition c))), λ m. tt)
  unequal_tidy pos (Var a) (Var b) c = ((λ ρ low. apart_tidy pos (ρ a.variable) (ρ b.variable) (ρ (condition c))), λ m. tt)

  -- whether it has a value depends on the operands alone
  pub unequal_foreseen : (h : There) → Constants h → (q : Val) (a b : FpVar) (c : Boolean) → ThereGuarded h (a, b, c) → Foreseen h q (unequal_script p a b c)
  unequal_foreseen h z q (Constant a) (Constant b) c t = steady_foreseen h q (on_constants (not (same_constants p a b)) c) (on_neat p (λ h. ThereBit h c) (not (same_constants p a b)) c (λ h t. t)).steady
  unequal_foreseen h z q (Constant a) (Var b) c t = λ x. ((λ ρ e i. present (apart p (a % p) (e b.variable t.1 i) (e (condition c) (condition_there h z c t.2) i))), λ m. tt)
  unequal_foreseen h z q (Var a) (Constant b) c t = λ x. ((λ ρ e i. present (apart p (b % p) (e a.variable t.0 i) (e (condition c) (condition_there h z c t.2) i))), λ m. tt)
  unequal_foreseen h z q (Var a) (Var b) c t = ((λ ρ e i. present (apart p (e a.variable t.0 i) (e b.variable t.1 i) (e (condition c) (condition_there h z c t.2) i))), λ m. tt)
