-- Statements on numbers: a product or a square is a number, and under a condition two numbers are equal or differ.
use Rattle.std.proofs.Common.{◌≡◌, ◌≢◌, ◌↔◌, ℕ, ◌+◌, ◌-◌, ◌*◌, ◌%◌, ◌<◌, ◌≤◌, Bool, true, false, not, cond, eqb, [], ◌∷◌, Some, None, Option, sym, refl, ap, ap₂, ◌∙◌, subst, arith, mod-eq_of_lt, mod-lt, true-eqb, false-eqb}
use Rattle.arith.specs.Number.{Prime}
use Rattle.arith.proofs.Euclid.{pos_of, mul_mod_l}
use Rattle.arith.proofs.Ring.{done}
use Rattle.arith.proofs.Solve.{reads, none, times, puts, by_mod, by_zero}
use Rattle.relations.specs.declared.term.Variable.{Variable}
use Rattle.relations.specs.declared.term.Variable.TheVariants.{One}
use Rattle.relations.specs.declared.fault.GadgetFault.TheVariants.{Unsatisfiable}
use Rattle.relations.specs.Meaning.{number}
use Rattle.relations.specs.Script.{then}
use Rattle.relations.specs.Terms.{just, less}
use Rattle.boolean.specs.declared.bits.Boolean.{Boolean}
use Rattle.boolean.specs.declared.bits.Boolean.TheVariants.{Constant as constant_bit, Var as variable_bit}
use Rattle.boolean.specs.Booleans.{on_constants}
use Rattle.fp.specs.Equality.{inverse, gap}
use Rattle.fp_var.specs.declared.numbers.FpVar.{FpVar}
use Rattle.fp_var.specs.declared.numbers.FpVar.TheVariants.{Constant, Var}
use Rattle.fp_var.specs.Numbers.{scaled, product, same_constants, beside, holding, variable_is_constant, variable_is, constant_is, product_row, mul_equals_script, square_equals_script, condition, equal_row, equal_script, apart, apart_from, apart_both, unequal_script}
use Rattle.laws.specs.Law.{Val, Low, Given, RowMet, Law}
use Rattle.laws.proofs.Frame.{nothing}
use Rattle.bit_laws.specs.Bits.{bit_number_of, EqualIf, UnequalIf}
use Rattle.bit_laws.proofs.Choices.{by_bit}
use Rattle.bit_laws.proofs.Statements.{less_says, zero_under}
use Rattle.bit_laws.proofs.Differences.{gap_is, inverse_is, seek_below}
use Rattle.bit_laws.proofs.Fixes.{Fixes, fixes_then, fixes_as, fixes_answer, fixes_refuse, fixes_row, fixes_law}
use Rattle.number_laws.specs.Numbers.{fp_number_of, pair_fp, triple_fp, guarded_fp, BothBelow, ThreeBelow, GuardedBelow, multiplied, ProductIs, SquareIs}
use Rattle.number_laws.proofs.Shapes.{number_given, fixes_rows, constant_value, scaled_fixes}
use Rattle.number_laws.proofs.Products.{product_forced, product_met}
use Rattle.number_laws.proofs.Comparing.{same_below}

-- ---- the rows
-- x - y = 0
same_says : (p x y o : ℕ) → 1 < p → x < p → y < p → o ≡ 1 → (((1 * x + ((p - 1) * y + 0)) * (1 * o + 0)) % p ≡ 0 % p) ↔ (x ≡ y)
same_says p x y o above lx ly one =
    let u = zero_under p (1 * x + ((p - 1) * y + 0)) (1 * o + 0) o (x ≡ y) (omega arith) (omega arith) (less_says p x y above lx ly) in
    (λ r. u.0 r one, λ e. u.1 (λ q. e))

-- a * b = c
product_says : (p a b c : ℕ) → c < p → (((1 * a + 0) * (1 * b + 0)) % p ≡ (1 * c + 0) % p) ↔ ((a * b) % p ≡ c)
product_says p a b c lc = (λ r. sym (product_forced p a b c lc r), λ e. product_met p a b c (omega arith) (sym e))

-- (x - y) * m = k: where k is 1, x and y differ
apart_forced : (p x y m k : ℕ) → 1 < p → k ≡ 1 → ((1 * x + ((p - 1) * y + 0)) * (1 * m + 0)) % p ≡ (1 * k + 0) % p → x ≢ y
apart_forced p x y m k above one r e =
    let z : k % p ≡ 0 = by_zero p (omega arith) (x ∷ y ∷ m ∷ k ∷ []) (puts e (search reads) (times (p - 1) r (search reads depth 9) none)) (search reads depth 9) done in
    let o : k % p ≡ 1 = ap (λ (t : ℕ). t % p) one ∙ mod-eq_of_lt above in
    omega arith

-- the multiplier as a number: 0 where there is none
abbrev pub apart_number : ℕ → ℕ × ℕ × ℕ → ℕ
apart_number p x = number (apart p x.0 x.1 x.2)

apart_below : (p : ℕ) → 0 < p → (x : ℕ × ℕ × ℕ) → apart_number p x < p
apart_below p pos x = go (eqb x.2 0) (eqb x.0 x.1)
  where
    go : (s t : Bool) → number (cond s (Some 0) (cond t None (Some (inverse p (gap p x.0 x.1))))) < p
    go true t = pos
    go false true = pos
    go false false = seek_below p (gap p x.0 x.1) p pos (omega arith)

-- it meets the row where x and y differ if the condition c is 1
apart_met : (p : ℕ) → Prime p → (x y m k c : ℕ) → x < p → y < p → c ≤ 1 → k ≡ c → UnequalIf (x, y, c) → m ≡ apart_number p (x, y, c) → ((1 * x + ((p - 1) * y + 0)) * (1 * m + 0)) % p ≡ (1 * k + 0) % p
apart_met p P x y m k c lx ly hc ek other em = by_bit (λ c. k ≡ c → UnequalIf (x, y, c) → m ≡ apart_number p (x, y, c) → ((1 * x + ((p - 1) * y + 0)) * (1 * m + 0)) % p ≡ (1 * k + 0) % p)
    (λ ek f em. by_mod p pos (x ∷ y ∷ m ∷ k ∷ []) (puts ek (search reads) (puts em (search reads) none)) (search reads depth 9) done)
    (λ ek f em. go (eqb x y) refl ek (f refl) em) c hc ek other em
  where
    pos : 0 < p
    pos = omega (arith, P.0)

    go : (t : Bool) → eqb x y ≡ t → k ≡ 1 → x ≢ y → m ≡ number (cond t None (Some (inverse p (gap p x y)))) → ((1 * x + ((p - 1) * y + 0)) * (1 * m + 0)) % p ≡ (1 * k + 0) % p
    go true e ek ne em = absurd (ne (true-eqb x y (sym e)))
    go false e ek ne em =
        let g : (1 * x + ((p - 1) * y + 0)) % p ≡ gap p x y = gap_is p x y pos ly in
        let some : gap p x y ≡ 0 → ⊥ = λ z. ne ((less_says p x y P.0 lx ly).0 (g ∙ z)) in
        sym (mul_mod_l (1 * x + ((p - 1) * y + 0)) (1 * m + 0) p) ∙ ap₂ (λ (s u : ℕ). (s * u) % p) g (omega (arith, em))
        ∙ inverse_is p (gap p x y) P (pos_of (gap p x y) some) (mod-lt (x + (p - y)) pos) ∙ sym (mod-eq_of_lt P.0) ∙ ap (λ (u : ℕ). u % p) (omega (arith, ek))

-- the number of a condition
pub condition_number : (p : ℕ) (ρ : Val) → Low p ρ → (c : Boolean) → ρ (condition c) ≡ bit_number_of ρ c
condition_number p ρ low (constant_bit true) = low.one
condition_number p ρ low (constant_bit false) = low.zero
condition_number p ρ low (variable_bit c) = refl

-- the row (x - y) * k = 0, where k is a condition
equal_row_says : (p : ℕ) → Prime p → (ρ : Val) → Low p ρ → (c : Boolean) (x y : Variable) → bit_number_of ρ c ≤ 1 → RowMet p ρ (less p x y) (just (condition c)) [] ↔ (bit_number_of ρ c ≡ 1 → ρ x ≡ ρ y)
equal_row_says p P ρ low c x y hc =
    zero_under p (1 * ρ x + ((p - 1) * ρ y + 0)) (1 * ρ (condition c) + 0) (bit_number_of ρ c) (ρ x ≡ ρ y) (omega (arith, condition_number p ρ low c)) hc (less_says p (ρ x) (ρ y) P.0 (low.low x) (low.low y))

-- ---- parts of statements. Of the numbers at of the operands they say R, where these are as P says
module _ (p : ℕ) (Pr : Prime p) {X : Type 0} {at : Val → X} (P R : X → Type 0) where
  pub holding_fixes : (t : Bool) → (t ≡ true → (ρ : Val) → P (at ρ) → R (at ρ)) → Fixes p at nothing (holding t) P R (λ x. tt)
  holding_fixes true f = fixes_answer tt P R (λ x. tt) (λ ρ low h. (f refl ρ h, refl))
  holding_fixes false f = fixes_refuse Unsatisfiable P R (λ x. tt)

  -- a statement on constants under a condition
  on_fixes : (t : Bool) (c : Boolean) → ((ρ : Val) → P (at ρ) → bit_number_of ρ c ≤ 1) → (t ≡ true → (ρ : Val) → P (at ρ) → R (at ρ)) → (t ≡ false → (ρ : Val) → P (at ρ) → R (at ρ) ↔ (bit_number_of ρ c ≡ 0))
      → Fixes p at nothing (on_constants t c) P R (λ x. tt)
  on_fixes true c bits holds fails = fixes_answer tt P R (λ x. tt) (λ ρ low h. (holds refl ρ h, refl))
  on_fixes false (constant_bit true) bits holds fails = fixes_refuse Unsatisfiable P R (λ x. tt)
  on_fixes false (constant_bit false) bits holds fails = fixes_answer tt P R (λ x. tt) (λ ρ low h. ((fails refl ρ h).1 refl, refl))
  on_fixes false (variable_bit c) bits holds fails = fixes_row (just One) (just c.variable) [] tt P R (λ x. tt) met (λ ρ low h. refl)
    where
      met : (ρ : Val) → Low p ρ → P (at ρ) → RowMet p ρ (just One) (just c.variable) [] ↔ R (at ρ)
      met ρ low h =
          let one : (1 * ρ One + 0) % p ≡ 1 = ap (λ (t : ℕ). t % p) (omega (arith, low.one)) ∙ mod-eq_of_lt Pr.0 in
          let u = zero_under p (1 * ρ One + 0) (1 * ρ c.variable + 0) (ρ c.variable) ⊥ (omega arith) (bits ρ h) (λ z. omega arith, λ f. absurd f) in
          let f = fails refl ρ h in (
            λ r. let q = u.0 r in f.1 (by_bit (λ n. (n ≡ 1 → ⊥) → n ≡ 0) (λ g. refl) (λ g. absurd (g refl)) (ρ c.variable) (bits ρ h) q),
            λ r. u.1 (λ q. let z = f.0 r in omega arith),
          )

  -- a variable is a constant
  variable_is_constant_fixes : (c : ℕ) (v : Variable) → ((ρ : Val) → P (at ρ) → (c % p ≡ ρ v) ↔ R (at ρ)) → Fixes p at nothing (variable_is_constant p c v) P R (λ x. tt)
  variable_is_constant_fixes c v is = fixes_rows (variable_is_constant p c v) P R (λ x. tt)
      (λ ρ low h x ex r. ((is ρ h).0 (sym (constant_value p c (ρ One) low.one) ∙ sym ex ∙ (same_says p (ρ x) (ρ v) (ρ One) Pr.0 (low.low x) (low.low v) low.one).0 r), refl))
      (λ ρ low h s x ex. ((same_says p (ρ x) (ρ v) (ρ One) Pr.0 (low.low x) (low.low v) low.one).1 (ex ∙ constant_value p c (ρ One) low.one ∙ (is ρ h).1 s), refl))

  -- a variable is a number
  variable_is_fixes : (m : Variable) (c : FpVar) → ((ρ : Val) → P (at ρ) → (fp_number_of ρ c < p) × ((fp_number_of ρ c ≡ ρ m) ↔ R (at ρ))) → Fixes p at nothing (variable_is p m c) P R (λ x. tt)
  variable_is_fixes m (Constant c) is = variable_is_constant_fixes c m (λ ρ h. let k = is ρ h in let e : c % p ≡ c = mod-eq_of_lt k.0 in (λ q. k.1.0 (sym e ∙ q), λ s. e ∙ k.1.1 s))
  variable_is_fixes m (Var c) is = fixes_row (less p c.variable m) (just One) [] tt P R (λ x. tt)
      (λ ρ low h. let k = is ρ h in let s = same_says p (ρ c.variable) (ρ m) (ρ One) Pr.0 (low.low c.variable) (low.low m) low.one in (λ r. k.1.0 (s.0 r), λ q. s.1 (k.1.1 q))) (λ ρ low h. refl)

  -- a constant below p is a number
  pub constant_is_fixes : (m : ℕ) (c : FpVar) → m < p → ((ρ : Val) → P (at ρ) → (fp_number_of ρ c < p) × ((m ≡ fp_number_of ρ c) ↔ R (at ρ))) → Fixes p at nothing (constant_is p m c) P R (λ x. tt)
  constant_is_fixes m (Constant c) lm is = holding_fixes (same_constants p m c) (λ t ρ h. let k = is ρ h in k.1.0 (true-eqb m c (sym (sym (same_below p m c lm k.0) ∙ t))))
  constant_is_fixes m (Var c) lm is = variable_is_constant_fixes m c.variable (λ ρ h. let k = is ρ h in let e : m % p ≡ m = mod-eq_of_lt lm in (λ q. k.1.0 (sym e ∙ q), λ s. e ∙ k.1.1 s))

  -- the product of two variables is a number
  product_row_fixes : (a b : Variable) (c : FpVar) → ((ρ : Val) → P (at ρ) → (fp_number_of ρ c < p) × (((ρ a * ρ b) % p ≡ fp_number_of ρ c) ↔ R (at ρ))) → Fixes p at nothing (product_row a b c) P R (λ x. tt)
  product_row_fixes a b (Constant c) is = fixes_rows (product_row a b (Constant c)) P R (λ x. tt)
      (λ ρ low h x ex r. let k = is ρ h in let e : ρ x ≡ c = ex ∙ constant_value p c (ρ One) low.one ∙ mod-eq_of_lt k.0 in (k.1.0 ((product_says p (ρ a) (ρ b) (ρ x) (low.low x)).0 r ∙ e), refl))
      (λ ρ low h s x ex. let k = is ρ h in let e : ρ x ≡ c = ex ∙ constant_value p c (ρ One) low.one ∙ mod-eq_of_lt k.0 in ((product_says p (ρ a) (ρ b) (ρ x) (low.low x)).1 (k.1.1 s ∙ sym e), refl))
  product_row_fixes a b (Var c) is = fixes_row (just a) (just b) (just c.variable) tt P R (λ x. tt)
      (λ ρ low h. let k = is ρ h in let s = product_says p (ρ a) (ρ b) (ρ c.variable) (low.low c.variable) in (λ r. k.1.0 (s.0 r), λ q. s.1 (k.1.1 q))) (λ ρ low h. refl)

  -- the square of a constant is a variable
  constant_square_fixes : (a : ℕ) (v : Variable) → ((ρ : Val) → P (at ρ) → (a < p) × (((a * a) % p ≡ ρ v) ↔ R (at ρ))) → Fixes p at nothing (square_equals_script p (Constant a) (Var (record { variable = v }))) P R (λ x. tt)
  constant_square_fixes a v is = fixes_rows (square_equals_script p (Constant a) (Var (record { variable = v }))) P R (λ x. tt)
      (λ ρ low h x ex r. let k = is ρ h in let e : ρ x ≡ a = ex ∙ constant_value p a (ρ One) low.one ∙ mod-eq_of_lt k.0 in (k.1.0 ((λ i. (sym e i * sym e i) % p) ∙ (product_says p (ρ x) (ρ x) (ρ v) (low.low v)).0 r), refl))
      (λ ρ low h s x ex. let k = is ρ h in let e : ρ x ≡ a = ex ∙ constant_value p a (ρ One) low.one ∙ mod-eq_of_lt k.0 in ((product_says p (ρ x) (ρ x) (ρ v) (low.low v)).1 ((λ i. (e i * e i) % p) ∙ k.1.1 s), refl))

  -- where a condition is 1, two variables are equal
  equal_both_fixes : (c : Boolean) (x y : Variable) → ((ρ : Val) → P (at ρ) → (bit_number_of ρ c ≤ 1) × ((bit_number_of ρ c ≡ 1 → ρ x ≡ ρ y) ↔ R (at ρ))) → Fixes p at nothing (equal_row p (condition c) x y) P R (λ x. tt)
  equal_both_fixes c x y is = fixes_row (less p x y) (just (condition c)) [] tt P R (λ x. tt)
      (λ ρ low h. let k = is ρ h in let s = equal_row_says p Pr ρ low c x y k.0 in (λ r. k.1.0 (s.0 r), λ q. s.1 (k.1.1 q))) (λ ρ low h. refl)

  -- the same of a constant and a variable
  equal_beside_fixes : (c : Boolean) (a : ℕ) (v : Variable) → ((ρ : Val) → P (at ρ) → (bit_number_of ρ c ≤ 1) × ((bit_number_of ρ c ≡ 1 → a % p ≡ ρ v) ↔ R (at ρ))) → Fixes p at nothing (beside a v (equal_row p (condition c))) P R (λ x. tt)
  equal_beside_fixes c a v is = fixes_rows (beside a v (equal_row p (condition c))) P R (λ x. tt)
      (λ ρ low h x ex r. let k = is ρ h in let e : ρ x ≡ a % p = ex ∙ constant_value p a (ρ One) low.one in (k.1.0 (λ q. sym e ∙ (equal_row_says p Pr ρ low c x v k.0).0 r q), refl))
      (λ ρ low h s x ex. let k = is ρ h in let e : ρ x ≡ a % p = ex ∙ constant_value p a (ρ One) low.one in ((equal_row_says p Pr ρ low c x v k.0).1 (λ q. e ∙ k.1.1 s q), refl))

-- ---- products and squares
module _ (p : ℕ) (P : Prime p) where
  positive : 0 < p
  positive = omega (arith, P.0)

  -- a multiple m of a variable is a number
  multiple_is_fixes : {at : Val → ℕ × ℕ × ℕ} (a : ℕ) (v : Variable) (c : FpVar) → ((ρ : Val) → (a * ρ v) % p ≡ multiplied p ((at ρ).0, (at ρ).1)) → ((ρ : Val) → fp_number_of ρ c ≡ (at ρ).2)
      → Fixes p at nothing (then {B = Unit {0}} (scaled p a v) (λ m. variable_is p m c)) (ThreeBelow p) (ProductIs p) (λ x. tt)
  multiple_is_fixes {at} a v c first third = fixes_as (ThreeBelow p) (ProductIs p) (λ x. tt) (λ x h. h) (λ x h r. r.1) (λ x h r. (tt, r)) (λ x h r. refl)
      (fixes_then {P₂ = λ q. ThreeBelow p q.0} {R₂ = λ q. q.1 ≡ q.0.2} (scaled_fixes a v (ThreeBelow p) (λ x. multiplied p (x.0, x.1)) (λ ρ low h. first ρ))
      (λ m. variable_is_fixes p P (λ q. ThreeBelow p q.0) (λ q. q.1 ≡ q.0.2) m c (λ ρ h. let e = third ρ in (subst (λ (t : ℕ). t < p) (sym e) h.2, (λ z. sym z ∙ e, λ z. e ∙ sym z)))) (λ x h r. h))

  pub mul_equals_fixes : (a b c : FpVar) → Fixes p (λ ρ. triple_fp ρ (a, b, c)) nothing (mul_equals_script p a b c) (ThreeBelow p) (ProductIs p) (λ x. tt)
  mul_equals_fixes (Constant a) (Constant b) c = constant_is_fixes p P (ThreeBelow p) (ProductIs p) (product p a b) c (mod-lt (a * b) positive) (λ ρ h. (h.2, (λ e. e, λ e. e)))
  mul_equals_fixes (Constant a) (Var b) c = multiple_is_fixes a b.variable c (λ ρ. refl) (λ ρ. refl)
  mul_equals_fixes (Var a) (Constant b) c = multiple_is_fixes b a.variable c (λ ρ. ap (λ (t : ℕ). t % p) (omega arith)) (λ ρ. refl)
  mul_equals_fixes (Var a) (Var b) c = product_row_fixes p P (ThreeBelow p) (ProductIs p) a.variable b.variable c (λ ρ h. (h.2, (λ e. e, λ e. e)))

  pub square_equals_fixes : (a b : FpVar) → Fixes p (λ ρ. pair_fp ρ (a, b)) nothing (square_equals_script p a b) (BothBelow p) (SquareIs p) (λ x. tt)
  square_equals_fixes (Constant a) (Constant b) = constant_is_fixes p P (BothBelow p) (SquareIs p) (product p a a) (Constant b) (mod-lt (a * a) positive) (λ ρ h. (h.1, (λ e. e, λ e. e)))
  square_equals_fixes (Constant a) (Var b) = constant_square_fixes p P (BothBelow p) (SquareIs p) a b.variable (λ ρ h. (h.0, (λ e. e, λ e. e)))
  square_equals_fixes (Var a) b = product_row_fixes p P (BothBelow p) (SquareIs p) a.variable a.variable b (λ ρ h. (h.1, (λ e. e, λ e. e)))

  -- ---- equality under a condition
  pub equal_fixes : (a b : FpVar) (c : Boolean) → Fixes p (λ ρ. guarded_fp ρ (a, b, c)) nothing (equal_script p a b c) (GuardedBelow p) EqualIf (λ x. tt)
  equal_fixes (Constant a) (Constant b) c = on_fixes p P (GuardedBelow p) EqualIf (same_constants p a b) c (λ ρ h. h.2)
      (λ t ρ h q. true-eqb a b (sym (sym (same_below p a b h.0 h.1) ∙ t)))
      (λ t ρ h. (λ f. by_bit (λ n. (n ≡ 1 → a ≡ b) → n ≡ 0) (λ f. refl) (λ f. absurd (false-eqb a b (sym (sym (same_below p a b h.0 h.1) ∙ t)) (f refl))) (bit_number_of ρ c) h.2 f, λ e q. absurd (omega arith)))
  equal_fixes (Constant a) (Var b) c = equal_beside_fixes p P (GuardedBelow p) EqualIf c a b.variable (λ ρ h. let e : a % p ≡ a = mod-eq_of_lt h.0 in (h.2, (λ f q. sym e ∙ f q, λ f q. e ∙ f q)))
  equal_fixes (Var a) (Constant b) c = equal_beside_fixes p P (GuardedBelow p) EqualIf c b a.variable (λ ρ h. let e : b % p ≡ b = mod-eq_of_lt h.1 in (h.2, (λ f q. sym (sym e ∙ f q), λ f q. e ∙ sym (f q))))
  equal_fixes (Var a) (Var b) c = equal_both_fixes p P (GuardedBelow p) EqualIf c a.variable b.variable (λ ρ h. (h.2, (λ f. f, λ f. f)))

  -- ---- difference under a condition
  -- two variables: f makes their numbers and the condition's of those of the operands
  module _ {X : Type 0} (at : Val → X) (Pre R : X → Type 0) (f : X → ℕ × ℕ × ℕ) (small : (x : X) → Pre x → (f x).2 ≤ 1) (says : (x : X) → Pre x → R x ↔ UnequalIf (f x)) where
    -- the row of the variables x and y, the condition c and the multiplier m
    apart_sound : (ρ : Val) → Low p ρ → Pre (at ρ) → (c : Boolean) (x y m : Variable) → ◌≡◌ {A = ℕ × ℕ × ℕ} (ρ x, ρ y, bit_number_of ρ c) (f (at ρ)) → RowMet p ρ (less p x y) (just m) (just (condition c)) → R (at ρ)
    apart_sound ρ low h c x y m e r =
        (says (at ρ) h).1 (subst UnequalIf e (λ q. apart_forced p (ρ x) (ρ y) (ρ m) (ρ (condition c)) P.0 (condition_number p ρ low c ∙ q) r))

    apart_plays : (ρ : Val) → Low p ρ → (u : X) → at ρ ≡ u → Pre u → R u → (c : Boolean) (x y m : Variable) → ◌≡◌ {A = ℕ × ℕ × ℕ} (ρ x, ρ y, bit_number_of ρ c) (f (at ρ)) → ρ m ≡ apart_number p (f u) → RowMet p ρ (less p x y) (just m) (just (condition c))
    apart_plays ρ low u q h s c x y m e em =
        let w : ◌≡◌ {A = ℕ × ℕ × ℕ} (f u) (ρ x, ρ y, bit_number_of ρ c) = sym (e ∙ ap f q) in
        apart_met p P (ρ x) (ρ y) (ρ m) (ρ (condition c)) (bit_number_of ρ c) (low.low x) (low.low y) (subst (λ (t : ℕ × ℕ × ℕ). t.2 ≤ 1) w (small u h)) (condition_number p ρ low c) (subst UnequalIf w ((says u h).0 s)) (em ∙ ap (apart_number p) w)

    -- the multiplier that is computed is the planned one
    apart_given : (ρ : Val) → Low p ρ → (u : X) → at ρ ≡ u → (c : Boolean) (x y : ℕ) → ◌≡◌ {A = ℕ × ℕ × ℕ} (x, y, bit_number_of ρ c) (f (at ρ)) → Given (apart p x y (ρ (condition c))) (apart_number p (f u))
    apart_given ρ low u q c x y e =
        let w : ◌≡◌ {A = ℕ × ℕ × ℕ} (f u) (x, y, bit_number_of ρ c) = sym (e ∙ ap f q) in
        subst (λ (o : Option ℕ). Given o (apart_number p (f u))) (ap (λ (t : ℕ × ℕ × ℕ). apart p t.0 t.1 t.2) w ∙ ap (apart p x y) (sym (condition_number p ρ low c))) (number_given (apart p (f u).0 (f u).1 (f u).2))

    apart_both_fixes : (c : Boolean) (x y : Variable) → ((ρ : Val) → ◌≡◌ {A = ℕ × ℕ × ℕ} (ρ x, ρ y, bit_number_of ρ c) (f (at ρ))) → Fixes p at nothing (apart_both p x y (condition c)) Pre R (λ x. tt)
    apart_both_fixes c x y e = record {
      sound = λ ρ low h m r. (apart_sound ρ low h c x y m (e ρ) r, refl);
      own = λ u h s. ((apart_number p (f u), λ m. tt), λ ρ low q. ((apart_below p positive (f u), apart_given ρ low u q c (ρ x) (ρ y) (e ρ)), λ m em. (apart_plays ρ low u q h s c x y m (e ρ) em, refl)));
    }

    -- a constant and a variable
    apart_from_fixes : (c : Boolean) (a : ℕ) (v : Variable) → ((ρ : Val) → Pre (at ρ) → ◌≡◌ {A = ℕ × ℕ × ℕ} (a % p, ρ v, bit_number_of ρ c) (f (at ρ))) → Fixes p at nothing (apart_from p a v (condition c)) Pre R (λ x. tt)
    apart_from_fixes c a v e = record {
      sound = λ ρ low h x ex m r. (apart_sound ρ low h c x v m (constant ρ low h x ex) r, refl);
      own = λ u h s. (
        (λ x. (apart_number p (f u), λ m. tt)),
        λ ρ low q x ex.
            let k : Pre (at ρ) = subst Pre (sym q) h in
            ((apart_below p positive (f u), apart_given ρ low u q c (a % p) (ρ v) (e ρ k)), λ m em. (apart_plays ρ low u q h s c x v m (constant ρ low k x ex) em, refl)),
      );
    }
      where
        constant : (ρ : Val) → Low p ρ → Pre (at ρ) → (x : Variable) → ρ x ≡ (a * ρ One + 0) % p → ◌≡◌ {A = ℕ × ℕ × ℕ} (ρ x, ρ v, bit_number_of ρ c) (f (at ρ))
        constant ρ low h x ex = ap (λ (t : ℕ). (t, ρ v, bit_number_of ρ c)) (ex ∙ constant_value p a (ρ One) low.one) ∙ e ρ h

  -- the same numbers with the first two exchanged
  abbrev turned : ℕ × ℕ × ℕ → ℕ × ℕ × ℕ
  turned x = (x.1, x.0, x.2)

  pub unequal_fixes : (a b : FpVar) (c : Boolean) → Fixes p (λ ρ. guarded_fp ρ (a, b, c)) nothing (unequal_script p a b c) (GuardedBelow p) UnequalIf (λ x. tt)
  unequal_fixes (Constant a) (Constant b) c = on_fixes p P (GuardedBelow p) UnequalIf (not (same_constants p a b)) c (λ ρ h. h.2)
      (λ t ρ h q. false-eqb a b (sym (sym (same_below p a b h.0 h.1) ∙ flip_true (same_constants p a b) t)))
      (λ t ρ h. (
        λ f. by_bit (λ n. (n ≡ 1 → a ≢ b) → n ≡ 0) (λ f. refl) (λ f. absurd (f refl (true-eqb a b (sym (sym (same_below p a b h.0 h.1) ∙ flip_false (same_constants p a b) t))))) (bit_number_of ρ c) h.2 f,
        λ e q. absurd (omega arith),
      ))
    where
      flip_true : (t : Bool) → not t ≡ true → t ≡ false
      flip_true true e = sym e
      flip_true false e = refl

      flip_false : (t : Bool) → not t ≡ false → t ≡ true
      flip_false true e = refl
      flip_false false e = sym e
  unequal_fixes (Constant a) (Var b) c = apart_from_fixes _ (GuardedBelow p) UnequalIf (λ x. x) (λ x h. h.2) (λ x h. (λ f. f, λ f. f)) c a b.variable (λ ρ h. ap (λ (t : ℕ). (t, ρ b.variable, bit_number_of ρ c)) (mod-eq_of_lt h.0))
  unequal_fixes (Var a) (Constant b) c = apart_from_fixes _ (GuardedBelow p) UnequalIf turned (λ x h. h.2) (λ x h. (λ f q e. f q (sym e), λ f q e. f q (sym e))) c b a.variable (λ ρ h. ap (λ (t : ℕ). (t, ρ a.variable, bit_number_of ρ c)) (mod-eq_of_lt h.1))
  unequal_fixes (Var a) (Var b) c = apart_both_fixes _ (GuardedBelow p) UnequalIf (λ x. x) (λ x h. h.2) (λ x h. (λ f. f, λ f. f)) c a.variable b.variable (λ ρ. refl)

  -- ---- the laws
  pub mul_equals_law : Law p triple_fp nothing (λ i. mul_equals_script p i.0 i.1 i.2) (ThreeBelow p) (λ x u. ProductIs p x) (ProductIs p) (λ x. tt)
  mul_equals_law = fixes_law (λ i. mul_equals_fixes i.0 i.1 i.2)

  pub square_equals_law : Law p pair_fp nothing (λ i. square_equals_script p i.0 i.1) (BothBelow p) (λ x u. SquareIs p x) (SquareIs p) (λ x. tt)
  square_equals_law = fixes_law (λ i. square_equals_fixes i.0 i.1)

  pub equal_law : Law p guarded_fp nothing (λ i. equal_script p i.0 i.1 i.2) (GuardedBelow p) (λ x u. EqualIf x) EqualIf (λ x. tt)
  equal_law = fixes_law (λ i. equal_fixes i.0 i.1 i.2)

  -- where the condition is 1 and the numbers are equal, its witness has no value: what is computed is only said where the statement holds
  pub unequal_law : Law p guarded_fp nothing (λ i. unequal_script p i.0 i.1 i.2) (GuardedBelow p) (λ x u. UnequalIf x) UnequalIf (λ x. tt)
  unequal_law = fixes_law (λ i. unequal_fixes i.0 i.1 i.2)
