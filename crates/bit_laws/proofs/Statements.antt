-- Statements on bits: under a condition two are equal, or differ; one is 0.
use Rattle.std.proofs.Common.{◌≡◌, ◌≢◌, ◌↔◌, ℕ, ◌+◌, ◌-◌, ◌*◌, ◌%◌, ◌<◌, ◌≤◌, Bool, true, false, not, List, [], ◌∷◌, sym, refl, ap, ◌∙◌, subst, arith, mod-eq_of_lt, mul-zero, mul-one, true≢false}
use native.Mathlib.Nat.{zero-mod}
use Rattle.arith.proofs.Ring.{done}
use Rattle.arith.proofs.Solve.{reads, none, times, puts, by_mod, by_same}
use Rattle.relations.specs.declared.term.Variable.TheVariants.{One}
use Rattle.relations.specs.declared.term.Term.{Term}
use Rattle.relations.specs.declared.fault.GadgetFault.TheVariants.{Unsatisfiable}
use Rattle.relations.specs.Script.{answer, row}
use Rattle.relations.specs.Terms.{just}
use Rattle.allocated.specs.declared.allocated.AllocatedBool.{AllocatedBool}
use Rattle.boolean.specs.declared.bits.Boolean.{Boolean}
use Rattle.boolean.specs.declared.bits.Boolean.TheVariants.{Constant, Var}
use Rattle.allocated.specs.Gates.{bit, differ}
use Rattle.boolean.specs.Booleans.{bit_terms, on_constants, under, difference, together, equal_script, unequal_script, zero_script}
use Rattle.laws.specs.Law.{Val, Low, RowMet, total, Law, There, Constants, TermsThere, Orderly}
use Rattle.laws.proofs.Frame.{nothing}
use Rattle.bit_laws.specs.Bits.{bit_number_of, ThereBit, Three, EqualIf, UnequalIf}
use Rattle.bit_laws.proofs.Choices.{by_bit, by_bits, triple, ThereThree}
use Rattle.bit_laws.proofs.Fixes.{Fixes, fixes_answer, fixes_refuse, fixes_row, fixes_law, Neat, neat_answer, neat_refuse, neat_orderly}

-- ---- sums of two bits
-- x less y is 0 where they are equal
pub less_says : (p x y : ℕ) → 1 < p → x < p → y < p → ((1 * x + ((p - 1) * y + 0)) % p ≡ 0) ↔ (x ≡ y)
less_says p x y above lx ly = (
  λ h. by_same p (omega arith) (x ∷ y ∷ []) (times 1 h (search reads depth 9) none) lx ly (search reads depth 9) done,
  λ e. by_mod p (omega arith) (x ∷ y ∷ []) (puts e (search reads) none) (search reads depth 9) done ∙ zero-mod p,
)

-- a number alone is 0 modulo p where it is 0
alone_says : (p x : ℕ) → x < p → ((1 * x + 0) % p ≡ 0) ↔ (x ≡ 0)
alone_says p x lx = let e : (1 * x + 0) % p ≡ x = ap (λ (t : ℕ). t % p) (omega arith) ∙ mod-eq_of_lt lx in (λ h. sym e ∙ h, λ h. e ∙ h)

-- the sum of two bits is 1 where they differ
sum_says : (p x y : ℕ) → 2 < p → x ≤ 1 → y ≤ 1 → ((x + y) % p ≡ 1) ↔ (x ≢ y)
sum_says p x y two hx hy =
    let e : (x + y) % p ≡ x + y = mod-eq_of_lt (omega arith) in
    (λ h q. omega arith, λ ne. e ∙ by_bits (λ x y. x ≢ y → x + y ≡ 1) (λ ne. absurd (ne refl)) (λ ne. refl) (λ ne. refl) (λ ne. absurd (ne refl)) x y hx hy ne)

module _ (p : ℕ) (two : 2 < p) (ρ : Val) (low : Low p ρ) where
  bit_total : (b : Boolean) → total ρ (bit_terms b) ≡ bit_number_of ρ b
  bit_total (Constant true) = omega (arith, low.one)
  bit_total (Constant false) = refl
  bit_total (Var a) = omega arith

  -- what two bits that are not both constant say by their difference, and by their sum
  abbrev Less : Boolean → Boolean → Type 0
  Less a b = (total ρ (difference p a b) % p ≡ 0) ↔ (bit_number_of ρ a ≡ bit_number_of ρ b)

  abbrev Summed : Boolean → Boolean → Type 0
  Summed a b = (total ρ (together a b) % p ≡ 1) ↔ (bit_number_of ρ a ≢ bit_number_of ρ b)

  less_of : (x y : ℕ) → x < p → y < p → (D : ℕ) → D ≡ 1 * y + ((p - 1) * x + 0) → (D % p ≡ 0) ↔ (x ≡ y)
  less_of x y lx ly D e = let h = less_says p y x (omega arith) ly lx in (λ z. sym (h.0 (ap (λ (t : ℕ). t % p) (sym e) ∙ z)), λ z. ap (λ (t : ℕ). t % p) e ∙ h.1 (sym z))

  sum_of : (x y : ℕ) → x ≤ 1 → y ≤ 1 → (D : ℕ) → D ≡ x + y → (D % p ≡ 1) ↔ (x ≢ y)
  sum_of x y hx hy D e = let h = sum_says p x y two hx hy in (λ z. h.0 (ap (λ (t : ℕ). t % p) (sym e) ∙ z), λ z. ap (λ (t : ℕ). t % p) e ∙ h.1 z)

  variable_less : (a : AllocatedBool) (b : Boolean) → bit_number_of ρ b ≤ 1 → Less (Var a) b
  variable_less a (Constant true) hb = less_of (ρ a.variable) 1 (low.low a.variable) (omega arith) _ (ap (λ (o : ℕ). 1 * o + ((p - 1) * ρ a.variable + 0)) low.one)
  variable_less a (Constant false) hb = alone_says p (ρ a.variable) (low.low a.variable)
  variable_less a (Var b) hb = less_of (ρ a.variable) (ρ b.variable) (low.low a.variable) (low.low b.variable) _ refl

  constant_less : (x : Bool) (b : AllocatedBool) → Less (Constant x) (Var b)
  constant_less true b = let h = variable_less b (Constant true) (omega arith) in (λ z. sym (h.0 z), λ z. h.1 (sym z))
  constant_less false b = let h = alone_says p (ρ b.variable) (low.low b.variable) in (λ z. sym (h.0 z), λ z. h.1 (sym z))

  variable_sum : (a : AllocatedBool) (b : Boolean) → ρ a.variable ≤ 1 → bit_number_of ρ b ≤ 1 → Summed (Var a) b
  variable_sum a (Constant true) ha hb = sum_of (ρ a.variable) 1 ha hb _ (omega (arith, low.one))
  variable_sum a (Constant false) ha hb = sum_of (ρ a.variable) 0 ha hb _ (omega arith)
  variable_sum a (Var b) ha hb = sum_of (ρ a.variable) (ρ b.variable) ha hb _ (omega arith)

  constant_sum : (x : Bool) (b : AllocatedBool) → ρ b.variable ≤ 1 → Summed (Constant x) (Var b)
  constant_sum true b hb = sum_of 1 (ρ b.variable) (omega arith) hb _ (omega (arith, low.one))
  constant_sum false b hb = sum_of 0 (ρ b.variable) (omega arith) hb _ (omega arith)

-- ---- rows under a condition
-- D c = 0
pub zero_under : (p D d c : ℕ) (A : Type 0) → d ≡ c → c ≤ 1 → ((D % p ≡ 0) ↔ A) → ((D * d) % p ≡ 0 % p) ↔ (c ≡ 1 → A)
zero_under p D d c A e hc says = by_bit (λ c. d ≡ c → ((D * d) % p ≡ 0 % p) ↔ (c ≡ 1 → A))
    (λ e. (λ r q. absurd (omega arith), λ f. ap (λ (t : ℕ). t % p) (ap (λ (t : ℕ). D * t) e ∙ mul-zero D)))
    (λ e. let z : (D * d) % p ≡ D % p = ap (λ (t : ℕ). t % p) (ap (λ (t : ℕ). D * t) e ∙ mul-one D) in (λ r q. says.0 (sym z ∙ r ∙ zero-mod p), λ f. z ∙ says.1 (f refl) ∙ sym (zero-mod p)))
    c hc e

-- D c = c
one_under : (p D d c : ℕ) (A : Type 0) → 1 < p → d ≡ c → c ≤ 1 → ((D % p ≡ 1) ↔ A) → ((D * d) % p ≡ d % p) ↔ (c ≡ 1 → A)
one_under p D d c A above e hc says = by_bit (λ c. d ≡ c → ((D * d) % p ≡ d % p) ↔ (c ≡ 1 → A))
    (λ e. (λ r q. absurd (omega arith), λ f. ap (λ (t : ℕ). t % p) (ap (λ (t : ℕ). D * t) e ∙ mul-zero D ∙ sym e)))
    (λ e. let z : (D * d) % p ≡ D % p = ap (λ (t : ℕ). t % p) (ap (λ (t : ℕ). D * t) e ∙ mul-one D) in
    let o : d % p ≡ 1 = ap (λ (t : ℕ). t % p) e ∙ mod-eq_of_lt above in (λ r q. says.0 (sym z ∙ r ∙ o), λ f. z ∙ says.1 (f refl) ∙ sym o))
    c hc e

-- ---- the scripts
-- two constants
told_same : (x y : Bool) → not (differ x y) ≡ true → bit x ≡ bit y
told_same true true e = refl
told_same false false e = refl
told_same true false e = absurd (true≢false (sym e))
told_same false true e = absurd (true≢false (sym e))

told_other : (x y : Bool) → differ x y ≡ true → bit x ≢ bit y
told_other true true e = absurd (true≢false (sym e))
told_other false false e = absurd (true≢false (sym e))
told_other true false e = λ z. omega arith
told_other false true e = λ z. omega arith

flip_true : (b : Bool) → not b ≡ false → b ≡ true
flip_true true e = refl
flip_true false e = absurd (true≢false e)

flip_false : (b : Bool) → b ≡ false → not b ≡ true
flip_false true e = absurd (true≢false e)
flip_false false e = refl

module _ (p : ℕ) (two : 2 < p) where
  -- a row under a condition that is not 0 forces what it says; where the condition is the constant 0, nothing is owed
  under_fixes : (R : ℕ × ℕ × ℕ → Type 0) (a b c : Boolean) (ts us vs : List Term) → ((x : ℕ × ℕ × ℕ) → x.2 ≡ 0 → R x)
      → ((ρ : Val) → Low p ρ → Three (triple ρ (a, b, c)) → RowMet p ρ ts us vs ↔ R (triple ρ (a, b, c))) → Fixes p (λ ρ. triple ρ (a, b, c)) nothing (under c (row ts us vs (answer tt))) Three R (λ x. tt)
  under_fixes R a b (Constant false) ts us vs free met = fixes_answer tt Three R (λ x. tt) (λ ρ low h. (free (triple ρ (a, b, Constant false)) refl, refl))
  under_fixes R a b (Constant true) ts us vs free met = fixes_row ts us vs tt Three R (λ x. tt) met (λ ρ low h. refl)
  under_fixes R a b (Var c) ts us vs free met = fixes_row ts us vs tt Three R (λ x. tt) met (λ ρ low h. refl)

  -- a statement on constants
  on_fixes : (R : ℕ × ℕ × ℕ → Type 0) (t x y : Bool) (c : Boolean) → ((x : ℕ × ℕ × ℕ) → x.2 ≡ 0 → R x) → (t ≡ true → (n : ℕ) → R (bit x, bit y, n)) → (t ≡ false → R (bit x, bit y, 1) → ⊥)
      → Fixes p (λ ρ. triple ρ (Constant x, Constant y, c)) nothing (on_constants t c) Three R (λ x. tt)
  on_fixes R true x y c free holds fails = fixes_answer tt Three R (λ x. tt) (λ ρ low h. (holds refl (bit_number_of ρ c), refl))
  on_fixes R false x y (Constant true) free holds fails = fixes_refuse Unsatisfiable Three R (λ x. tt)
  on_fixes R false x y (Constant false) free holds fails = fixes_answer tt Three R (λ x. tt) (λ ρ low h. (free (bit x, bit y, 0) refl, refl))
  on_fixes R false x y (Var c) free holds fails = fixes_row (just One) (just c.variable) [] tt Three R (λ x. tt) met (λ ρ low h. refl)
    where
      met : (ρ : Val) → Low p ρ → Three (bit x, bit y, ρ c.variable) → RowMet p ρ (just One) (just c.variable) [] ↔ R (bit x, bit y, ρ c.variable)
      met ρ low h =
          let one : (1 * ρ One + 0) % p ≡ 1 = ap (λ (t : ℕ). t % p) (omega (arith, low.one)) ∙ mod-eq_of_lt (omega arith) in
          let u = zero_under p (1 * ρ One + 0) (1 * ρ c.variable + 0) (ρ c.variable) ⊥ (omega arith) h.2 (λ z. omega arith, λ f. absurd f) in (
            λ r. let q = u.0 r in free (bit x, bit y, ρ c.variable) (by_bit (λ n. (n ≡ 1 → ⊥) → n ≡ 0) (λ f. refl) (λ f. absurd (f refl)) (ρ c.variable) h.2 q),
            λ r. u.1 (λ q. fails refl (subst (λ (n : ℕ). R (bit x, bit y, n)) q r)),
          )

  free_equal : (x : ℕ × ℕ × ℕ) → x.2 ≡ 0 → EqualIf x
  free_equal x e = λ q. absurd (omega arith)

  free_unequal : (x : ℕ × ℕ × ℕ) → x.2 ≡ 0 → UnequalIf x
  free_unequal x e = λ q. absurd (omega arith)

  pub equal_fixes : (a b c : Boolean) → Fixes p (λ ρ. triple ρ (a, b, c)) nothing (equal_script p a b c) Three EqualIf (λ x. tt)
  equal_fixes (Constant x) (Constant y) c = on_fixes EqualIf (not (differ x y)) x y c free_equal (λ t n q. told_same x y t) (λ t e. told_other x y (flip_true (differ x y) t) (e refl))
  equal_fixes (Constant x) (Var b) c = under_fixes EqualIf (Constant x) (Var b) c (difference p (Constant x) (Var b)) (bit_terms c) [] free_equal
      (λ ρ low h. zero_under p (total ρ (difference p (Constant x) (Var b))) (total ρ (bit_terms c)) (bit_number_of ρ c) (bit x ≡ ρ b.variable) (bit_total p two ρ low c) h.2 (constant_less p two ρ low x b))
  equal_fixes (Var a) b c = under_fixes EqualIf (Var a) b c (difference p (Var a) b) (bit_terms c) [] free_equal
      (λ ρ low h. zero_under p (total ρ (difference p (Var a) b)) (total ρ (bit_terms c)) (bit_number_of ρ c) (ρ a.variable ≡ bit_number_of ρ b) (bit_total p two ρ low c) h.2 (variable_less p two ρ low a b h.1))

  pub unequal_fixes : (a b c : Boolean) → Fixes p (λ ρ. triple ρ (a, b, c)) nothing (unequal_script p a b c) Three UnequalIf (λ x. tt)
  unequal_fixes (Constant x) (Constant y) c = on_fixes UnequalIf (differ x y) x y c free_unequal (λ t n q. told_other x y t) (λ t e. e refl (told_same x y (flip_false (differ x y) t)))
  unequal_fixes (Constant x) (Var b) c = under_fixes UnequalIf (Constant x) (Var b) c (together (Constant x) (Var b)) (bit_terms c) (bit_terms c) free_unequal
      (λ ρ low h. one_under p (total ρ (together (Constant x) (Var b))) (total ρ (bit_terms c)) (bit_number_of ρ c) (bit x ≢ ρ b.variable) (omega arith) (bit_total p two ρ low c) h.2 (constant_sum p two ρ low x b h.1))
  unequal_fixes (Var a) b c = under_fixes UnequalIf (Var a) b c (together (Var a) b) (bit_terms c) (bit_terms c) free_unequal
      (λ ρ low h. one_under p (total ρ (together (Var a) b)) (total ρ (bit_terms c)) (bit_number_of ρ c) (ρ a.variable ≢ bit_number_of ρ b) (omega arith) (bit_total p two ρ low c) h.2 (variable_sum p two ρ low a b h.0 h.1))

  pub zero_fixes : (a : Boolean) → Fixes p (λ ρ. bit_number_of ρ a) nothing (zero_script a) (λ x. x ≤ 1) (λ x. x ≡ 0) (λ x. tt)
  zero_fixes (Constant true) = fixes_refuse Unsatisfiable (λ x. x ≤ 1) (λ x. x ≡ 0) (λ x. tt)
  zero_fixes (Constant false) = fixes_answer tt (λ x. x ≤ 1) (λ x. x ≡ 0) (λ x. tt) (λ ρ low h. (refl, refl))
  zero_fixes (Var a) = fixes_row (just a.variable) (just One) [] tt (λ x. x ≤ 1) (λ x. x ≡ 0) (λ x. tt) met (λ ρ low h. refl)
    where
      met : (ρ : Val) → Low p ρ → ρ a.variable ≤ 1 → RowMet p ρ (just a.variable) (just One) [] ↔ (ρ a.variable ≡ 0)
      met ρ low h =
          let u = zero_under p (1 * ρ a.variable + 0) (1 * ρ One + 0) (ρ One) (ρ a.variable ≡ 0) (omega arith) (omega (arith, low.one)) (alone_says p (ρ a.variable) (low.low a.variable)) in
          (λ r. u.0 r low.one, λ e. u.1 (λ q. e))

  -- ---- the laws
  pub equal_law : Law p triple nothing (λ i. equal_script p i.0 i.1 i.2) Three (λ x u. EqualIf x) EqualIf (λ x. tt)
  equal_law = fixes_law (λ i. equal_fixes i.0 i.1 i.2)

  pub unequal_law : Law p triple nothing (λ i. unequal_script p i.0 i.1 i.2) Three (λ x u. UnequalIf x) UnequalIf (λ x. tt)
  unequal_law = fixes_law (λ i. unequal_fixes i.0 i.1 i.2)

  pub zero_law : Law p bit_number_of nothing zero_script (λ x. x ≤ 1) (λ x u. x ≡ 0) (λ x. x ≡ 0) (λ x. tt)
  zero_law = fixes_law zero_fixes

-- ---- in order
bit_there : (h : There) → Constants h → (b : Boolean) → ThereBit h b → TermsThere h (bit_terms b)
bit_there h z (Constant true) t = (z.one, tt)
bit_there h z (Constant false) t = tt
bit_there h z (Var a) t = (t, tt)

difference_there : (p : ℕ) (h : There) → Constants h → (a b : Boolean) → ThereBit h a → ThereBit h b → TermsThere h (difference p a b)
difference_there p h z (Constant x) (Constant y) t u = tt
difference_there p h z (Constant true) (Var b) t u = (z.one, (u, tt))
difference_there p h z (Constant false) (Var b) t u = (u, tt)
difference_there p h z (Var a) (Constant true) t u = (z.one, (t, tt))
difference_there p h z (Var a) (Constant false) t u = (t, tt)
difference_there p h z (Var a) (Var b) t u = (u, (t, tt))

together_there : (h : There) → Constants h → (a b : Boolean) → ThereBit h a → ThereBit h b → TermsThere h (together a b)
together_there h z (Constant x) (Constant y) t u = tt
together_there h z (Constant true) (Var b) t u = (z.one, (u, tt))
together_there h z (Constant false) (Var b) t u = (u, tt)
together_there h z (Var a) (Constant true) t u = (z.one, (t, tt))
together_there h z (Var a) (Constant false) t u = (t, tt)
together_there h z (Var a) (Var b) t u = (u, (t, tt))

-- a statement answers nothing
abbrev pub Silent : There → Unit {0} → Type 0
Silent h u = Unit {0}

module _ (p : ℕ) where
  pub row_neat : (KI : There → Type 0) (ts us vs : List Term) → ((h : There) → Constants h → KI h → TermsThere h ts × TermsThere h us × TermsThere h vs) → Neat p (row ts us vs (answer tt)) KI Silent
  row_neat KI ts us vs f = record { sees = λ h z k. let t = f h z k in (t.0, t.1, t.2, tt); tidy = tt; steady = tt }

  under_neat : (KI : There → Type 0) (c : Boolean) (ts us vs : List Term) → ((h : There) → Constants h → KI h → TermsThere h ts × TermsThere h us × TermsThere h vs) → Neat p (under c (row ts us vs (answer tt))) KI Silent
  under_neat KI (Constant false) ts us vs f = neat_answer tt KI Silent (λ h k. tt)
  under_neat KI (Constant true) ts us vs f = row_neat KI ts us vs f
  under_neat KI (Var c) ts us vs f = row_neat KI ts us vs f

  pub on_neat : (KI : There → Type 0) (t : Bool) (c : Boolean) → ((h : There) → KI h → ThereBit h c) → Neat p (on_constants t c) KI Silent
  on_neat KI true c f = neat_answer tt KI Silent (λ h k. tt)
  on_neat KI false (Constant true) f = neat_refuse Unsatisfiable KI Silent
  on_neat KI false (Constant false) f = neat_answer tt KI Silent (λ h k. tt)
  on_neat KI false (Var c) f = row_neat KI (just One) (just c.variable) [] (λ h z k. ((z.one, tt), (f h k, tt), tt))

  pub equal_neat : (a b c : Boolean) → Neat p (equal_script p a b c) (λ h. ThereThree h (a, b, c)) Silent
  equal_neat (Constant x) (Constant y) c = on_neat (λ h. ThereThree h (Constant x, Constant y, c)) (not (differ x y)) c (λ h t. t.2)
  equal_neat (Constant x) (Var b) c = under_neat (λ h. ThereThree h (Constant x, Var b, c)) c (difference p (Constant x) (Var b)) (bit_terms c) [] (λ h z t. (difference_there p h z (Constant x) (Var b) t.0 t.1, bit_there h z c t.2, tt))
  equal_neat (Var a) b c = under_neat (λ h. ThereThree h (Var a, b, c)) c (difference p (Var a) b) (bit_terms c) [] (λ h z t. (difference_there p h z (Var a) b t.0 t.1, bit_there h z c t.2, tt))

  pub unequal_neat : (a b c : Boolean) → Neat p (unequal_script p a b c) (λ h. ThereThree h (a, b, c)) Silent
  unequal_neat (Constant x) (Constant y) c = on_neat (λ h. ThereThree h (Constant x, Constant y, c)) (differ x y) c (λ h t. t.2)
  unequal_neat (Constant x) (Var b) c = under_neat (λ h. ThereThree h (Constant x, Var b, c)) c (together (Constant x) (Var b)) (bit_terms c) (bit_terms c) (λ h z t. (together_there h z (Constant x) (Var b) t.0 t.1, bit_there h z c t.2, bit_there h z c t.2))
  unequal_neat (Var a) b c = under_neat (λ h. ThereThree h (Var a, b, c)) c (together (Var a) b) (bit_terms c) (bit_terms c) (λ h z t. (together_there h z (Var a) b t.0 t.1, bit_there h z c t.2, bit_there h z c t.2))

  pub zero_neat : (a : Boolean) → Neat p (zero_script a) (λ h. ThereBit h a) Silent
  zero_neat (Constant true) = neat_refuse Unsatisfiable (λ h. Unit {0}) Silent
  zero_neat (Constant false) = neat_answer tt (λ h. Unit {0}) Silent (λ h k. tt)
  zero_neat (Var a) = row_neat (λ h. ThereBit h (Var a)) (just a.variable) (just One) [] (λ h z t. ((t, tt), (z.one, tt), tt))

  pub equal_orderly : Orderly p (λ i. equal_script p i.0 i.1 i.2) ThereThree Silent
  equal_orderly = neat_orderly (λ i. equal_neat i.0 i.1 i.2)

  pub unequal_orderly : Orderly p (λ i. unequal_script p i.0 i.1 i.2) ThereThree Silent
  unequal_orderly = neat_orderly (λ i. unequal_neat i.0 i.1 i.2)

  pub zero_orderly : Orderly p zero_script ThereBit Silent
  zero_orderly = neat_orderly zero_neat
