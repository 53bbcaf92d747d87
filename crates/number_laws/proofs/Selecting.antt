-- The choice of one of two numbers by a bit.
use Rattle.std.proofs.Common.{◌≡◌, ℕ, ◌+◌, ◌-◌, ◌*◌, ◌%◌, ◌<◌, ◌≤◌, Bool, true, false, cond, [], ◌∷◌, sym, refl, ap, ◌∙◌, subst, arith, mod-eq_of_lt}
use Rattle.arith.specs.Number.{Prime}
use Rattle.arith.proofs.Ring.{done}
use Rattle.arith.proofs.Solve.{reads, none, puts, by_same}
use Rattle.relations.specs.declared.term.Variable.{Variable}
use Rattle.relations.specs.declared.term.Variable.TheVariants.{One}
use Rattle.relations.specs.Script.{then}
use Rattle.relations.specs.Terms.{just, less, times as times_variable}
use Rattle.allocated.specs.declared.allocated.AllocatedBool.{AllocatedBool}
use Rattle.allocated.specs.Gates.{truth}
use Rattle.boolean.specs.declared.bits.Boolean.{Boolean}
use Rattle.boolean.specs.declared.bits.Boolean.TheVariants.{Constant as constant_bit, Var as variable_bit}
use Rattle.fp_var.specs.declared.numbers.FpVar.{FpVar}
use Rattle.fp_var.specs.declared.numbers.FpVar.TheVariants.{Constant, Var}
use Rattle.fp_var.specs.Numbers.{linear, scaled, choice_of_constants, select_script}
use Rattle.laws.specs.Law.{Val, Low, RowMet, Must}
use Rattle.laws.proofs.Frame.{must_then, Function, Pure, pure_then}
use Rattle.bit_laws.specs.Bits.{picked}
use Rattle.bit_laws.proofs.Rows.{one_less}
use Rattle.bit_laws.proofs.Choices.{by_bit, choice_forced, choice_met}
use Rattle.bit_laws.proofs.Fixes.{Fixes, Always, fixes_answer, fixes_pure, fixes_function}
use Rattle.number_laws.specs.Numbers.{fp_number_of, choice_fp, ChoiceBelow}
use Rattle.number_laws.proofs.Shapes.{constant_value, scaled_pure, scaled_must}

-- ---- two constants
-- the first times the condition c, and the second times its opposite, together
constants_mixed : (p a b c i o x y v : ℕ) → 0 < p → a < p → b < p → v < p → c ≤ 1 → i ≡ c → o ≡ 1 - c → x ≡ (a * i) % p → y ≡ (b * o) % p → v ≡ (1 * x + (1 * y + 0)) % p → v ≡ cond (truth c) a b
constants_mixed p a b c i o x y v pos la lb lv hc ei eo ex ey ev = by_bit (λ c. i ≡ c → o ≡ 1 - c → v ≡ cond (truth c) a b)
    (λ ei eo. by_same p pos (a ∷ b ∷ i ∷ o ∷ x ∷ y ∷ v ∷ []) (puts ei (search reads) (puts eo (search reads) (puts ex (search reads depth 9) (puts ey (search reads depth 9) (puts ev (search reads depth 9) none))))) lv lb (search reads depth 9) done)
    (λ ei eo. by_same p pos (a ∷ b ∷ i ∷ o ∷ x ∷ y ∷ v ∷ []) (puts ei (search reads) (puts eo (search reads) (puts ex (search reads depth 9) (puts ey (search reads depth 9) (puts ev (search reads depth 9) none))))) lv la (search reads depth 9) done)
    c hc ei eo

-- a variable alone, as a sum
alone : (p x : ℕ) → x < p → (1 * x + 0) % p ≡ x
alone p x l = ap (λ (t : ℕ). t % p) (omega arith) ∙ mod-eq_of_lt l

constants_pure : (p : ℕ) (c : AllocatedBool) (a b : ℕ) → Pure (choice_of_constants p c a b)
constants_pure p c a b = λ i t o.
    pure_then (scaled p a i) (λ x. then (scaled p b o) (λ y. linear (times_variable 1 x ∷ just y))) (scaled_pure p a i)
    (λ x. pure_then (scaled p b o) (λ y. linear (times_variable 1 x ∷ just y)) (scaled_pure p b o) (λ y v. tt))

module _ (p : ℕ) (P : Prime p) where
  pos : 0 < p
  pos = omega (arith, P.0)

  constants_must : (ρ : Val) → Low p ρ → (c : AllocatedBool) (a b : ℕ) → ρ c.variable ≤ 1 → a < p → b < p → Must p ρ (choice_of_constants p c a b) (λ o. fp_number_of ρ o ≡ picked (ρ c.variable, a, b))
  constants_must ρ low c a b hc la lb = λ i ei t et o eo.
      must_then p ρ (scaled p a i) (λ x. then (scaled p b o) (λ y. linear (times_variable 1 x ∷ just y))) (λ x. ρ x ≡ (a * ρ i) % p) (λ v. fp_number_of ρ v ≡ picked (ρ c.variable, a, b)) (scaled_must p a i ρ low)
      (λ x ex. must_then p ρ (scaled p b o) (λ y. linear (times_variable 1 x ∷ just y)) (λ y. ρ y ≡ (b * ρ o) % p) (λ v. fp_number_of ρ v ≡ picked (ρ c.variable, a, b)) (scaled_must p b o ρ low)
      (λ y ey v ev. constants_mixed p a b (ρ c.variable) (ρ i) (ρ o) (ρ x) (ρ y) (ρ v) pos la lb (low.low v) hc (ei ∙ alone p (ρ c.variable) (low.low c.variable))
      (eo ∙ alone p (ρ t) (low.low t) ∙ et ∙ one_less p (ρ One) (ρ c.variable) P.0 low.one hc) ex ey ev))

  -- ---- one of two variables, each of which may be a constant's combination
  pub picked_below : (x : ℕ × ℕ × ℕ) → ChoiceBelow p x → picked x < p
  picked_below x h = go (truth x.0)
    where
      go : (t : Bool) → cond t x.1 x.2 < p
      go true = h.1
      go false = h.2

  -- the row of a choice of the variables c, x and y, whose numbers are u
  abbrev Chooses : Val → Variable → Variable → Variable → Variable → Type 0
  Chooses ρ c x y w = RowMet p ρ (just c) (less p x y) (less p w y)

  chosen_sound : (ρ : Val) → Low p ρ → (c x y w : Variable) (u : ℕ × ℕ × ℕ) → (ρ c, ρ x, ρ y) ≡ u → ChoiceBelow p u → Chooses ρ c x y w → ρ w ≡ picked u
  chosen_sound ρ low c x y w u e h r = choice_forced p (ρ c) (ρ x) (ρ y) (ρ w) pos (subst (ChoiceBelow p) (sym e) h).0 (low.low x) (low.low y) (low.low w) r ∙ ap picked e

  chosen_plays : (ρ : Val) → Low p ρ → (c x y : Variable) (u : ℕ × ℕ × ℕ) → (ρ c, ρ x, ρ y) ≡ u → ChoiceBelow p u
      → ((picked u < p) × (picked (ρ c, ρ x, ρ y) ≡ picked u)) × ((w : Variable) → ρ w ≡ picked u → Chooses ρ c x y w × (ρ w ≡ picked u))
  chosen_plays ρ low c x y u e h = ((picked_below u h, ap picked e), λ w q. (choice_met p (ρ c) (ρ x) (ρ y) (ρ w) pos (subst (ChoiceBelow p) (sym e) h).0 (q ∙ sym (ap picked e)), q))

  -- the number of a constant's combination
  constant_is : (ρ : Val) → Low p ρ → (a : ℕ) → a < p → (x : Variable) → ρ x ≡ (a * ρ One + 0) % p → ρ x ≡ a
  constant_is ρ low a l x e = e ∙ constant_value p a (ρ One) low.one ∙ mod-eq_of_lt l

  pub select_fixes : (c : Boolean) (a b : FpVar) → Fixes p (λ ρ. choice_fp ρ (c, a, b)) fp_number_of (select_script p c a b) (ChoiceBelow p) Always picked
  select_fixes (constant_bit true) a b = fixes_answer a (ChoiceBelow p) Always picked (λ ρ low h. (tt, refl))
  select_fixes (constant_bit false) a b = fixes_answer b (ChoiceBelow p) Always picked (λ ρ low h. (tt, refl))
  select_fixes (variable_bit c) (Constant a) (Constant b) = fixes_pure (choice_of_constants p c a b) (ChoiceBelow p) picked (constants_pure p c a b) (λ ρ low h. constants_must ρ low c a b h.0 h.1 h.2)
  select_fixes (variable_bit c) (Constant a) (Var b) = record {
    sound = λ ρ low h x ex w r. (tt, chosen_sound ρ low c.variable x b.variable w (ρ c.variable, a, ρ b.variable) (λ i. (ρ c.variable, constant_is ρ low a h.1 x ex i, ρ b.variable)) h r);
    own = λ u h t. ((λ x. (picked u, λ w. tt)), λ ρ low q x ex. chosen_plays ρ low c.variable x b.variable u ((λ i. (ρ c.variable, constant_is ρ low a (subst (ChoiceBelow p) (sym q) h).1 x ex i, ρ b.variable)) ∙ q) h);
  }
  select_fixes (variable_bit c) (Var a) (Constant b) = record {
    sound = λ ρ low h y ey w r. (tt, chosen_sound ρ low c.variable a.variable y w (ρ c.variable, ρ a.variable, b) (λ i. (ρ c.variable, ρ a.variable, constant_is ρ low b h.2 y ey i)) h r);
    own = λ u h t. ((λ y. (picked u, λ w. tt)), λ ρ low q y ey. chosen_plays ρ low c.variable a.variable y u ((λ i. (ρ c.variable, ρ a.variable, constant_is ρ low b (subst (ChoiceBelow p) (sym q) h).2 y ey i)) ∙ q) h);
  }
  select_fixes (variable_bit c) (Var a) (Var b) = record {
    sound = λ ρ low h w r. (tt, chosen_sound ρ low c.variable a.variable b.variable w (ρ c.variable, ρ a.variable, ρ b.variable) refl h r);
    own = λ u h t. ((picked u, λ w. tt), λ ρ low q. chosen_plays ρ low c.variable a.variable b.variable u q h);
  }

  pub select_function : Function p choice_fp fp_number_of (λ i. select_script p i.0 i.1 i.2) (ChoiceBelow p) picked
  select_function = fixes_function (λ i. select_fixes i.0 i.1 i.2)
