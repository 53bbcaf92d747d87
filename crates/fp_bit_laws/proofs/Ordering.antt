-- The laws of comparison.
use Rattle.std.proofs.Common.{◌≡◌, ◌↔◌, ℕ, zero, suc, ◌+◌, ◌-◌, ◌*◌, ◌%◌, ◌^◌, ◌<◌, ◌≤◌, Bool, true, false, ◌&&◌, ltb, leb, List, get_or, refl, sym, ap, ◌∙◌, arith, mod-eq_of_lt, mod-lt, true≢false, ltb-true, leb-true, lt-ltb, le-leb}
use native.Mathlib.Nat.{zero-mod}
use Rattle.std.specs.declared.cmp.Ordering.{Ordering}
use Rattle.std.specs.declared.cmp.Ordering.TheVariants.{Less, Equal, Greater}
use Rattle.field.specs.Laws.{OddPrime}
use Rattle.field.specs.Modulus.{bit_length as prime_bits, half_of}
use Rattle.relations.specs.declared.term.Variable.TheVariants.{One}
use Rattle.relations.specs.declared.fault.GadgetFault.TheVariants.{Unsatisfiable}
use Rattle.relations.specs.Script.{answer, row, then}
use Rattle.relations.specs.Terms.{just}
use Rattle.allocated.specs.Gates.{bit}
use Rattle.boolean.specs.declared.bits.Boolean.{Boolean}
use Rattle.boolean.specs.declared.bits.Boolean.TheVariants.{Constant as constant_bit, Var as variable_bit}
use Rattle.boolean.specs.Booleans.{bit_terms}
use Rattle.fp_var.specs.declared.numbers.FpVar.{FpVar}
use Rattle.fp_var.specs.declared.numbers.FpVar.TheVariants.{Constant, Var}
use Rattle.gates.specs.Walk.{place}
use Rattle.fp_bits.specs.Bits.{to_non_unique_bits_script}
use Rattle.fp_cmp.specs.Compare.{at_most_half, lowest_of_double, smaller, compared, is_cmp_script, ordered, forced, enforce_cmp_script}
use Rattle.laws.specs.Law.{Val, Low, Law, total, lists}
use Rattle.laws.proofs.Frame.{nothing, must_mono}
use Rattle.bit_laws.specs.Bits.{bit_number_of, AllBits, spelled}
use Rattle.bit_laws.proofs.BitLaws.{bit_low, flipped}
use Rattle.bit_laws.proofs.Choices.{by_bit, not_fixes}
use Rattle.bit_laws.proofs.Lists.{lists_at}
use Rattle.bit_laws.proofs.Fixes.{Fixes, Always, fixes_then, fixes_next, fixes_on, fixes_as, fixes_answer, fixes_refuse, fixes_row, fixes_law}
use Rattle.number_laws.specs.Numbers.{fp_number_of, pair_fp, Below, BothBelow, difference, twice}
use Rattle.number_laws.proofs.Arithmetic.{sub_fixes, double_fixes}
use Rattle.number_laws.proofs.NumberStatements.{holding_fixes}
use Rattle.number_laws.proofs.Shapes.{fixes_reads}
use Rattle.fp_bit_laws.specs.Spelled.{lowest, SplitsTo, SplitsKnown, is_constant}
use Rattle.fp_bit_laws.specs.Compared.{BothHalf, smaller_bit, Smaller, Comparable, compared_bit, Ordered}
use Rattle.fp_bit_laws.proofs.Spelling.{lowest_first}
use Rattle.fp_bit_laws.proofs.Joining.{fixes_after, fixes_where}
use Rattle.fp_bit_laws.proofs.Splitting.{long_enough}
use Rattle.fp_bit_laws.proofs.NumberBits.{odd_above, within, spells_own, bounded_fixes, to_non_unique_bits_at, to_bits_fixes}
use Rattle.fp_bit_laws.proofs.LowestBit.{lowest_says, lowest_says_not}

some_bits : (p n : ℕ) → 1 < p → p < 2 ^ n → 0 < n
some_bits p zero above lt = absurd (omega arith)
some_bits p (suc n) above lt = omega arith

is_true : (b : Bool) → bit b ≡ 1 → b ≡ true
is_true true e = refl
is_true false e = absurd (omega arith)

both_true : (a b : Bool) → (a && b) ≡ true → (a ≡ true) × (b ≡ true)
both_true true b e = (refl, e)
both_true false b e = absurd (true≢false (sym e))

bit_small : (flag : Bool) (x : ℕ × ℕ) → smaller_bit flag x ≤ 1
bit_small false x = bit_low (ltb x.0 x.1)
bit_small true x = bit_low (leb x.0 x.1)

module _ (p : ℕ) (P : OddPrime p) where
  pos : 0 < p
  pos = omega (arith, P.prime.0)

  two : 2 < p
  two = odd_above p P.prime.0 P.odd

  half_small : half_of p < 2 ^ 64
  half_small = omega (arith, P.small)

  half_below : half_of p < p
  half_below = omega (arith, P.prime.0)

  -- ---- a number is at most half of the prime
  pub half_fixes : (a : FpVar) → Fixes p (λ ρ. fp_number_of ρ a) nothing (at_most_half p a) (Below p) (λ x. x ≤ half_of p) (λ x. tt)
  half_fixes a =
      fixes_after {R = SplitsTo p (prime_bits p)} {e = lowest (prime_bits p)} {P₂ = λ q. AllBits q.1} {R₂ = λ q. spelled q.1 ≤ half_of p} {e₂ = λ q. tt} (to_non_unique_bits_script p a) (λ x. x ≤ half_of p) (λ x. tt)
      (λ ρ low l. must_mono p ρ (to_non_unique_bits_script p a) (λ bs. SplitsKnown p (prime_bits p) (is_constant a) (fp_number_of ρ a) (lists bit_number_of ρ bs)) (λ bs. SplitsTo p (prime_bits p) (fp_number_of ρ a) (lists bit_number_of ρ bs)) (λ bs s. s.0) ((to_non_unique_bits_at p P a).sound ρ low l))
      (λ x l. (to_non_unique_bits_at p P a).own x l tt)
      (λ bs. bounded_fixes p P (λ ρ. fp_number_of ρ a) (half_of p) half_small bs) (λ x ys l s. s.0.0)
      (λ x ys l s r. (omega (arith, r, within p P (spelled ys) x (omega (arith, r, half_below)) s.1), refl))
      (λ x l t. let s = spells_own p P x l in ((s.0, ap (λ (t : ℕ). t % p) s.1 ∙ mod-eq_of_lt l), omega (arith, s.1, t)))

  -- ---- the comparison of two numbers that are
  first_fixes : (bs : List Boolean) → Fixes p (λ ρ. lists bit_number_of ρ bs) bit_number_of (answer (place bs 0)) Always Always (λ ys. get_or ys 0 0)
  first_fixes bs = fixes_answer (place bs 0) Always Always (λ ys. get_or ys 0 0) (λ ρ low h. (tt, lists_at bit_number_of ρ bs 0 (constant_bit false)))

  lowest_fixes : (a b : FpVar) → Fixes p (λ ρ. pair_fp ρ (a, b)) bit_number_of (lowest_of_double p a b) (BothHalf p) Always (smaller_bit false)
  lowest_fixes a b =
      fixes_as (BothHalf p) Always (smaller_bit false) (λ x h. (omega (arith, h.0, half_below), omega (arith, h.1, half_below))) (λ x h r. tt) (λ x h t. (tt, (tt, (tt, tt))))
      (λ x h r. lowest_first (prime_bits p) (twice p (difference p x)) (some_bits p (prime_bits p) P.prime.0 (long_enough p P)) ∙ lowest_says p x P.odd h)
      (fixes_next (sub_fixes p P.prime a b) (λ d. fixes_next (double_fixes p P.prime d) (λ e. fixes_next (to_bits_fixes p P e) first_fixes (λ y h t. tt)) (λ y h t. mod-lt (2 * y) pos)) (λ x h t. mod-lt (x.0 + (p - x.1)) pos))

  smaller_fixes : (flag : Bool) (a b : FpVar) → Fixes p (λ ρ. pair_fp ρ (a, b)) bit_number_of (smaller p flag a b) (BothHalf p) Always (smaller_bit flag)
  smaller_fixes false a b = lowest_fixes a b
  smaller_fixes true a b =
      fixes_as (BothHalf p) Always (smaller_bit true) (λ x h. (h.1, h.0)) (λ x h r. tt) (λ x h t. (tt, tt)) (λ x h r. ap flipped (sym (lowest_says p (x.1, x.0) P.odd (h.1, h.0))) ∙ lowest_says_not p x P.odd h)
      (fixes_next (fixes_on (λ ρ. pair_fp ρ (a, b)) (λ x. (x.1, x.0)) (λ ρ low. refl) (lowest_fixes b a)) (not_fixes p P.prime two) (λ x h r. bit_low (ltb x.1 x.0)))

  pub compared_fixes : (flag : Bool) (a b : FpVar) → Fixes p (λ ρ. pair_fp ρ (a, b)) bit_number_of (compared p flag a b) (BothBelow p) (BothHalf p) (smaller_bit flag)
  compared_fixes flag a b =
      fixes_as (BothBelow p) (BothHalf p) (smaller_bit flag) (λ x h. h) (λ x h r. (r.0, r.1.0)) (λ x h r. (r.0, (r.1, tt))) (λ x h r. refl)
      (fixes_then {P₂ = λ z. BothBelow p z.0 × (z.0.0 ≤ half_of p)} (fixes_where (BothBelow p) (λ x h. h.0) (fixes_on (λ ρ. pair_fp ρ (a, b)) (λ x. x.0) (λ ρ low. refl) (half_fixes a)))
      (λ u. fixes_then {P₂ = λ w. BothHalf p w.0.0} (fixes_where (λ z. BothBelow p z.0 × (z.0.0 ≤ half_of p)) (λ z h. h.0.1) (fixes_on (λ ρ. (pair_fp ρ (a, b), nothing ρ u)) (λ z. z.0.1) (λ ρ low. refl) (half_fixes b)))
      (λ v. fixes_on (λ ρ. ((pair_fp ρ (a, b), nothing ρ u), nothing ρ v)) (λ w. w.0.0) (λ ρ low. refl) (smaller_fixes flag a b)) (λ z h r. (h.1, r))) (λ x h r. (h, r)))

  -- the other way round
  swapped_fixes : (flag : Bool) (a b : FpVar) → Fixes p (λ ρ. pair_fp ρ (a, b)) bit_number_of (compared p flag b a) (BothBelow p) (λ x. BothHalf p (x.1, x.0)) (λ x. smaller_bit flag (x.1, x.0))
  swapped_fixes flag a b = fixes_where (BothBelow p) (λ x h. (h.1, h.0)) (fixes_on (λ ρ. pair_fp ρ (a, b)) (λ x. (x.1, x.0)) (λ ρ low. refl) (compared_fixes flag b a))

  pub is_cmp_fixes : (o : Ordering) (flag : Bool) (a b : FpVar) → Fixes p (λ ρ. pair_fp ρ (a, b)) bit_number_of (is_cmp_script p o flag a b) (BothBelow p) (Comparable p o) (compared_bit o flag)
  is_cmp_fixes Less flag a b = compared_fixes flag a b
  is_cmp_fixes Equal flag a b = fixes_refuse Unsatisfiable (BothBelow p) (Comparable p Equal) (compared_bit Equal flag)
  is_cmp_fixes Greater flag a b = swapped_fixes flag a b

  -- both are at most half of the prime, and the answer is whether the first is smaller, or not greater; by the order greater the second takes the first's place
  pub is_cmp_law : (o : Ordering) (flag : Bool) → Law p pair_fp bit_number_of (λ i. is_cmp_script p o flag i.0 i.1) (BothBelow p) (λ x y. Comparable p o x × (y ≡ compared_bit o flag x)) (Comparable p o) (compared_bit o flag)
  is_cmp_law o flag = fixes_reads (λ x y. Comparable p o x × (y ≡ compared_bit o flag x)) (λ x y h w. w) (λ x h r. (r, refl)) (λ i. is_cmp_fixes o flag i.0 i.1)

  -- ---- as a statement
  -- the row b * 1 = 1
  one_says : (t o y : ℕ) → y ≤ 1 → t ≡ y → o ≡ 1 → (((t * (1 * o + 0)) % p ≡ (1 * o + 0) % p) ↔ (y ≡ 1))
  one_says t o y l et eo = by_bit (λ y. t ≡ y → (((t * (1 * o + 0)) % p ≡ (1 * o + 0) % p) ↔ (y ≡ 1))) (λ e. zero e) (λ e. one e) y l et
    where
      right : (1 * o + 0) % p ≡ 1
      right = ap (λ (x : ℕ). x % p) (omega (arith, eo)) ∙ mod-eq_of_lt P.prime.0

      zero : t ≡ 0 → (((t * (1 * o + 0)) % p ≡ (1 * o + 0) % p) ↔ ◌≡◌ {A = ℕ} 0 1)
      zero e =
          let z : (t * (1 * o + 0)) % p ≡ 0 = ap (λ (x : ℕ). (x * (1 * o + 0)) % p) e ∙ ap (λ (x : ℕ). x % p) (omega arith) ∙ zero-mod p in
          (λ r. sym z ∙ r ∙ right, λ q. absurd (omega arith))

      one : t ≡ 1 → (((t * (1 * o + 0)) % p ≡ (1 * o + 0) % p) ↔ ◌≡◌ {A = ℕ} 1 1)
      one e = (λ r. refl, λ q. ap (λ (x : ℕ). (x * (1 * o + 0)) % p) e ∙ ap (λ (x : ℕ). x % p) (omega arith))

  terms_number : (ρ : Val) → Low p ρ → (b : Boolean) → total ρ (bit_terms b) ≡ bit_number_of ρ b
  terms_number ρ low (constant_bit true) = omega (arith, low.one)
  terms_number ρ low (constant_bit false) = refl
  terms_number ρ low (variable_bit a) = omega arith

  true_fixes : (b : Boolean) → Fixes p (λ ρ. bit_number_of ρ b) nothing (row (bit_terms b) (just One) (just One) (answer tt)) (λ y. y ≤ 1) (λ y. y ≡ 1) (λ y. tt)
  true_fixes b = fixes_row (bit_terms b) (just One) (just One) tt (λ y. y ≤ 1) (λ y. y ≡ 1) (λ y. tt) (λ ρ low h. one_says (total ρ (bit_terms b)) (ρ One) (bit_number_of ρ b) h (terms_number ρ low b) low.one) (λ ρ low h. refl)

  bit_says : (flag : Bool) (x : ℕ × ℕ) → (smaller_bit flag x ≡ 1) ↔ Smaller flag x
  bit_says false x = (λ e. ltb-true x.0 x.1 (is_true (ltb x.0 x.1) e), λ l. ap bit (lt-ltb x.0 x.1 l))
  bit_says true x = (λ e. leb-true x.0 x.1 (is_true (leb x.0 x.1) e), λ l. ap bit (le-leb x.0 x.1 l))

  -- the test on constants
  ordered_says : (flag : Bool) (x : ℕ × ℕ) → BothBelow p x → ordered p flag x.0 x.1 ≡ true → BothHalf p x × Smaller flag x
  ordered_says false x h e =
      let a = both_true (leb (x.0 % p) (half_of p)) (leb (x.1 % p) (half_of p) && ltb (x.0 % p) (x.1 % p)) e in
      let b = both_true (leb (x.1 % p) (half_of p)) (ltb (x.0 % p) (x.1 % p)) a.1 in
      let m : x.0 % p ≡ x.0 = mod-eq_of_lt h.0 in
      let n : x.1 % p ≡ x.1 = mod-eq_of_lt h.1 in
      ((omega (arith, leb-true (x.0 % p) (half_of p) a.0, m), omega (arith, leb-true (x.1 % p) (half_of p) b.0, n)), omega (arith, ltb-true (x.0 % p) (x.1 % p) b.1, m, n))
  ordered_says true x h e =
      let a = both_true (leb (x.0 % p) (half_of p)) (leb (x.1 % p) (half_of p) && leb (x.0 % p) (x.1 % p)) e in
      let b = both_true (leb (x.1 % p) (half_of p)) (leb (x.0 % p) (x.1 % p)) a.1 in
      let m : x.0 % p ≡ x.0 = mod-eq_of_lt h.0 in
      let n : x.1 % p ≡ x.1 = mod-eq_of_lt h.1 in
      ((omega (arith, leb-true (x.0 % p) (half_of p) a.0, m), omega (arith, leb-true (x.1 % p) (half_of p) b.0, n)), omega (arith, leb-true (x.0 % p) (x.1 % p) b.1, m, n))

  -- the comparison, and the row that says that it is true
  shown_fixes : (flag : Bool) (a b : FpVar) → Fixes p (λ ρ. pair_fp ρ (a, b)) nothing (then (compared p flag a b) (λ c. row (bit_terms c) (just One) (just One) (answer tt))) (BothBelow p) (λ x. BothHalf p x × Smaller flag x) (λ x. tt)
  shown_fixes flag a b =
      fixes_as (BothBelow p) (λ x. BothHalf p x × Smaller flag x) (λ x. tt) (λ x h. h) (λ x h r. (r.0, (bit_says flag x).0 r.1)) (λ x h r. (r.0, (bit_says flag x).1 r.1)) (λ x h r. refl)
      (fixes_next (compared_fixes flag a b) true_fixes (λ x h r. bit_small flag x))

  pub forced_fixes : (flag : Bool) (a b : FpVar) → Fixes p (λ ρ. pair_fp ρ (a, b)) nothing (forced p flag a b) (BothBelow p) (λ x. BothHalf p x × Smaller flag x) (λ x. tt)
  forced_fixes flag (Constant x) (Constant y) = holding_fixes p P.prime (BothBelow p) (λ x. BothHalf p x × Smaller flag x) (ordered p flag x y) (λ t ρ h. ordered_says flag (x, y) h t)
  forced_fixes flag (Constant x) (Var b) = shown_fixes flag (Constant x) (Var b)
  forced_fixes flag (Var a) b = shown_fixes flag (Var a) b

  pub enforce_cmp_fixes : (o : Ordering) (flag : Bool) (a b : FpVar) → Fixes p (λ ρ. pair_fp ρ (a, b)) nothing (enforce_cmp_script p o flag a b) (BothBelow p) (Ordered p o flag) (λ x. tt)
  enforce_cmp_fixes Less flag a b = forced_fixes flag a b
  enforce_cmp_fixes Equal flag a b = fixes_refuse Unsatisfiable (BothBelow p) (Ordered p Equal flag) (λ x. tt)
  enforce_cmp_fixes Greater flag a b = fixes_where (BothBelow p) (λ x h. (h.1, h.0)) (fixes_on (λ ρ. pair_fp ρ (a, b)) (λ x. (x.1, x.0)) (λ ρ low. refl) (forced_fixes flag b a))

  -- both are at most half of the prime, and the comparison is true
  pub enforce_cmp_law : (o : Ordering) (flag : Bool) → Law p pair_fp nothing (λ i. enforce_cmp_script p o flag i.0 i.1) (BothBelow p) (λ x u. Ordered p o flag x) (Ordered p o flag) (λ x. tt)
  enforce_cmp_law o flag = fixes_law (λ i. enforce_cmp_fixes o flag i.0 i.1)
