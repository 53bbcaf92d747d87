-- The law of the number that bits spell.
use Rattle.std.proofs.Common.{◌≡◌, ℕ, ◌+◌, ◌-◌, ◌*◌, ◌%◌, ◌<◌, ◌≤◌, Bool, false, eqb, leb, List, [], ◌∷◌, ◌++◌, length, refl, sym, ap, ◌∙◌, subst, arith, mod-eq_of_lt, mod-lt, mul-zero, leb-false, true≢false}
use borrow.Author.Tests.{true-leb}
use Rattle.arith.proofs.Ring.{done}
use Rattle.arith.proofs.Solve.{reads, none, times, by_mod}
use Rattle.field.specs.Laws.{OddPrime}
use Rattle.field.specs.Modulus.{bit_length as prime_bits}
use Rattle.relations.specs.declared.term.Variable.{Variable}
use Rattle.relations.specs.declared.term.Variable.TheVariants.{One}
use Rattle.relations.specs.declared.term.Term.{Term}
use Rattle.relations.specs.Script.{answer, combine}
use Rattle.relations.specs.Terms.{times as times_variable, just}
use Rattle.allocated.specs.Gates.{bit}
use Rattle.boolean.specs.declared.bits.Boolean.{Boolean}
use Rattle.boolean.specs.declared.bits.Boolean.TheVariants.{Constant as constant_bit, Var as variable_bit}
use Rattle.fp_var.specs.declared.numbers.FpVar.TheVariants.{Constant}
use Rattle.fp_var.specs.Numbers.{named, linear, scaled, add_constant}
use Rattle.gates.specs.Kary.{all_constant, told_all}
use Rattle.fp_bits.specs.Digits.{number_of_digits, heavier, constants_weight, first_weight}
use Rattle.fp_bits.specs.Bits.{weighed, gathered, below_prime, le_bits_script}
use Rattle.laws.specs.Law.{Val, Low, Must, total, Law, lists}
use Rattle.laws.proofs.Frame.{must_then, must_mono, nothing, LawAt, Pure, pure_then, pure_if}
use Rattle.bit_laws.specs.Bits.{bit_number_of, AllBits, spelled}
use Rattle.bit_laws.proofs.Bound.{walk_fixes}
use Rattle.bit_laws.proofs.Fixes.{Fixes, Always, fixes_then, fixes_on, fixes_as, fixes_if, fixes_answer, fixes_pure}
use Rattle.number_laws.specs.Numbers.{fp_number_of, sum}
use Rattle.number_laws.proofs.Shapes.{scaled_pure, scaled_must}
use Rattle.number_laws.proofs.Arithmetic.{add_fixes}
use Rattle.fp_bit_laws.specs.Spelled.{BelowPrime}
use Rattle.fp_bit_laws.proofs.Spelling.{told_spelled}
use Rattle.fp_bit_laws.proofs.Joining.{fixes_long, fixes_at, law_told}

-- ---- the weighted bits: w weighs the first, s is what the rest spells, c what the constants among it come to
constant_more : (p w b s t u c : ℕ) → 0 < p → (u + c) % p ≡ (t + (2 * w) % p * s) % p → (u + (b * w + c) % p) % p ≡ (t + w * (b + 2 * s)) % p
constant_more p w b s t u c pos h = by_mod p pos (w ∷ b ∷ s ∷ t ∷ u ∷ c ∷ []) (times 1 h (search reads depth 9) none) (search reads depth 9) done

variable_more : (p w b s t y u c : ℕ) → 0 < p → y ≡ (w * b) % p → (u + c) % p ≡ (t + y + (2 * w) % p * s) % p → (u + c) % p ≡ (t + w * (b + 2 * s)) % p
variable_more p w b s t y u c pos e h = by_mod p pos (w ∷ b ∷ s ∷ t ∷ y ∷ u ∷ c ∷ []) (times 1 h (search reads depth 9) (times 1 e (search reads depth 9) none)) (search reads depth 9) done

total_just : (ρ : Val) (ts : List Term) (v : Variable) → total ρ (ts ++ just v) ≡ total ρ ts + ρ v
total_just ρ [] v = omega arith
total_just ρ (t ∷ ts) v = ap (λ (x : ℕ). t.coefficient * ρ t.variable + x) (total_just ρ ts v) ∙ omega arith

-- what the terms come to, with the constants
abbrev Weighs : ℕ → Val → ℕ → List Boolean → List Term → List Term → Type 0
Weighs p ρ w bs ts us = (total ρ us + constants_weight p w bs) % p ≡ (total ρ ts + w * spelled (lists bit_number_of ρ bs)) % p

weighed_must : (p : ℕ) → 0 < p → (ρ : Val) → Low p ρ → (w : ℕ) (bs : List Boolean) (ts : List Term) → Must p ρ (weighed p w bs ts) (Weighs p ρ w bs ts)
weighed_must p pos ρ low w [] ts = ap (λ (t : ℕ). (total ρ ts + t) % p) (sym (mul-zero w))
weighed_must p pos ρ low w (constant_bit b ∷ bs) ts =
    must_mono p ρ (weighed p (heavier p w) bs ts) (Weighs p ρ (heavier p w) bs ts) (Weighs p ρ w (constant_bit b ∷ bs) ts)
    (λ us h. constant_more p w (bit b) (spelled (lists bit_number_of ρ bs)) (total ρ ts) (total ρ us) (constants_weight p (heavier p w) bs) pos h) (weighed_must p pos ρ low (heavier p w) bs ts)
weighed_must p pos ρ low w (variable_bit a ∷ bs) ts = λ x ex.
    let same : ρ x ≡ ρ a.variable = ex ∙ ap (λ (t : ℕ). t % p) (omega arith) ∙ mod-eq_of_lt (low.low a.variable) in
    must_then p ρ (scaled p w x) (λ y. weighed p (heavier p w) bs (ts ++ just y)) (λ y. ρ y ≡ (w * ρ x) % p) (Weighs p ρ w (variable_bit a ∷ bs) ts) (scaled_must p w x ρ low)
    (λ y ey. must_mono p ρ (weighed p (heavier p w) bs (ts ++ just y)) (Weighs p ρ (heavier p w) bs (ts ++ just y)) (Weighs p ρ w (variable_bit a ∷ bs) ts)
    (λ us h. variable_more p w (ρ a.variable) (spelled (lists bit_number_of ρ bs)) (total ρ ts) (ρ y) (total ρ us) (constants_weight p (heavier p w) bs) pos (ey ∙ ap (λ (t : ℕ). (w * t) % p) same)
    (h ∙ ap (λ (t : ℕ). (t + heavier p w * spelled (lists bit_number_of ρ bs)) % p) (total_just ρ ts y)))
    (weighed_must p pos ρ low (heavier p w) bs (ts ++ just y)))

weighed_pure : (p w : ℕ) (bs : List Boolean) (ts : List Term) → Pure (weighed p w bs ts)
weighed_pure p w [] ts = tt
weighed_pure p w (constant_bit b ∷ bs) ts = weighed_pure p (heavier p w) bs ts
weighed_pure p w (variable_bit a ∷ bs) ts = λ x. pure_then (scaled p w x) (λ y. weighed p (heavier p w) bs (ts ++ just y)) (scaled_pure p w x) (λ y. weighed_pure p (heavier p w) bs (ts ++ just y))

weight_below : (p w : ℕ) → 0 < p → (bs : List Boolean) → constants_weight p w bs < p
weight_below p w pos [] = pos
weight_below p w pos (constant_bit b ∷ bs) = mod-lt (bit b * w + constants_weight p (heavier p w) bs) pos
weight_below p w pos (variable_bit a ∷ bs) = weight_below p (heavier p w) pos bs

-- the terms together are a variable s, to which the constants are added
whole : (p t c s x y : ℕ) → 0 < p → s ≡ t % p → (t + c) % p ≡ (0 + 1 % p * x) % p → y ≡ (s + c) % p → y ≡ x % p
whole p t c s x y pos es h ey =
    ey ∙ by_mod p pos (t ∷ c ∷ s ∷ x ∷ []) (times 1 es (search reads depth 9) (times 1 h (search reads depth 9) none)) (search reads depth 9) done

add_constant_pure : (p c : ℕ) (v : Variable) → Pure (add_constant p c v)
add_constant_pure p c v = pure_if (eqb (c % p) 0) (answer (named v)) (linear (times_variable 1 v ∷ (times_variable c One ∷ []))) tt (λ x. tt)

module _ (p : ℕ) (P : OddPrime p) where
  pos : 0 < p
  pos = omega (arith, P.prime.0)

  gathered_must : (ρ : Val) → Low p ρ → (bs : List Boolean) → Must p ρ (gathered p bs) (λ o. fp_number_of ρ o ≡ spelled (lists bit_number_of ρ bs) % p)
  gathered_must ρ low bs =
      let c : ℕ = constants_weight p (first_weight p) bs in
      must_then p ρ (weighed p (first_weight p) bs []) (λ ts. combine ts (λ s. add_constant p c s)) (Weighs p ρ (first_weight p) bs []) (λ o. fp_number_of ρ o ≡ spelled (lists bit_number_of ρ bs) % p) (weighed_must p pos ρ low (first_weight p) bs [])
      (λ us h s es. must_mono p ρ (add_constant p c s) (λ o. Unit {0} × (fp_number_of ρ o ≡ sum p (ρ s, c))) (λ o. fp_number_of ρ o ≡ spelled (lists bit_number_of ρ bs) % p)
      (λ o q. whole p (total ρ us) c (ρ s) (spelled (lists bit_number_of ρ bs)) (fp_number_of ρ o) pos es h q.1)
      ((add_fixes p P.prime (named s) (Constant c)).sound ρ low (low.low s, weight_below p (first_weight p) pos bs)))

  gathered_fixes : (bs : List Boolean) → Fixes p (λ ρ. lists bit_number_of ρ bs) fp_number_of (gathered p bs) AllBits Always (λ xs. spelled xs % p)
  gathered_fixes bs = fixes_pure (gathered p bs) AllBits (λ xs. spelled xs % p)
      (pure_then (weighed p (first_weight p) bs []) (λ ts. combine ts (λ s. add_constant p (constants_weight p (first_weight p) bs) s)) (weighed_pure p (first_weight p) bs []) (λ ts s. add_constant_pure p (constants_weight p (first_weight p) bs) s))
      (λ ρ low h. gathered_must ρ low bs)

  -- ---- they spell a number below p where they are as many as it has
  below_fixes : (bs : List Boolean) → Fixes p (λ ρ. lists bit_number_of ρ bs) nothing (below_prime p bs) AllBits (BelowPrime p false) (λ xs. tt)
  below_fixes bs = fixes_if (leb (prime_bits p) (length bs))
      (λ q. let le = true-leb (prime_bits p) (length bs) (sym q) in
      fixes_long bs AllBits (λ xs. spelled xs ≤ p - 1) (BelowPrime p false) (λ xs. tt) (λ xs l h r e many. omega (arith, pos, r)) (λ xs l h t. let s = t refl (omega (arith, le, l)) in omega (arith, s))
      (walk_fixes p P.prime (omega (arith, P.prime.0, P.odd)) bs (p - 1) (omega (arith, P.small))))
      (λ q. let lt = leb-false (prime_bits p) (length bs) q in
      fixes_long bs AllBits Always (BelowPrime p false) (λ xs. tt) (λ xs l h r e many. absurd (omega (arith, lt, l, many))) (λ xs l h t. tt)
      (fixes_answer tt AllBits Always (λ xs. tt) (λ ρ low h. (tt, refl))))

  -- where all bits are constants nothing is asked
  pub le_bits_fixes : (bs : List Boolean) → Fixes p (λ ρ. lists bit_number_of ρ bs) fp_number_of (le_bits_script p bs) AllBits (BelowPrime p (all_constant bs)) (λ xs. spelled xs % p)
  le_bits_fixes bs = fixes_if (all_constant bs)
      (λ c. fixes_answer (Constant (number_of_digits (told_all bs) % p)) AllBits (BelowPrime p (all_constant bs)) (λ xs. spelled xs % p) (λ ρ low h. ((λ f many. absurd (true≢false (sym c ∙ f))), ap (λ (t : ℕ). t % p) (told_spelled ρ bs c))))
      (λ c. fixes_as AllBits (BelowPrime p (all_constant bs)) (λ xs. spelled xs % p) (λ xs h. h) (λ xs h r. subst (λ (b : Bool). BelowPrime p b xs) (sym c) r.1.0) (λ xs h t. (tt, (subst (λ (b : Bool). BelowPrime p b xs) c t, tt))) (λ xs h r. refl)
      (fixes_then (gathered_fixes bs)
      (λ s. fixes_then (fixes_on (λ ρ. (lists bit_number_of ρ bs, fp_number_of ρ s)) (λ q. q.0) (λ ρ low. refl) (below_fixes bs)) (λ u. fixes_answer s Always Always (λ z. z.0.1) (λ ρ low h. (tt, refl))) (λ q h r. tt)) (λ xs h r. h)))

  -- the number is what they spell modulo p
  pub le_bits_at : (bs : List Boolean) → LawAt p (λ ρ. lists bit_number_of ρ bs) fp_number_of (le_bits_script p bs) AllBits (λ xs y. (y ≡ spelled xs % p) × BelowPrime p (all_constant bs) xs) (BelowPrime p (all_constant bs)) (λ xs. spelled xs % p)
  le_bits_at bs = fixes_at (λ xs y. (y ≡ spelled xs % p) × BelowPrime p (all_constant bs) xs) (λ xs y h w. (w.1, w.0)) (λ xs h r. (refl, r)) (le_bits_fixes bs)

  pub le_bits_law : Law p {X = Bool × List ℕ} (λ ρ bs. (all_constant bs, lists bit_number_of ρ bs)) fp_number_of (le_bits_script p) (λ x. AllBits x.1) (λ x y. (y ≡ spelled x.1 % p) × BelowPrime p x.0 x.1) (λ x. BelowPrime p x.0 x.1) (λ x. spelled x.1 % p)
  le_bits_law = law_told all_constant (λ b xs h s. (refl, s)) (λ b xs y h w. w.1) le_bits_at
