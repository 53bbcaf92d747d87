-- Whether two numbers are equal: what the rows of the test force, and that the numbers that it computes meet them.
use Rattle.std.proofs.Common.{◌≡◌, ◌≢◌, ℕ, zero, suc, ◌+◌, ◌-◌, ◌*◌, ◌%◌, ◌<◌, ◌≤◌, Bool, true, false, cond, not, eqb, [], ◌∷◌, sym, refl, ap, ap₂, ◌∙◌, arith, mod-eq_of_lt, mod-lt, true-eqb, false-eqb, add-mul, one-mul}
use native.Mathlib.Nat.{add-mul-mod_self_left}
use Rattle.arith.specs.Number.{Prime}
use Rattle.arith.proofs.Bits.{differ_row}
use Rattle.arith.proofs.Euclid.{pos_of, inverses, mul_mod_l}
use Rattle.arith.proofs.Ring.{done}
use Rattle.arith.proofs.Solve.{reads, none, times, puts, by_mod, by_zero}
use Rattle.relations.specs.declared.term.Variable.{Variable}
use Rattle.relations.specs.declared.term.Variable.TheVariants.{One}
use Rattle.allocated.specs.declared.allocated.AllocatedBool.{AllocatedBool}
use Rattle.allocated.specs.Gates.{bit, not_allocated}
use Rattle.boolean.specs.declared.bits.Boolean.TheVariants.{Var}
use Rattle.fp.specs.Equality.{seek, inverse, gap, multiplier, differ_script, is_eq_script, is_neq_script}
use Rattle.laws.specs.Law.{Val, There, Orderly}
use Rattle.laws.proofs.Frame.{Function}
use Rattle.bit_laws.specs.Bits.{equality, inequality}
use Rattle.bit_laws.proofs.BitLaws.{flipped, bit_low, not_forces}
use Rattle.bit_laws.proofs.Statements.{less_says}
use Rattle.bit_laws.proofs.Fixes.{Fixes, Always, fixes_next, fixes_is, fixes_pure, fixes_function, Neat, neat_next, neat_orderly}

-- ---- the search for an inverse
pub seek_below : (p a n : ℕ) → 0 < p → n ≤ p → seek p a n < p
seek_below p a zero pos le = pos
seek_below p a (suc n) pos le = go (eqb ((a * n) % p) 1) (seek_below p a n pos (omega arith))
  where
    go : (b : Bool) → seek p a n < p → cond b n (seek p a n) < p
    go true h = le
    go false h = h

pub seek_finds : (p a n x : ℕ) → x < n → (a * x) % p ≡ 1 → (a * seek p a n) % p ≡ 1
seek_finds p a zero x lt h = absurd (omega arith)
seek_finds p a (suc n) x lt h = go (eqb ((a * n) % p) 1) refl (λ below. seek_finds p a n x below h)
  where
    go : (b : Bool) → eqb ((a * n) % p) 1 ≡ b → (x < n → (a * seek p a n) % p ≡ 1) → (a * cond b n (seek p a n)) % p ≡ 1
    go true e f = true-eqb ((a * n) % p) 1 (sym e)
    go false e f =
        let other : x ≢ n = λ q. false-eqb ((a * n) % p) 1 (sym e) (ap (λ (t : ℕ). (a * t) % p) (sym q) ∙ h) in
        f (omega arith)

-- it finds the inverse modulo a prime
pub inverse_is : (p a : ℕ) → Prime p → 0 < a → a < p → (a * inverse p a) % p ≡ 1
inverse_is p a P pos lt = let i = inverses p P a pos lt in seek_finds p a p i.0 i.1 i.2

pub multiplier_below : (p x y : ℕ) → 1 < p → multiplier p x y < p
multiplier_below p x y above = go (eqb x y)
  where
    go : (b : Bool) → cond b 1 (inverse p (gap p x y)) < p
    go true = above
    go false = seek_below p (gap p x y) p (omega arith) (omega arith)

-- x less y modulo p, as rows write it
pub gap_is : (p x y : ℕ) → 0 < p → y < p → (1 * x + ((p - 1) * y + 0)) % p ≡ gap p x y
gap_is p x y pos ly =
    sym (add-mul-mod_self_left (1 * x + ((p - 1) * y + 0)) p 1) ∙ ap (λ (t : ℕ). t % p) flat ∙ add-mul-mod_self_left (x + (p - y)) p y
  where
    split : p ≡ (p - 1) + 1
    split = omega arith

    flat : 1 * x + ((p - 1) * y + 0) + p * 1 ≡ x + (p - y) + p * y
    flat = omega (arith, ap (λ (t : ℕ). t * y) split, add-mul (p - 1) 1 y, one-mul y)

-- ---- the rows
differ_forced : (p : ℕ) → Prime p → (x y m w t o : ℕ) → x < p → y < p → w < p → o ≡ 1
    → ((1 * x + ((p - 1) * y + 0)) * (1 * m + 0)) % p ≡ (1 * w + 0) % p
    → t ≡ (1 * o + ((p - 1) * w + 0)) % p
    → ((1 * x + ((p - 1) * y + 0)) * (1 * t + 0)) % p ≡ 0 % p
    → w ≡ inequality (x, y)
differ_forced p P x y m w t o lx ly lw one r₁ et r₂ = go (eqb x y) refl
  where
    says : (x ≡ y → w ≡ 0) × (x ≢ y → w ≡ 1)
    says = differ_row p x y m w P lx ly lw
        (by_mod p (omega (arith, P.0)) (x ∷ y ∷ m ∷ w ∷ []) (times 1 r₁ (search reads depth 9) none) (search reads depth 9) done)
        (by_zero p (omega (arith, P.0)) (x ∷ y ∷ w ∷ t ∷ o ∷ []) (puts one (search reads) (puts et (search reads depth 9) (times 1 r₂ (search reads depth 9) none))) (search reads depth 9) done)

    go : (b : Bool) → eqb x y ≡ b → w ≡ bit (not b)
    go true e = says.0 (true-eqb x y (sym e))
    go false e = says.1 (false-eqb x y (sym e))

first_met : (p : ℕ) → Prime p → (x y m w : ℕ) → x < p → y < p → w ≡ inequality (x, y) → m ≡ multiplier p x y → ((1 * x + ((p - 1) * y + 0)) * (1 * m + 0)) % p ≡ (1 * w + 0) % p
first_met p P x y m w lx ly ew em = go (eqb x y) refl ew em
  where
    go : (b : Bool) → eqb x y ≡ b → w ≡ bit (not b) → m ≡ cond b 1 (inverse p (gap p x y)) → ((1 * x + ((p - 1) * y + 0)) * (1 * m + 0)) % p ≡ (1 * w + 0) % p
    go true e ew em = by_mod p (omega (arith, P.0)) (x ∷ y ∷ m ∷ w ∷ []) (puts (true-eqb x y (sym e)) (search reads) (puts ew (search reads) none)) (search reads depth 9) done
    go false e ew em =
        let g : (1 * x + ((p - 1) * y + 0)) % p ≡ gap p x y = gap_is p x y (omega (arith, P.0)) ly in
        let some : gap p x y ≡ 0 → ⊥ = λ z. false-eqb x y (sym e) ((less_says p x y P.0 lx ly).0 (g ∙ z)) in
        sym (mul_mod_l (1 * x + ((p - 1) * y + 0)) (1 * m + 0) p) ∙ ap₂ (λ (s u : ℕ). (s * u) % p) g (omega (arith, em))
        ∙ inverse_is p (gap p x y) P (pos_of (gap p x y) some) (mod-lt (x + (p - y)) (omega (arith, P.0))) ∙ sym (mod-eq_of_lt P.0) ∙ ap (λ (u : ℕ). u % p) (omega (arith, ew))

second_met : (p : ℕ) → Prime p → (x y w t o : ℕ) → o ≡ 1 → w ≡ inequality (x, y) → t ≡ (1 * o + ((p - 1) * w + 0)) % p → ((1 * x + ((p - 1) * y + 0)) * (1 * t + 0)) % p ≡ 0 % p
second_met p P x y w t o one ew et = go (eqb x y) refl ew
  where
    go : (b : Bool) → eqb x y ≡ b → w ≡ bit (not b) → ((1 * x + ((p - 1) * y + 0)) * (1 * t + 0)) % p ≡ 0 % p
    go true e ew = by_mod p (omega (arith, P.0)) (x ∷ y ∷ t ∷ []) (puts (true-eqb x y (sym e)) (search reads) none) (search reads depth 9) done
    go false e ew = by_mod p (omega (arith, P.0)) (x ∷ y ∷ w ∷ t ∷ o ∷ []) (puts ew (search reads) (puts one (search reads) (puts et (search reads depth 9) none))) (search reads depth 9) done

-- ---- the scripts
-- the numbers of two variables, and that of a bit
abbrev pub numbers : Val → Variable × Variable → ℕ × ℕ
numbers ρ i = (ρ i.0, ρ i.1)

abbrev pub allocated_number : Val → AllocatedBool → ℕ
allocated_number ρ a = ρ a.variable

-- two variables are there, and so is a bit
abbrev pub Both : There → Variable × Variable → Type 0
Both h i = (h i.0 ≡ true) × (h i.1 ≡ true)

abbrev pub ThereAllocated : There → AllocatedBool → Type 0
ThereAllocated h a = h a.variable ≡ true

module _ (p : ℕ) (P : Prime p) where
  pub differ_fixes : (x y : Variable) → Fixes p (λ ρ. numbers ρ (x, y)) allocated_number (differ_script p x y) Always Always inequality
  differ_fixes x y = record {
    sound = λ ρ low h w m r₁ t et r₂. (tt, differ_forced p P (ρ x) (ρ y) (ρ m) (ρ w) (ρ t) (ρ One) (low.low x) (low.low y) (low.low w) low.one r₁ et r₂);
    own = λ z h s. (
      (inequality z, λ w. (multiplier p z.0 z.1, λ m t. tt)),
      λ ρ low q. (
        (omega (arith, bit_low (not (eqb z.0 z.1)), P.0), ap inequality q),
        λ w ew. (
          (multiplier_below p z.0 z.1 P.0, ap (λ (u : ℕ × ℕ). multiplier p u.0 u.1) q),
          λ m em.
              let ew₁ : ρ w ≡ inequality (ρ x, ρ y) = ew ∙ ap inequality (sym q) in (
                first_met p P (ρ x) (ρ y) (ρ m) (ρ w) (low.low x) (low.low y) ew₁ (em ∙ ap (λ (u : ℕ × ℕ). multiplier p u.0 u.1) (sym q)),
                λ t et. (second_met p P (ρ x) (ρ y) (ρ w) (ρ t) (ρ One) low.one ew₁ et, ew),
              ),
        ),
      ),
    );
  }

  pub allocated_not : (a : AllocatedBool) → Fixes p (λ ρ. allocated_number ρ a) allocated_number (not_allocated p a) (λ x. x ≤ 1) Always flipped
  allocated_not a = fixes_pure (not_allocated p a) (λ x. x ≤ 1) flipped (λ v. tt) (λ ρ low h. not_forces p P ρ low (Var a) h)

  pub is_eq_fixes : (x y : Variable) → Fixes p (λ ρ. numbers ρ (x, y)) allocated_number (is_eq_script p x y) Always Always equality
  is_eq_fixes x y = fixes_is Always equality (λ z h. tt) (λ z h. (tt, tt)) (λ z h. go (eqb z.0 z.1)) (fixes_next (differ_fixes x y) allocated_not (λ z h r. bit_low _))
    where
      go : (b : Bool) → flipped (bit (not b)) ≡ bit b
      go true = refl
      go false = refl

  pub is_neq_fixes : (x y : Variable) → Fixes p (λ ρ. numbers ρ (x, y)) allocated_number (is_neq_script p x y) Always Always inequality
  is_neq_fixes x y = fixes_is Always inequality (λ z h. tt) (λ z h. (tt, tt)) (λ z h. go (eqb z.0 z.1)) (fixes_next (is_eq_fixes x y) allocated_not (λ z h r. bit_low _))
    where
      go : (b : Bool) → flipped (bit b) ≡ bit (not b)
      go true = refl
      go false = refl

  pub differ_function : Function p numbers allocated_number (λ i. differ_script p i.0 i.1) Always inequality
  differ_function = fixes_function (λ i. differ_fixes i.0 i.1)

  pub is_eq_function : Function p numbers allocated_number (λ i. is_eq_script p i.0 i.1) Always equality
  is_eq_function = fixes_function (λ i. is_eq_fixes i.0 i.1)

  pub is_neq_function : Function p numbers allocated_number (λ i. is_neq_script p i.0 i.1) Always inequality
  is_neq_function = fixes_function (λ i. is_neq_fixes i.0 i.1)

-- ---- in order
module _ (p : ℕ) (above : 1 < p) where
  pub differ_neat : (x y : Variable) → Neat p (differ_script p x y) (λ h. Both h (x, y)) ThereAllocated
  differ_neat x y = record {
    sees = λ h z k. (
      (k.0, (k.1, tt)),
      λ h₁ up₁ w hw. (
        (up₁ x k.0, (up₁ y k.1, tt)),
        λ h₂ up₂ m hm.
            let a : h₂ x ≡ true = up₂ x (up₁ x k.0) in
            let b : h₂ y ≡ true = up₂ y (up₁ y k.1) in
            let c : h₂ One ≡ true = up₂ One (up₁ One z.one) in
            let d : h₂ w ≡ true = up₂ w hw in
            ((a, (b, tt)), (hm, tt), (d, tt), ((c, (d, tt)), λ h₃ up₃ t ht. ((up₃ x a, (up₃ y b, tt)), (ht, tt), tt, up₃ w d))),
      ),
    );
    tidy = ((λ ρ low. omega (arith, bit_low (not (eqb (ρ x) (ρ y))))), λ w. ((λ ρ low. multiplier_below p (ρ x) (ρ y) above), λ m t. tt));
    steady = ((λ ρ. refl), λ w. ((λ ρ. refl), λ m t. tt));
  }

  pub allocated_not_neat : (a : AllocatedBool) → Neat p (not_allocated p a) (λ h. ThereAllocated h a) ThereAllocated
  allocated_not_neat a = record { sees = λ h z k. ((z.one, (k, tt)), λ h₁ up v hv. hv); tidy = λ v. tt; steady = λ v. tt }

  pub is_eq_neat : (x y : Variable) → Neat p (is_eq_script p x y) (λ h. Both h (x, y)) ThereAllocated
  is_eq_neat x y = neat_next (differ_neat x y) allocated_not_neat

  pub is_neq_neat : (x y : Variable) → Neat p (is_neq_script p x y) (λ h. Both h (x, y)) ThereAllocated
  is_neq_neat x y = neat_next (is_eq_neat x y) allocated_not_neat

  pub differ_orderly : Orderly p (λ i. differ_script p i.0 i.1) Both ThereAllocated
  differ_orderly = neat_orderly (λ i. differ_neat i.0 i.1)

  pub is_eq_orderly : Orderly p (λ i. is_eq_script p i.0 i.1) Both ThereAllocated
  is_eq_orderly = neat_orderly (λ i. is_eq_neat i.0 i.1)

  pub is_neq_orderly : Orderly p (λ i. is_neq_script p i.0 i.1) Both ThereAllocated
  is_neq_orderly = neat_orderly (λ i. is_neq_neat i.0 i.1)
