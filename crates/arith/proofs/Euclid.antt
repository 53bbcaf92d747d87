-- Euclid's lemma and inverses modulo a prime, by descent.
use mathlib.Core.Path.{◌≡◌, refl, sym, ◌∙◌, ap, subst}
use mathlib.Core.Logic.{◌⊎◌, inl, inr}
use Prim.Native.Nat.{ℕ, zero, suc, ◌+◌, ◌-◌, ◌*◌, ◌/◌, ◌%◌, ◌<◌, ◌≤◌}
use native.Mathlib.Nat.{mul_comm, mul_assoc, add-mul, mul-one, one-mul, mod-lt, div-add-mod, mul-add-mod_self_left, mod-eq_of_lt, mul-mod_right, eq-or-lt_of_le, div-le_self, mul-sub, mul_right_comm, zero-mul, zero-mod, mul-le-mul_left}
use native.Mathlib.Omega.{arith}
use Rattle.arith.specs.Number.{Prime, ZeroFactor, HasInverses}

pub pos_of : (n : ℕ) → (n ≡ 0 → ⊥) → 0 < n
pos_of zero h = absurd (h refl)
pos_of (suc n) h = omega arith

-- (a * b) % p from a's remainder
pub mul_mod_l : (a b p : ℕ) → ((a % p) * b) % p ≡ (a * b) % p
mul_mod_l a b p =
    let e : a * b ≡ p * (a / p * b) + a % p * b =
    ap (λ (t : ℕ). t * b) (sym (div-add-mod a p)) ∙ add-mul (p * (a / p)) (a % p) b ∙ ap (λ (t : ℕ). t + a % p * b) (mul_assoc p (a / p) b)
    in
    sym (ap (λ (t : ℕ). t % p) e ∙ mul-add-mod_self_left p (a / p * b) (a % p * b))

pub mul_mod_r : (a b p : ℕ) → (a * (b % p)) % p ≡ (a * b) % p
mul_mod_r a b p =
    ap (λ (t : ℕ). t % p) (mul_comm a (b % p)) ∙ mul_mod_l b a p ∙ ap (λ (t : ℕ). t % p) (mul_comm b a)

-- u + v and u are multiples of p, so v is
pub mod_drop : (u v p : ℕ) → u % p ≡ 0 → (u + v) % p ≡ 0 → v % p ≡ 0
mod_drop u v p hu h =
    let q : u ≡ p * (u / p) = omega (arith, div-add-mod u p) in
    sym (ap (λ (t : ℕ). (t + v) % p) q ∙ mul-add-mod_self_left p (u / p) v) ∙ h

-- Euclid's lemma below p, by descent on a: p = a q + r, and r stands for a
pub descend : (p : ℕ) → Prime p → (n a b : ℕ) → a ≤ n → 0 < a → a < p → (a * b) % p ≡ 0 → b % p ≡ 0
descend p P zero a b an a0 lt h = absurd (omega arith)
descend p P (suc n) a b an a0 lt h =
    elim (eq-or-lt_of_le a0) [
      | inl e ↦ sym (ap (λ (t : ℕ). t % p) (one-mul b)) ∙ subst (λ (t : ℕ). (t * b) % p ≡ 0) (sym e) h
      | inr g ↦
          let split : a * (p / a) + p % a ≡ p = div-add-mod p a in
          let small : p % a < a = mod-lt p a0 in
          let some : p % a ≡ 0 → ⊥ = P.1 a g lt in
          let pos : 0 < p % a = pos_of (p % a) some in
          let whole : (a * (p / a) * b + p % a * b) % p ≡ 0 =
          ap (λ (t : ℕ). t % p) (sym (add-mul (a * (p / a)) (p % a) b) ∙ ap (λ (t : ℕ). t * b) split) ∙ mul-mod_right p b
          in
          let left : a * (p / a) * b % p ≡ 0 =
          ap (λ (t : ℕ). t % p) (mul_right_comm a (p / a) b)
          ∙ sym (mul_mod_l (a * b) (p / a) p)
          ∙ ap (λ (t : ℕ). t * (p / a) % p) h
          ∙ ap (λ (t : ℕ). t % p) (zero-mul (p / a))
          ∙ zero-mod p
          in
          descend p P n (p % a) b (omega arith) pos (omega arith) (mod_drop (a * (p / a) * b) (p % a * b) p left whole)
    ]

-- a product is zero modulo a prime only if a factor is
pub zero_factor : (p : ℕ) → Prime p → ZeroFactor p
zero_factor p P a b h = by_zero (a % p) refl
  where
    by_zero : (r : ℕ) → r ≡ a % p → (a % p ≡ 0) ⊎ (b % p ≡ 0)
    by_zero zero e = inl (sym e)
    by_zero (suc r) e =
        inr
        (descend p P (a % p) (a % p) b (omega arith) (omega arith) (mod-lt a (omega (arith, P.0))) (mul_mod_l a b p ∙ h))

-- an inverse below p of each number from 1 below p: where p = a q + r and r x = 1, a (p - q) x = 1
pub inverse : (p : ℕ) → Prime p → (n a : ℕ) → a ≤ n → 0 < a → a < p → (x : ℕ) × ((a * x) % p ≡ 1)
inverse p P zero a an a0 lt = absurd (omega arith)
inverse p P (suc n) a an a0 lt =
    elim (eq-or-lt_of_le a0) [
      | inl e ↦ (1, ap (λ (t : ℕ). t % p) (mul-one a ∙ sym e) ∙ mod-eq_of_lt P.0)
      | inr g ↦
          let split : a * (p / a) + p % a ≡ p = div-add-mod p a in
          let small : p % a < a = mod-lt p a0 in
          let some : p % a ≡ 0 → ⊥ = P.1 a g lt in
          let pos : 0 < p % a = pos_of (p % a) some in
          let below : (x : ℕ) × ((p % a * x) % p ≡ 1) = inverse p P n (p % a) (omega arith) pos (omega arith) in
          let le : p / a ≤ p = div-le_self p a in
          let ge : p * 1 ≤ p * a = mul-le-mul_left p (omega arith) in
          let eq : a * (p - p / a) ≡ p * (a - 1) + p % a =
          omega (arith, mul-sub a p (p / a), mul_comm a p, mul-sub p a 1, ge, mul-one p, split)
          in
          let x = below.0 in (
            (p - p / a) * x,
            ap (λ (t : ℕ). t % p)
                (sym (mul_assoc a (p - p / a) x) ∙ ap (λ (t : ℕ). t * x) eq ∙ add-mul (p * (a - 1)) (p % a) x ∙ ap (λ (t : ℕ). t + p % a * x) (mul_assoc p (a - 1) x))
                ∙ mul-add-mod_self_left p ((a - 1) * x) (p % a * x) ∙ below.1,
          )
    ]

pub inverses : (p : ℕ) → Prime p → HasInverses p
inverses p P a a0 lt =
    let i : (x : ℕ) × ((a * x) % p ≡ 1) = inverse p P a a (omega arith) a0 lt in
    (i.0 % p, mod-lt i.0 (omega (arith, P.0)), mul_mod_r a i.0 p ∙ i.1)
