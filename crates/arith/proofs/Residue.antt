-- Congruence as a type of its own, so that its arguments are found and `grw` rewrites by it.
use mathlib.Core.Path.{◌≡◌, refl, sym, ◌∙◌, ap}
use mathlib.Core.List.{[], ◌∷◌}
use mathlib.Core.Logic.{◌⊎◌, inl, inr}
use Prim.Native.Nat.{ℕ, ◌+◌, ◌-◌, ◌*◌, ◌%◌, ◌^◌, ◌<◌}
use native.Mathlib.Nat.{mod-mod, mod-eq_of_lt, suc-ne-zero}
use native.Mathlib.Omega.{arith}
use Rattle.arith.specs.Number.{Prime}
use Rattle.arith.proofs.Euclid.{zero_factor}
use Rattle.arith.proofs.Bits.{pos_of_prime}
use Rattle.arith.proofs.Solve.{reads, none, times, by_mod, by_zero, by_same}
use Rattle.arith.proofs.Ring.{≈-add, ≈-mul, ≈-pow, done}

pub record Cong (p x y : ℕ) : Type 0 where
  pub same : x % p ≡ y % p

pub cong : {p x y : ℕ} → x % p ≡ y % p → Cong p x y
cong h = record { same = h }

pub c_refl : (p x : ℕ) → Cong p x x
c_refl p x = record { same = refl }

pub c_eq : {p x y : ℕ} → x ≡ y → Cong p x y
c_eq {p} e = record { same = ap (λ (t : ℕ). t % p) e }

pub c_sym : {p x y : ℕ} → Cong p x y → Cong p y x
c_sym h = record { same = sym h.same }

pub c_trans : {p x y z : ℕ} → Cong p x y → Cong p y z → Cong p x z
c_trans h g = record { same = h.same ∙ g.same }

pub c_add : {p x x' y y' : ℕ} → Cong p x x' → Cong p y y' → Cong p (x + y) (x' + y')
c_add {p} {x} {x'} {y} {y'} h g = record { same = ≈-add p x x' y y' h.same g.same }

pub c_mul : {p x x' y y' : ℕ} → Cong p x x' → Cong p y y' → Cong p (x * y) (x' * y')
c_mul {p} {x} {x'} {y} {y'} h g = record { same = ≈-mul p x x' y y' h.same g.same }

pub c_pow : {p x y : ℕ} (n : ℕ) → Cong p x y → Cong p (x ^ n) (y ^ n)
c_pow {p} {x} {y} n h = record { same = ≈-pow p x y n h.same }

-- a remainder taken early
pub c_rem : (p x : ℕ) → Cong p (x % p) x
c_rem p x = record { same = mod-mod x p }

-- congruent numbers below p are equal
pub c_below : {p x y : ℕ} → x < p → y < p → Cong p x y → x ≡ y
c_below l r h = sym (mod-eq_of_lt l) ∙ h.same ∙ mod-eq_of_lt r

pub ruleset residues = (c_trans, c_refl, c_add, c_mul)

-- ---- what needs a prime

-- c x = c y, and c is not zero
pub cancel : (p c x y : ℕ) → Prime p → (c % p ≡ 0 → ⊥) → (c * x) % p ≡ (c * y) % p → x % p ≡ y % p
cancel p c x y P nz h =
    elim (zero_factor p P c (x + (p - 1) * y) (by_zero p (pos_of_prime P) (c ∷ x ∷ y ∷ []) (times 1 h (search reads) none) (search reads) done)) [
      | inl z ↦ absurd (nz z)
      | inr z ↦ by_mod p (pos_of_prime P) (x ∷ y ∷ []) (times 1 z (search reads) none) (search reads) done
    ]

-- what has an inverse is not zero
pub unit_not_zero : (p x m : ℕ) → 1 < p → (x * m) % p ≡ 1 → x % p ≡ 0 → ⊥
unit_not_zero p x m one h z =
    suc-ne-zero 0 (by_same p (omega arith) (x ∷ m ∷ []) (times (p - 1) h (search reads) (times m z (search reads) none)) one (omega arith) (search reads) done)

-- (x - a) (x - b) = 0
pub one_of : (p x a b : ℕ) → Prime p → x < p → a < p → b < p → ((x + (p - 1) * a) * (x + (p - 1) * b)) % p ≡ 0 → (x ≡ a) ⊎ (x ≡ b)
one_of p x a b P lx la lb h =
    elim (zero_factor p P (x + (p - 1) * a) (x + (p - 1) * b) h) [
      | inl z ↦ inl (by_same p (pos_of_prime P) (x ∷ a ∷ []) (times 1 z (search reads) none) lx la (search reads) done)
      | inr z ↦ inr (by_same p (pos_of_prime P) (x ∷ b ∷ []) (times 1 z (search reads) none) lx lb (search reads) done)
    ]
