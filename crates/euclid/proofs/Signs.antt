-- Euclid's algorithm modulo p with signed cofactors.
use Rattle.std.proofs.Common.{◌≡◌, ℕ, zero, suc, ◌+◌, ◌*◌, ◌/◌, ◌%◌, ◌<◌, ◌≤◌, ℤ, pos, negsuc, ◌+ℤ◌, ◌-ℤ◌, ◌*ℤ◌, neg_ℤ, nat_abs, ◌≤ℤ◌, sym, refl, ap, ◌∙◌, subst, inl, inr, mul-le-mul_right, mod-lt, mod-eq_of_lt, mul_assoc, mul_comm, add-mul, eq-or-lt_of_le, mul-le-mul_left, one-mul, mul-zero, zero-mul, mul-one, mul-add, div-le_self, le-mul_of_pos_right, div-mul-le_self, mul_left_comm, arith, w64, SFits}
use Prim.Native.Nat.{◌∣◌}
use native.Mathlib.Nat.{div-add-mod, add-mul-mod_self_left, add-mod, zero-mod, mod_self, dvd-mod_iff, dvd_refl, dvd-zero, mod-eq-zero_of_dvd}
use Rattle.arith.proofs.Euclid.{mul_mod_l, mul_mod_r}
use borrow.Author.Differences.{ints}
use Rattle.arith.specs.Number.{Prime, residue}

-- a remainder and its cofactor: a times the cofactor is the remainder modulo p
abbrev pub Cofactor : ℕ → ℕ → ℕ → ℤ → Type 0
Cofactor p a r t = (a * residue p t) % p ≡ r % p

-- what holds at each turn of the loop, of the two last remainders and their cofactors
pub record Running (p a r0 r1 : ℕ) (t0 t1 : ℤ) : Type 0 where
  pub down : r1 < r0
  pub top : r0 ≤ p
  pub gap : r1 ≡ 0 → r0 < p
  pub first : Cofactor p a r0 t0
  pub second : Cofactor p a r1 t1
  pub small : nat_abs t1 * r0 + nat_abs t0 * r1 ≤ p
  pub divides : (d : ℕ) → d ∣ r0 → d ∣ r1 → d ∣ p

-- z and n are the same modulo p
pub record Same (p : ℕ) (z : ℤ) (n : ℕ) : Type 0 where
  pub u : ℕ
  pub v : ℕ
  pub is : z +ℤ pos (p * u) ≡ pos (n + p * v)

pub residue_same : (p : ℕ) (z : ℤ) → 0 < p → Same p z (residue p z)
residue_same p (pos n) h =
    record { u = 0; v = n / p; is = omega (arith, ints, div-add-mod n p, mul-zero p) }
residue_same p (negsuc n) h =
    record { u = n / p + 1; v = 0; is = omega (arith, ints, div-add-mod n p, mod-lt n h, mul-zero p, mul-add p (n / p) 1, mul-one p) }

scaled : (p q m n u v : ℕ) → m + p * u ≡ n + p * v → q * m + p * (q * u) ≡ q * n + p * (q * v)
scaled p q m n u v e =
    omega (arith, ap (λ (x : ℕ). q * x) e, mul-add q m (p * u), mul-add q n (p * v), mul_left_comm q p u, mul_left_comm q p v)

scaled_neg : (p q m n u v : ℕ) → p * u ≡ n + p * v + suc m → p * (q * u) ≡ q * n + p * (q * v) + q * suc m
scaled_neg p q m n u v e =
    omega (arith, ap (λ (x : ℕ). q * x) e, mul-add q (n + p * v) (suc m), mul-add q n (p * v), mul_left_comm q p u, mul_left_comm q p v)

pub same_mul : (p q : ℕ) (y : ℤ) (n : ℕ) → Same p y n → Same p (pos q *ℤ y) (q * n)
same_mul p q (pos m) n s =
    let e : m + p * s.u ≡ n + p * s.v = omega (arith, ints, s.is) in
    record { u = q * s.u; v = q * s.v; is = omega (arith, ints, scaled p q m n s.u s.v e) }
same_mul p q (negsuc m) n s =
    let e : p * s.u ≡ n + p * s.v + suc m = omega (arith, ints, s.is) in
    record { u = q * s.u; v = q * s.v; is = omega (arith, ints, scaled_neg p q m n s.u s.v e) }

-- two numbers that differ by multiples of p
pub mod_shift : (p a b u v : ℕ) → a + p * u ≡ b + p * v → a % p ≡ b % p
mod_shift p a b u v e = sym (add-mul-mod_self_left a p u) ∙ ap (λ (x : ℕ). x % p) e ∙ add-mul-mod_self_left b p v

pub mod_cancel : (p x y k : ℕ) → (x + k) % p ≡ (y + k) % p → x % p ≡ y % p
mod_cancel p x y k e =
    mod_shift p x y ((y + k) / p) ((x + k) / p) (omega (arith, div-add-mod (x + k) p, div-add-mod (y + k) p, e))

pub same_sub : (p a b c : ℕ) (x y : ℤ) → Same p x a → Same p y b → Same p (x -ℤ y) c → (c + b) % p ≡ a % p
same_sub p a b c x y sx sy sw =
    let e : c + b + (p * sw.v + p * sx.u + p * sy.v) ≡ a + (p * sx.v + p * sy.u + p * sw.u) = omega (arith, ints, sx.is, sy.is, sw.is) in
    mod_shift p (c + b) a (sw.v + sx.u + sy.v) (sx.v + sy.u + sw.u)
    (omega
    (arith, e, mul-add p (sw.v + sx.u) sy.v, mul-add p sw.v sx.u, mul-add p (sx.v + sy.u) sw.u, mul-add p sx.v sy.u))

-- the step of a cofactor, read modulo p
pub step_residue : (p q : ℕ) (x y : ℤ) → 0 < p → (residue p (x -ℤ pos q *ℤ y) + q * residue p y) % p ≡ residue p x % p
step_residue p q x y h =
    same_sub p (residue p x) (q * residue p y) (residue p (x -ℤ pos q *ℤ y)) x (pos q *ℤ y) (residue_same p x h)
    (same_mul p q y (residue p y) (residue_same p y h)) (residue_same p (x -ℤ pos q *ℤ y) h)

pub step_cofactor : (p a r0 r1 : ℕ) (t0 t1 : ℤ) → 0 < p → Cofactor p a r0 t0 → Cofactor p a r1 t1 → Cofactor p a (r0 % r1) (t0 -ℤ pos (r0 / r1) *ℤ t1)
step_cofactor p a r0 r1 t0 t1 h c0 c1 =
    mod_cancel p (a * residue p (t0 -ℤ pos (r0 / r1) *ℤ t1)) (r0 % r1) (r1 * (r0 / r1)) (left ∙ right)
  where
    c : ℕ
    c = residue p (t0 -ℤ pos (r0 / r1) *ℤ t1)

    -- q r1 is q a t1 modulo p
    swap : (r1 * (r0 / r1)) % p ≡ (a * (r0 / r1 * residue p t1)) % p
    swap =
        sym (mul_mod_l r1 (r0 / r1) p) ∙ ap (λ (x : ℕ). (x * (r0 / r1)) % p) (sym c1) ∙ mul_mod_l (a * residue p t1) (r0 / r1) p
        ∙ ap (λ (x : ℕ). x % p) (mul_assoc a (residue p t1) (r0 / r1) ∙ ap (λ (x : ℕ). a * x) (mul_comm (residue p t1) (r0 / r1)))

    left : (a * residue p (t0 -ℤ pos (r0 / r1) *ℤ t1) + r1 * (r0 / r1)) % p ≡ r0 % p
    left =
        add-mod (a * residue p (t0 -ℤ pos (r0 / r1) *ℤ t1)) (r1 * (r0 / r1)) p
        ∙ ap (λ (x : ℕ). ((a * residue p (t0 -ℤ pos (r0 / r1) *ℤ t1)) % p + x) % p) swap
        ∙ sym (add-mod (a * residue p (t0 -ℤ pos (r0 / r1) *ℤ t1)) (a * (r0 / r1 * residue p t1)) p)
        ∙ ap (λ (x : ℕ). x % p) (sym (mul-add a (residue p (t0 -ℤ pos (r0 / r1) *ℤ t1)) (r0 / r1 * residue p t1)))
        ∙ sym (mul_mod_r a (residue p (t0 -ℤ pos (r0 / r1) *ℤ t1) + r0 / r1 * residue p t1) p)
        ∙ ap (λ (x : ℕ). (a * x) % p) (step_residue p (r0 / r1) t0 t1 h)
        ∙ mul_mod_r a (residue p t0) p ∙ c0

    right : r0 % p ≡ (r0 % r1 + r1 * (r0 / r1)) % p
    right = ap (λ (x : ℕ). x % p) (omega (arith, div-add-mod r0 r1))

-- sizes
pub abs_le : (z : ℤ) (n : ℕ) → z ≤ℤ pos n → neg_ℤ (pos n) ≤ℤ z → nat_abs z ≤ n
abs_le (pos m) n h g = omega (arith, ints)
abs_le (negsuc m) n h g = omega (arith, ints)

pub abs_up : (z : ℤ) → z ≤ℤ pos (nat_abs z)
abs_up (pos m) = omega (arith, ints)
abs_up (negsuc m) = omega (arith, ints)

pub abs_down : (z : ℤ) → neg_ℤ (pos (nat_abs z)) ≤ℤ z
abs_down (pos m) = omega (arith, ints)
abs_down (negsuc m) = omega (arith, ints)

pub abs_mul : (q : ℕ) (y : ℤ) → nat_abs (pos q *ℤ y) ≡ q * nat_abs y
abs_mul q (pos m) = refl
abs_mul q (negsuc m) = abs_neg (q * suc m)
  where
    abs_neg : (n : ℕ) → nat_abs (neg_ℤ (pos n)) ≡ n
    abs_neg zero = refl
    abs_neg (suc n) = refl

pub abs_sub : (x y : ℤ) → nat_abs (x -ℤ y) ≤ nat_abs x + nat_abs y
abs_sub x y =
    abs_le (x -ℤ y) (nat_abs x + nat_abs y) (omega (arith, ints, abs_up x, abs_down y)) (omega (arith, ints, abs_down x, abs_up y))

pub small_fits : (z : ℤ) → nat_abs z ≤ 8589934592 → SFits w64 z
small_fits (pos n) h = omega (arith, ints)
small_fits (negsuc n) h = omega (arith, ints)

pub step_fits : (q : ℕ) (t0 t1 : ℤ) → nat_abs t0 ≤ 4294967296 → q * nat_abs t1 ≤ 4294967296 → SFits w64 (t0 -ℤ pos q *ℤ t1)
step_fits q t0 t1 h g = small_fits (t0 -ℤ pos q *ℤ t1) (omega (arith, abs_sub t0 (pos q *ℤ t1), abs_mul q t1))

pub mul_fits : (q : ℕ) (t1 : ℤ) → q * nat_abs t1 ≤ 4294967296 → SFits w64 (pos q *ℤ t1)
mul_fits q t1 g = small_fits (pos q *ℤ t1) (omega (arith, abs_mul q t1))

-- the bound of the cofactors after a step
pub step_small : (p r0 r1 : ℕ) (t0 t1 : ℤ) → 0 < r1 → nat_abs t1 * r0 + nat_abs t0 * r1 ≤ p → nat_abs (t0 -ℤ pos (r0 / r1) *ℤ t1) * r1 + nat_abs t1 * (r0 % r1) ≤ p
step_small p r0 r1 t0 t1 pos_r h =
    let q = r0 / r1 in
    let le : nat_abs (t0 -ℤ pos (r0 / r1) *ℤ t1) * r1 ≤ (nat_abs t0 + r0 / r1 * nat_abs t1) * r1 =
    mul-le-mul_right r1 (omega (arith, abs_sub t0 (pos (r0 / r1) *ℤ t1), abs_mul (r0 / r1) t1))
    in
    let whole : nat_abs t1 * r0 ≡ nat_abs t1 * (r1 * (r0 / r1)) + nat_abs t1 * (r0 % r1) =
    ap (λ (x : ℕ). nat_abs t1 * x) (sym (div-add-mod r0 r1)) ∙ mul-add (nat_abs t1) (r1 * (r0 / r1)) (r0 % r1)
    in
    let same : r0 / r1 * nat_abs t1 * r1 ≡ nat_abs t1 * (r1 * (r0 / r1)) =
    ap (λ (x : ℕ). x * r1) (mul_comm (r0 / r1) (nat_abs t1)) ∙ mul_assoc (nat_abs t1) (r0 / r1) r1 ∙ ap (λ (x : ℕ). nat_abs t1 * x) (mul_comm (r0 / r1) r1)
    in
    omega (arith, le, whole, same, add-mul (nat_abs t0) (r0 / r1 * nat_abs t1) r1, h)

pub bounds : (p r0 r1 : ℕ) (t0 t1 : ℤ) → 0 < r1 → nat_abs t1 * r0 + nat_abs t0 * r1 ≤ p → (nat_abs t0 ≤ p) × (r0 / r1 * nat_abs t1 ≤ p)
bounds p r0 r1 t0 t1 h e =
    let a : nat_abs t0 ≤ nat_abs t0 * r1 = le-mul_of_pos_right (nat_abs t0) h in
    let b : r0 / r1 * 1 ≤ r0 / r1 * r1 = mul-le-mul_left (r0 / r1) h in
    let d : r0 / r1 ≤ r0 = omega (arith, b, div-mul-le_self r0 r1, mul-one (r0 / r1)) in
    let f : nat_abs t1 * (r0 / r1) ≤ nat_abs t1 * r0 = mul-le-mul_left (nat_abs t1) d in
    (omega arith, omega (arith, f, mul_comm (r0 / r1) (nat_abs t1), e))

pub start : (p a : ℕ) → 1 < p → 0 < a → a < p → Running p a p a (pos 0) (pos 1)
start p a h a0 lt =
    record {
      down = lt;
      top = omega arith;
      gap = λ e. omega arith;
      first = ap (λ (x : ℕ). (a * x) % p) (zero-mod p) ∙ ap (λ (x : ℕ). x % p) (mul-zero a) ∙ zero-mod p ∙ sym (mod_self p);
      second = mul_mod_r a 1 p ∙ ap (λ (x : ℕ). x % p) (mul-one a);
      small = omega (arith, one-mul p, zero-mul a);
      divides = λ d dp da. dp;
    }

pub again : (p a r0 r1 : ℕ) (t0 t1 r : ℤ) → 0 < p → 0 < r1 → r ≡ t0 -ℤ pos (r0 / r1) *ℤ t1 → Running p a r0 r1 t0 t1 → Running p a r1 (r0 % r1) t1 r
again p a r0 r1 t0 t1 r p0 h e inv =
    record {
      down = mod-lt r0 h;
      top = omega (arith, inv.down, inv.top);
      gap = λ z. omega (arith, inv.down, inv.top);
      first = inv.second;
      second =
          subst (λ (z : ℤ). Cofactor p a (r0 % r1) z) (sym e) (step_cofactor p a r0 r1 t0 t1 p0 inv.first inv.second);
      small = subst (λ (z : ℤ). nat_abs z * r1 + nat_abs t1 * (r0 % r1) ≤ p) (sym e) (step_small p r0 r1 t0 t1 h inv.small);
      divides = λ d d1 d2. inv.divides d ((dvd-mod_iff d {m = r0} {n = r1} d1).0 d2) d1;
    }

pub residue_below : (p : ℕ) (z : ℤ) → 0 < p → residue p z < p
residue_below p (pos n) h = mod-lt n h
residue_below p (negsuc n) h = omega arith

pub ended : (p a r0 r1 : ℕ) (t0 t1 : ℤ) → Prime p → r1 ≤ 0 → Running p a r0 r1 t0 t1 → (a * residue p t0) % p ≡ 1
ended p a r0 r1 t0 t1 P h inv =
    let z : r1 ≡ 0 = omega arith in
    let d : r0 ∣ p = inv.divides r0 (dvd_refl r0) (subst (λ (x : ℕ). r0 ∣ x) (sym z) (dvd-zero r0)) in
    let lt : r0 < p = inv.gap z in
    let one : 1 ≡ r0 =
    elim (eq-or-lt_of_le {n = 1} {m = r0} (omega (arith, inv.down)))
    [ inl e ↦ e | inr g ↦ absurd (P.1 r0 g lt (mod-eq-zero_of_dvd r0 d)) ]
    in
    inv.first ∙ ap (λ (x : ℕ). x % p) (sym one) ∙ mod-eq_of_lt P.0

pub record Fine (q : ℕ) (t0 t1 : ℤ) : Type 0 where
  pub times : q ≤ 4294967296
  pub first : nat_abs t0 ≤ 4294967296
  pub second : q * nat_abs t1 ≤ 4294967296

pub fine : (p a r0 r1 : ℕ) (t0 t1 : ℤ) → p < 4294967296 → 0 < r1 → Running p a r0 r1 t0 t1 → Fine (r0 / r1) t0 t1
fine p a r0 r1 t0 t1 fits h inv =
    let b = bounds p r0 r1 t0 t1 h inv.small in
    record {
      times = omega (arith, div-le_self r0 r1, inv.top);
      first = omega (arith, b.0);
      second = omega (arith, b.1);
    }
