-- Identities modulo p with nothing written twice: `search reads` reads the expressions off the goal and off the hypotheses.
use mathlib.Core.Path.{◌≡◌, refl, sym, ◌∙◌, ap, ap₂}
use mathlib.Core.Bool.{true}
use mathlib.Core.List.{List, ◌∷◌}
use Prim.Native.Nat.{ℕ, suc, ◌+◌, ◌-◌, ◌*◌, ◌%◌, ◌^◌, ◌<◌}
use native.Mathlib.Nat.{mod-eq_of_lt}
use lib.Dec.{eqb}
use Rattle.arith.proofs.Ring.{E, var, k, m1, modulus, ◌⊕◌, ◌⊗◌, ◌^^◌, nxt, rem, den, norm, clean, ever, here, rest, Eqn, ◌≐◌, ◌≐0, ◌≐≐◌, Claim, goal, ◌⟪◌⟫◌, ≔⟪◌⟫◌, Says, Wanted, lin_of, lin_here, Left}

-- an expression over ρ that means x
pub record R (p : ℕ) (ρ : List ℕ) (x : ℕ) : Type 0 where
  pub e : E
  pub is : den p (p - 1) ρ e ≡ x

-- one for each of two, three numbers
pub record Two (p : ℕ) (ρ : List ℕ) (x y : ℕ) : Type 0 where
  pub l : R p ρ x
  pub r : R p ρ y

pub record Three (p : ℕ) (ρ : List ℕ) (n x y : ℕ) : Type 0 where
  pub c : R p ρ n
  pub l : R p ρ x
  pub r : R p ρ y

abbrev pub r_two : (p : ℕ) (ρ : List ℕ) (x y : ℕ) → R p ρ x → R p ρ y → Two p ρ x y
r_two p ρ x y a b = record { l = a; r = b }

abbrev pub r_three : (p : ℕ) (ρ : List ℕ) (c x y : ℕ) → R p ρ c → R p ρ x → R p ρ y → Three p ρ c x y
r_three p ρ c x y m a b = record { c = m; l = a; r = b }

-- a numeral: only there does the test compute
abbrev pub r_lit : (p : ℕ) (ρ : List ℕ) (n : ℕ) → eqb n n ≡ true → R p ρ n
r_lit p ρ n h = record { e = k n; is = refl }

abbrev pub r_m1 : (p : ℕ) (ρ : List ℕ) → R p ρ (p - 1)
r_m1 p ρ = record { e = m1; is = refl }

abbrev pub r_modulus : (p : ℕ) (ρ : List ℕ) → R p ρ p
r_modulus p ρ = record { e = modulus; is = refl }

abbrev pub r_add : (p : ℕ) (ρ : List ℕ) (x y : ℕ) → R p ρ x → R p ρ y → R p ρ (x + y)
r_add p ρ x y a b = record { e = a.e ⊕ b.e; is = ap₂ ◌+◌ a.is b.is }

abbrev pub r_mul : (p : ℕ) (ρ : List ℕ) (x y : ℕ) → R p ρ x → R p ρ y → R p ρ (x * y)
r_mul p ρ x y a b = record { e = a.e ⊗ b.e; is = ap₂ ◌*◌ a.is b.is }

abbrev pub r_pow : (p : ℕ) (ρ : List ℕ) (x n : ℕ) → eqb n n ≡ true → R p ρ x → R p ρ (x ^ n)
r_pow p ρ x n h a = record { e = a.e ^^ n; is = ap (λ (t : ℕ). t ^ n) a.is }

abbrev pub r_suc : (p : ℕ) (ρ : List ℕ) (x : ℕ) → R p ρ x → R p ρ (suc x)
r_suc p ρ x a = record { e = nxt a.e; is = ap suc a.is }

abbrev pub r_rem : (p : ℕ) (ρ : List ℕ) (x : ℕ) → R p ρ x → R p ρ (x % p)
r_rem p ρ x a = record { e = rem a.e; is = ap (λ (t : ℕ). t % p) a.is }

abbrev pub r0 : (p : ℕ) (ρ : List ℕ) (x0 : ℕ) → R p (x0 ∷ ρ) x0
r0 p ρ x0 = record { e = var 0; is = refl }

abbrev pub r1 : (p : ℕ) (ρ : List ℕ) (x0 x1 : ℕ) → R p (x0 ∷ x1 ∷ ρ) x1
r1 p ρ x0 x1 = record { e = var 1; is = refl }

abbrev pub r2 : (p : ℕ) (ρ : List ℕ) (x0 x1 x2 : ℕ) → R p (x0 ∷ x1 ∷ x2 ∷ ρ) x2
r2 p ρ x0 x1 x2 = record { e = var 2; is = refl }

abbrev pub r3 : (p : ℕ) (ρ : List ℕ) (x0 x1 x2 x3 : ℕ) → R p (x0 ∷ x1 ∷ x2 ∷ x3 ∷ ρ) x3
r3 p ρ x0 x1 x2 x3 = record { e = var 3; is = refl }

abbrev pub r4 : (p : ℕ) (ρ : List ℕ) (x0 x1 x2 x3 x4 : ℕ) → R p (x0 ∷ x1 ∷ x2 ∷ x3 ∷ x4 ∷ ρ) x4
r4 p ρ x0 x1 x2 x3 x4 = record { e = var 4; is = refl }

abbrev pub r5 : (p : ℕ) (ρ : List ℕ) (x0 x1 x2 x3 x4 x5 : ℕ) → R p (x0 ∷ x1 ∷ x2 ∷ x3 ∷ x4 ∷ x5 ∷ ρ) x5
r5 p ρ x0 x1 x2 x3 x4 x5 = record { e = var 5; is = refl }

abbrev pub r6 : (p : ℕ) (ρ : List ℕ) (x0 x1 x2 x3 x4 x5 x6 : ℕ) → R p (x0 ∷ x1 ∷ x2 ∷ x3 ∷ x4 ∷ x5 ∷ x6 ∷ ρ) x6
r6 p ρ x0 x1 x2 x3 x4 x5 x6 = record { e = var 6; is = refl }

abbrev pub r7 : (p : ℕ) (ρ : List ℕ) (x0 x1 x2 x3 x4 x5 x6 x7 : ℕ) → R p (x0 ∷ x1 ∷ x2 ∷ x3 ∷ x4 ∷ x5 ∷ x6 ∷ x7 ∷ ρ) x7
r7 p ρ x0 x1 x2 x3 x4 x5 x6 x7 = record { e = var 7; is = refl }

abbrev pub r8 : (p : ℕ) (ρ : List ℕ) (x0 x1 x2 x3 x4 x5 x6 x7 x8 : ℕ) → R p (x0 ∷ x1 ∷ x2 ∷ x3 ∷ x4 ∷ x5 ∷ x6 ∷ x7 ∷ x8 ∷ ρ) x8
r8 p ρ x0 x1 x2 x3 x4 x5 x6 x7 x8 = record { e = var 8; is = refl }

abbrev pub r9 : (p : ℕ) (ρ : List ℕ) (x0 x1 x2 x3 x4 x5 x6 x7 x8 x9 : ℕ) → R p (x0 ∷ x1 ∷ x2 ∷ x3 ∷ x4 ∷ x5 ∷ x6 ∷ x7 ∷ x8 ∷ x9 ∷ ρ) x9
r9 p ρ x0 x1 x2 x3 x4 x5 x6 x7 x8 x9 = record { e = var 9; is = refl }

abbrev pub r10 : (p : ℕ) (ρ : List ℕ) (x0 x1 x2 x3 x4 x5 x6 x7 x8 x9 x10 : ℕ) → R p (x0 ∷ x1 ∷ x2 ∷ x3 ∷ x4 ∷ x5 ∷ x6 ∷ x7 ∷ x8 ∷ x9 ∷ x10 ∷ ρ) x10
r10 p ρ x0 x1 x2 x3 x4 x5 x6 x7 x8 x9 x10 = record { e = var 10; is = refl }

abbrev pub r11 : (p : ℕ) (ρ : List ℕ) (x0 x1 x2 x3 x4 x5 x6 x7 x8 x9 x10 x11 : ℕ) → R p (x0 ∷ x1 ∷ x2 ∷ x3 ∷ x4 ∷ x5 ∷ x6 ∷ x7 ∷ x8 ∷ x9 ∷ x10 ∷ x11 ∷ ρ) x11
r11 p ρ x0 x1 x2 x3 x4 x5 x6 x7 x8 x9 x10 x11 = record { e = var 11; is = refl }

abbrev pub r12 : (p : ℕ) (ρ : List ℕ) (x0 x1 x2 x3 x4 x5 x6 x7 x8 x9 x10 x11 x12 : ℕ) → R p (x0 ∷ x1 ∷ x2 ∷ x3 ∷ x4 ∷ x5 ∷ x6 ∷ x7 ∷ x8 ∷ x9 ∷ x10 ∷ x11 ∷ x12 ∷ ρ) x12
r12 p ρ x0 x1 x2 x3 x4 x5 x6 x7 x8 x9 x10 x11 x12 = record { e = var 12; is = refl }

abbrev pub r13 : (p : ℕ) (ρ : List ℕ) (x0 x1 x2 x3 x4 x5 x6 x7 x8 x9 x10 x11 x12 x13 : ℕ) → R p (x0 ∷ x1 ∷ x2 ∷ x3 ∷ x4 ∷ x5 ∷ x6 ∷ x7 ∷ x8 ∷ x9 ∷ x10 ∷ x11 ∷ x12 ∷ x13 ∷ ρ) x13
r13 p ρ x0 x1 x2 x3 x4 x5 x6 x7 x8 x9 x10 x11 x12 x13 = record { e = var 13; is = refl }

abbrev pub r14 : (p : ℕ) (ρ : List ℕ) (x0 x1 x2 x3 x4 x5 x6 x7 x8 x9 x10 x11 x12 x13 x14 : ℕ) → R p (x0 ∷ x1 ∷ x2 ∷ x3 ∷ x4 ∷ x5 ∷ x6 ∷ x7 ∷ x8 ∷ x9 ∷ x10 ∷ x11 ∷ x12 ∷ x13 ∷ x14 ∷ ρ) x14
r14 p ρ x0 x1 x2 x3 x4 x5 x6 x7 x8 x9 x10 x11 x12 x13 x14 = record { e = var 14; is = refl }

abbrev pub r15 : (p : ℕ) (ρ : List ℕ) (x0 x1 x2 x3 x4 x5 x6 x7 x8 x9 x10 x11 x12 x13 x14 x15 : ℕ) → R p (x0 ∷ x1 ∷ x2 ∷ x3 ∷ x4 ∷ x5 ∷ x6 ∷ x7 ∷ x8 ∷ x9 ∷ x10 ∷ x11 ∷ x12 ∷ x13 ∷ x14 ∷ x15 ∷ ρ) x15
r15 p ρ x0 x1 x2 x3 x4 x5 x6 x7 x8 x9 x10 x11 x12 x13 x14 x15 = record { e = var 15; is = refl }

abbrev pub r16 : (p : ℕ) (ρ : List ℕ) (x0 x1 x2 x3 x4 x5 x6 x7 x8 x9 x10 x11 x12 x13 x14 x15 x16 : ℕ) → R p (x0 ∷ x1 ∷ x2 ∷ x3 ∷ x4 ∷ x5 ∷ x6 ∷ x7 ∷ x8 ∷ x9 ∷ x10 ∷ x11 ∷ x12 ∷ x13 ∷ x14 ∷ x15 ∷ x16 ∷ ρ) x16
r16 p ρ x0 x1 x2 x3 x4 x5 x6 x7 x8 x9 x10 x11 x12 x13 x14 x15 x16 = record { e = var 16; is = refl }

abbrev pub r17 : (p : ℕ) (ρ : List ℕ) (x0 x1 x2 x3 x4 x5 x6 x7 x8 x9 x10 x11 x12 x13 x14 x15 x16 x17 : ℕ) → R p (x0 ∷ x1 ∷ x2 ∷ x3 ∷ x4 ∷ x5 ∷ x6 ∷ x7 ∷ x8 ∷ x9 ∷ x10 ∷ x11 ∷ x12 ∷ x13 ∷ x14 ∷ x15 ∷ x16 ∷ x17 ∷ ρ) x17
r17 p ρ x0 x1 x2 x3 x4 x5 x6 x7 x8 x9 x10 x11 x12 x13 x14 x15 x16 x17 = record { e = var 17; is = refl }

abbrev pub r18 : (p : ℕ) (ρ : List ℕ) (x0 x1 x2 x3 x4 x5 x6 x7 x8 x9 x10 x11 x12 x13 x14 x15 x16 x17 x18 : ℕ) → R p (x0 ∷ x1 ∷ x2 ∷ x3 ∷ x4 ∷ x5 ∷ x6 ∷ x7 ∷ x8 ∷ x9 ∷ x10 ∷ x11 ∷ x12 ∷ x13 ∷ x14 ∷ x15 ∷ x16 ∷ x17 ∷ x18 ∷ ρ) x18
r18 p ρ x0 x1 x2 x3 x4 x5 x6 x7 x8 x9 x10 x11 x12 x13 x14 x15 x16 x17 x18 = record { e = var 18; is = refl }

abbrev pub r19 : (p : ℕ) (ρ : List ℕ) (x0 x1 x2 x3 x4 x5 x6 x7 x8 x9 x10 x11 x12 x13 x14 x15 x16 x17 x18 x19 : ℕ) → R p (x0 ∷ x1 ∷ x2 ∷ x3 ∷ x4 ∷ x5 ∷ x6 ∷ x7 ∷ x8 ∷ x9 ∷ x10 ∷ x11 ∷ x12 ∷ x13 ∷ x14 ∷ x15 ∷ x16 ∷ x17 ∷ x18 ∷ x19 ∷ ρ) x19
r19 p ρ x0 x1 x2 x3 x4 x5 x6 x7 x8 x9 x10 x11 x12 x13 x14 x15 x16 x17 x18 x19 = record { e = var 19; is = refl }

abbrev pub r20 : (p : ℕ) (ρ : List ℕ) (x0 x1 x2 x3 x4 x5 x6 x7 x8 x9 x10 x11 x12 x13 x14 x15 x16 x17 x18 x19 x20 : ℕ) → R p (x0 ∷ x1 ∷ x2 ∷ x3 ∷ x4 ∷ x5 ∷ x6 ∷ x7 ∷ x8 ∷ x9 ∷ x10 ∷ x11 ∷ x12 ∷ x13 ∷ x14 ∷ x15 ∷ x16 ∷ x17 ∷ x18 ∷ x19 ∷ x20 ∷ ρ) x20
r20 p ρ x0 x1 x2 x3 x4 x5 x6 x7 x8 x9 x10 x11 x12 x13 x14 x15 x16 x17 x18 x19 x20 = record { e = var 20; is = refl }

abbrev pub r21 : (p : ℕ) (ρ : List ℕ) (x0 x1 x2 x3 x4 x5 x6 x7 x8 x9 x10 x11 x12 x13 x14 x15 x16 x17 x18 x19 x20 x21 : ℕ) → R p (x0 ∷ x1 ∷ x2 ∷ x3 ∷ x4 ∷ x5 ∷ x6 ∷ x7 ∷ x8 ∷ x9 ∷ x10 ∷ x11 ∷ x12 ∷ x13 ∷ x14 ∷ x15 ∷ x16 ∷ x17 ∷ x18 ∷ x19 ∷ x20 ∷ x21 ∷ ρ) x21
r21 p ρ x0 x1 x2 x3 x4 x5 x6 x7 x8 x9 x10 x11 x12 x13 x14 x15 x16 x17 x18 x19 x20 x21 = record { e = var 21; is = refl }

abbrev pub r22 : (p : ℕ) (ρ : List ℕ) (x0 x1 x2 x3 x4 x5 x6 x7 x8 x9 x10 x11 x12 x13 x14 x15 x16 x17 x18 x19 x20 x21 x22 : ℕ) → R p (x0 ∷ x1 ∷ x2 ∷ x3 ∷ x4 ∷ x5 ∷ x6 ∷ x7 ∷ x8 ∷ x9 ∷ x10 ∷ x11 ∷ x12 ∷ x13 ∷ x14 ∷ x15 ∷ x16 ∷ x17 ∷ x18 ∷ x19 ∷ x20 ∷ x21 ∷ x22 ∷ ρ) x22
r22 p ρ x0 x1 x2 x3 x4 x5 x6 x7 x8 x9 x10 x11 x12 x13 x14 x15 x16 x17 x18 x19 x20 x21 x22 = record { e = var 22; is = refl }

abbrev pub r23 : (p : ℕ) (ρ : List ℕ) (x0 x1 x2 x3 x4 x5 x6 x7 x8 x9 x10 x11 x12 x13 x14 x15 x16 x17 x18 x19 x20 x21 x22 x23 : ℕ) → R p (x0 ∷ x1 ∷ x2 ∷ x3 ∷ x4 ∷ x5 ∷ x6 ∷ x7 ∷ x8 ∷ x9 ∷ x10 ∷ x11 ∷ x12 ∷ x13 ∷ x14 ∷ x15 ∷ x16 ∷ x17 ∷ x18 ∷ x19 ∷ x20 ∷ x21 ∷ x22 ∷ x23 ∷ ρ) x23
r23 p ρ x0 x1 x2 x3 x4 x5 x6 x7 x8 x9 x10 x11 x12 x13 x14 x15 x16 x17 x18 x19 x20 x21 x22 x23 = record { e = var 23; is = refl }

abbrev pub r24 : (p : ℕ) (ρ : List ℕ) (x0 x1 x2 x3 x4 x5 x6 x7 x8 x9 x10 x11 x12 x13 x14 x15 x16 x17 x18 x19 x20 x21 x22 x23 x24 : ℕ) → R p (x0 ∷ x1 ∷ x2 ∷ x3 ∷ x4 ∷ x5 ∷ x6 ∷ x7 ∷ x8 ∷ x9 ∷ x10 ∷ x11 ∷ x12 ∷ x13 ∷ x14 ∷ x15 ∷ x16 ∷ x17 ∷ x18 ∷ x19 ∷ x20 ∷ x21 ∷ x22 ∷ x23 ∷ x24 ∷ ρ) x24
r24 p ρ x0 x1 x2 x3 x4 x5 x6 x7 x8 x9 x10 x11 x12 x13 x14 x15 x16 x17 x18 x19 x20 x21 x22 x23 x24 = record { e = var 24; is = refl }

abbrev pub r25 : (p : ℕ) (ρ : List ℕ) (x0 x1 x2 x3 x4 x5 x6 x7 x8 x9 x10 x11 x12 x13 x14 x15 x16 x17 x18 x19 x20 x21 x22 x23 x24 x25 : ℕ) → R p (x0 ∷ x1 ∷ x2 ∷ x3 ∷ x4 ∷ x5 ∷ x6 ∷ x7 ∷ x8 ∷ x9 ∷ x10 ∷ x11 ∷ x12 ∷ x13 ∷ x14 ∷ x15 ∷ x16 ∷ x17 ∷ x18 ∷ x19 ∷ x20 ∷ x21 ∷ x22 ∷ x23 ∷ x24 ∷ x25 ∷ ρ) x25
r25 p ρ x0 x1 x2 x3 x4 x5 x6 x7 x8 x9 x10 x11 x12 x13 x14 x15 x16 x17 x18 x19 x20 x21 x22 x23 x24 x25 = record { e = var 25; is = refl }

abbrev pub r26 : (p : ℕ) (ρ : List ℕ) (x0 x1 x2 x3 x4 x5 x6 x7 x8 x9 x10 x11 x12 x13 x14 x15 x16 x17 x18 x19 x20 x21 x22 x23 x24 x25 x26 : ℕ) → R p (x0 ∷ x1 ∷ x2 ∷ x3 ∷ x4 ∷ x5 ∷ x6 ∷ x7 ∷ x8 ∷ x9 ∷ x10 ∷ x11 ∷ x12 ∷ x13 ∷ x14 ∷ x15 ∷ x16 ∷ x17 ∷ x18 ∷ x19 ∷ x20 ∷ x21 ∷ x22 ∷ x23 ∷ x24 ∷ x25 ∷ x26 ∷ ρ) x26
r26 p ρ x0 x1 x2 x3 x4 x5 x6 x7 x8 x9 x10 x11 x12 x13 x14 x15 x16 x17 x18 x19 x20 x21 x22 x23 x24 x25 x26 = record { e = var 26; is = refl }

abbrev pub r27 : (p : ℕ) (ρ : List ℕ) (x0 x1 x2 x3 x4 x5 x6 x7 x8 x9 x10 x11 x12 x13 x14 x15 x16 x17 x18 x19 x20 x21 x22 x23 x24 x25 x26 x27 : ℕ) → R p (x0 ∷ x1 ∷ x2 ∷ x3 ∷ x4 ∷ x5 ∷ x6 ∷ x7 ∷ x8 ∷ x9 ∷ x10 ∷ x11 ∷ x12 ∷ x13 ∷ x14 ∷ x15 ∷ x16 ∷ x17 ∷ x18 ∷ x19 ∷ x20 ∷ x21 ∷ x22 ∷ x23 ∷ x24 ∷ x25 ∷ x26 ∷ x27 ∷ ρ) x27
r27 p ρ x0 x1 x2 x3 x4 x5 x6 x7 x8 x9 x10 x11 x12 x13 x14 x15 x16 x17 x18 x19 x20 x21 x22 x23 x24 x25 x26 x27 = record { e = var 27; is = refl }

abbrev pub r28 : (p : ℕ) (ρ : List ℕ) (x0 x1 x2 x3 x4 x5 x6 x7 x8 x9 x10 x11 x12 x13 x14 x15 x16 x17 x18 x19 x20 x21 x22 x23 x24 x25 x26 x27 x28 : ℕ) → R p (x0 ∷ x1 ∷ x2 ∷ x3 ∷ x4 ∷ x5 ∷ x6 ∷ x7 ∷ x8 ∷ x9 ∷ x10 ∷ x11 ∷ x12 ∷ x13 ∷ x14 ∷ x15 ∷ x16 ∷ x17 ∷ x18 ∷ x19 ∷ x20 ∷ x21 ∷ x22 ∷ x23 ∷ x24 ∷ x25 ∷ x26 ∷ x27 ∷ x28 ∷ ρ) x28
r28 p ρ x0 x1 x2 x3 x4 x5 x6 x7 x8 x9 x10 x11 x12 x13 x14 x15 x16 x17 x18 x19 x20 x21 x22 x23 x24 x25 x26 x27 x28 = record { e = var 28; is = refl }

abbrev pub r29 : (p : ℕ) (ρ : List ℕ) (x0 x1 x2 x3 x4 x5 x6 x7 x8 x9 x10 x11 x12 x13 x14 x15 x16 x17 x18 x19 x20 x21 x22 x23 x24 x25 x26 x27 x28 x29 : ℕ) → R p (x0 ∷ x1 ∷ x2 ∷ x3 ∷ x4 ∷ x5 ∷ x6 ∷ x7 ∷ x8 ∷ x9 ∷ x10 ∷ x11 ∷ x12 ∷ x13 ∷ x14 ∷ x15 ∷ x16 ∷ x17 ∷ x18 ∷ x19 ∷ x20 ∷ x21 ∷ x22 ∷ x23 ∷ x24 ∷ x25 ∷ x26 ∷ x27 ∷ x28 ∷ x29 ∷ ρ) x29
r29 p ρ x0 x1 x2 x3 x4 x5 x6 x7 x8 x9 x10 x11 x12 x13 x14 x15 x16 x17 x18 x19 x20 x21 x22 x23 x24 x25 x26 x27 x28 x29 = record { e = var 29; is = refl }

abbrev pub r30 : (p : ℕ) (ρ : List ℕ) (x0 x1 x2 x3 x4 x5 x6 x7 x8 x9 x10 x11 x12 x13 x14 x15 x16 x17 x18 x19 x20 x21 x22 x23 x24 x25 x26 x27 x28 x29 x30 : ℕ) → R p (x0 ∷ x1 ∷ x2 ∷ x3 ∷ x4 ∷ x5 ∷ x6 ∷ x7 ∷ x8 ∷ x9 ∷ x10 ∷ x11 ∷ x12 ∷ x13 ∷ x14 ∷ x15 ∷ x16 ∷ x17 ∷ x18 ∷ x19 ∷ x20 ∷ x21 ∷ x22 ∷ x23 ∷ x24 ∷ x25 ∷ x26 ∷ x27 ∷ x28 ∷ x29 ∷ x30 ∷ ρ) x30
r30 p ρ x0 x1 x2 x3 x4 x5 x6 x7 x8 x9 x10 x11 x12 x13 x14 x15 x16 x17 x18 x19 x20 x21 x22 x23 x24 x25 x26 x27 x28 x29 x30 = record { e = var 30; is = refl }

abbrev pub r31 : (p : ℕ) (ρ : List ℕ) (x0 x1 x2 x3 x4 x5 x6 x7 x8 x9 x10 x11 x12 x13 x14 x15 x16 x17 x18 x19 x20 x21 x22 x23 x24 x25 x26 x27 x28 x29 x30 x31 : ℕ) → R p (x0 ∷ x1 ∷ x2 ∷ x3 ∷ x4 ∷ x5 ∷ x6 ∷ x7 ∷ x8 ∷ x9 ∷ x10 ∷ x11 ∷ x12 ∷ x13 ∷ x14 ∷ x15 ∷ x16 ∷ x17 ∷ x18 ∷ x19 ∷ x20 ∷ x21 ∷ x22 ∷ x23 ∷ x24 ∷ x25 ∷ x26 ∷ x27 ∷ x28 ∷ x29 ∷ x30 ∷ x31 ∷ ρ) x31
r31 p ρ x0 x1 x2 x3 x4 x5 x6 x7 x8 x9 x10 x11 x12 x13 x14 x15 x16 x17 x18 x19 x20 x21 x22 x23 x24 x25 x26 x27 x28 x29 x30 x31 = record { e = var 31; is = refl }

-- for up to eight numbers in ρ, and up to 32
pub ruleset reads = (r_two, r_three, r_add, r_mul, r_rem, r_m1, r_modulus, r_lit, r0, r1, r2, r3, r4, r5, r6, r7, r_pow, r_suc)

pub ruleset reads_32 = (reads, r8, r9, r10, r11, r12, r13, r14, r15, r16, r17, r18, r19, r20, r21, r22, r23, r24, r25, r26, r27, r28, r29, r30, r31)

-- hypotheses: `times c h r` takes c times h off, `puts h r` puts h's right side for the variable on its left
pub data Facts (p : ℕ) (ρ : List ℕ) : Type 0 where
  none : Facts p ρ
  times : (c : ℕ) {x y : ℕ} → x ≡ y → Three p ρ c x y → Facts p ρ → Facts p ρ
  puts : {x y : ℕ} → x ≡ y → Two p ρ x y → Facts p ρ → Facts p ρ

abbrev pub claim : {p : ℕ} {ρ : List ℕ} → Facts p ρ → Eqn → Claim
claim none g = goal g
claim (times c h r fs) g = r.c.e ⟪ r.l.e ≐≐ r.r.e ⟫ claim fs g
claim (puts h r fs) g = ≔⟪ r.l.e ≐≐ r.r.e ⟫ claim fs g

apply : {p : ℕ} {ρ : List ℕ} (fs : Facts p ρ) (g : Eqn) → Says p (p - 1) ρ (claim fs g) → Wanted p (p - 1) ρ g
apply none g s = s
apply (times c h r fs) g s = apply fs g (s (r.l.is ∙ h ∙ sym r.r.is))
apply (puts h r fs) g s = apply fs g (s (r.l.is ∙ h ∙ sym r.r.is))

-- the goal x % p ≡ y % p
pub by_mod : (p : ℕ) → 0 < p → (ρ : List ℕ) (fs : Facts p ρ) {x y : ℕ} (r : Two p ρ x y)
    → Left (clean ever (norm (rest (claim fs (r.l.e ≐ r.r.e))))) → x % p ≡ y % p
by_mod p pos ρ fs {x} {y} r d =
    ap (λ (t : ℕ). t % p) (sym r.l.is) ∙ apply fs (r.l.e ≐ r.r.e) (lin_of p pos ρ (claim fs (r.l.e ≐ r.r.e)) d) ∙ ap (λ (t : ℕ). t % p) r.r.is

-- the goal x % p ≡ 0
pub by_zero : (p : ℕ) → 0 < p → (ρ : List ℕ) (fs : Facts p ρ) {x : ℕ} (r : R p ρ x)
    → Left (clean ever (norm (rest (claim fs (r.e ≐0))))) → x % p ≡ 0
by_zero p pos ρ fs {x} r d = ap (λ (t : ℕ). t % p) (sym r.is) ∙ apply fs (r.e ≐0) (lin_of p pos ρ (claim fs (r.e ≐0)) d)

-- the goal x % p ≡ y, where y is below p
pub by_rem : (p : ℕ) → 0 < p → (ρ : List ℕ) (fs : Facts p ρ) {x y : ℕ} → y < p → (r : Two p ρ x y)
    → Left (clean ever (norm (rest (claim fs (r.l.e ≐ r.r.e))))) → x % p ≡ y
by_rem p pos ρ fs {x} {y} ly r d = by_mod p pos ρ fs r d ∙ mod-eq_of_lt ly

-- the goal x ≡ y, where both are below p
pub by_same : (p : ℕ) → 0 < p → (ρ : List ℕ) (fs : Facts p ρ) {x y : ℕ} → x < p → y < p → (r : Two p ρ x y)
    → Left (clean ever (norm (rest (claim fs (r.l.e ≐ r.r.e))))) → x ≡ y
by_same p pos ρ fs {x} {y} lx ly r d = sym (mod-eq_of_lt lx) ∙ by_mod p pos ρ fs r d ∙ mod-eq_of_lt ly

-- the same at a numeral p, where a coefficient goes if p divides it
pub at_mod : (p : ℕ) → 0 < p → (ρ : List ℕ) (fs : Facts p ρ) {x y : ℕ} (r : Two p ρ x y)
    → Left (clean (here p) (norm (rest (claim fs (r.l.e ≐ r.r.e))))) → x % p ≡ y % p
at_mod p pos ρ fs {x} {y} r d =
    ap (λ (t : ℕ). t % p) (sym r.l.is) ∙ apply fs (r.l.e ≐ r.r.e) (lin_here p pos ρ (claim fs (r.l.e ≐ r.r.e)) d) ∙ ap (λ (t : ℕ). t % p) r.r.is

pub at_zero : (p : ℕ) → 0 < p → (ρ : List ℕ) (fs : Facts p ρ) {x : ℕ} (r : R p ρ x)
    → Left (clean (here p) (norm (rest (claim fs (r.e ≐0))))) → x % p ≡ 0
at_zero p pos ρ fs {x} r d = ap (λ (t : ℕ). t % p) (sym r.is) ∙ apply fs (r.e ≐0) (lin_here p pos ρ (claim fs (r.e ≐0)) d)

pub at_rem : (p : ℕ) → 0 < p → (ρ : List ℕ) (fs : Facts p ρ) {x y : ℕ} → y < p → (r : Two p ρ x y)
    → Left (clean (here p) (norm (rest (claim fs (r.l.e ≐ r.r.e))))) → x % p ≡ y
at_rem p pos ρ fs {x} {y} ly r d = at_mod p pos ρ fs r d ∙ mod-eq_of_lt ly

pub at_same : (p : ℕ) → 0 < p → (ρ : List ℕ) (fs : Facts p ρ) {x y : ℕ} → x < p → y < p → (r : Two p ρ x y)
    → Left (clean (here p) (norm (rest (claim fs (r.l.e ≐ r.r.e))))) → x ≡ y
at_same p pos ρ fs {x} {y} lx ly r d = sym (mod-eq_of_lt lx) ∙ at_mod p pos ρ fs r d ∙ mod-eq_of_lt ly
