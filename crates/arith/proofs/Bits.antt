-- What the rows of a constraint system say of bits, modulo p, and that the rows hold of them. p - 1 stands for -1.
use mathlib.Core.Path.{◌≡◌, refl, subst}
use mathlib.Core.Bool.{Bool, true, false, not, ◌&&◌, ◌||◌, xor, cond}
use mathlib.Core.List.{[], ◌∷◌}
use mathlib.Core.Logic.{◌⊎◌, inl, inr, ◌≢◌}
use Prim.Native.Nat.{ℕ, ◌+◌, ◌-◌, ◌*◌, ◌%◌, ◌<◌}
use native.Mathlib.Nat.{mod-lt}
use native.Mathlib.Omega.{arith}
use lib.Dec.{eqb, eqb→eq, eqb_refl, T, T_not}
use Rattle.arith.specs.Number.{Prime}
use Rattle.arith.proofs.Euclid.{zero_factor, inverses, pos_of}
use Rattle.arith.proofs.Ring.{done}
use Rattle.arith.proofs.Solve.{reads, none, times, puts, by_mod, by_zero, by_same}

abbrev pub bit : Bool → ℕ
bit true = 1
bit false = 0

abbrev pub Bit : ℕ → Type 0
Bit w = (w ≡ 0) ⊎ (w ≡ 1)

pub pos_of_one : {p : ℕ} → 1 < p → 0 < p
pos_of_one one = omega arith

pub pos_of_prime : {p : ℕ} → Prime p → 0 < p
pos_of_prime P = pos_of_one P.0

pub bit_is : (w : ℕ) → Bit w → (x : Bool) × (w ≡ bit x)
bit_is w (inl e) = (false, e)
bit_is w (inr e) = (true, e)

pub bit_of : (x : Bool) → Bit (bit x)
bit_of true = inr refl
bit_of false = inl refl

pub bit_below : (p : ℕ) → 1 < p → (x : Bool) → bit x < p
bit_below p one true = one
bit_below p one false = omega arith

-- ---- w (1 - w) = 0, in three forms

pub bit_row : (p w : ℕ) → Prime p → w < p → (w * (1 + (p - 1) * w)) % p ≡ 0 → Bit w
bit_row p w P lt h =
    elim (zero_factor p P w (1 + (p - 1) * w) h) [
      | inl z ↦ inl (by_same p (pos_of_prime P) (w ∷ []) (times 1 z (search reads) none) lt (pos_of_prime P) (search reads) done)
      | inr z ↦ inr (by_same p (pos_of_prime P) (w ∷ []) (times (p - 1) z (search reads) none) lt P.0 (search reads) done)
    ]

pub bit_row' : (p w : ℕ) → Prime p → w < p → ((1 + (p - 1) * w) * w) % p ≡ 0 → Bit w
bit_row' p w P lt h =
    bit_row p w P lt (by_zero p (pos_of_prime P) (w ∷ []) (times 1 h (search reads depth 9) none) (search reads depth 9) done)

pub bit_row'' : (p w : ℕ) → Prime p → w < p → (w * w) % p ≡ w % p → Bit w
bit_row'' p w P lt h =
    bit_row p w P lt (by_zero p (pos_of_prime P) (w ∷ []) (times (p - 1) h (search reads) none) (search reads depth 9) done)

pub bit_holds : (p : ℕ) → 0 < p → (x : Bool) → (bit x * (1 + (p - 1) * bit x)) % p ≡ 0
bit_holds p pos true = by_zero p pos [] none (search reads depth 9) done
bit_holds p pos false = by_zero p pos [] none (search reads depth 9) done

-- ---- a b = c

pub and_row : (p : ℕ) → 1 < p → (x y : Bool) (a b c : ℕ) → a ≡ bit x → b ≡ bit y → c < p
    → (a * b) % p ≡ c % p → c ≡ bit (x && y)
and_row p one x y a b c ea eb lc h = table x y ea eb
  where
    table : (x y : Bool) → a ≡ bit x → b ≡ bit y → c ≡ bit (x && y)
    table true true ea eb = by_same p (pos_of_one one) (a ∷ b ∷ c ∷ []) (puts ea (search reads) (puts eb (search reads) (times (p - 1) h (search reads) none))) lc one (search reads) done
    table true false ea eb = by_same p (pos_of_one one) (a ∷ b ∷ c ∷ []) (puts ea (search reads) (puts eb (search reads) (times (p - 1) h (search reads) none))) lc (pos_of_one one) (search reads) done
    table false true ea eb = by_same p (pos_of_one one) (a ∷ b ∷ c ∷ []) (puts ea (search reads) (puts eb (search reads) (times (p - 1) h (search reads) none))) lc (pos_of_one one) (search reads) done
    table false false ea eb = by_same p (pos_of_one one) (a ∷ b ∷ c ∷ []) (puts ea (search reads) (puts eb (search reads) (times (p - 1) h (search reads) none))) lc (pos_of_one one) (search reads) done

pub and_holds : (p : ℕ) (x y : Bool) → (bit x * bit y) % p ≡ bit (x && y) % p
and_holds p true true = refl
and_holds p true false = refl
and_holds p false true = refl
and_holds p false false = refl

-- ---- a b = a + b - c

pub or_row : (p : ℕ) → 1 < p → (x y : Bool) (a b c : ℕ) → a ≡ bit x → b ≡ bit y → c < p
    → (a * b) % p ≡ (a + b + (p - 1) * c) % p → c ≡ bit (x || y)
or_row p one x y a b c ea eb lc h = table x y ea eb
  where
    table : (x y : Bool) → a ≡ bit x → b ≡ bit y → c ≡ bit (x || y)
    table true true ea eb = by_same p (pos_of_one one) (a ∷ b ∷ c ∷ []) (puts ea (search reads) (puts eb (search reads) (times 1 h (search reads depth 9) none))) lc one (search reads) done
    table true false ea eb = by_same p (pos_of_one one) (a ∷ b ∷ c ∷ []) (puts ea (search reads) (puts eb (search reads) (times 1 h (search reads depth 9) none))) lc one (search reads) done
    table false true ea eb = by_same p (pos_of_one one) (a ∷ b ∷ c ∷ []) (puts ea (search reads) (puts eb (search reads) (times 1 h (search reads depth 9) none))) lc one (search reads) done
    table false false ea eb = by_same p (pos_of_one one) (a ∷ b ∷ c ∷ []) (puts ea (search reads) (puts eb (search reads) (times 1 h (search reads depth 9) none))) lc (pos_of_one one) (search reads) done

pub or_holds : (p : ℕ) → 0 < p → (x y : Bool) → (bit x * bit y) % p ≡ (bit x + bit y + (p - 1) * bit (x || y)) % p
or_holds p pos true true = by_mod p pos [] none (search reads depth 9) done
or_holds p pos true false = by_mod p pos [] none (search reads depth 9) done
or_holds p pos false true = by_mod p pos [] none (search reads depth 9) done
or_holds p pos false false = by_mod p pos [] none (search reads depth 9) done

-- ---- (a + a) b = a + b - c

pub xor_row : (p : ℕ) → 1 < p → (x y : Bool) (a b c : ℕ) → a ≡ bit x → b ≡ bit y → c < p
    → ((a + a) * b) % p ≡ (a + b + (p - 1) * c) % p → c ≡ bit (xor x y)
unfolding xor
xor_row p one x y a b c ea eb lc h = table x y ea eb
  where
    table : (x y : Bool) → a ≡ bit x → b ≡ bit y → c ≡ bit (xor x y)
    table true true ea eb = by_same p (pos_of_one one) (a ∷ b ∷ c ∷ []) (puts ea (search reads) (puts eb (search reads) (times 1 h (search reads depth 9) none))) lc (pos_of_one one) (search reads) done
    table true false ea eb = by_same p (pos_of_one one) (a ∷ b ∷ c ∷ []) (puts ea (search reads) (puts eb (search reads) (times 1 h (search reads depth 9) none))) lc one (search reads) done
    table false true ea eb = by_same p (pos_of_one one) (a ∷ b ∷ c ∷ []) (puts ea (search reads) (puts eb (search reads) (times 1 h (search reads depth 9) none))) lc one (search reads) done
    table false false ea eb = by_same p (pos_of_one one) (a ∷ b ∷ c ∷ []) (puts ea (search reads) (puts eb (search reads) (times 1 h (search reads depth 9) none))) lc (pos_of_one one) (search reads) done

pub xor_holds : (p : ℕ) → 0 < p → (x y : Bool) → ((bit x + bit x) * bit y) % p ≡ (bit x + bit y + (p - 1) * bit (xor x y)) % p
unfolding xor
xor_holds p pos true true = by_mod p pos [] none (search reads depth 9) done
xor_holds p pos true false = by_mod p pos [] none (search reads depth 9) done
xor_holds p pos false true = by_mod p pos [] none (search reads depth 9) done
xor_holds p pos false false = by_mod p pos [] none (search reads depth 9) done

-- ---- c = 1 - a

pub not_row : (p : ℕ) → 1 < p → (x : Bool) (a c : ℕ) → a ≡ bit x → c < p → c % p ≡ (1 + (p - 1) * a) % p → c ≡ bit (not x)
not_row p one true a c ea lc h = by_same p (pos_of_one one) (a ∷ c ∷ []) (puts ea (search reads) (puts h (search reads depth 9) none)) lc (pos_of_one one) (search reads) done
not_row p one false a c ea lc h = by_same p (pos_of_one one) (a ∷ c ∷ []) (puts ea (search reads) (puts h (search reads depth 9) none)) lc one (search reads) done

-- ---- c (a - b) = r - b

pub select_row : (p : ℕ) → 0 < p → (x : Bool) (a b c r : ℕ) → c ≡ bit x → a < p → b < p → r < p
    → (c * (a + (p - 1) * b)) % p ≡ (r + (p - 1) * b) % p → r ≡ cond x a b
select_row p pos true a b c r ec la lb lr h =
    by_same p pos (a ∷ b ∷ c ∷ r ∷ []) (puts ec (search reads) (times (p - 1) h (search reads depth 9) none)) lr la (search reads) done
select_row p pos false a b c r ec la lb lr h =
    by_same p pos (a ∷ b ∷ c ∷ r ∷ []) (puts ec (search reads) (times (p - 1) h (search reads depth 9) none)) lr lb (search reads) done

pub select_holds : (p : ℕ) → 0 < p → (x : Bool) (a b : ℕ) → (bit x * (a + (p - 1) * b)) % p ≡ (cond x a b + (p - 1) * b) % p
select_holds p pos true a b = by_mod p pos (a ∷ b ∷ []) none (search reads depth 9) done
select_holds p pos false a b = by_mod p pos (a ∷ b ∷ []) none (search reads depth 9) done

-- ---- (x - y) m = w and (x - y) (1 - w) = 0: w says whether x and y differ

pub differ_row : (p x y m w : ℕ) → Prime p → x < p → y < p → w < p
    → ((x + (p - 1) * y) * m) % p ≡ w % p → ((x + (p - 1) * y) * (1 + (p - 1) * w)) % p ≡ 0
    → (x ≡ y → w ≡ 0) × (x ≢ y → w ≡ 1)
differ_row p x y m w P lx ly lw h z = (
  λ e. by_same p pos (x ∷ y ∷ m ∷ w ∷ []) (puts e (search reads) (times (p - 1) h (search reads depth 9) none)) lw pos (search reads) done,
  λ ne. elim (zero_factor p P (x + (p - 1) * y) (1 + (p - 1) * w) z) [
    | inl d ↦ absurd (ne (by_same p pos (x ∷ y ∷ []) (times 1 d (search reads) none) lx ly (search reads) done))
    | inr d ↦ by_same p pos (w ∷ []) (times (p - 1) d (search reads) none) lw P.0 (search reads) done
  ],
)
  where
    pos : 0 < p
    pos = pos_of_prime P

-- for each x and y there is such an m
pub differ_holds : (p x y : ℕ) → Prime p → x < p → y < p
    → (m : ℕ) × (m < p) × (((x + (p - 1) * y) * m) % p ≡ bit (not (eqb x y)) % p) × (((x + (p - 1) * y) * (1 + (p - 1) * bit (not (eqb x y)))) % p ≡ 0)
differ_holds p x y P lx ly = go (eqb x y) (λ t. eqb→eq x y t) (λ t e. T_not (eqb x y) t (subst (λ (z : ℕ). T (eqb x z)) e (eqb_refl x)))
  where
    pos : 0 < p
    pos = pos_of_prime P

    go : (t : Bool) → (T t → x ≡ y) → (T (not t) → x ≢ y)
        → (m : ℕ) × (m < p) × (((x + (p - 1) * y) * m) % p ≡ bit (not t) % p) × (((x + (p - 1) * y) * (1 + (p - 1) * bit (not t))) % p ≡ 0)
    go true same other = (
      0,
      pos,
      by_mod p pos (x ∷ y ∷ []) none (search reads depth 9) done,
      by_zero p pos (x ∷ y ∷ []) (puts (same tt) (search reads) none) (search reads depth 9) done,
    )
    go false same other =
        let i : (m : ℕ) × (m < p) × (((x + (p - 1) * y) % p * m) % p ≡ 1) =
        inverses p P ((x + (p - 1) * y) % p)
        (pos_of ((x + (p - 1) * y) % p) (λ z. other tt (by_same p pos (x ∷ y ∷ []) (times 1 z (search reads) none) lx ly (search reads) done)))
        (mod-lt (x + (p - 1) * y) pos)
        in (
          i.0,
          i.1,
          by_mod p pos (x ∷ y ∷ i.0 ∷ []) (times 1 i.2 (search reads depth 9) none) (search reads depth 9) done,
          by_zero p pos (x ∷ y ∷ []) none (search reads depth 9) done,
        )
