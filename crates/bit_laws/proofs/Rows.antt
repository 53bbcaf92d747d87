-- What the rows of the gates on bits force, and which numbers meet them.
use Rattle.std.proofs.Common.{◌≡◌, ℕ, zero, suc, ◌+◌, ◌-◌, ◌*◌, ◌/◌, ◌%◌, ◌<◌, ◌≤◌, sym, refl, ap, ◌∙◌, ap₂, ⊎_elim, mod-eq_of_lt, add-mul, one-mul, zero-mul, arith}
use native.Mathlib.Nat.{div-add-mod, mul-add-mod_self_left, add-mul-mod_self_left, add-mod, zero-mod}
use Rattle.arith.specs.Number.{Prime}
use Rattle.arith.proofs.Euclid.{mul_mod_l, mul_mod_r, zero_factor}
use Rattle.allocated.specs.declared.gate.Gate.{Gate}
use Rattle.allocated.specs.declared.gate.Gate.TheVariants.{And, Or, Xor}
use Rattle.allocated.specs.Gates.{bit, truth, applied}

-- ---- sums modulo p
-- two numbers that differ by multiples of p
shift : (p a b u v : ℕ) → a + p * u ≡ b + p * v → a % p ≡ b % p
shift p a b u v e = sym (add-mul-mod_self_left a p u) ∙ ap (λ (x : ℕ). x % p) e ∙ add-mul-mod_self_left b p v

-- the same number may be taken off both sides
cancel : (p x y k : ℕ) → (x + k) % p ≡ (y + k) % p → x % p ≡ y % p
cancel p x y k e = shift p x y ((y + k) / p) ((x + k) / p) (omega (arith, div-add-mod (x + k) p, div-add-mod (y + k) p, e))

-- p - 1 times a number, and the number, is nothing
gap : (p x w : ℕ) → 1 < p → (x + (p - 1) * w + w) % p ≡ x % p
gap p x w above =
    let s : p ≡ (p - 1) + 1 = omega arith in
    let e : x + (p - 1) * w + w ≡ p * w + x = omega (arith, ap (λ (t : ℕ). t * w) s, add-mul (p - 1) 1 w, one-mul w) in
    ap (λ (t : ℕ). t % p) e ∙ mul-add-mod_self_left p w x

-- x less w is y: w is x less y
pub solved : (p x y w : ℕ) → 1 < p → w < p → x < p → y ≤ x → (x + (p - 1) * w) % p ≡ y % p → w ≡ x - y
solved p x y w above lw lx le e =
    let d : x - y + y ≡ x = omega arith in
    let same : (w + y) % p ≡ (x - y + y) % p =
    ap (λ (t : ℕ). t % p) (omega arith) ∙ add-mod y w p ∙ ap (λ (t : ℕ). (t + w % p) % p) (sym e) ∙ sym (add-mod (x + (p - 1) * w) w p) ∙ gap p x w above ∙ ap (λ (t : ℕ). t % p) (sym d) in
    sym (mod-eq_of_lt lw) ∙ cancel p w (x - y) y same ∙ mod-eq_of_lt (omega arith)

pub solves : (p x y w : ℕ) → 1 < p → y ≤ x → w ≡ x - y → (x + (p - 1) * w) % p ≡ y % p
solves p x y w above le e = cancel p (x + (p - 1) * w) y w (gap p x w above ∙ ap (λ (t : ℕ). t % p) (omega arith))

-- one less a bit
pub one_less : (p o a : ℕ) → 1 < p → o ≡ 1 → a ≤ 1 → (1 * o + ((p - 1) * a + 0)) % p ≡ 1 - a
one_less p o a above one h =
    ap (λ (t : ℕ). t % p) (omega arith) ∙ solves p 1 (1 - a) a above (omega arith) (omega arith) ∙ mod-eq_of_lt (omega arith)

-- ---- a bit's row
pub bit_forced : (p o w : ℕ) → Prime p → o ≡ 1 → w < p → ((1 * o + ((p - 1) * w + 0)) * (1 * w + 0)) % p ≡ 0 % p → w ≤ 1
bit_forced p o w P one lw r =
    let e : ((1 + (p - 1) * w) * w) % p ≡ 0 = ap₂ (λ (s t : ℕ). (s * t) % p) (omega arith) (omega arith) ∙ r ∙ zero-mod p in
    ⊎_elim
    (λ z. let q : w ≡ 1 - 0 = solved p 1 0 w P.0 lw P.0 (omega arith) (z ∙ sym (zero-mod p)) in omega arith)
    (λ z. let q : w ≡ 0 = sym (mod-eq_of_lt lw) ∙ z in omega arith)
    (zero_factor p P (1 + (p - 1) * w) w e)

pub bit_met : (p o w : ℕ) → 1 < p → o ≡ 1 → w ≤ 1 → ((1 * o + ((p - 1) * w + 0)) * (1 * w + 0)) % p ≡ 0 % p
bit_met p o w above one h =
    sym (mul_mod_l (1 * o + ((p - 1) * w + 0)) (1 * w + 0) p) ∙ ap (λ (t : ℕ). (t * (1 * w + 0)) % p) (one_less p o w above one h)
    ∙ ap (λ (t : ℕ). t % p) (go w h)
  where
    go : (w : ℕ) → w ≤ 1 → (1 - w) * (1 * w + 0) ≡ 0
    go zero h = refl
    go (suc zero) h = refl
    go (suc (suc w)) h = absurd (omega arith)

-- ---- gates: what a row says of the output, as a number
abbrev pub Row : Gate → ℕ → ℕ → ℕ → ℕ → ℕ → Type 0
Row And p o a b w = ((1 * a + 0) * (1 * b + 0)) % p ≡ (1 * w + 0) % p
Row Or p o a b w = ((1 * o + ((p - 1) * a + 0)) * (1 * o + ((p - 1) * b + 0))) % p ≡ (1 * o + ((p - 1) * w + 0)) % p
Row Xor p o a b w = ((2 * a + 0) * (1 * b + 0)) % p ≡ (1 * a + (1 * b + ((p - 1) * w + 0))) % p

-- the gates' outputs by sums and products of bits
abbrev sums : Gate → ℕ → ℕ → ℕ
sums And a b = a * b
sums Or a b = 1 - (1 - a) * (1 - b)
sums Xor a b = (a + b) - (2 * a) * b

table : (g : Gate) (a b : ℕ) → a ≤ 1 → b ≤ 1 → sums g a b ≡ bit (applied g (truth a) (truth b))
table And zero zero ha hb = refl
table And zero (suc zero) ha hb = refl
table And (suc zero) zero ha hb = refl
table And (suc zero) (suc zero) ha hb = refl
table Or zero zero ha hb = refl
table Or zero (suc zero) ha hb = refl
table Or (suc zero) zero ha hb = refl
table Or (suc zero) (suc zero) ha hb = refl
table Xor zero zero ha hb = refl
table Xor zero (suc zero) ha hb = refl
table Xor (suc zero) zero ha hb = refl
table Xor (suc zero) (suc zero) ha hb = refl
table g (suc (suc a)) b ha hb = absurd (omega arith)
table g zero (suc (suc b)) ha hb = absurd (omega arith)
table g (suc zero) (suc (suc b)) ha hb = absurd (omega arith)

-- products of bits
small : (a b : ℕ) → a ≤ 1 → b ≤ 1 → a * b ≤ 1
small zero b ha hb = omega (arith, zero-mul b)
small (suc zero) b ha hb = omega (arith, one-mul b)
small (suc (suc a)) b ha hb = absurd (omega arith)

twice : (a b : ℕ) → a ≤ 1 → b ≤ 1 → (2 * a) * b ≤ a + b
twice zero b ha hb = omega (arith, zero-mul b)
twice (suc zero) zero ha hb = omega arith
twice (suc zero) (suc zero) ha hb = omega arith
twice (suc zero) (suc (suc b)) ha hb = absurd (omega arith)
twice (suc (suc a)) b ha hb = absurd (omega arith)

both_less : (p o a b : ℕ) → 1 < p → o ≡ 1 → a ≤ 1 → b ≤ 1 → ((1 * o + ((p - 1) * a + 0)) * (1 * o + ((p - 1) * b + 0))) % p ≡ ((1 - a) * (1 - b)) % p
both_less p o a b above one ha hb =
    sym (mul_mod_l (1 * o + ((p - 1) * a + 0)) (1 * o + ((p - 1) * b + 0)) p)
    ∙ sym (mul_mod_r ((1 * o + ((p - 1) * a + 0)) % p) (1 * o + ((p - 1) * b + 0)) p)
    ∙ ap₂ (λ (s t : ℕ). (s * t) % p) (one_less p o a above one ha) (one_less p o b above one hb)

pub gate_forced : (g : Gate) (p o a b w : ℕ) → 2 < p → o ≡ 1 → a ≤ 1 → b ≤ 1 → w < p → Row g p o a b w → w ≡ bit (applied g (truth a) (truth b))
gate_forced And p o a b w two one ha hb lw r =
    sym (mod-eq_of_lt lw) ∙ ap (λ (t : ℕ). t % p) (omega arith) ∙ sym r ∙ ap₂ (λ (s t : ℕ). (s * t) % p) (omega arith) (omega arith)
    ∙ mod-eq_of_lt (omega (arith, small a b ha hb)) ∙ table And a b ha hb
gate_forced Or p o a b w two one ha hb lw r =
    let q = small (1 - a) (1 - b) (omega arith) (omega arith) in
    solved p 1 ((1 - a) * (1 - b)) w (omega arith) lw (omega arith) q
    (ap (λ (t : ℕ). t % p) (omega arith) ∙ sym r ∙ both_less p o a b (omega arith) one ha hb)
    ∙ table Or a b ha hb
gate_forced Xor p o a b w two one ha hb lw r =
    solved p (a + b) ((2 * a) * b) w (omega arith) lw (omega arith) (twice a b ha hb)
    (ap (λ (t : ℕ). t % p) (omega arith) ∙ sym r ∙ ap₂ (λ (s t : ℕ). (s * t) % p) (omega arith) (omega arith))
    ∙ table Xor a b ha hb

pub gate_met : (g : Gate) (p o a b w : ℕ) → 2 < p → o ≡ 1 → a ≤ 1 → b ≤ 1 → w ≡ bit (applied g (truth a) (truth b)) → Row g p o a b w
gate_met And p o a b w two one ha hb e =
    ap₂ (λ (s t : ℕ). (s * t) % p) (omega arith) (omega arith) ∙ ap (λ (t : ℕ). t % p) (table And a b ha hb ∙ sym e ∙ omega arith)
gate_met Or p o a b w two one ha hb e =
    let q = small (1 - a) (1 - b) (omega arith) (omega arith) in
    both_less p o a b (omega arith) one ha hb
    ∙ sym (solves p 1 ((1 - a) * (1 - b)) w (omega arith) q (e ∙ sym (table Or a b ha hb)))
    ∙ ap (λ (t : ℕ). t % p) (omega arith)
gate_met Xor p o a b w two one ha hb e =
    ap₂ (λ (s t : ℕ). (s * t) % p) (omega arith) (omega arith)
    ∙ sym (solves p (a + b) ((2 * a) * b) w (omega arith) (twice a b ha hb) (e ∙ sym (table Xor a b ha hb)))
    ∙ ap (λ (t : ℕ). t % p) (omega arith)
