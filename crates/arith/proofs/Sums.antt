-- Numbers in bits, lowest first.
use mathlib.Core.Path.{◌≡◌, refl, sym, ◌∙◌, ap, ap₂, subst}
use mathlib.Core.Bool.{Bool, true, false}
use mathlib.Core.List.{List, [], ◌∷◌}
use Prim.Native.Nat.{ℕ, suc, ◌+◌, ◌-◌, ◌*◌, ◌%◌, ◌^◌, ◌<◌, ◌≤◌}
use native.Mathlib.Nat.{pow-suc}
use native.Mathlib.Omega.{arith}
use lib.ListN.{length}
use Rattle.arith.proofs.Ring.{done}
use Rattle.arith.proofs.Solve.{reads, none, times, by_same}
use Rattle.arith.proofs.Bits.{bit, Bit, bit_is}

abbrev pub weigh : List Bool → ℕ
weigh [] = 0
weigh (b ∷ bs) = bit b + 2 * weigh bs

-- the sum as the rows write it: each bit with its own power of two
abbrev pub weighed : ℕ → List Bool → ℕ
weighed i [] = 0
weighed i (b ∷ bs) = 2 ^ i * bit b + weighed (suc i) bs

pub weighed_is : (i : ℕ) (bs : List Bool) → weighed i bs ≡ 2 ^ i * weigh bs
weighed_is i [] = omega arith
weighed_is i (b ∷ bs) = ap (λ (t : ℕ). 2 ^ i * bit b + t) (weighed_is (suc i) bs ∙ ap (λ (t : ℕ). t * weigh bs) (pow-suc 2 i)) ∙ flat (2 ^ i) (bit b) (weigh bs)
  where
    flat : (t b w : ℕ) → t * b + t * 2 * w ≡ t * (b + 2 * w)
    flat t b w = omega arith

bit_one : (b : Bool) → bit b ≤ 1
bit_one true = omega arith
bit_one false = omega arith

pub weigh_below : (bs : List Bool) → weigh bs < 2 ^ length bs
weigh_below [] = omega arith
weigh_below (b ∷ bs) = omega (arith, weigh_below bs, bit_one b, pow-suc 2 (length bs))

-- a sum of bits that fits below p is the number that it is congruent to
pub sum_is : (p x : ℕ) (bs : List Bool) → 0 < p → 2 ^ length bs ≤ p → x < p → weighed 0 bs % p ≡ x % p → weigh bs ≡ x
sum_is p x bs pos fits lt h =
    by_same p pos (weighed 0 bs ∷ weigh bs ∷ x ∷ []) (times (p - 1) (weighed_is 0 bs) (search reads) (times 1 h (search reads) none))
    (omega (arith, weigh_below bs)) lt (search reads) done

-- two lists of bits, equally long, that weigh the same modulo p are one
pub bits_once : (cs bs : List Bool) → length cs ≡ length bs → weigh cs ≡ weigh bs → cs ≡ bs
bits_once [] [] e h = refl
bits_once [] (b ∷ bs) e h = absurd (omega arith)
bits_once (a ∷ cs) [] e h = absurd (omega arith)
bits_once (true ∷ cs) (true ∷ bs) e h = ap (λ (t : List Bool). true ∷ t) (bits_once cs bs (omega arith) (omega arith))
bits_once (false ∷ cs) (false ∷ bs) e h = ap (λ (t : List Bool). false ∷ t) (bits_once cs bs (omega arith) (omega arith))
bits_once (true ∷ cs) (false ∷ bs) e h = absurd (omega arith)
bits_once (false ∷ cs) (true ∷ bs) e h = absurd (omega arith)

pub sums_once : (p : ℕ) (cs bs : List Bool) → 0 < p → 2 ^ length cs ≤ p → length cs ≡ length bs
    → weighed 0 cs % p ≡ weighed 0 bs % p → cs ≡ bs
sums_once p cs bs pos fits len h =
    bits_once cs bs len
    (sum_is p (weigh bs) cs pos fits (omega (arith, weigh_below bs, ap (λ (t : ℕ). 2 ^ t) len))
    (h ∙ ap (λ (t : ℕ). t % p) (weighed_is 0 bs ∙ flat (weigh bs))))
  where
    flat : (w : ℕ) → 1 * w ≡ w
    flat w = omega arith

-- ---- the same where the bits are numbers

abbrev pub summed : ℕ → List ℕ → ℕ
summed i [] = 0
summed i (w ∷ ws) = 2 ^ i * w + summed (suc i) ws

abbrev pub AllBits : List ℕ → Type 0
AllBits [] = Unit {0}
AllBits (w ∷ ws) = Bit w × AllBits ws

abbrev pub numbers : List Bool → List ℕ
numbers [] = []
numbers (b ∷ bs) = bit b ∷ numbers bs

pub bools : (ws : List ℕ) → AllBits ws → (bs : List Bool) × (ws ≡ numbers bs)
bools [] a = ([], refl)
bools (w ∷ ws) a =
    let x : (x : Bool) × (w ≡ bit x) = bit_is w a.0 in
    let r : (bs : List Bool) × (ws ≡ numbers bs) = bools ws a.1 in
    (x.0 ∷ r.0, ap₂ (λ (y : ℕ) (ys : List ℕ). y ∷ ys) x.1 r.1)

pub summed_is : (i : ℕ) (bs : List Bool) → summed i (numbers bs) ≡ weighed i bs
summed_is i [] = refl
summed_is i (b ∷ bs) = ap (λ (t : ℕ). 2 ^ i * bit b + t) (summed_is (suc i) bs)

length_numbers : (bs : List Bool) → length (numbers bs) ≡ length bs
length_numbers [] = refl
length_numbers (b ∷ bs) = ap suc (length_numbers bs)

-- rows of bits whose sum is x modulo p, in fewer bits than p has: they are the bits of x
pub split_is : (p x : ℕ) (ws : List ℕ) → 0 < p → AllBits ws → 2 ^ length ws ≤ p → x < p → summed 0 ws % p ≡ x % p
    → (bs : List Bool) × (ws ≡ numbers bs) × (weigh bs ≡ x)
split_is p x ws pos all fits lt h =
    let r : (bs : List Bool) × (ws ≡ numbers bs) = bools ws all in (
      r.0,
      r.1,
      sum_is p x r.0 pos
          (subst (λ (n : ℕ). 2 ^ n ≤ p) (ap length r.1 ∙ length_numbers r.0) fits) lt
          (ap (λ (t : ℕ). t % p) (sym (summed_is 0 r.0) ∙ ap (summed 0) (sym r.1)) ∙ h),
    )
