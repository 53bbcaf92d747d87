-- The number that bits spell, and the binary digits of a number.
use Rattle.std.proofs.Common.{◌≡◌, ℕ, zero, suc, ◌+◌, ◌*◌, ◌/◌, ◌%◌, ◌^◌, ◌<◌, ◌≤◌, true, eqb, List, [], ◌∷◌, length, get_or, refl, sym, ap, ap₂, ◌∙◌, arith, pow-suc, true≢false}
use native.Mathlib.Nat.{div-div-eq-div-mul}
use Rattle.laws.specs.Law.{Val, lists}
use Rattle.allocated.specs.Gates.{bit}
use Rattle.boolean.specs.declared.bits.Boolean.{Boolean}
use Rattle.boolean.specs.declared.bits.Boolean.TheVariants.{Constant, Var}
use Rattle.gates.specs.Kary.{all_constant, told_all}
use Rattle.fp_bits.specs.Digits.{number_of_digits, constant_bits}
use Rattle.bit_laws.specs.Bits.{bit_number_of, AllBits, spelled}
use Rattle.fp_bit_laws.specs.Spelled.{lowest, ManyBits}

-- bits spell a number below the power of their length
pub spelled_below : (xs : List ℕ) → AllBits xs → spelled xs < 2 ^ length xs
spelled_below [] h = omega arith
spelled_below (x ∷ xs) h = omega (arith, h.0, spelled_below xs h.1, pow-suc 2 (length xs))

-- ---- digits
pub lowest_many : (k x : ℕ) → ManyBits k (lowest k x)
lowest_many zero x = (tt, refl)
lowest_many (suc k) x = let h = lowest_many k (x / 2) in ((omega arith, h.0), ap suc h.1)

-- they spell the number where it is below 2 ^ k
pub lowest_spells : (k x : ℕ) → x < 2 ^ k → spelled (lowest k x) ≡ x
lowest_spells zero x h = omega arith
lowest_spells (suc k) x h = let q = lowest_spells k (x / 2) (omega (arith, h, pow-suc 2 k)) in omega (arith, q)

-- no other bits, as many, spell it
pub lowest_once : (k : ℕ) (xs : List ℕ) → ManyBits k xs → lowest k (spelled xs) ≡ xs
lowest_once zero [] h = refl
lowest_once zero (x ∷ xs) h = absurd (omega (arith, h.1))
lowest_once (suc k) [] h = absurd (omega (arith, h.1))
lowest_once (suc k) (x ∷ xs) h =
    let l = h.0.0 in
    ap₂ (λ (y : ℕ) (ys : List ℕ). y ∷ ys) (rest x (spelled xs) l) (ap (lowest k) (half x (spelled xs) l) ∙ lowest_once k xs (h.0.1, omega (arith, h.1)))
  where
    rest : (x s : ℕ) → x ≤ 1 → (x + 2 * s) % 2 ≡ x
    rest x s l = omega arith

    half : (x s : ℕ) → x ≤ 1 → (x + 2 * s) / 2 ≡ s
    half x s l = omega arith

pub lowest_is : (k x : ℕ) (xs : List ℕ) → ManyBits k xs → spelled xs ≡ x → xs ≡ lowest k x
lowest_is k x xs h e = sym (lowest_once k xs h) ∙ ap (lowest k) e

-- the first of them
pub lowest_first : (k x : ℕ) → 0 < k → get_or (lowest k x) 0 0 ≡ x % 2
lowest_first zero x h = absurd (omega arith)
lowest_first (suc k) x h = refl

-- half of what is left at a place is what is left at the next
pub next_place : (x i : ℕ) → x / 2 ^ i / 2 ≡ x / 2 ^ (i + 1)
next_place x i =
    let e : i + 1 ≡ suc i = omega arith in
    div-div-eq-div-mul x (2 ^ i) 2 ∙ ap (λ (t : ℕ). x / t) (sym (pow-suc 2 i) ∙ ap (λ (j : ℕ). 2 ^ j) (sym e))

-- ---- constants
digit_number : (r : ℕ) → r < 2 → bit (eqb r 1) ≡ r
digit_number zero h = refl
digit_number (suc zero) h = refl
digit_number (suc (suc r)) h = absurd (omega arith)

-- the numbers of a constant's bits
pub constant_digits : (ρ : Val) (k x : ℕ) → lists bit_number_of ρ (constant_bits k x) ≡ lowest k x
constant_digits ρ zero x = refl
constant_digits ρ (suc k) x = ap₂ (λ (y : ℕ) (ys : List ℕ). y ∷ ys) (digit_number (x % 2) (omega arith)) (constant_digits ρ k (x / 2))

-- what constants spell
pub told_spelled : (ρ : Val) (bs : List Boolean) → all_constant bs ≡ true → number_of_digits (told_all bs) ≡ spelled (lists bit_number_of ρ bs)
told_spelled ρ [] e = refl
told_spelled ρ (Constant b ∷ bs) e = ap (λ (t : ℕ). bit b + 2 * t) (told_spelled ρ bs e)
told_spelled ρ (Var a ∷ bs) e = absurd (true≢false (sym e))
