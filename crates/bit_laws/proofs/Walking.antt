-- A walk down from a bound's top bit holds exactly where the bits spell at most the bound.
use Rattle.std.proofs.Common.{◌≡◌, ◌↔◌, ℕ, zero, suc, ◌+◌, ◌*◌, ◌/◌, ◌%◌, ◌^◌, ◌<◌, ◌≤◌, Bool, true, false, ◌&&◌, eqb, List, [], ◌∷◌, drop, get_or, sym, refl, ap, ap₂, ◌∙◌, subst, arith, true≢false, pow-suc, div-one, cond, mul-zero, mod-lt, pow_pos}
use native.Mathlib.Nat.{div-add-mod, div-div-eq-div-mul, div-eq_of_lt}
use Rattle.arith.proofs.Sums.{summed}
use Rattle.allocated.specs.Gates.{bit}
use Rattle.gates.specs.Kary.{any_of}
use Rattle.gates.specs.Walk.{bit_of, bits_up_to}
use Rattle.bit_laws.specs.Bits.{AllBits, truths, spelled}
use Rattle.bit_laws.proofs.BitLaws.{bit_low, same_bit}

-- x says whether P
abbrev pub Says : Bool → Type 0 → Type 0
Says true P = P
Says false P = P → ⊥

-- the number that truth values spell
abbrev pub weigh : List Bool → ℕ
weigh [] = 0
weigh (b ∷ bs) = bit b + 2 * weigh bs

-- one of two
abbrev pub Either : Bool → Type 0 → Type 0 → Type 0
Either true P Q = P
Either false P Q = Q

-- the places below i, from the top down, where v says whether the bits were the bound's so far: at a one of the bound they are so where the bit is one,
-- and at a zero the bit may not be one where they were
abbrev pub Walk : ℕ → ℕ → List Bool → Bool → Type 0
Walk zero e bs v = Unit {0}
Walk (suc i) e bs v = Either (bit_of e i) (Walk i e bs (v && get_or bs i false)) (((v && get_or bs i false) ≡ false) × Walk i e bs v)

-- ---- one place of a list and of a number
weigh_up : (i : ℕ) (bs : List Bool) → weigh (drop i bs) ≡ bit (get_or bs i false) + 2 * weigh (drop (suc i) bs)
weigh_up zero [] = refl
weigh_up zero (b ∷ bs) = refl
weigh_up (suc i) [] = refl
weigh_up (suc i) (b ∷ bs) = weigh_up i bs

-- the number of a test of a remainder by two
bit_rem : (r : ℕ) → r < 2 → bit (eqb r 1) ≡ r
bit_rem zero h = refl
bit_rem (suc zero) h = refl
bit_rem (suc (suc r)) h = absurd (omega arith)

half_up : (e i : ℕ) → e / 2 ^ i / 2 ≡ e / 2 ^ suc i
half_up e i = div-div-eq-div-mul e (2 ^ i) 2 ∙ ap (λ (t : ℕ). e / t) (sym (pow-suc 2 i))

shift_up : (e i : ℕ) → e / 2 ^ i ≡ bit (bit_of e i) + 2 * (e / 2 ^ suc i)
shift_up e i = flat (e / 2 ^ i) (e / 2 ^ suc i) (half_up e i)
  where
    flat : (n m : ℕ) → n / 2 ≡ m → n ≡ bit (eqb (n % 2) 1) + 2 * m
    flat n m h = omega (arith, h, bit_rem (n % 2) (omega arith))

-- ---- one place: s and t are the numbers above it
-- at a one of the bound
one_says : (b v : Bool) (s t : ℕ) → Says v (s ≡ t) → Says (v && b) (bit b + 2 * s ≡ 1 + 2 * t)
one_says true true s t says = omega arith
one_says true false s t says = λ e. says (omega arith)
one_says false true s t says = λ e. omega arith
one_says false false s t says = λ e. omega arith

-- at a zero
zero_below : (b v : Bool) (s t : ℕ) → s ≤ t → Says v (s ≡ t) → (v && b) ≡ false → bit b + 2 * s ≤ 0 + 2 * t
zero_below true true s t le says h = absurd (true≢false h)
zero_below true false s t le says h = omega arith
zero_below false v s t le says h = omega arith

zero_forced : (b v : Bool) (s t : ℕ) → Says v (s ≡ t) → bit b + 2 * s ≤ 0 + 2 * t → (v && b) ≡ false
zero_forced true true s t says h = absurd (omega arith)
zero_forced true false s t says h = refl
zero_forced false true s t says h = refl
zero_forced false false s t says h = refl

zero_says : (b v : Bool) (s t : ℕ) → Says v (s ≡ t) → bit b + 2 * s ≤ 0 + 2 * t → Says v (bit b + 2 * s ≡ 0 + 2 * t)
zero_says true true s t says h = absurd (omega arith)
zero_says true false s t says h = λ e. omega arith
zero_says false true s t says h = omega arith
zero_says false false s t says h = λ e. says (omega arith)

-- ---- the places above i: the bits' number is not above the bound's, and v says whether they are the same
abbrev Kept : ℕ → ℕ → List Bool → Bool → Type 0
Kept i e bs v = (weigh (drop i bs) ≤ e / 2 ^ i) × Says v (weigh (drop i bs) ≡ e / 2 ^ i)

kept_at : (i e : ℕ) (bs : List Bool) (v c : Bool) → bit_of e i ≡ c → bit (get_or bs i false) + 2 * weigh (drop (suc i) bs) ≤ bit c + 2 * (e / 2 ^ suc i)
    → Says v (bit (get_or bs i false) + 2 * weigh (drop (suc i) bs) ≡ bit c + 2 * (e / 2 ^ suc i)) → Kept i e bs v
kept_at i e bs v c q le says =
    let x : weigh (drop i bs) ≡ bit (get_or bs i false) + 2 * weigh (drop (suc i) bs) = weigh_up i bs in
    let y : e / 2 ^ i ≡ bit c + 2 * (e / 2 ^ suc i) = shift_up e i ∙ ap (λ (b : Bool). bit b + 2 * (e / 2 ^ suc i)) q in
    (omega (arith, x, y, le), subst (λ (P : Type 0). Says v P) (ap₂ (λ (m n : ℕ). m ≡ n) (sym x) (sym y)) says)

-- a number not above the bound is so at each place
up : (i e : ℕ) (bs : List Bool) → weigh bs ≤ e → weigh (drop i bs) ≤ e / 2 ^ i
up zero e bs h = omega (arith, div-one e, h)
up (suc i) e bs h = omega (arith, up i e bs h, weigh_up i bs, shift_up e i, bit_low (bit_of e i))

walk_sound : (i e : ℕ) (bs : List Bool) (v : Bool) → Kept i e bs v → Walk i e bs v → weigh bs ≤ e
walk_sound zero e bs v k w = omega (arith, k.0, div-one e)
walk_sound (suc i) e bs v k w = go (bit_of e i) refl w (λ v k w. walk_sound i e bs v k w)
  where
    go : (c : Bool) → bit_of e i ≡ c → Either c (Walk i e bs (v && get_or bs i false)) (((v && get_or bs i false) ≡ false) × Walk i e bs v) → ((v : Bool) → Kept i e bs v → Walk i e bs v → weigh bs ≤ e) → weigh bs ≤ e
    go true q w next = next (v && get_or bs i false) (kept_at i e bs (v && get_or bs i false) true q (omega (arith, bit_low (get_or bs i false), k.0)) (one_says (get_or bs i false) v (weigh (drop (suc i) bs)) (e / 2 ^ suc i) k.1)) w
    go false q w next =
        let le : bit (get_or bs i false) + 2 * weigh (drop (suc i) bs) ≤ 0 + 2 * (e / 2 ^ suc i) = zero_below (get_or bs i false) v (weigh (drop (suc i) bs)) (e / 2 ^ suc i) k.0 k.1 w.0 in
        next v (kept_at i e bs v false q le (zero_says (get_or bs i false) v (weigh (drop (suc i) bs)) (e / 2 ^ suc i) k.1 le)) w.1

walk_complete : (i e : ℕ) (bs : List Bool) (v : Bool) → Kept i e bs v → weigh bs ≤ e → Walk i e bs v
walk_complete zero e bs v k h = tt
walk_complete (suc i) e bs v k h = go (bit_of e i) refl (λ v k. walk_complete i e bs v k h)
  where
    go : (c : Bool) → bit_of e i ≡ c → ((v : Bool) → Kept i e bs v → Walk i e bs v) → Either c (Walk i e bs (v && get_or bs i false)) (((v && get_or bs i false) ≡ false) × Walk i e bs v)
    go true q next = next (v && get_or bs i false) (kept_at i e bs (v && get_or bs i false) true q (omega (arith, bit_low (get_or bs i false), k.0)) (one_says (get_or bs i false) v (weigh (drop (suc i) bs)) (e / 2 ^ suc i) k.1))
    go false q next =
        let le : bit (get_or bs i false) + 2 * weigh (drop (suc i) bs) ≤ 0 + 2 * (e / 2 ^ suc i) = omega (arith, up i e bs h, weigh_up i bs, shift_up e i, ap bit q) in
        (zero_forced (get_or bs i false) v (weigh (drop (suc i) bs)) (e / 2 ^ suc i) k.1 le, next v (kept_at i e bs v false q le (zero_says (get_or bs i false) v (weigh (drop (suc i) bs)) (e / 2 ^ suc i) k.1 le)))

-- ---- the bits above the bound's
none_zero : (bs : List Bool) → any_of bs ≡ false → weigh bs ≡ 0
none_zero [] h = refl
none_zero (true ∷ bs) h = absurd (true≢false h)
none_zero (false ∷ bs) h = omega (arith, none_zero bs h)

zero_none : (bs : List Bool) → weigh bs ≡ 0 → any_of bs ≡ false
zero_none [] h = refl
zero_none (true ∷ bs) h = absurd (omega arith)
zero_none (false ∷ bs) h = zero_none bs (omega arith)

-- ---- the whole walk, over a bound below 2 ^ n: no bit from n on is one, then the places below n
abbrev pub Walked : ℕ → ℕ → List Bool → Type 0
Walked n e bs = (any_of (drop n bs) ≡ false) × Walk n e bs true

pub walk_is : (n e : ℕ) (bs : List Bool) → e < 2 ^ n → Walked n e bs ↔ (weigh bs ≤ e)
walk_is n e bs lt = (
  λ w. walk_sound n e bs true (start w.0) w.1,
  λ h. let z : any_of (drop n bs) ≡ false = zero_none (drop n bs) (omega (arith, up n e bs h, div-eq_of_lt lt)) in (z, walk_complete n e bs true (start z) h),
)
  where
    start : any_of (drop n bs) ≡ false → Kept n e bs true
    start h = let z : weigh (drop n bs) ≡ 0 = none_zero (drop n bs) h in (omega arith, z ∙ sym (div-eq_of_lt lt))

-- ---- numbers 0 and 1
pub spelled_is : (xs : List ℕ) → AllBits xs → spelled xs ≡ weigh (truths xs)
spelled_is [] h = refl
spelled_is (x ∷ xs) h = ap₂ (λ (a b : ℕ). a + 2 * b) (same_bit x h.0) (spelled_is xs h.1)

-- it is the sum of each with its own power of two
pub spelled_sum : (i : ℕ) (xs : List ℕ) → summed i xs ≡ 2 ^ i * spelled xs
spelled_sum i [] = sym (mul-zero (2 ^ i))
spelled_sum i (x ∷ xs) = ap (λ (t : ℕ). 2 ^ i * x + t) (spelled_sum (suc i) xs ∙ ap (λ (t : ℕ). t * spelled xs) (pow-suc 2 i)) ∙ flat (2 ^ i) x (spelled xs)
  where
    flat : (t b w : ℕ) → t * b + t * 2 * w ≡ t * (b + 2 * w)
    flat t b w = omega arith

-- a number below 2 ^ n has so many bits
pub bits_enough : (e n : ℕ) → e < 2 ^ n → e < 2 ^ bits_up_to e n
bits_enough e zero lt = lt
bits_enough e (suc n) lt = go (bit_of e n) refl (λ below. bits_enough e n below)
  where
    go : (c : Bool) → bit_of e n ≡ c → (e < 2 ^ n → e < 2 ^ bits_up_to e n) → e < 2 ^ cond c (suc n) (bits_up_to e n)
    go true q f = lt
    go false q f =
        let z : e / 2 ^ n ≡ 0 = omega (arith, shift_up e n, ap bit q, div-eq_of_lt lt) in
        let m : 2 ^ n * (e / 2 ^ n) ≡ 0 = ap (λ (t : ℕ). 2 ^ n * t) z ∙ mul-zero (2 ^ n) in
        f (omega (arith, m, div-add-mod e (2 ^ n), mod-lt e (pow_pos n)))
