-- Sums, differences and multiples modulo p, as the scripts of the calls write them.
use Rattle.std.proofs.Common.{◌≡◌, ◌≢◌, ℕ, ◌+◌, ◌-◌, ◌*◌, ◌%◌, ◌<◌, [], ◌∷◌, sym, ap, ◌∙◌, arith, mod-eq_of_lt, mod-lt}
use Rattle.arith.proofs.Ring.{done}
use Rattle.arith.proofs.Solve.{reads, none, times, puts, by_mod}
use Rattle.fp_var.specs.Numbers.{opposite}

-- where z and y make p, z is minus y
pub minus_is : (p y z : ℕ) → 0 < p → z + y ≡ p → z % p ≡ ((p - 1) * y) % p
minus_is p y z pos h = by_mod p pos (y ∷ z ∷ []) (times 1 h (search reads depth 9) none) (search reads depth 9) done

-- minus a number, as a coefficient and as a remainder
pub opposite_is : (p c : ℕ) → 0 < p → opposite p c % p ≡ ((p - 1) * c) % p
opposite_is p c pos =
    let l : c % p < p = mod-lt c pos in
    let h : p - c % p + c % p ≡ p = omega arith in
    by_mod p pos (c ∷ (p - c % p) ∷ []) (times 1 h (search reads depth 9) none) (search reads depth 9) done

-- minus what is no multiple of p is none either
pub opposite_some : (p c : ℕ) → 0 < p → c % p ≢ 0 → opposite p c % p ≡ 0 → ⊥
opposite_some p c pos ne z =
    let l : c % p < p = mod-lt c pos in
    let s : p - c % p < p = omega arith in
    let o : (p - c % p) % p ≡ p - c % p = mod-eq_of_lt s in
    let t : (p - c % p) % p % p ≡ p - c % p = ap (λ (x : ℕ). x % p) o ∙ o in
    omega arith

-- that of a number modulo p
pub opposite_below : (p c : ℕ) → c < p → opposite p c ≡ (p - c) % p
opposite_below p c l = ap (λ (t : ℕ). (p - t) % p) (mod-eq_of_lt l)

-- a number and minus another
pub and_opposite : (p x c : ℕ) → c < p → (x + opposite p c) % p ≡ (x + (p - c)) % p
and_opposite p x c l =
    let h : opposite p c % p ≡ (p - c) % p % p = ap (λ (t : ℕ). t % p) (opposite_below p c l) in
    by_mod p (omega arith) (x ∷ opposite p c ∷ (p - c) ∷ []) (times 1 h (search reads depth 9) none) (search reads depth 9) done

-- p - 1 times a number is minus that number
pub negative_is : (p x : ℕ) → x < p → ((p - 1) * x + 0) % p ≡ (p - x) % p
negative_is p x l =
    let h : p - x + x ≡ p = omega arith in
    by_mod p (omega arith) (x ∷ (p - x) ∷ []) (times (p - 1) h (search reads depth 9) none) (search reads depth 9) done

-- a multiple of p is added
pub nothing_added : (p x c : ℕ) → x < p → c % p ≡ 0 → x ≡ (x + c) % p
nothing_added p x c l h =
    let pos : 0 < p = omega arith in
    sym (mod-eq_of_lt l) ∙ by_mod p pos (x ∷ c ∷ []) (times (p - 1) h (search reads depth 9) none) (search reads depth 9) done

-- a constant is added, where the constant's variable o is 1
pub constant_added : (p x c o : ℕ) → 0 < p → o ≡ 1 → (1 * x + (c * o + 0)) % p ≡ (x + c) % p
constant_added p x c o pos one = by_mod p pos (x ∷ c ∷ o ∷ []) (puts one (search reads) none) (search reads depth 9) done

-- minus a number where the constant that it is taken off is a multiple of p
pub taken_off_nothing : (p x c : ℕ) → x < p → c % p ≡ 0 → ((p - 1) * x + 0) % p ≡ (c + (p - x)) % p
taken_off_nothing p x c l z =
    let h : p - x + x ≡ p = omega arith in
    by_mod p (omega arith) (x ∷ c ∷ (p - x) ∷ []) (times (p - 1) h (search reads depth 9) (times (p - 1) z (search reads depth 9) none)) (search reads depth 9) done

-- minus the combination u of a number less a constant
pub taken_off : (p x c u : ℕ) → x < p → u ≡ (x + opposite p c) % p → ((p - 1) * u + 0) % p ≡ (c + (p - x)) % p
taken_off p x c u l e =
    let pos : 0 < p = omega arith in
    let h : p - x + x ≡ p = omega arith in
    let o : opposite p c % p ≡ ((p - 1) * c) % p = opposite_is p c pos in
    by_mod p pos (x ∷ c ∷ opposite p c ∷ (p - x) ∷ u ∷ []) (puts e (search reads depth 9) (times (p - 1) h (search reads depth 9) (times (p - 1) o (search reads depth 9) none))) (search reads depth 9) done
