-- Sums over cells, modulo p.
use Rattle.std.proofs.Common.{◌≡◌, ℕ, zero, suc, ◌+◌, ◌*◌, ◌%◌, ◌<◌, ◌≤◌, refl, ap, ◌∙◌, mul-zero, mul-add, arith}
use Rattle.words.proofs.Values.{sum_to, left, right}

pub sum_mod : (p n : ℕ) (f g : ℕ → ℕ) → ((j : ℕ) → j < n → f j % p ≡ g j % p) → sum_to n f % p ≡ sum_to n g % p
sum_mod p zero f g e = refl
sum_mod p (suc n) f g e = left p (sum_to n f) (sum_to n g) (f n) (sum_mod p n f g (λ j h. e j (omega arith))) ∙ right p (f n) (g n) (sum_to n g) (e n (omega arith))

pub sum_plus : (n k : ℕ) (f g : ℕ → ℕ) → sum_to n (λ j. f j + k * g j) ≡ sum_to n f + k * sum_to n g
sum_plus zero k f g = omega (arith, mul-zero k)
sum_plus (suc n) k f g = omega (arith, sum_plus n k f g, mul-add k (sum_to n g) (g n))

pub sum_zeros : (m n : ℕ) (f : ℕ → ℕ) → ((j : ℕ) → n ≤ j → j < n + m → f j ≡ 0) → sum_to (n + m) f ≡ sum_to n f
sum_zeros zero n f e = ap (λ (x : ℕ). sum_to x f) none
  where
    none : n + 0 ≡ n
    none = omega arith
sum_zeros (suc m) n f e = ap (λ (x : ℕ). sum_to x f) more ∙ omega (arith, sum_zeros m n f (λ j l u. e j l (omega arith)), e (n + m) (omega arith) (omega arith))
  where
    more : n + suc m ≡ suc (n + m)
    more = omega arith
