-- Parts of lists of operands.
use Rattle.std.proofs.Common.{◌≡◌, ℕ, zero, suc, List, [], ◌∷◌, drop, get_or, refl}
use Rattle.laws.specs.Law.{Val, lists}
use Rattle.laws.specs.History.{Each}

-- the numbers of a list without its first n
pub lists_drop : {A : Type 0} (num : Val → A → ℕ) (ρ : Val) (n : ℕ) (xs : List A) → lists num ρ (drop n xs) ≡ drop n (lists num ρ xs)
lists_drop num ρ zero [] = refl
lists_drop num ρ zero (x ∷ xs) = refl
lists_drop num ρ (suc n) [] = refl
lists_drop num ρ (suc n) (x ∷ xs) = lists_drop num ρ n xs

-- the number of the operand at a place, or of what stands past the end
pub lists_at : {A : Type 0} (num : Val → A → ℕ) (ρ : Val) (xs : List A) (i : ℕ) (d : A) → num ρ (get_or xs i d) ≡ get_or (lists num ρ xs) i (num ρ d)
lists_at num ρ [] i d = refl
lists_at num ρ (x ∷ xs) zero d = refl
lists_at num ρ (x ∷ xs) (suc i) d = lists_at num ρ xs i d

-- what holds of each holds of each but the first n, and at each place
pub each_drop : {A : Type 0} (P : A → Type 0) (n : ℕ) (xs : List A) → Each P xs → Each P (drop n xs)
each_drop P zero [] h = tt
each_drop P zero (x ∷ xs) h = h
each_drop P (suc n) [] h = tt
each_drop P (suc n) (x ∷ xs) h = each_drop P n xs h.1

pub each_at : {A : Type 0} (P : A → Type 0) (xs : List A) (i : ℕ) (d : A) → P d → Each P xs → P (get_or xs i d)
each_at P [] i d pd h = pd
each_at P (x ∷ xs) zero d pd h = h.0
each_at P (x ∷ xs) (suc i) d pd h = each_at P xs i d pd h.1

-- what follows from what holds of each holds of each
pub each_mono : {A : Type 0} (P Q : A → Type 0) → ((x : A) → P x → Q x) → (xs : List A) → Each P xs → Each Q xs
each_mono P Q f [] h = tt
each_mono P Q f (x ∷ xs) h = (f x h.0, each_mono P Q f xs h.1)
