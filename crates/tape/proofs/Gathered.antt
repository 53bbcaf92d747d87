-- Gathering the bits of a range, one after another.
use Rattle.std.proofs.Common.{◌≡◌, ℕ, zero, suc, ◌+◌, ◌<◌, List, [], ◌∷◌, ◌++◌, length, take, set, sym, refl, ap, ◌∙◌, arith, length-set}
use Rattle.boolean.specs.declared.bits.Boolean.{Boolean}
use Rattle.command.specs.declared.answers.Answer.{Answer}
use Rattle.command.specs.Answers.{bit_at, bits_from}

-- the last of a range
from_last : (book : List Answer) (a k : ℕ) → bits_from book a (suc k) ≡ bits_from book a k ++ (bit_at book (a + k) ∷ [])
from_last book a zero = ap (λ (x : ℕ). bit_at book x ∷ []) (omega arith)
from_last book a (suc k) = ap (λ (l : List Boolean). bit_at book a ∷ l) (from_last book (a + 1) k ∙ ap (λ (x : ℕ). bits_from book (a + 1) k ++ (bit_at book x ∷ [])) (omega arith))

take_set : (xs : List Boolean) (i : ℕ) (x : Boolean) → i < length xs → take (suc i) (set xs i x) ≡ take i xs ++ (x ∷ [])
take_set [] i x h = absurd (omega arith)
take_set (y ∷ ys) zero x h = refl
take_set (y ∷ ys) (suc i) x h = ap (λ (l : List Boolean). y ∷ l) (take_set ys i x (omega arith))

-- one bit more
pub one_more : (book : List Answer) (a i : ℕ) (bits : List Boolean) (b : Boolean) → (take i bits ≡ bits_from book a i) × (length bits ≡ 64) → i < 64 → b ≡ bit_at book (a + i)
    → (take (i + 1) (set bits i b) ≡ bits_from book a (i + 1)) × (length (set bits i b) ≡ 64)
one_more book a i bits b inv h e =
    let s : i + 1 ≡ suc i = omega arith in (
      ap (λ (k : ℕ). take k (set bits i b)) s ∙ take_set bits i b (omega (arith, inv.1, h)) ∙ ap (λ (l : List Boolean). l ++ (b ∷ [])) inv.0 ∙ ap (λ (x : Boolean). bits_from book a i ++ (x ∷ [])) e
          ∙ sym (from_last book a i) ∙ ap (bits_from book a) (sym s),
      length-set bits i b ∙ inv.1,
    )
