-- Going over a range of answers.
use Rattle.std.proofs.Common.{◌≡◌, ℕ, suc, ◌+◌, ◌-◌, ◌<◌, Bool, true, ◌&&◌, List, sym, ap, ◌∙◌, arith}
use Rattle.command.specs.declared.commands.Kind.{Kind}
use Rattle.command.specs.Decide.{is_bit, are_bits}

-- past an answer that is a bit
pub past_bit : (ks : List Kind) (a b i k : ℕ) → b ≡ a → i < k → true ≡ is_bit ks (b + i) → are_bits ks (b + i) (k - i) ≡ are_bits ks a k → are_bits ks (b + (i + 1)) (k - (i + 1)) ≡ are_bits ks a k
past_bit ks a b i k e h t inv =
    let one : k - i ≡ suc (k - (i + 1)) = omega arith in
    let at : b + i + 1 ≡ b + (i + 1) = omega arith in
    sym (ap (are_bits ks (b + i)) one ∙ ap (λ (x : Bool). x && are_bits ks (b + i + 1) (k - (i + 1))) (sym t) ∙ ap (λ (x : ℕ). are_bits ks x (k - (i + 1))) at) ∙ inv
