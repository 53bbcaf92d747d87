-- What the comparison of two numbers says of them.
use Rattle.std.specs.Prelude.{ℕ, ◌<◌, ◌≤◌, Bool, true, false, nat_le, nat_lt}
use Rattle.std.specs.declared.cmp.Ordering.{Ordering}
use Rattle.std.specs.declared.cmp.Ordering.TheVariants.{Less, Equal, Greater}
use Rattle.field.specs.Modulus.{half_of}
use Rattle.allocated.specs.Gates.{bit}

-- both numbers are at most half of the prime
abbrev pub BothHalf : ℕ → ℕ × ℕ → Type 0
BothHalf p x = (x.0 ≤ half_of p) × (x.1 ≤ half_of p)

-- 1 where the first is smaller, or, with the flag, not greater
abbrev pub smaller_bit : Bool → ℕ × ℕ → ℕ
smaller_bit false x = bit (nat_lt x.0 x.1)
smaller_bit true x = bit (nat_le x.0 x.1)

-- the first is smaller, or, with the flag, not greater
abbrev pub Smaller : Bool → ℕ × ℕ → Type 0
Smaller false x = x.0 < x.1
Smaller true x = x.0 ≤ x.1

-- for which numbers a comparison can be met: none where the order is equal
abbrev pub Comparable : ℕ → Ordering → ℕ × ℕ → Type 0
Comparable p Less x = BothHalf p x
Comparable p Equal x = ⊥
Comparable p Greater x = BothHalf p (x.1, x.0)

-- its answer
abbrev pub compared_bit : Ordering → Bool → ℕ × ℕ → ℕ
compared_bit Less flag x = smaller_bit flag x
compared_bit Equal flag x = 0
compared_bit Greater flag x = smaller_bit flag (x.1, x.0)

-- it holds
abbrev pub Ordered : ℕ → Ordering → Bool → ℕ × ℕ → Type 0
Ordered p Less flag x = BothHalf p x × Smaller flag x
Ordered p Equal flag x = ⊥
Ordered p Greater flag x = BothHalf p (x.1, x.0) × Smaller flag (x.1, x.0)
