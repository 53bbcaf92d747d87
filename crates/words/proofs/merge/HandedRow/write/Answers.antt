use Rattle.std.proofs.Common.{ℕ, ap}
use Rattle.words.proofs.RowLaid.{parts}
use Rattle.words.proofs.Storing.{held_as}
use Rattle.words.proofs.merge.HandedRow.write.Goals as goal

pub returns : goal.returns
returns c = parts _ _ _ _ _ _ _ _ _ _ _ _ c.requires
    (held_as _ _ _ _ _ _ _ _ c.sum.ensures.modulus (ap (λ (x : ℕ × ℕ × ℕ). x.0) c.places-a.ensures) c.sum.ensures.terms record { holds = c.store.ensures.holds; below = c.store.ensures.below; above = c.store.ensures.above })
    (held_as _ _ _ _ _ _ _ _ c.sum-2.ensures.modulus (ap (λ (x : ℕ × ℕ × ℕ). x.1) c.places-a.ensures) c.sum-2.ensures.terms record { holds = c.store-2.ensures.holds; below = c.store-2.ensures.below; above = c.store-2.ensures.above })
    (held_as _ _ _ _ _ _ _ _ c.sum-3.ensures.modulus (ap (λ (x : ℕ × ℕ × ℕ). x.2) c.places-a.ensures) c.sum-3.ensures.terms record { holds = c.store-3.ensures.holds; below = c.store-3.ensures.below; above = c.store-3.ensures.above })
