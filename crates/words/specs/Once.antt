-- Facts of which there is one proof at most.
use Rattle.std.specs.Prelude.{ℕ, zero, suc, List}
use Rattle.std.specs.Coded.{×_prop, Unit-prop, le_prop, Coded-set, coded_ℕ}
use Rattle.std.proofs.Props.{props}
use Rattle.words.specs.Words.{Chain, Placed, Stack}

pub Chain-prop : (k end : ℕ) (ws : List ℕ) → IsProp (Chain k end ws)
Chain-prop zero end ws = Coded-set coded_ℕ end 0
Chain-prop (suc k) end ws = ×_prop le_prop (Chain-prop k _ ws)

Placed-prop : (i top low : ℕ) (rs : List ℕ) → IsProp (Placed i top low rs)
Placed-prop i top low rs = Prim.hlevel props

pub Stack-prop : (top n : ℕ) (rs : List ℕ) → IsProp (Stack top n rs)
Stack-prop top zero rs = Unit-prop
Stack-prop top (suc n) rs = ×_prop (Placed-prop n _ _ rs) (Stack-prop top n rs)
