-- A system is well laid, in order, and blank, in one way at most.
use Rattle.std.specs.Prelude.{ℕ, zero, suc, ◌+◌, List, [], ◌∷◌, length}
use Rattle.std.specs.Coded.{×_prop, Unit-prop, Coded-set, coded_ℕ}
use Rattle.std.proofs.Props.{props}
use Rattle.relations.specs.Sum.{Pairs}
use Rattle.words.specs.Words.{Kept, Triple, Head, Tagged, combinations}
use Rattle.words.specs.Once.{Chain-prop, Stack-prop}
use Rattle.words.specs.State.{State, Fit}
use Rattle.written.specs.declared.Counts.{Counts}
use Rattle.written.specs.Keeps.{up_to, Named}
use Rattle.systems.specs.Order.{InOrder, RowsNamed, Ordered}
use Rattle.systems.specs.Blank.{AllBlank, Blank}

head_prop : (p end : ℕ) (ws : List ℕ) → IsProp (Head p end ws)
head_prop p end ws = Prim.hlevel props

tagged_prop : (p k end : ℕ) (ws : List ℕ) → IsProp (Tagged p k end ws)
tagged_prop p zero end ws = Unit-prop
tagged_prop p (suc k) end ws = ×_prop (head_prop p end ws) (tagged_prop p k _ ws)

pub fit_prop : (s : State) → IsProp (Fit s)
fit_prop s = Prim.hlevel (props, Chain-prop, tagged_prop, Stack-prop)

named_prop : (n : Counts) (ts : Pairs) → IsProp (Named n ts)
named_prop n [] = Unit-prop
named_prop n (t ∷ ts) = let rest = named_prop n ts in Prim.hlevel (props, rest)

in_order_prop : (n : Counts) (e : ℕ) (xs : List Kept) → IsProp (InOrder n e xs)
in_order_prop n e [] = Unit-prop
in_order_prop n e (x ∷ xs) = ×_prop (named_prop (up_to n e) x.terms) (in_order_prop n (e + length x.terms + 1) xs)

rows_named_prop : (n : Counts) (ts : List Triple) → IsProp (RowsNamed n ts)
rows_named_prop n [] = Unit-prop
rows_named_prop n (t ∷ ts) = ×_prop (Prim.hlevel (props, named_prop)) (rows_named_prop n ts)

pub ordered_prop : (s : State) → IsProp (Ordered s)
ordered_prop s = Prim.hlevel (props, in_order_prop, rows_named_prop)

all_blank_prop : (xs : List Kept) → IsProp (AllBlank xs)
all_blank_prop [] = Unit-prop
all_blank_prop (x ∷ xs) = ×_prop (Coded-set coded_ℕ x.word 0) (all_blank_prop xs)

pub blank_prop : (s : State) → IsProp (Blank s)
blank_prop s = all_blank_prop (combinations s.lcs s.front s.term_words)
