-- What a system's rows and combinations say of the numbers of an assignment.
use Rattle.std.specs.Prelude.{◌≡◌, ℕ, ◌+◌, ◌*◌, ◌%◌, ◌<◌, true, List, [], ◌∷◌, ◌++◌, length, Some, slice_index}
use Rattle.relations.specs.declared.term.Variable.{Variable}
use Rattle.relations.specs.declared.term.Variable.TheVariants.{One, Zero, Input, Witness, Combination}
use Rattle.relations.specs.Sum.{Sum, Row}
use Rattle.relations.specs.Meaning.{Meaning, Combo, places, kept_at, known, has, assigned}
use Rattle.laws.specs.Law.{Val, Low, There}

-- the rows are met: in each, the value of a times that of b is that of c modulo p
abbrev pub Met : ℕ → Val → List Row → Type 0
Met p ρ [] = Unit {0}
Met p ρ (r ∷ rs) = ((r.a.value ρ * r.b.value ρ) % p ≡ r.c.value ρ % p) × Met p ρ rs

-- the combinations cs, which stand behind done, have the values of their sums
abbrev pub Sums : Val → List Combo → List Combo → Type 0
Sums ρ done [] = Unit {0}
Sums ρ done (x ∷ xs) = (ρ (Combination (places done + x.sum.size)) ≡ x.sum.value ρ) × Sums ρ (done ++ (x ∷ [])) xs

-- σ says of the variables that are there what ρ says
abbrev pub Agree : There → Val → Val → Type 0
Agree h ρ σ = (v : Variable) → h v ≡ true → σ v ≡ ρ v

-- the same of the variables of a system
abbrev pub Same : Meaning → Val → Val → Type 0
Same m ρ σ = Agree (has m) ρ σ

-- a sum's value depends only on variables that are there, and is below p
pub record Bounded (p : ℕ) (h : There) (s : Sum) : Type 0 where
  pub local : (ρ σ : Val) → Agree h ρ σ → s.value σ ≡ s.value ρ
  pub below : (ρ : Val) → s.value ρ < p

-- each of the combinations cs, which stand behind done, depends only on what is there before it
abbrev pub Formed : ℕ → ℕ → ℕ → List Combo → List Combo → Type 0
Formed p i w done [] = Unit {0}
Formed p i w done (x ∷ xs) = Bounded p (known i w done) x.sum × Formed p i w (done ++ (x ∷ [])) xs

-- the rows depend only on what is there
abbrev pub RowsKnown : ℕ → There → List Row → Type 0
RowsKnown p h [] = Unit {0}
RowsKnown p h (r ∷ rs) = (Bounded p h r.a × Bounded p h r.b × Bounded p h r.c) × RowsKnown p h rs

-- what a system's combinations and rows name is there
pub record Proper (p : ℕ) (m : Meaning) : Type 0 where
  pub formed : Formed p (length m.inputs) (length m.witnesses) [] m.combos
  pub rows : RowsKnown p (has m) m.rows

-- ρ meets the rows of m, and gives its combinations the values of their sums
pub record Solves (p : ℕ) (m : Meaning) (ρ : Val) : Type 0 where
  pub low : Low p ρ
  pub sums : Sums ρ [] m.combos
  pub met : Met p ρ m.rows

-- the kept values are below p, and those of combinations are the values of their sums
pub record Right (p : ℕ) (m : Meaning) : Type 0 where
  pub low : Low p (assigned m)
  pub sums : Sums (assigned m) [] m.combos

-- the three promises of a call on the operands i that was accepted with the answer o and went from m to n
pub record Promises (p : ℕ) {In Out X Y : Type 0} (at : Val → In → X) (of : Val → Out → Y) (Pre : X → Type 0) (R : X → Y → Type 0) (i : In) (m n : Meaning) (o : Out) : Type 0 where
  pub before : (ρ : Val) → Solves p n ρ → Solves p m ρ
  pub sound : (ρ : Val) → Solves p n ρ → Pre (at ρ i) → R (at ρ i) (of ρ o)
  pub complete : (ρ : Val) → Solves p m ρ → (y : Y) → Pre (at ρ i) → R (at ρ i) y → (σ : Val) × Solves p n σ × Same m ρ σ × (of σ o ≡ y)
  pub own : m.keeps ≡ true → Solves p m (assigned m) → Pre (at (assigned m) i) → ((y : Y) × R (at (assigned m) i) y) → Solves p n (assigned n) × R (at (assigned m) i) (of (assigned n) o)

-- ---- assignments to the inputs and witnesses of a system
-- all numbers of a list are below p
abbrev pub AllLow : ℕ → List ℕ → Type 0
AllLow p [] = Unit {0}
AllLow p (x ∷ xs) = (x < p) × AllLow p xs

-- a number below p for each input and each witness
pub record Assignment (p : ℕ) (m : Meaning) : Type 0 where
  pub inputs : List ℕ
  pub witnesses : List ℕ
  pub inputs_long : length inputs ≡ length m.inputs
  pub witnesses_long : length witnesses ≡ length m.witnesses
  pub inputs_low : AllLow p inputs
  pub witnesses_low : AllLow p witnesses

-- the numbers of all variables, from those of the inputs and witnesses and from combinations with their values
abbrev pub look : List ℕ → List ℕ → List Combo → Val
look is ws cs One = 1
look is ws cs Zero = 0
look is ws cs (Input k) = slice_index is k
look is ws cs (Witness k) = slice_index ws k
look is ws cs (Combination c) = kept_at c cs

-- the combinations with the values of their sums, oldest first: each sum sees the values of those before it
abbrev pub evaluated : List ℕ → List ℕ → List Combo → List Combo → List Combo
evaluated is ws done [] = done
evaluated is ws done (x ∷ xs) = evaluated is ws (done ++ (record { sum = x.sum; kept = Some (x.sum.value (look is ws done)) } ∷ [])) xs

-- the numbers that an assignment gives to all variables of a system
abbrev pub values : {p : ℕ} (m : Meaning) → Assignment p m → Val
values m a = look a.inputs a.witnesses (evaluated a.inputs a.witnesses [] m.combos)
