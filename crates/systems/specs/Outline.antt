-- A row's sums written out: over One, the inputs and the witnesses.
use Rattle.std.specs.Prelude.{◌≡◌, ℕ, ◌+◌, ◌-◌, ◌*◌, ◌%◌, cond, List, [], ◌∷◌, ◌++◌, length, Ok, Err, Result, ◌==◌, nat_le, nat_lt, slice_index_or}
use Rattle.relations.specs.declared.term.Variable.{Variable}
use Rattle.relations.specs.declared.term.Variable.TheVariants.{One, Input, Witness}
use Rattle.relations.specs.Sum.{Sum, Row, row_of}
use Rattle.relations.specs.Meaning.{Meaning}
use Rattle.relations.specs.Written.{written}
use Rattle.laws.specs.Runs.{Assignment, values}
use Rattle.words.specs.Words.{tabulate}
use Rattle.words.specs.State.{State}
use Rattle.systems.specs.declared.rooms.OutlineFault.{OutlineFault}
use Rattle.systems.specs.declared.rooms.OutlineFault.TheVariants.{NoSuchRow, TooShort}
use Rattle.systems.specs.declared.store.Part.{Part}
use Rattle.systems.specs.declared.store.Part.TheVariants.{A, B, C}

-- where a part of row i stands in the words of rows
abbrev pub place : Part → ℕ → ℕ
place A i = 6 * i
place B i = 6 * i + 2
place C i = 6 * i + 4

-- how many words it takes
abbrev pub working : State → ℕ
working s = 1 + s.inputs + s.witnesses + s.front

-- what writing out one of the sums of row i comes to, where there are n rows, it takes w words, and there are l
abbrev pub outlining : ℕ → ℕ → ℕ → ℕ → Result (Unit {0}) OutlineFault
outlining n w i l = cond (nat_lt i n) (cond (nat_le w l) (Ok tt) (Err TooShort)) (Err NoSuchRow)

-- how many coefficients a sum has
abbrev pub width : Meaning → ℕ
width m = 1 + length m.inputs + length m.witnesses

-- the variable whose coefficient stands at place j, where there are n inputs
abbrev pub placed : ℕ → ℕ → Variable
placed n j = cond (j == 0) One (cond (nat_lt (j - 1) n) (Input (j - 1)) (Witness (j - 1 - n)))

-- the coefficients of a sum, written out
abbrev pub coefficients : ℕ → Meaning → Sum → List ℕ
coefficients p m s = tabulate (width m) (λ j. written p m s (placed (length m.inputs) j))

abbrev pub part_of : Part → Row → Sum
part_of A r = r.a
part_of B r = r.b
part_of C r = r.c

-- one of the sums of row i
abbrev pub row_sum : Part → ℕ → Meaning → Sum
row_sum part i m = part_of part (slice_index_or m.rows i (row_of 0 [] [] []))

-- ---- what the coefficients of a sum are worth
-- the products of two lists, place by place as far as both go, summed
abbrev pub dot : List ℕ → List ℕ → ℕ
dot [] ys = 0
dot (x ∷ xs) [] = 0
dot (x ∷ xs) (y ∷ ys) = x * y + dot xs ys

-- what an assignment gives One, the inputs and the witnesses, in the order of coefficients
abbrev pub numbers : {p : ℕ} {m : Meaning} → Assignment p m → List ℕ
numbers a = 1 ∷ (a.inputs ++ a.witnesses)

-- under each assignment a sum's value is what the coefficients come to, each times the number of its variable
abbrev pub KeepsValue : ℕ → Meaning → Sum → List ℕ → Type 0
KeepsValue p m s cs = (a : Assignment p m) → s.value (values m a) ≡ dot cs (numbers a) % p
