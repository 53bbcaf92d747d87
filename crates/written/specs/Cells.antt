-- Coefficients in the cells of an array: that of One, then those of the inputs, of the witnesses, and of the combinations, each at the place of its heading.
use Rattle.std.specs.Prelude.{◌≡◌, ℕ, ◌+◌, ◌-◌, ◌*◌, ◌/◌, ◌%◌, ◌<◌, ◌≤◌, cond, List, map, reverse, length, Some, None, Option, ◌==◌, nat_lt, slice_index, slice_index_or}
use Rattle.relations.specs.declared.term.Variable.{Variable}
use Rattle.relations.specs.declared.term.Variable.TheVariants.{One, Input, Witness, Combination}
use Rattle.relations.specs.Sum.{Pairs, code, total}
use Rattle.relations.specs.Meaning.{Combo}
use Rattle.relations.specs.Written.{expanded}
use Rattle.words.specs.Words.{pairs, plain, combo, combinations}
use Rattle.written.specs.declared.Counts.{Counts}

-- how many cells there are
abbrev pub cells : Counts → ℕ
cells n = 1 + n.inputs + n.witnesses + n.front

-- the variable whose coefficient stands in a cell
abbrev pub variable_at : Counts → ℕ → Variable
variable_at n j =
    cond (j == 0) One
    (cond (nat_lt (j - 1) n.inputs) (Input (j - 1))
    (cond (nat_lt (j - 1 - n.inputs) n.witnesses) (Witness (j - 1 - n.inputs))
    (Combination (j - 1 - n.inputs - n.witnesses))))

-- the cell of the variable with the code c; a number that is no code, or the code of a variable that is not there, has none
abbrev pub cell : Counts → ℕ → Option ℕ
cell n c =
    cond (c % 8 == 1) (cond (nat_lt (c / 8) n.inputs) (Some (1 + c / 8)) None)
    (cond (c % 8 == 2) (cond (nat_lt (c / 8) n.witnesses) (Some (1 + n.inputs + c / 8)) None)
    (cond (c % 8 == 3) (cond (nat_lt (c / 8) n.front) (Some (1 + n.inputs + n.witnesses + c / 8)) None)
    (cond (c == 0) (Some 0) None)))

-- the counts are so small that no index wraps
pub record Small (n : Counts) : Type 0 where
  pub inputs : n.inputs ≤ 65536
  pub witnesses : n.witnesses ≤ 65536
  pub front : n.front ≤ 65536

-- the cells beyond the counts are as they were
abbrev pub Beyond : Counts → List ℕ → List ℕ → Type 0
Beyond n os qs = (j : ℕ) → cells n ≤ j → slice_index qs j ≡ slice_index os j

-- every coefficient is below p
abbrev pub Below : ℕ → Counts → List ℕ → Type 0
Below p n os = (j : ℕ) → j < cells n → slice_index os j < p

-- the cells hold the coefficients f
abbrev pub Holds : Counts → List ℕ → (Variable → ℕ) → Type 0
Holds n os f = (j : ℕ) → j < cells n → slice_index os j ≡ f (variable_at n j)

-- the coefficients qs are os after k times the term with the code c and the coefficient x was added
pub record Added (p : ℕ) (n : Counts) (k c x : ℕ) (os qs : List ℕ) : Type 0 where
  pub sums : (j : ℕ) → j < cells n → slice_index qs j ≡ cond (c == code (variable_at n j)) ((k * x + slice_index os j) % p) (slice_index os j)
  pub beyond : Beyond n os qs

-- the coefficients qs are os after k times the terms ts were added
pub record Spread (p : ℕ) (n : Counts) (k : ℕ) (ts : Pairs) (os qs : List ℕ) : Type 0 where
  pub sums : (j : ℕ) → j < cells n → slice_index qs j ≡ (slice_index os j + k * total p 0 ts (code (variable_at n j))) % p
  pub beyond : Beyond n os qs

-- `len` terms from place `start` on lie in the words
pub record Lies (start len : ℕ) (ws : List ℕ) : Type 0 where
  pub long : 2 * (start + len) ≤ length ws
  pub limit : start + len ≤ 65536

-- the combinations that stand in the words, the newest first
abbrev pub newest_first : ℕ → Counts → List ℕ → List Combo
newest_first p n ws = reverse (map (combo p) (combinations n.lcs n.front ws))

-- the coefficients, written out, of the sum of `len` stored terms from place `start` on
abbrev pub written_out : ℕ → Counts → ℕ → ℕ → List ℕ → Variable → ℕ
written_out p n start len ws = expanded p (plain p (pairs start len ws)).at (newest_first p n ws)

-- what it leaves: the coefficients f of One, of each input and of each witness, and what stood beyond the cells;
-- the cells of the combinations were only worked in
pub record Over (n : Counts) (f : Variable → ℕ) (os qs : List ℕ) : Type 0 where
  pub one : slice_index_or qs 0 0 ≡ f One
  pub inputs : (i : ℕ) → i < n.inputs → slice_index qs (1 + i) ≡ f (Input i)
  pub witnesses : (j : ℕ) → j < n.witnesses → slice_index qs (1 + n.inputs + j) ≡ f (Witness j)
  pub beyond : Beyond n os qs
