-- How lent words hold sums, combinations and rows.
use Rattle.std.specs.Prelude.{◌≡◌, ℕ, zero, suc, ◌+◌, ◌-◌, ◌*◌, ◌/◌, ◌%◌, ◌<◌, ◌≤◌, Bool, true, cond, ◌&&◌, List, [], ◌∷◌, ◌++◌, length, Some, ◌==◌, ◌≢◌, nat_lt, slice_index, slice_index_or}
use Rattle.relations.specs.declared.term.Variable.{Variable}
use Rattle.relations.specs.declared.term.Variable.TheVariants.{One, Zero, Input, Witness, Combination}
use Rattle.relations.specs.declared.term.Term.{Term}
use Rattle.relations.specs.Sum.{Sum, Row, Pairs, code, decode, total, merged, handed, all_in, value}
use Rattle.relations.specs.Meaning.{Combo}

-- the list of f 0, f 1, and so on below n
abbrev pub tabulate : {A : Type 0} → ℕ → (ℕ → A) → List A
tabulate zero f = []
tabulate (suc n) f = tabulate n f ++ (f n ∷ [])

-- two buffers hold the same from word a to below word b
abbrev pub Same : ℕ → ℕ → List ℕ → List ℕ → Type 0
Same a b ws vs = (j : ℕ) → a ≤ j → j < b → slice_index ws j ≡ slice_index vs j

-- ---- terms: two words each, a variable's code and its coefficient
-- the n terms from place i on
abbrev pub pairs : ℕ → ℕ → List ℕ → Pairs
pairs i zero ws = []
pairs i (suc n) ws = pairs i n ws ++ ((slice_index ws (2 * (i + n)), slice_index ws (2 * (i + n) + 1)) ∷ [])

-- terms that are read as two words each
abbrev pub stored : List (List ℕ) → Pairs
stored [] = []
stored (t ∷ ts) = (slice_index t 0, slice_index t 1) ∷ stored ts

-- the sum that stored terms mean: each of them counts
abbrev pub plain : ℕ → Pairs → Sum
plain p ts = record { value = λ a. value p (λ c. a (decode c)) ts; at = λ v. total p 0 ts (code v); size = length ts; within = λ i w e. all_in i w e ts }

-- the terms that handed terms are stored as
abbrev pub whole : ℕ → List Term → Pairs
whole p ts = merged p (handed ts) (handed ts)

-- every variable has a code of 32 bits
abbrev pub Small : List Term → Type 0
Small [] = Unit {0}
Small (t ∷ ts) = (code t.variable < 4294967296) × Small ts

-- ---- combinations, one above the other from place 0 on: the terms of each, and then its heading, two words more:
-- eight times the number of its terms, plus 4, and the value that is kept for it
pub record Kept : Type 0 where
  pub terms : Pairs
  pub word : ℕ

-- n terms from place i on, and their heading
abbrev pub combination : ℕ → ℕ → List ℕ → Kept
combination i n ws = record { terms = pairs i n ws; word = slice_index ws (2 * (i + n) + 1) }

-- the number of terms that stands in the heading right below a place
abbrev pub heading : ℕ → List ℕ → ℕ
heading end ws = slice_index ws (2 * (end - 1)) / 8

-- k combinations, the last of which ends at a place
abbrev pub combinations : ℕ → ℕ → List ℕ → List Kept
combinations zero end ws = []
combinations (suc k) end ws = combinations k (end - 1 - heading end ws) ws ++ (combination (end - 1 - heading end ws) (heading end ws) ws ∷ [])

-- they fill the places below their end
abbrev pub Chain : ℕ → ℕ → List ℕ → Type 0
Chain zero end ws = end ≡ 0
Chain (suc k) end ws = (heading end ws + 1 ≤ end) × Chain k (end - 1 - heading end ws) ws

-- the newest of `left` combinations that end at a place, taken off: its heading's place, its terms, and what is left
pub record TakenOff (left end : ℕ) (ws : List ℕ) (left' end' : ℕ) (ws' : List ℕ) (at : ℕ) (ts : Pairs) : Type 0 where
  pub some : 0 < left
  pub fewer : left' ≡ left - 1
  pub lower : end' ≡ end - 1 - heading end ws
  pub same : ws' ≡ ws
  pub place : at ≡ end - 1
  pub terms : ts ≡ pairs (end - 1 - heading end ws) (heading end ws) ws

-- the heading right below a place has the tag 4 and a kept value below p, and no term of its combination has that tag
pub record Head (p end : ℕ) (ws : List ℕ) : Type 0 where
  pub tag : slice_index_or ws (2 * (end - 1)) 0 % 8 ≡ 4
  pub terms : (j : ℕ) → end - 1 - heading end ws ≤ j → j < end - 1 → slice_index ws (2 * j) % 8 ≢ 4
  pub word : slice_index_or ws (2 * (end - 1) + 1) 0 < p

abbrev pub Tagged : ℕ → ℕ → ℕ → List ℕ → Type 0
Tagged p zero end ws = Unit {0}
Tagged p (suc k) end ws = Head p end ws × Tagged p k (end - 1 - heading end ws) ws

-- the combination that is stored, with its value
abbrev pub combo : ℕ → Kept → Combo
combo p x = record { sum = plain p x.terms; kept = Some x.word }

-- ---- rows: six words each, the place and the number of the terms of A, of B and of C
abbrev pub part : ℕ → List ℕ → List ℕ → Pairs
part i rs ws = pairs (slice_index rs i) (slice_index rs (i + 1)) ws

pub record Triple : Type 0 where
  pub a : Pairs
  pub b : Pairs
  pub c : Pairs

abbrev pub row_at : ℕ → List ℕ → List ℕ → Triple
row_at i rs ws = record { a = part (6 * i) rs ws; b = part (6 * i + 2) rs ws; c = part (6 * i + 4) rs ws }

abbrev pub rows : ℕ → List ℕ → List ℕ → List Triple
rows zero rs ws = []
rows (suc n) rs ws = rows n rs ws ++ (row_at n rs ws ∷ [])

-- the terms of row i end at a place, and lie one part below the other: A, then B, then C, which begins lowest
pub record Placed (i top low : ℕ) (rs : List ℕ) : Type 0 where
  pub a : slice_index_or rs (6 * i) 0 + slice_index rs (6 * i + 1) ≡ top
  pub b : slice_index_or rs (6 * i + 2) 0 + slice_index rs (6 * i + 2 + 1) ≡ slice_index rs (6 * i)
  pub c : slice_index_or rs (6 * i + 4) 0 + slice_index rs (6 * i + 4 + 1) ≡ slice_index rs (6 * i + 2)
  pub lowest : slice_index_or rs (6 * i + 4) 0 ≡ low

-- where the terms of n rows begin, below the top
abbrev pub floor : ℕ → ℕ → List ℕ → ℕ
floor top zero rs = top
floor top (suc n) rs = slice_index rs (6 * n + 4)

-- the terms of n rows lie one below the other from the top down
abbrev pub Stack : ℕ → ℕ → List ℕ → Type 0
Stack top zero rs = Unit {0}
Stack top (suc n) rs = Placed n (floor top n rs) (slice_index rs (6 * n + 4)) rs × Stack top n rs

abbrev pub meant : ℕ → Triple → Row
meant p t = record { a = plain p t.a; b = plain p t.b; c = plain p t.c }

abbrev pub triple : ℕ → List Term → List Term → List Term → Triple
triple p a b c = record { a = whole p a; b = whole p b; c = whole p c }

-- ---- variables, as the words tell: i inputs, w witnesses, and headings below place e
abbrev pub there : ℕ → ℕ → ℕ → List ℕ → Variable → Bool
there i w e ws One = true
there i w e ws Zero = true
there i w e ws (Input k) = nat_lt k i
there i w e ws (Witness k) = nat_lt k w
there i w e ws (Combination c) = nat_lt c e && slice_index ws (2 * c) % 8 == 4

abbrev pub all_there : ℕ → ℕ → ℕ → List ℕ → List Term → Bool
all_there i w e ws [] = true
all_there i w e ws (t ∷ ts) = there i w e ws t.variable && all_there i w e ws ts

-- the word that is kept for a variable: inputs first, and witnesses from word r on; a place without a heading has none
abbrev pub word_of : ℕ → List ℕ → List ℕ → Variable → ℕ
word_of r vs ws One = 1
word_of r vs ws Zero = 0
word_of r vs ws (Input k) = slice_index vs k
word_of r vs ws (Witness k) = slice_index vs (r + k)
word_of r vs ws (Combination c) = cond (slice_index ws (2 * c) % 8 == 4) (slice_index ws (2 * c + 1)) 0

-- the value modulo p of terms under the kept words
abbrev pub worth : ℕ → ℕ → List ℕ → List ℕ → Pairs → ℕ
worth p r vs ws ts = value p (λ c. word_of r vs ws (decode c)) ts

-- the words of i inputs, of w witnesses after a room of r, and of headings below place e are there
pub record Reads (i w e r : ℕ) (vs ws : List ℕ) : Type 0 where
  pub inputs : i ≤ r
  pub witnesses : r + w ≤ length vs
  pub headings : 2 * e ≤ length ws
  pub input_limit : r ≤ 65536
  pub witness_limit : w ≤ 65536
  pub place_limit : e ≤ 65536

-- ---- whether stored lists name only the first i inputs, the first w witnesses and headings below place e
abbrev pub lists_in : ℕ → ℕ → ℕ → List Kept → Bool
lists_in i w e [] = true
lists_in i w e (x ∷ xs) = all_in i w e x.terms && lists_in i w e xs

abbrev pub triple_in : ℕ → ℕ → ℕ → Triple → Bool
triple_in i w e t = all_in i w e t.a && (all_in i w e t.b && all_in i w e t.c)

abbrev pub triples_in : ℕ → ℕ → ℕ → List Triple → Bool
triples_in i w e [] = true
triples_in i w e (x ∷ xs) = triple_in i w e x && triples_in i w e xs

-- ---- writing: the words before are ws or rs, those after are vs or qs
-- what writing the terms of three sums below a place asks for, and what it leaves
pub record PartsFit (p back la lb lc : ℕ) (a b c : List Term) (ws : List ℕ) : Type 0 where
  pub modulus : 0 < p
  pub a_long : la ≡ length (whole p a)
  pub b_long : lb ≡ length (whole p b)
  pub c_long : lc ≡ length (whole p c)
  pub room : la + lb + lc ≤ back
  pub back_limit : back ≤ 65536
  pub terms : 2 * back ≤ length ws
  pub a_small : Small a
  pub b_small : Small b
  pub c_small : Small c

pub record Parts (p back la lb lc : ℕ) (a b c : List Term) (ws vs : List ℕ) : Type 0 where
  pub a_holds : pairs (back - la) la vs ≡ whole p a
  pub b_holds : pairs (back - la - lb) lb vs ≡ whole p b
  pub c_holds : pairs (back - la - lb - lc) lc vs ≡ whole p c
  pub below : (j : ℕ) → j < 2 * (back - la - lb - lc) → slice_index vs j ≡ slice_index ws j
  pub above : (j : ℕ) → 2 * back ≤ j → slice_index vs j ≡ slice_index ws j

-- the six words of row n
pub record Places (n back la lb lc : ℕ) (rs qs : List ℕ) : Type 0 where
  pub kept : (j : ℕ) → j < 6 * n → slice_index qs j ≡ slice_index rs j
  pub a_start : slice_index_or qs (6 * n) 0 ≡ back - la
  pub a_long : slice_index_or qs (6 * n + 1) 0 ≡ la
  pub b_start : slice_index_or qs (6 * n + 2) 0 ≡ back - la - lb
  pub b_long : slice_index_or qs (6 * n + 2 + 1) 0 ≡ lb
  pub c_start : slice_index_or qs (6 * n + 4) 0 ≡ back - la - lb - lc
  pub c_long : slice_index_or qs (6 * n + 4 + 1) 0 ≡ lc

-- a row whose terms lie from low to back
pub record RowWritten (p n back low : ℕ) (a b c : List Term) (rs qs ws vs : List ℕ) : Type 0 where
  pub rows_kept : (j : ℕ) → j < 6 * n → slice_index qs j ≡ slice_index rs j
  pub terms_below : (j : ℕ) → j < 2 * low → slice_index vs j ≡ slice_index ws j
  pub terms_above : (j : ℕ) → 2 * back ≤ j → slice_index vs j ≡ slice_index ws j
  pub placed : Placed n back low qs
  pub holds : row_at n qs vs ≡ triple p a b c

-- a combination of n terms from place front on, with its heading
pub record LcFits (p front n kept : ℕ) (ts : List Term) (ws : List ℕ) : Type 0 where
  pub modulus : 0 < p
  pub long : n ≡ length (whole p ts)
  pub limit : front + n < 65536
  pub words : 2 * (front + n + 1) ≤ length ws
  pub small : Small ts

pub record LcWritten (p front n kept : ℕ) (ts : List Term) (ws vs : List ℕ) : Type 0 where
  pub holds : pairs front n vs ≡ whole p ts
  pub heading : slice_index_or vs (2 * (front + n)) 0 ≡ 8 * n + 4
  pub word : slice_index_or vs (2 * (front + n) + 1) 0 ≡ kept
  pub below : (j : ℕ) → j < 2 * front → slice_index vs j ≡ slice_index ws j
  pub above : (j : ℕ) → 2 * (front + n + 1) ≤ j → slice_index vs j ≡ slice_index ws j
