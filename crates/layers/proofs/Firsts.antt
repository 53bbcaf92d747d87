-- The first unmet row of rows that stand one after another, and of rows that are judged by the same numbers.
use Rattle.std.proofs.Common.{◌≡◌, ℕ, suc, ◌+◌, ◌*◌, ◌%◌, ◌<◌, ◌≤◌, Bool, true, false, cond, eqb, ltb, List, [], ◌∷◌, ◌++◌, length, get_or, drop, Some, None, Option, sym, refl, ap, ◌∙◌, arith, lt-ltb}
use Rattle.std.proofs.lemmas.List.{at_drop_more, at_drop_all}
use Rattle.relations.specs.declared.term.Variable.{Variable}
use Rattle.relations.specs.Sum.{Row, row_of}
use Rattle.relations.specs.Meaning.{Meaning, assigned}
use Rattle.relations.specs.Rows.{Agree, Local, LocalRows}
use Rattle.relations.specs.Unmet.{met, unmet_from}
use Rattle.layers.specs.Watched.{unmet, fails}

-- ---- rows that are judged by the same numbers
met_same : (p : ℕ) (h : Variable → Bool) (a b : Variable → ℕ) → Agree h a b → (r : Row) → Local h r.a × Local h r.b × Local h r.c → met p b r ≡ met p a r
met_same p h a b s r l = λ i. eqb ((l.0 a b s i * l.1 a b s i) % p) (l.2 a b s i)

pub unmet_same : (p : ℕ) (h : Variable → Bool) (a b : Variable → ℕ) → Agree h a b → (n : ℕ) (rs : List Row) → LocalRows h rs → unmet_from p b n rs ≡ unmet_from p a n rs
unmet_same p h a b s n [] l = refl
unmet_same p h a b s n (r ∷ rs) l = λ i. cond (met_same p h a b s r l.0 i) (unmet_same p h a b s (n + 1) rs l.1 i) (Some n)

pub local_more : (h k : Variable → Bool) → ((v : Variable) → h v ≡ true → k v ≡ true) → (rs : List Row) → LocalRows h rs → LocalRows k rs
local_more h k up [] l = tt
local_more h k up (r ∷ rs) l =
    let old : (a b : Variable → ℕ) → Agree k a b → Agree h a b = λ a b s v q. s v (up v q) in
    ((λ a b s. l.0.0 a b (old a b s), λ a b s. l.0.1 a b (old a b s), λ a b s. l.0.2 a b (old a b s)), local_more h k up rs l.1)

-- ---- rows one after another
abbrev pub either : Option ℕ → Option ℕ → Option ℕ
either (Some x) o = Some x
either None o = o

pub unmet_append : (p : ℕ) (a : Variable → ℕ) (n : ℕ) (xs ys : List Row) → unmet_from p a n (xs ++ ys) ≡ either (unmet_from p a n xs) (unmet_from p a (n + length xs) ys)
unmet_append p a n [] ys = let e : n ≡ n + 0 = omega arith in ap (λ (k : ℕ). unmet_from p a k ys) e
unmet_append p a n (x ∷ xs) ys = go (met p a x) (unmet_append p a (n + 1) xs ys)
  where
    go : (b : Bool) → unmet_from p a (n + 1) (xs ++ ys) ≡ either (unmet_from p a (n + 1) xs) (unmet_from p a (n + 1 + length xs) ys)
        → cond b (unmet_from p a (n + 1) (xs ++ ys)) (Some n) ≡ either (cond b (unmet_from p a (n + 1) xs) (Some n)) (unmet_from p a (n + suc (length xs)) ys)
    go true h = let e : n + 1 + length xs ≡ n + suc (length xs) = omega arith in h ∙ ap (λ (k : ℕ). either (unmet_from p a (n + 1) xs) (unmet_from p a k ys)) e
    go false h = refl

-- none, or a number from n on and below k
abbrev pub Between : ℕ → ℕ → Option ℕ → Type 0
Between n k None = Unit {0}
Between n k (Some j) = (n ≤ j) × (j < k)

pub unmet_between : (p : ℕ) (a : Variable → ℕ) (n : ℕ) (rs : List Row) → Between n (n + length rs) (unmet_from p a n rs)
unmet_between p a n [] = tt
unmet_between p a n (r ∷ rs) = go (met p a r) (unmet_from p a (n + 1) rs) (unmet_between p a (n + 1) rs)
  where
    go : (b : Bool) (o : Option ℕ) → Between (n + 1) (n + 1 + length rs) o → Between n (n + suc (length rs)) (cond b o (Some n))
    go true None h = tt
    go true (Some j) h = let x = h.0 in let y = h.1 in (omega arith, omega arith)
    go false o h = (omega arith, omega arith)

-- ---- going through the rows
-- the first unmet row from row i on
abbrev pub unmet_after : ℕ → ℕ → Meaning → Option ℕ
unmet_after p i m = cond m.keeps (unmet_from p (assigned m) i (drop i m.rows)) None

-- at row i, which is there
pub after_here : (p i : ℕ) (m : Meaning) → i < length m.rows → unmet_after p i m ≡ cond (fails p i m) (Some i) (unmet_after p (i + 1) m)
after_here p i m h = go m.keeps
  where
    judged : (b : Bool) → cond b (unmet_from p (assigned m) (i + 1) (drop (i + 1) m.rows)) (Some i) ≡ cond (unmet (Some b)) (Some i) (unmet_from p (assigned m) (i + 1) (drop (i + 1) m.rows))
    judged true = refl
    judged false = refl

    go : (k : Bool) → cond k (unmet_from p (assigned m) i (drop i m.rows)) None
        ≡ cond (unmet (cond k (cond (ltb i (length m.rows)) (Some (met p (assigned m) (get_or m.rows i (row_of 0 [] [] [])))) None) None)) (Some i) (cond k (unmet_from p (assigned m) (i + 1) (drop (i + 1) m.rows)) None)
    go false = refl
    go true =
        at_drop_more (λ (xs : List Row). unmet_from p (assigned m) i xs) m.rows i (row_of 0 [] [] []) h
        ∙ judged (met p (assigned m) (get_or m.rows i (row_of 0 [] [] [])))
        ∙ sym (ap (λ (b : Bool). cond (unmet (cond b (Some (met p (assigned m) (get_or m.rows i (row_of 0 [] [] [])))) None)) (Some i) (unmet_from p (assigned m) (i + 1) (drop (i + 1) m.rows))) (lt-ltb i (length m.rows) h))

-- behind the last row
pub after_all : (p i : ℕ) (m : Meaning) → length m.rows ≤ i → unmet_after p i m ≡ None
after_all p i m h = go m.keeps
  where
    go : (k : Bool) → cond k (unmet_from p (assigned m) i (drop i m.rows)) None ≡ None
    go false = refl
    go true = at_drop_all (λ (xs : List Row). unmet_from p (assigned m) i xs) m.rows i h
