-- A system's rows depend on what it reaches, and find room.
use Rattle.std.proofs.Common.{◌≡◌, ℕ, ◌+◌, ◌*◌, ◌/◌, ◌%◌, Bool, true, false, cond, eqb, ltb, List, [], ◌∷◌, map, length, sym, refl, ◌∙◌, arith}
use Rattle.std.proofs.lemmas.Bool.{and_parts}
use Rattle.relations.specs.declared.term.Variable.{Variable}
use Rattle.relations.specs.declared.term.Variable.TheVariants.{One, Input, Witness, Combination}
use Rattle.relations.specs.Sum.{Pairs, decode, code_in, all_in, value}
use Rattle.relations.specs.Meaning.{places}
use Rattle.relations.specs.Rows.{reached, Agree, LocalRows, RowsLocal, RowsFit}
use Rattle.words.specs.Words.{Triple, rows, meant, triples_in}
use Rattle.words.specs.State.{State, Fit, view}
use Rattle.words.proofs.Cuts.{rows_are, triple_each}
use Rattle.systems.proofs.Views.{rows_long, sane_is}

-- a variable whose code is in is reached
code_reached : (i w e c : ℕ) → code_in i w e c ≡ true → reached i w e (decode c) ≡ true
code_reached i w e c h = go (eqb (c % 8) 1) (eqb (c % 8) 2) (eqb (c % 8) 3) h
  where
    go : (x y z : Bool) → cond x (ltb (c / 8) i) (cond y (ltb (c / 8) w) (cond z (ltb (c / 8) e) true)) ≡ true → reached i w e (cond x (Input (c / 8)) (cond y (Witness (c / 8)) (cond z (Combination (c / 8)) One))) ≡ true
    go true y z q = q
    go false true z q = q
    go false false true q = q
    go false false false q = refl

-- the value of terms depends on what they name
value_local : (p i w e : ℕ) (a b : Variable → ℕ) → Agree (reached i w e) a b → (ts : Pairs) → all_in i w e ts ≡ true → value p (λ c. b (decode c)) ts ≡ value p (λ c. a (decode c)) ts
value_local p i w e a b same [] h = refl
value_local p i w e a b same (t ∷ ts) h =
    let q = and_parts _ _ h in
    λ k. (t.1 * same (decode t.0) (code_reached i w e t.0 q.0) k + value_local p i w e a b same ts q.1 k) % p

triples_local : (p i w e : ℕ) (xs : List Triple) → triples_in i w e xs ≡ true → LocalRows (reached i w e) (map (meant p) xs)
triples_local p i w e [] h = tt
triples_local p i w e (x ∷ xs) h =
    let q = and_parts _ _ h in
    let t = triple_each i w e x q.0 in
    ((λ a b s. value_local p i w e a b s x.a t.0, λ a b s. value_local p i w e a b s x.b t.1, λ a b s. value_local p i w e a b s x.c t.2), triples_local p i w e xs q.1)

pub rows_local : (s : State) → Fit s → RowsLocal (view s)
rows_local s f =
    let ts : List Triple = rows s.count s.row_words s.term_words in
    triples_local s.modulus (length (view s).inputs) (length (view s).witnesses) (places (view s).combos) ts (sym (rows_are s.modulus (length (view s).inputs) (length (view s).witnesses) (places (view s).combos) ts) ∙ (sane_is s f).rows)

pub rows_fit : (s : State) → Fit s → RowsFit (view s)
rows_fit s f _ = omega (arith, rows_long s, f.rows_in)
