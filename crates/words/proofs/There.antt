-- What the words tell of variables is what a system's lists tell.
use Rattle.std.proofs.Common.{◌≡◌, ℕ, zero, suc, ◌+◌, ◌*◌, ◌/◌, ◌%◌, ◌<◌, ◌≤◌, Bool, true, false, cond, ◌&&◌, eqb, ltb, List, [], ◌∷◌, ◌++◌, map, get_or, sym, refl, ap, ◌∙◌, subst, inl, inr, eq-or-lt_of_le, arith, ltb-false, ltb-true, lt-ltb}
use Rattle.std.proofs.lemmas.Bool.{and_parts}
use Rattle.relations.specs.declared.term.Variable.{Variable}
use Rattle.relations.specs.declared.term.Variable.TheVariants.{One, Zero, Input, Witness, Combination}
use Rattle.relations.specs.declared.term.Term.{Term}
use Rattle.relations.specs.Sum.{Pairs, code, handed, weight, merged, code_in, all_in}
use Rattle.relations.specs.Meaning.{Combo, places, is_head, known, all_known}
use Rattle.words.specs.Words.{pairs, combo, combinations, Chain, Tagged, there, all_there, whole, Small}
use Rattle.words.proofs.Heads.{head_test, head_far, head_under}

pub there_known : (p i w k end : ℕ) (ws : List ℕ) (v : Variable) → Chain k end ws → Tagged p k end ws → there i w end ws v ≡ known i w (map (combo p) (combinations k end ws)) v
there_known p i w k end ws One ch t = refl
there_known p i w k end ws Zero ch t = refl
there_known p i w k end ws (Input n) ch t = refl
there_known p i w k end ws (Witness n) ch t = refl
there_known p i w k end ws (Combination c) ch t = go (ltb c end) refl
  where
    go : (b : Bool) → ltb c end ≡ b → b && eqb (get_or ws (2 * c) 0 % 8) 4 ≡ is_head c (map (combo p) (combinations k end ws))
    go true e = sym (head_test p k end c ws ch t (ltb-true c end e))
    go false e = sym (head_far p k end c ws ch (ltb-false c end e))

pub all_there_known : (p i w k end : ℕ) (ws : List ℕ) (ts : List Term) → Chain k end ws → Tagged p k end ws → all_there i w end ws ts ≡ all_known i w (map (combo p) (combinations k end ws)) ts
all_there_known p i w k end ws [] ch t = refl
all_there_known p i w k end ws (x ∷ ts) ch t = λ j. there_known p i w k end ws x.variable ch t j && all_there_known p i w k end ws ts ch t j

-- a variable that is there has a code that is in
abbrev codes : ℕ → ℕ → ℕ → ℕ → ℕ → Bool
codes i w e m q = cond (eqb m 1) (ltb q i) (cond (eqb m 2) (ltb q w) (cond (eqb m 3) (ltb q e) true))

pub known_in : (i w : ℕ) (cs : List Combo) (v : Variable) → known i w cs v ≡ true → code_in i w (places cs) (code v) ≡ true
known_in i w cs One h = refl
known_in i w cs Zero h = refl
known_in i w cs (Input n) h = (λ t. codes i w (places cs) (rest n t) (eighth n t)) ∙ h
  where
    rest : (n : ℕ) → (8 * n + 1) % 8 ≡ 1
    rest n = omega arith

    eighth : (n : ℕ) → (8 * n + 1) / 8 ≡ n
    eighth n = omega arith
known_in i w cs (Witness n) h = (λ t. codes i w (places cs) (rest n t) (eighth n t)) ∙ h
  where
    rest : (n : ℕ) → (8 * n + 2) % 8 ≡ 2
    rest n = omega arith

    eighth : (n : ℕ) → (8 * n + 2) / 8 ≡ n
    eighth n = omega arith
known_in i w cs (Combination n) h = (λ t. codes i w (places cs) (rest n t) (eighth n t)) ∙ lt-ltb n (places cs) (head_under n cs h)
  where
    rest : (n : ℕ) → (8 * n + 3) % 8 ≡ 3
    rest n = omega arith

    eighth : (n : ℕ) → (8 * n + 3) / 8 ≡ n
    eighth n = omega arith

pub all_known_in : (i w : ℕ) (cs : List Combo) (ts : List Term) → all_known i w cs ts ≡ true → all_in i w (places cs) (handed ts) ≡ true
all_known_in i w cs [] h = refl
all_known_in i w cs (t ∷ ts) h = λ j. known_in i w cs t.variable (and_parts _ _ h).0 j && all_known_in i w cs ts (and_parts _ _ h).1 j

pub merged_in : (p i w e : ℕ) (all ts : Pairs) → all_in i w e ts ≡ true → all_in i w e (merged p all ts) ≡ true
merged_in p i w e all [] h = refl
merged_in p i w e all (t ∷ ts) h = go (eqb (weight p all t.0 ts) 0) (merged_in p i w e all ts (and_parts _ _ h).1)
  where
    go : (b : Bool) → all_in i w e (merged p all ts) ≡ true → all_in i w e (cond {A = Pairs} b (merged p all ts) ((t.0, weight p all t.0 ts) ∷ merged p all ts)) ≡ true
    go true ih = ih
    go false ih = λ j. (and_parts (code_in i w e t.0) (all_in i w e ts) h).0 j && ih j

known_code : (i w : ℕ) (cs : List Combo) (v : Variable) → i ≤ 65536 → w ≤ 65536 → places cs ≤ 65536 → known i w cs v ≡ true → code v < 4294967296
known_code i w cs One a b c h = omega arith
known_code i w cs Zero a b c h = omega arith
known_code i w cs (Input n) a b c h = omega (arith, ltb-true n i h)
known_code i w cs (Witness n) a b c h = omega (arith, ltb-true n w h)
known_code i w cs (Combination n) a b c h = omega (arith, head_under n cs h)

pub known_small : (i w : ℕ) (cs : List Combo) (ts : List Term) → i ≤ 65536 → w ≤ 65536 → places cs ≤ 65536 → all_known i w cs ts ≡ true → Small ts
known_small i w cs [] a b c h = tt
known_small i w cs (t ∷ ts) a b c h = (known_code i w cs t.variable a b c (and_parts _ _ h).0, known_small i w cs ts a b c (and_parts _ _ h).1)

-- no variable's code has the tag of headings
pub code_free : (v : Variable) → code v % 8 ≡ 4 → ⊥
code_free One e = omega arith
code_free Zero e = omega arith
code_free (Input n) e = omega arith
code_free (Witness n) e = omega arith
code_free (Combination n) e = omega arith

abbrev Free : Pairs → Type 0
Free [] = Unit {0}
Free (t ∷ ts) = (t.0 % 8 ≡ 4 → ⊥) × Free ts

handed_free : (ts : List Term) → Free (handed ts)
handed_free [] = tt
handed_free (t ∷ ts) = (code_free t.variable, handed_free ts)

merged_free : (p : ℕ) (all ts : Pairs) → Free ts → Free (merged p all ts)
merged_free p all [] f = tt
merged_free p all (t ∷ ts) f = go (eqb (weight p all t.0 ts) 0) (merged_free p all ts f.1)
  where
    go : (b : Bool) → Free (merged p all ts) → Free (cond {A = Pairs} b (merged p all ts) ((t.0, weight p all t.0 ts) ∷ merged p all ts))
    go true ih = ih
    go false ih = (f.0, ih)

free_split : (xs ys : Pairs) → Free (xs ++ ys) → Free xs × Free ys
free_split [] ys f = (tt, f)
free_split (x ∷ xs) ys f = let r = free_split xs ys f.1 in ((f.0, r.0), r.1)

free_each : (i n : ℕ) (ws : List ℕ) → Free (pairs i n ws) → (j : ℕ) → i ≤ j → j < i + n → get_or ws (2 * j) 0 % 8 ≡ 4 → ⊥
free_each i zero ws f j l u e = omega arith
free_each i (suc n) ws f j l u e =
    let s : Free (pairs i n ws) × ((get_or ws (2 * (i + n)) 0 % 8 ≡ 4 → ⊥) × Unit {0}) = free_split (pairs i n ws) _ f in
    elim (eq-or-lt_of_le {n = j} {m = i + n} (omega arith)) [
      | inl q ↦ s.1.0 (ap (λ (x : ℕ). get_or ws (2 * x) 0 % 8) (sym q) ∙ e)
      | inr g ↦ free_each i n ws s.0 j l g e
    ]

pub stored_free : (p i n : ℕ) (ws : List ℕ) (ts : List Term) → pairs i n ws ≡ whole p ts → (j : ℕ) → i ≤ j → j < i + n → get_or ws (2 * j) 0 % 8 ≡ 4 → ⊥
stored_free p i n ws ts e = free_each i n ws (subst Free (sym e) (merged_free p (handed ts) (handed ts) (handed_free ts)))
