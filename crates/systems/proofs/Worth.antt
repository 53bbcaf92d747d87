-- What is written out of a row's sum is worth what the sum is, under each assignment.
use Rattle.std.proofs.Common.{◌≡◌, ℕ, zero, suc, ◌+◌, ◌-◌, ◌*◌, ◌/◌, ◌%◌, ◌<◌, ◌≤◌, Bool, true, false, cond, eqb, ltb, List, [], ◌∷◌, ◌++◌, map, length, get_or, Some, sym, refl, ap, ◌∙◌, subst, inl, inr, eq-or-lt_of_le, arith, length-append, ltb-true, ltb-false, le-ltb, lt-ltb, eq-eqb, ne_eqb}
use native.Mathlib.Nat.{mod-mod, zero-mod}
use Rattle.std.proofs.lemmas.Bool.{eqb-true, eqb-false}
use Rattle.std.proofs.lemmas.List.{map-append, get_or_append_left, get_or-append_right}
use Rattle.relations.specs.declared.term.Variable.TheVariants.{One, Input, Witness, Combination}
use Rattle.relations.specs.Sum.{Pairs, decode, code_in, value}
use Rattle.relations.specs.Meaning.{Combo, places, kept_at}
use Rattle.laws.specs.Runs.{Assignment, look, evaluated, values}
use Rattle.words.specs.Words.{pairs, plain, combo, combination, combinations, heading, Chain, row_at, rows}
use Rattle.words.specs.State.{State, Fit, view}
use Rattle.words.proofs.Areas.{places_append, combinations_used}
use Rattle.words.proofs.Frames.{length_pairs}
use Rattle.words.proofs.Heads.{kept_snoc}
use Rattle.words.proofs.Values.{sum_to, sum_same}
use Rattle.written.specs.declared.Counts.{Counts}
use Rattle.written.specs.Cells.{variable_at}
use Rattle.written.specs.Keeps.{up_to, Named, Earlier, Gives, Keeps}
use Rattle.systems.specs.declared.store.Part.{Part}
use Rattle.systems.specs.declared.store.Part.TheVariants.{A, B, C}
use Rattle.systems.specs.Order.{outline, InOrder, RowsNamed, Ordered}
use Rattle.systems.specs.Outline.{place, dot, numbers}
use Rattle.systems.proofs.Order.{in_order_split, rows_split}
use Rattle.systems.proofs.Views.{inputs_long, witnesses_long}

-- ---- what is named
earlier : (n : Counts) (k end : ℕ) (ws : List ℕ) → Chain k end ws → InOrder n 0 (combinations k end ws) → Earlier n k end ws
earlier n zero end ws c o = tt
earlier n (suc k) end ws c o =
    let r = in_order_split n 0 0 (combinations k (end - 1 - heading end ws) ws) (combination (end - 1 - heading end ws) (heading end ws) ws ∷ []) o in
    (subst (λ (e : ℕ). Named (up_to n e) (pairs (end - 1 - heading end ws) (heading end ws) ws)) before r.1.0, earlier n k (end - 1 - heading end ws) ws c.1 r.0)
  where
    before : 0 + places (map (combo 0) (combinations k (end - 1 - heading end ws) ws)) ≡ end - 1 - heading end ws
    before = omega (arith, combinations_used 0 k (end - 1 - heading end ws) ws c.1)

row_named : (n : Counts) (m i : ℕ) (rs ws : List ℕ) → i < m → RowsNamed n (rows m rs ws) → Named n (row_at i rs ws).a × Named n (row_at i rs ws).b × Named n (row_at i rs ws).c
row_named n zero i rs ws h o = absurd (omega arith)
row_named n (suc m) i rs ws h o =
    let r = rows_split n (rows m rs ws) (row_at m rs ws ∷ []) o in
    elim (eq-or-lt_of_le {n = i} {m = m} (omega arith)) [
      | inl e ↦ subst (λ (j : ℕ). Named n (row_at j rs ws).a × Named n (row_at j rs ws).b × Named n (row_at j rs ws).c) (sym e) r.1.0
      | inr l ↦ row_named n m i rs ws l r.0
    ]

part_named : (s : State) (part : Part) (i : ℕ) → i < s.count → Ordered s → Named (outline s) (pairs (get_or s.row_words (place part i) 0) (get_or s.row_words (place part i + 1) 0) s.term_words)
part_named s A i h o = (row_named (outline s) s.count i s.row_words s.term_words h o.rows).0
part_named s B i h o = (row_named (outline s) s.count i s.row_words s.term_words h o.rows).1
part_named s C i h o = (row_named (outline s) s.count i s.row_words s.term_words h o.rows).2

-- ---- the numbers of combinations, one after the other
evaluated_snoc : (is us : List ℕ) (done cs : List Combo) (x : Combo) → evaluated is us done (cs ++ (x ∷ [])) ≡ evaluated is us done cs ++ (record { sum = x.sum; kept = Some (x.sum.value (look is us (evaluated is us done cs))) } ∷ [])
evaluated_snoc is us done [] x = refl
evaluated_snoc is us done (c ∷ cs) x = evaluated_snoc is us (done ++ (record { sum = c.sum; kept = Some (c.sum.value (look is us done)) } ∷ [])) cs x

evaluated_places : (is us : List ℕ) (done cs : List Combo) → places (evaluated is us done cs) ≡ places done + places cs
evaluated_places is us done [] = omega arith
evaluated_places is us done (c ∷ cs) =
    let y : Combo = record { sum = c.sum; kept = Some (c.sum.value (look is us done)) } in
    omega (arith, evaluated_places is us (done ++ (y ∷ [])) cs, places_append done (y ∷ []))

-- a sum's value does not change where combinations before it keep their numbers
look_same : (is us : List ℕ) (xs ys : List Combo) (i w e c : ℕ) → ((d : ℕ) → d < e → kept_at d xs ≡ kept_at d ys) → code_in i w e c ≡ true → look is us xs (decode c) ≡ look is us ys (decode c)
look_same is us xs ys i w e c f = go (eqb (c % 8) 1) (eqb (c % 8) 2) (eqb (c % 8) 3)
  where
    go : (a b d : Bool) → cond a (ltb (c / 8) i) (cond b (ltb (c / 8) w) (cond d (ltb (c / 8) e) true)) ≡ true
        → look is us xs (cond a (Input (c / 8)) (cond b (Witness (c / 8)) (cond d (Combination (c / 8)) One))) ≡ look is us ys (cond a (Input (c / 8)) (cond b (Witness (c / 8)) (cond d (Combination (c / 8)) One)))
    go true b d h = refl
    go false true d h = refl
    go false false true h = f (c / 8) (ltb-true (c / 8) e h)
    go false false false h = refl

value_look : (p : ℕ) (n : Counts) (is us : List ℕ) (xs ys : List Combo) (ts : Pairs) → ((d : ℕ) → d < n.front → kept_at d xs ≡ kept_at d ys) → Named n ts → value p (λ c. look is us xs (decode c)) ts ≡ value p (λ c. look is us ys (decode c)) ts
value_look p n is us xs ys [] f h = refl
value_look p n is us xs ys (t ∷ ts) f h = λ i. (t.1 * look_same is us xs ys n.inputs n.witnesses n.front t.0 f h.0 i + value_look p n is us xs ys ts f h.2 i) % p

value_rem : (p : ℕ) (a : ℕ → ℕ) (ts : Pairs) → value p a ts % p ≡ value p a ts
value_rem p a [] = zero-mod p
value_rem p a (t ∷ ts) = mod-mod (t.1 * a t.0 + value p a ts) p

-- where the terms of the combination that ends at a place begin, and its terms
abbrev start : ℕ → List ℕ → ℕ
start end ws = end - 1 - heading end ws

abbrev terms : ℕ → List ℕ → Pairs
terms end ws = pairs (start end ws) (heading end ws) ws

-- the combinations up to a place, with their values
abbrev valued : ℕ → List ℕ → List ℕ → List ℕ → ℕ → ℕ → List Combo
valued p is us ws k end = evaluated is us [] (map (combo p) (combinations k end ws))

-- the value of the combination that ends at a place, behind k others
abbrev worth : ℕ → List ℕ → List ℕ → List ℕ → ℕ → ℕ → ℕ
worth p is us ws k end = value p (λ d. look is us (valued p is us ws k (start end ws)) (decode d)) (terms end ws)

valued_places : (p : ℕ) (is us ws : List ℕ) (k end : ℕ) → Chain k end ws → places (valued p is us ws k end) ≡ end
valued_places p is us ws k end c = omega (arith, evaluated_places is us [] (map (combo p) (combinations k end ws)), combinations_used p k end ws c)

valued_at : (p : ℕ) (is us ws : List ℕ) (k end c : ℕ) → Chain k (start end ws) ws → kept_at c (valued p is us ws (suc k) end) ≡ cond (ltb c (start end ws)) (kept_at c (valued p is us ws k (start end ws))) (cond (eqb (c - start end ws) (heading end ws)) (worth p is us ws k end) 0)
valued_at p is us ws k end c ch =
    ap (λ (cs : List Combo). kept_at c (evaluated is us [] cs)) (map-append (combo p) (combinations k (start end ws) ws) (combination (start end ws) (heading end ws) ws ∷ []))
    ∙ ap (kept_at c) (evaluated_snoc is us [] (map (combo p) (combinations k (start end ws) ws)) (combo p (combination (start end ws) (heading end ws) ws)))
    ∙ kept_snoc c (valued p is us ws k (start end ws)) (record { sum = plain p (terms end ws); kept = Some (worth p is us ws k end) })
    ∙ (λ i. cond (ltb c (valued_places p is us ws k (start end ws) ch i)) (kept_at c (valued p is us ws k (start end ws))) (cond (eqb (c - valued_places p is us ws k (start end ws) ch i) (length_pairs (start end ws) (heading end ws) ws i)) (worth p is us ws k end) 0))

-- so they have the values of their terms, and other places have nothing
gives : (p : ℕ) (n : Counts) (is us ws : List ℕ) (all : List Combo) (k end : ℕ) → Chain k end ws → Earlier n k end ws → ((c : ℕ) → c < end → kept_at c all ≡ kept_at c (valued p is us ws k end)) → Gives p (look is us all) k end ws
gives p n is us ws all zero end ch e g = tt
gives p n is us ws all (suc k) end ch e g = (record { worth = same; nothing = nothing }, gives p n is us ws all k (start end ws) ch.1 e.1 below)
  where
    below : (c : ℕ) → c < start end ws → kept_at c all ≡ kept_at c (valued p is us ws k (start end ws))
    below c l =
        g c (omega arith) ∙ valued_at p is us ws k end c ch.1
        ∙ ap (λ (b : Bool). cond b (kept_at c (valued p is us ws k (start end ws))) (cond (eqb (c - start end ws) (heading end ws)) (worth p is us ws k end) 0)) (lt-ltb c (start end ws) l)

    same : kept_at (end - 1) all % p ≡ value p (λ d. look is us all (decode d)) (terms end ws)
    same =
        ap (λ (x : ℕ). x % p)
        (g (end - 1) (omega (arith, ch.0)) ∙ valued_at p is us ws k end (end - 1) ch.1
        ∙ (λ i. cond (le-ltb (end - 1) (start end ws) (omega arith) i) (kept_at (end - 1) (valued p is us ws k (start end ws)))
        (cond (eq-eqb (end - 1 - start end ws) (heading end ws) (omega (arith, ch.0)) i) (worth p is us ws k end) 0)))
        ∙ value_rem p (λ d. look is us (valued p is us ws k (start end ws)) (decode d)) (terms end ws)
        ∙ sym (value_look p (up_to n (start end ws)) is us all (valued p is us ws k (start end ws)) (terms end ws) below e.0)

    nothing : (c : ℕ) → start end ws ≤ c → c < end - 1 → kept_at c all ≡ 0
    nothing c l u =
        g c (omega arith) ∙ valued_at p is us ws k end c ch.1
        ∙ (λ i. cond (le-ltb c (start end ws) l i) (kept_at c (valued p is us ws k (start end ws))) (cond (ne_eqb (c - start end ws) (heading end ws) (λ z. omega (arith, ch.0)) i) (worth p is us ws k end) 0))

-- ---- the sum of the products
sum_first : (n : ℕ) (f : ℕ → ℕ) → sum_to (suc n) f ≡ f 0 + sum_to n (λ j. f (suc j))
sum_first zero f = omega arith
sum_first (suc n) f = omega (arith, sum_first n f)

dot_sum : (qs ys : List ℕ) → length ys ≤ length qs → dot qs ys ≡ sum_to (length ys) (λ j. get_or qs j 0 * get_or ys j 0)
dot_sum [] [] h = refl
dot_sum [] (y ∷ ys) h = absurd (omega arith)
dot_sum (x ∷ qs) [] h = refl
dot_sum (x ∷ qs) (y ∷ ys) h = ap (λ (n : ℕ). x * y + n) (dot_sum qs ys (omega arith)) ∙ sym (sum_first (length ys) (λ j. get_or (x ∷ qs) j 0 * get_or (y ∷ ys) j 0))

number_at : (n : Counts) (is us : List ℕ) (xs : List Combo) (j : ℕ) → length is ≡ n.inputs → j < 1 + n.inputs + n.witnesses → look is us xs (variable_at n j) ≡ get_or (1 ∷ (is ++ us)) j 0
number_at n is us xs j e h = go (eqb j 0) (ltb (j - 1) n.inputs) (ltb (j - 1 - n.inputs) n.witnesses) refl refl refl
  where
    go : (a b d : Bool) → eqb j 0 ≡ a → ltb (j - 1) n.inputs ≡ b → ltb (j - 1 - n.inputs) n.witnesses ≡ d → look is us xs (cond a One (cond b (Input (j - 1)) (cond d (Witness (j - 1 - n.inputs)) (Combination (j - 1 - n.inputs - n.witnesses))))) ≡ get_or (1 ∷ (is ++ us)) j 0
    go true b d p q r = ap (λ (x : ℕ). get_or (1 ∷ (is ++ us)) x 0) (sym (eqb-true j 0 p))
    go false true d p q r =
        let some : j ≡ 0 → ⊥ = eqb-false j 0 p in
        let same : suc (j - 1) ≡ j = omega arith in
        sym (get_or_append_left is us 0 (j - 1) (omega (arith, ltb-true (j - 1) n.inputs q))) ∙ ap (λ (x : ℕ). get_or (1 ∷ (is ++ us)) x 0) same
    go false false true p q r =
        let some : j ≡ 0 → ⊥ = eqb-false j 0 p in
        let same : suc (j - 1) ≡ j = omega arith in
        sym (get_or-append_right is us n.inputs (j - 1) 0 e (ltb-false (j - 1) n.inputs q)) ∙ ap (λ (x : ℕ). get_or (1 ∷ (is ++ us)) x 0) same
    go false false false p q r =
        let some : j ≡ 0 → ⊥ = eqb-false j 0 p in
        let high : n.inputs ≤ j - 1 = ltb-false _ _ q in
        let higher : n.witnesses ≤ j - 1 - n.inputs = ltb-false _ _ r in
        absurd (omega arith)

-- ---- the words of a part of row i, written out
pub part_worth : (s : State) (part : Part) (i : ℕ) (qs : List ℕ) → Fit s → Ordered s → i < s.count → 1 + s.inputs + s.witnesses ≤ length qs
    → Keeps s.modulus (outline s) (get_or s.row_words (place part i) 0) (get_or s.row_words (place part i + 1) 0) s.term_words qs
    → (a : Assignment s.modulus (view s)) → (plain s.modulus (pairs (get_or s.row_words (place part i) 0) (get_or s.row_words (place part i + 1) 0) s.term_words)).value (values (view s) a) ≡ dot qs (numbers a) % s.modulus
part_worth s part i qs f o h l k a =
    k (values (view s) a) (part_named s part i h o) early (gives s.modulus (outline s) a.inputs a.witnesses s.term_words (evaluated a.inputs a.witnesses [] (view s).combos) s.lcs s.front f.chain early (λ c u. refl))
    ∙ ap (λ (n : ℕ). n % s.modulus)
    (sum_same (1 + s.inputs + s.witnesses) _ (λ j. get_or qs j 0 * get_or (numbers a) j 0) (λ j u. ap (λ (n : ℕ). get_or qs j 0 * n) (number_at (outline s) a.inputs a.witnesses (evaluated a.inputs a.witnesses [] (view s).combos) j (a.inputs_long ∙ inputs_long s) u))
    ∙ ap (λ (n : ℕ). sum_to n (λ j. get_or qs j 0 * get_or (numbers a) j 0)) (sym long)
    ∙ sym (dot_sum qs (numbers a) (omega (arith, long))))
  where
    early : Earlier (outline s) s.lcs s.front s.term_words
    early = earlier (outline s) s.lcs s.front s.term_words f.chain o.combos

    long : length (numbers a) ≡ 1 + s.inputs + s.witnesses
    long = omega (arith, length-append a.inputs a.witnesses, a.inputs_long, a.witnesses_long, inputs_long s, witnesses_long s)
