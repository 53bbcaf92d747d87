-- Reading lists from their ends, and cutting them.
use Rattle.std.proofs.Common.{◌≡◌, ℕ, zero, suc, ◌+◌, ◌-◌, ◌*◌, ◌/◌, ◌%◌, ◌<◌, ◌≤◌, Bool, true, false, cond, ◌&&◌, eqb, ltb, List, [], ◌∷◌, ◌++◌, map, get_or, take, sym, refl, ap, ◌∙◌, subst, inl, inr, eq-or-lt_of_le, arith, ltb-true, lt-ltb, add-one, Option, None, Some, MatchOption}
use Rattle.std.proofs.Math.Bool.{and-true, and-false, and_assoc}
use Rattle.std.proofs.lemmas.Bool.{and_parts}
use Rattle.std.proofs.lemmas.List.{take-append-le, take_all}
use Rattle.relations.specs.Sum.{Pairs, code_in, all_in}
use Rattle.relations.specs.Meaning.{combos_within, rows_within}
use Rattle.words.specs.Words.{Kept, combination, combo, heading, combinations, Chain, Tagged, TakenOff, Triple, row_at, rows, floor, Stack, meant, lists_in, triple_in, triples_in}
use Rattle.words.proofs.Areas.{combinations_length, rows_length, floor_below}

-- the test of a list by its last
pub all_in_append : (ni nw ne : ℕ) (xs ys : Pairs) → all_in ni nw ne (xs ++ ys) ≡ all_in ni nw ne xs && all_in ni nw ne ys
all_in_append ni nw ne [] ys = refl
all_in_append ni nw ne (x ∷ xs) ys = ap (λ (b : Bool). code_in ni nw ne x.0 && b) (all_in_append ni nw ne xs ys) ∙ sym (and_assoc (code_in ni nw ne x.0) (all_in ni nw ne xs) (all_in ni nw ne ys))

pub lists_in_append : (ni nw ne : ℕ) (xs ys : List Kept) → lists_in ni nw ne (xs ++ ys) ≡ lists_in ni nw ne xs && lists_in ni nw ne ys
lists_in_append ni nw ne [] ys = refl
lists_in_append ni nw ne (x ∷ xs) ys = ap (λ (b : Bool). all_in ni nw ne x.terms && b) (lists_in_append ni nw ne xs ys) ∙ sym (and_assoc (all_in ni nw ne x.terms) (lists_in ni nw ne xs) (lists_in ni nw ne ys))

pub triples_in_append : (ni nw ne : ℕ) (xs ys : List Triple) → triples_in ni nw ne (xs ++ ys) ≡ triples_in ni nw ne xs && triples_in ni nw ne ys
triples_in_append ni nw ne [] ys = refl
triples_in_append ni nw ne (x ∷ xs) ys = ap (λ (b : Bool). triple_in ni nw ne x && b) (triples_in_append ni nw ne xs ys) ∙ sym (and_assoc (triple_in ni nw ne x) (triples_in ni nw ne xs) (triples_in ni nw ne ys))

less : (k : ℕ) → suc k - 1 ≡ k
less k = omega arith

-- combinations
pub record Last (k end : ℕ) (ws : List ℕ) : Type 0 where
  pub some : 0 < end
  pub long : heading end ws + 1 ≤ end
  pub chain : Chain (k - 1) (end - 1 - heading end ws) ws
  pub split : combinations k end ws ≡ combinations (k - 1) (end - 1 - heading end ws) ws ++ (combination (end - 1 - heading end ws) (heading end ws) ws ∷ [])

pub last : (k end : ℕ) (ws : List ℕ) → 0 < k → Chain k end ws → Last k end ws
last zero end ws h c = absurd (omega arith)
last (suc k) end ws h c = record {
  some = omega (arith, c.0);
  long = c.0;
  chain = subst (λ (x : ℕ). Chain x (end - 1 - heading end ws) ws) (sym (less k)) c.1;
  split = ap (λ (x : ℕ). combinations x (end - 1 - heading end ws) ws ++ (combination (end - 1 - heading end ws) (heading end ws) ws ∷ [])) (sym (less k));
}

pub take_down : (k left end : ℕ) (ws : List ℕ) (xs : List Kept) → k < left → Chain left end ws → xs ≡ take k (combinations left end ws) → xs ≡ take k (combinations (left - 1) (end - 1 - heading end ws) ws)
take_down k left end ws xs h c e =
    e ∙ ap (take k) (last left end ws (omega arith) c).split
    ∙ take-append-le k (combinations (left - 1) (end - 1 - heading end ws) ws) _ (omega (arith, combinations_length (left - 1) (end - 1 - heading end ws) ws))

pub take_here : (k left end : ℕ) (ws : List ℕ) (xs : List Kept) → k ≡ left → xs ≡ take k (combinations left end ws) → xs ≡ combinations k end ws
take_here k left end ws xs q e = e ∙ ap (λ (x : ℕ). take k (combinations x end ws)) (sym q) ∙ take_all k (combinations k end ws) (omega (arith, combinations_length k end ws))

taken_lists : (ni nw ne left end : ℕ) (ws : List ℕ) (left' end' : ℕ) (ws' : List ℕ) (place : ℕ) (ts : Pairs) → Chain left end ws → TakenOff left end ws left' end' ws' place ts → lists_in ni nw ne (combinations left end ws) ≡ lists_in ni nw ne (combinations left' end' ws') && all_in ni nw ne ts
taken_lists ni nw ne left end ws left' end' ws' place ts c t =
    ap (lists_in ni nw ne) (last left end ws t.some c).split
    ∙ lists_in_append ni nw ne (combinations (left - 1) (end - 1 - heading end ws) ws) (combination (end - 1 - heading end ws) (heading end ws) ws ∷ [])
    ∙ (λ i. lists_in ni nw ne (combinations (sym t.fewer i) (sym t.lower i) (sym t.same i)) && (and-true _ ∙ ap (all_in ni nw ne) (sym t.terms)) i)

pub lists_kept : (ni nw ne left end : ℕ) (ws : List ℕ) (left' end' : ℕ) (ws' : List ℕ) (place : ℕ) (ts : Pairs) (b : Bool) → Chain left end ws → TakenOff left end ws left' end' ws' place ts → true ≡ all_in ni nw ne ts → lists_in ni nw ne (combinations left end ws) ≡ b → lists_in ni nw ne (combinations left' end' ws') ≡ b
lists_kept ni nw ne left end ws left' end' ws' place ts b c t h inv =
    sym (taken_lists ni nw ne left end ws left' end' ws' place ts c t ∙ ap (λ (x : Bool). lists_in ni nw ne (combinations left' end' ws') && x) (sym h) ∙ and-true _) ∙ inv

pub lists_fail : (ni nw ne left end : ℕ) (ws : List ℕ) (left' end' : ℕ) (ws' : List ℕ) (place : ℕ) (ts : Pairs) (b : Bool) → Chain left end ws → TakenOff left end ws left' end' ws' place ts → false ≡ all_in ni nw ne ts → lists_in ni nw ne (combinations left end ws) ≡ b → false ≡ b
lists_fail ni nw ne left end ws left' end' ws' place ts b c t h inv =
    sym (taken_lists ni nw ne left end ws left' end' ws' place ts c t ∙ ap (λ (x : Bool). lists_in ni nw ne (combinations left' end' ws') && x) (sym h) ∙ and-false _) ∙ inv

-- rows
pub rows_last : (ni nw ne r : ℕ) (rs ws : List ℕ) → triples_in ni nw ne (rows (suc r) rs ws) ≡ triples_in ni nw ne (rows r rs ws) && triple_in ni nw ne (row_at r rs ws)
rows_last ni nw ne r rs ws = triples_in_append ni nw ne (rows r rs ws) (row_at r rs ws ∷ []) ∙ ap (λ (b : Bool). triples_in ni nw ne (rows r rs ws) && b) (and-true _)

pub rows_take : (r n : ℕ) (rs ws : List ℕ) → r ≤ n → take r (rows n rs ws) ≡ rows r rs ws
rows_take r zero rs ws h = subst (λ (x : ℕ). take x (rows 0 rs ws) ≡ rows x rs ws) none refl
  where
    none : 0 ≡ r
    none = omega arith
rows_take r (suc n) rs ws h =
    elim (eq-or-lt_of_le {n = r} {m = suc n} h) [
      | inl e ↦ ap (λ (x : ℕ). take x (rows (suc n) rs ws)) e ∙ take_all (suc n) (rows (suc n) rs ws) (omega (arith, rows_length (suc n) rs ws)) ∙ ap (λ (x : ℕ). rows x rs ws) (sym e)
      | inr g ↦ take-append-le r (rows n rs ws) (row_at n rs ws ∷ []) (omega (arith, rows_length n rs ws)) ∙ rows_take r n rs ws (omega arith)
    ]

pub stack_take : (top r n : ℕ) (rs : List ℕ) → r ≤ n → Stack top n rs → Stack top r rs
stack_take top r zero rs h s = subst (λ (x : ℕ). Stack top x rs) none tt
  where
    none : 0 ≡ r
    none = omega arith
stack_take top r (suc n) rs h s =
    elim (eq-or-lt_of_le {n = r} {m = suc n} h) [
      | inl e ↦ subst (λ (x : ℕ). Stack top x rs) (sym e) s
      | inr g ↦ stack_take top r n rs (omega arith) s.1
    ]

pub floor_take : (top r n : ℕ) (rs : List ℕ) → r ≤ n → Stack top n rs → floor top n rs ≤ floor top r rs
floor_take top r zero rs h s = subst (λ (x : ℕ). top ≤ floor top x rs) none (omega arith)
  where
    none : 0 ≡ r
    none = omega arith
floor_take top r (suc n) rs h s =
    elim (eq-or-lt_of_le {n = r} {m = suc n} h) [
      | inl e ↦ subst (λ (x : ℕ). floor top (suc n) rs ≤ floor top x rs) (sym e) (omega arith)
      | inr g ↦ omega (arith, floor_take top r n rs (omega arith) s.1, s.0.a, s.0.b, s.0.c)
    ]

-- a row of the stack lies below the top
pub record Lies (top i : ℕ) (rs : List ℕ) : Type 0 where
  pub a : get_or rs (6 * i) 0 + get_or rs (6 * i + 1) 0 ≤ top
  pub b : get_or rs (6 * i + 2) 0 + get_or rs (6 * i + 2 + 1) 0 ≤ top
  pub c : get_or rs (6 * i + 4) 0 + get_or rs (6 * i + 4 + 1) 0 ≤ top

pub lies : (top i n : ℕ) (rs : List ℕ) → i < n → Stack top n rs → Lies top i rs
lies top i n rs h s =
    let k : Stack top (suc i) rs = stack_take top (suc i) n rs (omega arith) s in
    record { a = omega (arith, k.0.a, floor_below top i rs k.1); b = omega (arith, k.0.a, k.0.b, floor_below top i rs k.1); c = omega (arith, k.0.a, k.0.b, k.0.c, floor_below top i rs k.1) }

-- one combination down, with the length that was read
pub record CutTo (k lcs left end front : ℕ) (ws : List ℕ) : Type 0 where
  pub more : k ≤ left
  pub low : end ≤ front
  pub chain : Chain left end ws
  pub cut : take k (combinations lcs front ws) ≡ take k (combinations left end ws)
  pub tagged : (p : ℕ) → Tagged p lcs front ws → Tagged p left end ws

tagged_down : (p k end : ℕ) (ws : List ℕ) → 0 < k → Tagged p k end ws → Tagged p (k - 1) (end - 1 - heading end ws) ws
tagged_down p zero end ws h t = absurd (omega arith)
tagged_down p (suc k) end ws h t = subst (λ (x : ℕ). Tagged p x (end - 1 - heading end ws) ws) (sym (less k)) t.1

pub take_step : {A B : Type 0} (k lcs left end front left' end' : ℕ) (ws vs ws' : List ℕ) (r : Option A) (b b' : B) (at : A → ℕ) (ts : A → Pairs) → k < left → ws ≡ vs → MatchOption r ((left ≡ 0) × (b' ≡ b)) (λ x. TakenOff left end ws left' end' ws' (at x) (ts x)) → CutTo k lcs left end front vs → (ws' ≡ vs) × CutTo k lcs left' end' front vs
take_step k lcs left end front left' end' ws vs ws' None b b' at ts h q m inv = absurd (omega (arith, m.0))
take_step k lcs left end front left' end' ws vs ws' (Some x) b b' at ts h q m inv = (m.same ∙ q, down)
  where
    lower : end - 1 - heading end vs ≡ end'
    lower = ap (λ (us : List ℕ). end - 1 - heading end us) (sym q) ∙ sym m.lower

    down : CutTo k lcs left' end' front vs
    down = subst (λ (y : ℕ). CutTo k lcs y end' front vs) (sym m.fewer) (subst (λ (y : ℕ). CutTo k lcs (left - 1) y front vs) lower record {
      more = omega arith;
      low = omega (arith, inv.low);
      chain = (last left end vs (omega arith) inv.chain).chain;
      cut = take_down k left end vs _ h inv.chain inv.cut;
      tagged = λ p t. tagged_down p left end vs (omega arith) (inv.tagged p t);
    })

-- the meaning's tests are those of the stored lists
pub combos_are : (p ni nw ne : ℕ) (xs : List Kept) → combos_within ni nw ne (map (combo p) xs) ≡ lists_in ni nw ne xs
combos_are p ni nw ne [] = refl
combos_are p ni nw ne (x ∷ xs) = ap (λ (b : Bool). all_in ni nw ne x.terms && b) (combos_are p ni nw ne xs)

pub rows_are : (p ni nw ne : ℕ) (xs : List Triple) → rows_within ni nw ne (map (meant p) xs) ≡ triples_in ni nw ne xs
rows_are p ni nw ne [] = refl
rows_are p ni nw ne (x ∷ xs) = ap (λ (b : Bool). triple_in ni nw ne x && b) (rows_are p ni nw ne xs)

-- each term of a list that is in is in
pub row_each : (ni nw ne n j : ℕ) (rs ws : List ℕ) → j < n → triples_in ni nw ne (rows n rs ws) ≡ true → triple_in ni nw ne (row_at j rs ws) ≡ true
row_each ni nw ne zero j rs ws h e = absurd (omega arith)
row_each ni nw ne (suc n) j rs ws h e =
    let q : (triples_in ni nw ne (rows n rs ws) ≡ true) × (triple_in ni nw ne (row_at n rs ws) ≡ true) = and_parts _ _ (sym (rows_last ni nw ne n rs ws) ∙ e) in
    elim (eq-or-lt_of_le {n = j} {m = n} (omega arith)) [
      | inl f ↦ ap (λ (x : ℕ). triple_in ni nw ne (row_at x rs ws)) f ∙ q.1
      | inr g ↦ row_each ni nw ne n j rs ws g q.0
    ]

-- the first rows, from the first on
pub rows_more : (ni nw ne i : ℕ) (rs ws : List ℕ) (t : Triple) → t ≡ row_at i rs ws → true ≡ triple_in ni nw ne t → triples_in ni nw ne (rows i rs ws) ≡ true → triples_in ni nw ne (rows (i + 1) rs ws) ≡ true
rows_more ni nw ne i rs ws t e h inv =
    ap (λ (x : ℕ). triples_in ni nw ne (rows x rs ws)) (add-one i)
    ∙ rows_last ni nw ne i rs ws
    ∙ (λ j. inv j && (ap (triple_in ni nw ne) (sym e) ∙ sym h) j)

pub rows_stop : (ni nw ne i r : ℕ) (rs ws : List ℕ) (t : Triple) → i < r → t ≡ row_at i rs ws → false ≡ triple_in ni nw ne t → false ≡ triples_in ni nw ne (rows r rs ws)
rows_stop ni nw ne i r rs ws t h e f = go (triples_in ni nw ne (rows r rs ws)) (λ q. f ∙ ap (triple_in ni nw ne) e ∙ row_each ni nw ne r i rs ws h q)
  where
    go : (b : Bool) → (b ≡ true → false ≡ true) → false ≡ b
    go false g = refl
    go true g = g refl

-- and from the last on
pub rows_kept : (ni nw ne i : ℕ) (rs ws : List ℕ) (t : Triple) (b : Bool) → 0 < i → t ≡ row_at (i - 1) rs ws → true ≡ triple_in ni nw ne t → triples_in ni nw ne (rows i rs ws) ≡ b → triples_in ni nw ne (rows (i - 1) rs ws) ≡ b
rows_kept ni nw ne i rs ws t b h e f inv =
    let q : suc (i - 1) ≡ i = omega arith in
    sym (and-true _) ∙ ap (λ (x : Bool). triples_in ni nw ne (rows (i - 1) rs ws) && x) (f ∙ ap (triple_in ni nw ne) e) ∙ sym (rows_last ni nw ne (i - 1) rs ws) ∙ ap (λ (x : ℕ). triples_in ni nw ne (rows x rs ws)) q ∙ inv

pub rows_fail : (ni nw ne i : ℕ) (rs ws : List ℕ) (t : Triple) (b : Bool) → 0 < i → t ≡ row_at (i - 1) rs ws → false ≡ triple_in ni nw ne t → triples_in ni nw ne (rows i rs ws) ≡ b → false ≡ b
rows_fail ni nw ne i rs ws t b h e f inv =
    let q : suc (i - 1) ≡ i = omega arith in
    sym (and-false _) ∙ ap (λ (x : Bool). triples_in ni nw ne (rows (i - 1) rs ws) && x) (f ∙ ap (triple_in ni nw ne) e) ∙ sym (rows_last ni nw ne (i - 1) rs ws) ∙ ap (λ (x : ℕ). triples_in ni nw ne (rows x rs ws)) q ∙ inv

pub triple_each : (ni nw ne : ℕ) (t : Triple) → triple_in ni nw ne t ≡ true → (all_in ni nw ne t.a ≡ true) × (all_in ni nw ne t.b ≡ true) × (all_in ni nw ne t.c ≡ true)
triple_each ni nw ne t e = let x = and_parts _ _ e in let y = and_parts _ _ x.1 in (x.0, y.0, y.1)

-- what names only some names only more
pub code_in_more : (i w e i' w' e' c : ℕ) → i ≤ i' → w ≤ w' → e ≤ e' → code_in i w e c ≡ true → code_in i' w' e' c ≡ true
code_in_more i w e i' w' e' c a b d h = go (eqb (c % 8) 1) (eqb (c % 8) 2) (eqb (c % 8) 3) h
  where
    go : (x y z : Bool) → cond x (ltb (c / 8) i) (cond y (ltb (c / 8) w) (cond z (ltb (c / 8) e) true)) ≡ true → cond x (ltb (c / 8) i') (cond y (ltb (c / 8) w') (cond z (ltb (c / 8) e') true)) ≡ true
    go true y z q = lt-ltb _ _ (omega (arith, ltb-true (c / 8) i q))
    go false true z q = lt-ltb _ _ (omega (arith, ltb-true (c / 8) w q))
    go false false true q = lt-ltb _ _ (omega (arith, ltb-true (c / 8) e q))
    go false false false q = refl

pub all_in_more : (i w e i' w' e' : ℕ) (xs : Pairs) → i ≤ i' → w ≤ w' → e ≤ e' → all_in i w e xs ≡ true → all_in i' w' e' xs ≡ true
all_in_more i w e i' w' e' [] a b d h = refl
all_in_more i w e i' w' e' (x ∷ xs) a b d h = λ j. code_in_more i w e i' w' e' x.0 a b d (and_parts _ _ h).0 j && all_in_more i w e i' w' e' xs a b d (and_parts _ _ h).1 j

pub lists_in_more : (i w e i' w' e' : ℕ) (xs : List Kept) → i ≤ i' → w ≤ w' → e ≤ e' → lists_in i w e xs ≡ true → lists_in i' w' e' xs ≡ true
lists_in_more i w e i' w' e' [] a b d h = refl
lists_in_more i w e i' w' e' (x ∷ xs) a b d h = λ j. all_in_more i w e i' w' e' x.terms a b d (and_parts _ _ h).0 j && lists_in_more i w e i' w' e' xs a b d (and_parts _ _ h).1 j

triple_in_more : (i w e i' w' e' : ℕ) (t : Triple) → i ≤ i' → w ≤ w' → e ≤ e' → triple_in i w e t ≡ true → triple_in i' w' e' t ≡ true
triple_in_more i w e i' w' e' t a b d h =
    let x = triple_each i w e t h in
    λ j. all_in_more i w e i' w' e' t.a a b d x.0 j && (all_in_more i w e i' w' e' t.b a b d x.1 j && all_in_more i w e i' w' e' t.c a b d x.2 j)

pub triples_in_more : (i w e i' w' e' : ℕ) (xs : List Triple) → i ≤ i' → w ≤ w' → e ≤ e' → triples_in i w e xs ≡ true → triples_in i' w' e' xs ≡ true
triples_in_more i w e i' w' e' [] a b d h = refl
triples_in_more i w e i' w' e' (x ∷ xs) a b d h = λ j. triple_in_more i w e i' w' e' x a b d (and_parts _ _ h).0 j && triples_in_more i w e i' w' e' xs a b d (and_parts _ _ h).1 j
