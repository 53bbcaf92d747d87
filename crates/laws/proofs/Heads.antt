-- The places of headings, as combinations are added.
use Rattle.std.proofs.Common.{◌≡◌, ℕ, ◌+◌, ◌-◌, ◌*◌, ◌/◌, ◌%◌, ◌<◌, ◌≤◌, Bool, true, false, cond, eqb, ltb, ◌⊎◌, List, [], ◌∷◌, ◌++◌, sym, refl, ap, ◌∙◌, inl, inr, ⊎_elim, arith, ltb-false, ltb-true, le-ltb, lt-ltb, eq-eqb, ne_eqb, eqb-true}
use borrow.Author.Tests.{eqb-false, clash}
use Rattle.relations.specs.declared.term.Variable.{Variable}
use Rattle.relations.specs.declared.term.Variable.TheVariants.{One, Zero, Input, Witness, Combination}
use Rattle.relations.specs.Sum.{Sum, code, decode}
use Rattle.relations.specs.Meaning.{Combo, places, is_head, number, kept_at, known}

-- the places of two lists
pub places_append : (cs xs : List Combo) → places (cs ++ xs) ≡ places cs + places xs
places_append [] xs = omega arith
places_append (c ∷ cs) xs = let h = places_append cs xs in omega arith

-- what stands at a place: in the first combination, at its heading, or behind it
abbrev Way : ℕ → ℕ → Type 0
Way c s = (c ≡ s) ⊎ (c < s) ⊎ (s < c)

-- one of the three
way : (c s : ℕ) → Way c s
way c s = go (eqb c s) (ltb c s) refl refl
  where
    go : (b d : Bool) → eqb c s ≡ b → ltb c s ≡ d → Way c s
    go true d p q = inl (eqb-true c s p)
    go false true p q = inr (inl (ltb-true c s q))
    go false false p q = inr (inr (let ne : c ≡ s → ⊥ = eqb-false c s p in let ge : s ≤ c = ltb-false c s q in omega arith))

-- the first of three at the heading
pick_at : {A : Type 0} (c s : ℕ) (x y z : A) → c ≡ s → cond (eqb c s) x (cond (ltb c s) y z) ≡ x
pick_at c s x y z e = ap (λ (b : Bool). cond b x (cond (ltb c s) y z)) (eq-eqb c s e)

-- the second inside the combination
pick_in : {A : Type 0} (c s : ℕ) (x y z : A) → c < s → cond (eqb c s) x (cond (ltb c s) y z) ≡ y
pick_in c s x y z h = (λ i. cond (ne_eqb c s (λ e. omega arith) i) x (cond (lt-ltb c s h i) y z))

-- the third behind it
pick_behind : {A : Type 0} (c s : ℕ) (x y z : A) → s < c → cond (eqb c s) x (cond (ltb c s) y z) ≡ z
pick_behind c s x y z h = (λ i. cond (ne_eqb c s (λ e. omega arith) i) x (cond (le-ltb c s (omega arith) i) y z))

-- a heading stands among the places
pub head_below : (c : ℕ) (cs : List Combo) → is_head c cs ≡ true → c < places cs
head_below c [] e = absurd (clash e)
head_below c (x ∷ xs) e = go (way c s) (head_below (c - (s + 1)) xs)
  where
    s : ℕ
    s = x.sum.size

    go : Way c x.sum.size → (is_head (c - (x.sum.size + 1)) xs ≡ true → c - (x.sum.size + 1) < places xs) → c < x.sum.size + 1 + places xs
    go (inl q) f = omega arith
    go (inr (inl q)) f = absurd (clash (sym (pick_in c x.sum.size true false (is_head (c - (x.sum.size + 1)) xs) q) ∙ e))
    go (inr (inr q)) f = let h = f (sym (pick_behind c x.sum.size true false (is_head (c - (x.sum.size + 1)) xs) q) ∙ e) in omega arith

-- a heading stays one
pub head_append : (c : ℕ) (cs xs : List Combo) → is_head c cs ≡ true → is_head c (cs ++ xs) ≡ true
head_append c [] xs e = absurd (clash e)
head_append c (x ∷ cs) xs e = go (eqb c x.sum.size) (ltb c x.sum.size) e (head_append (c - (x.sum.size + 1)) cs xs)
  where
    go : (b d : Bool) → cond b true (cond d false (is_head (c - (x.sum.size + 1)) cs)) ≡ true → (is_head (c - (x.sum.size + 1)) cs ≡ true → is_head (c - (x.sum.size + 1)) (cs ++ xs) ≡ true)
        → cond b true (cond d false (is_head (c - (x.sum.size + 1)) (cs ++ xs))) ≡ true
    go true d e f = refl
    go false true e f = e
    go false false e f = f e

-- what is kept for it stays
pub kept_append : (c : ℕ) (cs xs : List Combo) → is_head c cs ≡ true → kept_at c (cs ++ xs) ≡ kept_at c cs
kept_append c [] xs e = absurd (clash e)
kept_append c (x ∷ cs) xs e = go (eqb c x.sum.size) (ltb c x.sum.size) e (kept_append (c - (x.sum.size + 1)) cs xs)
  where
    go : (b d : Bool) → cond b true (cond d false (is_head (c - (x.sum.size + 1)) cs)) ≡ true → (is_head (c - (x.sum.size + 1)) cs ≡ true → kept_at (c - (x.sum.size + 1)) (cs ++ xs) ≡ kept_at (c - (x.sum.size + 1)) cs)
        → cond b (number x.kept) (cond d 0 (kept_at (c - (x.sum.size + 1)) (cs ++ xs))) ≡ cond b (number x.kept) (cond d 0 (kept_at (c - (x.sum.size + 1)) cs))
    go true d e f = refl
    go false true e f = refl
    go false false e f = f e

-- the heading of the newest combination
pub head_new : (cs : List Combo) (x : Combo) → is_head (places cs + x.sum.size) (cs ++ (x ∷ [])) ≡ true
head_new [] x = pick_at (0 + x.sum.size) x.sum.size true false false (omega arith)
head_new (y ∷ cs) x =
    let c = y.sum.size + 1 + places cs + x.sum.size in
    pick_behind c y.sum.size true false (is_head (c - (y.sum.size + 1)) (cs ++ (x ∷ []))) (omega arith)
    ∙ ap (λ (n : ℕ). is_head n (cs ++ (x ∷ []))) (back y.sum.size (places cs) x.sum.size) ∙ head_new cs x
  where
    back : (a b d : ℕ) → a + 1 + b + d - (a + 1) ≡ b + d
    back a b d = omega arith

-- what is kept for the newest combination
pub kept_new : (cs : List Combo) (x : Combo) → kept_at (places cs + x.sum.size) (cs ++ (x ∷ [])) ≡ number x.kept
kept_new [] x = pick_at (0 + x.sum.size) x.sum.size (number x.kept) 0 0 (omega arith)
kept_new (y ∷ cs) x =
    let c = y.sum.size + 1 + places cs + x.sum.size in
    pick_behind c y.sum.size (number y.kept) 0 (kept_at (c - (y.sum.size + 1)) (cs ++ (x ∷ []))) (omega arith)
    ∙ ap (λ (n : ℕ). kept_at n (cs ++ (x ∷ []))) (back y.sum.size (places cs) x.sum.size) ∙ kept_new cs x
  where
    back : (a b d : ℕ) → a + 1 + b + d - (a + 1) ≡ b + d
    back a b d = omega arith

-- a heading is an old one or the newest
pub head_cases : (c : ℕ) (cs : List Combo) (x : Combo) → is_head c (cs ++ (x ∷ [])) ≡ true → (is_head c cs ≡ true) ⊎ (c ≡ places cs + x.sum.size)
head_cases c [] x e = go (way c x.sum.size)
  where
    go : Way c x.sum.size → (is_head c [] ≡ true) ⊎ (c ≡ 0 + x.sum.size)
    go (inl q) = inr (omega arith)
    go (inr (inl q)) = absurd (clash (sym (pick_in c x.sum.size true false false q) ∙ e))
    go (inr (inr q)) = absurd (clash (sym (pick_behind c x.sum.size true false false q) ∙ e))
head_cases c (y ∷ cs) x e = go (way c y.sum.size) (head_cases (c - (y.sum.size + 1)) cs x)
  where
    go : Way c y.sum.size → (is_head (c - (y.sum.size + 1)) (cs ++ (x ∷ [])) ≡ true → (is_head (c - (y.sum.size + 1)) cs ≡ true) ⊎ (c - (y.sum.size + 1) ≡ places cs + x.sum.size)) → (is_head c (y ∷ cs) ≡ true) ⊎ (c ≡ y.sum.size + 1 + places cs + x.sum.size)
    go (inl q) f = inl (pick_at c y.sum.size true false (is_head (c - (y.sum.size + 1)) cs) q)
    go (inr (inl q)) f = absurd (clash (sym (pick_in c y.sum.size true false (is_head (c - (y.sum.size + 1)) (cs ++ (x ∷ []))) q) ∙ e))
    go (inr (inr q)) f = ⊎_elim
        (λ h. inl (pick_behind c y.sum.size true false (is_head (c - (y.sum.size + 1)) cs) q ∙ h)) (λ h. inr (omega arith))
        (f (sym (pick_behind c y.sum.size true false (is_head (c - (y.sum.size + 1)) (cs ++ (x ∷ []))) q) ∙ e))

-- no heading stands behind the places
pub no_head : (c : ℕ) (cs : List Combo) → places cs ≤ c → is_head c cs ≡ false
no_head c cs h = go (is_head c cs) refl
  where
    go : (b : Bool) → is_head c cs ≡ b → b ≡ false
    go true e = let lt = head_below c cs e in absurd (omega arith)
    go false e = refl

-- ---- combinations with the same sums, whatever is kept for them
abbrev pub Alike : List Combo → List Combo → Type 0
Alike [] [] = Unit {0}
Alike [] (y ∷ ys) = ⊥
Alike (x ∷ xs) [] = ⊥
Alike (x ∷ xs) (y ∷ ys) = (x.sum ≡ y.sum) × Alike xs ys

-- alike in both parts
pub alike_append : (xs ys us vs : List Combo) → Alike xs ys → Alike us vs → Alike (xs ++ us) (ys ++ vs)
alike_append [] [] us vs h k = k
alike_append [] (y ∷ ys) us vs h k = absurd h
alike_append (x ∷ xs) [] us vs h k = absurd h
alike_append (x ∷ xs) (y ∷ ys) us vs h k = (h.0, alike_append xs ys us vs h.1 k)

-- they take the same places
pub places_alike : (xs ys : List Combo) → Alike xs ys → places xs ≡ places ys
places_alike [] [] h = refl
places_alike [] (y ∷ ys) h = absurd h
places_alike (x ∷ xs) [] h = absurd h
places_alike (x ∷ xs) (y ∷ ys) h = λ i. (h.0 i).size + 1 + places_alike xs ys h.1 i

-- their headings stand at the same places
pub head_alike : (c : ℕ) (xs ys : List Combo) → Alike xs ys → is_head c xs ≡ is_head c ys
head_alike c [] [] h = refl
head_alike c [] (y ∷ ys) h = absurd h
head_alike c (x ∷ xs) [] h = absurd h
head_alike c (x ∷ xs) (y ∷ ys) h =
    ap (λ (s : Sum). cond (eqb c s.size) true (cond (ltb c s.size) false (is_head (c - (s.size + 1)) xs))) h.0
    ∙ ap (λ (b : Bool). cond (eqb c y.sum.size) true (cond (ltb c y.sum.size) false b)) (head_alike (c - (y.sum.size + 1)) xs ys h.1)

-- ---- variables
-- the same variables are there
pub known_alike : (i w : ℕ) (xs ys : List Combo) → Alike xs ys → (v : Variable) → known i w xs v ≡ known i w ys v
known_alike i w xs ys h One = refl
known_alike i w xs ys h Zero = refl
known_alike i w xs ys h (Input k) = refl
known_alike i w xs ys h (Witness k) = refl
known_alike i w xs ys h (Combination c) = head_alike c xs ys h

-- what is there stays there
pub known_more : (i w j u : ℕ) (cs xs : List Combo) → i ≤ j → w ≤ u → (v : Variable) → known i w cs v ≡ true → known j u (cs ++ xs) v ≡ true
known_more i w j u cs xs hi hw One k = refl
known_more i w j u cs xs hi hw Zero k = refl
known_more i w j u cs xs hi hw (Input n) k = lt-ltb n j (let h = ltb-true n i k in omega arith)
known_more i w j u cs xs hi hw (Witness n) k = lt-ltb n u (let h = ltb-true n w k in omega arith)
known_more i w j u cs xs hi hw (Combination c) k = head_append c cs xs k

-- ---- codes tell variables apart
-- the variable with a code, Zero too
whole : ℕ → Variable
whole c = cond (eqb c 5) Zero (decode c)

-- an input from its code
pub decode_input : (n : ℕ) → decode (8 * n + 1) ≡ Input n
decode_input n =
    let m : (8 * n + 1) % 8 ≡ 1 = omega arith in
    let d : (8 * n + 1) / 8 ≡ n = omega arith in
    λ i. cond (eq-eqb ((8 * n + 1) % 8) 1 m i) (Input (d i)) (cond (eqb ((8 * n + 1) % 8) 2) (Witness ((8 * n + 1) / 8)) (cond (eqb ((8 * n + 1) % 8) 3) (Combination ((8 * n + 1) / 8)) One))

-- a witness from its code
pub decode_witness : (n : ℕ) → decode (8 * n + 2) ≡ Witness n
decode_witness n =
    let m : (8 * n + 2) % 8 ≡ 2 = omega arith in
    let d : (8 * n + 2) / 8 ≡ n = omega arith in
    λ i. cond (ne_eqb ((8 * n + 2) % 8) 1 (λ e. omega arith) i) (Input ((8 * n + 2) / 8)) (cond (eq-eqb ((8 * n + 2) % 8) 2 m i) (Witness (d i)) (cond (eqb ((8 * n + 2) % 8) 3) (Combination ((8 * n + 2) / 8)) One))

-- a combination from its code
pub decode_combination : (n : ℕ) → decode (8 * n + 3) ≡ Combination n
decode_combination n =
    let m : (8 * n + 3) % 8 ≡ 3 = omega arith in
    let d : (8 * n + 3) / 8 ≡ n = omega arith in
    λ i. cond (ne_eqb ((8 * n + 3) % 8) 1 (λ e. omega arith) i) (Input ((8 * n + 3) / 8)) (cond (ne_eqb ((8 * n + 3) % 8) 2 (λ e. omega arith) i) (Witness ((8 * n + 3) / 8)) (cond (eq-eqb ((8 * n + 3) % 8) 3 m i) (Combination (d i)) One))

-- a variable from its code
decode_whole : (v : Variable) → whole (code v) ≡ v
unfolding whole
decode_whole One = refl
decode_whole Zero = refl
decode_whole (Input n) = ap (λ (b : Bool). cond b Zero (decode (8 * n + 1))) (ne_eqb (8 * n + 1) 5 (λ e. omega arith)) ∙ decode_input n
decode_whole (Witness n) = ap (λ (b : Bool). cond b Zero (decode (8 * n + 2))) (ne_eqb (8 * n + 2) 5 (λ e. omega arith)) ∙ decode_witness n
decode_whole (Combination n) = ap (λ (b : Bool). cond b Zero (decode (8 * n + 3))) (ne_eqb (8 * n + 3) 5 (λ e. omega arith)) ∙ decode_combination n

-- variables with one code are the same
pub code_same : (u v : Variable) → code u ≡ code v → u ≡ v
code_same u v e = sym (decode_whole u) ∙ ap whole e ∙ decode_whole v
