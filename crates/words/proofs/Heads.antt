-- The tag in its word tells whether a heading stands at a place, and the word beside it is the combination's value.
use Rattle.std.proofs.Common.{◌≡◌, ℕ, zero, suc, ◌+◌, ◌-◌, ◌*◌, ◌%◌, ◌<◌, ◌≤◌, Bool, true, false, cond, eqb, ltb, List, [], ◌∷◌, ◌++◌, map, get_or, sym, refl, ap, ◌∙◌, subst, arith, ltb-false, ltb-true, le-ltb, lt-ltb, eq-eqb, ne_eqb, true-eqb, false-eqb}
use Rattle.std.proofs.lemmas.List.{map-append}
use Rattle.relations.specs.Meaning.{Combo, places, is_head, kept_at, number}
use Rattle.words.specs.Words.{combination, combo, heading, combinations, Chain, Tagged}
use Rattle.words.proofs.Frames.{length_pairs}
use Rattle.words.proofs.Areas.{combinations_used}

-- what is found at place c: something of the combination whose heading stands there
abbrev look : {A : Type 0} → A → (Combo → A) → ℕ → List Combo → A
look d f c [] = d
look d f c (x ∷ xs) = cond (eqb c x.sum.size) (f x) (cond (ltb c x.sum.size) d (look d f (c - (x.sum.size + 1)) xs))

head_look : (c : ℕ) (xs : List Combo) → is_head c xs ≡ look false (λ x. true) c xs
head_look c [] = refl
head_look c (x ∷ xs) = ap (λ (b : Bool). cond (eqb c x.sum.size) true (cond (ltb c x.sum.size) false b)) (head_look (c - (x.sum.size + 1)) xs)

kept_look : (c : ℕ) (xs : List Combo) → kept_at c xs ≡ look 0 (λ x. number x.kept) c xs
kept_look c [] = refl
kept_look c (x ∷ xs) = ap (λ (b : ℕ). cond (eqb c x.sum.size) (number x.kept) (cond (ltb c x.sum.size) 0 b)) (kept_look (c - (x.sum.size + 1)) xs)

less : (n : ℕ) → n ≡ n - 0
less n = omega arith

look_snoc : {A : Type 0} (d : A) (f : Combo → A) (c : ℕ) (xs : List Combo) (s : Combo) → look d f c (xs ++ (s ∷ [])) ≡ cond (ltb c (places xs)) (look d f c xs) (cond (eqb (c - places xs) s.sum.size) (f s) d)
look_snoc {A} d f c [] s = one (eqb c s.sum.size) (ltb c s.sum.size) ∙ ap (λ (x : ℕ). cond (eqb x s.sum.size) (f s) d) (less c) ∙ sym (ap (λ (b : Bool). cond b d (cond (eqb (c - 0) s.sum.size) (f s) d)) (le-ltb c 0 (omega arith)))
  where
    one : (b e : Bool) → cond b (f s) (cond e d d) ≡ cond b (f s) d
    one true e = refl
    one false true = refl
    one false false = refl
look_snoc {A} d f c (x ∷ xs) s = go (eqb c x.sum.size) (ltb c x.sum.size) refl refl (look_snoc d f (c - (x.sum.size + 1)) xs s)
  where
    go : (b e : Bool) → eqb c x.sum.size ≡ b → ltb c x.sum.size ≡ e →
        look d f (c - (x.sum.size + 1)) (xs ++ (s ∷ [])) ≡ cond (ltb (c - (x.sum.size + 1)) (places xs)) (look d f (c - (x.sum.size + 1)) xs) (cond (eqb (c - (x.sum.size + 1) - places xs) s.sum.size) (f s) d) →
        cond b (f x) (cond e d (look d f (c - (x.sum.size + 1)) (xs ++ (s ∷ [])))) ≡ cond (ltb c (x.sum.size + 1 + places xs)) (cond b (f x) (cond e d (look d f (c - (x.sum.size + 1)) xs))) (cond (eqb (c - (x.sum.size + 1 + places xs)) s.sum.size) (f s) d)
    go true e p q ih = sym (ap (λ (t : Bool). cond t (f x) (cond (eqb (c - (x.sum.size + 1 + places xs)) s.sum.size) (f s) d)) (lt-ltb c _ (omega (arith, true-eqb c x.sum.size (sym p)))))
    go false true p q ih = sym (ap (λ (t : Bool). cond t d (cond (eqb (c - (x.sum.size + 1 + places xs)) s.sum.size) (f s) d)) (lt-ltb c _ (omega (arith, ltb-true c x.sum.size q))))
    go false false p q ih =
        ih ∙ (λ i. cond (same i) (look d f (c - (x.sum.size + 1)) xs) (cond (eqb (minus i) s.sum.size) (f s) d))
      where
        minus : c - (x.sum.size + 1) - places xs ≡ c - (x.sum.size + 1 + places xs)
        minus = omega arith

        same : ltb (c - (x.sum.size + 1)) (places xs) ≡ ltb c (x.sum.size + 1 + places xs)
        same = by (ltb c (x.sum.size + 1 + places xs)) refl
          where
            by : (t : Bool) → ltb c (x.sum.size + 1 + places xs) ≡ t → ltb (c - (x.sum.size + 1)) (places xs) ≡ t
            by true e = lt-ltb _ _ (omega (arith, ltb-true c _ e, ltb-false c x.sum.size q, false-eqb c x.sum.size (sym p)))
            by false e = le-ltb _ _ (omega (arith, ltb-false c _ e, ltb-false c x.sum.size q, false-eqb c x.sum.size (sym p)))

-- what is found at a place below the end, given what is found of the combination with its heading right below some end
look_test : {A : Type 0} (d : A) (f : Combo → A) (g : ℕ → A) (p k end c : ℕ) (ws : List ℕ) → ((i n : ℕ) → f (combo p (combination i n ws)) ≡ g (i + n)) → Chain k end ws → Tagged p k end ws → c < end → look d f c (map (combo p) (combinations k end ws)) ≡ cond (eqb (get_or ws (2 * c) 0 % 8) 4) (g c) d
look_test d f g p zero end c ws fg ch t h = absurd (omega arith)
look_test {A} d f g p (suc k) end c ws fg ch t h =
    ap (look d f c) (map-append (combo p) (combinations k (end - 1 - heading end ws) ws) (combination (end - 1 - heading end ws) (heading end ws) ws ∷ []))
    ∙ look_snoc d f c (map (combo p) (combinations k (end - 1 - heading end ws) ws)) (combo p (combination (end - 1 - heading end ws) (heading end ws) ws))
    ∙ (λ i. cond (ltb c (filled i)) (look d f c (map (combo p) (combinations k (end - 1 - heading end ws) ws))) (cond (eqb (c - filled i) (length_pairs (end - 1 - heading end ws) (heading end ws) ws i)) (fg (end - 1 - heading end ws) (heading end ws) i) d))
    ∙ go (ltb c (end - 1 - heading end ws)) (eqb c (end - 1)) refl refl (λ l. look_test d f g p k (end - 1 - heading end ws) c ws fg ch.1 t.1 l)
  where
    filled : places (map (combo p) (combinations k (end - 1 - heading end ws) ws)) ≡ end - 1 - heading end ws
    filled = combinations_used p k (end - 1 - heading end ws) ws ch.1

    go : (b e : Bool) → ltb c (end - 1 - heading end ws) ≡ b → eqb c (end - 1) ≡ e → (c < end - 1 - heading end ws → look d f c (map (combo p) (combinations k (end - 1 - heading end ws) ws)) ≡ cond (eqb (get_or ws (2 * c) 0 % 8) 4) (g c) d) →
        cond b (look d f c (map (combo p) (combinations k (end - 1 - heading end ws) ws))) (cond (eqb (c - (end - 1 - heading end ws)) (heading end ws)) (g (end - 1 - heading end ws + heading end ws)) d) ≡ cond (eqb (get_or ws (2 * c) 0 % 8) 4) (g c) d
    go true e lt eq ih = ih (ltb-true _ _ lt)
    go false true lt eq ih =
        let at : c ≡ end - 1 = true-eqb c (end - 1) (sym eq) in
        let here : end - 1 - heading end ws + heading end ws ≡ c = omega (arith, ch.0) in
        (λ i. cond (eq-eqb (c - (end - 1 - heading end ws)) (heading end ws) (omega (arith, ch.0)) i) (g (here i)) d)
        ∙ sym (ap (λ (b : Bool). cond b (g c) d) (eq-eqb (get_or ws (2 * c) 0 % 8) 4 (ap (λ (x : ℕ). get_or ws (2 * x) 0 % 8) at ∙ t.0.tag)))
    go false false lt eq ih =
        let ne : c ≡ end - 1 → ⊥ = false-eqb c (end - 1) (sym eq) in
        let ge : end - 1 - heading end ws ≤ c = ltb-false _ _ lt in
        ap (λ (b : Bool). cond b (g (end - 1 - heading end ws + heading end ws)) d) (ne_eqb (c - (end - 1 - heading end ws)) (heading end ws) (λ z. ne (omega (arith, ch.0))))
        ∙ sym (ap (λ (b : Bool). cond b (g c) d) (ne_eqb (get_or ws (2 * c) 0 % 8) 4 (t.0.terms c ge (omega arith))))

head_cond : (b : Bool) → cond b true false ≡ b
head_cond true = refl
head_cond false = refl

pub head_test : (p k end c : ℕ) (ws : List ℕ) → Chain k end ws → Tagged p k end ws → c < end → is_head c (map (combo p) (combinations k end ws)) ≡ eqb (get_or ws (2 * c) 0 % 8) 4
head_test p k end c ws ch t h = head_look c (map (combo p) (combinations k end ws)) ∙ look_test false (λ x. true) (λ n. true) p k end c ws (λ i n. refl) ch t h ∙ head_cond _

pub kept_test : (p k end c : ℕ) (ws : List ℕ) → Chain k end ws → Tagged p k end ws → c < end → kept_at c (map (combo p) (combinations k end ws)) ≡ cond (eqb (get_or ws (2 * c) 0 % 8) 4) (get_or ws (2 * c + 1) 0) 0
kept_test p k end c ws ch t h = kept_look c (map (combo p) (combinations k end ws)) ∙ look_test 0 (λ x. number x.kept) (λ n. get_or ws (2 * n + 1) 0) p k end c ws (λ i n. refl) ch t h

-- the value beside the heading at a place, where one combination stands behind others
pub kept_snoc : (c : ℕ) (xs : List Combo) (s : Combo) → kept_at c (xs ++ (s ∷ [])) ≡ cond (ltb c (places xs)) (kept_at c xs) (cond (eqb (c - places xs) s.sum.size) (number s.kept) 0)
kept_snoc c xs s =
    kept_look c (xs ++ (s ∷ [])) ∙ look_snoc 0 (λ x. number x.kept) c xs s
    ∙ ap (λ (n : ℕ). cond (ltb c (places xs)) n (cond (eqb (c - places xs) s.sum.size) (number s.kept) 0)) (sym (kept_look c xs))

-- a heading stands below the end
pub head_under : (c : ℕ) (xs : List Combo) → is_head c xs ≡ true → c < places xs
head_under c [] e = let z : ◌≡◌ {A = ℕ} 0 1 = cc in absurd (omega arith)
head_under c (x ∷ xs) e = go (eqb c x.sum.size) (ltb c x.sum.size) refl refl e (head_under (c - (x.sum.size + 1)) xs)
  where
    go : (b d : Bool) → eqb c x.sum.size ≡ b → ltb c x.sum.size ≡ d → cond b true (cond d false (is_head (c - (x.sum.size + 1)) xs)) ≡ true → (is_head (c - (x.sum.size + 1)) xs ≡ true → c - (x.sum.size + 1) < places xs) → c < x.sum.size + 1 + places xs
    go true d q l e ih = omega (arith, true-eqb c x.sum.size (sym q))
    go false true q l e ih = let z : ◌≡◌ {A = ℕ} 0 1 = cc in absurd (omega arith)
    go false false q l e ih = omega (arith, ih e)

pub head_far : (p k end c : ℕ) (ws : List ℕ) → Chain k end ws → end ≤ c → is_head c (map (combo p) (combinations k end ws)) ≡ false
head_far p k end c ws ch h = go (is_head c (map (combo p) (combinations k end ws))) refl
  where
    go : (b : Bool) → is_head c (map (combo p) (combinations k end ws)) ≡ b → is_head c (map (combo p) (combinations k end ws)) ≡ false
    go true e = absurd (omega (arith, head_under c (map (combo p) (combinations k end ws)) e, combinations_used p k end ws ch))
    go false e = e

-- the value beside a heading is below p
pub head_below : (p k end c : ℕ) (ws : List ℕ) → Chain k end ws → Tagged p k end ws → c < end → get_or ws (2 * c) 0 % 8 ≡ 4 → get_or ws (2 * c + 1) 0 < p
head_below p zero end c ws ch t h e = absurd (omega arith)
head_below p (suc k) end c ws ch t h e = go (ltb c (end - 1 - heading end ws)) (eqb c (end - 1)) refl refl (λ l. head_below p k (end - 1 - heading end ws) c ws ch.1 t.1 l e)
  where
    go : (a b : Bool) → ltb c (end - 1 - heading end ws) ≡ a → eqb c (end - 1) ≡ b → (c < end - 1 - heading end ws → get_or ws (2 * c + 1) 0 < p) → get_or ws (2 * c + 1) 0 < p
    go true b lt eq ih = ih (ltb-true _ _ lt)
    go false true lt eq ih = subst (λ (x : ℕ). get_or ws (2 * x + 1) 0 < p) (sym (true-eqb c (end - 1) (sym eq))) t.0.word
    go false false lt eq ih =
        let ne : c ≡ end - 1 → ⊥ = false-eqb c (end - 1) (sym eq) in
        absurd (t.0.terms c (ltb-false _ _ lt) (omega arith) e)
