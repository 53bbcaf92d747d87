-- Combinations from the front and rows from the back, and what writes elsewhere leave.
use Rattle.std.proofs.Common.{◌≡◌, ℕ, zero, suc, ◌+◌, ◌-◌, ◌*◌, ◌/◌, ◌%◌, ◌<◌, ◌≤◌, List, [], ◌∷◌, ◌++◌, map, length, get_or, sym, refl, ap, ◌∙◌, subst, add-one, arith, length-append}
use Rattle.std.proofs.lemmas.List.{map-append}
use Rattle.relations.specs.Sum.{Row}
use Rattle.relations.specs.Meaning.{Combo, places, rows_use}
use Rattle.words.specs.Words.{Same, pairs, combination, combo, heading, combinations, Chain, Head, Tagged, part, row_at, rows, Placed, floor, Stack, meant}
use Rattle.words.proofs.Frames.{pairs_same, length_pairs}

-- combinations
heading_same : (end : ℕ) (ws vs : List ℕ) → 0 < end → Same 0 (2 * end) ws vs → heading end ws ≡ heading end vs
heading_same end ws vs h s = ap (λ (x : ℕ). x / 8) (s (2 * (end - 1)) (omega arith) (omega arith))

pub chain_same : (k end : ℕ) (ws vs : List ℕ) → Same 0 (2 * end) ws vs → Chain k end ws → Chain k end vs
chain_same zero end ws vs s c = c
chain_same (suc k) end ws vs s c =
    subst (λ (h : ℕ). (h + 1 ≤ end) × Chain k (end - 1 - h) vs) (heading_same end ws vs (omega (arith, c.0)) s)
    (c.0, chain_same k (end - 1 - heading end ws) ws vs (λ j l u. s j l (omega arith)) c.1)

combination_same : (i n : ℕ) (ws vs : List ℕ) → Same (2 * i) (2 * (i + n) + 2) ws vs → combination i n ws ≡ combination i n vs
combination_same i n ws vs s = λ t. record { terms = pairs_same i n ws vs (λ j l u. s j l (omega arith)) t; word = s (2 * (i + n) + 1) (omega arith) (omega arith) t }

pub combinations_same : (k end : ℕ) (ws vs : List ℕ) → Same 0 (2 * end) ws vs → Chain k end ws → combinations k end ws ≡ combinations k end vs
combinations_same zero end ws vs s c = refl
combinations_same (suc k) end ws vs s c =
    (λ i. combinations_same k (end - 1 - heading end ws) ws vs (λ j l u. s j l (omega arith)) c.1 i
    ++ (combination_same (end - 1 - heading end ws) (heading end ws) ws vs (λ j l u. s j (omega arith) (omega (arith, c.0))) i ∷ []))
    ∙ ap (λ (h : ℕ). combinations k (end - 1 - h) vs ++ (combination (end - 1 - h) h vs ∷ [])) (heading_same end ws vs (omega (arith, c.0)) s)

pub combinations_more : (k end n : ℕ) (ws : List ℕ) → get_or ws (2 * (end + n)) 0 ≡ 8 * n + 4 → combinations (k + 1) (end + n + 1) ws ≡ combinations k end ws ++ (combination end n ws ∷ [])
combinations_more k end n ws e =
    ap (λ (m : ℕ). combinations m (end + n + 1) ws) (add-one k)
    ∙ ap (λ (h : ℕ). combinations k (end + n + 1 - 1 - h) ws ++ (combination (end + n + 1 - 1 - h) h ws ∷ [])) long
    ∙ ap (λ (x : ℕ). combinations k x ws ++ (combination x n ws ∷ [])) back
  where
    place : 2 * (end + n + 1 - 1) ≡ 2 * (end + n)
    place = omega arith

    long : heading (end + n + 1) ws ≡ n
    long = ap (λ (x : ℕ). get_or ws x 0 / 8) place ∙ ap (λ (x : ℕ). x / 8) e ∙ eighth n
      where
        eighth : (m : ℕ) → (8 * m + 4) / 8 ≡ m
        eighth m = omega arith

    back : end + n + 1 - 1 - n ≡ end
    back = omega arith

pub chain_more : (k end n : ℕ) (ws : List ℕ) → get_or ws (2 * (end + n)) 0 ≡ 8 * n + 4 → Chain k end ws → Chain (k + 1) (end + n + 1) ws
chain_more k end n ws e c =
    subst (λ (m : ℕ). Chain m (end + n + 1) ws) (sym (add-one k))
    (subst (λ (h : ℕ). (h + 1 ≤ end + n + 1) × Chain k (end + n + 1 - 1 - h) ws) (sym long)
    (omega arith, subst (λ (x : ℕ). Chain k x ws) (sym back) c))
  where
    place : 2 * (end + n + 1 - 1) ≡ 2 * (end + n)
    place = omega arith

    long : heading (end + n + 1) ws ≡ n
    long = ap (λ (x : ℕ). get_or ws x 0 / 8) place ∙ ap (λ (x : ℕ). x / 8) e ∙ eighth n
      where
        eighth : (m : ℕ) → (8 * m + 4) / 8 ≡ m
        eighth m = omega arith

    back : end + n + 1 - 1 - n ≡ end
    back = omega arith

pub places_append : (a b : List Combo) → places (a ++ b) ≡ places a + places b
places_append [] b = omega arith
places_append (x ∷ a) b = omega (arith, places_append a b)

pub combinations_used : (p k end : ℕ) (ws : List ℕ) → Chain k end ws → places (map (combo p) (combinations k end ws)) ≡ end
combinations_used p zero end ws c = sym c
combinations_used p (suc k) end ws c =
    ap places (map-append (combo p) (combinations k (end - 1 - heading end ws) ws) (combination (end - 1 - heading end ws) (heading end ws) ws ∷ []))
    ∙ places_append (map (combo p) (combinations k (end - 1 - heading end ws) ws)) (combo p (combination (end - 1 - heading end ws) (heading end ws) ws) ∷ [])
    ∙ omega (arith, combinations_used p k (end - 1 - heading end ws) ws c.1, length_pairs (end - 1 - heading end ws) (heading end ws) ws, c.0)

-- headings
head_same : (p end : ℕ) (ws vs : List ℕ) → heading end ws + 1 ≤ end → Same 0 (2 * end) ws vs → Head p end ws → Head p end vs
head_same p end ws vs h s x =
    let long : heading end ws ≡ heading end vs = heading_same end ws vs (omega arith) s in
    record {
      tag = ap (λ (y : ℕ). y % 8) (sym (s (2 * (end - 1)) (omega arith) (omega arith))) ∙ x.tag;
      terms = λ j l u e. x.terms j (omega arith) u (ap (λ (y : ℕ). y % 8) (s (2 * j) (omega arith) (omega arith)) ∙ e);
      word = subst (λ (y : ℕ). y < p) (s (2 * (end - 1) + 1) (omega arith) (omega arith)) x.word;
    }

pub tagged_same : (p k end : ℕ) (ws vs : List ℕ) → Same 0 (2 * end) ws vs → Chain k end ws → Tagged p k end ws → Tagged p k end vs
tagged_same p zero end ws vs s c t = tt
tagged_same p (suc k) end ws vs s c t = (
  head_same p end ws vs c.0 s t.0,
  subst (λ (h : ℕ). Tagged p k (end - 1 - h) vs) (heading_same end ws vs (omega (arith, c.0)) s)
      (tagged_same p k (end - 1 - heading end ws) ws vs (λ j l u. s j l (omega arith)) c.1 t.1),
)

pub tagged_more : (p k end n : ℕ) (ws : List ℕ) → get_or ws (2 * (end + n)) 0 ≡ 8 * n + 4 → get_or ws (2 * (end + n) + 1) 0 < p → ((j : ℕ) → end ≤ j → j < end + n → get_or ws (2 * j) 0 % 8 ≡ 4 → ⊥) → Tagged p k end ws → Tagged p (k + 1) (end + n + 1) ws
tagged_more p k end n ws e w f t =
    subst (λ (m : ℕ). Tagged p m (end + n + 1) ws) (sym (add-one k)) (
      record {
        tag = ap (λ (x : ℕ). get_or ws x 0 % 8) place ∙ ap (λ (x : ℕ). x % 8) e ∙ four n;
        terms = λ j l u. f j (omega (arith, long)) (omega arith);
        word = subst (λ (x : ℕ). get_or ws (x + 1) 0 < p) (sym place) w;
      },
      subst (λ (x : ℕ). Tagged p k x ws) (sym back) t,
    )
  where
    place : 2 * (end + n + 1 - 1) ≡ 2 * (end + n)
    place = omega arith

    four : (m : ℕ) → (8 * m + 4) % 8 ≡ 4
    four m = omega arith

    long : heading (end + n + 1) ws ≡ n
    long = ap (λ (x : ℕ). get_or ws x 0 / 8) place ∙ ap (λ (x : ℕ). x / 8) e ∙ eighth n
      where
        eighth : (m : ℕ) → (8 * m + 4) / 8 ≡ m
        eighth m = omega arith

    back : end + n + 1 - 1 - heading (end + n + 1) ws ≡ end
    back = omega (arith, long)

pub chain_count : (k end : ℕ) (ws : List ℕ) → Chain k end ws → k ≤ end
chain_count zero end ws c = omega arith
chain_count (suc k) end ws c = omega (arith, chain_count k (end - 1 - heading end ws) ws c.1, c.0)

pub combinations_length : (k end : ℕ) (ws : List ℕ) → length (combinations k end ws) ≡ k
combinations_length zero end ws = refl
combinations_length (suc k) end ws = simp length-append (omega (arith, combinations_length k (end - 1 - heading end ws) ws))

-- rows
pub floor_below : (top n : ℕ) (rs : List ℕ) → Stack top n rs → floor top n rs ≤ top
floor_below top zero rs s = omega arith
floor_below top (suc n) rs s = omega (arith, floor_below top n rs s.1, s.0.a, s.0.b, s.0.c)

pub floor_same : (top n : ℕ) (rs qs : List ℕ) → Same 0 (6 * n) rs qs → floor top n rs ≡ floor top n qs
floor_same top zero rs qs s = refl
floor_same top (suc n) rs qs s = s (6 * n + 4) (omega arith) (omega arith)

placed_same : (i top low : ℕ) (rs qs : List ℕ) → Same 0 (6 * i + 6) rs qs → Placed i top low rs → Placed i top low qs
placed_same i top low rs qs s p =
    let e0 = s (6 * i) (omega arith) (omega arith) in
    let e1 = s (6 * i + 1) (omega arith) (omega arith) in
    let e2 = s (6 * i + 2) (omega arith) (omega arith) in
    let e3 = s (6 * i + 2 + 1) (omega arith) (omega arith) in
    let e4 = s (6 * i + 4) (omega arith) (omega arith) in
    let e5 = s (6 * i + 4 + 1) (omega arith) (omega arith) in
    record { a = omega (arith, p.a); b = omega (arith, p.b); c = omega (arith, p.c); lowest = omega (arith, p.lowest) }

pub stack_same : (top n : ℕ) (rs qs : List ℕ) → Same 0 (6 * n) rs qs → Stack top n rs → Stack top n qs
stack_same top zero rs qs s k = tt
stack_same top (suc n) rs qs s k = (
  subst (λ (x : ℕ). Placed n x (get_or qs (6 * n + 4) 0) qs) (floor_same top n rs qs (λ j l u. s j l (omega arith)))
      (subst (λ (x : ℕ). Placed n (floor top n rs) x qs) (s (6 * n + 4) (omega arith) (omega arith)) (placed_same n _ _ rs qs (λ j l u. s j l (omega arith)) k.0)),
  stack_same top n rs qs (λ j l u. s j l (omega arith)) k.1,
)

part_same : (i : ℕ) (rs qs ws vs : List ℕ) → get_or rs i 0 ≡ get_or qs i 0 → get_or rs (i + 1) 0 ≡ get_or qs (i + 1) 0 → Same (2 * get_or rs i 0) (2 * (get_or rs i 0 + get_or rs (i + 1) 0)) ws vs → part i rs ws ≡ part i qs vs
part_same i rs qs ws vs a b s = pairs_same (get_or rs i 0) (get_or rs (i + 1) 0) ws vs s ∙ (λ t. pairs (a t) (b t) vs)

pub rows_same : (top n : ℕ) (rs qs ws vs : List ℕ) → Same 0 (6 * n) rs qs → Same (2 * floor top n rs) (2 * top) ws vs → Stack top n rs → rows n rs ws ≡ rows n qs vs
rows_same top zero rs qs ws vs s t k = refl
rows_same top (suc n) rs qs ws vs s t k = λ i.
    rows_same top n rs qs ws vs (λ j l u. s j l (omega arith)) (λ j l u. t j (omega arith) u) k.1 i ++ (here i ∷ [])
  where
    under : floor top n rs ≤ top
    under = floor_below top n rs k.1

    e : (m : ℕ) → m < 6 → get_or rs (6 * n + m) 0 ≡ get_or qs (6 * n + m) 0
    e m h = s (6 * n + m) (omega arith) (omega arith)

    next : (m : ℕ) → m + 1 < 6 → get_or rs (6 * n + m + 1) 0 ≡ get_or qs (6 * n + m + 1) 0
    next m h = s (6 * n + m + 1) (omega arith) (omega arith)

    here : row_at n rs ws ≡ row_at n qs vs
    here = λ i. record {
      a = part_same (6 * n) rs qs ws vs (s (6 * n) (omega arith) (omega arith)) (e 1 (omega arith)) (λ j l u. t j (omega (arith, k.0.b, k.0.c)) (omega (arith, k.0.a, under))) i;
      b = part_same (6 * n + 2) rs qs ws vs (e 2 (omega arith)) (next 2 (omega arith)) (λ j l u. t j (omega (arith, k.0.c)) (omega (arith, k.0.a, k.0.b, under))) i;
      c = part_same (6 * n + 4) rs qs ws vs (e 4 (omega arith)) (next 4 (omega arith)) (λ j l u. t j (omega arith) (omega (arith, k.0.a, k.0.b, k.0.c, under))) i;
    }

pub rows_more : (n : ℕ) (rs ws : List ℕ) → rows (n + 1) rs ws ≡ rows n rs ws ++ (row_at n rs ws ∷ [])
rows_more n rs ws = ap (λ (m : ℕ). rows m rs ws) (add-one n)

pub stack_more : (top n low : ℕ) (rs : List ℕ) → Placed n (floor top n rs) low rs → Stack top n rs → Stack top (n + 1) rs
stack_more top n low rs p s = subst (λ (m : ℕ). Stack top m rs) (sym (add-one n)) (subst (λ (x : ℕ). Placed n (floor top n rs) x rs) (sym p.lowest) p, s)

pub floor_more : (top n low : ℕ) (rs : List ℕ) → Placed n (floor top n rs) low rs → floor top (n + 1) rs ≡ low
floor_more top n low rs p = ap (λ (m : ℕ). floor top m rs) (add-one n) ∙ p.lowest

pub rows_length : (n : ℕ) (rs ws : List ℕ) → length (rows n rs ws) ≡ n
rows_length zero rs ws = refl
rows_length (suc n) rs ws = simp length-append (omega (arith, rows_length n rs ws))

rows_use_append : (a b : List Row) → rows_use (a ++ b) ≡ rows_use a + rows_use b
rows_use_append [] b = omega arith
rows_use_append (x ∷ a) b = omega (arith, rows_use_append a b)

pub rows_used : (p top n : ℕ) (rs ws : List ℕ) → Stack top n rs → rows_use (map (meant p) (rows n rs ws)) + floor top n rs ≡ top
rows_used p top zero rs ws s = omega arith
rows_used p top (suc n) rs ws s =
    ap (λ (x : ℕ). x + get_or rs (6 * n + 4) 0)
    (ap rows_use (map-append (meant p) (rows n rs ws) (row_at n rs ws ∷ [])) ∙ rows_use_append (map (meant p) (rows n rs ws)) (meant p (row_at n rs ws) ∷ []))
    ∙ omega (arith, rows_used p top n rs ws s.1, length_pairs (get_or rs (6 * n) 0) (get_or rs (6 * n + 1) 0) ws, length_pairs (get_or rs (6 * n + 2) 0) (get_or rs (6 * n + 2 + 1) 0) ws, length_pairs (get_or rs (6 * n + 4) 0) (get_or rs (6 * n + 4 + 1) 0) ws, s.0.a, s.0.b, s.0.c)
