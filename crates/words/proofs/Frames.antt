-- What words hold after writes elsewhere.
use Rattle.std.proofs.Common.{◌≡◌, ℕ, zero, suc, ◌+◌, ◌*◌, ◌<◌, ◌≤◌, ◌≢◌, List, [], ◌∷◌, ◌++◌, length, get_or, set, sym, refl, ap, ◌∙◌, subst, append_assoc, add-one, arith, length-append, length-set, get_or-set_other, get_or-set_same}
use Rattle.relations.specs.Sum.{Pairs}
use Rattle.words.specs.Words.{Same, pairs}

pub length_pairs : (i n : ℕ) (ws : List ℕ) → length (pairs i n ws) ≡ n
length_pairs i zero ws = refl
length_pairs i (suc n) ws = simp length-append (omega (arith, length_pairs i n ws))

pub pairs_same : (i n : ℕ) (ws vs : List ℕ) → Same (2 * i) (2 * (i + n)) ws vs → pairs i n ws ≡ pairs i n vs
pairs_same i zero ws vs h = refl
pairs_same i (suc n) ws vs h = λ k.
    pairs_same i n ws vs (λ j l u. h j l (omega arith)) k
    ++ ((h (2 * (i + n)) (omega arith) (omega arith) k, h (2 * (i + n) + 1) (omega arith) (omega arith) k) ∷ [])

pub pairs_more : (i n : ℕ) (ws : List ℕ) → pairs i (n + 1) ws ≡ pairs i n ws ++ ((get_or ws (2 * (i + n)) 0, get_or ws (2 * (i + n) + 1) 0) ∷ [])
pairs_more i n ws = ap (λ (m : ℕ). pairs i m ws) (add-one n)

pub pairs_write : (i n c k : ℕ) (ws : List ℕ) → 2 * (i + n) + 1 < length ws → pairs i (n + 1) (set (set ws (2 * (i + n)) c) (2 * (i + n) + 1) k) ≡ pairs i n ws ++ ((c, k) ∷ [])
pairs_write i n c k ws h = pairs_more i n _ ∙ (λ t. before t ++ ((first t, second t) ∷ []))
  where
    ne : 2 * (i + n) ≢ 2 * (i + n) + 1
    ne = λ e. omega arith

    second : get_or (set (set ws (2 * (i + n)) c) (2 * (i + n) + 1) k) (2 * (i + n) + 1) 0 ≡ k
    second = get_or-set_same (set ws (2 * (i + n)) c) (2 * (i + n) + 1) k 0 (simp length-set h)

    first : get_or (set (set ws (2 * (i + n)) c) (2 * (i + n) + 1) k) (2 * (i + n)) 0 ≡ c
    first = get_or-set_other (set ws (2 * (i + n)) c) (2 * (i + n) + 1) (2 * (i + n)) k 0 ne ∙ get_or-set_same ws (2 * (i + n)) c 0 (omega arith)

    before : pairs i n (set (set ws (2 * (i + n)) c) (2 * (i + n) + 1) k) ≡ pairs i n ws
    before = pairs_same i n _ ws (λ j l u.
        let a : j ≢ 2 * (i + n) + 1 = λ e. omega arith in
        let b : j ≢ 2 * (i + n) = λ e. omega arith in
        get_or-set_other (set ws (2 * (i + n)) c) (2 * (i + n) + 1) j k 0 a ∙ get_or-set_other ws (2 * (i + n)) j c 0 b)

pub other_write : (i c k : ℕ) (ws : List ℕ) (j : ℕ) → j ≢ 2 * i → j ≢ 2 * i + 1 → get_or (set (set ws (2 * i) c) (2 * i + 1) k) j 0 ≡ get_or ws j 0
other_write i c k ws j a b = get_or-set_other (set ws (2 * i) c) (2 * i + 1) j k 0 b ∙ get_or-set_other ws (2 * i) j c 0 a

-- what is stored and what is left to store, one term on
pub stored_more : (i n c k : ℕ) (ws : List ℕ) (rest rest' all : Pairs) → 2 * (i + n) + 1 < length ws → rest ≡ (c, k) ∷ rest' → pairs i n ws ++ rest ≡ all → pairs i (n + 1) (set (set ws (2 * (i + n)) c) (2 * (i + n) + 1) k) ++ rest' ≡ all
stored_more i n c k ws rest rest' all h e inv =
    ap (λ (xs : Pairs). xs ++ rest') (pairs_write i n c k ws h)
    ∙ append_assoc (pairs i n ws) ((c, k) ∷ []) rest'
    ∙ ap (λ (xs : Pairs). pairs i n ws ++ xs) (sym e)
    ∙ inv

pub stored_within : (i n : ℕ) (ws : List ℕ) (rest all : Pairs) → pairs i n ws ++ rest ≡ all → n + length rest ≡ length all
stored_within i n ws rest all e = omega (arith, simp length-append at (ap length e), length_pairs i n ws)

-- one term written
pub record Put (place c k : ℕ) (ws vs : List ℕ) : Type 0 where
  pub first : get_or vs (2 * place) 0 ≡ c
  pub second : get_or vs (2 * place + 1) 0 ≡ k
  pub below : (j : ℕ) → j < 2 * place → get_or vs j 0 ≡ get_or ws j 0
  pub above : (j : ℕ) → 2 * place + 2 ≤ j → get_or vs j 0 ≡ get_or ws j 0

pub put_at : (place c d k : ℕ) (ws vs : List ℕ) → c ≡ d → Put place c k ws vs → Put place d k ws vs
put_at place c d k ws vs e h = subst (λ (x : ℕ). Put place x k ws vs) e h

pub put_says : (place c k : ℕ) (ws vs : List ℕ) → 2 * place + 1 < length ws → vs ≡ set (set ws (2 * place) c) (2 * place + 1) k → Put place c k ws vs
put_says place c k ws vs h e = subst (Put place c k ws) (sym e) record {
  first = get_or-set_other (set ws (2 * place) c) (2 * place + 1) (2 * place) k 0 (λ q. omega arith) ∙ get_or-set_same ws (2 * place) c 0 (omega arith);
  second = get_or-set_same (set ws (2 * place) c) (2 * place + 1) k 0 (simp length-set h);
  below = λ j l. other_write place c k ws j (λ q. omega arith) (λ q. omega arith);
  above = λ j l. other_write place c k ws j (λ q. omega arith) (λ q. omega arith);
}
