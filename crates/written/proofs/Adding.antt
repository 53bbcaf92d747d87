-- Adding multiples of terms to coefficients.
use Rattle.std.proofs.Common.{◌≡◌, ℕ, ◌+◌, ◌-◌, ◌*◌, ◌%◌, ◌<◌, ◌≤◌, Bool, true, false, cond, eqb, List, [], ◌∷◌, ◌++◌, length, get_or, set, take, drop, replicate, Some, sym, refl, ap, ◌∙◌, subst, inl, inr, mod-lt, mod-eq_of_lt, one-mul, mul-add, arith, get_or-set_other, get_or-set_same, eq-eqb, ne_eqb}
use native.Mathlib.Nat.{add-mod-mod}
use Rattle.std.proofs.lemmas.List.{take_more, get_or_append_left, get_or-append_right, get_or-replicate, get_or-drop, length-replicate}
use Rattle.std.proofs.lemmas.Bool.{cond-true, cond-false, cases_eq}
use Rattle.arith.proofs.Euclid.{mul_mod_r}
use Rattle.relations.specs.Sum.{Pairs, code, total}
use Rattle.words.specs.Words.{stored}
use Rattle.words.proofs.Worths.{stored_last}
use Rattle.words.proofs.Merging.{total_below}
use Rattle.written.specs.declared.Counts.{Counts}
use Rattle.written.specs.Cells.{cells, variable_at, cell, Below, Added, Spread}
use Rattle.written.proofs.Cells.{Found, found, cell_code}

-- ---- one term
pub added_some : (p : ℕ) (n : Counts) (k c x m : ℕ) (os qs : List ℕ) → Some m ≡ cell n c → cells n ≤ length os → qs ≡ set os m ((k * x + get_or os m 0) % p) → Added p n k c x os qs
added_some p n k c x m os qs e long q = record {
  sums = λ j h. ap (λ (xs : List ℕ). get_or xs j 0) q ∙ at j h;
  beyond = λ j h. ap (λ (xs : List ℕ). get_or xs j 0) q ∙ get_or-set_other os m j ((k * x + get_or os m 0) % p) 0 (λ z. omega (arith, f.within));
}
  where
    f : Found n c m
    f = found n c m (sym e)

    here : m < length os
    here = omega (arith, f.within)

    other : (j : ℕ) → j < cells n → (m ≡ j → ⊥) → c ≡ code (variable_at n j) → ⊥
    other j h ne same =
        let s : cell n c ≡ Some j = ap (cell n) same ∙ cell_code n j h in
        let z : m ≡ j = cc in
        ne z

    at : (j : ℕ) → j < cells n → get_or (set os m ((k * x + get_or os m 0) % p)) j 0 ≡ cond (eqb c (code (variable_at n j))) ((k * x + get_or os j 0) % p) (get_or os j 0)
    at j h = elim (cases_eq m j) [
      | inl s ↦
          subst (λ (y : ℕ). get_or (set os m ((k * x + get_or os m 0) % p)) y 0 ≡ cond (eqb c (code (variable_at n y))) ((k * x + get_or os y 0) % p) (get_or os y 0)) s
          (get_or-set_same os m ((k * x + get_or os m 0) % p) 0 here ∙ sym (cond-true _ _ _ (eq-eqb c (code (variable_at n m)) (sym f.of))))
      | inr d ↦
          get_or-set_other os m j ((k * x + get_or os m 0) % p) 0 (λ z. d (sym z))
          ∙ sym (cond-false _ _ _ (ne_eqb c (code (variable_at n j)) (other j h d)))
    ]

-- ---- many terms
total_push : (p a : ℕ) (ts : Pairs) (d x c : ℕ) → total p a (ts ++ ((d, x) ∷ [])) c ≡ cond (eqb d c) ((total p a ts c + x) % p) (total p a ts c)
total_push p a [] d x c = refl
total_push p a (t ∷ ts) d x c = total_push p (cond (eqb t.0 c) ((a + t.1) % p) a) ts d x c

pub times_rem : (p a k y : ℕ) → (a + k * (y % p)) % p ≡ (a + k * y) % p
times_rem p a k y = sym (add-mod-mod a (k * (y % p)) p) ∙ ap (λ (t : ℕ). (a + t) % p) (mul_mod_r k y p) ∙ add-mod-mod a (k * y) p

one_more : (p k a t x : ℕ) → (k * x + (a + k * t) % p) % p ≡ (a + k * ((t + x) % p)) % p
one_more p k a t x =
    add-mod-mod (k * x) (a + k * t) p
    ∙ ap (λ (y : ℕ). y % p) (shift (k * x) a (k * t) ∙ ap (λ (y : ℕ). a + y) (sym (mul-add k t x)))
    ∙ sym (times_rem p a k (t + x))
  where
    shift : (u v w : ℕ) → u + (v + w) ≡ v + (w + u)
    shift u v w = omega arith

spread_push : (p : ℕ) (n : Counts) (k : ℕ) (ts : Pairs) (c x : ℕ) (os qs rs : List ℕ) → Spread p n k ts os qs → Added p n k c x qs rs → Spread p n k (ts ++ ((c, x) ∷ [])) os rs
spread_push p n k ts c x os qs rs s a = record {
  sums = λ j h. a.sums j h ∙ go j (eqb c (code (variable_at n j))) (s.sums j h) ∙ ap (λ (y : ℕ). (get_or os j 0 + k * y) % p) (sym (total_push p 0 ts c x (code (variable_at n j))));
  beyond = λ j h. a.beyond j h ∙ s.beyond j h;
}
  where
    go : (j : ℕ) (b : Bool) → get_or qs j 0 ≡ (get_or os j 0 + k * total p 0 ts (code (variable_at n j))) % p → cond b ((k * x + get_or qs j 0) % p) (get_or qs j 0) ≡ (get_or os j 0 + k * cond b ((total p 0 ts (code (variable_at n j)) + x) % p) (total p 0 ts (code (variable_at n j)))) % p
    go j true e = ap (λ (y : ℕ). (k * x + y) % p) e ∙ one_more p k (get_or os j 0) (total p 0 ts (code (variable_at n j))) x
    go j false e = e

pub spread_more : (p : ℕ) (n : Counts) (k i : ℕ) (ts : List (List ℕ)) (d : List ℕ) (os qs rs : List ℕ) → i < length ts → Spread p n k (stored (take i ts)) os qs → Added p n k (get_or (get_or ts i d) 0 0) (get_or (get_or ts i d) 1 0) qs rs → Spread p n k (stored (take (i + 1) ts)) os rs
spread_more p n k i ts d os qs rs h s a =
    subst (λ (xs : Pairs). Spread p n k xs os rs) (sym (stored_last (take i ts) (take (i + 1) ts) (get_or ts i d) (take_more ts i d h))) (spread_push p n k (stored (take i ts)) _ _ os qs rs s a)

pub spread_below : (p : ℕ) (n : Counts) (k : ℕ) (ts : Pairs) (os qs : List ℕ) → 0 < p → Spread p n k ts os qs → Below p n qs
spread_below p n k ts os qs h s = λ j l. subst (λ (x : ℕ). x < p) (sym (s.sums j l)) (mod-lt (get_or os j 0 + k * total p 0 ts (code (variable_at n j))) h)

-- the first cells are set to zero
pub record Cleared (n : Counts) (os qs : List ℕ) : Type 0 where
  pub zeros : (j : ℕ) → j < cells n → get_or qs j 0 ≡ 0
  pub beyond : (j : ℕ) → cells n ≤ j → get_or qs j 0 ≡ get_or os j 0

pub cleared : (n : Counts) (size m : ℕ) (os qs : List ℕ) → size ≡ cells n → m ≡ size → qs ≡ replicate m 0 → Cleared n os (qs ++ drop size os)
cleared n size m os qs e em q = record {
  zeros = λ j h. get_or_append_left qs (drop size os) 0 j (omega (arith, long)) ∙ ap (λ (xs : List ℕ). get_or xs j 0) q ∙ get_or-replicate m j 0 0 (omega arith);
  beyond = λ j h. get_or-append_right qs (drop size os) size j 0 long (omega arith) ∙ get_or-drop size os (j - size) 0 ∙ ap (λ (x : ℕ). get_or os x 0) (omega arith);
}
  where
    long : length qs ≡ size
    long = ap length q ∙ length-replicate m 0 ∙ em

-- terms added once to no coefficients
pub spread_once : (p : ℕ) (n : Counts) (ts : Pairs) (os qs : List ℕ) → 0 < p → ((j : ℕ) → j < cells n → get_or os j 0 ≡ 0) → Spread p n 1 ts os qs → (j : ℕ) → j < cells n → get_or qs j 0 ≡ total p 0 ts (code (variable_at n j))
spread_once p n ts os qs h z s j l =
    s.sums j l
    ∙ (λ t. (z j l t + one-mul (total p 0 ts (code (variable_at n j))) t) % p)
    ∙ ap (λ (x : ℕ). x % p) (zero_plus (total p 0 ts (code (variable_at n j))))
    ∙ mod-eq_of_lt (total_below p 0 ts (code (variable_at n j)) h)
  where
    zero_plus : (x : ℕ) → 0 + x ≡ x
    zero_plus x = omega arith
