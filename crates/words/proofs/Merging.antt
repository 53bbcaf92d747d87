-- Merged terms mean the same sum.
use Rattle.std.proofs.Common.{◌≡◌, ℕ, ◌+◌, ◌%◌, ◌<◌, Bool, true, false, cond, eqb, [], ◌∷◌, sym, refl, ap, ◌∙◌, subst, mod-lt, mod-eq_of_lt, arith, eq-eqb, true-eqb}
use Rattle.relations.specs.Sum.{Pairs, total, named, weight, merged}

pub total_below : (p a : ℕ) (ts : Pairs) (c : ℕ) → a < p → total p a ts c < p
total_below p a [] c h = h
total_below p a (t ∷ ts) c h = total_below p (cond (eqb t.0 c) ((a + t.1) % p) a) ts c (go (eqb t.0 c))
  where
    go : (b : Bool) → cond b ((a + t.1) % p) a < p
    go true = mod-lt (a + t.1) (omega arith)
    go false = h

-- a variable that is not named counts nothing
pub total_absent : (p a : ℕ) (ts : Pairs) (c : ℕ) → named c ts ≡ false → total p a ts c ≡ a
total_absent p a [] c e = refl
total_absent p a (t ∷ ts) c e = go (eqb t.0 c) e (total_absent p a ts c)
  where
    go : (b : Bool) → cond b true (named c ts) ≡ false → (named c ts ≡ false → total p a ts c ≡ a) → total p (cond b ((a + t.1) % p) a) ts c ≡ a
    go true f ih = cc
    go false f ih = ih f

merged_absent : (p a : ℕ) (all ts : Pairs) (c : ℕ) → named c ts ≡ false → total p a (merged p all ts) c ≡ a
merged_absent p a all [] c e = refl
merged_absent p a all (t ∷ ts) c e = go (eqb t.0 c) (eqb (weight p all t.0 ts) 0) refl e (merged_absent p a all ts c)
  where
    go : (b z : Bool) → eqb t.0 c ≡ b → cond b true (named c ts) ≡ false → (named c ts ≡ false → total p a (merged p all ts) c ≡ a) → total p a (cond {A = Pairs} z (merged p all ts) ((t.0, weight p all t.0 ts) ∷ merged p all ts)) c ≡ a
    go true z q f ih = cc
    go false true q f ih = ih f
    go false false q f ih = ap (λ (x : Bool). total p (cond x ((a + weight p all t.0 ts) % p) a) (merged p all ts) c) q ∙ ih f

abbrev Goal : ℕ → Pairs → ℕ × ℕ → Pairs → ℕ → Bool → Type 0
Goal p all t ts c z = total p 0 (cond {A = Pairs} z (merged p all ts) ((t.0, weight p all t.0 ts) ∷ merged p all ts)) c ≡ total p 0 all c

merged_present : (p : ℕ) (all ts : Pairs) (c : ℕ) → 0 < p → named c ts ≡ true → total p 0 (merged p all ts) c ≡ total p 0 all c
merged_present p all [] c h e = cc
merged_present p all (t ∷ ts) c h e = go (eqb t.0 c) (named c ts) refl refl e (merged_present p all ts c h)
  where
    below : total p 0 all c < p
    below = total_below p 0 all c h

    -- the last to name c
    last : (z : Bool) → eqb t.0 c ≡ true → named c ts ≡ false → weight p all t.0 ts ≡ total p 0 all c → eqb (total p 0 all c) 0 ≡ z → Goal p all t ts c z
    last true q n w f = merged_absent p 0 all ts c n ∙ sym (true-eqb (total p 0 all c) 0 (sym f))
    last false q n w f =
        ap (λ (x : Bool). total p (cond x ((0 + weight p all t.0 ts) % p) 0) (merged p all ts) c) q
        ∙ merged_absent p ((0 + weight p all t.0 ts) % p) all ts c n
        ∙ ap (λ (x : ℕ). (0 + x) % p) w ∙ ap (λ (x : ℕ). x % p) (zero_plus (total p 0 all c)) ∙ mod-eq_of_lt below
      where
        zero_plus : (n : ℕ) → 0 + n ≡ n
        zero_plus n = omega arith

    other : (z : Bool) → eqb t.0 c ≡ false → total p 0 (merged p all ts) c ≡ total p 0 all c → Goal p all t ts c z
    other true q ih = ih
    other false q ih = ap (λ (x : Bool). total p (cond x ((0 + weight p all t.0 ts) % p) 0) (merged p all ts) c) q ∙ ih

    go : (b n : Bool) → eqb t.0 c ≡ b → named c ts ≡ n → cond b true (named c ts) ≡ true → (named c ts ≡ true → total p 0 (merged p all ts) c ≡ total p 0 all c) → Goal p all t ts c (eqb (weight p all t.0 ts) 0)
    go false n q m f ih = other (eqb (weight p all t.0 ts) 0) q (ih f)
    go true true q m f ih =
        let same : t.0 ≡ c = true-eqb t.0 c (sym q) in
        let none : weight p all t.0 ts ≡ 0 = ap (λ (x : ℕ). cond (named x ts) 0 (total p 0 all x)) same ∙ ap (λ (x : Bool). cond x 0 (total p 0 all c)) m in
        subst (Goal p all t ts c) (sym (eq-eqb (weight p all t.0 ts) 0 none)) (ih m)
    go true false q m f ih =
        let same : t.0 ≡ c = true-eqb t.0 c (sym q) in
        let all_of : weight p all t.0 ts ≡ total p 0 all c = ap (λ (x : ℕ). cond (named x ts) 0 (total p 0 all x)) same ∙ ap (λ (x : Bool). cond x 0 (total p 0 all c)) m in
        subst (Goal p all t ts c) (sym (ap (λ (x : ℕ). eqb x 0) all_of)) (last (eqb (total p 0 all c) 0) q m all_of refl)

pub merged_total : (p : ℕ) (ts : Pairs) (c : ℕ) → 0 < p → total p 0 (merged p ts ts) c ≡ total p 0 ts c
merged_total p ts c h = go (named c ts) refl
  where
    go : (b : Bool) → named c ts ≡ b → total p 0 (merged p ts ts) c ≡ total p 0 ts c
    go true e = merged_present p ts ts c h e
    go false e = merged_absent p 0 ts ts c e ∙ sym (total_absent p 0 ts c e)
