-- Lists that are tabulated.
use Rattle.std.proofs.Common.{◌≡◌, ℕ, zero, suc, ◌+◌, ◌-◌, ◌<◌, ◌≤◌, [], ◌∷◌, ◌++◌, length, get_or, take, sym, refl, ap, ◌∙◌, subst, inl, inr, eq-or-lt_of_le, add-one, arith, length-append}
use Rattle.std.proofs.lemmas.List.{take-append-le, take_all, get_or_append_left, get_or-append_right}
use Rattle.words.specs.Words.{tabulate}

pub tabulate_length : {A : Type 0} (n : ℕ) (f : ℕ → A) → length (tabulate n f) ≡ n
tabulate_length zero f = refl
tabulate_length (suc n) f = simp length-append (omega (arith, tabulate_length n f))

pub tabulate_same : {A : Type 0} (n : ℕ) (f g : ℕ → A) → ((j : ℕ) → j < n → f j ≡ g j) → tabulate n f ≡ tabulate n g
tabulate_same zero f g h = refl
tabulate_same (suc n) f g h = λ i. tabulate_same n f g (λ j l. h j (omega arith)) i ++ (h n (omega arith) i ∷ [])

pub tabulate_more : {A : Type 0} (n : ℕ) (f : ℕ → A) → tabulate (n + 1) f ≡ tabulate n f ++ (f n ∷ [])
tabulate_more n f = ap (λ (m : ℕ). tabulate m f) (add-one n)

pub tabulate_take : {A : Type 0} (k n : ℕ) (f : ℕ → A) → k ≤ n → take k (tabulate n f) ≡ tabulate k f
tabulate_take k zero f h = subst (λ (x : ℕ). take x (tabulate 0 f) ≡ tabulate x f) none refl
  where
    none : 0 ≡ k
    none = omega arith
tabulate_take k (suc n) f h =
    elim (eq-or-lt_of_le {n = k} {m = suc n} h) [
      | inl e ↦ ap (λ (x : ℕ). take x (tabulate (suc n) f)) e ∙ take_all (suc n) (tabulate (suc n) f) (omega (arith, tabulate_length (suc n) f)) ∙ ap (λ (x : ℕ). tabulate x f) (sym e)
      | inr g ↦ take-append-le k (tabulate n f) (f n ∷ []) (omega (arith, tabulate_length n f)) ∙ tabulate_take k n f (omega arith)
    ]

pub tabulate_at : {A : Type 0} (n j : ℕ) (f : ℕ → A) (d : A) → j < n → get_or (tabulate n f) j d ≡ f j
tabulate_at zero j f d h = absurd (omega arith)
tabulate_at (suc n) j f d h =
    elim (eq-or-lt_of_le {n = j} {m = n} (omega arith)) [
      | inl e ↦ get_or-append_right (tabulate n f) (f n ∷ []) n j d (tabulate_length n f) (omega arith) ∙ ap (λ (x : ℕ). get_or (f n ∷ []) x d) (none e) ∙ ap f (sym e)
      | inr g ↦ get_or_append_left (tabulate n f) (f n ∷ []) d j (omega (arith, tabulate_length n f)) ∙ tabulate_at n j f d g
    ]
  where
    none : j ≡ n → j - n ≡ 0
    none e = omega arith
