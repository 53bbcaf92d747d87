-- The inverse that is found by search is the one that a field gives.
use Rattle.std.proofs.Common.{◌≡◌, ℕ, zero, suc, ◌+◌, ◌-◌, ◌*◌, ◌%◌, ◌<◌, ◌≤◌, Bool, true, false, cond, ◌==◌, Option, Some, None, MatchOption, nat_lt, ltb-true, ltb-false, sym, refl, ap, ◌∙◌, eq-eqb, ne_eqb, eqb-true, arith}
use Rattle.std.proofs.lemmas.Bool.{eqb-false}
use Rattle.std.proofs.Math.Nat.{mod-eq_of_lt, add-mod_left, mod_self}
use Rattle.std.specs.Option.{unwrap_or}
use Rattle.arith.specs.Number.{Prime}
use Rattle.arith.proofs.Bits.{pos_of_prime}
use Rattle.arith.proofs.Residue.{cancel, unit_not_zero}
use Rattle.field.specs.Laws.{FieldLaws}
use Rattle.fp.specs.Equality.{seek, inverse, gap, multiplier}

-- two inverses of a number below a prime are one
one_inverse : (p a x y : ℕ) → Prime p → x < p → y < p → (a * x) % p ≡ 1 → (a * y) % p ≡ 1 → x ≡ y
one_inverse p a x y P lx ly ex ey =
    sym (mod-eq_of_lt lx) ∙ cancel p a x y P (unit_not_zero p a x P.0 ex) (ex ∙ sym ey) ∙ mod-eq_of_lt ly

seek_finds : (p a x n : ℕ) → Prime p → x < p → (a * x) % p ≡ 1 → x < n → n ≤ p → seek p a n ≡ x
seek_finds p a x zero P lx ex ln lp = absurd (omega arith)
seek_finds p a x (suc n) P lx ex ln lp = go ((a * n) % p == 1) refl (λ l m. seek_finds p a x n P lx ex l m)
  where
    other : ((a * n) % p == 1) ≡ false → n ≡ x → ⊥
    other e i = eqb-false ((a * n) % p) 1 e (ap (λ k. (a * k) % p) i ∙ ex)

    go : (t : Bool) → ((a * n) % p == 1) ≡ t → (x < n → n ≤ p → seek p a n ≡ x) → cond t n (seek p a n) ≡ x
    go true e h = one_inverse p a n x P (omega arith) lx (eqb-true ((a * n) % p) 1 e) ex
    go false e h = let o : n ≡ x → ⊥ = other e in h (omega arith) (omega arith)

pub inverse_is : (p a x : ℕ) → Prime p → x < p → (a * x) % p ≡ 1 → inverse p a ≡ x
inverse_is p a x P lx ex = seek_finds p a x p P lx ex lx (omega arith)

pub same_where_no_gap : (p x y : ℕ) → x < p → y < p → gap p x y ≡ 0 → x ≡ y
same_where_no_gap p x y lx ly e = go (nat_lt x y) refl
  where
    go : (t : Bool) → nat_lt x y ≡ t → x ≡ y
    go true l =
        let less : x < y = ltb-true x y l in
        let small : x + (p - y) < p = omega arith in
        let none : x + (p - y) ≡ 0 = sym (mod-eq_of_lt small) ∙ e in
        absurd (omega arith)
    go false l =
        let more : y ≤ x = ltb-false x y l in
        let whole : x + (p - y) ≡ p + (x - y) = omega arith in
        let small : x - y < p = omega arith in
        let none : x - y ≡ 0 = sym (mod-eq_of_lt small) ∙ sym (add-mod_left p (x - y)) ∙ sym (ap (λ n. n % p) whole) ∙ e in
        omega arith

pub no_gap_where_same : (p x y : ℕ) → y < p → x ≡ y → gap p x y ≡ 0
no_gap_where_same p x y ly i = let s : x + (p - y) ≡ p = omega arith in ap (λ n. n % p) s ∙ mod_self p

-- the inverse of a difference, or 1 where there is none, is the difference's multiplier
pub multiplier_found : {F : Type 0} (number : F → ℕ) (p x y : ℕ) (d one : F) (o : Option F) → FieldLaws p number → x < p → y < p → number d ≡ gap p x y → number one ≡ 1
    → MatchOption o (number d ≡ 0) (λ m. (number d * number m) % p ≡ 1) → number (unwrap_or o one) ≡ multiplier p x y
multiplier_found number p x y d one None laws lx ly ed eo h =
    eo ∙ ap (λ b. cond b 1 (inverse p (gap p x y))) (sym (eq-eqb x y (same_where_no_gap p x y lx ly (sym ed ∙ h))))
multiplier_found number p x y d one (Some m) laws lx ly ed eo h =
    sym (inverse_is p (gap p x y) (number m) laws.prime (laws.below m) found) ∙ ap (λ b. cond b 1 (inverse p (gap p x y))) (sym (ne_eqb x y differ))
  where
    found : (gap p x y * number m) % p ≡ 1
    found = ap (λ k. (k * number m) % p) (sym ed) ∙ h

    differ : x ≡ y → ⊥
    differ i = unit_not_zero p (gap p x y) (number m) laws.prime.0 found (ap (λ k. k % p) (no_gap_where_same p x y ly i) ∙ mod-eq_of_lt (pos_of_prime laws.prime))
