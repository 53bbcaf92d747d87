-- How many terms the sums of the gates take.
use Rattle.std.proofs.Common.{◌≡◌, ℕ, ◌+◌, ◌-◌, ◌%◌, ◌<◌, Bool, true, false, cond, eqb, ◌≢◌, [], ◌∷◌, length, sym, refl, ap, ◌∙◌, subst, mod-eq_of_lt, arith, eq-eqb, ne_eqb, true-eqb, false-eqb}
use Rattle.relations.specs.declared.term.Variable.{Variable}
use Rattle.relations.specs.declared.term.Variable.TheVariants.{One, Zero, Input, Witness, Combination}
use Rattle.relations.specs.Sum.{code, counted, Pairs, merged, sum_of}
use native.Mathlib.Nat.{mod_self}
use Rattle.relations.specs.Terms.{times, less, one_less}
use Rattle.bit_laws.specs.Bits.{real}

pub clash : {A : Type 0} → ◌≡◌ {A = Bool} false true → A
clash e = let z : ◌≡◌ {A = ℕ} 0 1 = cc in absurd (omega arith)

-- ---- how many terms a sum takes
module _ (p : ℕ) where
  abbrev pub sized : Pairs → ℕ
  sized ts = length (merged p ts ts)

  some : (k : ℕ) → (k % p ≡ 0 → ⊥) → eqb ((0 + k) % p) 0 ≡ false
  some k h = ne_eqb ((0 + k) % p) 0 (λ e. h (ap (λ (x : ℕ). x % p) (omega arith) ∙ e))

  pub one_size : (c k : ℕ) → (k % p ≡ 0 → ⊥) → sized ((c, k) ∷ []) ≡ 1
  one_size c k h =
      let e = eq-eqb c c refl in
      let z = some k h in
      simp (e, z)

  pub two_size : (c d k l : ℕ) → c ≢ d → (k % p ≡ 0 → ⊥) → (l % p ≡ 0 → ⊥) → sized ((c, k) ∷ ((d, l) ∷ [])) ≡ 2
  two_size c d k l ne hk hl =
      let e = eq-eqb c c refl in
      let f = eq-eqb d d refl in
      let n = ne_eqb c d ne in
      let m = ne_eqb d c (λ q. ne (sym q)) in
      let z = some k hk in
      let y = some l hl in
      simp (e, f, n, m, z, y)

  pub three_size : (c d b k l j : ℕ) → c ≢ d → c ≢ b → d ≢ b → (k % p ≡ 0 → ⊥) → (l % p ≡ 0 → ⊥) → (j % p ≡ 0 → ⊥) → sized ((c, k) ∷ ((d, l) ∷ ((b, j) ∷ []))) ≡ 3
  three_size c d b k l j cd cb db hk hl hj =
      let e = eq-eqb c c refl in
      let f = eq-eqb d d refl in
      let g = eq-eqb b b refl in
      let n1 = ne_eqb c d cd in
      let m1 = ne_eqb d c (λ q. cd (sym q)) in
      let n2 = ne_eqb c b cb in
      let m2 = ne_eqb b c (λ q. cb (sym q)) in
      let n3 = ne_eqb d b db in
      let m3 = ne_eqb b d (λ q. db (sym q)) in
      let x = some k hk in
      let y = some l hl in
      let z = some j hj in
      simp (e, f, g, n1, m1, n2, m2, n3, m3, x, y, z)

  -- two terms of one variable count as one
  pub pair_size : (c b k l j : ℕ) → c ≢ b → (((0 + k) % p + l) % p ≡ 0 → ⊥) → (j % p ≡ 0 → ⊥) → sized ((c, k) ∷ ((c, l) ∷ ((b, j) ∷ []))) ≡ 2
  pair_size c b k l j cb hk hj =
      let e = eq-eqb c c refl in
      let g = eq-eqb b b refl in
      let n2 = ne_eqb c b cb in
      let m2 = ne_eqb b c (λ q. cb (sym q)) in
      let x = ne_eqb (((0 + k) % p + l) % p) 0 hk in
      let z = some j hj in
      simp (e, g, n2, m2, x, z)

-- ---- real variables
pub one_apart : (v : Variable) → real v ≡ true → 0 ≢ code v
one_apart One h = λ e. clash h
one_apart Zero h = λ e. clash h
one_apart (Input i) h = λ e. omega arith
one_apart (Witness i) h = λ e. omega arith
one_apart (Combination c) h = λ e. omega arith

pub counts : (v : Variable) (k : ℕ) → real v ≡ true → counted v k ≡ k
counts One k h = clash h
counts Zero k h = clash h
counts (Input i) k h = refl
counts (Witness i) k h = refl
counts (Combination c) k h = refl

-- ---- sums of the gates
module _ (p : ℕ) (two : 2 < p) where
  pub one_some : 1 % p ≡ 0 → ⊥
  one_some e = let q : 1 % p ≡ 1 = mod-eq_of_lt (omega arith) in omega arith

  pub two_some : 2 % p ≡ 0 → ⊥
  two_some e = let q : 2 % p ≡ 2 = mod-eq_of_lt two in omega arith

  pub less_some : (p - 1) % p ≡ 0 → ⊥
  less_some e = let q : (p - 1) % p ≡ p - 1 = mod-eq_of_lt (omega arith) in omega arith

  pub twice_some : ((0 + 1) % p + 1) % p ≡ 0 → ⊥
  twice_some e =
      let q : (0 + 1) % p ≡ 1 = mod-eq_of_lt (omega arith) in
      let r : ((0 + 1) % p + 1) % p ≡ 2 = ap (λ (x : ℕ). (x + 1) % p) q ∙ mod-eq_of_lt two in
      omega arith

  pub just_size : (k : ℕ) (v : Variable) → (k % p ≡ 0 → ⊥) → real v ≡ true → (sum_of p (times k v ∷ [])).size ≡ 1
  just_size k v h r = ap (λ (x : ℕ). sized p ((code v, x) ∷ [])) (counts v k r) ∙ one_size p (code v) k h

  pub less_size : (v : Variable) → real v ≡ true → (sum_of p (one_less p v)).size ≡ 2
  less_size v r = ap (λ (x : ℕ). sized p ((0, 1) ∷ ((code v, x) ∷ []))) (counts v (p - 1) r) ∙ two_size p 0 (code v) 1 (p - 1) (one_apart v r) one_some less_some

  pub xor_size : (a b w : Variable) → real a ≡ true → real b ≡ true → real w ≡ true → code a ≢ code w → code b ≢ code w → (sum_of p (times 1 a ∷ (times 1 b ∷ (times (p - 1) w ∷ [])))).size ≡ cond (eqb (code a) (code b)) 2 3
  xor_size a b w ra rb rw aw bw =
      (λ i. sized p ((code a, counts a 1 ra i) ∷ ((code b, counts b 1 rb i) ∷ ((code w, counts w (p - 1) rw i) ∷ []))))
      ∙ go (eqb (code a) (code b)) refl
    where
      go : (t : Bool) → eqb (code a) (code b) ≡ t → sized p ((code a, 1) ∷ ((code b, 1) ∷ ((code w, p - 1) ∷ []))) ≡ cond t 2 3
      go true e =
          let q : code a ≡ code b = true-eqb (code a) (code b) (sym e) in
          subst (λ (x : ℕ). sized p ((code a, 1) ∷ ((x, 1) ∷ ((code w, p - 1) ∷ []))) ≡ 2) q (pair_size p (code a) (code w) 1 1 (p - 1) aw twice_some less_some)
      go false e = three_size p (code a) (code b) (code w) 1 1 (p - 1) (false-eqb (code a) (code b) (sym e)) aw bw one_some one_some less_some

  -- two terms of one variable alone
  pub once_size : (c k l : ℕ) → (((0 + k) % p + l) % p ≡ 0 → ⊥) → sized p ((c, k) ∷ ((c, l) ∷ [])) ≡ 1
  once_size c k l h =
      let e = eq-eqb c c refl in
      let x = ne_eqb (((0 + k) % p + l) % p) 0 h in
      simp (e, x)

  pub none_size : (c k l : ℕ) → ((0 + k) % p + l) % p ≡ 0 → sized p ((c, k) ∷ ((c, l) ∷ [])) ≡ 0
  none_size c k l h =
      let e = eq-eqb c c refl in
      let x = eq-eqb (((0 + k) % p + l) % p) 0 h in
      simp (e, x)

  -- one variable less another
  pub between_size : (x y : Variable) → real x ≡ true → real y ≡ true → (sum_of p (less p x y)).size ≡ cond (eqb (code x) (code y)) 0 2
  between_size x y rx ry = (λ i. sized p ((code x, counts x 1 rx i) ∷ ((code y, counts y (p - 1) ry i) ∷ []))) ∙ go (eqb (code x) (code y)) refl
    where
      gone : ((0 + 1) % p + (p - 1)) % p ≡ 0
      gone =
          let q : (0 + 1) % p ≡ 1 = mod-eq_of_lt (omega arith) in
          ap (λ (t : ℕ). (t + (p - 1)) % p) q ∙ ap (λ (t : ℕ). t % p) (omega arith) ∙ mod_self p

      go : (t : Bool) → eqb (code x) (code y) ≡ t → sized p ((code x, 1) ∷ ((code y, p - 1) ∷ [])) ≡ cond t 0 2
      go true e = subst (λ (c : ℕ). sized p ((code x, 1) ∷ ((c, p - 1) ∷ [])) ≡ 0) (true-eqb (code x) (code y) (sym e)) (none_size (code x) 1 (p - 1) gone)
      go false e = two_size p (code x) (code y) 1 (p - 1) (false-eqb (code x) (code y) (sym e)) one_some less_some

  -- two variables together
  pub both_size : (x y : Variable) → real x ≡ true → real y ≡ true → (sum_of p (times 1 x ∷ (times 1 y ∷ []))).size ≡ cond (eqb (code x) (code y)) 1 2
  both_size x y rx ry = (λ i. sized p ((code x, counts x 1 rx i) ∷ ((code y, counts y 1 ry i) ∷ []))) ∙ go (eqb (code x) (code y)) refl
    where
      go : (t : Bool) → eqb (code x) (code y) ≡ t → sized p ((code x, 1) ∷ ((code y, 1) ∷ [])) ≡ cond t 1 2
      go true e = subst (λ (c : ℕ). sized p ((code x, 1) ∷ ((c, 1) ∷ [])) ≡ 1) (true-eqb (code x) (code y) (sym e)) (once_size (code x) 1 1 twice_some)
      go false e = two_size p (code x) (code y) 1 1 (false-eqb (code x) (code y) (sym e)) one_some one_some

  -- a constant, and a variable with one
  pub ones_size : (k : ℕ) → (k % p ≡ 0 → ⊥) → (sum_of p (times k One ∷ [])).size ≡ 1
  ones_size k h = one_size p 0 k h

  pub one_more_size : (v : Variable) → real v ≡ true → (sum_of p (times 1 One ∷ (times 1 v ∷ []))).size ≡ 2
  one_more_size v r = ap (λ (x : ℕ). sized p ((0, 1) ∷ ((code v, x) ∷ []))) (counts v 1 r) ∙ two_size p 0 (code v) 1 1 (one_apart v r) one_some one_some

  pub more_size : (v : Variable) (k : ℕ) → real v ≡ true → (k % p ≡ 0 → ⊥) → (sum_of p (times 1 v ∷ (times k One ∷ []))).size ≡ 2
  more_size v k r h = ap (λ (x : ℕ). sized p ((code v, x) ∷ ((0, k) ∷ []))) (counts v 1 r) ∙ two_size p (code v) 0 1 k (λ e. one_apart v r (sym e)) one_some h
