-- A sum's value follows from its coefficients alone, whatever the order of its terms.
use Rattle.std.proofs.Common.{◌≡◌, ℕ, zero, suc, ◌+◌, ◌*◌, ◌%◌, ◌<◌, ◌≤◌, Bool, true, false, cond, eqb, List, [], ◌∷◌, length, sym, refl, ap, ◌∙◌, subst, inl, inr, mod-lt, mod-eq_of_lt, add-mul, eq-or-lt_of_le, arith, eq-eqb, ne_eqb}
use native.Mathlib.Nat.{add-mod, mod-mod, zero-mod}
use Rattle.arith.proofs.Euclid.{mul_mod_l}
use Rattle.relations.specs.declared.term.Term.{Term}
use Rattle.relations.specs.Sum.{Pairs, handed, total, value, decode, code, sum_of, all_in}
use Rattle.words.specs.Words.{plain, whole}
use Rattle.words.proofs.Merging.{merged_total}

abbrev pub sum_to : ℕ → (ℕ → ℕ) → ℕ
sum_to zero f = 0
sum_to (suc n) f = sum_to n f + f n

abbrev pub CodesBelow : ℕ → Pairs → Type 0
CodesBelow n [] = Unit {0}
CodesBelow n (t ∷ ts) = (t.0 < n) × CodesBelow n ts

-- equal remainders may stand for one another in a sum
pub left : (p a b c : ℕ) → a % p ≡ b % p → (a + c) % p ≡ (b + c) % p
left p a b c e = add-mod a c p ∙ ap (λ (x : ℕ). (x + c % p) % p) e ∙ sym (add-mod b c p)

pub right : (p a b c : ℕ) → a % p ≡ b % p → (c + a) % p ≡ (c + b) % p
right p a b c e = add-mod c a p ∙ ap (λ (x : ℕ). (c % p + x) % p) e ∙ sym (add-mod c b p)

total_from : (p a : ℕ) (ts : Pairs) (c : ℕ) → a < p → total p a ts c ≡ (a + total p 0 ts c) % p
total_from p a [] c h = sym (mod-eq_of_lt h) ∙ ap (λ (x : ℕ). x % p) (plus_zero a)
  where
    plus_zero : (n : ℕ) → n ≡ n + 0
    plus_zero n = omega arith
total_from p a (t ∷ ts) c h = go (eqb t.0 c) (λ x l. total_from p x ts c l)
  where
    pos : 0 < p
    pos = omega arith

    zero_plus : (n : ℕ) → 0 + n ≡ n
    zero_plus n = omega arith

    go : (b : Bool) → ((x : ℕ) → x < p → total p x ts c ≡ (x + total p 0 ts c) % p) → total p (cond b ((a + t.1) % p) a) ts c ≡ (a + total p (cond b ((0 + t.1) % p) 0) ts c) % p
    go false ih = ih a h
    go true ih =
        ih ((a + t.1) % p) (mod-lt (a + t.1) pos)
        ∙ left p ((a + t.1) % p) (a + t.1) (total p 0 ts c) (mod-mod (a + t.1) p)
        ∙ ap (λ (x : ℕ). x % p) (shift a t.1 (total p 0 ts c))
        ∙ right p (0 + t.1 + total p 0 ts c) (total p ((0 + t.1) % p) ts c) a
        (sym (left p ((0 + t.1) % p) (0 + t.1) (total p 0 ts c) (mod-mod (0 + t.1) p))
        ∙ sym (mod-mod ((0 + t.1) % p + total p 0 ts c) p) ∙ ap (λ (x : ℕ). x % p) (sym (ih ((0 + t.1) % p) (mod-lt (0 + t.1) pos))))
      where
        shift : (x y z : ℕ) → x + y + z ≡ x + (0 + y + z)
        shift x y z = omega arith

-- one more term changes one coefficient
pub total_here : (p k : ℕ) (ts : Pairs) (d c : ℕ) → 0 < p → d ≡ c → total p 0 ((d, k) ∷ ts) c ≡ (k + total p 0 ts c) % p
total_here p k ts d c h e =
    ap (λ (b : Bool). total p (cond b ((0 + k) % p) 0) ts c) (eq-eqb d c e)
    ∙ total_from p ((0 + k) % p) ts c (mod-lt (0 + k) h)
    ∙ left p ((0 + k) % p) (0 + k) (total p 0 ts c) (mod-mod (0 + k) p)
    ∙ ap (λ (x : ℕ). (x + total p 0 ts c) % p) (zero_plus k)
  where
    zero_plus : (n : ℕ) → 0 + n ≡ n
    zero_plus n = omega arith

pub total_there : (p k : ℕ) (ts : Pairs) (d c : ℕ) → (d ≡ c → ⊥) → total p 0 ((d, k) ∷ ts) c ≡ total p 0 ts c
total_there p k ts d c ne = ap (λ (b : Bool). total p (cond b ((0 + k) % p) 0) ts c) (ne_eqb d c ne)

-- sums that are the same at each place
pub sum_same : (n : ℕ) (f g : ℕ → ℕ) → ((j : ℕ) → j < n → f j ≡ g j) → sum_to n f ≡ sum_to n g
sum_same zero f g e = refl
sum_same (suc n) f g e = λ i. sum_same n f g (λ j h. e j (omega arith)) i + e n (omega arith) i

-- sums that differ at one place
pub sum_update : (p n : ℕ) (f g : ℕ → ℕ) (d x : ℕ) → d < n → ((j : ℕ) → j < n → (d ≡ j → ⊥) → g j ≡ f j) → g d % p ≡ (x + f d) % p → sum_to n g % p ≡ (x + sum_to n f) % p
sum_update p zero f g d x h e u = absurd (omega arith)
sum_update p (suc n) f g d x h e u =
    elim (eq-or-lt_of_le {n = d} {m = n} (omega arith)) [
      | inl q ↦
          ap (λ (y : ℕ). (y + g n) % p) (sum_same n g f (λ j l. e j (omega arith) (λ z. omega arith)))
          ∙ right p (g n) (x + f n) (sum_to n f) (subst (λ (y : ℕ). g y % p ≡ (x + f y) % p) q u)
          ∙ ap (λ (y : ℕ). y % p) (swap (sum_to n f) x (f n))
      | inr l ↦
          ap (λ (y : ℕ). (sum_to n g + y) % p) (e n (omega arith) (λ z. omega arith))
          ∙ left p (sum_to n g) (x + sum_to n f) (f n) (sum_update p n f g d x l (λ j b. e j (omega arith)) u)
          ∙ ap (λ (y : ℕ). y % p) (group x (sum_to n f) (f n))
    ]
  where
    swap : (a b c : ℕ) → a + (b + c) ≡ b + (a + c)
    swap a b c = omega arith

    group : (a b c : ℕ) → a + b + c ≡ a + (b + c)
    group a b c = omega arith

pub value_is : (p n : ℕ) (a : ℕ → ℕ) (ts : Pairs) → 0 < p → CodesBelow n ts → value p a ts ≡ sum_to n (λ c. total p 0 ts c * a c) % p
value_is p n a [] h b = sym (ap (λ (x : ℕ). x % p) (none n) ∙ zero-mod p)
  where
    none : (m : ℕ) → sum_to m (λ c. total p 0 [] c * a c) ≡ 0
    none zero = refl
    none (suc m) = omega (arith, none m)
value_is p n a (t ∷ ts) h b =
    right p (value p a ts) (sum_to n (λ c. total p 0 ts c * a c)) (t.1 * a t.0) (ap (λ (x : ℕ). x % p) (value_is p n a ts h b.1) ∙ mod-mod (sum_to n (λ c. total p 0 ts c * a c)) p)
    ∙ sym (sum_update p n (λ c. total p 0 ts c * a c) (λ c. total p 0 (t ∷ ts) c * a c) t.0 (t.1 * a t.0) b.0
    (λ c l ne. ap (λ (x : ℕ). x * a c) (total_there p t.1 ts t.0 c ne))
    (ap (λ (x : ℕ). (x * a t.0) % p) (total_here p t.1 ts t.0 t.0 h refl)
    ∙ mul_mod_l (t.1 + total p 0 ts t.0) (a t.0) p
    ∙ ap (λ (x : ℕ). x % p) (add-mul t.1 (total p 0 ts t.0) (a t.0))))

-- so two lists with the same coefficients have the same value
pub value_same : (p n : ℕ) (a : ℕ → ℕ) (ts us : Pairs) → 0 < p → CodesBelow n ts → CodesBelow n us → ((c : ℕ) → total p 0 ts c ≡ total p 0 us c) → value p a ts ≡ value p a us
value_same p n a ts us h b d e =
    value_is p n a ts h b ∙ ap (λ (x : ℕ). x % p) (sum_same n (λ c. total p 0 ts c * a c) (λ c. total p 0 us c * a c) (λ c l. ap (λ (x : ℕ). x * a c) (e c))) ∙ sym (value_is p n a us h d)

-- every list has a bound of its codes
abbrev bound : Pairs → ℕ
bound [] = 0
bound (t ∷ ts) = t.0 + 1 + bound ts

bounded : (n : ℕ) (ts : Pairs) → bound ts ≤ n → CodesBelow n ts
bounded n [] h = tt
bounded n (t ∷ ts) h = (omega arith, bounded n ts (omega arith))

-- what is stored means the sum that was handed in
pub stored_means : (p : ℕ) (ts : List Term) → 0 < p → plain p (whole p ts) ≡ sum_of p ts
stored_means p ts h = λ i. record {
  value = λ a. value_same p (bound (whole p ts) + bound (handed ts)) (λ c. a (decode c)) (whole p ts) (handed ts) h (bounded _ (whole p ts) (omega arith)) (bounded _ (handed ts) (omega arith)) (λ c. merged_total p (handed ts) c h) i;
  at = λ v. merged_total p (handed ts) (code v) h i;
  size = length (whole p ts);
  within = λ n w e. all_in n w e (whole p ts);
}
