-- Identities modulo p, by computing: an expression is multiplied out into a sum of monomials, each with a coefficient a - b.
use mathlib.Core.Path.{◌≡◌, refl, sym, ◌∙◌, ap, ap₂, subst}
use mathlib.Core.Bool.{Bool, true, false, ◌&&◌}
use mathlib.Core.List.{List, [], ◌∷◌}
use Prim.Native.Nat.{ℕ, zero, suc, ◌+◌, ◌-◌, ◌*◌, ◌%◌, ◌^◌, ◌<◌, compare, Ordering}
use native.Mathlib.Nat.{zero-add, mul_assoc, mul_left_comm, add-mul, one-mul, mul-zero, zero-mul, add-mod, mod-mod, zero-mod, mod-eq_of_lt, add-mul-mod_self_left, pow-zero, pow-suc}
use native.Mathlib.Numerals.{add-one}
use native.Mathlib.Omega.{arith, nth}
use lib.Dec.{T, eqb, eqb→eq}
use Rattle.arith.proofs.Euclid.{mul_mod_l, mul_mod_r}

-- ---- congruence

infix 4 ◌≈◌modulo◌
abbrev pub ◌≈◌modulo◌ : ℕ → ℕ → ℕ → Type 0
x ≈ y modulo p = x % p ≡ y % p

pub ≈-add : (p x x' y y' : ℕ) → x ≈ x' modulo p → y ≈ y' modulo p → x + y ≈ x' + y' modulo p
≈-add p x x' y y' h k = add-mod x y p ∙ ap₂ (λ (s t : ℕ). (s + t) % p) h k ∙ sym (add-mod x' y' p)

mul_mod : (a b p : ℕ) → (a * b) % p ≡ (a % p * (b % p)) % p
mul_mod a b p = sym (mul_mod_l a b p) ∙ sym (mul_mod_r (a % p) b p)

pub ≈-mul : (p x x' y y' : ℕ) → x ≈ x' modulo p → y ≈ y' modulo p → x * y ≈ x' * y' modulo p
≈-mul p x x' y y' h k = mul_mod x y p ∙ ap₂ (λ (s t : ℕ). (s * t) % p) h k ∙ sym (mul_mod x' y' p)

-- two numbers that multiples of p bring together
pub ≈-by : (p x y u v : ℕ) → x + p * u ≡ y + p * v → x ≈ y modulo p
≈-by p x y u v e = sym (add-mul-mod_self_left x p u) ∙ ap (λ (t : ℕ). t % p) e ∙ add-mul-mod_self_left y p v

up : (p : ℕ) → 0 < p → p - 1 + 1 ≡ p
up p pos = omega arith

-- ---- expressions: a variable by its place, a numeral, -1, the modulus, sums, products, the remainder

infixl 6 ◌⊕◌
infixl 7 ◌⊗◌
infixl 8 ◌^^◌
pub data E : Type 0 where
  var : ℕ → E
  k : ℕ → E
  m1 : E
  modulus : E
  ◌⊕◌ : E → E → E
  ◌⊗◌ : E → E → E
  ◌^^◌ : E → ℕ → E
  nxt : E → E
  rem : E → E

infixl 6 ◌⊖◌
abbrev pub ◌⊖◌ : E → E → E
a ⊖ b = a ⊕ m1 ⊗ b

-- m stands for -1: it is p - 1
abbrev pub den : (p m : ℕ) → List ℕ → E → ℕ
den p m ρ (var i) = nth ρ i
den p m ρ (k n) = n
den p m ρ m1 = m
den p m ρ modulus = p
den p m ρ (a ⊕ b) = den p m ρ a + den p m ρ b
den p m ρ (a ⊗ b) = den p m ρ a * den p m ρ b
den p m ρ (a ^^ n) = den p m ρ a ^ n
den p m ρ (nxt a) = suc (den p m ρ a)
den p m ρ (rem a) = den p m ρ a % p

-- ---- sums of monomials: a coefficient a - b and the places of the factors, in order

pub data Poly : Type 0 where
  nil : Poly
  term : ℕ → ℕ → List ℕ → Poly → Poly

abbrev pub mono : List ℕ → List ℕ → ℕ
mono ρ [] = 1
mono ρ (i ∷ w) = nth ρ i * mono ρ w

abbrev pub ev : ℕ → List ℕ → Poly → ℕ
ev m ρ nil = 0
ev m ρ (term a b w s) = (a + m * b) * mono ρ w + ev m ρ s

abbrev pub pick : Ordering → List ℕ → List ℕ → List ℕ
pick Ordering.lt x y = x
pick Ordering.eq x y = x
pick Ordering.gt x y = y

abbrev pub ins : ℕ → List ℕ → List ℕ
ins i [] = i ∷ []
ins i (j ∷ w) = let r : List ℕ = j ∷ ins i w in pick (compare i j) (i ∷ j ∷ w) r

abbrev pub join : List ℕ → List ℕ → List ℕ
join [] w = w
join (i ∷ v) w = ins i (join v w)

abbrev pub same : List ℕ → List ℕ → Bool
same [] [] = true
same [] (j ∷ w) = false
same (i ∷ v) [] = false
same (i ∷ v) (j ∷ w) = eqb i j && same v w

abbrev pub choose : Bool → Poly → Poly → Poly
choose true s t = s
choose false s t = t

abbrev pub put : ℕ → ℕ → List ℕ → Poly → Poly
put a b v nil = term a b v nil
put a b v (term c d w s) = let r : Poly = term c d w (put a b v s) in choose (same v w) (term (a + c) (b + d) w s) r

abbrev pub plus : Poly → Poly → Poly
plus nil t = t
plus (term a b v s) t = put a b v (plus s t)

abbrev pub scale : ℕ → ℕ → List ℕ → Poly → Poly
scale a b v nil = nil
scale a b v (term c d w s) = term (a * c + b * d) (a * d + b * c) (join v w) (scale a b v s)

abbrev pub times : Poly → Poly → Poly
times nil t = nil
times (term a b v s) t = plus (scale a b v t) (times s t)

abbrev pub power : Poly → ℕ → Poly
power s zero = term 1 0 [] nil
power s (suc n) = times (power s n) s

abbrev pub norm : E → Poly
norm (var i) = term 1 0 (i ∷ []) nil
norm (k n) = term n 0 [] nil
norm m1 = term 0 1 [] nil
norm modulus = nil
norm (a ⊕ b) = plus (norm a) (norm b)
norm (a ⊗ b) = times (norm a) (norm b)
norm (a ^^ n) = power (norm a) n
norm (nxt a) = put 1 0 [] (norm a)
norm (rem a) = norm a

-- a - b is zero: whatever p is, or at a numeral p
abbrev pub ever : ℕ → ℕ → Bool
ever a b = eqb a b

abbrev pub here : ℕ → ℕ → ℕ → Bool
here p a b = eqb ((a + (p - 1) * b) % p) 0

-- what is left when the terms go whose coefficient is zero
abbrev pub clean : (ℕ → ℕ → Bool) → Poly → Poly
clean z nil = nil
clean z (term a b w s) = let r : Poly = clean z s in choose (z a b) r (term (a - b) (b - a) w r)

-- nothing is left. A refusal of `done` shows the sum of monomials that is
pub data Left : Poly → Type 0 where
  done : Left nil

-- ---- the meaning is kept, exactly by sums and modulo m + 1 by products

mono_pick : (o : Ordering) (x y ρ : List ℕ) (n : ℕ) → mono ρ x ≡ n → mono ρ y ≡ n → mono ρ (pick o x y) ≡ n
mono_pick Ordering.lt x y ρ n p q = p
mono_pick Ordering.eq x y ρ n p q = p
mono_pick Ordering.gt x y ρ n p q = q

mono_ins : (i : ℕ) (w ρ : List ℕ) → mono ρ (ins i w) ≡ nth ρ i * mono ρ w
mono_ins i [] ρ = refl
mono_ins i (j ∷ w) ρ =
    mono_pick (compare i j) (i ∷ j ∷ w) (j ∷ ins i w) ρ (nth ρ i * (nth ρ j * mono ρ w)) refl
    (ap (λ (t : ℕ). nth ρ j * t) (mono_ins i w ρ) ∙ mul_left_comm (nth ρ j) (nth ρ i) (mono ρ w))

mono_join : (v w ρ : List ℕ) → mono ρ (join v w) ≡ mono ρ v * mono ρ w
mono_join [] w ρ = sym (one-mul (mono ρ w))
mono_join (i ∷ v) w ρ =
    mono_ins i (join v w) ρ ∙ ap (λ (t : ℕ). nth ρ i * t) (mono_join v w ρ) ∙ sym (mul_assoc (nth ρ i) (mono ρ v) (mono ρ w))

and_l : (a b : Bool) → T (a && b) → T a
and_l true b t = tt
and_l false b t = t

and_r : (a b : Bool) → T (a && b) → T b
and_r true b t = t
and_r false b t = absurd t

mono_same : (v w ρ : List ℕ) → T (same v w) → mono ρ v ≡ mono ρ w
mono_same [] [] ρ t = refl
mono_same [] (j ∷ w) ρ t = absurd t
mono_same (i ∷ v) [] ρ t = absurd t
mono_same (i ∷ v) (j ∷ w) ρ t =
    ap₂ (λ (x y : ℕ). nth ρ x * y) (eqb→eq i j (and_l (eqb i j) (same v w) t)) (mono_same v w ρ (and_r (eqb i j) (same v w) t))

ev_choose : (b : Bool) (s t : Poly) (m : ℕ) (ρ : List ℕ) (n : ℕ) → (T b → ev m ρ s ≡ n) → ev m ρ t ≡ n → ev m ρ (choose b s t) ≡ n
ev_choose true s t m ρ n p q = p tt
ev_choose false s t m ρ n p q = q

gather : (m a b c d x y s : ℕ) → x ≡ y → (a + c + m * (b + d)) * y + s ≡ (a + m * b) * x + ((c + m * d) * y + s)
gather m a b c d x y s e = ap (λ (t : ℕ). (a + c + m * (b + d)) * t + s) (sym e) ∙ both ∙ ap (λ (t : ℕ). (a + m * b) * x + ((c + m * d) * t + s)) e
  where
    both : (a + c + m * (b + d)) * x + s ≡ (a + m * b) * x + ((c + m * d) * x + s)
    both = omega arith

ev_put : (a b : ℕ) (v : List ℕ) (s : Poly) (m : ℕ) (ρ : List ℕ) → ev m ρ (put a b v s) ≡ (a + m * b) * mono ρ v + ev m ρ s
ev_put a b v nil m ρ = refl
ev_put a b v (term c d w s) m ρ =
    ev_choose (same v w) (term (a + c) (b + d) w s) (term c d w (put a b v s)) m ρ ((a + m * b) * mono ρ v + ((c + m * d) * mono ρ w + ev m ρ s))
    (λ t. gather m a b c d (mono ρ v) (mono ρ w) (ev m ρ s) (mono_same v w ρ t))
    (omega (arith, ev_put a b v s m ρ))

ev_plus : (s t : Poly) (m : ℕ) (ρ : List ℕ) → ev m ρ (plus s t) ≡ ev m ρ s + ev m ρ t
ev_plus nil t m ρ = sym (zero-add (ev m ρ t))
ev_plus (term a b v s) t m ρ = omega (arith, ev_put a b v (plus s t) m ρ, ev_plus s t m ρ)

-- (a - b)(c - d)
product : (m a b c d : ℕ) → a * c + b * d + m * (a * d + b * c) ≈ (a + m * b) * (c + m * d) modulo (m + 1)
product m a b c d = ≈-by (m + 1) (a * c + b * d + m * (a * d + b * c)) ((a + m * b) * (c + m * d)) (m * (b * d)) (b * d) (omega arith)

ev_scale : (a b : ℕ) (v : List ℕ) (t : Poly) (m : ℕ) (ρ : List ℕ) → ev m ρ (scale a b v t) ≈ (a + m * b) * mono ρ v * ev m ρ t modulo (m + 1)
ev_scale a b v nil m ρ = ap (λ (x : ℕ). x % (m + 1)) (sym (mul-zero ((a + m * b) * mono ρ v)))
ev_scale a b v (term c d w s) m ρ =
    ≈-add (m + 1) ((a * c + b * d + m * (a * d + b * c)) * mono ρ (join v w)) ((a + m * b) * (c + m * d) * (mono ρ v * mono ρ w))
    (ev m ρ (scale a b v s)) ((a + m * b) * mono ρ v * ev m ρ s)
    (≈-mul (m + 1) (a * c + b * d + m * (a * d + b * c)) ((a + m * b) * (c + m * d)) (mono ρ (join v w)) (mono ρ v * mono ρ w)
    (product m a b c d) (ap (λ (x : ℕ). x % (m + 1)) (mono_join v w ρ)))
    (ev_scale a b v s m ρ)
    ∙ ap (λ (x : ℕ). x % (m + 1)) (spread (a + m * b) (c + m * d) (mono ρ v) (mono ρ w) (ev m ρ s))
  where
    spread : (f g x y s : ℕ) → f * g * (x * y) + f * x * s ≡ f * x * (g * y + s)
    spread f g x y s = omega arith

ev_times : (s t : Poly) (m : ℕ) (ρ : List ℕ) → ev m ρ (times s t) ≈ ev m ρ s * ev m ρ t modulo (m + 1)
ev_times nil t m ρ = ap (λ (x : ℕ). x % (m + 1)) (sym (zero-mul (ev m ρ t)))
ev_times (term a b v s) t m ρ =
    ap (λ (x : ℕ). x % (m + 1)) (ev_plus (scale a b v t) (times s t) m ρ)
    ∙ ≈-add (m + 1) (ev m ρ (scale a b v t)) ((a + m * b) * mono ρ v * ev m ρ t) (ev m ρ (times s t)) (ev m ρ s * ev m ρ t)
    (ev_scale a b v t m ρ) (ev_times s t m ρ)
    ∙ ap (λ (x : ℕ). x % (m + 1)) (sym (add-mul ((a + m * b) * mono ρ v) (ev m ρ s) (ev m ρ t)))

ev_power : (s : Poly) (n m : ℕ) (ρ : List ℕ) → ev m ρ (power s n) ≈ ev m ρ s ^ n modulo (m + 1)
ev_power s zero m ρ = ap (λ (x : ℕ). x % (m + 1)) (one_term ∙ sym (pow-zero (ev m ρ s)))
  where
    one_term : (1 + m * 0) * 1 + 0 ≡ 1
    one_term = omega arith
ev_power s (suc n) m ρ =
    ev_times (power s n) s m ρ
    ∙ ≈-mul (m + 1) (ev m ρ (power s n)) (ev m ρ s ^ n) (ev m ρ s) (ev m ρ s) (ev_power s n m ρ) refl
    ∙ ap (λ (x : ℕ). x % (m + 1)) (sym (pow-suc (ev m ρ s) n))

pub ≈-pow : (p x y n : ℕ) → x ≈ y modulo p → x ^ n ≈ y ^ n modulo p
≈-pow p x y zero h = ap (λ (t : ℕ). t % p) (pow-zero x ∙ sym (pow-zero y))
≈-pow p x y (suc n) h =
    ap (λ (t : ℕ). t % p) (pow-suc x n) ∙ ≈-mul p (x ^ n) (y ^ n) x y (≈-pow p x y n h) h ∙ ap (λ (t : ℕ). t % p) (sym (pow-suc y n))

pub sound : (e : E) (m : ℕ) (ρ : List ℕ) → den (m + 1) m ρ e ≈ ev m ρ (norm e) modulo (m + 1)
sound (var i) m ρ = ap (λ (x : ℕ). x % (m + 1)) (omega arith)
sound (k n) m ρ = ap (λ (x : ℕ). x % (m + 1)) (omega arith)
sound m1 m ρ = ap (λ (x : ℕ). x % (m + 1)) (omega arith)
sound modulus m ρ = ≈-by (m + 1) (m + 1) 0 0 1 (omega arith)
sound (a ⊕ b) m ρ =
    ≈-add (m + 1) (den (m + 1) m ρ a) (ev m ρ (norm a)) (den (m + 1) m ρ b) (ev m ρ (norm b)) (sound a m ρ) (sound b m ρ)
    ∙ ap (λ (x : ℕ). x % (m + 1)) (sym (ev_plus (norm a) (norm b) m ρ))
sound (a ⊗ b) m ρ =
    ≈-mul (m + 1) (den (m + 1) m ρ a) (ev m ρ (norm a)) (den (m + 1) m ρ b) (ev m ρ (norm b)) (sound a m ρ) (sound b m ρ)
    ∙ sym (ev_times (norm a) (norm b) m ρ)
sound (a ^^ n) m ρ = ≈-pow (m + 1) (den (m + 1) m ρ a) (ev m ρ (norm a)) n (sound a m ρ) ∙ sym (ev_power (norm a) n m ρ)
sound (nxt a) m ρ =
    ap (λ (x : ℕ). x % (m + 1)) (next (den (m + 1) m ρ a))
    ∙ ≈-add (m + 1) ((1 + m * 0) * 1) ((1 + m * 0) * 1) (den (m + 1) m ρ a) (ev m ρ (norm a)) refl (sound a m ρ)
    ∙ ap (λ (x : ℕ). x % (m + 1)) (sym (ev_put 1 0 [] (norm a) m ρ))
  where
    next : (x : ℕ) → suc x ≡ (1 + m * 0) * 1 + x
    next x = omega arith
sound (rem a) m ρ = mod-mod (den (m + 1) m ρ a) (m + 1) ∙ sound a m ρ

-- a test of coefficients that is right modulo m + 1
Tests : ℕ → (ℕ → ℕ → Bool) → Type 0
Tests m z = (a b : ℕ) → T (z a b) → a + m * b ≈ 0 modulo (m + 1)

ever_tests : (m : ℕ) → Tests m ever
unfolding Tests
ever_tests m a b t = ≈-by (m + 1) (a + m * b) 0 0 a (gone (eqb→eq a b t))
  where
    gone : a ≡ b → a + m * b + (m + 1) * 0 ≡ 0 + (m + 1) * a
    gone e = ap (λ (x : ℕ). a + m * x + (m + 1) * 0) (sym e) ∙ omega arith

here_tests : (p : ℕ) → 0 < p → Tests (p - 1) (here p)
unfolding Tests
here_tests p pos a b t =
    subst (λ (q : ℕ). a + (p - 1) * b ≈ 0 modulo q) (sym (up p pos)) (eqb→eq ((a + (p - 1) * b) % p) 0 t ∙ sym (zero-mod p))

gone : (m : ℕ) (z : ℕ → ℕ → Bool) → Tests m z → (a b x s : ℕ) → T (z a b) → s ≈ 0 modulo (m + 1) → (a + m * b) * x + s ≈ 0 modulo (m + 1)
unfolding Tests
gone m z ok a b x s t h =
    ≈-add (m + 1) ((a + m * b) * x) (0 * x) s 0 (≈-mul (m + 1) (a + m * b) 0 x x (ok a b t) refl) h ∙ ap (λ (y : ℕ). y % (m + 1)) flat
  where
    flat : 0 * x + 0 ≡ 0
    flat = omega arith

more : (a b : ℕ) (w : List ℕ) (s : Poly) → Left (term a b w s) → ⊥
more a b w s l = elim l [ ]

ev_clean : (m : ℕ) (z : ℕ → ℕ → Bool) → Tests m z → (s : Poly) (ρ : List ℕ) → Left (clean z s) → ev m ρ s ≈ 0 modulo (m + 1)
ev_clean m z ok nil ρ l = refl
ev_clean m z ok (term a b w s) ρ l = go (ev_clean m z ok s ρ) (z a b) (λ t. t) l
  where
    go : (Left (clean z s) → ev m ρ s ≈ 0 modulo (m + 1)) → (c : Bool) → (T c → T (z a b)) → Left (choose c (clean z s) (term (a - b) (b - a) w (clean z s)))
        → (a + m * b) * mono ρ w + ev m ρ s ≈ 0 modulo (m + 1)
    go f true t l = gone m z ok a b (mono ρ w) (ev m ρ s) (t tt) (f l)
    go f false t l = absurd (more (a - b) (b - a) w (clean z s) l)

-- ---- what is claimed: an equation modulo p, that something is zero modulo p, or an equation of numbers

infix 4 ◌≐◌ ◌≐0 ◌≐≐◌ ◌≐<◌
pub data Eqn : Type 0 where
  ◌≐◌ : E → E → Eqn
  ◌≐0 : E → Eqn
  ◌≐≐◌ : E → E → Eqn
  ◌≐<◌ : E → E → Eqn

-- a goal, behind hypotheses: one is multiplied by an expression and taken off, or puts its right side for the variable that is its left side
infixr 2 ◌⟪◌⟫◌ ≔⟪◌⟫◌
pub data Claim : Type 0 where
  goal : Eqn → Claim
  ◌⟪◌⟫◌ : E → Eqn → Claim → Claim
  ≔⟪◌⟫◌ : Eqn → Claim → Claim

abbrev pub Given : (p m : ℕ) → List ℕ → Eqn → Type 0
Given p m ρ (a ≐ b) = den p m ρ a % p ≡ den p m ρ b % p
Given p m ρ (a ≐0) = den p m ρ a % p ≡ 0
Given p m ρ (a ≐≐ b) = den p m ρ a ≡ den p m ρ b
Given p m ρ (a ≐< b) = den p m ρ a % p ≡ den p m ρ b

abbrev pub Wanted : (p m : ℕ) → List ℕ → Eqn → Type 0
Wanted p m ρ (a ≐ b) = den p m ρ a % p ≡ den p m ρ b % p
Wanted p m ρ (a ≐0) = den p m ρ a % p ≡ 0
Wanted p m ρ (a ≐≐ b) = den p m ρ a < p → den p m ρ b < p → den p m ρ a ≡ den p m ρ b
Wanted p m ρ (a ≐< b) = den p m ρ b < p → den p m ρ a % p ≡ den p m ρ b

abbrev pub Says : (p m : ℕ) → List ℕ → Claim → Type 0
Says p m ρ (goal g) = Wanted p m ρ g
Says p m ρ (c ⟪ h ⟫ s) = Given p m ρ h → Says p m ρ s
Says p m ρ (≔⟪ h ⟫ s) = Given p m ρ h → Says p m ρ s

abbrev pub diff : Eqn → E
diff (a ≐ b) = a ⊖ b
diff (a ≐0) = a
diff (a ≐≐ b) = a ⊖ b
diff (a ≐< b) = a ⊖ b

abbrev pub lhs : Eqn → E
lhs (a ≐ b) = a
lhs (a ≐0) = a
lhs (a ≐≐ b) = a
lhs (a ≐< b) = a

abbrev pub rhs : Eqn → E
rhs (a ≐ b) = b
rhs (a ≐0) = k 0
rhs (a ≐≐ b) = b
rhs (a ≐< b) = b

abbrev pub either : Bool → E → E → E
either true a b = a
either false a b = b

-- e for the variable i
abbrev pub replace : ℕ → E → E → E
replace i e (var j) = either (eqb i j) e (var j)
replace i e (k n) = k n
replace i e m1 = m1
replace i e modulus = modulus
replace i e (a ⊕ b) = replace i e a ⊕ replace i e b
replace i e (a ⊗ b) = replace i e a ⊗ replace i e b
replace i e (a ^^ n) = replace i e a ^^ n
replace i e (nxt a) = nxt (replace i e a)
replace i e (rem a) = rem (replace i e a)

abbrev pub swapped : E → E → E → E
swapped (var i) e r = replace i e r
swapped (k n) e r = r
swapped m1 e r = r
swapped modulus e r = r
swapped (a ⊕ b) e r = r
swapped (a ⊗ b) e r = r
swapped (a ^^ n) e r = r
swapped (nxt a) e r = r
swapped (rem a) e r = swapped a e r

abbrev pub rest : Claim → E
rest (goal g) = diff g
rest (c ⟪ h ⟫ s) = rest s ⊖ c ⊗ diff h
rest (≔⟪ h ⟫ s) = swapped (lhs h) (rhs h) (rest s)

-- a function of as many expressions as there are numbers, at the variables
abbrev pub Over : List ℕ → Type 0
Over [] = Claim
Over (x ∷ ρ) = E → Over ρ

abbrev pub at : (ρ : List ℕ) → ℕ → Over ρ → Claim
at [] i f = f
at (x ∷ ρ) i f = at ρ (suc i) (f (var i))

-- ---- a claim holds where what is left of it vanishes

sub_zero : (m x y : ℕ) → x + m * y ≈ 0 modulo (m + 1) → x ≈ y modulo (m + 1)
sub_zero m x y h =
    ≈-by (m + 1) x (x + m * y + y) y 0 (omega arith)
    ∙ ≈-add (m + 1) (x + m * y) 0 y y h refl
    ∙ ap (λ (t : ℕ). t % (m + 1)) (zero-add y)

zero_sub : (m x y : ℕ) → x ≈ y modulo (m + 1) → x + m * y ≈ 0 modulo (m + 1)
zero_sub m x y h =
    ≈-add (m + 1) x y (m * y) (m * y) h refl ∙ ≈-by (m + 1) (y + m * y) 0 0 y (omega arith)

drop_zero : (m x c z : ℕ) → z ≈ 0 modulo (m + 1) → x + m * (c * z) ≈ 0 modulo (m + 1) → x ≈ 0 modulo (m + 1)
drop_zero m x c z hz h =
    sub_zero m x (c * z) h ∙ ≈-mul (m + 1) c c z 0 refl hz ∙ ap (λ (t : ℕ). t % (m + 1)) (mul-zero c)

diff_given : (m : ℕ) (ρ : List ℕ) (h : Eqn) → Given (m + 1) m ρ h → den (m + 1) m ρ (diff h) ≈ 0 modulo (m + 1)
diff_given m ρ (a ≐ b) g = zero_sub m (den (m + 1) m ρ a) (den (m + 1) m ρ b) g
diff_given m ρ (a ≐0) g = g ∙ sym (zero-mod (m + 1))
diff_given m ρ (a ≐≐ b) g = zero_sub m (den (m + 1) m ρ a) (den (m + 1) m ρ b) (ap (λ (t : ℕ). t % (m + 1)) g)
diff_given m ρ (a ≐< b) g =
    zero_sub m (den (m + 1) m ρ a) (den (m + 1) m ρ b) (sym (mod-mod (den (m + 1) m ρ a) (m + 1)) ∙ ap (λ (t : ℕ). t % (m + 1)) g)

diff_wanted : (m : ℕ) (ρ : List ℕ) (h : Eqn) → den (m + 1) m ρ (diff h) ≈ 0 modulo (m + 1) → Wanted (m + 1) m ρ h
diff_wanted m ρ (a ≐ b) z = sub_zero m (den (m + 1) m ρ a) (den (m + 1) m ρ b) z
diff_wanted m ρ (a ≐0) z = z ∙ zero-mod (m + 1)
diff_wanted m ρ (a ≐≐ b) z = λ l r. sym (mod-eq_of_lt l) ∙ sub_zero m (den (m + 1) m ρ a) (den (m + 1) m ρ b) z ∙ mod-eq_of_lt r
diff_wanted m ρ (a ≐< b) z = λ r. sub_zero m (den (m + 1) m ρ a) (den (m + 1) m ρ b) z ∙ mod-eq_of_lt r

given_cong : (m : ℕ) (ρ : List ℕ) (h : Eqn) → Given (m + 1) m ρ h → den (m + 1) m ρ (lhs h) ≈ den (m + 1) m ρ (rhs h) modulo (m + 1)
given_cong m ρ (a ≐ b) g = g
given_cong m ρ (a ≐0) g = g ∙ sym (zero-mod (m + 1))
given_cong m ρ (a ≐≐ b) g = ap (λ (t : ℕ). t % (m + 1)) g
given_cong m ρ (a ≐< b) g = sym (mod-mod (den (m + 1) m ρ a) (m + 1)) ∙ ap (λ (t : ℕ). t % (m + 1)) g

den_either : (t : Bool) (a b : E) (m n : ℕ) (ρ : List ℕ)
    → (T t → den (m + 1) m ρ a ≈ n modulo (m + 1)) → den (m + 1) m ρ b ≈ n modulo (m + 1) → den (m + 1) m ρ (either t a b) ≈ n modulo (m + 1)
den_either true a b m n ρ f g = f tt
den_either false a b m n ρ f g = g

replace_ok : (m : ℕ) (ρ : List ℕ) (i : ℕ) (e : E) → nth ρ i ≈ den (m + 1) m ρ e modulo (m + 1)
    → (r : E) → den (m + 1) m ρ (replace i e r) ≈ den (m + 1) m ρ r modulo (m + 1)
replace_ok m ρ i e h (var j) =
    den_either (eqb i j) e (var j) m (nth ρ j) ρ (λ t. sym h ∙ ap (λ (x : ℕ). nth ρ x % (m + 1)) (eqb→eq i j t)) refl
replace_ok m ρ i e h (k n) = refl
replace_ok m ρ i e h m1 = refl
replace_ok m ρ i e h modulus = refl
replace_ok m ρ i e h (a ⊕ b) =
    ≈-add (m + 1) (den (m + 1) m ρ (replace i e a)) (den (m + 1) m ρ a) (den (m + 1) m ρ (replace i e b)) (den (m + 1) m ρ b)
    (replace_ok m ρ i e h a) (replace_ok m ρ i e h b)
replace_ok m ρ i e h (a ⊗ b) =
    ≈-mul (m + 1) (den (m + 1) m ρ (replace i e a)) (den (m + 1) m ρ a) (den (m + 1) m ρ (replace i e b)) (den (m + 1) m ρ b)
    (replace_ok m ρ i e h a) (replace_ok m ρ i e h b)
replace_ok m ρ i e h (a ^^ n) = ≈-pow (m + 1) (den (m + 1) m ρ (replace i e a)) (den (m + 1) m ρ a) n (replace_ok m ρ i e h a)
replace_ok m ρ i e h (nxt a) =
    ap (λ (x : ℕ). x % (m + 1)) (sym (add-one (den (m + 1) m ρ (replace i e a))))
    ∙ ≈-add (m + 1) (den (m + 1) m ρ (replace i e a)) (den (m + 1) m ρ a) 1 1 (replace_ok m ρ i e h a) refl
    ∙ ap (λ (x : ℕ). x % (m + 1)) (add-one (den (m + 1) m ρ a))
replace_ok m ρ i e h (rem a) = ap (λ (x : ℕ). x % (m + 1)) (replace_ok m ρ i e h a)

swapped_ok : (m : ℕ) (ρ : List ℕ) (x e : E) → den (m + 1) m ρ x ≈ den (m + 1) m ρ e modulo (m + 1)
    → (r : E) → den (m + 1) m ρ (swapped x e r) ≈ den (m + 1) m ρ r modulo (m + 1)
swapped_ok m ρ (var i) e h r = replace_ok m ρ i e h r
swapped_ok m ρ (k n) e h r = refl
swapped_ok m ρ m1 e h r = refl
swapped_ok m ρ modulus e h r = refl
swapped_ok m ρ (a ⊕ b) e h r = refl
swapped_ok m ρ (a ⊗ b) e h r = refl
swapped_ok m ρ (a ^^ n) e h r = refl
swapped_ok m ρ (nxt a) e h r = refl
swapped_ok m ρ (rem a) e h r = swapped_ok m ρ a e (sym (mod-mod (den (m + 1) m ρ a) (m + 1)) ∙ h) r

holds : (m : ℕ) (ρ : List ℕ) (s : Claim) → den (m + 1) m ρ (rest s) ≈ 0 modulo (m + 1) → Says (m + 1) m ρ s
holds m ρ (goal g) z = diff_wanted m ρ g z
holds m ρ (c ⟪ h ⟫ s) z = λ g.
    holds m ρ s (drop_zero m (den (m + 1) m ρ (rest s)) (den (m + 1) m ρ c) (den (m + 1) m ρ (diff h)) (diff_given m ρ h g) z)
holds m ρ (≔⟪ h ⟫ s) z = λ g.
    holds m ρ s (sym (swapped_ok m ρ (lhs h) (rhs h) (given_cong m ρ h g) (rest s)) ∙ z)

claimed : (p : ℕ) → 0 < p → (z : ℕ → ℕ → Bool) → Tests (p - 1) z → (ρ : List ℕ) (s : Claim) → Left (clean z (norm (rest s))) → Says p (p - 1) ρ s
claimed p pos z ok ρ s l =
    subst (λ (q : ℕ). Says q (p - 1) ρ s) (up p pos)
    (holds (p - 1) ρ s (sound (rest s) (p - 1) ρ ∙ ev_clean (p - 1) z ok (norm (rest s)) ρ l))

pub lin_here : (p : ℕ) → 0 < p → (ρ : List ℕ) (s : Claim) → Left (clean (here p) (norm (rest s))) → Says p (p - 1) ρ s
lin_here p pos ρ s l = claimed p pos (here p) (here_tests p pos) ρ s l

pub lin_of : (p : ℕ) → 0 < p → (ρ : List ℕ) (s : Claim) → Left (clean ever (norm (rest s))) → Says p (p - 1) ρ s
lin_of p pos ρ s l = claimed p pos ever (ever_tests (p - 1)) ρ s l

-- the claim f at the numbers ρ: `done` where what is left multiplies out to nothing
pub lin : (p : ℕ) → 0 < p → (ρ : List ℕ) (f : Over ρ) → Left (clean ever (norm (rest (at ρ 0 f)))) → Says p (p - 1) ρ (at ρ 0 f)
lin p pos ρ f l = claimed p pos ever (ever_tests (p - 1)) ρ (at ρ 0 f) l

-- the same at a numeral p: a coefficient goes if p divides it
pub lin_at : (p : ℕ) → 0 < p → (ρ : List ℕ) (f : Over ρ) → Left (clean (here p) (norm (rest (at ρ 0 f)))) → Says p (p - 1) ρ (at ρ 0 f)
lin_at p pos ρ f l = claimed p pos (here p) (here_tests p pos) ρ (at ρ 0 f) l
