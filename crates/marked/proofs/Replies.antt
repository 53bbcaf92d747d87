-- Which numbers obey a history, listed.
use Rattle.std.proofs.Common.{◌≡◌, ◌≢◌, ℕ, zero, suc, ◌+◌, ◌-◌, ◌*◌, ◌%◌, ◌<◌, ◌≤◌, Bool, true, false, not, cond, eqb, leb, ◌⊎◌, inl, inr, List, [], ◌∷◌, ◌++◌, length, get_or, Some, None, Ok, Err, Option, sym, refl, ap, ◌∙◌, subst, arith, leb-true, le-leb}
use borrow.Author.Tests.{eqb-true, eqb-false, eq-eqb}
use Rattle.boolean.specs.declared.mode.AllocationMode.{AllocationMode}
use Rattle.boolean.specs.declared.mode.AllocationMode.TheVariants.{Constant as as_constant, Input as as_input, Witness as as_witness}
use Rattle.allocated.specs.Gates.{bit, truth, applied, either}
use Rattle.gates.specs.Kary.{all_of, any_of}
use Rattle.bit_laws.specs.Bits.{Valued, truths, spelled}
use Rattle.command.specs.declared.commands.Range.{Range}
use Rattle.command.specs.declared.commands.Kary.{Kary}
use Rattle.command.specs.declared.commands.Kary.TheVariants.{And, Or, Nand, EnforceNand}
use Rattle.command.specs.declared.commands.Claim.{Claim}
use Rattle.command.specs.declared.commands.Claim.TheVariants.{Equal, Unequal}
use Rattle.command.specs.declared.commands.Command.{Command}
use Rattle.command.specs.declared.commands.Command.TheVariants.{Bit as BitCommand, Clone, Not, Gated, Kary as KaryCommand, IsEqual, Select, Enforce, AtMost, Number as NumberCommand, Binary as BinaryCommand, Unary as UnaryCommand, MulEquals, SquareEquals, Compare, EnforceNumbers, SelectNumber, FromBit}
use Rattle.command.specs.declared.commands.Binary.{Binary}
use Rattle.command.specs.declared.commands.Binary.TheVariants.{Add, Sub, Mul}
use Rattle.command.specs.declared.commands.Unary.{Unary}
use Rattle.command.specs.declared.commands.Unary.TheVariants.{Negate, Double, Inverse}
use Rattle.command.specs.declared.commands.Comparison.{Comparison}
use Rattle.command.specs.declared.commands.Comparison.TheVariants.{IsEq, IsNeq}
use Rattle.command.specs.Answers.{mode_of, value_of, element_of, number_of as tape_number}
use Rattle.number_laws.specs.Numbers.{NewFp, Inverts}
use Rattle.laws.specs.History.{Obeys}
use Rattle.laws.proofs.Frame.{Only, Nothing}
use Rattle.readings.specs.Readings.{numbers_at, KaryReading, ClaimReading, BinaryReading, UnaryReading, CompareReading, Reading}
use Rattle.readings.specs.Runs.{History, entries}
use Rattle.marked.specs.Lines.{Among}

-- ---- the numbers that a command's answers may have
-- one number, or two
abbrev one_number : ℕ → List (List ℕ)
one_number y = (y ∷ []) ∷ []

abbrev two_numbers : List (List ℕ)
two_numbers = (0 ∷ []) ∷ ((1 ∷ []) ∷ [])

-- no number, where a statement holds
abbrev no_number : Bool → List (List ℕ)
no_number true = [] ∷ []
no_number false = []

-- the lists yss are those that R allows
record Listed (R : List ℕ → Type 0) (yss : List (List ℕ)) : Type 0 where
  among : (ys : List ℕ) → R ys → Among ys yss
  allowed : (ys : List ℕ) → Among ys yss → R ys

-- an answer that is a function of the numbers so far
listed_one : (f : List ℕ → ℕ) (xs : List ℕ) → Listed (Only (λ zs y. y ≡ f zs) xs) (one_number (f xs))
listed_one f xs = record { among = among; allowed = allowed }
  where
    among : (ys : List ℕ) → Only (λ zs y. y ≡ f zs) xs ys → Among ys (one_number (f xs))
    among [] h = absurd h
    among (y ∷ []) h = inl (ap (λ (z : ℕ). z ∷ []) h)
    among (y ∷ z ∷ ys) h = absurd h

    allowed : (ys : List ℕ) → Among ys (one_number (f xs)) → Only (λ zs y. y ≡ f zs) xs ys
    allowed ys (inl e) = subst (Only (λ zs y. y ≡ f zs) xs) (sym e) refl
    allowed ys (inr h) = absurd h

-- a statement that a test decides
listed_none : (S : List ℕ → Type 0) (xs : List ℕ) (t : Bool) → (t ≡ true → S xs) → (t ≡ false → S xs → ⊥) → Listed (Nothing S xs) (no_number t)
listed_none S xs true h k = record { among = among; allowed = allowed }
  where
    among : (ys : List ℕ) → Nothing S xs ys → Among ys (no_number true)
    among [] q = inl refl
    among (y ∷ ys) q = absurd q

    allowed : (ys : List ℕ) → Among ys (no_number true) → Nothing S xs ys
    allowed ys (inl e) = subst (Nothing S xs) (sym e) (h refl)
    allowed ys (inr q) = absurd q
listed_none S xs false h k = record { among = among; allowed = λ ys q. absurd q }
  where
    among : (ys : List ℕ) → Nothing S xs ys → Among ys (no_number false)
    among [] q = k refl q
    among (y ∷ ys) q = absurd q

-- a new bit is free, unless it is a constant that is given
abbrev new_numbers : AllocationMode → Option Bool → List (List ℕ)
new_numbers as_constant None = two_numbers
new_numbers as_constant (Some b) = one_number (bit b)
new_numbers as_input o = two_numbers
new_numbers as_witness o = two_numbers

abbrev NewBit : AllocationMode → Option Bool → List ℕ → List ℕ → Type 0
NewBit m o xs ys = Only (λ zs y. (y ≤ 1) × Valued m o y) xs ys

listed_free : (m : AllocationMode) (o : Option Bool) (xs : List ℕ) → ((y : ℕ) → Valued m o y) → Listed (NewBit m o xs) two_numbers
listed_free m o xs v = record { among = among; allowed = allowed }
  where
    among : (ys : List ℕ) → NewBit m o xs ys → Among ys two_numbers
    among [] h = absurd h
    among (y ∷ []) h = go y h.0
      where
        go : (y : ℕ) → y ≤ 1 → Among (y ∷ []) two_numbers
        go zero q = inl refl
        go (suc zero) q = inr (inl refl)
        go (suc (suc z)) q = absurd (omega arith)
    among (y ∷ z ∷ ys) h = absurd h

    allowed : (ys : List ℕ) → Among ys two_numbers → NewBit m o xs ys
    allowed ys (inl e) = subst (NewBit m o xs) (sym e) (omega arith, v 0)
    allowed ys (inr (inl e)) = subst (NewBit m o xs) (sym e) (omega arith, v 1)
    allowed ys (inr (inr h)) = absurd h

listed_new : (m : AllocationMode) (o : Option Bool) (xs : List ℕ) → Listed (NewBit m o xs) (new_numbers m o)
listed_new as_constant None xs = listed_free as_constant None xs (λ y. tt)
listed_new as_constant (Some b) xs = record { among = among; allowed = allowed }
  where
    low : (b : Bool) → bit b ≤ 1
    low true = omega arith
    low false = omega arith

    among : (ys : List ℕ) → NewBit as_constant (Some b) xs ys → Among ys (one_number (bit b))
    among [] h = absurd h
    among (y ∷ []) h = inl (ap (λ (z : ℕ). z ∷ []) h.1)
    among (y ∷ z ∷ ys) h = absurd h

    allowed : (ys : List ℕ) → Among ys (one_number (bit b)) → NewBit as_constant (Some b) xs ys
    allowed ys (inl e) = subst (NewBit as_constant (Some b) xs) (sym e) (low b, refl)
    allowed ys (inr h) = absurd h
listed_new as_input o xs = listed_free as_input o xs (λ y. tt)
listed_new as_witness o xs = listed_free as_witness o xs (λ y. tt)

-- whether a statement under the condition c holds of a and b
abbrev claimed : Claim → ℕ → ℕ → ℕ → Bool
claimed Equal a b c = either (not (eqb c 1)) (eqb a b)
claimed Unequal a b c = either (not (eqb c 1)) (not (eqb a b))

listed_claim : (e : Claim) (a b c : ℕ) (xs : List ℕ) → Listed (ClaimReading e a b c xs) (no_number (claimed e (get_or xs a 0) (get_or xs b 0) (get_or xs c 0)))
listed_claim Equal a b c xs = listed_none (λ zs. get_or zs c 0 ≡ 1 → get_or zs a 0 ≡ get_or zs b 0) xs _ (yes (eqb (get_or xs c 0) 1) (eqb (get_or xs a 0) (get_or xs b 0)) refl refl) (no (eqb (get_or xs c 0) 1) (eqb (get_or xs a 0) (get_or xs b 0)) refl refl)
  where
    yes : (t u : Bool) → eqb (get_or xs c 0) 1 ≡ t → eqb (get_or xs a 0) (get_or xs b 0) ≡ u → either (not t) u ≡ true → get_or xs c 0 ≡ 1 → get_or xs a 0 ≡ get_or xs b 0
    yes t true h k e q = eqb-true _ _ k
    yes true false h k e q = cc e
    yes false false h k e q = absurd (eqb-false _ _ h q)

    no : (t u : Bool) → eqb (get_or xs c 0) 1 ≡ t → eqb (get_or xs a 0) (get_or xs b 0) ≡ u → either (not t) u ≡ false → (get_or xs c 0 ≡ 1 → get_or xs a 0 ≡ get_or xs b 0) → ⊥
    no true true h k e q = cc (sym e)
    no true false h k e q = eqb-false _ _ k (q (eqb-true _ _ h))
    no false u h k e q = cc (sym e)
listed_claim Unequal a b c xs = listed_none (λ zs. get_or zs c 0 ≡ 1 → get_or zs a 0 ≢ get_or zs b 0) xs _ (yes (eqb (get_or xs c 0) 1) (eqb (get_or xs a 0) (get_or xs b 0)) refl refl) (no (eqb (get_or xs c 0) 1) (eqb (get_or xs a 0) (get_or xs b 0)) refl refl)
  where
    yes : (t u : Bool) → eqb (get_or xs c 0) 1 ≡ t → eqb (get_or xs a 0) (get_or xs b 0) ≡ u → either (not t) (not u) ≡ true → get_or xs c 0 ≡ 1 → get_or xs a 0 ≢ get_or xs b 0
    yes t false h k e q = eqb-false _ _ k
    yes true true h k e q = cc e
    yes false true h k e q = absurd (eqb-false _ _ h q)

    no : (t u : Bool) → eqb (get_or xs c 0) 1 ≡ t → eqb (get_or xs a 0) (get_or xs b 0) ≡ u → either (not t) (not u) ≡ false → (get_or xs c 0 ≡ 1 → get_or xs a 0 ≢ get_or xs b 0) → ⊥
    no true true h k e q = q (eqb-true _ _ h) (eqb-true _ _ k)
    no true false h k e q = cc (sym e)
    no false u h k e q = cc (sym e)

abbrev kary_numbers : Kary → List ℕ → List (List ℕ)
kary_numbers And ns = one_number (bit (all_of (truths ns)))
kary_numbers Or ns = one_number (bit (any_of (truths ns)))
kary_numbers Nand ns = one_number (bit (not (all_of (truths ns))))
kary_numbers EnforceNand ns = no_number (not (all_of (truths ns)))

listed_kary : (k : Kary) (r : Range) (xs : List ℕ) → Listed (KaryReading k r xs) (kary_numbers k (numbers_at xs r))
listed_kary And r xs = listed_one (λ zs. bit (all_of (truths (numbers_at zs r)))) xs
listed_kary Or r xs = listed_one (λ zs. bit (any_of (truths (numbers_at zs r)))) xs
listed_kary Nand r xs = listed_one (λ zs. bit (not (all_of (truths (numbers_at zs r))))) xs
listed_kary EnforceNand r xs = listed_none (λ zs. all_of (truths (numbers_at zs r)) ≡ false) xs _ (yes (all_of (truths (numbers_at xs r))) refl) (no (all_of (truths (numbers_at xs r))))
  where
    yes : (t : Bool) → all_of (truths (numbers_at xs r)) ≡ t → not t ≡ true → all_of (truths (numbers_at xs r)) ≡ false
    yes true h e = cc e
    yes false h e = h

    no : (t : Bool) → not t ≡ false → t ≡ false → ⊥
    no true e h = cc (sym h)
    no false e h = cc (sym e)

-- ---- numbers modulo p
-- those of the numbers below n that pass a test
abbrev such : (ℕ → Bool) → ℕ → List (List ℕ)
such f zero = []
such f (suc n) = cond (f n) ((n ∷ []) ∷ such f n) (such f n)

such_has : (f : ℕ → Bool) (n y : ℕ) → f y ≡ true → y < n → Among (y ∷ []) (such f n)
such_has f zero y t l = absurd (omega (arith, l))
such_has f (suc n) y t l = go (eqb y n) refl (λ k. such_has f n y t k)
  where
    go : (e : Bool) → eqb y n ≡ e → (y < n → Among (y ∷ []) (such f n)) → Among (y ∷ []) (cond (f n) ((n ∷ []) ∷ such f n) (such f n))
    go true e r =
        let same = eqb-true y n e in
        subst (λ (b : Bool). Among (y ∷ []) (cond b ((n ∷ []) ∷ such f n) (such f n))) (sym t ∙ ap f same) (inl (ap (λ (z : ℕ). z ∷ []) same))
    go false e r = later (f n) (r (omega (arith, l, eqb-false y n e)))
      where
        later : (b : Bool) → Among (y ∷ []) (such f n) → Among (y ∷ []) (cond b ((n ∷ []) ∷ such f n) (such f n))
        later true h = inr h
        later false h = h

such_from : (f : ℕ → Bool) (n : ℕ) (ys : List ℕ) → Among ys (such f n) → (y : ℕ) × (ys ≡ y ∷ []) × (f y ≡ true) × (y < n)
such_from f zero ys h = absurd h
such_from f (suc n) ys h = go (f n) refl h (such_from f n ys)
  where
    go : (b : Bool) → f n ≡ b → Among ys (cond b ((n ∷ []) ∷ such f n) (such f n)) → (Among ys (such f n) → (y : ℕ) × (ys ≡ y ∷ []) × (f y ≡ true) × (y < n)) → (y : ℕ) × (ys ≡ y ∷ []) × (f y ≡ true) × (y < suc n)
    go true t (inl e) r = (n, e, t, omega arith)
    go true t (inr q) r = let z = r q in (z.0, z.1, z.2, let l = z.3 in omega (arith, l))
    go false t q r = let z = r q in (z.0, z.1, z.2, let l = z.3 in omega (arith, l))

-- an answer below n that passes a test
listed_such : (f : ℕ → Bool) (n : ℕ) (R : List ℕ → ℕ → Type 0) (xs : List ℕ) → ((y : ℕ) → R xs y → (f y ≡ true) × (y < n)) → ((y : ℕ) → f y ≡ true → y < n → R xs y) → Listed (Only R xs) (such f n)
listed_such f n R xs to from = record { among = among; allowed = allowed }
  where
    among : (ys : List ℕ) → Only R xs ys → Among ys (such f n)
    among [] h = absurd h
    among (y ∷ []) h = such_has f n y (to y h).0 (to y h).1
    among (y ∷ z ∷ ys) h = absurd h

    allowed : (ys : List ℕ) → Among ys (such f n) → Only R xs ys
    allowed ys h = let z = such_from f n ys h in subst (Only R xs) (sym z.1) (from z.0 z.2 z.3)

-- a new number is free, unless it is a constant that is given
abbrev fits_new : ℕ → AllocationMode → Option ℕ → ℕ → Bool
fits_new p as_constant None y = true
fits_new p as_constant (Some x) y = eqb y (x % p)
fits_new p as_input o y = true
fits_new p as_witness o y = true

listed_number : (p : ℕ) (m : AllocationMode) (o : Option ℕ) (xs : List ℕ) → Listed (Only (λ zs y. NewFp p m o y) xs) (such (fits_new p m o) p)
listed_number p as_constant None xs = listed_such (λ y. true) p (λ zs y. NewFp p as_constant None y) xs (λ y h. (refl, h.0)) (λ y t l. (l, tt))
listed_number p as_constant (Some x) xs = listed_such (λ y. eqb y (x % p)) p (λ zs y. NewFp p as_constant (Some x) y) xs (λ y h. (eq-eqb y (x % p) h.1, h.0)) (λ y t l. (l, eqb-true y (x % p) t))
listed_number p as_input o xs = listed_such (λ y. true) p (λ zs y. NewFp p as_input o y) xs (λ y h. (refl, h.0)) (λ y t l. (l, tt))
listed_number p as_witness o xs = listed_such (λ y. true) p (λ zs y. NewFp p as_witness o y) xs (λ y h. (refl, h.0)) (λ y t l. (l, tt))

abbrev binary_number : ℕ → Binary → ℕ → ℕ → ℕ
binary_number p Add x y = (x + y) % p
binary_number p Sub x y = (x + (p - y)) % p
binary_number p Mul x y = (x * y) % p

listed_binary : (p : ℕ) (o : Binary) (a b : ℕ) (xs : List ℕ) → Listed (BinaryReading p o a b xs) (one_number (binary_number p o (get_or xs a 0) (get_or xs b 0)))
listed_binary p Add a b xs = listed_one (λ zs. (get_or zs a 0 + get_or zs b 0) % p) xs
listed_binary p Sub a b xs = listed_one (λ zs. (get_or zs a 0 + (p - get_or zs b 0)) % p) xs
listed_binary p Mul a b xs = listed_one (λ zs. (get_or zs a 0 * get_or zs b 0) % p) xs

abbrev unary_numbers : ℕ → Unary → ℕ → List (List ℕ)
unary_numbers p Negate x = one_number ((p - x) % p)
unary_numbers p Double x = one_number ((2 * x) % p)
unary_numbers p Inverse x = such (λ y. eqb ((x * y) % p) 1) p

listed_unary : (p : ℕ) (o : Unary) (a : ℕ) (xs : List ℕ) → Listed (UnaryReading p o a xs) (unary_numbers p o (get_or xs a 0))
listed_unary p Negate a xs = listed_one (λ zs. (p - get_or zs a 0) % p) xs
listed_unary p Double a xs = listed_one (λ zs. (2 * get_or zs a 0) % p) xs
listed_unary p Inverse a xs = listed_such (λ y. eqb ((get_or xs a 0 * y) % p) 1) p (λ zs y. Inverts p (get_or zs a 0) y) xs (λ y h. (eq-eqb ((get_or xs a 0 * y) % p) 1 h.0, h.1)) (λ y t l. (eqb-true ((get_or xs a 0 * y) % p) 1 t, l))

abbrev compared : Comparison → ℕ → ℕ → Bool
compared IsEq x y = eqb x y
compared IsNeq x y = not (eqb x y)

listed_compare : (o : Comparison) (a b : ℕ) (xs : List ℕ) → Listed (CompareReading o a b xs) (one_number (bit (compared o (get_or xs a 0) (get_or xs b 0))))
listed_compare IsEq a b xs = listed_one (λ zs. bit (eqb (get_or zs a 0) (get_or zs b 0))) xs
listed_compare IsNeq a b xs = listed_one (λ zs. bit (not (eqb (get_or zs a 0) (get_or zs b 0)))) xs

-- a statement that two numbers are the same
listed_same : (f g : List ℕ → ℕ) (xs : List ℕ) → Listed (Nothing (λ zs. f zs ≡ g zs) xs) (no_number (eqb (f xs) (g xs)))
listed_same f g xs = listed_none (λ zs. f zs ≡ g zs) xs (eqb (f xs) (g xs)) (eqb-true (f xs) (g xs)) (eqb-false (f xs) (g xs))

-- ---- the numbers for a command's answers, by the numbers so far
abbrev pub replies : ℕ → Command → List ℕ → List (List ℕ)
replies p (BitCommand m v) xs = new_numbers (mode_of m) (value_of v)
replies p (Clone a) xs = one_number (get_or xs a 0)
replies p (Not a) xs = one_number (bit (not (truth (get_or xs a 0))))
replies p (Gated g a b) xs = one_number (bit (applied g (truth (get_or xs a 0)) (truth (get_or xs b 0))))
replies p (KaryCommand k r) xs = kary_numbers k (numbers_at xs r)
replies p (IsEqual a b) xs = one_number (bit (eqb (get_or xs a 0) (get_or xs b 0)))
replies p (Select c a b) xs = one_number (cond (truth (get_or xs c 0)) (get_or xs a 0) (get_or xs b 0))
replies p (Enforce e a b c) xs = no_number (claimed e (get_or xs a 0) (get_or xs b 0) (get_or xs c 0))
replies p (AtMost r e) xs = no_number (leb (spelled (numbers_at xs r)) (element_of e))
replies p (NumberCommand m t v) xs = such (fits_new p (mode_of m) (tape_number p t v)) p
replies p (BinaryCommand o a b) xs = one_number (binary_number p o (get_or xs a 0) (get_or xs b 0))
replies p (UnaryCommand o a) xs = unary_numbers p o (get_or xs a 0)
replies p (MulEquals a b c) xs = no_number (eqb ((get_or xs a 0 * get_or xs b 0) % p) (get_or xs c 0))
replies p (SquareEquals a b) xs = no_number (eqb ((get_or xs a 0 * get_or xs a 0) % p) (get_or xs b 0))
replies p (Compare o a b) xs = one_number (bit (compared o (get_or xs a 0) (get_or xs b 0)))
replies p (EnforceNumbers e a b c) xs = no_number (claimed e (get_or xs a 0) (get_or xs b 0) (get_or xs c 0))
replies p (SelectNumber c a b) xs = one_number (cond (truth (get_or xs c 0)) (get_or xs a 0) (get_or xs b 0))
replies p (FromBit a) xs = one_number (get_or xs a 0)

listed : (p : ℕ) (c : Command) (xs : List ℕ) → Listed (Reading p c xs) (replies p c xs)
listed p (BitCommand m v) xs = listed_new (mode_of m) (value_of v) xs
listed p (Clone a) xs = listed_one (λ zs. get_or zs a 0) xs
listed p (Not a) xs = listed_one (λ zs. bit (not (truth (get_or zs a 0)))) xs
listed p (Gated g a b) xs = listed_one (λ zs. bit (applied g (truth (get_or zs a 0)) (truth (get_or zs b 0)))) xs
listed p (KaryCommand k r) xs = listed_kary k r xs
listed p (IsEqual a b) xs = listed_one (λ zs. bit (eqb (get_or zs a 0) (get_or zs b 0))) xs
listed p (Select c a b) xs = listed_one (λ zs. cond (truth (get_or zs c 0)) (get_or zs a 0) (get_or zs b 0)) xs
listed p (Enforce e a b c) xs = listed_claim e a b c xs
listed p (AtMost r e) xs = listed_none (λ zs. spelled (numbers_at zs r) ≤ element_of e) xs _ (leb-true (spelled (numbers_at xs r)) (element_of e)) (λ f h. cc (sym f ∙ le-leb (spelled (numbers_at xs r)) (element_of e) h))
listed p (NumberCommand m t v) xs = listed_number p (mode_of m) (tape_number p t v) xs
listed p (BinaryCommand o a b) xs = listed_binary p o a b xs
listed p (UnaryCommand o a) xs = listed_unary p o a xs
listed p (MulEquals a b c) xs = listed_same (λ zs. (get_or zs a 0 * get_or zs b 0) % p) (λ zs. get_or zs c 0) xs
listed p (SquareEquals a b) xs = listed_same (λ zs. (get_or zs a 0 * get_or zs a 0) % p) (λ zs. get_or zs b 0) xs
listed p (Compare o a b) xs = listed_compare o a b xs
listed p (EnforceNumbers e a b c) xs = listed_claim e a b c xs
listed p (SelectNumber c a b) xs = listed_one (λ zs. cond (truth (get_or zs c 0)) (get_or zs a 0) (get_or zs b 0)) xs
listed p (FromBit a) xs = listed_one (λ zs. get_or zs a 0) xs

-- ---- the numbers that obey a history
-- each of some lists behind old, if it is k long
abbrev longer : ℕ → List ℕ → List (List ℕ) → List (List ℕ)
longer k old [] = []
longer k old (new ∷ news) = cond (eqb (length new) k) ((old ++ new) ∷ longer k old news) (longer k old news)

-- each of some lists, with the numbers that a command's answers may have where it is there
abbrev continued : ℕ → Command → ℕ → List (List ℕ) → List (List ℕ)
continued p c k [] = []
continued p c k (old ∷ olds) = longer k old (replies p c old) ++ continued p c k olds

abbrev pub solutions : ℕ → History → List (List ℕ)
solutions p [] = [] ∷ []
solutions p ((c, Ok ks) ∷ h) = continued p c (length ks) (solutions p h)
solutions p ((c, Err f) ∷ h) = solutions p h

-- ---- they do, and no others
among_left : (xs : List ℕ) (yss zss : List (List ℕ)) → Among xs yss → Among xs (yss ++ zss)
among_left xs [] zss h = absurd h
among_left xs (ys ∷ yss) zss (inl e) = inl e
among_left xs (ys ∷ yss) zss (inr h) = inr (among_left xs yss zss h)

among_right : (xs : List ℕ) (yss zss : List (List ℕ)) → Among xs zss → Among xs (yss ++ zss)
among_right xs [] zss h = h
among_right xs (ys ∷ yss) zss h = inr (among_right xs yss zss h)

among_either : (xs : List ℕ) (yss zss : List (List ℕ)) → Among xs (yss ++ zss) → Among xs yss ⊎ Among xs zss
among_either xs [] zss h = inr h
among_either xs (ys ∷ yss) zss (inl e) = inl (inl e)
among_either xs (ys ∷ yss) zss (inr h) = go (among_either xs yss zss h)
  where
    go : Among xs yss ⊎ Among xs zss → Among xs (ys ∷ yss) ⊎ Among xs zss
    go (inl q) = inl (inr q)
    go (inr q) = inr q

longer_has : (k : ℕ) (old new : List ℕ) (news : List (List ℕ)) → length new ≡ k → Among new news → Among (old ++ new) (longer k old news)
longer_has k old new [] l h = absurd h
longer_has k old new (n ∷ news) l (inl e) = subst (λ (t : Bool). Among (old ++ new) (cond t ((old ++ n) ∷ longer k old news) (longer k old news))) (sym (eq-eqb (length n) k (ap length (sym e) ∙ l))) (inl (ap (λ (z : List ℕ). old ++ z) e))
longer_has k old new (n ∷ news) l (inr h) = go (eqb (length n) k) (longer_has k old new news l h)
  where
    go : (t : Bool) → Among (old ++ new) (longer k old news) → Among (old ++ new) (cond t ((old ++ n) ∷ longer k old news) (longer k old news))
    go true q = inr q
    go false q = q

longer_from : (k : ℕ) (old xs : List ℕ) (news : List (List ℕ)) → Among xs (longer k old news) → (new : List ℕ) × (xs ≡ old ++ new) × (length new ≡ k) × Among new news
longer_from k old xs [] h = absurd h
longer_from k old xs (n ∷ news) h = go (eqb (length n) k) refl h (longer_from k old xs news)
  where
    go : (t : Bool) → eqb (length n) k ≡ t → Among xs (cond t ((old ++ n) ∷ longer k old news) (longer k old news)) → (Among xs (longer k old news) → (new : List ℕ) × (xs ≡ old ++ new) × (length new ≡ k) × Among new news)
        → (new : List ℕ) × (xs ≡ old ++ new) × (length new ≡ k) × Among new (n ∷ news)
    go true e (inl q) r = (n, q, eqb-true (length n) k e, inl refl)
    go true e (inr q) r = let z = r q in (z.0, z.1, z.2, inr z.3)
    go false e q r = let z = r q in (z.0, z.1, z.2, inr z.3)

continued_has : (p : ℕ) (c : Command) (k : ℕ) (old new : List ℕ) (olds : List (List ℕ)) → Among old olds → length new ≡ k → Reading p c old new → Among (old ++ new) (continued p c k olds)
continued_has p c k old new [] h l r = absurd h
continued_has p c k old new (o ∷ olds) (inl e) l r =
    let here : Among (old ++ new) (longer k old (replies p c old)) = longer_has k old new (replies p c old) l ((listed p c old).among new r) in
    among_left (old ++ new) (longer k o (replies p c o)) (continued p c k olds) (subst (λ (z : List ℕ). Among (old ++ new) (longer k z (replies p c z))) e here)
continued_has p c k old new (o ∷ olds) (inr h) l r = among_right (old ++ new) (longer k o (replies p c o)) (continued p c k olds) (continued_has p c k old new olds h l r)

-- what continued says of each of its lists
abbrev Continues : ℕ → Command → ℕ → List (List ℕ) → List ℕ → Type 0
Continues p c k olds xs = (old : List ℕ) × (new : List ℕ) × (xs ≡ old ++ new) × (length new ≡ k) × Reading p c old new × Among old olds

continued_from : (p : ℕ) (c : Command) (k : ℕ) (xs : List ℕ) (olds : List (List ℕ)) → Among xs (continued p c k olds) → Continues p c k olds xs
continued_from p c k xs [] h = absurd h
continued_from p c k xs (o ∷ olds) h = which (among_either xs (longer k o (replies p c o)) (continued p c k olds) h) (continued_from p c k xs olds)
  where
    which : Among xs (longer k o (replies p c o)) ⊎ Among xs (continued p c k olds) → (Among xs (continued p c k olds) → Continues p c k olds xs) → Continues p c k (o ∷ olds) xs
    which (inl i) r = let z = longer_from k o xs (replies p c o) i in (o, z.0, z.1, z.2, (listed p c o).allowed z.0 z.3, inl refl)
    which (inr i) r = let z = r i in (z.0, z.1, z.2, z.3, z.4, inr z.5)

-- all numbers that obey are among the solutions
pub solves_all : (p : ℕ) (h : History) (xs : List ℕ) → Obeys (Reading p) (entries h) xs → Among xs (solutions p h)
solves_all p [] xs o = inl o
solves_all p ((c, Ok ks) ∷ h) xs o = subst (λ (z : List ℕ). Among z (continued p c (length ks) (solutions p h))) (sym o.2) (continued_has p c (length ks) o.0 o.1 (solutions p h) (solves_all p h o.0 o.5) o.3 o.4)
solves_all p ((c, Err f) ∷ h) xs o = solves_all p h xs o

-- and all solutions obey
pub all_solve : (p : ℕ) (h : History) (xs : List ℕ) → Among xs (solutions p h) → Obeys (Reading p) (entries h) xs
all_solve p [] xs (inl e) = e
all_solve p [] xs (inr m) = absurd m
all_solve p ((c, Ok ks) ∷ h) xs m = let z = continued_from p c (length ks) xs (solutions p h) m in (z.0, z.1, z.2, z.3, z.4, all_solve p h z.0 z.5)
all_solve p ((c, Err f) ∷ h) xs m = all_solve p h xs m
