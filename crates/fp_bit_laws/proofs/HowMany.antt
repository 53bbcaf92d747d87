-- How many bits the calls answer.
use Rattle.std.proofs.Common.{◌≡◌, ℕ, zero, suc, ◌+◌, ◌-◌, ◌/◌, ◌%◌, ◌^◌, Bool, true, false, cond, ltb, List, [], ◌∷◌, ◌++◌, length, Some, Option, refl, ap, subst, arith}
use Rattle.field.specs.Modulus.{bit_length as prime_bits}
use Rattle.relations.specs.declared.term.Variable.{Variable}
use Rattle.relations.specs.declared.term.Variable.TheVariants.{Combination}
use Rattle.relations.specs.Sum.{sum_of}
use Rattle.relations.specs.declared.fault.GadgetFault.TheVariants.{Unsatisfiable}
use Rattle.relations.specs.Script.{Script, answer, refuse, allocate, combine, row, then}
use Rattle.relations.specs.Terms.{times}
use Rattle.boolean.specs.declared.bits.Boolean.{Boolean}
use Rattle.fp_var.specs.declared.numbers.FpVar.{FpVar}
use Rattle.fp_var.specs.declared.numbers.FpVar.TheVariants.{Constant, Var}
use Rattle.fp_var.specs.Numbers.{sub_script}
use Rattle.gates.specs.Walk.{walk_script}
use Rattle.fp_bits.specs.Digits.{constant_bits, first_weight}
use Rattle.fp_bits.specs.Bits.{new_digits, weighted, split_script, to_non_unique_bits_script, to_bits_script, le_bits_script, nothing_left, top_bits_zero_script}
use Rattle.laws.specs.Bill.{Next, named, past, past_terms, ends}
use Rattle.fp_bit_laws.proofs.Splitting.{put_first}

-- what holds of each answer that a script may give
abbrev pub Gives : {A : Type 0} → Script A → (A → Type 0) → Type 0
Gives (answer x) K = K x
Gives (refuse e) K = Unit {0}
Gives (allocate d vs f k) K = (v : Variable) → Gives (k v) K
Gives (combine ts k) K = (v : Variable) → Gives (k v) K
Gives (row a b c s) K = Gives s K

gives_then : {A B : Type 0} (s : Script A) (k : A → Script B) (K : A → Type 0) (L : B → Type 0) → Gives s K → ((x : A) → K x → Gives (k x) L) → Gives (then s k) L
gives_then (answer x) k K L h f = f x h
gives_then (refuse e) k K L h f = tt
gives_then (allocate d vs w c) k K L h f = λ v. gives_then (c v) k K L (h v) f
gives_then (combine ts c) k K L h f = λ v. gives_then (c v) k K L (h v) f
gives_then (row a b c s) k K L h f = gives_then s k K L h f

gives_any : {A : Type 0} (s : Script A) → Gives s (λ x. Unit {0})
gives_any (answer x) = tt
gives_any (refuse e) = tt
gives_any (allocate d vs f k) = λ v. gives_any (k v)
gives_any (combine ts k) = λ v. gives_any (k v)
gives_any (row a b c s) = gives_any s

-- whatever follows that keeps what is known
gives_after : {A B : Type 0} (s : Script A) (k : A → Script B) (L : B → Type 0) → ((x : A) → Gives (k x) L) → Gives (then s k) L
gives_after s k L f = gives_then s k (λ x. Unit {0}) L (gives_any s) (λ x q. f x)

pub gives_ends : {A : Type 0} (p : ℕ) (n k : Next) (s : Script A) (K : A → Type 0) (x : A) → Gives s K → ends p n s ≡ Some (x, k) → K x
gives_ends {A} p n k (answer y) K x h e = subst K (first y x n k e) h
  where
    first : (y x : A) (n k : Next) → ◌≡◌ {A = Option (A × Next)} (Some (y, n)) (Some (x, k)) → y ≡ x
    first y x n k e = let q : ◌≡◌ {A = A × Next} (y, n) (x, k) = cc e in ap (λ z. z.0) q
gives_ends {A} p n k (refuse r) K x h e = let z : ◌≡◌ {A = ℕ} 0 1 = cc e in absurd (omega arith)
gives_ends p n k (allocate d vs f c) K x h e = gives_ends p (past d n) k (c (named d n)) K x (h (named d n)) e
gives_ends p n k (combine ts c) K x h e = gives_ends p (past_terms (sum_of p ts).size n) k (c (Combination (n.place + (sum_of p ts).size))) K x (h (Combination (n.place + (sum_of p ts).size))) e
gives_ends p n k (row a b c s) K x h e = gives_ends p n k s K x h e

-- ---- lists so long
constants_long : (k x : ℕ) → length (constant_bits k x) ≡ k
constants_long zero x = refl
constants_long (suc k) x = ap suc (constants_long k (x / 2))

digits_long : (p : ℕ) (a : Variable) (i k : ℕ) → Gives (new_digits p a i k) (λ bs. length bs ≡ k)
digits_long p a i zero = refl
digits_long p a i (suc k) = λ w. gives_then (new_digits p a (i + 1) k) (put_first w) (λ bs. length bs ≡ k) (λ bs. length bs ≡ suc k) (digits_long p a (i + 1) k) (λ bs e. ap suc e)

split_long : (p : ℕ) (a : Variable) → Gives (split_script p a) (λ bs. length bs ≡ prime_bits p)
split_long p a =
    gives_then (new_digits p a 0 (prime_bits p)) (λ bs. row [] [] (weighted p (first_weight p) bs ++ (times (p - 1) a ∷ [])) (answer bs)) (λ bs. length bs ≡ prime_bits p) (λ bs. length bs ≡ prime_bits p)
    (digits_long p a 0 (prime_bits p)) (λ bs e. e)

-- as many as the prime has
pub to_non_unique_bits_long : (p : ℕ) (a : FpVar) → Gives (to_non_unique_bits_script p a) (λ bs. length bs ≡ prime_bits p)
to_non_unique_bits_long p (Constant c) = constants_long (prime_bits p) (c % p)
to_non_unique_bits_long p (Var a) = split_long p a.variable

pub to_bits_long : (p : ℕ) (a : FpVar) → Gives (to_bits_script p a) (λ bs. length bs ≡ prime_bits p)
to_bits_long p (Constant c) = constants_long (prime_bits p) (c % p)
to_bits_long p (Var a) =
    gives_then (split_script p a.variable) (λ bs. then (walk_script p bs (p - 1)) (λ u. answer bs)) (λ bs. length bs ≡ prime_bits p) (λ bs. length bs ≡ prime_bits p)
    (split_long p a.variable) (λ bs e. gives_after (walk_script p bs (p - 1)) (λ u. answer bs) (λ bs. length bs ≡ prime_bits p) (λ u. e))

-- as many as were asked for
pub top_bits_zero_long : (p k : ℕ) (a : FpVar) → Gives {A = List Boolean × FpVar} (top_bits_zero_script p k a) (λ o. length o.0 ≡ k)
top_bits_zero_long p k (Constant c) = go (ltb (c % p) (2 ^ k))
  where
    go : (b : Bool) → Gives {A = List Boolean × FpVar} (cond b (answer (constant_bits k (c % p), Constant 0)) (refuse Unsatisfiable)) (λ o. length o.0 ≡ k)
    go true = constants_long k (c % p)
    go false = tt
top_bits_zero_long p k (Var a) =
    gives_then (new_digits p a.variable 0 k) (λ bs. then (le_bits_script p bs) (λ x. then (sub_script p (Var a) x) (λ r. then (nothing_left p r) (λ u. answer (bs, r))))) (λ bs. length bs ≡ k) (λ o. length o.0 ≡ k) (digits_long p a.variable 0 k)
    (λ bs e. gives_after (le_bits_script p bs) (λ x. then (sub_script p (Var a) x) (λ r. then (nothing_left p r) (λ u. answer (bs, r)))) (λ o. length o.0 ≡ k)
    (λ x. gives_after (sub_script p (Var a) x) (λ r. then (nothing_left p r) (λ u. answer (bs, r))) (λ o. length o.0 ≡ k) (λ r. gives_after (nothing_left p r) (λ u. answer (bs, r)) (λ o. length o.0 ≡ k) (λ u. e))))
