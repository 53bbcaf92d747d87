-- What the scripts of numbers' bits ask for.
use Rattle.std.proofs.Common.{◌≡◌, ◌≢◌, ℕ, zero, suc, ◌+◌, ◌-◌, ◌/◌, ◌%◌, ◌<◌, ◌≤◌, Bool, true, eqb, List, [], ◌∷◌, ◌++◌, map, replicate, Some, None, Option, sym, refl, ap, ap₂, ◌∙◌, subst, arith, append-nil, mod-eq_of_lt, mod-lt}
use Rattle.field.specs.Laws.{OddPrime}
use Rattle.field.specs.Modulus.{bit_length as prime_bits}
use Rattle.relations.specs.declared.term.Variable.{Variable}
use Rattle.relations.specs.declared.term.Variable.TheVariants.{One, Zero, Input, Witness, Combination}
use Rattle.relations.specs.declared.term.Side.TheVariants.{Witness as witness}
use Rattle.relations.specs.Sum.{code, sum_of, row_of}
use Rattle.relations.specs.Meaning.{row_use}
use Rattle.relations.specs.Script.{answer, allocate, row, then}
use Rattle.relations.specs.Terms.{times, just, one_less}
use Rattle.allocated.specs.declared.allocated.AllocatedBool.{AllocatedBool}
use Rattle.allocated.specs.Gates.{allocated, booleanity}
use Rattle.boolean.specs.declared.bits.Boolean.{Boolean}
use Rattle.boolean.specs.declared.bits.Boolean.TheVariants.{Var as variable_bit}
use Rattle.fp_var.specs.declared.numbers.FpVar.{FpVar}
use Rattle.fp_var.specs.declared.numbers.FpVar.TheVariants.{Constant, Var}
use Rattle.fp_bits.specs.Digits.{digits, constant_bits, first_weight}
use Rattle.fp_bits.specs.Bits.{digit_of, new_digits, weighted, split_script, to_non_unique_bits_script, to_bits_script}
use Rattle.laws.specs.Bill.{Charge, takes_variable, takes_row, Next}
use Rattle.bit_laws.specs.Bills.{shadows, owes, due_then, walk_due}
use Rattle.bit_laws.proofs.Sizes.{one_some, less_some, just_size, less_size}
use Rattle.bit_laws.proofs.Owes.{Older, older_real, Owes, owes_then, owes_answer, owes_row, owes_as}
use Rattle.bit_laws.proofs.WideBills.{AllOld, all_later, unseen}
use Rattle.bit_laws.proofs.BoundBills.{walk_owes}
use Rattle.number_laws.specs.Bills.{number_shadow}
use Rattle.number_laws.proofs.NumberSizes.{OldFp}
use Rattle.fp_bit_laws.specs.Bills.{new_bits_bill, split_due, to_non_unique_bits_due, to_bits_due}
use Rattle.fp_bit_laws.proofs.NumberBits.{odd_above}
use Rattle.fp_bit_laws.proofs.Splitting.{put_first}
use Rattle.fp_bit_laws.proofs.BitsSizes.{witness_bits, weighted_size}

-- the bits are the next k witnesses
abbrev pub NewBits : Next → ℕ → Next → List Boolean → Type 0
NewBits n k l bs = (bs ≡ witness_bits n.witness_at k) × (l.witness_at ≡ n.witness_at + k)

abbrev NewBit : Next → Next → AllocatedBool → Type 0
NewBit n l b = (b ≡ allocated (Witness n.witness_at)) × (l.witness_at ≡ n.witness_at + 1)

-- they came before the names that are next then
new_old : (j k : ℕ) (l : Next) → j + k ≤ l.witness_at → AllOld l (witness_bits j k)
new_old j zero l h = tt
new_old j (suc k) l h = (omega arith, new_old (j + 1) k l (omega arith))

pub new_bits_old : (n : Next) (k : ℕ) (l : Next) (bs : List Boolean) → NewBits n k l bs → AllOld l bs
new_bits_old n k l bs h = subst (AllOld l) (sym h.0) (new_old n.witness_at k l (omega (arith, h.1)))

pub constants_old : (n : Next) (k x : ℕ) → AllOld n (constant_bits k x)
constants_old n zero x = tt
constants_old n (suc k) x = (tt, constants_old n k (x / 2))

pub constants_known : (k x : ℕ) → shadows (constant_bits k x) ≡ map Some (digits k x)
constants_known zero x = refl
constants_known (suc k) x = ap (λ (l : List (Option Bool)). Some (eqb (x % 2) 1) ∷ l) (constants_known k (x / 2))

-- what came before is none of the next witnesses
witness_later : (n : Next) (v : Variable) (m : ℕ) → Older n v → n.witness_at ≤ m → code (Witness m) ≢ code v
witness_later n One m h le = absurd h
witness_later n Zero m h le = absurd h
witness_later n (Input i) m h le = λ e. omega arith
witness_later n (Witness i) m h le = λ e. omega arith
witness_later n (Combination c) m h le = λ e. omega arith

module _ (p : ℕ) (P : OddPrime p) where
  two : 2 < p
  two = odd_above p P.prime.0 P.odd

  -- a new bit
  digit_owes : (a : Variable) (i : ℕ) (n : Next) → Owes p n (allocate witness (a ∷ []) (digit_of i) (booleanity p)) unseen (NewBit n) (owes (takes_variable witness true ∷ (takes_row 3 ∷ [])) tt)
  digit_owes a i n = record {
    charged = λ j. takes_variable witness true ∷ (takes_row (size j) ∷ []);
    ended = (record { inputs = omega arith; witnesses = omega arith; places = omega arith }, refl, (refl, refl));
  }
    where
      w : Variable
      w = Witness n.witness_at

      size : row_use (row_of p (one_less p w) (just w) []) ≡ 3
      size = λ j. less_size p two w refl j + just_size p two 1 w (one_some p two) refl j + 0

  -- k of them
  pub digits_owes : (a : Variable) (i k : ℕ) (n : Next) → Owes p n (new_digits p a i k) shadows (NewBits n k) (owes (new_bits_bill k) (replicate k None))
  digits_owes a i zero n = owes_answer [] shadows (NewBits n zero) [] refl (refl, omega arith)
  digits_owes a i (suc k) n =
      owes_then {s = allocate witness (a ∷ []) (digit_of i) (booleanity p)} {k = λ b. then (new_digits p a (i + 1) k) (put_first b.variable)} (λ u. owes (new_bits_bill k) (None ∷ replicate k None)) (digit_owes a i n)
      (λ l b up h. owes_as (owes (new_bits_bill k) (None ∷ replicate k None)) (ap (λ (cs : List Charge). owes cs (None ∷ replicate k None)) (append-nil (new_bits_bill k)))
      (owes_then (λ os. owes [] (None ∷ os)) (digits_owes a (i + 1) k l)
      (λ j bs up₁ g. owes_answer (variable_bit (allocated b.variable) ∷ bs) shadows (NewBits n (suc k)) (None ∷ shadows bs) refl
      (ap₂ (λ (c : AllocatedBool) (cs : List Boolean). variable_bit c ∷ cs) h.0 (g.0 ∙ ap (λ (m : ℕ). witness_bits m k) h.1), omega (arith, g.1, h.1)))))

  -- the row of all of them
  split_row_owes : (a : Variable) (n l : Next) (k : ℕ) (bs : List Boolean) → Older n a → NewBits n k l bs
      → Owes p l (row [] [] (weighted p (first_weight p) bs ++ (times (p - 1) a ∷ [])) (answer bs)) shadows AllOld (owes (takes_row (k + 1) ∷ []) (shadows bs))
  split_row_owes a n l k bs ha h =
      owes_row [] [] (weighted p (first_weight p) bs ++ (times (p - 1) a ∷ [])) (k + 1) bs shadows AllOld (shadows bs) (size ∙ omega arith) refl (new_bits_old n k l bs h)
    where
      first_some : 1 % p % p ≢ 0
      first_some e = one_some p two (sym (mod-eq_of_lt (mod-lt 1 (omega (arith, two)))) ∙ e)

      apart : (m : ℕ) → n.witness_at ≤ m → code (Witness m) ≢ code a
      apart m le = witness_later n a m ha le

      size : row_use (row_of p [] [] (weighted p (first_weight p) bs ++ (times (p - 1) a ∷ []))) ≡ 0 + 0 + (k + 1)
      size = ap (λ (cs : List Boolean). 0 + 0 + (sum_of p (weighted p (first_weight p) cs ++ (times (p - 1) a ∷ []))).size) h.0
          ∙ ap (λ (s : ℕ). 0 + 0 + s) (weighted_size p P (times (p - 1) a) (first_weight p) n.witness_at k first_some (older_real n a ha, less_some p two) apart)

  split_owes : (a : Variable) (n : Next) → Older n a → Owes p n (split_script p a) shadows AllOld (split_due p)
  split_owes a n h =
      owes_then (λ os. owes (takes_row (prime_bits p + 1) ∷ []) os) (digits_owes a 0 (prime_bits p) n) (λ l bs up g. split_row_owes a n l (prime_bits p) bs h g)

  pub to_non_unique_bits_owes : (a : FpVar) (n : Next) → OldFp n a → Owes p n (to_non_unique_bits_script p a) shadows AllOld (to_non_unique_bits_due p (number_shadow a))
  to_non_unique_bits_owes (Constant c) n h = owes_answer (constant_bits (prime_bits p) (c % p)) shadows AllOld (map Some (digits (prime_bits p) (c % p))) (constants_known (prime_bits p) (c % p)) (constants_old n (prime_bits p) (c % p))
  to_non_unique_bits_owes (Var a) n h = split_owes a.variable n h

  pub to_bits_owes : (a : FpVar) (n : Next) → OldFp n a → Owes p n (to_bits_script p a) shadows AllOld (to_bits_due p (number_shadow a))
  to_bits_owes (Constant c) n h = owes_answer (constant_bits (prime_bits p) (c % p)) shadows AllOld (map Some (digits (prime_bits p) (c % p))) (constants_known (prime_bits p) (c % p)) (constants_old n (prime_bits p) (c % p))
  to_bits_owes (Var a) n h =
      owes_then (λ os. due_then (walk_due p os (p - 1)) (λ u. owes [] os)) (split_owes a.variable n h)
      (λ l bs up g. owes_then (λ u. owes [] (shadows bs)) (walk_owes p two bs (p - 1) l g) (λ j u up₁ q. owes_answer bs shadows AllOld (shadows bs) refl (all_later l j up₁ bs g)))
