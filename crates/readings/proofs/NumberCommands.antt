-- What is shown of each command on numbers.
use Rattle.std.proofs.Common.{◌≡◌, ℕ, ◌<◌, ◌≤◌, Bool, true, false, cond, List, get_or, Option, refl, arith, ℤ, mod-lt}
use Rattle.arith.specs.Number.{Prime}
use Rattle.relations.specs.Meaning.{number}
use Rattle.allocated.specs.Gates.{truth}
use Rattle.fp.specs.Equality.{inverse}
use Rattle.fp_var.specs.declared.numbers.FpVar.{FpVar}
use Rattle.fp_var.specs.declared.numbers.FpVar.TheVariants.{Constant, Var}
use Rattle.fp_var.specs.Numbers.{reduced, alloc_script, add_script, sub_script, mul_script, negate_script, double_script, inverse_script, of_bit_script, is_eq_script, is_neq_script, mul_equals_script, square_equals_script, equal_script, unequal_script, select_script}
use Rattle.command.specs.declared.commands.Kind.TheVariants.{Number as a_number}
use Rattle.command.specs.declared.commands.Claim.{Claim}
use Rattle.command.specs.declared.commands.Claim.TheVariants.{Equal, Unequal}
use Rattle.command.specs.declared.commands.Binary.{Binary}
use Rattle.command.specs.declared.commands.Binary.TheVariants.{Add, Sub, Mul}
use Rattle.command.specs.declared.commands.Unary.{Unary}
use Rattle.command.specs.declared.commands.Unary.TheVariants.{Negate, Double, Inverse}
use Rattle.command.specs.declared.commands.Comparison.{Comparison}
use Rattle.command.specs.declared.commands.Comparison.TheVariants.{IsEq, IsNeq}
use Rattle.command.specs.declared.commands.Command.TheVariants.{Number as NumberCommand, Binary as BinaryCommand, Unary as UnaryCommand, MulEquals, SquareEquals, Compare, EnforceNumbers, SelectNumber, FromBit}
use Rattle.command.specs.declared.answers.Answer.{Answer}
use Rattle.command.specs.declared.answers.Answer.TheVariants.{Bit, Number}
use Rattle.command.specs.Decide.{fits}
use Rattle.command.specs.Answers.{kind_of, mode_of, number_of as tape_number, bit_at, number_at}
use Rattle.laws.specs.Bill.{Next, names}
use Rattle.laws.proofs.Frame.{Is}
use Rattle.bit_laws.specs.Bits.{bit_number_of, ThereBit, EqualIf, UnequalIf, equality, inequality, picked}
use Rattle.bit_laws.specs.Bills.{shadow}
use Rattle.bit_laws.proofs.BitLaws.{bit_low}
use Rattle.bit_laws.proofs.Owes.{older_real}
use Rattle.number_laws.specs.Numbers.{fp_number_of, ThereFp, RealFp, TherePair, ThereTriple, ThereChoice, ThereGuarded, Below, BothBelow, ThreeBelow, ChoiceBelow, GuardedBelow, pair_fp, triple_fp, choice_fp, guarded_fp, sum, difference, negative, twice, multiplied, Inverts, Invertible, NewFp, ProductIs, SquareIs}
use Rattle.number_laws.specs.Bills.{number_shadow, same_number, alloc_due, add_due, sub_due, mul_due, negate_due, double_due, inverse_due, of_bit_due, is_eq_due, is_neq_due, mul_equals_due, square_equals_due, equal_due, unequal_due, select_due, has_multiplier}
use Rattle.number_laws.proofs.Arithmetic.{add_function, sub_function, negate_function, double_function, of_bit_function}
use Rattle.number_laws.proofs.Products.{mul_function, inverse_law, alloc_law}
use Rattle.number_laws.proofs.Comparing.{is_eq_function, is_neq_function}
use Rattle.number_laws.proofs.Selecting.{select_function}
use Rattle.number_laws.proofs.NumberStatements.{mul_equals_law, square_equals_law, equal_law, unequal_law}
use Rattle.number_laws.proofs.NumberOrder.{add_orderly, sub_orderly, negate_orderly, double_orderly, of_bit_orderly, mul_orderly, inverse_orderly, alloc_orderly, is_eq_orderly, is_neq_orderly, select_orderly}
use Rattle.number_laws.proofs.StatementOrder.{mul_equals_orderly, square_equals_orderly, equal_orderly, unequal_sees, unequal_tidy, unequal_foreseen}
use Rattle.number_laws.proofs.NumberSizes.{OldFp}
use Rattle.number_laws.proofs.NumberBills.{alloc_owes, add_owes, sub_owes, mul_owes, negate_owes, double_owes, inverse_owes, of_bit_owes, is_eq_owes, is_neq_owes, select_owes}
use Rattle.number_laws.proofs.StatementBills.{mul_equals_owes, square_equals_owes, equal_owes, unequal_owes}
use Rattle.readings.specs.Readings.{numbers_of, BoundedByKind}
use Rattle.readings.proofs.OnBook.{Answering, bits, serve_one, serve_statement, asks_function, states_law}
use Rattle.readings.proofs.Operands.{bit_same, fp_same, fps_two, fps_three, guarded_same, choice_same, there_bit_at, there_fp_at, old_at, old_fp_at, low_at, below_at, below_two, below_three, guarded_low, choice_low}
use Rattle.readings.proofs.Tables.{Serves}

-- ---- a number as an answer of the book
old_real_fp : (n : Next) (x : FpVar) → OldFp n x → RealFp x
old_real_fp n (Constant c) h = tt
old_real_fp n (Var a) h = older_real n a.variable h

number_bound : (p : ℕ) (o : Answer) → kind_of o ≡ a_number → (x : ℕ) → x < p → BoundedByKind p o x
number_bound p (Bit b) e x h = let z : ◌≡◌ {A = ℕ} 0 1 = cc e in absurd (omega arith)
number_bound p (Number y) e x h = h

abbrev numbers : (p : ℕ) → Answering p FpVar (Option ℕ)
numbers p = record { wrap = Number; kind = a_number; num = fp_number_of; there = ThereFp; shade = number_shadow; good = OldFp; bound = λ x. x < p; kind_is = λ x. refl; num_is = λ ρ x. refl; there_is = λ h x t. t; real_is = old_real_fp; bound_is = number_bound p }

picked_below : (p : ℕ) (x : ℕ × ℕ × ℕ) → ChoiceBelow p x → picked x < p
picked_below p x h = go (truth x.0)
  where
    go : (b : Bool) → cond b x.1 x.2 < p
    go true = h.1
    go false = h.2

module _ (p : ℕ) (P : Prime p) (two : 2 < p) where
  above : 0 < p
  above = omega (arith, two)

  -- ---- a new number
  pub number_command : (m t : ℕ) (v : ℤ) → Serves p (NumberCommand m t v)
  number_command m t v = serve_one (numbers p) numbers_of (λ bk. alloc_script p (mode_of m) (tape_number p t v)) (λ bk. bk) (λ xs. xs) (λ xs. Unit {0}) (λ xs y. NewFp p (mode_of m) (tape_number p t v) y) (λ xs. Unit {0}) (λ xs. number (reduced p (tape_number p t v))) (λ bk. alloc_due p (mode_of m) (tape_number p t v)) (fits (NumberCommand m t v)) record {
    law = alloc_law p P numbers_of (mode_of m) (tape_number p t v);
    sees = λ bk h c k. (alloc_orderly p P.0 {In = List Answer} (mode_of m) (tape_number p t v)).sees h c bk tt;
    tidy = (alloc_orderly p P.0 (mode_of m) (tape_number p t v)).tidy;
    steady = (alloc_orderly p P.0 (mode_of m) (tape_number p t v)).steady;
    owes = λ m₁ bk r k. alloc_owes p two (names m₁) (mode_of m) (tape_number p t v);
    same = λ ρ bk k. refl;
    pre = λ bk xs k h. tt;
    low = λ x y h q. q.0;
  }

  -- ---- two numbers
  pub binary_command : (o : Binary) (a b : ℕ) → Serves p (BinaryCommand o a b)
  binary_command Add a b = serve_one (numbers p) pair_fp (λ i. add_script p i.0 i.1) (λ bk. (number_at bk a, number_at bk b)) (λ xs. (get_or xs a 0, get_or xs b 0)) (BothBelow p) (Is (sum p)) (λ x. Unit {0}) (sum p) (λ bk. add_due p (same_number (number_at bk a) (number_at bk b)) (number_shadow (number_at bk a)) (number_shadow (number_at bk b))) (fits (BinaryCommand Add a b))
      (asks_function (numbers p) TherePair (add_function p P) (add_orderly p P.0) (λ bk h t. (there_fp_at h bk a t, there_fp_at h bk b t)) (λ m bk r t. add_owes p two (names m) (number_at bk a) (number_at bk b) (old_fp_at m bk a r t) (old_fp_at m bk b r t))
      (λ ρ bk t. fps_two ρ bk a b t) (λ bk xs t h. below_two p bk xs a b t h) (λ x h. mod-lt _ above))
  binary_command Sub a b = serve_one (numbers p) pair_fp (λ i. sub_script p i.0 i.1) (λ bk. (number_at bk a, number_at bk b)) (λ xs. (get_or xs a 0, get_or xs b 0)) (BothBelow p) (Is (difference p)) (λ x. Unit {0}) (difference p) (λ bk. sub_due p (same_number (number_at bk a) (number_at bk b)) (number_shadow (number_at bk a)) (number_shadow (number_at bk b))) (fits (BinaryCommand Sub a b))
      (asks_function (numbers p) TherePair (sub_function p P) (sub_orderly p P.0) (λ bk h t. (there_fp_at h bk a t, there_fp_at h bk b t)) (λ m bk r t. sub_owes p two (names m) (number_at bk a) (number_at bk b) (old_fp_at m bk a r t) (old_fp_at m bk b r t))
      (λ ρ bk t. fps_two ρ bk a b t) (λ bk xs t h. below_two p bk xs a b t h) (λ x h. mod-lt _ above))
  binary_command Mul a b = serve_one (numbers p) pair_fp (λ i. mul_script p i.0 i.1) (λ bk. (number_at bk a, number_at bk b)) (λ xs. (get_or xs a 0, get_or xs b 0)) (BothBelow p) (Is (multiplied p)) (λ x. Unit {0}) (multiplied p) (λ bk. mul_due p (number_shadow (number_at bk a)) (number_shadow (number_at bk b))) (fits (BinaryCommand Mul a b))
      (asks_function (numbers p) TherePair (mul_function p P) (mul_orderly p P.0) (λ bk h t. (there_fp_at h bk a t, there_fp_at h bk b t)) (λ m bk r t. mul_owes p two (names m) (number_at bk a) (number_at bk b) (old_fp_at m bk a r t) (old_fp_at m bk b r t))
      (λ ρ bk t. fps_two ρ bk a b t) (λ bk xs t h. below_two p bk xs a b t h) (λ x h. mod-lt _ above))

  -- ---- one number
  pub unary_command : (o : Unary) (a : ℕ) → Serves p (UnaryCommand o a)
  unary_command Negate a = serve_one (numbers p) fp_number_of (negate_script p) (λ bk. number_at bk a) (λ xs. get_or xs a 0) (Below p) (Is (negative p)) (λ x. Unit {0}) (negative p) (λ bk. negate_due p (number_shadow (number_at bk a))) (fits (UnaryCommand Negate a))
      (asks_function (numbers p) ThereFp (negate_function p P) (negate_orderly p P.0) (λ bk h t. there_fp_at h bk a t) (λ m bk r t. negate_owes p two (names m) (number_at bk a) (old_fp_at m bk a r t)) (λ ρ bk t. fp_same ρ bk a t) (λ bk xs t h. below_at p bk xs h a t) (λ x h. mod-lt _ above))
  unary_command Double a = serve_one (numbers p) fp_number_of (double_script p) (λ bk. number_at bk a) (λ xs. get_or xs a 0) (Below p) (Is (twice p)) (λ x. Unit {0}) (twice p) (λ bk. double_due p (number_shadow (number_at bk a))) (fits (UnaryCommand Double a))
      (asks_function (numbers p) ThereFp (double_function p P) (double_orderly p P.0) (λ bk h t. there_fp_at h bk a t) (λ m bk r t. double_owes p two (names m) (number_at bk a) (old_fp_at m bk a r t)) (λ ρ bk t. fp_same ρ bk a t) (λ bk xs t h. below_at p bk xs h a t) (λ x h. mod-lt _ above))
  unary_command Inverse a = serve_one (numbers p) fp_number_of (inverse_script p) (λ bk. number_at bk a) (λ xs. get_or xs a 0) (Below p) (Inverts p) Invertible (inverse p) (λ bk. inverse_due p (number_shadow (number_at bk a))) (fits (UnaryCommand Inverse a)) record {
    law = inverse_law p P;
    sees = λ bk h c t. (inverse_orderly p P.0).sees h c (number_at bk a) (there_fp_at h bk a t);
    tidy = (inverse_orderly p P.0).tidy;
    steady = (inverse_orderly p P.0).steady;
    owes = λ m bk r t. inverse_owes p two (names m) (number_at bk a) (old_fp_at m bk a r t);
    same = λ ρ bk t. fp_same ρ bk a t;
    pre = λ bk xs t h. below_at p bk xs h a t;
    low = λ x y h q. q.1;
  }

  pub from_bit_command : (a : ℕ) → Serves p (FromBit a)
  from_bit_command a = serve_one (numbers p) bit_number_of of_bit_script (λ bk. bit_at bk a) (λ xs. get_or xs a 0) (λ x. x ≤ 1) (Is (λ x. x)) (λ x. Unit {0}) (λ x. x) (λ bk. of_bit_due (shadow (bit_at bk a))) (fits (FromBit a))
      (asks_function (numbers p) ThereBit (of_bit_function p P) (of_bit_orderly p P.0) (λ bk h t. there_bit_at h bk a t) (λ m bk r t. of_bit_owes p two (names m) (bit_at bk a) (old_at m bk a r t)) (λ ρ bk t. bit_same ρ bk a t) (λ bk xs t h. low_at p bk xs h a t) (λ x h. omega (arith, h, two)))

  -- ---- questions
  pub compare_command : (o : Comparison) (a b : ℕ) → Serves p (Compare o a b)
  compare_command IsEq a b = serve_one (bits p) pair_fp (λ i. is_eq_script p i.0 i.1) (λ bk. (number_at bk a, number_at bk b)) (λ xs. (get_or xs a 0, get_or xs b 0)) (BothBelow p) (Is equality) (λ x. Unit {0}) equality (λ bk. is_eq_due p (same_number (number_at bk a) (number_at bk b)) (number_shadow (number_at bk a)) (number_shadow (number_at bk b))) (fits (Compare IsEq a b))
      (asks_function (bits p) TherePair (is_eq_function p P) (is_eq_orderly p P.0) (λ bk h t. (there_fp_at h bk a t, there_fp_at h bk b t)) (λ m bk r t. is_eq_owes p two (names m) (number_at bk a) (number_at bk b) (old_fp_at m bk a r t) (old_fp_at m bk b r t))
      (λ ρ bk t. fps_two ρ bk a b t) (λ bk xs t h. below_two p bk xs a b t h) (λ x h. bit_low _))
  compare_command IsNeq a b = serve_one (bits p) pair_fp (λ i. is_neq_script p i.0 i.1) (λ bk. (number_at bk a, number_at bk b)) (λ xs. (get_or xs a 0, get_or xs b 0)) (BothBelow p) (Is inequality) (λ x. Unit {0}) inequality (λ bk. is_neq_due p (same_number (number_at bk a) (number_at bk b)) (number_shadow (number_at bk a)) (number_shadow (number_at bk b))) (fits (Compare IsNeq a b))
      (asks_function (bits p) TherePair (is_neq_function p P) (is_neq_orderly p P.0) (λ bk h t. (there_fp_at h bk a t, there_fp_at h bk b t)) (λ m bk r t. is_neq_owes p two (names m) (number_at bk a) (number_at bk b) (old_fp_at m bk a r t) (old_fp_at m bk b r t))
      (λ ρ bk t. fps_two ρ bk a b t) (λ bk xs t h. below_two p bk xs a b t h) (λ x h. bit_low _))

  pub select_number_command : (c a b : ℕ) → Serves p (SelectNumber c a b)
  select_number_command c a b = serve_one (numbers p) choice_fp (λ i. select_script p i.0 i.1 i.2) (λ bk. (bit_at bk c, number_at bk a, number_at bk b)) (λ xs. (get_or xs c 0, get_or xs a 0, get_or xs b 0)) (ChoiceBelow p) (Is picked) (λ x. Unit {0}) picked
      (λ bk. select_due p (same_number (number_at bk a) (number_at bk b)) (shadow (bit_at bk c)) (number_shadow (number_at bk a)) (number_shadow (number_at bk b))) (fits (SelectNumber c a b))
      (asks_function (numbers p) ThereChoice (select_function p P) (select_orderly p P.0) (λ bk h t. (there_bit_at h bk c t, there_fp_at h bk a t, there_fp_at h bk b t)) (λ m bk r t. select_owes p two (names m) (bit_at bk c) (number_at bk a) (number_at bk b) (old_at m bk c r t) (old_fp_at m bk a r t) (old_fp_at m bk b r t))
      (λ ρ bk t. choice_same ρ bk c a b t) (λ bk xs t h. choice_low p bk xs c a b t h) (picked_below p))

  -- ---- statements
  pub mul_equals_command : (a b c : ℕ) → Serves p (MulEquals a b c)
  mul_equals_command a b c = serve_statement p triple_fp (λ i. mul_equals_script p i.0 i.1 i.2) (λ bk. (number_at bk a, number_at bk b, number_at bk c)) (λ xs. (get_or xs a 0, get_or xs b 0, get_or xs c 0)) (ThreeBelow p) (ProductIs p)
      (λ q bk. mul_equals_due p (same_number (number_at bk a) (number_at bk c)) (same_number (number_at bk b) (number_at bk c)) (number_shadow (number_at bk a)) (number_shadow (number_at bk b)) (number_shadow (number_at bk c))) (fits (MulEquals a b c))
      (states_law p ThereTriple (mul_equals_law p P) (mul_equals_orderly p) (λ bk h t. (there_fp_at h bk a t, there_fp_at h bk b t, there_fp_at h bk c t)) (λ m bk r t. mul_equals_owes p two (names m) (number_at bk a) (number_at bk b) (number_at bk c) (old_fp_at m bk a r t) (old_fp_at m bk b r t) (old_fp_at m bk c r t))
      (λ ρ bk t. fps_three ρ bk a b c t) (λ bk xs t h. below_three p bk xs a b c t h))

  pub square_equals_command : (a b : ℕ) → Serves p (SquareEquals a b)
  square_equals_command a b = serve_statement p pair_fp (λ i. square_equals_script p i.0 i.1) (λ bk. (number_at bk a, number_at bk b)) (λ xs. (get_or xs a 0, get_or xs b 0)) (BothBelow p) (SquareIs p)
      (λ q bk. square_equals_due p (number_shadow (number_at bk a)) (number_shadow (number_at bk b))) (fits (SquareEquals a b))
      (states_law p TherePair (square_equals_law p P) (square_equals_orderly p) (λ bk h t. (there_fp_at h bk a t, there_fp_at h bk b t)) (λ m bk r t. square_equals_owes p two (names m) (number_at bk a) (number_at bk b) (old_fp_at m bk a r t) (old_fp_at m bk b r t))
      (λ ρ bk t. fps_two ρ bk a b t) (λ bk xs t h. below_two p bk xs a b t h))

  pub number_claim_command : (e : Claim) (a b c : ℕ) → Serves p (EnforceNumbers e a b c)
  number_claim_command Equal a b c = serve_statement p guarded_fp (λ i. equal_script p i.0 i.1 i.2) (λ bk. (number_at bk a, number_at bk b, bit_at bk c)) (λ xs. (get_or xs a 0, get_or xs b 0, get_or xs c 0)) (GuardedBelow p) EqualIf
      (λ q bk. equal_due p (same_number (number_at bk a) (number_at bk b)) (number_shadow (number_at bk a)) (number_shadow (number_at bk b)) (shadow (bit_at bk c))) (fits (EnforceNumbers Equal a b c))
      (states_law p ThereGuarded (equal_law p P) (equal_orderly p) (λ bk h t. (there_fp_at h bk a t, there_fp_at h bk b t, there_bit_at h bk c t)) (λ m bk r t. equal_owes p two (names m) (number_at bk a) (number_at bk b) (bit_at bk c) (old_fp_at m bk a r t) (old_fp_at m bk b r t) (old_at m bk c r t))
      (λ ρ bk t. guarded_same ρ bk a b c t) (λ bk xs t h. guarded_low p bk xs a b c t h))
  number_claim_command Unequal a b c = serve_statement p guarded_fp (λ i. unequal_script p i.0 i.1 i.2) (λ bk. (number_at bk a, number_at bk b, bit_at bk c)) (λ xs. (get_or xs a 0, get_or xs b 0, get_or xs c 0)) (GuardedBelow p) UnequalIf
      (λ q bk. unequal_due p (same_number (number_at bk a) (number_at bk b)) (has_multiplier p q (number_at bk a) (number_at bk b) (bit_at bk c)) (number_shadow (number_at bk a)) (number_shadow (number_at bk b)) (shadow (bit_at bk c))) (fits (EnforceNumbers Unequal a b c)) record {
        law = unequal_law p P;
        sees = λ bk h o t. unequal_sees p h o (number_at bk a) (number_at bk b) (bit_at bk c) (there_fp_at h bk a t, there_fp_at h bk b t, there_bit_at h bk c t);
        tidy = λ i. unequal_tidy p above i.0 i.1 i.2;
        foreseen = λ bk h q o t. unequal_foreseen p h o q (number_at bk a) (number_at bk b) (bit_at bk c) (there_fp_at h bk a t, there_fp_at h bk b t, there_bit_at h bk c t);
        owes = λ m bk r t. unequal_owes p two (names m) (number_at bk a) (number_at bk b) (bit_at bk c) (old_fp_at m bk a r t) (old_fp_at m bk b r t) (old_at m bk c r t);
        same = λ ρ bk t. guarded_same ρ bk a b c t;
        pre = λ bk xs t h. guarded_low p bk xs a b c t h;
      }
