-- What is shown of each command on bits.
use Rattle.std.proofs.Common.{◌≡◌, ℕ, ◌+◌, ◌^◌, ◌<◌, ◌≤◌, Bool, true, false, not, cond, List, [], ◌∷◌, length, get_or, Some, None, Option, sym, refl, ap, ◌∙◌, subst, arith, mod-lt, lit<}
use Rattle.arith.specs.Number.{Prime}
use Rattle.relations.specs.declared.term.Variable.TheVariants.{Input, Witness}
use Rattle.relations.specs.Meaning.{number}
use Rattle.relations.specs.declared.term.Side.TheVariants.{Input as input, Witness as witness}
use Rattle.relations.specs.Script.{answer}
use Rattle.boolean.specs.declared.mode.AllocationMode.{AllocationMode}
use Rattle.boolean.specs.declared.mode.AllocationMode.TheVariants.{Constant as as_constant, Input as as_input, Witness as as_witness}
use Rattle.allocated.specs.declared.gate.Gate.{Gate}
use Rattle.allocated.specs.Gates.{bit, truth, bit_number}
use Rattle.boolean.specs.Booleans.{alloc_script, not_script, is_eq_script, select_script, equal_script, unequal_script}
use Rattle.gates.specs.declared.wide.Wide.TheVariants.{And as all, Or as some}
use Rattle.gates.specs.Kary.{all_of, kary_script, nand_script, enforce_nand_script}
use Rattle.gates.specs.Walk.{walk_script}
use Rattle.command.specs.declared.commands.Kind.{Kind}
use Rattle.command.specs.declared.commands.Kind.TheVariants.{Number as a_number}
use Rattle.command.specs.declared.commands.Range.{Range}
use Rattle.command.specs.declared.commands.Kary.{Kary}
use Rattle.command.specs.declared.commands.Kary.TheVariants.{And, Or, Nand, EnforceNand}
use Rattle.command.specs.declared.commands.Claim.{Claim}
use Rattle.command.specs.declared.commands.Claim.TheVariants.{Equal, Unequal}
use Rattle.command.specs.declared.commands.Command.TheVariants.{Bit as BitCommand, Clone, Not, Gated, Kary as KaryCommand, IsEqual, Select, Enforce, AtMost}
use Rattle.command.specs.declared.answers.Answer.{Answer}
use Rattle.command.specs.declared.answers.Answer.TheVariants.{Bit, Number}
use Rattle.command.specs.Decide.{fits, answers}
use Rattle.command.specs.Answers.{kind_of, kinds, mode_of, value_of, element_of, answer_at, bit_at, bits_at}
use Rattle.laws.specs.Law.{lists}
use Rattle.laws.specs.History.{Each, Along}
use Rattle.laws.specs.Bill.{takes_variable, takes_row, Next, names}
use Rattle.laws.proofs.Frame.{Is, function_law, function_pure, law_one}
use Rattle.bit_laws.specs.Bits.{bit_number_of, ThereBit, Three, AllBits, EqualIf, UnequalIf, NotAll, equality, picked, joined_bit, truths, spelled}
use Rattle.bit_laws.specs.Bills.{shadow, shadows, same_name, not_due, gate_due, is_eq_due, select_due, equal_due, unequal_due, kary_due, nand_due, enforce_nand_due, walk_due}
use Rattle.bit_laws.proofs.BitLaws.{pair, flipped, tabled, Bits, bit_low, gate_call, not_function, gate_function, New, new_law}
use Rattle.bit_laws.proofs.BitOrder.{new_sees, new_tidy, new_steady}
use Rattle.bit_laws.proofs.Choices.{triple, ThereTwo, ThereThree, is_eq_function, select_function, not_orderly, gate_orderly, is_eq_orderly, select_orderly}
use Rattle.bit_laws.proofs.Statements.{equal_law, unequal_law, equal_orderly, unequal_orderly}
use Rattle.bit_laws.proofs.Chains.{ThereAll, kary_function, nand_function, enforce_nand_law, kary_orderly, nand_orderly, enforce_nand_orderly}
use Rattle.bit_laws.proofs.Bound.{walk_law, walk_orderly}
use Rattle.bit_laws.proofs.Owes.{Owes, OldBit}
use Rattle.bit_laws.proofs.Sizes.{one_some, just_size, less_size}
use Rattle.bit_laws.proofs.BitBills.{not_owes, gate_owes, is_eq_owes, select_owes, equal_owes, unequal_owes}
use Rattle.bit_laws.proofs.WideBills.{kary_owes, nand_owes, enforce_nand_owes}
use Rattle.bit_laws.proofs.BoundBills.{walk_owes}
use Rattle.readings.specs.Readings.{number_of, numbers_of, numbers_at, Reading, BoundedByKind}
use Rattle.readings.specs.Decision.{new_due, Real}
use Rattle.readings.proofs.OnBook.{serve_one, bits, serve_statement, asks_function, states_law, first_of}
use Rattle.readings.proofs.Operands.{answer_same, bit_same, range_same, there_at, there_bit_at, there_range, real_at, old_at, old_range, kind_there, bounded_at, low_at, low_two, low_three, low_range, bits_two, bits_three}
use Rattle.readings.proofs.Tables.{Serves}

picked_low : (x : ℕ × ℕ × ℕ) → Three x → picked x ≤ 1
picked_low x h = go (truth x.0)
  where
    go : (b : Bool) → cond b x.1 x.2 ≤ 1
    go true = h.1
    go false = h.2

below_64 : (e : ℕ) → element_of e < 2 ^ 64
below_64 e = mod-lt e (lit< tt)

module _ (p : ℕ) (P : Prime p) (two : 2 < p) where
  -- ---- a new bit
  new_owes : (n : Next) (m : AllocationMode) (o : Option Bool) → Owes p n (alloc_script p m o) shadow OldBit (new_due m o)
  new_owes n as_constant None = record { charged = refl; ended = tt }
  new_owes n as_constant (Some b) = record { charged = refl; ended = (record { inputs = omega arith; witnesses = omega arith; places = omega arith }, refl, tt) }
  new_owes n as_input None = record { charged = λ i. takes_variable input false ∷ (takes_row (less_size p two (Input n.input_at) refl i + just_size p two 1 (Input n.input_at) (one_some p two) refl i + 0) ∷ []); ended = (record { inputs = omega arith; witnesses = omega arith; places = omega arith }, refl, omega arith) }
  new_owes n as_input (Some b) = record { charged = λ i. takes_variable input true ∷ (takes_row (less_size p two (Input n.input_at) refl i + just_size p two 1 (Input n.input_at) (one_some p two) refl i + 0) ∷ []); ended = (record { inputs = omega arith; witnesses = omega arith; places = omega arith }, refl, omega arith) }
  new_owes n as_witness None = record { charged = λ i. takes_variable witness false ∷ (takes_row (less_size p two (Witness n.witness_at) refl i + just_size p two 1 (Witness n.witness_at) (one_some p two) refl i + 0) ∷ []); ended = (record { inputs = omega arith; witnesses = omega arith; places = omega arith }, refl, omega arith) }
  new_owes n as_witness (Some b) = record { charged = λ i. takes_variable witness true ∷ (takes_row (less_size p two (Witness n.witness_at) refl i + just_size p two 1 (Witness n.witness_at) (one_some p two) refl i + 0) ∷ []); ended = (record { inputs = omega arith; witnesses = omega arith; places = omega arith }, refl, omega arith) }

  pub bit_command : (m v : ℕ) → Serves p (BitCommand m v)
  bit_command m v = serve_one (bits p) numbers_of (λ bk. alloc_script p (mode_of m) (value_of v)) (λ bk. bk) (λ xs. xs) (λ xs. Unit {0}) (λ xs y. New (mode_of m) (value_of v) y) (λ xs. Unit {0}) (λ xs. number (bit_number (value_of v))) (λ bk. new_due (mode_of m) (value_of v)) (fits (BitCommand m v)) record {
    law = new_law p P numbers_of (mode_of m) (value_of v);
    sees = λ bk h c t. new_sees p h c.one (mode_of m) (value_of v);
    tidy = λ bk. new_tidy p P.0 (mode_of m) (value_of v);
    steady = λ bk. new_steady p (mode_of m) (value_of v);
    owes = λ m₁ bk r t. new_owes (names m₁) (mode_of m) (value_of v);
    same = λ ρ bk t. refl;
    pre = λ bk xs t h. tt;
    low = λ x y h q. q.0;
  }

  -- ---- a clone asks for nothing, and is of its original's kind
  pub clone_command : (a : ℕ) → Serves p (Clone a)
  clone_command a = record {
    law = λ bk t. law_one p (λ ρ (u : Unit {0}). numbers_of ρ bk) number_of number_of (λ x. x) (λ ρ x. refl) (λ u. answer (answer_at bk a)) (λ xs. Unit {0}) (λ xs y. y ≡ get_or xs a 0) (λ xs. Unit {0}) (λ xs. get_or xs a 0)
        (function_law p (λ ρ (u : Unit {0}). numbers_of ρ bk) number_of (λ u. answer (answer_at bk a)) (λ xs. Unit {0}) (λ xs y. y ≡ get_or xs a 0) (λ xs. get_or xs a 0) (λ xs h. refl) (λ xs y h r. r)
        (function_pure p (λ ρ (u : Unit {0}). numbers_of ρ bk) number_of (λ u. answer (answer_at bk a)) (λ xs. Unit {0}) (λ xs. get_or xs a 0) (λ u. tt) (λ ρ low u h. answer_same ρ bk a)));
    sees = λ bk h o t. (there_at h bk a t, tt);
    tidy = λ bk. tt;
    foreseen = λ bk h q c t. tt;
    real = λ m k bk os r t q. subst (Each Real) (first_of (answer_at bk a ∷ []) os (names m) k q) (real_at bk a r, tt);
    kinds_are = λ n k bk os f q. ap kinds (sym (first_of (answer_at bk a ∷ []) os n k q)) ∙ ap (λ x. x ∷ []) (sym (kind_there bk a a_number f));
    pre = λ bk xs t h. tt;
    bounded = bounded;
    billed = λ m bk r t. refl;
  }
    where
      head : Kind → List Kind → Kind
      head d [] = d
      head d (k ∷ ks) = k

      -- what bounds an answer bounds one of the same kind
      alike : (o x : Answer) → kind_of o ≡ kind_of x → (r : ℕ) → BoundedByKind p x r → BoundedByKind p o r
      alike (Bit b) (Bit c) e r h = h
      alike (Bit b) (Number y) e r h = let z : ◌≡◌ {A = ℕ} 0 1 = cc e in absurd (omega arith)
      alike (Number y) (Bit b) e r h = let z : ◌≡◌ {A = ℕ} 0 1 = cc e in absurd (omega arith)
      alike (Number y) (Number z) e r h = h

      bounded : (bk os : List Answer) (old new : List ℕ) → fits (Clone a) (kinds bk) ≡ true → kinds os ≡ answers (Clone a) (kinds bk) → Along (BoundedByKind p) bk old → length new ≡ length os → Reading p (Clone a) old new → Along (BoundedByKind p) os new
      bounded bk os old [] f k h l q = absurd q
      bounded bk [] old (r ∷ []) f k h l q = absurd (omega arith)
      bounded bk (o ∷ []) old (r ∷ []) f k h l q = (subst (BoundedByKind p o) (sym q) (alike o (answer_at bk a) (ap (head a_number) k ∙ kind_there bk a a_number f) (get_or old a 0) (bounded_at p bk old h a f)), tt)
      bounded bk (o ∷ o₁ ∷ os) old (r ∷ []) f k h l q = absurd (omega arith)
      bounded bk os old (r ∷ s ∷ new) f k h l q = absurd q

  -- ---- questions
  pub not_command : (a : ℕ) → Serves p (Not a)
  not_command a = serve_one (bits p) bit_number_of (not_script p) (λ bk. bit_at bk a) (λ xs. get_or xs a 0) (λ x. x ≤ 1) (Is flipped) (λ x. Unit {0}) flipped (λ bk. not_due (shadow (bit_at bk a))) (fits (Not a))
      (asks_function (bits p) ThereBit (not_function p P) (not_orderly p P.0) (λ bk h t. there_bit_at h bk a t) (λ m bk r t. not_owes p two (names m) (bit_at bk a) (old_at m bk a r t)) (λ ρ bk t. bit_same ρ bk a t) (λ bk xs t h. low_at p bk xs h a t) (λ x h. bit_low _))

  pub gate_command : (g : Gate) (a b : ℕ) → Serves p (Gated g a b)
  gate_command g a b = serve_one (bits p) pair (gate_call g p) (λ bk. (bit_at bk a, bit_at bk b)) (λ xs. (get_or xs a 0, get_or xs b 0)) Bits (Is (tabled g)) (λ x. Unit {0}) (tabled g) (λ bk. gate_due g (same_name (bit_at bk a) (bit_at bk b)) (shadow (bit_at bk a)) (shadow (bit_at bk b))) (fits (Gated g a b))
      (asks_function (bits p) ThereTwo (gate_function g p P two) (gate_orderly p P.0 g) (λ bk h t. (there_bit_at h bk a t, there_bit_at h bk b t)) (λ m bk r t. gate_owes p two (names m) g (bit_at bk a) (bit_at bk b) (old_at m bk a r t) (old_at m bk b r t))
      (λ ρ bk t. bits_two ρ bk a b t) (λ bk xs t h. low_two p bk xs a b t h) (λ x h. bit_low _))

  pub is_eq_command : (a b : ℕ) → Serves p (IsEqual a b)
  is_eq_command a b = serve_one (bits p) pair (λ i. is_eq_script p i.0 i.1) (λ bk. (bit_at bk a, bit_at bk b)) (λ xs. (get_or xs a 0, get_or xs b 0)) Bits (Is equality) (λ x. Unit {0}) equality (λ bk. is_eq_due (same_name (bit_at bk a) (bit_at bk b)) (shadow (bit_at bk a)) (shadow (bit_at bk b))) (fits (IsEqual a b))
      (asks_function (bits p) ThereTwo (is_eq_function p P two) (is_eq_orderly p P.0) (λ bk h t. (there_bit_at h bk a t, there_bit_at h bk b t)) (λ m bk r t. is_eq_owes p two (names m) (bit_at bk a) (bit_at bk b) (old_at m bk a r t) (old_at m bk b r t))
      (λ ρ bk t. bits_two ρ bk a b t) (λ bk xs t h. low_two p bk xs a b t h) (λ x h. bit_low _))

  pub select_command : (c a b : ℕ) → Serves p (Select c a b)
  select_command c a b = serve_one (bits p) triple (λ i. select_script p i.0 i.1 i.2) (λ bk. (bit_at bk c, bit_at bk a, bit_at bk b)) (λ xs. (get_or xs c 0, get_or xs a 0, get_or xs b 0)) Three (Is picked) (λ x. Unit {0}) picked (λ bk. select_due (same_name (bit_at bk a) (bit_at bk b)) (shadow (bit_at bk c)) (shadow (bit_at bk a)) (shadow (bit_at bk b))) (fits (Select c a b))
      (asks_function (bits p) ThereThree (select_function p P two) (select_orderly p P.0) (λ bk h t. (there_bit_at h bk c t, there_bit_at h bk a t, there_bit_at h bk b t)) (λ m bk r t. select_owes p two (names m) (bit_at bk c) (bit_at bk a) (bit_at bk b) (old_at m bk c r t) (old_at m bk a r t) (old_at m bk b r t))
      (λ ρ bk t. bits_three ρ bk c a b t) (λ bk xs t h. low_three p bk xs c a b t h) picked_low)

  -- ---- many bits
  pub kary_command : (k : Kary) (r : Range) → Serves p (KaryCommand k r)
  kary_command And r = serve_one (bits p) (lists bit_number_of) (kary_script all p) (λ bk. bits_at bk r) (λ xs. numbers_at xs r) AllBits (Is (joined_bit all)) (λ x. Unit {0}) (joined_bit all) (λ bk. kary_due all p (shadows (bits_at bk r))) (fits (KaryCommand And r))
      (asks_function (bits p) ThereAll (kary_function p P two all) (kary_orderly p P.0 all) (λ bk h t. there_range h bk r t) (λ m bk e t. kary_owes p two all (bits_at bk r) (names m) (old_range m bk r e t)) (λ ρ bk t. range_same ρ bk r t) (λ bk xs t h. low_range p bk xs h r t) (λ x h. bit_low _))
  kary_command Or r = serve_one (bits p) (lists bit_number_of) (kary_script some p) (λ bk. bits_at bk r) (λ xs. numbers_at xs r) AllBits (Is (joined_bit some)) (λ x. Unit {0}) (joined_bit some) (λ bk. kary_due some p (shadows (bits_at bk r))) (fits (KaryCommand Or r))
      (asks_function (bits p) ThereAll (kary_function p P two some) (kary_orderly p P.0 some) (λ bk h t. there_range h bk r t) (λ m bk e t. kary_owes p two some (bits_at bk r) (names m) (old_range m bk r e t)) (λ ρ bk t. range_same ρ bk r t) (λ bk xs t h. low_range p bk xs h r t) (λ x h. bit_low _))
  kary_command Nand r = serve_one (bits p) (lists bit_number_of) (nand_script p) (λ bk. bits_at bk r) (λ xs. numbers_at xs r) AllBits (Is (λ xs. bit (not (all_of (truths xs))))) (λ x. Unit {0}) (λ xs. bit (not (all_of (truths xs)))) (λ bk. nand_due p (shadows (bits_at bk r))) (fits (KaryCommand Nand r))
      (asks_function (bits p) ThereAll (nand_function p P two) (nand_orderly p P.0) (λ bk h t. there_range h bk r t) (λ m bk e t. nand_owes p two (bits_at bk r) (names m) (old_range m bk r e t)) (λ ρ bk t. range_same ρ bk r t) (λ bk xs t h. low_range p bk xs h r t) (λ x h. bit_low _))
  kary_command EnforceNand r = serve_statement p (lists bit_number_of) (enforce_nand_script p) (λ bk. bits_at bk r) (λ xs. numbers_at xs r) AllBits NotAll (λ q bk. enforce_nand_due p (shadows (bits_at bk r))) (fits (KaryCommand EnforceNand r))
      (states_law p ThereAll (enforce_nand_law p P two) (enforce_nand_orderly p P.0) (λ bk h t. there_range h bk r t) (λ m bk e t. enforce_nand_owes p two (bits_at bk r) (names m) (old_range m bk r e t)) (λ ρ bk t. range_same ρ bk r t) (λ bk xs t h. low_range p bk xs h r t))

  -- ---- statements
  pub claim_command : (e : Claim) (a b c : ℕ) → Serves p (Enforce e a b c)
  claim_command Equal a b c = serve_statement p triple (λ i. equal_script p i.0 i.1 i.2) (λ bk. (bit_at bk a, bit_at bk b, bit_at bk c)) (λ xs. (get_or xs a 0, get_or xs b 0, get_or xs c 0)) Three EqualIf (λ q bk. equal_due (same_name (bit_at bk a) (bit_at bk b)) (shadow (bit_at bk a)) (shadow (bit_at bk b)) (shadow (bit_at bk c))) (fits (Enforce Equal a b c))
      (states_law p ThereThree (equal_law p two) (equal_orderly p) (λ bk h t. (there_bit_at h bk a t, there_bit_at h bk b t, there_bit_at h bk c t)) (λ m bk r t. equal_owes p two (names m) (bit_at bk a) (bit_at bk b) (bit_at bk c) (old_at m bk a r t) (old_at m bk b r t) (old_at m bk c r t))
      (λ ρ bk t. bits_three ρ bk a b c t) (λ bk xs t h. low_three p bk xs a b c t h))
  claim_command Unequal a b c = serve_statement p triple (λ i. unequal_script p i.0 i.1 i.2) (λ bk. (bit_at bk a, bit_at bk b, bit_at bk c)) (λ xs. (get_or xs a 0, get_or xs b 0, get_or xs c 0)) Three UnequalIf (λ q bk. unequal_due (same_name (bit_at bk a) (bit_at bk b)) (shadow (bit_at bk a)) (shadow (bit_at bk b)) (shadow (bit_at bk c))) (fits (Enforce Unequal a b c))
      (states_law p ThereThree (unequal_law p two) (unequal_orderly p) (λ bk h t. (there_bit_at h bk a t, there_bit_at h bk b t, there_bit_at h bk c t)) (λ m bk r t. unequal_owes p two (names m) (bit_at bk a) (bit_at bk b) (bit_at bk c) (old_at m bk a r t) (old_at m bk b r t) (old_at m bk c r t))
      (λ ρ bk t. bits_three ρ bk a b c t) (λ bk xs t h. low_three p bk xs a b c t h))

  pub bound_command : (r : Range) (e : ℕ) → Serves p (AtMost r e)
  bound_command r e = serve_statement p (lists bit_number_of) (λ bs. walk_script p bs (element_of e)) (λ bk. bits_at bk r) (λ xs. numbers_at xs r) AllBits (λ xs. spelled xs ≤ element_of e) (λ q bk. walk_due p (shadows (bits_at bk r)) (element_of e)) (fits (AtMost r e))
      (states_law p ThereAll (walk_law p P two (element_of e) (below_64 e)) (walk_orderly p P.0 (element_of e)) (λ bk h t. there_range h bk r t) (λ m bk q t. walk_owes p two (bits_at bk r) (element_of e) (names m) (old_range m bk r q t)) (λ ρ bk t. range_same ρ bk r t) (λ bk xs t h. low_range p bk xs h r t))
