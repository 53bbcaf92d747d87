-- The bills of the calls on numbers, where a system has what they name.
use Rattle.std.proofs.Common.{◌≡◌, ℕ, ◌<◌, Option}
use Rattle.relations.specs.Meaning.{assigned, Meaning, has}
use Rattle.boolean.specs.declared.mode.AllocationMode.{AllocationMode}
use Rattle.boolean.specs.declared.bits.Boolean.{Boolean}
use Rattle.fp_var.specs.declared.numbers.FpVar.{FpVar}
use Rattle.fp_var.specs.Numbers.{alloc_script, add_script, negate_script, sub_script, double_script, mul_script, inverse_script, of_bit_script, is_eq_script, is_neq_script, mul_equals_script, square_equals_script, equal_script, unequal_script, select_script}
use Rattle.laws.specs.Bill.{names, charges}
use Rattle.bit_laws.specs.Bills.{shadow}
use Rattle.bit_laws.proofs.Owes.{OldBit, old_there}
use Rattle.bit_laws.proofs.Charged.{Stands}
use Rattle.number_laws.specs.Numbers.{ThereFp, RealFp}
use Rattle.number_laws.specs.Bills.{number_shadow, same_number, add_due, sub_due, negate_due, double_due, mul_due, inverse_due, of_bit_due, alloc_due, select_due, is_eq_due, is_neq_due, mul_equals_due, square_equals_due, equal_due, unequal_due, has_multiplier}
use Rattle.number_laws.proofs.NumberSizes.{OldFp, old_fp_there}
use Rattle.number_laws.proofs.NumberBills.{add_owes, sub_owes, negate_owes, double_owes, mul_owes, inverse_owes, of_bit_owes, alloc_owes, select_owes, is_eq_owes, is_neq_owes}
use Rattle.number_laws.proofs.StatementBills.{mul_equals_owes, square_equals_owes, equal_owes, unequal_owes}

-- a number is a constant, or names an input, a witness or a combination, which is there
abbrev pub StandsFp : Meaning → FpVar → Type 0
StandsFp m a = RealFp a × ThereFp (has m) a

old : (m : Meaning) (a : FpVar) → StandsFp m a → OldFp (names m) a
old m a h = old_fp_there m a h.0 h.1

old_bit : (m : Meaning) (b : Boolean) → Stands m b → OldBit (names m) b
old_bit m b h = old_there m b h.0 h.1

module _ (p : ℕ) (two : 2 < p) (m : Meaning) where
  -- ---- calls
  pub alloc_charges : (mode : AllocationMode) (o : Option ℕ) → charges p (names m) (alloc_script p mode o) ≡ (alloc_due p mode o).0
  alloc_charges mode o = (alloc_owes p two (names m) mode o).charged

  pub add_charges : (a b : FpVar) → StandsFp m a → StandsFp m b → charges p (names m) (add_script p a b) ≡ (add_due p (same_number a b) (number_shadow a) (number_shadow b)).0
  add_charges a b ha hb = (add_owes p two (names m) a b (old m a ha) (old m b hb)).charged

  pub sub_charges : (a b : FpVar) → StandsFp m a → StandsFp m b → charges p (names m) (sub_script p a b) ≡ (sub_due p (same_number a b) (number_shadow a) (number_shadow b)).0
  sub_charges a b ha hb = (sub_owes p two (names m) a b (old m a ha) (old m b hb)).charged

  pub negate_charges : (a : FpVar) → StandsFp m a → charges p (names m) (negate_script p a) ≡ (negate_due p (number_shadow a)).0
  negate_charges a ha = (negate_owes p two (names m) a (old m a ha)).charged

  pub double_charges : (a : FpVar) → StandsFp m a → charges p (names m) (double_script p a) ≡ (double_due p (number_shadow a)).0
  double_charges a ha = (double_owes p two (names m) a (old m a ha)).charged

  pub mul_charges : (a b : FpVar) → StandsFp m a → StandsFp m b → charges p (names m) (mul_script p a b) ≡ (mul_due p (number_shadow a) (number_shadow b)).0
  mul_charges a b ha hb = (mul_owes p two (names m) a b (old m a ha) (old m b hb)).charged

  pub inverse_charges : (a : FpVar) → StandsFp m a → charges p (names m) (inverse_script p a) ≡ (inverse_due p (number_shadow a)).0
  inverse_charges a ha = (inverse_owes p two (names m) a (old m a ha)).charged

  pub of_bit_charges : (b : Boolean) → Stands m b → charges p (names m) (of_bit_script b) ≡ (of_bit_due (shadow b)).0
  of_bit_charges b hb = (of_bit_owes p two (names m) b (old_bit m b hb)).charged

  pub select_charges : (c : Boolean) (a b : FpVar) → Stands m c → StandsFp m a → StandsFp m b → charges p (names m) (select_script p c a b) ≡ (select_due p (same_number a b) (shadow c) (number_shadow a) (number_shadow b)).0
  select_charges c a b hc ha hb = (select_owes p two (names m) c a b (old_bit m c hc) (old m a ha) (old m b hb)).charged

  -- ---- questions
  pub is_eq_charges : (a b : FpVar) → StandsFp m a → StandsFp m b → charges p (names m) (is_eq_script p a b) ≡ (is_eq_due p (same_number a b) (number_shadow a) (number_shadow b)).0
  is_eq_charges a b ha hb = (is_eq_owes p two (names m) a b (old m a ha) (old m b hb)).charged

  pub is_neq_charges : (a b : FpVar) → StandsFp m a → StandsFp m b → charges p (names m) (is_neq_script p a b) ≡ (is_neq_due p (same_number a b) (number_shadow a) (number_shadow b)).0
  is_neq_charges a b ha hb = (is_neq_owes p two (names m) a b (old m a ha) (old m b hb)).charged

  -- ---- statements
  pub mul_equals_charges : (a b c : FpVar) → StandsFp m a → StandsFp m b → StandsFp m c
      → charges p (names m) (mul_equals_script p a b c) ≡ (mul_equals_due p (same_number a c) (same_number b c) (number_shadow a) (number_shadow b) (number_shadow c)).0
  mul_equals_charges a b c ha hb hc = (mul_equals_owes p two (names m) a b c (old m a ha) (old m b hb) (old m c hc)).charged

  pub square_equals_charges : (a b : FpVar) → StandsFp m a → StandsFp m b → charges p (names m) (square_equals_script p a b) ≡ (square_equals_due p (number_shadow a) (number_shadow b)).0
  square_equals_charges a b ha hb = (square_equals_owes p two (names m) a b (old m a ha) (old m b hb)).charged

  pub equal_charges : (a b : FpVar) (c : Boolean) → StandsFp m a → StandsFp m b → Stands m c → charges p (names m) (equal_script p a b c) ≡ (equal_due p (same_number a b) (number_shadow a) (number_shadow b) (shadow c)).0
  equal_charges a b c ha hb hc = (equal_owes p two (names m) a b c (old m a ha) (old m b hb) (old_bit m c hc)).charged

  -- whether the multiplier has a value goes by the numbers that the system keeps
  pub unequal_charges : (a b : FpVar) (c : Boolean) → StandsFp m a → StandsFp m b → Stands m c
      → charges p (names m) (unequal_script p a b c) ≡ (unequal_due p (same_number a b) (has_multiplier p (assigned m) a b c) (number_shadow a) (number_shadow b) (shadow c)).0
  unequal_charges a b c ha hb hc = (unequal_owes p two (names m) a b c (old m a ha) (old m b hb) (old_bit m c hc)).charged
