-- The bills of the calls on numbers' bits and on comparison, where a system has what they name.
use Rattle.std.proofs.Common.{◌≡◌, ℕ, Bool, List}
use Rattle.std.specs.declared.cmp.Ordering.{Ordering}
use Rattle.field.specs.Laws.{OddPrime}
use Rattle.relations.specs.Meaning.{Meaning}
use Rattle.boolean.specs.declared.bits.Boolean.{Boolean}
use Rattle.fp_var.specs.declared.numbers.FpVar.{FpVar}
use Rattle.fp_bits.specs.Bits.{to_non_unique_bits_script, to_bits_script, le_bits_script, top_bits_zero_script}
use Rattle.fp_cmp.specs.Compare.{is_cmp_script, enforce_cmp_script}
use Rattle.laws.specs.History.{Each}
use Rattle.laws.specs.Bill.{names, charges}
use Rattle.bit_laws.specs.Bills.{shadows}
use Rattle.bit_laws.proofs.Owes.{OldBit, old_there}
use Rattle.bit_laws.proofs.WideBills.{AllOld}
use Rattle.bit_laws.proofs.Lists.{each_mono}
use Rattle.bit_laws.proofs.Charged.{Stands}
use Rattle.number_laws.specs.Bills.{number_shadow, same_number}
use Rattle.number_laws.proofs.NumberSizes.{OldFp, old_fp_there}
use Rattle.number_laws.proofs.NumberCharged.{StandsFp}
use Rattle.fp_bit_laws.specs.Bills.{to_non_unique_bits_due, to_bits_due, le_bits_due, top_bits_zero_due, is_cmp_due, enforce_cmp_due}
use Rattle.fp_bit_laws.proofs.BitsBills.{to_non_unique_bits_owes, to_bits_owes}
use Rattle.fp_bit_laws.proofs.GatherBills.{le_bits_owes, top_bits_zero_owes}
use Rattle.fp_bit_laws.proofs.OrderingBills.{is_cmp_owes, enforce_cmp_owes}

old : (m : Meaning) (a : FpVar) → StandsFp m a → OldFp (names m) a
old m a h = old_fp_there m a h.0 h.1

all_old : (m : Meaning) (bs : List Boolean) → Each (Stands m) bs → AllOld (names m) bs
all_old m bs h = each_mono (Stands m) (OldBit (names m)) (λ b q. old_there m b q.0 q.1) bs h

module _ (p : ℕ) (P : OddPrime p) (m : Meaning) where
  pub le_bits_charges : (bs : List Boolean) → Each (Stands m) bs → charges p (names m) (le_bits_script p bs) ≡ (le_bits_due p (shadows bs)).0
  le_bits_charges bs h = (le_bits_owes p P bs (names m) (all_old m bs h)).charged

  pub to_non_unique_bits_charges : (a : FpVar) → StandsFp m a → charges p (names m) (to_non_unique_bits_script p a) ≡ (to_non_unique_bits_due p (number_shadow a)).0
  to_non_unique_bits_charges a h = (to_non_unique_bits_owes p P a (names m) (old m a h)).charged

  pub to_bits_charges : (a : FpVar) → StandsFp m a → charges p (names m) (to_bits_script p a) ≡ (to_bits_due p (number_shadow a)).0
  to_bits_charges a h = (to_bits_owes p P a (names m) (old m a h)).charged

  pub top_bits_zero_charges : (k : ℕ) (a : FpVar) → StandsFp m a → charges p (names m) (top_bits_zero_script p k a) ≡ (top_bits_zero_due p k (number_shadow a)).0
  top_bits_zero_charges k a h = (top_bits_zero_owes p P k a (names m) (old m a h)).charged

  pub is_cmp_charges : (o : Ordering) (flag : Bool) (a b : FpVar) → StandsFp m a → StandsFp m b → charges p (names m) (is_cmp_script p o flag a b) ≡ (is_cmp_due p o flag (same_number a b) (number_shadow a) (number_shadow b)).0
  is_cmp_charges o flag a b ha hb = (is_cmp_owes p P o flag a b (names m) (old m a ha) (old m b hb)).charged

  pub enforce_cmp_charges : (o : Ordering) (flag : Bool) (a b : FpVar) → StandsFp m a → StandsFp m b
      → charges p (names m) (enforce_cmp_script p o flag a b) ≡ (enforce_cmp_due p o flag (same_number a b) (number_shadow a) (number_shadow b)).0
  enforce_cmp_charges o flag a b ha hb = (enforce_cmp_owes p P o flag a b (names m) (old m a ha) (old m b hb)).charged
