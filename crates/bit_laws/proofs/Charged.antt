-- The bills of the gates on bits, where a system has what they name.
use Rattle.std.proofs.Common.{◌≡◌, ℕ, ◌<◌, true, eqb, List}
use Rattle.relations.specs.declared.term.Variable.{Variable}
use Rattle.relations.specs.Sum.{code}
use Rattle.relations.specs.Meaning.{Meaning, has}
use Rattle.allocated.specs.declared.gate.Gate.{Gate}
use Rattle.boolean.specs.declared.bits.Boolean.{Boolean}
use Rattle.boolean.specs.Booleans.{not_script, is_eq_script, select_script, equal_script, unequal_script, zero_script}
use Rattle.fp.specs.Equality.{differ_script, is_eq_script as is_eq_number_script, is_neq_script as is_neq_number_script}
use Rattle.gates.specs.declared.wide.Wide.{Wide}
use Rattle.gates.specs.Kary.{chain_script, kary_script, nand_script, enforce_nand_script}
use Rattle.gates.specs.Walk.{walk_script}
use Rattle.laws.specs.History.{Each}
use Rattle.laws.specs.Bill.{names, charges}
use Rattle.bit_laws.proofs.Lists.{each_mono}
use Rattle.bit_laws.specs.Bits.{real, RealBit, ThereBit}
use Rattle.bit_laws.specs.Bills.{shadow, shadows, same_name, not_due, gate_due, is_eq_due, select_due, equal_due, unequal_due, zero_due, differ_bill, is_eq_bill, is_neq_bill, chain_all_due, kary_due, nand_due, enforce_nand_due, walk_due}
use Rattle.bit_laws.proofs.BitLaws.{gate_call}
use Rattle.bit_laws.proofs.Owes.{Older, OldBit, older_there, old_there}
use Rattle.bit_laws.proofs.BitBills.{not_owes, gate_owes, is_eq_owes, select_owes, equal_owes, unequal_owes, zero_owes}
use Rattle.bit_laws.proofs.WideBills.{AllOld, chain_all_owes, differ_owes, is_eq_number_owes, is_neq_number_owes, kary_owes, nand_owes, enforce_nand_owes}
use Rattle.bit_laws.proofs.BoundBills.{walk_owes}

-- a bit names an input, a witness or a combination, which is there
abbrev pub Stands : Meaning → Boolean → Type 0
Stands m b = RealBit b × ThereBit (has m) b

-- so does a variable
abbrev pub Standing : Meaning → Variable → Type 0
Standing m v = (real v ≡ true) × (has m v ≡ true)

old : (m : Meaning) (b : Boolean) → Stands m b → OldBit (names m) b
old m b h = old_there m b h.0 h.1

older : (m : Meaning) (v : Variable) → Standing m v → Older (names m) v
older m v h = older_there m v h.0 h.1

all_old : (m : Meaning) (bs : List Boolean) → Each (Stands m) bs → AllOld (names m) bs
all_old m bs h = each_mono (Stands m) (OldBit (names m)) (old m) bs h

module _ (p : ℕ) (two : 2 < p) (m : Meaning) where
  -- ---- bits
  pub not_charges : (a : Boolean) → Stands m a → charges p (names m) (not_script p a) ≡ (not_due (shadow a)).0
  not_charges a ha = (not_owes p two (names m) a (old m a ha)).charged

  pub gate_charges : (g : Gate) (a b : Boolean) → Stands m a → Stands m b → charges p (names m) (gate_call g p (a, b)) ≡ (gate_due g (same_name a b) (shadow a) (shadow b)).0
  gate_charges g a b ha hb = (gate_owes p two (names m) g a b (old m a ha) (old m b hb)).charged

  pub is_eq_charges : (a b : Boolean) → Stands m a → Stands m b → charges p (names m) (is_eq_script p a b) ≡ (is_eq_due (same_name a b) (shadow a) (shadow b)).0
  is_eq_charges a b ha hb = (is_eq_owes p two (names m) a b (old m a ha) (old m b hb)).charged

  pub select_charges : (c a b : Boolean) → Stands m c → Stands m a → Stands m b → charges p (names m) (select_script p c a b) ≡ (select_due (same_name a b) (shadow c) (shadow a) (shadow b)).0
  select_charges c a b hc ha hb = (select_owes p two (names m) c a b (old m c hc) (old m a ha) (old m b hb)).charged

  -- ---- statements
  pub equal_charges : (a b c : Boolean) → Stands m a → Stands m b → Stands m c → charges p (names m) (equal_script p a b c) ≡ (equal_due (same_name a b) (shadow a) (shadow b) (shadow c)).0
  equal_charges a b c ha hb hc = (equal_owes p two (names m) a b c (old m a ha) (old m b hb) (old m c hc)).charged

  pub unequal_charges : (a b c : Boolean) → Stands m a → Stands m b → Stands m c → charges p (names m) (unequal_script p a b c) ≡ (unequal_due (same_name a b) (shadow a) (shadow b) (shadow c)).0
  unequal_charges a b c ha hb hc = (unequal_owes p two (names m) a b c (old m a ha) (old m b hb) (old m c hc)).charged

  pub zero_charges : (a : Boolean) → Stands m a → charges p (names m) (zero_script a) ≡ (zero_due (shadow a)).0
  zero_charges a ha = (zero_owes p two (names m) a (old m a ha)).charged

  -- ---- numbers
  pub differ_charges : (x y : Variable) → Standing m x → Standing m y → charges p (names m) (differ_script p x y) ≡ differ_bill (eqb (code x) (code y))
  differ_charges x y hx hy = (differ_owes p two x y (names m) (older m x hx) (older m y hy)).charged

  pub is_eq_number_charges : (x y : Variable) → Standing m x → Standing m y → charges p (names m) (is_eq_number_script p x y) ≡ is_eq_bill (eqb (code x) (code y))
  is_eq_number_charges x y hx hy = (is_eq_number_owes p two x y (names m) (older m x hx) (older m y hy)).charged

  pub is_neq_number_charges : (x y : Variable) → Standing m x → Standing m y → charges p (names m) (is_neq_number_script p x y) ≡ is_neq_bill (eqb (code x) (code y))
  is_neq_number_charges x y hx hy = (is_neq_number_owes p two x y (names m) (older m x hx) (older m y hy)).charged

  -- ---- gates of many bits
  pub chain_charges : (g : Wide) (bs : List Boolean) → Each (Stands m) bs → charges p (names m) (chain_script g p bs) ≡ (chain_all_due g (shadows bs)).0
  chain_charges g bs h = (chain_all_owes p two g bs (names m) (all_old m bs h)).charged

  pub kary_charges : (g : Wide) (bs : List Boolean) → Each (Stands m) bs → charges p (names m) (kary_script g p bs) ≡ (kary_due g p (shadows bs)).0
  kary_charges g bs h = (kary_owes p two g bs (names m) (all_old m bs h)).charged

  pub nand_charges : (bs : List Boolean) → Each (Stands m) bs → charges p (names m) (nand_script p bs) ≡ (nand_due p (shadows bs)).0
  nand_charges bs h = (nand_owes p two bs (names m) (all_old m bs h)).charged

  pub enforce_nand_charges : (bs : List Boolean) → Each (Stands m) bs → charges p (names m) (enforce_nand_script p bs) ≡ (enforce_nand_due p (shadows bs)).0
  enforce_nand_charges bs h = (enforce_nand_owes p two bs (names m) (all_old m bs h)).charged

  pub walk_charges : (bs : List Boolean) (e : ℕ) → Each (Stands m) bs → charges p (names m) (walk_script p bs e) ≡ (walk_due p (shadows bs) e).0
  walk_charges bs e h = (walk_owes p two bs e (names m) (all_old m bs h)).charged
