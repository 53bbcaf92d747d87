-- The scripts of not, of gates on two bits and of new bits, in order: all that they name is there, and the values that they give are bits.
use Rattle.std.proofs.Common.{◌≡◌, ℕ, ◌<◌, Bool, true, false, Some, None, Option, refl, arith}
use Rattle.relations.specs.declared.term.Variable.TheVariants.{One}
use Rattle.boolean.specs.declared.mode.AllocationMode.{AllocationMode}
use Rattle.boolean.specs.declared.mode.AllocationMode.TheVariants.{Constant as as_constant, Input as as_input, Witness as as_witness}
use Rattle.allocated.specs.declared.gate.Gate.{Gate}
use Rattle.allocated.specs.declared.gate.Gate.TheVariants.{And, Or, Xor}
use Rattle.boolean.specs.declared.bits.Boolean.{Boolean}
use Rattle.boolean.specs.declared.bits.Boolean.TheVariants.{Constant, Var}
use Rattle.allocated.specs.Gates.{bit, bit_number}
use Rattle.boolean.specs.Booleans.{alloc_script, not_script}
use Rattle.laws.specs.Law.{There, Sees, Below, Tidy, Steady}
use Rattle.bit_laws.specs.Bits.{ThereBit}
use Rattle.bit_laws.proofs.BitLaws.{gate_call}

-- ---- what is named is there
-- One is always there
abbrev pub HasOne : There → Type 0
HasOne h = h One ≡ true

pub not_sees : (p : ℕ) (h : There) → HasOne h → (a : Boolean) → ThereBit h a → Sees h (not_script p a) ThereBit
not_sees p h o (Constant b) t = tt
not_sees p h o (Var a) t = ((o, (t, tt)), λ h₁ w v e. e)

pub new_sees : (p : ℕ) (h : There) → HasOne h → (m : AllocationMode) (v : Option Bool) → Sees h (alloc_script p m v) ThereBit
new_sees p h o as_constant None = tt
new_sees p h o as_constant (Some b) = tt
new_sees p h o as_input v = (tt, λ h₁ w x e. ((w One o, (e, tt)), (e, tt), tt, e))
new_sees p h o as_witness v = (tt, λ h₁ w x e. ((w One o, (e, tt)), (e, tt), tt, e))

pub gate_sees : (g : Gate) (p : ℕ) (h : There) → HasOne h → (a b : Boolean) → ThereBit h a → ThereBit h b → Sees h (gate_call g p (a, b)) ThereBit
gate_sees And p h o (Constant true) b ta tb = tb
gate_sees And p h o (Constant false) b ta tb = tt
gate_sees And p h o (Var a) (Constant true) ta tb = ta
gate_sees And p h o (Var a) (Constant false) ta tb = tt
gate_sees And p h o (Var a) (Var b) ta tb = ((ta, (tb, tt)), λ h₁ w x e. ((w a.variable ta, tt), (w b.variable tb, tt), (e, tt), e))
gate_sees Or p h o (Constant true) b ta tb = tt
gate_sees Or p h o (Constant false) b ta tb = tb
gate_sees Or p h o (Var a) (Constant true) ta tb = tt
gate_sees Or p h o (Var a) (Constant false) ta tb = ta
gate_sees Or p h o (Var a) (Var b) ta tb = ((ta, (tb, tt)), λ h₁ w x e. ((w One o, (w a.variable ta, tt)), (w One o, (w b.variable tb, tt)), (w One o, (e, tt)), e))
gate_sees Xor p h o (Constant true) b ta tb = not_sees p h o b tb
gate_sees Xor p h o (Constant false) b ta tb = tb
gate_sees Xor p h o (Var a) (Constant true) ta tb = not_sees p h o (Var a) ta
gate_sees Xor p h o (Var a) (Constant false) ta tb = ta
gate_sees Xor p h o (Var a) (Var b) ta tb = ((ta, (tb, tt)), λ h₁ w x e. ((w a.variable ta, tt), (w b.variable tb, tt), (w a.variable ta, (w b.variable tb, (e, tt))), e))

-- ---- the values that are given are bits, and are there whatever was asked for
pub bit_below : (p : ℕ) → 1 < p → (b : Bool) → bit b < p
bit_below p above true = above
bit_below p above false = omega arith

pub given_below : (p : ℕ) → 1 < p → (v : Option Bool) → Below p (bit_number v)
given_below p above None = tt
given_below p above (Some b) = bit_below p above b

pub new_tidy : (p : ℕ) → 1 < p → (m : AllocationMode) (v : Option Bool) → Tidy p (alloc_script p m v)
new_tidy p above as_constant None = tt
new_tidy p above as_constant (Some b) = tt
new_tidy p above as_input v = ((λ ρ low. given_below p above v), λ x. tt)
new_tidy p above as_witness v = ((λ ρ low. given_below p above v), λ x. tt)

pub not_tidy : (p : ℕ) (a : Boolean) → Tidy p (not_script p a)
not_tidy p (Constant b) = tt
not_tidy p (Var a) = λ v. tt

pub gate_tidy : (g : Gate) (p : ℕ) → 1 < p → (a b : Boolean) → Tidy p (gate_call g p (a, b))
gate_tidy And p above (Constant true) b = tt
gate_tidy And p above (Constant false) b = tt
gate_tidy And p above (Var a) (Constant true) = tt
gate_tidy And p above (Var a) (Constant false) = tt
gate_tidy And p above (Var a) (Var b) = ((λ ρ low. bit_below p above _), λ v. tt)
gate_tidy Or p above (Constant true) b = tt
gate_tidy Or p above (Constant false) b = tt
gate_tidy Or p above (Var a) (Constant true) = tt
gate_tidy Or p above (Var a) (Constant false) = tt
gate_tidy Or p above (Var a) (Var b) = ((λ ρ low. bit_below p above _), λ v. tt)
gate_tidy Xor p above (Constant true) b = not_tidy p b
gate_tidy Xor p above (Constant false) b = tt
gate_tidy Xor p above (Var a) (Constant true) = λ v. tt
gate_tidy Xor p above (Var a) (Constant false) = tt
gate_tidy Xor p above (Var a) (Var b) = ((λ ρ low. bit_below p above _), λ v. tt)

pub new_steady : (p : ℕ) (m : AllocationMode) (v : Option Bool) → Steady (alloc_script p m v)
new_steady p as_constant None = tt
new_steady p as_constant (Some b) = tt
new_steady p as_input v = ((λ ρ. refl), λ x. tt)
new_steady p as_witness v = ((λ ρ. refl), λ x. tt)

pub not_steady : (p : ℕ) (a : Boolean) → Steady (not_script p a)
not_steady p (Constant b) = tt
not_steady p (Var a) = λ v. tt

pub gate_steady : (g : Gate) (p : ℕ) (a b : Boolean) → Steady (gate_call g p (a, b))
gate_steady And p (Constant true) b = tt
gate_steady And p (Constant false) b = tt
gate_steady And p (Var a) (Constant true) = tt
gate_steady And p (Var a) (Constant false) = tt
gate_steady And p (Var a) (Var b) = ((λ ρ. refl), λ v. tt)
gate_steady Or p (Constant true) b = tt
gate_steady Or p (Constant false) b = tt
gate_steady Or p (Var a) (Constant true) = tt
gate_steady Or p (Var a) (Constant false) = tt
gate_steady Or p (Var a) (Var b) = ((λ ρ. refl), λ v. tt)
gate_steady Xor p (Constant true) b = not_steady p b
gate_steady Xor p (Constant false) b = tt
gate_steady Xor p (Var a) (Constant true) = λ v. tt
gate_steady Xor p (Var a) (Constant false) = tt
gate_steady Xor p (Var a) (Var b) = ((λ ρ. refl), λ v. tt)
