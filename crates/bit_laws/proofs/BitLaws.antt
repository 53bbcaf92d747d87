-- The laws of the gadgets on bits.
use Rattle.std.proofs.Common.{◌≡◌, ℕ, zero, suc, ◌+◌, ◌-◌, ◌*◌, ◌%◌, ◌<◌, ◌≤◌, Bool, true, false, not, ◌&&◌, Some, None, Option, sym, refl, ap, ◌∙◌, subst, arith}
use Rattle.arith.specs.Number.{Prime}
use Rattle.relations.specs.declared.term.Variable.{Variable}
use Rattle.relations.specs.declared.term.Variable.TheVariants.{One}
use Rattle.relations.specs.Meaning.{number}
use Rattle.relations.specs.Script.{Script}
use Rattle.boolean.specs.declared.mode.AllocationMode.{AllocationMode}
use Rattle.boolean.specs.declared.mode.AllocationMode.TheVariants.{Constant as as_constant, Input as as_input, Witness as as_witness}
use Rattle.allocated.specs.declared.gate.Gate.{Gate}
use Rattle.allocated.specs.declared.gate.Gate.TheVariants.{And, Or, Xor}
use Rattle.allocated.specs.declared.allocated.AllocatedBool.{AllocatedBool}
use Rattle.boolean.specs.declared.bits.Boolean.{Boolean}
use Rattle.boolean.specs.declared.bits.Boolean.TheVariants.{Constant, Var}
use Rattle.boolean.specs.declared.bits.BooleanCall.TheVariants.{Gated}
use Rattle.allocated.specs.Gates.{bit, truth, applied, either, differ, bit_number}
use Rattle.boolean.specs.Booleans.{alloc_script, not_script, call_script}
use Rattle.laws.specs.Law.{Val, Low, Must, Given, Goes, Forces, Computes, Law}
use Rattle.laws.proofs.Frame.{Is, Function, Pure, pure_plays, any_plan, function_pure}
use Rattle.bit_laws.specs.Bits.{bit_number_of, Valued}
use Rattle.bit_laws.proofs.Rows.{one_less, bit_forced, bit_met, Row, gate_forced, gate_met}

abbrev pub pair : Val → Boolean × Boolean → ℕ × ℕ
pair ρ i = (bit_number_of ρ i.0, bit_number_of ρ i.1)

-- ---- bits as truth values
pub same_bit : (x : ℕ) → x ≤ 1 → x ≡ bit (truth x)
same_bit zero h = refl
same_bit (suc zero) h = refl
same_bit (suc (suc x)) h = absurd (omega arith)

less_bit : (x : ℕ) → x ≤ 1 → 1 - x ≡ bit (not (truth x))
less_bit zero h = refl
less_bit (suc zero) h = refl
less_bit (suc (suc x)) h = absurd (omega arith)

pub bit_low : (b : Bool) → bit b ≤ 1
bit_low true = omega arith
bit_low false = omega arith

pub known_bit : (b : Bool) → truth (bit b) ≡ b
known_bit true = refl
known_bit false = refl

-- ---- not
abbrev pub flipped : ℕ → ℕ
flipped x = bit (not (truth x))

pub not_pure : (p : ℕ) (a : Boolean) → Pure (not_script p a)
not_pure p (Constant b) = tt
not_pure p (Var a) = λ v. tt

pub not_forces : (p : ℕ) → Prime p → Forces p bit_number_of bit_number_of (not_script p) (λ x. x ≤ 1) (Is flipped)
not_forces p P ρ low (Constant b) h = ap (λ x. bit (not x)) (sym (known_bit b))
not_forces p P ρ low (Var a) h = λ v e. e ∙ one_less p (ρ One) (ρ a.variable) P.0 low.one h ∙ less_bit (ρ a.variable) h

pub not_function : (p : ℕ) → Prime p → Function p bit_number_of bit_number_of (not_script p) (λ x. x ≤ 1) flipped
not_function p P = function_pure p bit_number_of bit_number_of (not_script p) (λ x. x ≤ 1) flipped (not_pure p) (not_forces p P)

-- ---- gates
abbrev pub tabled : Gate → ℕ × ℕ → ℕ
tabled g x = bit (applied g (truth x.0) (truth x.1))

abbrev pub Bits : ℕ × ℕ → Type 0
Bits x = (x.0 ≤ 1) × (x.1 ≤ 1)

abbrev pub gate_call : Gate → ℕ → Boolean × Boolean → Script Boolean
gate_call g p i = call_script p (Gated g i.0 i.1)

and_right : (t : Bool) → bit t ≡ bit (t && true)
and_right true = refl
and_right false = refl

and_none : (t : Bool) → bit false ≡ bit (t && false)
and_none true = refl
and_none false = refl

or_all : (t : Bool) → bit true ≡ bit (either t true)
or_all true = refl
or_all false = refl

or_right : (t : Bool) → bit t ≡ bit (either t false)
or_right true = refl
or_right false = refl

xor_not : (t : Bool) → bit (not t) ≡ bit (differ t true)
xor_not true = refl
xor_not false = refl

xor_right : (t : Bool) → bit t ≡ bit (differ t false)
xor_right true = refl
xor_right false = refl

module _ (p : ℕ) (P : Prime p) (two : 2 < p) (ρ : Val) (low : Low p ρ) where
  abbrev Says : Gate → Boolean → Boolean → Type 0
  Says g a b = Must p ρ (gate_call g p (a, b)) (λ o. bit_number_of ρ o ≡ tabled g (bit_number_of ρ a, bit_number_of ρ b))

  variables : (g : Gate) (a b : AllocatedBool) → ρ a.variable ≤ 1 → ρ b.variable ≤ 1 → Says g (Var a) (Var b)
  variables And a b ha hb = λ w r. gate_forced And p (ρ One) (ρ a.variable) (ρ b.variable) (ρ w) two low.one ha hb (low.low w) r
  variables Or a b ha hb = λ w r. gate_forced Or p (ρ One) (ρ a.variable) (ρ b.variable) (ρ w) two low.one ha hb (low.low w) r
  variables Xor a b ha hb = λ w r. gate_forced Xor p (ρ One) (ρ a.variable) (ρ b.variable) (ρ w) two low.one ha hb (low.low w) r

  constant : (g : Gate) (x : Bool) (b : Boolean) → bit_number_of ρ b ≤ 1 → Says g (Constant x) b
  constant And true b hb = same_bit (bit_number_of ρ b) hb
  constant And false b hb = refl
  constant Or true b hb = refl
  constant Or false b hb = same_bit (bit_number_of ρ b) hb
  constant Xor true b hb = not_forces p P ρ low b hb
  constant Xor false b hb = same_bit (bit_number_of ρ b) hb

  beside : (g : Gate) (a : AllocatedBool) (y : Bool) → ρ a.variable ≤ 1 → Says g (Var a) (Constant y)
  beside And a true ha = same_bit (ρ a.variable) ha ∙ and_right (truth (ρ a.variable))
  beside And a false ha = and_none (truth (ρ a.variable))
  beside Or a true ha = or_all (truth (ρ a.variable))
  beside Or a false ha = same_bit (ρ a.variable) ha ∙ or_right (truth (ρ a.variable))
  beside Xor a true ha = λ v e. not_forces p P ρ low (Var a) ha v e ∙ xor_not (truth (ρ a.variable))
  beside Xor a false ha = same_bit (ρ a.variable) ha ∙ xor_right (truth (ρ a.variable))

pub gate_forces : (g : Gate) (p : ℕ) → Prime p → 2 < p → Forces p pair bit_number_of (gate_call g p) Bits (Is (tabled g))
gate_forces g p P two ρ low i h = go i.0 i.1 h.0 h.1
  where
    go : (a b : Boolean) → bit_number_of ρ a ≤ 1 → bit_number_of ρ b ≤ 1 → Says p P two ρ low g a b
    go (Constant x) b ha hb = constant p P two ρ low g x b hb
    go (Var a) (Constant y) ha hb = beside p P two ρ low g a y ha
    go (Var a) (Var b) ha hb = variables p P two ρ low g a b ha hb

constant_pure : (g : Gate) (p : ℕ) (x : Bool) (b : Boolean) → Pure (gate_call g p (Constant x, b))
constant_pure And p true b = tt
constant_pure And p false b = tt
constant_pure Or p true b = tt
constant_pure Or p false b = tt
constant_pure Xor p true b = not_pure p b
constant_pure Xor p false b = tt

beside_pure : (g : Gate) (p : ℕ) (a : AllocatedBool) (y : Bool) → Pure (gate_call g p (Var a, Constant y))
beside_pure And p a true = tt
beside_pure And p a false = tt
beside_pure Or p a true = tt
beside_pure Or p a false = tt
beside_pure Xor p a true = λ v. tt
beside_pure Xor p a false = tt

abbrev Aims : Gate → ℕ → ℕ × ℕ → Boolean → Boolean → Type 0
Aims g p x a b = Goes true p (gate_call g p (a, b)) (λ ρ. pair ρ (a, b) ≡ x) (λ ρ o. bit_number_of ρ o ≡ tabled g x)

pub gate_computes : (g : Gate) (p : ℕ) → Prime p → 2 < p → Computes p pair bit_number_of (gate_call g p) Bits (tabled g)
gate_computes g p P two i x h = go i.0 i.1
  where
    pure : (a b : Boolean) → Pure (gate_call g p (a, b)) → Aims g p x a b
    pure a b u = (
      any_plan (gate_call g p (a, b)),
      λ ρ low q.
          pure_plays true p ρ (gate_call g p (a, b)) (λ o. bit_number_of ρ o ≡ tabled g x) u
          (subst (λ y. Must p ρ (gate_call g p (a, b)) (λ o. bit_number_of ρ o ≡ tabled g y)) q (gate_forces g p P two ρ low (a, b) (subst Bits (sym q) h))),
    )

    low_table : tabled g x < p
    low_table = omega (arith, bit_low (applied g (truth x.0) (truth x.1)))

    plays : (g₁ : Gate) (ρ : Val) → Low p ρ → (a b : AllocatedBool) → pair ρ (Var a, Var b) ≡ x → (w : Variable) → ρ w ≡ tabled g₁ x → Row g₁ p (ρ One) (ρ a.variable) (ρ b.variable) (ρ w)
    plays g₁ ρ low a b q w e = gate_met g₁ p (ρ One) (ρ a.variable) (ρ b.variable) (ρ w) two low.one (subst (λ (y : ℕ × ℕ). y.0 ≤ 1) (sym q) h.0) (subst (λ (y : ℕ × ℕ). y.1 ≤ 1) (sym q) h.1) (e ∙ sym (ap (tabled g₁) q))

    both : (g₁ : Gate) (a b : AllocatedBool) → tabled g₁ x < p → Goes true p (gate_call g₁ p (Var a, Var b)) (λ ρ. pair ρ (Var a, Var b) ≡ x) (λ ρ o. bit_number_of ρ o ≡ tabled g₁ x)
    both And a b l = ((tabled And x, λ w. tt), λ ρ low q. ((l, ap (tabled And) q), λ w e. (plays And ρ low a b q w e, e)))
    both Or a b l = ((tabled Or x, λ w. tt), λ ρ low q. ((l, ap (tabled Or) q), λ w e. (plays Or ρ low a b q w e, e)))
    both Xor a b l = ((tabled Xor x, λ w. tt), λ ρ low q. ((l, ap (tabled Xor) q), λ w e. (plays Xor ρ low a b q w e, e)))

    go : (a b : Boolean) → Aims g p x a b
    go (Constant x) b = pure (Constant x) b (constant_pure g p x b)
    go (Var a) (Constant y) = pure (Var a) (Constant y) (beside_pure g p a y)
    go (Var a) (Var b) = both g a b low_table

pub gate_function : (g : Gate) (p : ℕ) → Prime p → 2 < p → Function p pair bit_number_of (gate_call g p) Bits (tabled g)
gate_function g p P two = record { forces = gate_forces g p P two; computes = gate_computes g p P two }

-- ---- new bits
abbrev pub New : AllocationMode → Option Bool → ℕ → Type 0
New mode o r = (r ≤ 1) × Valued mode o r

number_low : (o : Option Bool) → number (bit_number o) ≤ 1
number_low None = omega arith
number_low (Some b) = bit_low b

number_given : (o : Option Bool) → Given (bit_number o) (number (bit_number o))
number_given None = tt
number_given (Some b) = refl

number_valued : (mode : AllocationMode) (o : Option Bool) → Valued mode o (number (bit_number o))
number_valued as_constant None = tt
number_valued as_constant (Some b) = refl
number_valued as_input o = tt
number_valued as_witness o = tt

pub new_law : (p : ℕ) → Prime p → {In X : Type 0} (at : Val → In → X) (mode : AllocationMode) (o : Option Bool) → Law p at bit_number_of (λ i. alloc_script p mode o) (λ x. Unit {0}) (λ x. New mode o) (λ x. Unit {0}) (λ x. number (bit_number o))
new_law p P {In} {X} at mode o = record {
  sound = λ ρ low i h. forced ρ low mode o;
  complete = λ i x y h r. reached i x y mode o r;
  own = λ i x h. owned i x mode o;
  obeyed = λ x h s. (number_low o, number_valued mode o);
  solvable = λ x y h r. tt;
}
  where
    fresh : (ρ : Val) → Low p ρ → (v : Variable) → ((1 * ρ One + ((p - 1) * ρ v + 0)) * (1 * ρ v + 0)) % p ≡ 0 % p → ρ v ≤ 1
    fresh ρ low v r = bit_forced p (ρ One) (ρ v) P low.one (low.low v) r

    forced : (ρ : Val) → Low p ρ → (mode : AllocationMode) (o : Option Bool) → Must p ρ (alloc_script p mode o) (λ b. New mode o (bit_number_of ρ b))
    forced ρ low as_constant None = tt
    forced ρ low as_constant (Some b) = (bit_low b, refl)
    forced ρ low as_input o = λ v r. (fresh ρ low v r, tt)
    forced ρ low as_witness o = λ v r. (fresh ρ low v r, tt)

    met : (ρ : Val) → Low p ρ → (v : Variable) (y : ℕ) → y ≤ 1 → ρ v ≡ y → ((1 * ρ One + ((p - 1) * ρ v + 0)) * (1 * ρ v + 0)) % p ≡ 0 % p
    met ρ low v y h e = bit_met p (ρ One) (ρ v) P.0 low.one (subst (λ (z : ℕ). z ≤ 1) (sym e) h)

    reached : (i : In) (x : X) (y : ℕ) (mode : AllocationMode) (o : Option Bool) → New mode o y → Goes false p (alloc_script p mode o) (λ ρ. at ρ i ≡ x) (λ ρ b. bit_number_of ρ b ≡ y)
    reached i x y as_constant None r = (tt, λ ρ low q. tt)
    reached i x y as_constant (Some b) r = (tt, λ ρ low q. sym r.1)
    reached i x y as_input o r = ((y, λ v. tt), λ ρ low q. (omega (arith, r.0, P.0), λ v e. (met ρ low v y r.0 e, e)))
    reached i x y as_witness o r = ((y, λ v. tt), λ ρ low q. (omega (arith, r.0, P.0), λ v e. (met ρ low v y r.0 e, e)))

    owned : (i : In) (x : X) (mode : AllocationMode) (o : Option Bool) → Goes true p (alloc_script p mode o) (λ ρ. at ρ i ≡ x) (λ ρ b. bit_number_of ρ b ≡ number (bit_number o))
    owned i x as_constant None = (tt, λ ρ low q. tt)
    owned i x as_constant (Some b) = (tt, λ ρ low q. refl)
    owned i x as_input o = ((number (bit_number o), λ v. tt), λ ρ low q. ((omega (arith, number_low o, P.0), number_given o), λ v e. (met ρ low v (number (bit_number o)) (number_low o) e, e)))
    owned i x as_witness o = ((number (bit_number o), λ v. tt), λ ρ low q. ((omega (arith, number_low o, P.0), number_given o), λ v e. (met ρ low v (number (bit_number o)) (number_low o) e, e)))
