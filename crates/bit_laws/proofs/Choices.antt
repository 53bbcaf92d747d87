-- Equality of bits, and the choice of one of two by a third.
use Rattle.std.proofs.Common.{[], ◌∷◌, ◌≡◌, ℕ, zero, suc, ◌+◌, ◌-◌, ◌*◌, ◌%◌, ◌<◌, ◌≤◌, Bool, true, false, cond, sym, refl, ap, ◌∙◌, subst, arith}
use Rattle.arith.specs.Number.{Prime}
use Rattle.arith.proofs.Ring.{done}
use Rattle.arith.proofs.Solve.{reads, none, times, puts, by_mod, by_same}
use Rattle.relations.specs.Script.{then}
use Rattle.allocated.specs.declared.gate.Gate.{Gate}
use Rattle.allocated.specs.declared.gate.Gate.TheVariants.{And, Or, Xor}
use Rattle.allocated.specs.declared.allocated.AllocatedBool.{AllocatedBool}
use Rattle.boolean.specs.declared.bits.Boolean.{Boolean}
use Rattle.boolean.specs.declared.bits.Boolean.TheVariants.{Constant, Var}
use Rattle.allocated.specs.Gates.{truth, choice_script}
use Rattle.boolean.specs.Booleans.{as_var, folded_script, not_script, is_eq_script, select_script}
use Rattle.laws.specs.Law.{Val, There, Wider, Orderly}
use Rattle.laws.proofs.Frame.{Function}
use Rattle.bit_laws.specs.Bits.{bit_number_of, ThereBit, equality, picked, Three}
use Rattle.bit_laws.proofs.BitLaws.{pair, flipped, tabled, Bits, gate_call, bit_low, not_function, gate_function}
use Rattle.bit_laws.proofs.BitOrder.{not_sees, gate_sees, not_tidy, gate_tidy, not_steady, gate_steady}
use Rattle.bit_laws.proofs.Fixes.{Fixes, Always, fixes_next, fixes_then, fixes_on, fixes_is, fixes_to, fixes_answer, fixes_of, fixes_function, Neat, neat_next, neat_then, neat_on, neat_answer, neat_orderly}

-- what holds of 0 and 1 holds of bits
pub by_bit : (Q : ℕ → Type 0) → Q 0 → Q 1 → (x : ℕ) → x ≤ 1 → Q x
by_bit Q a b zero h = a
by_bit Q a b (suc zero) h = b
by_bit Q a b (suc (suc x)) h = absurd (omega arith)

pub by_bits : (Q : ℕ → ℕ → Type 0) → Q 0 0 → Q 0 1 → Q 1 0 → Q 1 1 → (x y : ℕ) → x ≤ 1 → y ≤ 1 → Q x y
by_bits Q a b c d x y hx hy = by_bit (λ x. Q x y) (by_bit (Q 0) a b y hy) (by_bit (Q 1) c d y hy) x hx

abbrev pub triple : Val → Boolean × Boolean × Boolean → ℕ × ℕ × ℕ
triple ρ i = (bit_number_of ρ i.0, bit_number_of ρ i.1, bit_number_of ρ i.2)

-- what two bits, and three, name is there
abbrev pub ThereTwo : There → Boolean × Boolean → Type 0
ThereTwo h i = ThereBit h i.0 × ThereBit h i.1

abbrev pub ThereThree : There → Boolean × Boolean × Boolean → Type 0
ThereThree h i = ThereBit h i.0 × ThereBit h i.1 × ThereBit h i.2

pub bit_wider : (h k : There) → Wider h k → (b : Boolean) → ThereBit h b → ThereBit k b
bit_wider h k up (Constant b) t = tt
bit_wider h k up (Var a) t = up a.variable t

-- the condition, and the first or the second of the two
abbrev firsts : ℕ × ℕ × ℕ → ℕ × ℕ
firsts x = (x.0, x.1)

abbrev ends : ℕ × ℕ × ℕ → ℕ × ℕ
ends x = (x.0, x.2)

-- ---- the row of a choice between two variables
pub choice_forced : (p c a b w : ℕ) → 0 < p → c ≤ 1 → a < p → b < p → w < p → ((1 * c + 0) * (1 * a + ((p - 1) * b + 0))) % p ≡ (1 * w + ((p - 1) * b + 0)) % p → w ≡ cond (truth c) a b
choice_forced p c a b w pos hc la lb lw r = go c refl hc
  where
    go : (x : ℕ) → c ≡ x → x ≤ 1 → w ≡ cond (truth x) a b
    go zero e h = by_same p pos (c ∷ a ∷ b ∷ w ∷ []) (puts e (search reads) (times (p - 1) r (search reads depth 9) none)) lw lb (search reads depth 9) done
    go (suc zero) e h = by_same p pos (c ∷ a ∷ b ∷ w ∷ []) (puts e (search reads) (times (p - 1) r (search reads depth 9) none)) lw la (search reads depth 9) done
    go (suc (suc x)) e h = absurd (omega arith)

pub choice_met : (p c a b w : ℕ) → 0 < p → c ≤ 1 → w ≡ cond (truth c) a b → ((1 * c + 0) * (1 * a + ((p - 1) * b + 0))) % p ≡ (1 * w + ((p - 1) * b + 0)) % p
choice_met p c a b w pos hc e = go c refl hc e
  where
    go : (x : ℕ) → c ≡ x → x ≤ 1 → w ≡ cond (truth x) a b → ((1 * c + 0) * (1 * a + ((p - 1) * b + 0))) % p ≡ (1 * w + ((p - 1) * b + 0)) % p
    go zero e h f = by_mod p pos (c ∷ a ∷ b ∷ w ∷ []) (puts e (search reads) (puts f (search reads) none)) (search reads depth 9) done
    go (suc zero) e h f = by_mod p pos (c ∷ a ∷ b ∷ w ∷ []) (puts e (search reads) (puts f (search reads) none)) (search reads depth 9) done
    go (suc (suc x)) e h f = absurd (omega arith)

-- a gate on a constant and a bit is that gate
pub folded_is : (g : Gate) (p : ℕ) (x : Bool) (b : Boolean) → folded_script g p x b ≡ gate_call g p (Constant x, b)
folded_is And p true b = refl
folded_is And p false b = refl
folded_is Or p true b = refl
folded_is Or p false b = refl
folded_is Xor p true b = refl
folded_is Xor p false b = refl

module _ (p : ℕ) (P : Prime p) (two : 2 < p) where
  pub not_fixes : (a : Boolean) → Fixes p (λ ρ. bit_number_of ρ a) bit_number_of (not_script p a) (λ x. x ≤ 1) Always flipped
  not_fixes a = fixes_of (not_function p P) a

  pub gate_fixes : (g : Gate) (a b : Boolean) → Fixes p (λ ρ. (bit_number_of ρ a, bit_number_of ρ b)) bit_number_of (gate_call g p (a, b)) Bits Always (tabled g)
  gate_fixes g a b = fixes_of (gate_function g p P two) (a, b)

  -- ---- equality
  pub is_eq_fixes : (a b : Boolean) → Fixes p (λ ρ. (bit_number_of ρ a, bit_number_of ρ b)) bit_number_of (is_eq_script p a b) Bits Always equality
  is_eq_fixes a b =
      fixes_is Bits equality (λ x h. h) (λ x h. (tt, tt)) (λ x h. by_bits (λ x y. flipped (tabled Xor (x, y)) ≡ equality (x, y)) refl refl refl refl x.0 x.1 h.0 h.1)
      (fixes_next (gate_fixes Xor a b) not_fixes (λ x h r. bit_low _))

  pub is_eq_function : Function p pair bit_number_of (λ i. is_eq_script p i.0 i.1) Bits equality
  is_eq_function = fixes_function (λ i. is_eq_fixes i.0 i.1)

  -- ---- choice
  -- a gate on the not of a bit, and another
  turned : (g : Gate) (a b : Boolean) → Fixes p (λ ρ. pair ρ (a, b)) bit_number_of (then (not_script p a) (λ t. gate_call g p (t, b))) Bits Always (λ x. tabled g (flipped x.0, x.1))
  turned g a b =
      fixes_is Bits (λ x. tabled g (flipped x.0, x.1)) (λ x h. h) (λ x h. (tt, tt)) (λ x h. refl)
      (fixes_then (fixes_to (λ ρ. pair ρ (a, b)) (λ x. x.0) Bits (λ x. flipped x.0) (λ ρ low. refl) (λ x h. h.0) (λ ρ low h. refl) (not_fixes a))
      (λ t. fixes_on (λ ρ. (pair ρ (a, b), bit_number_of ρ t)) (λ x. (x.1, x.0.1)) (λ ρ low. refl) (gate_fixes g t b)) (λ x h r. (bit_low _, h.1)))

  choice_fixes : (c a b : AllocatedBool) → Fixes p (λ ρ. triple ρ (Var c, Var a, Var b)) bit_number_of (as_var (choice_script p c a b)) Three Always picked
  choice_fixes c a b = record {
    sound = λ ρ low h w r. (tt, choice_forced p (ρ c.variable) (ρ a.variable) (ρ b.variable) (ρ w) (omega arith) h.0 (low.low a.variable) (low.low b.variable) (low.low w) r);
    own = λ x h t. ((picked x, λ w. tt), λ ρ low q. ((small x h, ap picked q), λ w e. (choice_met p (ρ c.variable) (ρ a.variable) (ρ b.variable) (ρ w) (omega arith) (subst Three (sym q) h).0 (e ∙ sym (ap picked q)), e)));
  }
    where
      small : (x : ℕ × ℕ × ℕ) → Three x → picked x < p
      small x h = by_bit (λ c. cond (truth c) x.1 x.2 < p) (omega arith) (omega arith) x.0 h.0

  pub select_fixes : (c a b : Boolean) → Fixes p (λ ρ. triple ρ (c, a, b)) bit_number_of (select_script p c a b) Three Always picked
  select_fixes (Constant true) a b = fixes_answer a Three Always picked (λ ρ low h. (tt, refl))
  select_fixes (Constant false) a b = fixes_answer b Three Always picked (λ ρ low h. (tt, refl))
  select_fixes (Var c) a (Constant false) =
      fixes_to (λ ρ. triple ρ (Var c, a, Constant false)) firsts Three picked (λ ρ low. refl) (λ x h. (h.0, h.1))
      (λ ρ low h. by_bits (λ x y. tabled And (x, y) ≡ picked (x, y, 0)) refl refl refl refl (ρ c.variable) (bit_number_of ρ a) h.0 h.1) (gate_fixes And (Var c) a)
  select_fixes (Var c) (Constant false) (Constant true) =
      fixes_to (λ ρ. triple ρ (Var c, Constant false, Constant true)) ends Three picked (λ ρ low. refl) (λ x h. (h.0, h.2))
      (λ ρ low h. by_bit (λ x. tabled And (flipped x, 1) ≡ picked (x, 0, 1)) refl refl (ρ c.variable) h.0) (turned And (Var c) (Constant true))
  select_fixes (Var c) (Constant false) (Var b) =
      fixes_to (λ ρ. triple ρ (Var c, Constant false, Var b)) ends Three picked (λ ρ low. refl) (λ x h. (h.0, h.2))
      (λ ρ low h. by_bits (λ x y. tabled And (flipped x, y) ≡ picked (x, 0, y)) refl refl refl refl (ρ c.variable) (ρ b.variable) h.0 h.2) (turned And (Var c) (Var b))
  select_fixes (Var c) (Constant true) (Constant true) = fixes_answer (Constant true) Three Always picked (λ ρ low h. (tt, by_bit (λ x. 1 ≡ picked (x, 1, 1)) refl refl (ρ c.variable) h.0))
  select_fixes (Var c) (Constant true) (Var b) =
      fixes_to (λ ρ. triple ρ (Var c, Constant true, Var b)) ends Three picked (λ ρ low. refl) (λ x h. (h.0, h.2))
      (λ ρ low h. by_bits (λ x y. tabled Or (x, y) ≡ picked (x, 1, y)) refl refl refl refl (ρ c.variable) (ρ b.variable) h.0 h.2) (gate_fixes Or (Var c) (Var b))
  select_fixes (Var c) (Var a) (Constant true) =
      fixes_to (λ ρ. triple ρ (Var c, Var a, Constant true)) firsts Three picked (λ ρ low. refl) (λ x h. (h.0, h.1))
      (λ ρ low h. by_bits (λ x y. tabled Or (flipped x, y) ≡ picked (x, y, 1)) refl refl refl refl (ρ c.variable) (ρ a.variable) h.0 h.1) (turned Or (Var c) (Var a))
  select_fixes (Var c) (Var a) (Var b) = choice_fixes c a b

  pub select_function : Function p triple bit_number_of (λ i. select_script p i.0 i.1 i.2) Three picked
  select_function = fixes_function (λ i. select_fixes i.0 i.1 i.2)

-- ---- in order
module _ (p : ℕ) (above : 1 < p) where
  pub not_neat : (a : Boolean) → Neat p (not_script p a) (λ h. ThereBit h a) ThereBit
  not_neat a = record { sees = λ h z t. not_sees p h z.one a t; tidy = not_tidy p a; steady = not_steady p a }

  pub gate_neat : (g : Gate) (a b : Boolean) → Neat p (gate_call g p (a, b)) (λ h. ThereTwo h (a, b)) ThereBit
  gate_neat g a b = record { sees = λ h z t. gate_sees g p h z.one a b t.0 t.1; tidy = gate_tidy g p above a b; steady = gate_steady g p a b }

  pub is_eq_neat : (a b : Boolean) → Neat p (is_eq_script p a b) (λ h. ThereTwo h (a, b)) ThereBit
  is_eq_neat a b = neat_next (gate_neat Xor a b) not_neat

  -- a gate on the not of a bit, and another
  turned_neat : (g : Gate) (a b : Boolean) → Neat p (then (not_script p a) (λ t. gate_call g p (t, b))) (λ h. ThereTwo h (a, b)) ThereBit
  turned_neat g a b =
      neat_then (λ h k up t. (bit_wider h k up a t.0, bit_wider h k up b t.1)) (neat_on (λ h. ThereTwo h (a, b)) (λ h t. t.0) (not_neat a))
      (λ c. neat_on (λ h. ThereTwo h (a, b) × ThereBit h c) (λ h t. (t.1, t.0.1)) (gate_neat g c b))

  choice_neat : (c a b : AllocatedBool) → Neat p (as_var (choice_script p c a b)) (λ h. ThereThree h (Var c, Var a, Var b)) ThereBit
  choice_neat c a b = record {
    sees = λ h z t. ((t.0, (t.1, (t.2, tt))), λ k up w e. ((up c.variable t.0, tt), (up a.variable t.1, (up b.variable t.2, tt)), (e, (up b.variable t.2, tt)), e));
    tidy = ((λ ρ low. go (truth (ρ c.variable)) (ρ a.variable) (ρ b.variable) (low.low a.variable) (low.low b.variable)), λ w. tt);
    steady = ((λ ρ. refl), λ w. tt);
  }
    where
      go : (t : Bool) (x y : ℕ) → x < p → y < p → cond t x y < p
      go true x y hx hy = hx
      go false x y hx hy = hy

  pub select_neat : (c a b : Boolean) → Neat p (select_script p c a b) (λ h. ThereThree h (c, a, b)) ThereBit
  select_neat (Constant true) a b = neat_answer a (λ h. ThereThree h (Constant true, a, b)) ThereBit (λ h t. t.1)
  select_neat (Constant false) a b = neat_answer b (λ h. ThereThree h (Constant false, a, b)) ThereBit (λ h t. t.2)
  select_neat (Var c) a (Constant false) = neat_on (λ h. ThereThree h (Var c, a, Constant false)) (λ h t. (t.0, t.1)) (gate_neat And (Var c) a)
  select_neat (Var c) (Constant false) (Constant true) = neat_on (λ h. ThereThree h (Var c, Constant false, Constant true)) (λ h t. (t.0, t.2)) (turned_neat And (Var c) (Constant true))
  select_neat (Var c) (Constant false) (Var b) = neat_on (λ h. ThereThree h (Var c, Constant false, Var b)) (λ h t. (t.0, t.2)) (turned_neat And (Var c) (Var b))
  select_neat (Var c) (Constant true) (Constant true) = neat_answer (Constant true) (λ h. ThereThree h (Var c, Constant true, Constant true)) ThereBit (λ h t. tt)
  select_neat (Var c) (Constant true) (Var b) = neat_on (λ h. ThereThree h (Var c, Constant true, Var b)) (λ h t. (t.0, t.2)) (gate_neat Or (Var c) (Var b))
  select_neat (Var c) (Var a) (Constant true) = neat_on (λ h. ThereThree h (Var c, Var a, Constant true)) (λ h t. (t.0, t.1)) (turned_neat Or (Var c) (Var a))
  select_neat (Var c) (Var a) (Var b) = choice_neat c a b

  pub not_orderly : Orderly p (not_script p) ThereBit ThereBit
  not_orderly = neat_orderly not_neat

  pub gate_orderly : (g : Gate) → Orderly p (gate_call g p) ThereTwo ThereBit
  gate_orderly g = neat_orderly (λ i. gate_neat g i.0 i.1)

  pub is_eq_orderly : Orderly p (λ i. is_eq_script p i.0 i.1) ThereTwo ThereBit
  is_eq_orderly = neat_orderly (λ i. is_eq_neat i.0 i.1)

  pub select_orderly : Orderly p (λ i. select_script p i.0 i.1 i.2) ThereThree ThereBit
  select_orderly = neat_orderly (λ i. select_neat i.0 i.1 i.2)
