-- What the scripts of gates, choices and statements on bits ask for.
use Rattle.std.proofs.Common.{◌≡◌, ℕ, ◌+◌, ◌-◌, ◌<◌, Bool, true, false, not, cond, eqb, List, [], ◌∷◌, map, Some, None, Option, sym, refl, ap, ◌∙◌, arith, eq-eqb, ne_eqb, true-eqb, false-eqb}
use Rattle.relations.specs.declared.term.Variable.{Variable}
use Rattle.relations.specs.declared.term.Variable.TheVariants.{One, Witness}
use Rattle.relations.specs.declared.term.Term.{Term}
use Rattle.relations.specs.declared.term.Side.TheVariants.{Witness as witness}
use Rattle.relations.specs.declared.fault.GadgetFault.TheVariants.{Unsatisfiable}
use Rattle.relations.specs.Sum.{code, sum_of, row_of}
use Rattle.relations.specs.Meaning.{row_use}
use Rattle.relations.specs.Script.{answer, allocate, row, then}
use Rattle.relations.specs.Terms.{times, just, less, one_less}
use Rattle.allocated.specs.declared.gate.Gate.{Gate}
use Rattle.allocated.specs.declared.gate.Gate.TheVariants.{And, Or, Xor}
use Rattle.allocated.specs.Gates.{allocated, differ, gated, chosen, of_two, of_three}
use Rattle.boolean.specs.declared.bits.Boolean.{Boolean}
use Rattle.boolean.specs.declared.bits.Boolean.TheVariants.{Constant, Var}
use Rattle.boolean.specs.Booleans.{not_script, is_eq_script, select_script, bit_terms, on_constants, under, difference, together, equal_script, unequal_script, zero_script}
use Rattle.laws.specs.Law.{present}
use Rattle.laws.specs.Bill.{takes_variable, takes_combination, takes_row, Next}
use Rattle.bit_laws.specs.Bills.{shadow, same_name, due_then, not_due, output_due, gate_due, is_eq_due, select_due, under_due, on_due, difference_terms, together_terms, equal_due, unequal_due, zero_due}
use Rattle.bit_laws.proofs.BitLaws.{gate_call}
use Rattle.bit_laws.proofs.Sizes.{one_some, two_some, just_size, less_size, xor_size, between_size, both_size, ones_size, one_more_size}
use Rattle.bit_laws.proofs.Owes.{Older, older_real, witness_apart, OldBit, old_later, Owes, owes_then, owes_answer, owes_refuse, owes_row, owes_as}

-- a statement's answer
abbrev pub unit : Unit {0} → Unit {0}
unit u = tt

abbrev pub Any : Next → Unit {0} → Type 0
Any n u = Unit {0}

pub swapped : (a b : ℕ) → eqb a b ≡ eqb b a
swapped a b = go (eqb b a) refl
  where
    go : (t : Bool) → eqb b a ≡ t → eqb a b ≡ t
    go true e = eq-eqb a b (sym (true-eqb b a (sym e)))
    go false e = ne_eqb a b (λ q. false-eqb b a (sym e) (sym q))

module _ (p : ℕ) (two : 2 < p) (n : Next) where
  -- a witness, and a row of k terms
  output_owes : (vs : List Variable) (f : List (Option ℕ) → Option ℕ) (a b c : Variable → List Term) (k : ℕ) → present (f (map (λ v. Some (n.kept v)) vs)) ≡ true
      → row_use (row_of p (a (Witness n.witness_at)) (b (Witness n.witness_at)) (c (Witness n.witness_at))) ≡ k
      → Owes p n (allocate witness vs f (λ w. row (a w) (b w) (c w) (answer (Var (allocated w))))) shadow OldBit (output_due k)
  output_owes vs f a b c k h z = record {
    charged = λ i. takes_variable witness (h i) ∷ (takes_row (z i) ∷ []);
    ended = (record { inputs = omega arith; witnesses = omega arith; places = omega arith }, refl, omega arith);
  }

  pub not_owes : (a : Boolean) → OldBit n a → Owes p n (not_script p a) shadow OldBit (not_due (shadow a))
  not_owes (Constant b) h = owes_answer (Constant (not b)) shadow OldBit (Some (not b)) refl tt
  not_owes (Var a) h = record {
    charged = ap (λ (k : ℕ). takes_combination k ∷ []) (less_size p two a.variable (older_real n a.variable h));
    ended = (record { inputs = omega arith; witnesses = omega arith; places = omega arith }, refl, omega arith);
  }

  -- a row of one term in each part, of two in each, and of xor
  pub ones_use : (a b : Variable) → Older n a → Older n b → row_use (row_of p (just a) (just b) (just (Witness n.witness_at))) ≡ 3
  ones_use a b ha hb = λ i. just_size p two 1 a (one_some p two) (older_real n a ha) i + just_size p two 1 b (one_some p two) (older_real n b hb) i + just_size p two 1 (Witness n.witness_at) (one_some p two) refl i

  less_use : (a b : Variable) → Older n a → Older n b → row_use (row_of p (one_less p a) (one_less p b) (one_less p (Witness n.witness_at))) ≡ 6
  less_use a b ha hb = λ i. less_size p two a (older_real n a ha) i + less_size p two b (older_real n b hb) i + less_size p two (Witness n.witness_at) refl i

  xor_use : (a b : Variable) → Older n a → Older n b → row_use (row_of p (times 2 a ∷ []) (just b) (times 1 a ∷ (times 1 b ∷ (times (p - 1) (Witness n.witness_at) ∷ [])))) ≡ cond (eqb (code a) (code b)) 4 5
  xor_use a b ha hb =
      (λ i. just_size p two 2 a (two_some p two) (older_real n a ha) i + just_size p two 1 b (one_some p two) (older_real n b hb) i
      + xor_size p two a b (Witness n.witness_at) (older_real n a ha) (older_real n b hb) refl (witness_apart n a ha) (witness_apart n b hb) i)
      ∙ go (eqb (code a) (code b))
    where
      go : (t : Bool) → 1 + 1 + cond t 2 3 ≡ cond t 4 5
      go true = refl
      go false = refl

  pub gate_owes : (g : Gate) (a b : Boolean) → OldBit n a → OldBit n b → Owes p n (gate_call g p (a, b)) shadow OldBit (gate_due g (same_name a b) (shadow a) (shadow b))
  gate_owes And (Constant true) b ha hb = owes_answer b shadow OldBit (shadow b) refl hb
  gate_owes And (Constant false) b ha hb = owes_answer (Constant false) shadow OldBit (Some false) refl tt
  gate_owes And (Var a) (Constant true) ha hb = owes_answer (Var a) shadow OldBit None refl ha
  gate_owes And (Var a) (Constant false) ha hb = owes_answer (Constant false) shadow OldBit (Some false) refl tt
  gate_owes And (Var a) (Var b) ha hb = output_owes (a.variable ∷ b.variable ∷ []) (of_two (gated And)) (λ w. just a.variable) (λ w. just b.variable) just 3 refl (ones_use a.variable b.variable ha hb)
  gate_owes Or (Constant true) b ha hb = owes_answer (Constant true) shadow OldBit (Some true) refl tt
  gate_owes Or (Constant false) b ha hb = owes_answer b shadow OldBit (shadow b) refl hb
  gate_owes Or (Var a) (Constant true) ha hb = owes_answer (Constant true) shadow OldBit (Some true) refl tt
  gate_owes Or (Var a) (Constant false) ha hb = owes_answer (Var a) shadow OldBit None refl ha
  gate_owes Or (Var a) (Var b) ha hb = output_owes (a.variable ∷ b.variable ∷ []) (of_two (gated Or)) (λ w. one_less p a.variable) (λ w. one_less p b.variable) (one_less p) 6 refl (less_use a.variable b.variable ha hb)
  gate_owes Xor (Constant true) b ha hb = not_owes b hb
  gate_owes Xor (Constant false) b ha hb = owes_answer b shadow OldBit (shadow b) refl hb
  gate_owes Xor (Var a) (Constant true) ha hb = not_owes (Var a) ha
  gate_owes Xor (Var a) (Constant false) ha hb = owes_answer (Var a) shadow OldBit None refl ha
  gate_owes Xor (Var a) (Var b) ha hb =
      output_owes (a.variable ∷ b.variable ∷ []) (of_two (gated Xor)) (λ w. times 2 a.variable ∷ []) (λ w. just b.variable) (λ w. times 1 a.variable ∷ (times 1 b.variable ∷ (times (p - 1) w ∷ []))) (cond (eqb (code a.variable) (code b.variable)) 4 5) refl
      (xor_use a.variable b.variable ha hb)

  pub choice_use : (c a b : Variable) → Older n c → Older n a → Older n b → row_use (row_of p (just c) (less p a b) (less p (Witness n.witness_at) b)) ≡ cond (eqb (code a) (code b)) 3 5
  choice_use c a b hc ha hb =
      (λ i. just_size p two 1 c (one_some p two) (older_real n c hc) i + between_size p two a b (older_real n a ha) (older_real n b hb) i + between_size p two (Witness n.witness_at) b refl (older_real n b hb) i)
      ∙ (λ i. 1 + cond (eqb (code a) (code b)) 0 2 + cond (ne_eqb (code (Witness n.witness_at)) (code b) (λ e. witness_apart n b hb (sym e)) i) 0 2) ∙ go (eqb (code a) (code b))
    where
      go : (t : Bool) → 1 + cond t 0 2 + 2 ≡ cond t 3 5
      go true = refl
      go false = refl

  -- ---- statements
  bit_size : (b : Boolean) → OldBit n b → (shadow b ≡ Some false → ⊥) → (sum_of p (bit_terms b)).size ≡ 1
  bit_size (Constant true) h f = ones_size p two 1 (one_some p two)
  bit_size (Constant false) h f = absurd (f refl)
  bit_size (Var a) h f = just_size p two 1 a.variable (one_some p two) (older_real n a.variable h)

  difference_size : (a b : Boolean) → OldBit n a → OldBit n b → (sum_of p (difference p a b)).size ≡ difference_terms (same_name a b) (shadow a) (shadow b)
  difference_size (Constant x) (Constant y) ha hb = refl
  difference_size (Constant true) (Var b) ha hb = less_size p two b.variable (older_real n b.variable hb)
  difference_size (Constant false) (Var b) ha hb = just_size p two 1 b.variable (one_some p two) (older_real n b.variable hb)
  difference_size (Var a) (Constant true) ha hb = less_size p two a.variable (older_real n a.variable ha)
  difference_size (Var a) (Constant false) ha hb = just_size p two 1 a.variable (one_some p two) (older_real n a.variable ha)
  difference_size (Var a) (Var b) ha hb = between_size p two b.variable a.variable (older_real n b.variable hb) (older_real n a.variable ha) ∙ ap (λ (t : Bool). cond t 0 2) (swapped (code b.variable) (code a.variable))

  together_size : (a b : Boolean) → OldBit n a → OldBit n b → (sum_of p (together a b)).size ≡ together_terms (same_name a b) (shadow a) (shadow b)
  together_size (Constant x) (Constant y) ha hb = refl
  together_size (Constant true) (Var b) ha hb = one_more_size p two b.variable (older_real n b.variable hb)
  together_size (Constant false) (Var b) ha hb = just_size p two 1 b.variable (one_some p two) (older_real n b.variable hb)
  together_size (Var a) (Constant true) ha hb = one_more_size p two a.variable (older_real n a.variable ha)
  together_size (Var a) (Constant false) ha hb = just_size p two 1 a.variable (one_some p two) (older_real n a.variable ha)
  together_size (Var a) (Var b) ha hb = both_size p two b.variable a.variable (older_real n b.variable hb) (older_real n a.variable ha) ∙ ap (λ (t : Bool). cond t 1 2) (swapped (code b.variable) (code a.variable))

  under_owes : (c : Boolean) (ts us vs : List Term) (k : ℕ) → ((shadow c ≡ Some false → ⊥) → row_use (row_of p ts us vs) ≡ k) → Owes p n (under c (row ts us vs (answer tt))) unit Any (under_due (shadow c) k)
  under_owes (Constant false) ts us vs k z = owes_answer tt unit Any tt refl tt
  under_owes (Constant true) ts us vs k z = owes_row ts us vs k tt unit Any tt (z (λ e. cc)) refl tt
  under_owes (Var c) ts us vs k z = owes_row ts us vs k tt unit Any tt (z (λ e. cc)) refl tt

  pub on_owes : (t : Bool) (c : Boolean) → OldBit n c → Owes p n (on_constants t c) unit Any (on_due t (shadow c))
  on_owes true c h = owes_answer tt unit Any tt refl tt
  on_owes false (Constant true) h = owes_refuse Unsatisfiable unit Any
  on_owes false (Constant false) h = owes_answer tt unit Any tt refl tt
  on_owes false (Var c) h = owes_row (just One) (just c.variable) [] 2 tt unit Any tt (λ i. ones_size p two 1 (one_some p two) i + just_size p two 1 c.variable (one_some p two) (older_real n c.variable h) i + 0) refl tt

  pub equal_owes : (a b c : Boolean) → OldBit n a → OldBit n b → OldBit n c → Owes p n (equal_script p a b c) unit Any (equal_due (same_name a b) (shadow a) (shadow b) (shadow c))
  equal_owes (Constant x) (Constant y) c ha hb hc = on_owes (not (differ x y)) c hc
  equal_owes (Constant x) (Var b) c ha hb hc = under_owes c (difference p (Constant x) (Var b)) (bit_terms c) [] (difference_terms false (Some x) None + 1) (λ f. (λ i. difference_size (Constant x) (Var b) ha hb i + bit_size c hc f i + 0) ∙ omega arith)
  equal_owes (Var a) b c ha hb hc = under_owes c (difference p (Var a) b) (bit_terms c) [] (difference_terms (same_name (Var a) b) None (shadow b) + 1) (λ f. (λ i. difference_size (Var a) b ha hb i + bit_size c hc f i + 0) ∙ omega arith)

  pub unequal_owes : (a b c : Boolean) → OldBit n a → OldBit n b → OldBit n c → Owes p n (unequal_script p a b c) unit Any (unequal_due (same_name a b) (shadow a) (shadow b) (shadow c))
  unequal_owes (Constant x) (Constant y) c ha hb hc = on_owes (differ x y) c hc
  unequal_owes (Constant x) (Var b) c ha hb hc = under_owes c (together (Constant x) (Var b)) (bit_terms c) (bit_terms c) (together_terms false (Some x) None + 2) (λ f. (λ i. together_size (Constant x) (Var b) ha hb i + bit_size c hc f i + bit_size c hc f i) ∙ omega arith)
  unequal_owes (Var a) b c ha hb hc = under_owes c (together (Var a) b) (bit_terms c) (bit_terms c) (together_terms (same_name (Var a) b) None (shadow b) + 2) (λ f. (λ i. together_size (Var a) b ha hb i + bit_size c hc f i + bit_size c hc f i) ∙ omega arith)

  pub zero_owes : (a : Boolean) → OldBit n a → Owes p n (zero_script a) unit Any (zero_due (shadow a))
  zero_owes (Constant true) h = owes_refuse Unsatisfiable unit Any
  zero_owes (Constant false) h = owes_answer tt unit Any tt refl tt
  zero_owes (Var a) h = owes_row (just a.variable) (just One) [] 2 tt unit Any tt (λ i. just_size p two 1 a.variable (one_some p two) (older_real n a.variable h) i + ones_size p two 1 (one_some p two) i + 0) refl tt

-- ---- one after another
-- only xor asks whether its operands are one variable
pub and_same : (s : Bool) (a b : Option Bool) → gate_due And s a b ≡ gate_due And false a b
and_same s (Some true) b = refl
and_same s (Some false) b = refl
and_same s None (Some true) = refl
and_same s None (Some false) = refl
and_same s None None = refl

pub or_same : (s : Bool) (a b : Option Bool) → gate_due Or s a b ≡ gate_due Or false a b
or_same s (Some true) b = refl
or_same s (Some false) b = refl
or_same s None (Some true) = refl
or_same s None (Some false) = refl
or_same s None None = refl

module _ (p : ℕ) (two : 2 < p) (n : Next) where
  pub is_eq_owes : (a b : Boolean) → OldBit n a → OldBit n b → Owes p n (is_eq_script p a b) shadow OldBit (is_eq_due (same_name a b) (shadow a) (shadow b))
  is_eq_owes a b ha hb = owes_then not_due (gate_owes p two n Xor a b ha hb) (λ l x up h. not_owes p two l x h)

  turned_owes : (g : Gate) (a b : Boolean) → OldBit n a → OldBit n b → ((t : Boolean) → gate_due g (same_name t b) (shadow t) (shadow b) ≡ gate_due g false (shadow t) (shadow b))
      → Owes p n (then (not_script p a) (λ t. gate_call g p (t, b))) shadow OldBit (due_then (not_due (shadow a)) (λ t. gate_due g false t (shadow b)))
  turned_owes g a b ha hb same = owes_then (λ t. gate_due g false t (shadow b)) (not_owes p two n a ha) (λ l x up h. owes_as (gate_due g false (shadow x) (shadow b)) (same x) (gate_owes p two l g x b h (old_later n l up b hb)))

  pub and_owes : (a b : Boolean) → OldBit n a → OldBit n b → Owes p n (gate_call And p (a, b)) shadow OldBit (gate_due And false (shadow a) (shadow b))
  and_owes a b ha hb = owes_as (gate_due And false (shadow a) (shadow b)) (and_same (same_name a b) (shadow a) (shadow b)) (gate_owes p two n And a b ha hb)

  pub or_owes : (a b : Boolean) → OldBit n a → OldBit n b → Owes p n (gate_call Or p (a, b)) shadow OldBit (gate_due Or false (shadow a) (shadow b))
  or_owes a b ha hb = owes_as (gate_due Or false (shadow a) (shadow b)) (or_same (same_name a b) (shadow a) (shadow b)) (gate_owes p two n Or a b ha hb)

  pub select_owes : (c a b : Boolean) → OldBit n c → OldBit n a → OldBit n b → Owes p n (select_script p c a b) shadow OldBit (select_due (same_name a b) (shadow c) (shadow a) (shadow b))
  select_owes (Constant true) a b hc ha hb = owes_answer a shadow OldBit (shadow a) refl ha
  select_owes (Constant false) a b hc ha hb = owes_answer b shadow OldBit (shadow b) refl hb
  select_owes (Var c) a (Constant false) hc ha hb = and_owes (Var c) a hc ha
  select_owes (Var c) (Constant false) (Constant true) hc ha hb = turned_owes And (Var c) (Constant true) hc tt (λ t. and_same (same_name t (Constant true)) (shadow t) (Some true))
  select_owes (Var c) (Constant false) (Var b) hc ha hb = turned_owes And (Var c) (Var b) hc hb (λ t. and_same (same_name t (Var b)) (shadow t) None)
  select_owes (Var c) (Constant true) (Constant true) hc ha hb = owes_answer (Constant true) shadow OldBit (Some true) refl tt
  select_owes (Var c) (Constant true) (Var b) hc ha hb = or_owes (Var c) (Var b) hc hb
  select_owes (Var c) (Var a) (Constant true) hc ha hb = turned_owes Or (Var c) (Var a) hc ha (λ t. or_same (same_name t (Var a)) (shadow t) None)
  select_owes (Var c) (Var a) (Var b) hc ha hb =
      output_owes p two n (c.variable ∷ a.variable ∷ b.variable ∷ []) (of_three chosen) (λ w. just c.variable) (λ w. less p a.variable b.variable) (λ w. less p w b.variable) (cond (eqb (code a.variable) (code b.variable)) 3 5) refl
      (choice_use p two n c.variable a.variable b.variable hc ha hb)
