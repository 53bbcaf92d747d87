-- What the scripts of comparison ask for.
use Rattle.std.proofs.Common.{◌≡◌, ℕ, ◌+◌, ◌<◌, Bool, true, false, [], get_or, Some, sym, refl, ap, ◌∙◌, arith}
use lib.ListN.{get_or-map}
use Rattle.std.specs.declared.cmp.Ordering.{Ordering}
use Rattle.std.specs.declared.cmp.Ordering.TheVariants.{Less, Equal, Greater}
use Rattle.field.specs.Laws.{OddPrime}
use Rattle.field.specs.Modulus.{half_of}
use Rattle.relations.specs.declared.term.Variable.TheVariants.{One}
use Rattle.relations.specs.declared.fault.GadgetFault.TheVariants.{Unsatisfiable}
use Rattle.relations.specs.Sum.{code, sum_of}
use Rattle.relations.specs.Script.{answer, row, then}
use Rattle.relations.specs.Terms.{just}
use Rattle.boolean.specs.declared.bits.Boolean.{Boolean}
use Rattle.boolean.specs.declared.bits.Boolean.TheVariants.{Constant as constant_bit, Var as variable_bit}
use Rattle.boolean.specs.Booleans.{bit_terms}
use Rattle.fp_var.specs.declared.numbers.FpVar.{FpVar}
use Rattle.fp_var.specs.declared.numbers.FpVar.TheVariants.{Constant, Var}
use Rattle.gates.specs.Walk.{place}
use Rattle.fp_cmp.specs.Compare.{at_most_half, lowest_of_double, smaller, compared, is_cmp_script, ordered, forced, enforce_cmp_script}
use Rattle.laws.specs.Bill.{Next}
use Rattle.bit_laws.specs.Bills.{shadow, shadows, owes, due_then, not_due, walk_due}
use Rattle.bit_laws.proofs.Lists.{each_at}
use Rattle.bit_laws.proofs.Sizes.{one_some, just_size, ones_size}
use Rattle.bit_laws.proofs.Owes.{older_real, OldBit, Owes, owes_then, owes_answer, owes_refuse, owes_row, owes_as}
use Rattle.bit_laws.proofs.BitBills.{unit, Any, swapped, not_owes}
use Rattle.bit_laws.proofs.BoundBills.{walk_owes}
use Rattle.number_laws.specs.Bills.{number_shadow, same_number, double_due, condition_terms}
use Rattle.number_laws.proofs.NumberSizes.{OldFp, old_fp_later}
use Rattle.number_laws.proofs.NumberBills.{sub_owes, double_owes}
use Rattle.number_laws.proofs.StatementBills.{holding_owes}
use Rattle.fp_bit_laws.specs.Bills.{to_bits_due, half_due, lowest_due, smaller_due, compared_due, is_cmp_due, true_due, forced_due, enforce_cmp_due}
use Rattle.fp_bit_laws.proofs.NumberBits.{odd_above}
use Rattle.fp_bit_laws.proofs.BitsBills.{to_non_unique_bits_owes, to_bits_owes}

-- whether two numbers are one variable, the other way round
same_swapped : (a b : FpVar) → same_number a b ≡ same_number b a
same_swapped (Constant a) (Constant b) = refl
same_swapped (Constant a) (Var b) = refl
same_swapped (Var a) (Constant b) = refl
same_swapped (Var a) (Var b) = swapped (code a.variable) (code b.variable)

module _ (p : ℕ) (P : OddPrime p) where
  two : 2 < p
  two = odd_above p P.prime.0 P.odd

  half_owes : (a : FpVar) (n : Next) → OldFp n a → Owes p n (at_most_half p a) unit Any (half_due p (number_shadow a))
  half_owes a n h = owes_then (λ os. walk_due p os (half_of p)) (to_non_unique_bits_owes p P a n h) (λ l bs up g. walk_owes p two bs (half_of p) l g)

  lowest_owes : (a b : FpVar) (n : Next) → OldFp n a → OldFp n b → Owes p n (lowest_of_double p a b) shadow OldBit (lowest_due p (same_number a b) (number_shadow a) (number_shadow b))
  lowest_owes a b n ha hb =
      owes_then (λ d. due_then (double_due p d) (λ e. due_then (to_bits_due p e) (λ os. owes [] (get_or os 0 (Some false))))) (sub_owes p two n a b ha hb)
      (λ l d up hd. owes_then (λ e. due_then (to_bits_due p e) (λ os. owes [] (get_or os 0 (Some false)))) (double_owes p two l d hd)
      (λ j e up₁ he. owes_then (λ os. owes [] (get_or os 0 (Some false))) (to_bits_owes p P e j he)
      (λ m bs up₂ g. owes_answer (place bs 0) shadow OldBit (get_or (shadows bs) 0 (Some false)) (sym (get_or-map shadow bs 0 (constant_bit false))) (each_at (OldBit m) bs 0 (constant_bit false) tt g))))

  smaller_owes : (flag : Bool) (a b : FpVar) (n : Next) → OldFp n a → OldFp n b → Owes p n (smaller p flag a b) shadow OldBit (smaller_due p flag (same_number a b) (number_shadow a) (number_shadow b))
  smaller_owes false a b n ha hb = lowest_owes a b n ha hb
  smaller_owes true a b n ha hb =
      owes_then not_due (owes_as (lowest_due p (same_number a b) (number_shadow b) (number_shadow a)) (ap (λ (t : Bool). lowest_due p t (number_shadow b) (number_shadow a)) (same_swapped b a)) (lowest_owes b a n hb ha)) (λ l x up hx. not_owes p two l x hx)

  compared_owes : (flag : Bool) (a b : FpVar) (n : Next) → OldFp n a → OldFp n b → Owes p n (compared p flag a b) shadow OldBit (compared_due p flag (same_number a b) (number_shadow a) (number_shadow b))
  compared_owes flag a b n ha hb =
      owes_then (λ u. due_then (half_due p (number_shadow b)) (λ v. smaller_due p flag (same_number a b) (number_shadow a) (number_shadow b))) (half_owes a n ha)
      (λ l u up q. let hb₁ = old_fp_later n l up b hb in
      owes_then (λ v. smaller_due p flag (same_number a b) (number_shadow a) (number_shadow b)) (half_owes b l hb₁) (λ j v up₁ r. smaller_owes flag a b j (old_fp_later l j up₁ a (old_fp_later n l up a ha)) (old_fp_later l j up₁ b hb₁)))

  -- with the sides swapped
  swapped_owes : (flag : Bool) (a b : FpVar) (n : Next) → OldFp n a → OldFp n b → Owes p n (compared p flag b a) shadow OldBit (compared_due p flag (same_number a b) (number_shadow b) (number_shadow a))
  swapped_owes flag a b n ha hb = owes_as (compared_due p flag (same_number a b) (number_shadow b) (number_shadow a)) (ap (λ (t : Bool). compared_due p flag t (number_shadow b) (number_shadow a)) (same_swapped b a)) (compared_owes flag b a n hb ha)

  pub is_cmp_owes : (o : Ordering) (flag : Bool) (a b : FpVar) (n : Next) → OldFp n a → OldFp n b → Owes p n (is_cmp_script p o flag a b) shadow OldBit (is_cmp_due p o flag (same_number a b) (number_shadow a) (number_shadow b))
  is_cmp_owes Less flag a b n ha hb = compared_owes flag a b n ha hb
  is_cmp_owes Equal flag a b n ha hb = owes_refuse Unsatisfiable shadow OldBit
  is_cmp_owes Greater flag a b n ha hb = swapped_owes flag a b n ha hb

  -- ---- as a statement
  bit_size : (b : Boolean) (n : Next) → OldBit n b → (sum_of p (bit_terms b)).size ≡ condition_terms (shadow b)
  bit_size (constant_bit true) n h = ones_size p two 1 (one_some p two)
  bit_size (constant_bit false) n h = refl
  bit_size (variable_bit a) n h = just_size p two 1 a.variable (one_some p two) (older_real n a.variable h)

  true_owes : (b : Boolean) (n : Next) → OldBit n b → Owes p n (row (bit_terms b) (just One) (just One) (answer tt)) unit Any (true_due (shadow b))
  true_owes b n h = owes_row (bit_terms b) (just One) (just One) (condition_terms (shadow b) + 2) tt unit Any tt
      ((λ i. bit_size b n h i + ones_size p two 1 (one_some p two) i + ones_size p two 1 (one_some p two) i) ∙ omega arith) refl tt

  shown_owes : (flag : Bool) (a b : FpVar) (n : Next) → OldFp n a → OldFp n b
      → Owes p n (then (compared p flag a b) (λ c. row (bit_terms c) (just One) (just One) (answer tt))) unit Any (due_then (compared_due p flag (same_number a b) (number_shadow a) (number_shadow b)) true_due)
  shown_owes flag a b n ha hb = owes_then true_due (compared_owes flag a b n ha hb) (λ l c up h. true_owes c l h)

  forced_owes : (flag : Bool) (a b : FpVar) (n : Next) → OldFp n a → OldFp n b → Owes p n (forced p flag a b) unit Any (forced_due p flag (same_number a b) (number_shadow a) (number_shadow b))
  forced_owes flag (Constant x) (Constant y) n ha hb = holding_owes p two n (ordered p flag x y)
  forced_owes flag (Constant x) (Var b) n ha hb = shown_owes flag (Constant x) (Var b) n ha hb
  forced_owes flag (Var a) b n ha hb = shown_owes flag (Var a) b n ha hb

  pub enforce_cmp_owes : (o : Ordering) (flag : Bool) (a b : FpVar) (n : Next) → OldFp n a → OldFp n b → Owes p n (enforce_cmp_script p o flag a b) unit Any (enforce_cmp_due p o flag (same_number a b) (number_shadow a) (number_shadow b))
  enforce_cmp_owes Less flag a b n ha hb = forced_owes flag a b n ha hb
  enforce_cmp_owes Equal flag a b n ha hb = owes_refuse Unsatisfiable unit Any
  enforce_cmp_owes Greater flag a b n ha hb =
      owes_as (forced_due p flag (same_number a b) (number_shadow b) (number_shadow a)) (ap (λ (t : Bool). forced_due p flag t (number_shadow b) (number_shadow a)) (same_swapped b a)) (forced_owes flag b a n hb ha)
