-- What the scripts of the calls that answer a number or a bit ask for.
use Rattle.std.proofs.Common.{◌≡◌, ℕ, ◌+◌, ◌-◌, ◌*◌, ◌%◌, ◌<◌, Bool, true, false, not, cond, eqb, List, [], ◌∷◌, ◌++◌, map, Some, None, Option, sym, refl, ap, ◌∙◌, arith, ne_eqb, false-eqb, append-nil}
use Rattle.relations.specs.declared.term.Variable.{Variable}
use Rattle.relations.specs.declared.term.Variable.TheVariants.{One, Witness}
use Rattle.relations.specs.declared.term.Term.{Term}
use Rattle.relations.specs.declared.term.Side.TheVariants.{Input as input, Witness as witness}
use Rattle.relations.specs.declared.fault.GadgetFault.TheVariants.{NoValue}
use Rattle.relations.specs.Sum.{code, row_of}
use Rattle.relations.specs.Meaning.{row_use}
use Rattle.relations.specs.Script.{Script, answer, allocate, row, then}
use Rattle.relations.specs.Terms.{times, just, less}
use Rattle.allocated.specs.declared.allocated.AllocatedBool.{AllocatedBool}
use Rattle.allocated.specs.Gates.{bit, of_two, of_three, chosen, not_allocated}
use Rattle.boolean.specs.declared.mode.AllocationMode.{AllocationMode}
use Rattle.boolean.specs.declared.mode.AllocationMode.TheVariants.{Constant as as_constant, Input as as_input, Witness as as_witness}
use Rattle.boolean.specs.declared.bits.Boolean.{Boolean}
use Rattle.boolean.specs.declared.bits.Boolean.TheVariants.{Constant as constant_bit, Var as variable_bit}
use Rattle.boolean.specs.Booleans.{as_var}
use Rattle.fp.specs.Equality.{inverse, where_both, is_eq_script as same_script, is_neq_script as differ_script}
use Rattle.fp_var.specs.declared.numbers.FpVar.{FpVar}
use Rattle.fp_var.specs.declared.numbers.FpVar.TheVariants.{Constant, Var}
use Rattle.fp_var.specs.Numbers.{named, linear, reduced, alloc_script, add_constant, add_script, opposite, negated, negate_script, constant_less, sub_script, double_script, product, scaled, mul_constant, mul_script, inverse_of, inverse_script, of_bit_script, same_constants, beside, is_eq_script, is_neq_script, copied, choice_of, choice_of_constants, select_script}
use Rattle.laws.specs.Law.{present}
use Rattle.laws.specs.Bill.{Charge, takes_variable, takes_combination, takes_row, Next}
use Rattle.bit_laws.specs.Bills.{shadow, Due, owes, due_then, is_eq_bill, is_neq_bill}
use Rattle.bit_laws.proofs.Sizes.{one_some, two_some, less_some, just_size, between_size, both_size, ones_size, more_size}
use Rattle.bit_laws.proofs.Owes.{Older, older_real, older_later, combination_apart, OldBit, Owes, owes_then, owes_answer, owes_refuse, owes_combine, owes_if, owes_as}
use Rattle.bit_laws.proofs.BitBills.{ones_use, choice_use}
use Rattle.bit_laws.proofs.WideBills.{unseen, not_allocated_owes, is_eq_number_owes, is_neq_number_owes}
use Rattle.number_laws.specs.Bills.{number_shadow, same_number, multiple_terms, combined_due, witness_due, scaled_due, scaled_bill, add_constant_due, add_due, negate_due, constant_less_due, sub_due, double_due, mul_due, inverse_due, of_bit_due, alloc_due, select_due, is_eq_due, is_neq_due}
use Rattle.number_laws.proofs.Modulo.{opposite_some}
use Rattle.number_laws.proofs.NumberSizes.{OldFp, Other, linear_owes, constant_owes, scaled_owes}

-- ---- what is due for a multiple, where nothing is known of it
scaled_is : {A : Type 0} (p c : ℕ) (a : A) → scaled_due p c a a ≡ owes (scaled_bill p c) a
scaled_is {A} p c a = go (eqb (c % p) 1)
  where
    go : (t : Bool) → ◌≡◌ {A = Due A} (cond t (owes [] a) (owes (takes_combination (multiple_terms p c) ∷ []) a)) (owes (cond t [] (takes_combination (multiple_terms p c) ∷ [])) a)
    go true = refl
    go false = refl

-- a value is there modulo p where it is there
reduced_present : (p : ℕ) (o : Option ℕ) → present (reduced p o) ≡ present o
reduced_present p None = refl
reduced_present p (Some x) = refl

module _ (p : ℕ) (two : 2 < p) (n : Next) where
  -- ---- sums
  add_constant_owes : (c : ℕ) (v : Variable) → Older n v → Owes p n (add_constant p c v) number_shadow OldFp (add_constant_due p c)
  add_constant_owes c v h = owes_if (eqb (c % p) 0) (λ e. owes_answer (named v) number_shadow OldFp None refl h)
      (λ e. linear_owes p two n (times 1 v ∷ (times c One ∷ [])) 2 (more_size p two v c (older_real n v h) (false-eqb (c % p) 0 (sym e))))

  pub add_owes : (a b : FpVar) → OldFp n a → OldFp n b → Owes p n (add_script p a b) number_shadow OldFp (add_due p (same_number a b) (number_shadow a) (number_shadow b))
  add_owes (Constant a) (Constant b) ha hb = owes_answer (Constant ((a + b) % p)) number_shadow OldFp (Some ((a + b) % p)) refl tt
  add_owes (Constant a) (Var b) ha hb = add_constant_owes a b.variable hb
  add_owes (Var a) (Constant b) ha hb = add_constant_owes b a.variable ha
  add_owes (Var a) (Var b) ha hb =
      linear_owes p two n (times 1 a.variable ∷ just b.variable) (cond (eqb (code a.variable) (code b.variable)) 1 2) (both_size p two a.variable b.variable (older_real n a.variable ha) (older_real n b.variable hb))

  negated_owes : (v : Variable) → Older n v → Owes p n (negated p v) number_shadow OldFp (combined_due 1)
  negated_owes v h = linear_owes p two n (times (p - 1) v ∷ []) 1 (just_size p two (p - 1) v (less_some p two) (older_real n v h))

  pub negate_owes : (a : FpVar) → OldFp n a → Owes p n (negate_script p a) number_shadow OldFp (negate_due p (number_shadow a))
  negate_owes (Constant a) h = owes_answer (Constant (opposite p a)) number_shadow OldFp (Some (opposite p a)) refl tt
  negate_owes (Var a) h = negated_owes a.variable h

  pub double_owes : (a : FpVar) → OldFp n a → Owes p n (double_script p a) number_shadow OldFp (double_due p (number_shadow a))
  double_owes (Constant a) h = owes_answer (Constant ((2 * a) % p)) number_shadow OldFp (Some ((2 * a) % p)) refl tt
  double_owes (Var a) h = linear_owes p two n (times 2 a.variable ∷ []) 1 (just_size p two 2 a.variable (two_some p two) (older_real n a.variable h))

  pub of_bit_owes : (b : Boolean) → OldBit n b → Owes p n (of_bit_script b) number_shadow OldFp (of_bit_due (shadow b))
  of_bit_owes (constant_bit b) h = owes_answer (Constant (bit b)) number_shadow OldFp (Some (bit b)) refl tt
  of_bit_owes (variable_bit a) h = linear_owes p two n (just a.variable) 1 (just_size p two 1 a.variable (one_some p two) (older_real n a.variable h))

  -- ---- products, inverses and new numbers
  mul_constant_owes : (c : ℕ) (v : Variable) → Older n v → Owes p n (mul_constant p c v) number_shadow OldFp (scaled_due p c None None)
  mul_constant_owes c v h =
      owes_as (scaled_due p c None None) (go (eqb (c % p) 1))
      (owes_then (λ u. owes [] None) (scaled_owes p two n c v unseen Older tt tt h refl h (λ k. refl) (λ k. omega arith)) (λ l x up hx. owes_answer (named x) number_shadow OldFp None refl hx))
    where
      go : (t : Bool) → due_then (cond t (owes [] (tt {0})) (owes (takes_combination (multiple_terms p c) ∷ []) tt)) (λ u. owes {A = Option ℕ} [] None) ≡ cond t (owes [] None) (owes (takes_combination (multiple_terms p c) ∷ []) None)
      go true = refl
      go false = refl

  -- a witness, and a row of k terms
  witness_owes : (vs : List Variable) (f : List (Option ℕ) → Option ℕ) (a b c : Variable → List Term) (k : ℕ) → present (f (map (λ v. Some (n.kept v)) vs)) ≡ true
      → row_use (row_of p (a (Witness n.witness_at)) (b (Witness n.witness_at)) (c (Witness n.witness_at))) ≡ k
      → Owes p n (allocate witness vs f (λ w. row (a w) (b w) (c w) (answer (named w)))) number_shadow OldFp (witness_due k)
  witness_owes vs f a b c k h z = record {
    charged = λ i. takes_variable witness (h i) ∷ (takes_row (z i) ∷ []);
    ended = (record { inputs = omega arith; witnesses = omega arith; places = omega arith }, refl, omega arith);
  }

  pub mul_owes : (a b : FpVar) → OldFp n a → OldFp n b → Owes p n (mul_script p a b) number_shadow OldFp (mul_due p (number_shadow a) (number_shadow b))
  mul_owes (Constant a) (Constant b) ha hb = owes_answer (Constant (product p a b)) number_shadow OldFp (Some (product p a b)) refl tt
  mul_owes (Constant a) (Var b) ha hb = mul_constant_owes a b.variable hb
  mul_owes (Var a) (Constant b) ha hb = mul_constant_owes b a.variable ha
  mul_owes (Var a) (Var b) ha hb = witness_owes (a.variable ∷ b.variable ∷ []) (of_two (where_both (product p))) (λ w. just a.variable) (λ w. just b.variable) just 3 refl (ones_use p two n a.variable b.variable ha hb)

  pub inverse_owes : (a : FpVar) → OldFp n a → Owes p n (inverse_script p a) number_shadow OldFp (inverse_due p (number_shadow a))
  inverse_owes (Constant a) h = owes_if (eqb (a % p) 0) (λ e. owes_refuse NoValue number_shadow OldFp) (λ e. owes_answer (Constant (inverse p (a % p))) number_shadow OldFp (Some (inverse p (a % p))) refl tt)
  inverse_owes (Var a) h = witness_owes (a.variable ∷ []) (inverse_of p) (λ w. just a.variable) just (λ w. just One) 3 refl
      (λ i. just_size p two 1 a.variable (one_some p two) (older_real n a.variable h) i + just_size p two 1 (Witness n.witness_at) (one_some p two) refl i + ones_size p two 1 (one_some p two) i)

  pub alloc_owes : (mode : AllocationMode) (o : Option ℕ) → Owes p n (alloc_script p mode o) number_shadow OldFp (alloc_due p mode o)
  alloc_owes as_constant None = owes_refuse NoValue number_shadow OldFp
  alloc_owes as_constant (Some x) = owes_answer (Constant (x % p)) number_shadow OldFp (Some (x % p)) refl tt
  alloc_owes as_input o = record { charged = ap (λ (t : Bool). takes_variable input t ∷ []) (reduced_present p o); ended = (record { inputs = omega arith; witnesses = omega arith; places = omega arith }, refl, omega arith) }
  alloc_owes as_witness o = record { charged = ap (λ (t : Bool). takes_variable witness t ∷ []) (reduced_present p o); ended = (record { inputs = omega arith; witnesses = omega arith; places = omega arith }, refl, omega arith) }

  -- ---- questions on two variables
  abbrev OldAllocated : Next → AllocatedBool → Type 0
  OldAllocated n a = Older n a.variable

  as_bit_owes : (s : Script AllocatedBool) (cs : List Charge) → Owes p n s unseen OldAllocated (owes cs tt) → Owes p n (as_var s) shadow OldBit (owes cs None)
  as_bit_owes s cs a = owes_as (owes cs None) (ap (λ (l : List Charge). owes l None) (append-nil cs)) (owes_then (λ u. owes [] None) a (λ l b up h. owes_answer (variable_bit b) shadow OldBit None refl h))

  same_owes : (x y : Variable) → Older n x → Older n y → Owes p n (as_var (same_script p x y)) shadow OldBit (owes (is_eq_bill (eqb (code x) (code y))) None)
  same_owes x y hx hy = as_bit_owes (same_script p x y) (is_eq_bill (eqb (code x) (code y))) (is_eq_number_owes p two x y n hx hy)

  differ_owes : (x y : Variable) → Older n x → Older n y → Owes p n (as_var (differ_script p x y)) shadow OldBit (owes (is_neq_bill (eqb (code x) (code y))) None)
  differ_owes x y hx hy = as_bit_owes (differ_script p x y) (is_neq_bill (eqb (code x) (code y))) (is_neq_number_owes p two x y n hx hy)

  -- a choice of two variables
  choice_owes : (c x y : Variable) → Older n c → Older n x → Older n y → Owes p n (choice_of p c x y) number_shadow OldFp (witness_due (cond (eqb (code x) (code y)) 3 5))
  choice_owes c x y hc hx hy = witness_owes (c ∷ x ∷ y ∷ []) (of_three chosen) (λ w. just c) (λ w. less p x y) (λ w. less p w y) (cond (eqb (code x) (code y)) 3 5) refl (choice_use p two n c x y hc hx hy)

-- ---- one after another
module _ (p : ℕ) (two : 2 < p) (n : Next) where
  constant_less_owes : (c : ℕ) (v : Variable) → Older n v → Owes p n (constant_less p c v) number_shadow OldFp (constant_less_due p c)
  constant_less_owes c v h = owes_if (eqb (c % p) 0) (λ e. negated_owes p two n v h)
      (λ e. owes_then (negate_due p) (linear_owes p two n (times 1 v ∷ (times (opposite p c) One ∷ [])) 2 (more_size p two v (opposite p c) (older_real n v h) (opposite_some p c (omega arith) (false-eqb (c % p) 0 (sym e)))))
      (λ l x up hx. negate_owes p two l x hx))

  pub sub_owes : (a b : FpVar) → OldFp n a → OldFp n b → Owes p n (sub_script p a b) number_shadow OldFp (sub_due p (same_number a b) (number_shadow a) (number_shadow b))
  sub_owes (Constant a) (Constant b) ha hb = owes_answer (Constant ((a + opposite p b) % p)) number_shadow OldFp (Some ((a + opposite p b) % p)) refl tt
  sub_owes (Constant a) (Var b) ha hb = constant_less_owes a b.variable hb
  sub_owes (Var a) (Constant b) ha hb = add_constant_owes p two n (opposite p b) a.variable ha
  sub_owes (Var a) (Var b) ha hb =
      linear_owes p two n (less p a.variable b.variable) (cond (eqb (code a.variable) (code b.variable)) 0 2) (between_size p two a.variable b.variable (older_real n a.variable ha) (older_real n b.variable hb))

  -- a question on a constant and a variable
  asked_owes : (c : ℕ) (v : Variable) (k : Variable → Variable → Script Boolean) (bill : Bool → List Charge) → ((l : Next) (x y : Variable) → Older l x → Older l y → Owes p l (k x y) shadow OldBit (owes (bill (eqb (code x) (code y))) None))
      → Older n v → Owes p n (beside c v k) shadow OldBit (owes ((takes_combination (multiple_terms p c) ∷ []) ++ bill false) None)
  asked_owes c v k bill a h = owes_then (λ u. owes (bill false) None) (constant_owes p two n c v h)
      (λ l x up q. owes_as (owes (bill false) None) (ap (λ (t : Bool). owes (bill t) None) (ne_eqb (code x) (code v) q.1)) (a l x v q.0 (older_later n l up v h)))

  pub is_eq_owes : (a b : FpVar) → OldFp n a → OldFp n b → Owes p n (is_eq_script p a b) shadow OldBit (is_eq_due p (same_number a b) (number_shadow a) (number_shadow b))
  is_eq_owes (Constant a) (Constant b) ha hb = owes_answer (constant_bit (same_constants p a b)) shadow OldBit (Some (same_constants p a b)) refl tt
  is_eq_owes (Constant a) (Var b) ha hb = asked_owes a b.variable (λ x y. as_var (same_script p x y)) is_eq_bill (same_owes p two) hb
  is_eq_owes (Var a) (Constant b) ha hb = asked_owes b a.variable (λ x y. as_var (same_script p x y)) is_eq_bill (same_owes p two) ha
  is_eq_owes (Var a) (Var b) ha hb = same_owes p two n a.variable b.variable ha hb

  pub is_neq_owes : (a b : FpVar) → OldFp n a → OldFp n b → Owes p n (is_neq_script p a b) shadow OldBit (is_neq_due p (same_number a b) (number_shadow a) (number_shadow b))
  is_neq_owes (Constant a) (Constant b) ha hb = owes_answer (constant_bit (not (same_constants p a b))) shadow OldBit (Some (not (same_constants p a b))) refl tt
  is_neq_owes (Constant a) (Var b) ha hb = asked_owes a b.variable (λ x y. as_var (differ_script p x y)) is_neq_bill (differ_owes p two) hb
  is_neq_owes (Var a) (Constant b) ha hb = asked_owes b a.variable (λ x y. as_var (differ_script p x y)) is_neq_bill (differ_owes p two) ha
  is_neq_owes (Var a) (Var b) ha hb = differ_owes p two n a.variable b.variable ha hb

  -- ---- a choice
  -- a combination of one variable, which is another than w
  copied_owes : (v w : Variable) → Older n v → Older n w → Owes p n (copied v) unseen (Other w) (owes (takes_combination 1 ∷ []) tt)
  copied_owes v w hv hw = owes_combine (just v) 1 unseen (Other w) tt (just_size p two 1 v (one_some p two) (older_real n v hv)) refl (omega arith, λ e. combination_apart n w 1 hw (sym e))

  -- a multiple of v, which is another than w, where v is
  multiple_owes : (c : ℕ) (v w : Variable) → Other w n v → Older n w → Owes p n (scaled p c v) unseen (Other w) (owes (scaled_bill p c) tt)
  multiple_owes c v w h hw = owes_as (owes (scaled_bill p c) tt) (scaled_is p c tt) (scaled_owes p two n c v unseen (Other w) tt tt h.0 refl h (λ k. refl) (λ k. (omega arith, λ e. combination_apart n w k hw (sym e))))

  -- two variables together that are not one
  together_owes : (x y : Variable) → Older n x → Other x n y → Owes p n (linear (times 1 x ∷ just y)) number_shadow OldFp (combined_due 2)
  together_owes x y hx h = linear_owes p two n (times 1 x ∷ just y) 2 (both_size p two x y (older_real n x hx) (older_real n y h.0) ∙ ap (λ (t : Bool). cond t 1 2) (ne_eqb (code x) (code y) (λ e. h.1 (sym e))))

module _ (p : ℕ) (two : 2 < p) (n : Next) where
  mixed_owes : (a b : ℕ) (i o : Variable) → Older n i → Other i n o → Owes p n (then (scaled p a i) (λ x. then (scaled p b o) (λ y. linear (times 1 x ∷ just y)))) number_shadow OldFp (owes (scaled_bill p a ++ (scaled_bill p b ++ (takes_combination 2 ∷ []))) None)
  mixed_owes a b i o hi ho =
      owes_then (λ u. owes (scaled_bill p b ++ (takes_combination 2 ∷ [])) None) (multiple_owes p two n a i o (hi, λ e. ho.1 (sym e)) ho.0)
      (λ l x up hx. owes_then (λ u. combined_due 2) (multiple_owes p two l b o x (older_later n l up o ho.0, λ e. hx.1 (sym e)) hx.0) (λ j y next hy. together_owes p two j x y (older_later l j next x hx.0) hy))

module _ (p : ℕ) (two : 2 < p) (n : Next) where
  constants_owes : (c : AllocatedBool) (a b : ℕ) → Older n c.variable → Owes p n (choice_of_constants p c a b) number_shadow OldFp (select_due p false None (Some a) (Some b))
  constants_owes c a b hc =
      owes_then {s = copied c.variable} {k = λ i. then (not_allocated p c) (λ t. then (copied t.variable) (λ o. then (scaled p a i) (λ x. then (scaled p b o) (λ y. linear (times 1 x ∷ just y)))))}
      (λ u. owes (takes_combination 2 ∷ (takes_combination 1 ∷ (scaled_bill p a ++ (scaled_bill p b ++ (takes_combination 2 ∷ []))))) None) (copied_owes p two n c.variable c.variable hc hc)
      (λ l i up hi. owes_then {k = λ t. then (copied t.variable) (λ o. then (scaled p a i) (λ x. then (scaled p b o) (λ y. linear (times 1 x ∷ just y))))}
      (λ u. owes (takes_combination 1 ∷ (scaled_bill p a ++ (scaled_bill p b ++ (takes_combination 2 ∷ [])))) None) (not_allocated_owes p two c l (older_later n l up c.variable hc))
      (λ j t next ht. owes_then {s = copied t.variable} {k = λ o. then (scaled p a i) (λ x. then (scaled p b o) (λ y. linear (times 1 x ∷ just y)))}
      (λ u. owes (scaled_bill p a ++ (scaled_bill p b ++ (takes_combination 2 ∷ []))) None) (copied_owes p two j t.variable i ht (older_later l j next i hi.0))
      (λ m o last ho. mixed_owes p two m a b i o (older_later j m last i (older_later l j next i hi.0)) ho)))

  pub select_owes : (c : Boolean) (a b : FpVar) → OldBit n c → OldFp n a → OldFp n b → Owes p n (select_script p c a b) number_shadow OldFp (select_due p (same_number a b) (shadow c) (number_shadow a) (number_shadow b))
  select_owes (constant_bit true) a b hc ha hb = owes_answer a number_shadow OldFp (number_shadow a) refl ha
  select_owes (constant_bit false) a b hc ha hb = owes_answer b number_shadow OldFp (number_shadow b) refl hb
  select_owes (variable_bit c) (Constant a) (Constant b) hc ha hb = constants_owes c a b hc
  select_owes (variable_bit c) (Constant a) (Var b) hc ha hb = owes_then (λ u. witness_due 5) (constant_owes p two n a b.variable hb)
      (λ l x up q. owes_as (witness_due 5) (ap (λ (t : Bool). witness_due (cond t 3 5)) (ne_eqb (code x) (code b.variable) q.1)) (choice_owes p two l c.variable x b.variable (older_later n l up c.variable hc) q.0 (older_later n l up b.variable hb)))
  select_owes (variable_bit c) (Var a) (Constant b) hc ha hb = owes_then (λ u. witness_due 5) (constant_owes p two n b a.variable ha)
      (λ l y up q. owes_as (witness_due 5) (ap (λ (t : Bool). witness_due (cond t 3 5)) (ne_eqb (code a.variable) (code y) (λ e. q.1 (sym e)))) (choice_owes p two l c.variable a.variable y (older_later n l up c.variable hc) (older_later n l up a.variable ha) q.0))
  select_owes (variable_bit c) (Var a) (Var b) hc ha hb = choice_owes p two n c.variable a.variable b.variable hc ha hb
