-- What the scripts of statements on numbers ask for.
use Rattle.std.proofs.Common.{◌≡◌, ◌≢◌, ℕ, ◌+◌, ◌%◌, ◌<◌, Bool, true, false, not, cond, eqb, List, [], ◌∷◌, ◌++◌, map, Some, None, Option, sym, refl, ap, ◌∙◌, arith, ne_eqb, mod-eq_of_lt}
use native.Mathlib.Nat.{zero-mod}
use Rattle.relations.specs.declared.term.Variable.{Variable}
use Rattle.relations.specs.declared.term.Variable.TheVariants.{One, Witness, Combination}
use Rattle.relations.specs.declared.term.Term.{Term}
use Rattle.relations.specs.declared.term.Side.TheVariants.{Witness as witness}
use Rattle.relations.specs.declared.fault.GadgetFault.TheVariants.{Unsatisfiable}
use Rattle.relations.specs.Sum.{code, sum_of, row_of}
use Rattle.relations.specs.Meaning.{row_use}
use Rattle.relations.specs.Script.{answer, allocate, row, then}
use Rattle.relations.specs.Terms.{times, just, less}
use Rattle.allocated.specs.Gates.{of_three}
use Rattle.boolean.specs.declared.bits.Boolean.{Boolean}
use Rattle.boolean.specs.declared.bits.Boolean.TheVariants.{Constant as constant_bit, Var as variable_bit}
use Rattle.fp.specs.Equality.{inverse, gap}
use Rattle.fp_var.specs.declared.numbers.FpVar.{FpVar}
use Rattle.fp_var.specs.declared.numbers.FpVar.TheVariants.{Constant, Var}
use Rattle.fp_var.specs.Numbers.{named, constant_lc, product, same_constants, beside, holding, variable_is_constant, variable_is, constant_is, product_row, mul_equals_script, square_equals_script, condition, equal_row, equal_script, apart, apart_values, apart_from, apart_row, unequal_script}
use Rattle.laws.specs.Law.{Val, Low, present}
use Rattle.laws.specs.Bill.{takes_variable, takes_combination, takes_row, Next}
use Rattle.bit_laws.specs.Bits.{bit_number_of, real}
use Rattle.bit_laws.specs.Bills.{shadow, owes}
use Rattle.bit_laws.proofs.Sizes.{one_some, just_size, between_size, ones_size}
use Rattle.bit_laws.proofs.Owes.{Older, older_real, combination_apart, OldBit, Owes, owes_then, owes_answer, owes_refuse, owes_row}
use Rattle.bit_laws.proofs.BitBills.{unit, Any, swapped, on_owes}
use Rattle.number_laws.specs.Numbers.{pair_fp, guarded_fp, BothBelow}
use Rattle.number_laws.specs.Bills.{number_shadow, same_number, multiple_terms, holding_due, constant_row_due, variable_is_due, constant_is_due, multiple_is_due, product_row_due, mul_equals_due, square_equals_due, condition_terms, equal_due, unequal_due, has_multiplier, apart_or_free}
use Rattle.number_laws.proofs.Comparing.{same_either}
use Rattle.number_laws.proofs.NumberStatements.{condition_number}
use Rattle.number_laws.proofs.NumberSizes.{constant_size, OldFp, old_fp_later, no_size, apart_size, constant_owes, scaled_owes}

module _ (p : ℕ) (two : 2 < p) (n : Next) where
  -- ---- parts
  pub holding_owes : (t : Bool) → Owes p n (holding t) unit Any (holding_due t)
  holding_owes true = owes_answer tt unit Any tt refl tt
  holding_owes false = owes_refuse Unsatisfiable unit Any

  -- a variable alone, and a condition
  alone_size : (v : Variable) → real v ≡ true → (sum_of p (just v)).size ≡ 1
  alone_size v r = just_size p two 1 v (one_some p two) r

  condition_size : (c : Boolean) → OldBit n c → (sum_of p (just (condition c))).size ≡ condition_terms (shadow c)
  condition_size (constant_bit true) h = ones_size p two 1 (one_some p two)
  condition_size (constant_bit false) h = no_size p 5 0 (zero-mod p)
  condition_size (variable_bit c) h = alone_size c.variable (older_real n c.variable h)

  -- a constant as a combination, and a row of k terms of it: it is another than w
  constant_row_owes : (c : ℕ) (w : Variable) (ts us vs : Variable → List Term) (k : ℕ) → Older n w → ((x : Variable) → real x ≡ true → code x ≢ code w → row_use (row_of p (ts x) (us x) (vs x)) ≡ k)
      → Owes p n (then (constant_lc c) (λ x. row (ts x) (us x) (vs x) (answer tt))) unit Any (constant_row_due p c k)
  constant_row_owes c w ts us vs k h z = owes_then (λ u. owes (takes_row k ∷ []) tt) (constant_owes p two n c w h) (λ l x up q. owes_row (ts x) (us x) (vs x) k tt unit Any tt (z x (older_real l x q.0) q.1) refl tt)

  variable_is_constant_owes : (c : ℕ) (v : Variable) → Older n v → Owes p n (variable_is_constant p c v) unit Any (constant_row_due p c 3)
  variable_is_constant_owes c v h = constant_row_owes c v (λ x. less p x v) (λ x. just One) (λ x. []) 3 h
      (λ x r ne i. apart_size p two x v r (older_real n v h) ne i + ones_size p two 1 (one_some p two) i + 0)

  variable_is_owes : (m : Variable) (c : FpVar) → Older n m → OldFp n c → Owes p n (variable_is p m c) unit Any (variable_is_due p (same_number (named m) c) (number_shadow c))
  variable_is_owes m (Constant c) hm hc = variable_is_constant_owes c m hm
  variable_is_owes m (Var c) hm hc = owes_row (less p c.variable m) (just One) [] (cond (eqb (code m) (code c.variable)) 1 3) tt unit Any tt
      ((λ i. between_size p two c.variable m (older_real n c.variable hc) (older_real n m hm) i + ones_size p two 1 (one_some p two) i + 0) ∙ ap (λ (t : Bool). cond t 0 2 + 1 + 0) (swapped (code c.variable) (code m)) ∙ go (eqb (code m) (code c.variable)))
      refl tt
    where
      go : (t : Bool) → cond t 0 2 + 1 + 0 ≡ cond t 1 3
      go true = refl
      go false = refl

  pub constant_is_owes : (m : ℕ) (c : FpVar) → OldFp n c → Owes p n (constant_is p m c) unit Any (constant_is_due p m (number_shadow c))
  constant_is_owes m (Constant c) h = holding_owes (same_constants p m c)
  constant_is_owes m (Var c) h = variable_is_constant_owes m c.variable h

  product_row_owes : (a b : Variable) (c : FpVar) → Older n a → Older n b → OldFp n c → Owes p n (product_row a b c) unit Any (product_row_due p (number_shadow c))
  product_row_owes a b (Constant c) ha hb hc = constant_row_owes c a (λ x. just a) (λ x. just b) just 3 ha (λ x r ne i. alone_size a (older_real n a ha) i + alone_size b (older_real n b hb) i + alone_size x r i)
  product_row_owes a b (Var c) ha hb hc = owes_row (just a) (just b) (just c.variable) 3 tt unit Any tt
      (λ i. alone_size a (older_real n a ha) i + alone_size b (older_real n b hb) i + alone_size c.variable (older_real n c.variable hc) i) refl tt

  -- ---- squares
  pub square_equals_owes : (a b : FpVar) → OldFp n a → OldFp n b → Owes p n (square_equals_script p a b) unit Any (square_equals_due p (number_shadow a) (number_shadow b))
  square_equals_owes (Constant a) (Constant b) ha hb = holding_owes (same_constants p (product p a a) b)
  square_equals_owes (Constant a) (Var b) ha hb = constant_row_owes a b.variable just just (λ x. just b.variable) 3 hb (λ x r ne i. alone_size x r i + alone_size x r i + alone_size b.variable (older_real n b.variable hb) i)
  square_equals_owes (Var a) b ha hb = product_row_owes a.variable a.variable b ha ha hb

  -- ---- equality under a condition
  equal_beside_owes : (c : Boolean) (a : ℕ) (v : Variable) → Older n v → OldBit n c → Owes p n (beside a v (equal_row p (condition c))) unit Any (constant_row_due p a (2 + condition_terms (shadow c)))
  equal_beside_owes c a v hv hc = constant_row_owes a v (λ x. less p x v) (λ x. just (condition c)) (λ x. []) (2 + condition_terms (shadow c)) hv
      (λ x r ne. (λ i. apart_size p two x v r (older_real n v hv) ne i + condition_size c hc i + 0) ∙ omega arith)

  pub equal_owes : (a b : FpVar) (c : Boolean) → OldFp n a → OldFp n b → OldBit n c → Owes p n (equal_script p a b c) unit Any (equal_due p (same_number a b) (number_shadow a) (number_shadow b) (shadow c))
  equal_owes (Constant a) (Constant b) c ha hb hc = on_owes p two n (same_constants p a b) c hc
  equal_owes (Constant a) (Var b) c ha hb hc = equal_beside_owes c a b.variable hb hc
  equal_owes (Var a) (Constant b) c ha hb hc = equal_beside_owes c b a.variable ha hc
  equal_owes (Var a) (Var b) c ha hb hc = owes_row (less p a.variable b.variable) (just (condition c)) [] (cond (eqb (code a.variable) (code b.variable)) 0 2 + condition_terms (shadow c)) tt unit Any tt
      ((λ i. between_size p two a.variable b.variable (older_real n a.variable ha) (older_real n b.variable hb) i + condition_size c hc i + 0) ∙ omega arith) refl tt

  -- ---- difference under a condition
  -- the multiplier, and the row of the variables x and y
  multiplier_owes : (x y : Variable) (c : Boolean) (vs : List Variable) (f : List (Option ℕ) → Option ℕ) (told : Bool) → Older n x → Older n y → OldBit n c → present (f (map (λ v. Some (n.kept v)) vs)) ≡ told
      → Owes p n (allocate witness vs f (apart_row p (condition c) x y)) unit Any (owes (takes_variable witness told ∷ (takes_row (cond (eqb (code x) (code y)) 0 2 + 1 + condition_terms (shadow c)) ∷ [])) tt)
  multiplier_owes x y c vs f told hx hy hc e = record {
    charged = λ i. takes_variable witness (e i) ∷ (takes_row (between_size p two x y (older_real n x hx) (older_real n y hy) i + alone_size (Witness n.witness_at) refl i + condition_size c hc i) ∷ []);
    ended = (record { inputs = omega arith; witnesses = omega arith; places = omega arith }, refl, tt);
  }

-- ---- one after another
module _ (p : ℕ) (two : 2 < p) (n : Next) where
  multiple_is_owes : (a : ℕ) (v : Variable) (c : FpVar) → Older n v → OldFp n c → Owes p n (mul_equals_script p (Constant a) (named v) c) unit Any (multiple_is_due p (same_number (named v) c) a (number_shadow c))
  multiple_is_owes a v c hv hc = owes_then (λ s. variable_is_due p s (number_shadow c)) (scaled_owes p two n a v (λ m. same_number (named m) c) Older (same_number (named v) c) false hv refl hv (fresh c hc) (λ k. omega arith))
      (λ l m up hm. variable_is_owes p two l m c hm (old_fp_later n l up c hc))
    where
      fresh : (c : FpVar) → OldFp n c → (k : ℕ) → same_number (named (Combination (n.place + k))) c ≡ false
      fresh (Constant c) h k = refl
      fresh (Var c) h k = ne_eqb (code (Combination (n.place + k))) (code c.variable) (λ e. combination_apart n c.variable k h (sym e))

  pub mul_equals_owes : (a b c : FpVar) → OldFp n a → OldFp n b → OldFp n c → Owes p n (mul_equals_script p a b c) unit Any (mul_equals_due p (same_number a c) (same_number b c) (number_shadow a) (number_shadow b) (number_shadow c))
  mul_equals_owes (Constant a) (Constant b) c ha hb hc = constant_is_owes p two n (product p a b) c hc
  mul_equals_owes (Constant a) (Var b) c ha hb hc = multiple_is_owes a b.variable c hb hc
  mul_equals_owes (Var a) (Constant b) c ha hb hc = multiple_is_owes b a.variable c ha hc
  mul_equals_owes (Var a) (Var b) c ha hb hc = product_row_owes p two n a.variable b.variable c ha hb hc

  -- a constant as a combination, the multiplier, whose value goes by the numbers kept for the variable and the condition, and the row
  apart_from_owes : (a : ℕ) (v : Variable) (c : Boolean) → Older n v → OldBit n c
      → Owes p n (apart_from p a v (condition c)) unit Any (owes ((takes_combination (multiple_terms p a) ∷ []) ++ (takes_variable witness (present (apart p (a % p) (n.kept v) (n.kept (condition c)))) ∷ (takes_row (3 + condition_terms (shadow c)) ∷ []))) tt)
  apart_from_owes a v c hv hc =
      let size : ℕ = (sum_of p (times a One ∷ [])).size in
      let x : Variable = Combination (n.place + size) in
      record {
        charged = λ i. takes_combination (constant_size p two a i) ∷ (takes_variable witness (present (apart p (a % p) (n.kept v) (n.kept (condition c)))) ∷ (takes_row (row_size x refl (combination_apart n v size hv) i) ∷ []));
        ended = (record { inputs = omega arith; witnesses = omega arith; places = omega arith }, refl, tt);
      }
    where
      row_size : (x : Variable) → real x ≡ true → (code v ≢ code x) → (sum_of p (less p x v)).size + (sum_of p (just (Witness n.witness_at))).size + (sum_of p (just (condition c))).size ≡ 3 + condition_terms (shadow c)
      row_size x r ne = (λ i. apart_size p two x v r (older_real n v hv) (λ e. ne (sym e)) i + alone_size p two n (Witness n.witness_at) refl i + condition_size p two n c hc i)

  pub unequal_owes : (a b : FpVar) (c : Boolean) → OldFp n a → OldFp n b → OldBit n c
      → Owes p n (unequal_script p a b c) unit Any (unequal_due p (same_number a b) (has_multiplier p n.kept a b c) (number_shadow a) (number_shadow b) (shadow c))
  unequal_owes (Constant a) (Constant b) c ha hb hc = on_owes p two n (not (same_constants p a b)) c hc
  unequal_owes (Constant a) (Var b) c ha hb hc = apart_from_owes a b.variable c hb hc
  unequal_owes (Var a) (Constant b) c ha hb hc = apart_from_owes b a.variable c ha hc
  unequal_owes (Var a) (Var b) c ha hb hc = multiplier_owes p two n a.variable b.variable c (a.variable ∷ b.variable ∷ condition c ∷ []) (of_three (apart_values p)) (has_multiplier p n.kept (Var a) (Var b) c) ha hb hc refl

-- ---- whether the multiplier of two numbers has a value: the condition is 0, or they differ
has_apart : (p x y c : ℕ) → present (apart p x y c) ≡ apart_or_free (x, y, c)
has_apart p x y c = go (eqb c 0) (eqb x y)
  where
    go : (s t : Bool) → present (cond s (Some 0) (cond t None (Some (inverse p (gap p x y))))) ≡ cond s true (not t)
    go true t = refl
    go false true = refl
    go false false = refl

pub has_multiplier_is : (p : ℕ) (q : Val) → Low p q → (a b : FpVar) (c : Boolean) → BothBelow p (pair_fp q (a, b)) → has_multiplier p q a b c ≡ apart_or_free (guarded_fp q (a, b, c))
has_multiplier_is p q low (Constant a) (Constant b) c h = has_apart p (a % p) (b % p) (q (condition c)) ∙ (λ i. apart_or_free (mod-eq_of_lt h.0 i, mod-eq_of_lt h.1 i, condition_number p q low c i))
has_multiplier_is p q low (Constant a) (Var b) c h = has_apart p (a % p) (q b.variable) (q (condition c)) ∙ (λ i. apart_or_free (mod-eq_of_lt h.0 i, q b.variable, condition_number p q low c i))
has_multiplier_is p q low (Var a) (Constant b) c h =
    has_apart p (b % p) (q a.variable) (q (condition c)) ∙ (λ i. apart_or_free (mod-eq_of_lt h.1 i, q a.variable, condition_number p q low c i)) ∙ ap (λ (t : Bool). cond (eqb (bit_number_of q c) 0) true (not t)) (same_either b (q a.variable))
has_multiplier_is p q low (Var a) (Var b) c h = has_apart p (q a.variable) (q b.variable) (q (condition c)) ∙ (λ i. apart_or_free (q a.variable, q b.variable, condition_number p q low c i))
