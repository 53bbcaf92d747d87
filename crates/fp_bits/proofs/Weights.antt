-- Bits times their weights, from one turn of a loop over them to the next.
use Rattle.std.proofs.Common.{◌≡◌, ℕ, ◌+◌, ◌*◌, ◌%◌, ◌<◌, ◌≤◌, arith, Bool, true, false, cond, List, [], ◌∷◌, ◌++◌, length, get_or, drop, Ok, Err, sym, ap, ◌∙◌, mod-eq_of_lt, mod-lt}
use Rattle.std.proofs.lemmas.List.{drop_all}
use Rattle.arith.proofs.Ring.{done}
use Rattle.arith.proofs.Solve.{reads, none, by_mod, by_rem}
use Rattle.relations.specs.declared.term.Variable.{Variable}
use Rattle.relations.specs.declared.term.Term.{Term}
use Rattle.relations.specs.declared.fault.GadgetFault.{GadgetFault}
use Rattle.relations.specs.Meaning.{Meaning}
use Rattle.relations.specs.Script.{Script, answer, run, then}
use Rattle.relations.specs.Terms.{just}
use Rattle.allocated.specs.declared.allocated.AllocatedBool.{AllocatedBool}
use Rattle.allocated.specs.Gates.{bit}
use Rattle.boolean.specs.declared.bits.Boolean.{Boolean}
use Rattle.boolean.specs.declared.bits.Boolean.TheVariants.{Constant, Var}
use Rattle.fp_var.specs.declared.numbers.FpVar.TheVariants.{Constant as Number}
use Rattle.fp_var.specs.Numbers.{copied, scaled}
use Rattle.gates.specs.Kary.{all_constant, told, told_all}
use Rattle.gates.proofs.Folds.{next_of}
use Rattle.fp_bits.specs.Digits.{number_of_digits, heavier, constants_weight, first_weight}
use Rattle.fp_bits.specs.Bits.{weighed, gathered, below_prime, le_bits_script}
use Rattle.fp_bits.proofs.Steps.{after_two, after_two_refused}

-- ---- constants
weight_below : (p w : ℕ) (bs : List Boolean) → 0 < p → constants_weight p w bs < p
weight_below p w [] pos = pos
weight_below p w (Constant b ∷ bs) pos = mod-lt (bit b * w + constants_weight p (heavier p w) bs) pos
weight_below p w (Var a ∷ bs) pos = weight_below p (heavier p w) bs pos

-- nothing is counted yet, and the first bit weighs 1
pub weight_begins : (p z w : ℕ) (bs : List Boolean) → 1 < p → 0 < p → z ≡ 0 → w ≡ 1 → (z + constants_weight p w bs) % p ≡ constants_weight p (first_weight p) bs
weight_begins p z w bs one pos ez ew =
    let first : w ≡ first_weight p = ew ∙ sym (mod-eq_of_lt one) in
    (λ i. (ez i + constants_weight p (first i) bs) % p)
    ∙ by_rem p pos (constants_weight p (first_weight p) bs ∷ []) none (weight_below p (first_weight p) bs pos) (search reads depth 9) done

counts : (p s w : ℕ) (b : Boolean) (bs : List Boolean) → 0 < p → (s + constants_weight p w (b ∷ bs)) % p ≡ ((s + cond (told b) w 0) % p + constants_weight p (heavier p w) bs) % p
counts p s w (Constant true) bs pos = by_mod p pos (s ∷ w ∷ constants_weight p (heavier p w) bs ∷ []) none (search reads depth 9) done
counts p s w (Constant false) bs pos = by_mod p pos (s ∷ w ∷ constants_weight p (heavier p w) bs ∷ []) none (search reads depth 9) done
counts p s w (Var a) bs pos = by_mod p pos (s ∷ constants_weight p (heavier p w) bs ∷ []) none (search reads depth 9) done

-- the next bit is counted
pub weight_counts : (p s w t v x : ℕ) (d : Boolean) (bs : List Boolean) (i : ℕ) → 0 < p → i < length bs → x ≡ cond (told (get_or bs i d)) w 0 → t ≡ (s + x) % p → v ≡ (2 * w) % p
    → (t + constants_weight p v (drop (i + 1) bs)) % p ≡ (s + constants_weight p w (drop i bs)) % p
weight_counts p s w t v x d bs i pos h ex et ev =
    (λ j. ((et ∙ ap (λ y. (s + y) % p) ex) j + constants_weight p (ev j) (drop (i + 1) bs)) % p)
    ∙ sym (ap (λ l. (s + constants_weight p w l) % p) (next_of bs i d h) ∙ counts p s w (get_or bs i d) (drop (i + 1) bs) pos)

folds : (p w : ℕ) (bs : List Boolean) → 0 < p → all_constant bs ≡ true → constants_weight p w bs ≡ (w * number_of_digits (told_all bs)) % p
folds p w [] pos e = sym (by_rem p pos (w ∷ []) none pos (search reads depth 9) done)
folds p w (Constant b ∷ bs) pos e =
    ap (λ c. (bit b * w + c) % p) (folds p (heavier p w) bs pos e)
    ∙ by_mod p pos (bit b ∷ w ∷ number_of_digits (told_all bs) ∷ []) none (search reads depth 9) done
folds p w (Var a ∷ bs) pos e = cc

-- where all bits are constants, they come to the number that they spell
pub weight_of_constants : (p : ℕ) (bs : List Boolean) → 0 < p → all_constant bs ≡ true → constants_weight p (first_weight p) bs ≡ number_of_digits (told_all bs) % p
weight_of_constants p bs pos e = folds p (first_weight p) bs pos e ∙ by_mod p pos (number_of_digits (told_all bs) ∷ []) none (search reads depth 9) done

-- ---- variables
pub first_is : (p w : ℕ) → 1 < p → w ≡ 1 → w ≡ first_weight p
first_is p w one e = e ∙ sym (mod-eq_of_lt one)

module _ {A : Type 0} (p w v : ℕ) (k : List Term → Script A) (ts : List Term) (d : Boolean) (bs : List Boolean) (i : ℕ) (m : Meaning) (h : i < length bs) (heavy : v ≡ (2 * w) % p) where
  -- a constant is passed by
  pub weighed_passes : (b : Bool) → get_or bs i d ≡ Constant b → run p (then (weighed p w (drop i bs) ts) k) m ≡ run p (then (weighed p v (drop (i + 1) bs) ts) k) m
  weighed_passes b e =
      ap (λ l. run p (then (weighed p w l ts) k) m) (next_of bs i d h ∙ ap (λ x. x ∷ drop (i + 1) bs) e)
      ∙ (λ j. run p (then (weighed p (sym heavy j) (drop (i + 1) bs) ts) k) m)

  -- a variable is weighed
  pub weighed_takes : (a : AllocatedBool) (y : Variable) (us : List Term) (n : Meaning) → get_or bs i d ≡ Var a → run p (then (copied a.variable) (λ x. scaled p w x)) m ≡ (Ok y, n) → us ≡ ts ++ just y
      → run p (then (weighed p w (drop i bs) ts) k) m ≡ run p (then (weighed p v (drop (i + 1) bs) us) k) n
  weighed_takes a y us n e ran is =
      ap (λ l. run p (then (weighed p w l ts) k) m) (next_of bs i d h ∙ ap (λ x. x ∷ drop (i + 1) bs) e)
      ∙ after_two p (copied a.variable) (λ x. scaled p w x) (λ y. weighed p (heavier p w) (drop (i + 1) bs) (ts ++ just y)) k m n y ran
      ∙ (λ j. run p (then (weighed p (sym heavy j) (drop (i + 1) bs) (sym is j)) k) n)

  pub weighed_stops : (a : AllocatedBool) (f : GadgetFault) (n : Meaning) → get_or bs i d ≡ Var a → run p (then (copied a.variable) (λ x. scaled p w x)) m ≡ (Err f, n)
      → run p (then (weighed p w (drop i bs) ts) k) m ≡ (Err f, n)
  weighed_stops a f n e ran =
      ap (λ l. run p (then (weighed p w l ts) k) m) (next_of bs i d h ∙ ap (λ x. x ∷ drop (i + 1) bs) e)
      ∙ after_two_refused p (copied a.variable) (λ x. scaled p w x) (λ y. weighed p (heavier p w) (drop (i + 1) bs) (ts ++ just y)) k m n f ran

-- ---- the whole
-- no bit is left
pub weight_ends : (p s w : ℕ) (bs : List Boolean) (i : ℕ) → s < p → length bs ≤ i → (s + constants_weight p w (drop i bs)) % p ≡ s
weight_ends p s w bs i l h =
    let same : s + 0 ≡ s = omega arith in
    ap (λ r. (s + constants_weight p w r) % p) (drop_all i bs h) ∙ ap (λ n. n % p) same ∙ mod-eq_of_lt l

pub spelled_folds : (p : ℕ) (bs : List Boolean) → 0 < p → all_constant bs ≡ true → le_bits_script p bs ≡ answer (Number (constants_weight p (first_weight p) bs))
spelled_folds p bs pos e =
    ap (λ b. cond b (answer (Number (number_of_digits (told_all bs) % p))) (then (gathered p bs) (λ s. then (below_prime p bs) (λ u. answer s)))) e
    ∙ ap (λ n. answer (Number n)) (sym (weight_of_constants p bs pos e))

pub spelled_runs : (p : ℕ) (bs : List Boolean) → all_constant bs ≡ false → le_bits_script p bs ≡ then (gathered p bs) (λ s. then (below_prime p bs) (λ u. answer s))
spelled_runs p bs e = ap (λ b. cond b (answer (Number (number_of_digits (told_all bs) % p))) (then (gathered p bs) (λ s. then (below_prime p bs) (λ u. answer s)))) e
