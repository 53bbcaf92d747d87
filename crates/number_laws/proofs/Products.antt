-- Products and inverses of numbers, and new numbers.
use Rattle.std.proofs.Common.{◌≡◌, ℕ, ◌+◌, ◌-◌, ◌*◌, ◌%◌, ◌<◌, true, false, eqb, [], ◌∷◌, Some, None, Option, sym, refl, ap, ◌∙◌, arith, false-eqb, mod-eq_of_lt, mod-lt}
use Rattle.arith.specs.Number.{Prime}
use Rattle.arith.proofs.Euclid.{pos_of}
use Rattle.arith.proofs.Residue.{unit_not_zero}
use Rattle.arith.proofs.Ring.{done}
use Rattle.arith.proofs.Solve.{reads, none, times, puts, by_mod, by_rem}
use Rattle.relations.specs.declared.term.Variable.{Variable}
use Rattle.relations.specs.declared.term.Variable.TheVariants.{One}
use Rattle.relations.specs.declared.fault.GadgetFault.TheVariants.{NoValue}
use Rattle.relations.specs.Meaning.{number}
use Rattle.boolean.specs.declared.mode.AllocationMode.{AllocationMode}
use Rattle.boolean.specs.declared.mode.AllocationMode.TheVariants.{Constant as as_constant, Input as as_input, Witness as as_witness}
use Rattle.fp.specs.Equality.{inverse}
use Rattle.fp.proofs.Inverse.{inverse_is as only_inverse}
use Rattle.fp_var.specs.declared.numbers.FpVar.{FpVar}
use Rattle.fp_var.specs.declared.numbers.FpVar.TheVariants.{Constant, Var}
use Rattle.fp_var.specs.Numbers.{named, reduced, alloc_script, product, mul_constant, mul_script, inverse_script}
use Rattle.laws.specs.Law.{Val, Low, Must, Goes, Law}
use Rattle.laws.proofs.Frame.{Function}
use Rattle.bit_laws.proofs.Fixes.{Fixes, Always, fixes_next, fixes_is, fixes_if, fixes_answer, fixes_refuse, fixes_function}
use Rattle.bit_laws.proofs.Differences.{seek_below, inverse_is}
use Rattle.number_laws.specs.Numbers.{fp_number_of, pair_fp, Below, BothBelow, multiplied, Inverts, Invertible, Assigned, NewFp}
use Rattle.number_laws.proofs.Shapes.{number_given, number_at, scaled_fixes, fixes_reads}

-- ---- the rows
-- the product of two variables
pub product_forced : (p x y w : ℕ) → w < p → ((1 * x + 0) * (1 * y + 0)) % p ≡ (1 * w + 0) % p → w ≡ multiplied p (x, y)
product_forced p x y w lw r = sym (mod-eq_of_lt lw) ∙ by_mod p (omega arith) (x ∷ y ∷ w ∷ []) (times (p - 1) r (search reads depth 9) none) (search reads depth 9) done

pub product_met : (p x y w : ℕ) → 0 < p → w ≡ multiplied p (x, y) → ((1 * x + 0) * (1 * y + 0)) % p ≡ (1 * w + 0) % p
product_met p x y w pos e = by_mod p pos (x ∷ y ∷ w ∷ []) (puts e (search reads depth 9) none) (search reads depth 9) done

-- the product of a variable and its inverse is One
inverse_forced : (p x w o : ℕ) → 1 < p → o ≡ 1 → ((1 * x + 0) * (1 * w + 0)) % p ≡ (1 * o + 0) % p → (x * w) % p ≡ 1
inverse_forced p x w o above one r = by_rem p (omega arith) (x ∷ w ∷ o ∷ []) (puts one (search reads) (times 1 r (search reads depth 9) none)) above (search reads depth 9) done

inverse_met : (p x w o : ℕ) → 1 < p → o ≡ 1 → (x * w) % p ≡ 1 → ((1 * x + 0) * (1 * w + 0)) % p ≡ (1 * o + 0) % p
inverse_met p x w o above one h = by_mod p (omega arith) (x ∷ w ∷ o ∷ []) (puts one (search reads) (times 1 h (search reads depth 9) none)) (search reads depth 9) done

-- ---- products
-- a multiple of a variable, as a number
multiple_fixes : {p : ℕ} {X : Type 0} {at : Val → X} (c : ℕ) (v : Variable) (P : X → Type 0) (e : X → ℕ) → ((ρ : Val) → Low p ρ → P (at ρ) → (c * ρ v) % p ≡ e (at ρ)) → Fixes p at fp_number_of (mul_constant p c v) P Always e
multiple_fixes {p} c v P e is =
    fixes_is P e (λ x h. h) (λ x h. (tt, tt)) (λ x h. refl)
    (fixes_next {e₂ = λ (y : ℕ). y} (scaled_fixes c v P e is) (λ m. fixes_answer {at = λ ρ. number_at ρ m} (named m) (λ y. Unit {0}) Always (λ y. y) (λ ρ low h. (tt, refl))) (λ x h r. tt))

module _ (p : ℕ) (P : Prime p) where
  pos : 0 < p
  pos = omega (arith, P.0)

  pub mul_fixes : (a b : FpVar) → Fixes p (λ ρ. pair_fp ρ (a, b)) fp_number_of (mul_script p a b) (BothBelow p) Always (multiplied p)
  mul_fixes (Constant a) (Constant b) = fixes_answer (Constant (product p a b)) (BothBelow p) Always (multiplied p) (λ ρ low h. (tt, refl))
  mul_fixes (Constant a) (Var b) = multiple_fixes a b.variable (BothBelow p) (multiplied p) (λ ρ low h. refl)
  mul_fixes (Var a) (Constant b) = multiple_fixes b a.variable (BothBelow p) (multiplied p) (λ ρ low h. ap (λ (t : ℕ). t % p) (omega arith))
  mul_fixes (Var a) (Var b) = record {
    sound = λ ρ low h w r. (tt, product_forced p (ρ a.variable) (ρ b.variable) (ρ w) (low.low w) r);
    own = λ x h t. (
      (multiplied p x, λ w. tt),
      λ ρ low q. ((mod-lt (x.0 * x.1) pos, ap (multiplied p) q), λ w e. (product_met p (ρ a.variable) (ρ b.variable) (ρ w) pos (e ∙ ap (multiplied p) (sym q)), e)),
    );
  }

  pub mul_function : Function p pair_fp fp_number_of (λ i. mul_script p i.0 i.1) (BothBelow p) (multiplied p)
  mul_function = fixes_function (λ i. mul_fixes i.0 i.1)

  -- ---- inverses
  -- what is found is below p, and is the inverse of what is not 0
  pub inverse_below : (x : ℕ) → inverse p x < p
  inverse_below x = seek_below p x p pos (omega arith)

  inverse_times : (x : ℕ) → Below p x → Invertible x → (x * inverse p x) % p ≡ 1
  inverse_times x l ne = inverse_is p x P (pos_of x ne) l

  -- what has an inverse is not 0, and has only that one
  has_inverse : (x y : ℕ) → Inverts p x y → Invertible x × (y ≡ inverse p x)
  has_inverse x y h = ((λ e. unit_not_zero p x y P.0 h.0 (ap (λ (t : ℕ). t % p) e ∙ mod-eq_of_lt pos)), sym (only_inverse p x y P h.1 h.0))

  pub inverse_fixes : (a : FpVar) → Fixes p (λ ρ. fp_number_of ρ a) fp_number_of (inverse_script p a) (Below p) Invertible (inverse p)
  inverse_fixes (Constant a) = fixes_if (eqb (a % p) 0) (λ e. fixes_refuse NoValue (Below p) Invertible (inverse p))
      (λ e. fixes_answer (Constant (inverse p (a % p))) (Below p) Invertible (inverse p)
      (λ ρ low h. let s : a % p ≡ a = mod-eq_of_lt h in ((λ z. false-eqb (a % p) 0 (sym e) (s ∙ z)), ap (inverse p) s)))
  inverse_fixes (Var a) = record {
    sound = λ ρ low h w r. has_inverse (ρ a.variable) (ρ w) (inverse_forced p (ρ a.variable) (ρ w) (ρ One) P.0 low.one r, low.low w);
    own = λ x h ne. (
      (inverse p x, λ w. tt),
      λ ρ low q. (
        (inverse_below x, ap (inverse p) q),
        λ w e. (inverse_met p (ρ a.variable) (ρ w) (ρ One) P.0 low.one ((λ i. (q i * e i) % p) ∙ inverse_times x h ne), e),
      ),
    );
  }

  pub inverse_law : Law p fp_number_of fp_number_of (inverse_script p) (Below p) (Inverts p) Invertible (inverse p)
  inverse_law = fixes_reads (Inverts p) (λ x y h w. has_inverse x y w) (λ x h ne. (inverse_times x h ne, inverse_below x)) inverse_fixes

  -- ---- new numbers
  -- the number that was given, modulo p, and 0 where none was
  abbrev pub given_number : Option ℕ → ℕ
  given_number o = number (reduced p o)

  given_below : (o : Option ℕ) → given_number o < p
  given_below None = pos
  given_below (Some x) = mod-lt x pos

  given_assigned : (mode : AllocationMode) (o : Option ℕ) → Assigned p mode o (given_number o)
  given_assigned as_constant None = tt
  given_assigned as_constant (Some x) = refl
  given_assigned as_input o = tt
  given_assigned as_witness o = tt

  pub alloc_law : {In X : Type 0} (at : Val → In → X) (mode : AllocationMode) (o : Option ℕ) → Law p at fp_number_of (λ i. alloc_script p mode o) (λ x. Unit {0}) (λ x. NewFp p mode o) (λ x. Unit {0}) (λ x. given_number o)
  alloc_law {In} {X} at mode o = record {
    sound = λ ρ low i h. forced ρ low mode o;
    complete = λ i x y h r. reached i x y mode o r;
    own = λ i x h. owned i x mode o;
    obeyed = λ x h s. (given_below o, given_assigned mode o);
    solvable = λ x y h r. tt;
  }
    where
      forced : (ρ : Val) → Low p ρ → (mode : AllocationMode) (o : Option ℕ) → Must p ρ (alloc_script p mode o) (λ a. NewFp p mode o (fp_number_of ρ a))
      forced ρ low as_constant None = tt
      forced ρ low as_constant (Some x) = (mod-lt x pos, refl)
      forced ρ low as_input o = λ v. (low.low v, tt)
      forced ρ low as_witness o = λ v. (low.low v, tt)

      reached : (i : In) (x : X) (y : ℕ) (mode : AllocationMode) (o : Option ℕ) → NewFp p mode o y → Goes false p (alloc_script p mode o) (λ ρ. at ρ i ≡ x) (λ ρ a. fp_number_of ρ a ≡ y)
      reached i x y as_constant None r = (tt, λ ρ low q. tt)
      reached i x y as_constant (Some z) r = (tt, λ ρ low q. sym r.1)
      reached i x y as_input o r = ((y, λ v. tt), λ ρ low q. (r.0, λ v e. e))
      reached i x y as_witness o r = ((y, λ v. tt), λ ρ low q. (r.0, λ v e. e))

      owned : (i : In) (x : X) (mode : AllocationMode) (o : Option ℕ) → Goes true p (alloc_script p mode o) (λ ρ. at ρ i ≡ x) (λ ρ a. fp_number_of ρ a ≡ given_number o)
      owned i x as_constant None = (tt, λ ρ low q. tt)
      owned i x as_constant (Some z) = (tt, λ ρ low q. refl)
      owned i x as_input o = ((given_number o, λ v. tt), λ ρ low q. ((given_below o, number_given (reduced p o)), λ v e. e))
      owned i x as_witness o = ((given_number o, λ v. tt), λ ρ low q. ((given_below o, number_given (reduced p o)), λ v e. e))
