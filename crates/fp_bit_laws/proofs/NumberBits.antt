-- The laws of the bits of a number, which may be a constant.
use Rattle.std.proofs.Common.{◌≡◌, ℕ, ◌-◌, ◌%◌, ◌^◌, ◌<◌, ◌≤◌, Bool, true, false, List, refl, sym, ap, ◌∙◌, subst, arith, mod-eq_of_lt, true≢false}
use Rattle.field.specs.Laws.{OddPrime}
use Rattle.field.specs.Modulus.{bit_length as prime_bits}
use Rattle.relations.specs.Script.{answer}
use Rattle.boolean.specs.declared.bits.Boolean.{Boolean}
use Rattle.fp_var.specs.declared.numbers.FpVar.{FpVar}
use Rattle.fp_var.specs.declared.numbers.FpVar.TheVariants.{Constant, Var}
use Rattle.gates.specs.Walk.{walk_script}
use Rattle.fp_bits.specs.Digits.{constant_bits}
use Rattle.fp_bits.specs.Bits.{split_script, to_non_unique_bits_script, to_bits_script}
use Rattle.laws.specs.Law.{Val, Law, lists}
use Rattle.laws.proofs.Frame.{nothing, must_mono, goes_own, goes_mono, LawAt, Function}
use Rattle.bit_laws.specs.Bits.{bit_number_of, AllBits, spelled}
use Rattle.bit_laws.proofs.Bound.{walk_fixes}
use Rattle.bit_laws.proofs.Fixes.{Fixes, Always, fixes_then, fixes_on, fixes_answer, fixes_function}
use Rattle.number_laws.specs.Numbers.{fp_number_of, Below}
use Rattle.number_laws.proofs.Shapes.{fixes_reads}
use Rattle.fp_bit_laws.specs.Spelled.{lowest, SplitsTo, Spells, SplitsKnown, is_constant}
use Rattle.fp_bit_laws.proofs.Spelling.{lowest_many, lowest_spells, lowest_is, constant_digits}
use Rattle.fp_bit_laws.proofs.Joining.{fixes_after, law_told}
use Rattle.fp_bit_laws.proofs.Splitting.{long_enough, split_at}

pub odd_above : (p : ℕ) → 1 < p → p % 2 ≡ 1 → 2 < p
odd_above p h o = omega arith

module _ (p : ℕ) (P : OddPrime p) where
  two : 2 < p
  two = odd_above p P.prime.0 P.odd

  small : p - 1 < 2 ^ 64
  small = omega (arith, P.small)

  -- the digits of a number below p spell it
  pub spells_own : (x : ℕ) → x < p → Spells (prime_bits p) x (lowest (prime_bits p) x)
  spells_own x l = (lowest_many (prime_bits p) x, lowest_spells (prime_bits p) x (omega (arith, long_enough p P, l)))

  -- those of a constant
  constant_fixes : (c : ℕ) → Fixes p (λ ρ. c) (lists bit_number_of) (answer (constant_bits (prime_bits p) (c % p))) (Below p) Always (lowest (prime_bits p))
  constant_fixes c = fixes_answer (constant_bits (prime_bits p) (c % p)) (Below p) Always (lowest (prime_bits p)) (λ ρ low l. (tt, constant_digits ρ (prime_bits p) (c % p) ∙ ap (lowest (prime_bits p)) (mod-eq_of_lt l)))

  splits_known : (b : Bool) (x : ℕ) → x < p → SplitsKnown p (prime_bits p) b x (lowest (prime_bits p) x)
  splits_known b x l = let s = spells_own x l in ((s.0, ap (λ (t : ℕ). t % p) s.1 ∙ mod-eq_of_lt l), λ q. s.1)

  pub to_non_unique_bits_at : (a : FpVar) → LawAt p (λ ρ. fp_number_of ρ a) (lists bit_number_of) (to_non_unique_bits_script p a) (Below p) (SplitsKnown p (prime_bits p) (is_constant a)) Always (lowest (prime_bits p))
  to_non_unique_bits_at (Constant c) = record {
    sound = λ ρ low l. subst (SplitsKnown p (prime_bits p) true c) (sym ((constant_fixes c).sound ρ low l).1) (splits_known true c l);
    complete = λ x ys l s. let e = lowest_is (prime_bits p) x ys s.0.0 (s.1 refl) in
        goes_own p (answer (constant_bits (prime_bits p) (c % p))) (λ ρ. c ≡ x) (λ ρ bs. lists bit_number_of ρ bs ≡ ys)
        (goes_mono true p (answer (constant_bits (prime_bits p) (c % p))) (λ ρ. c ≡ x) (λ ρ. c ≡ x) (λ ρ bs. lists bit_number_of ρ bs ≡ lowest (prime_bits p) x) (λ ρ bs. lists bit_number_of ρ bs ≡ ys) (λ ρ q. q) (λ ρ o q z. z ∙ sym e) ((constant_fixes c).own x l tt));
    own = λ x l s. (constant_fixes c).own x l tt;
  }
  to_non_unique_bits_at (Var a) = record {
    sound = λ ρ low l. must_mono p ρ (split_script p a.variable) (λ bs. SplitsTo p (prime_bits p) (ρ a.variable) (lists bit_number_of ρ bs)) (λ bs. SplitsKnown p (prime_bits p) false (ρ a.variable) (lists bit_number_of ρ bs))
        (λ bs s. (s, λ q. absurd (true≢false (sym q)))) ((split_at p P a.variable).sound ρ low l);
    complete = λ x ys l s. (split_at p P a.variable).complete x ys l s.0;
    own = λ x l s. (split_at p P a.variable).own x l s;
  }

  -- of a constant its digits, and of a variable as many bits as the prime has, which spell it modulo p
  pub to_non_unique_bits_law : Law p {X = Bool × ℕ} (λ ρ a. (is_constant a, fp_number_of ρ a)) (lists bit_number_of) (to_non_unique_bits_script p) (λ x. Below p x.1) (λ x ys. SplitsKnown p (prime_bits p) x.0 x.1 ys) (λ x. Unit {0}) (λ x. lowest (prime_bits p) x.1)
  to_non_unique_bits_law = law_told is_constant (λ b x l s. splits_known b x l) (λ b x ys l s. tt) to_non_unique_bits_at

  -- ---- a bound on what they spell determines them
  -- the walk over bits beside other numbers
  pub bounded_fixes : {X : Type 0} (at : Val → X) (e : ℕ) → e < 2 ^ 64 → (bs : List Boolean) → Fixes p {X = X × List ℕ} (λ ρ. (at ρ, lists bit_number_of ρ bs)) nothing (walk_script p bs e) (λ q. AllBits q.1) (λ q. spelled q.1 ≤ e) (λ q. tt)
  bounded_fixes {X} at e lt bs = fixes_on (λ ρ. (at ρ, lists bit_number_of ρ bs)) (λ q. q.1) (λ ρ low. refl) (walk_fixes p P.prime two bs e lt)

  -- bits at most p - 1 that spell a number modulo p spell it
  pub within : (s x : ℕ) → s ≤ p - 1 → s % p ≡ x → s ≡ x
  within s x le e = sym (mod-eq_of_lt (omega (arith, P.prime.0, le))) ∙ e

  pub to_bits_fixes : (a : FpVar) → Fixes p (λ ρ. fp_number_of ρ a) (lists bit_number_of) (to_bits_script p a) (Below p) Always (lowest (prime_bits p))
  to_bits_fixes (Constant c) = constant_fixes c
  to_bits_fixes (Var a) =
      fixes_after {R = SplitsTo p (prime_bits p)} {e = lowest (prime_bits p)} {P₂ = λ q. AllBits q.1} {R₂ = λ q. (spelled q.1 ≤ p - 1) × Unit {0}} {e₂ = λ q. q.1} (split_script p a.variable) Always (lowest (prime_bits p))
      (split_at p P a.variable).sound (λ x l. (split_at p P a.variable).own x l tt)
      (λ bs. fixes_then (bounded_fixes (λ ρ. ρ a.variable) (p - 1) small bs) (λ u. fixes_answer bs Always Always (λ z. z.0.1) (λ ρ low h. (tt, refl))) (λ x h r. tt))
      (λ x ys l s. s.0.0) (λ x ys l s r. (tt, lowest_is (prime_bits p) x ys s.0 (within (spelled ys) x r.0 s.1)))
      (λ x l t. let s = splits_known false x l in (s.0, (omega (arith, (spells_own x l).1), tt)))

  pub to_bits_function : Function p fp_number_of (lists bit_number_of) (to_bits_script p) (Below p) (lowest (prime_bits p))
  to_bits_function = fixes_function to_bits_fixes

  -- as many bits as the prime has, which spell the number
  pub to_bits_law : Law p fp_number_of (lists bit_number_of) (to_bits_script p) (Below p) (Spells (prime_bits p)) Always (lowest (prime_bits p))
  to_bits_law = fixes_reads (Spells (prime_bits p)) (λ x ys l s. (tt, lowest_is (prime_bits p) x ys s.0 s.1)) (λ x l t. spells_own x l) to_bits_fixes
