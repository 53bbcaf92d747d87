-- The bits of a number: new ones that spell it or a number that is the same modulo p, and those that spell the number itself.
use Rattle.std.proofs.Common.{◌≡◌, ℕ, zero, suc, ◌+◌, ◌-◌, ◌*◌, ◌/◌, ◌%◌, ◌^◌, ◌<◌, ◌≤◌, Bool, true, false, List, [], ◌∷◌, ◌++◌, refl, sym, ap, ap₂, ◌∙◌, subst, arith, mod-eq_of_lt, mul-zero}
use Rattle.arith.specs.Number.{Prime}
use Rattle.arith.proofs.Ring.{done}
use Rattle.arith.proofs.Solve.{reads, none, times, by_mod, by_rem}
use Rattle.field.specs.Laws.{OddPrime}
use Rattle.field.specs.Modulus.{bit_length as prime_bits}
use Rattle.field.proofs.Lengths.{bit_length-high}
use Rattle.relations.specs.declared.term.Variable.{Variable}
use Rattle.relations.specs.declared.term.Variable.TheVariants.{One}
use Rattle.relations.specs.declared.term.Term.{Term}
use Rattle.relations.specs.declared.term.Side.TheVariants.{Witness as witness}
use Rattle.relations.specs.Script.{Script, answer, row, then}
use Rattle.relations.specs.Terms.{just, one_less, times as times_variable}
use Rattle.allocated.specs.Gates.{allocated}
use Rattle.boolean.specs.declared.bits.Boolean.{Boolean}
use Rattle.boolean.specs.declared.bits.Boolean.TheVariants.{Constant as constant_bit, Var as variable_bit}
use Rattle.fp_bits.specs.Digits.{heavier, first_weight}
use Rattle.fp_bits.specs.Bits.{digit_of, new_digits, weighted, split_script}
use Rattle.laws.specs.Law.{Val, Low, total, RowMet, Must, Fits, Goes, lists}
use Rattle.laws.proofs.Frame.{must_then, goes_then, goes_allocate, goes_row, LawAt}
use Rattle.bit_laws.specs.Bits.{bit_number_of, spelled}
use Rattle.bit_laws.proofs.Rows.{bit_forced, bit_met}
use Rattle.bit_laws.proofs.Fixes.{Always}
use Rattle.number_laws.specs.Numbers.{Below}
use Rattle.fp_bit_laws.specs.Spelled.{lowest, ManyBits, SplitsTo}
use Rattle.fp_bit_laws.proofs.Spelling.{lowest_many, lowest_spells, next_place}

-- ---- new bits
-- each is a variable
abbrev pub Varying : List Boolean → Type 0
Varying [] = Unit {0}
Varying (constant_bit b ∷ bs) = ⊥
Varying (variable_bit a ∷ bs) = Varying bs

-- what new bits are made of
abbrev pub put_first : Variable → List Boolean → Script (List Boolean)
put_first w bs = answer (variable_bit (allocated w) ∷ bs)

-- the rows force each to be a bit
pub digits_force : (p : ℕ) → Prime p → (ρ : Val) → Low p ρ → (a : Variable) (i k : ℕ) → Must p ρ (new_digits p a i k) (λ bs. Varying bs × ManyBits k (lists bit_number_of ρ bs))
digits_force p P ρ low a i zero = (tt, (tt, refl))
digits_force p P ρ low a i (suc k) = λ w r.
    must_then p ρ (new_digits p a (i + 1) k) (put_first w) (λ bs. Varying bs × ManyBits k (lists bit_number_of ρ bs)) (λ bs. Varying bs × ManyBits (suc k) (lists bit_number_of ρ bs))
    (digits_force p P ρ low a (i + 1) k) (λ bs h. (h.0, ((bit_forced p (ρ One) (ρ w) P low.one (low.low w) r, h.1.0), ap suc h.1.1)))

-- where the script's own values are asked for, a number is what it computes
abbrev pub Own : Bool → ℕ → ℕ → Type 0
Own true d y = d ≡ y
Own false d y = Unit {0}

-- the same of the digits of x from place i on
abbrev pub Owns : Bool → ℕ → ℕ → List ℕ → Type 0
Owns o x i [] = Unit {0}
Owns o x i (y ∷ ys) = Own o ((x / 2 ^ i) % 2) y × Owns o x (i + 1) ys

digit_fits : (o : Bool) (p : ℕ) (ρ : Val) (a : Variable) (x i y : ℕ) → 1 < p → ρ a ≡ x → y ≤ 1 → Own o ((x / 2 ^ i) % 2) y → Fits o p ρ (a ∷ []) (digit_of i) y
digit_fits true p ρ a x i y above e l h = (omega arith, ap (λ (t : ℕ). (t / 2 ^ i) % 2) e ∙ h)
digit_fits false p ρ a x i y above e l h = omega arith

-- any bits meet the rows
pub digits_go : (o : Bool) (p : ℕ) → 1 < p → (a : Variable) (x i k : ℕ) (ys : List ℕ) (E : Val → Type 0) → ((ρ : Val) → E ρ → ρ a ≡ x) → ManyBits k ys → Owns o x i ys
    → Goes o p (new_digits p a i k) E (λ ρ bs. Varying bs × (lists bit_number_of ρ bs ≡ ys))
digits_go o p above a x i zero [] E is h own = (tt, λ ρ low e. (tt, refl))
digits_go o p above a x i zero (y ∷ ys) E is h own = absurd (omega (arith, h.1))
digits_go o p above a x i (suc k) [] E is h own = absurd (omega (arith, h.1))
digits_go o p above a x i (suc k) (y ∷ ys) E is h own =
    let l = h.0.0 in
    goes_allocate o p witness (a ∷ []) (digit_of i) (λ w. row (one_less p w) (just w) [] (then (new_digits p a (i + 1) k) (put_first w))) E (λ ρ bs. Varying bs × (lists bit_number_of ρ bs ≡ y ∷ ys)) y
    (λ ρ low e. digit_fits o p ρ a x i y above (is ρ e) l own.0)
    (λ w. goes_row o p (one_less p w) (just w) [] (then (new_digits p a (i + 1) k) (put_first w)) (λ ρ. E ρ × (ρ w ≡ y)) (λ ρ bs. Varying bs × (lists bit_number_of ρ bs ≡ y ∷ ys))
    (λ ρ low e. bit_met p (ρ One) (ρ w) above low.one (omega (arith, e.1)))
    (goes_then o p (new_digits p a (i + 1) k) (put_first w) (λ ρ. E ρ × (ρ w ≡ y)) (λ ρ bs. Varying bs × (lists bit_number_of ρ bs ≡ ys)) (λ ρ bs. Varying bs × (lists bit_number_of ρ bs ≡ y ∷ ys))
    (digits_go o p above a x (i + 1) k ys (λ ρ. E ρ × (ρ w ≡ y)) (λ ρ e. is ρ e.0) (h.0.1, omega (arith, h.1)) own.1)
    (λ bs. (tt, λ ρ low q. (q.1.0, ap₂ (λ (z : ℕ) (zs : List ℕ). z ∷ zs) q.0.1 q.1.1)))))

-- the digits that the script computes
pub owns_digits : (x i k : ℕ) → Owns true x i (lowest k (x / 2 ^ i))
owns_digits x i zero = tt
owns_digits x i (suc k) = (refl, subst (λ (t : ℕ). Owns true x (i + 1) (lowest k t)) (sym (next_place x i)) (owns_digits x (i + 1) k))

-- where they are not asked for
pub owns_any : (x i : ℕ) (ys : List ℕ) → Owns false x i ys
owns_any x i [] = tt
owns_any x i (y ∷ ys) = (tt, owns_any x (i + 1) ys)

-- ---- the row
-- a bit more in the sum of the weighted bits
weigh_more : (p w x t s : ℕ) → 0 < p → t % p ≡ ((2 * w) % p * s) % p → (w * x + t) % p ≡ (w * (x + 2 * s)) % p
weigh_more p w x t s pos h = by_mod p pos (w ∷ x ∷ t ∷ s ∷ []) (times 1 h (search reads depth 9) none) (search reads depth 9) done

weigh : (p : ℕ) → 0 < p → (ρ : Val) (w : ℕ) (bs : List Boolean) → Varying bs → total ρ (weighted p w bs) % p ≡ (w * spelled (lists bit_number_of ρ bs)) % p
weigh p pos ρ w [] v = ap (λ (t : ℕ). t % p) (sym (mul-zero w))
weigh p pos ρ w (constant_bit b ∷ bs) v = absurd v
weigh p pos ρ w (variable_bit a ∷ bs) v = weigh_more p w (ρ a.variable) (total ρ (weighted p (heavier p w) bs)) (spelled (lists bit_number_of ρ bs)) pos (weigh p pos ρ (heavier p w) bs v)

total_end : (ρ : Val) (ts : List Term) (k : ℕ) (v : Variable) → total ρ (ts ++ (times_variable k v ∷ [])) ≡ total ρ ts + k * ρ v
total_end ρ [] k v = omega arith
total_end ρ (t ∷ ts) k v = ap (λ (x : ℕ). t.coefficient * ρ t.variable + x) (total_end ρ ts k v) ∙ omega arith

sum_says : (p t s a : ℕ) → 0 < p → a < p → t % p ≡ (1 % p * s) % p → (0 * 0) % p ≡ (t + (p - 1) * a) % p → s % p ≡ a
sum_says p t s a pos l h r = by_rem p pos (t ∷ s ∷ a ∷ []) (times (p - 1) h (search reads depth 9) (times (p - 1) r (search reads depth 9) none)) l (search reads depth 9) done

sum_holds : (p t s a : ℕ) → 0 < p → t % p ≡ (1 % p * s) % p → s % p ≡ a → (0 * 0) % p ≡ (t + (p - 1) * a) % p
sum_holds p t s a pos h e = by_mod p pos (t ∷ s ∷ a ∷ []) (times (p - 1) h (search reads depth 9) (times (p - 1) e (search reads depth 9) none)) (search reads depth 9) done

-- the row says that the bits spell the number modulo p
abbrev SplitRow : ℕ → Val → Variable → List Boolean → Type 0
SplitRow p ρ a bs = RowMet p ρ [] [] (weighted p (first_weight p) bs ++ (times_variable (p - 1) a ∷ []))

row_says : (p : ℕ) → 0 < p → (ρ : Val) → Low p ρ → (a : Variable) (bs : List Boolean) → Varying bs → SplitRow p ρ a bs → spelled (lists bit_number_of ρ bs) % p ≡ ρ a
row_says p pos ρ low a bs v r =
    sum_says p (total ρ (weighted p (first_weight p) bs)) (spelled (lists bit_number_of ρ bs)) (ρ a) pos (low.low a) (weigh p pos ρ (first_weight p) bs v)
    (r ∙ ap (λ (t : ℕ). t % p) (total_end ρ (weighted p (first_weight p) bs) (p - 1) a))

row_holds : (p : ℕ) → 0 < p → (ρ : Val) (a : Variable) (bs : List Boolean) → Varying bs → spelled (lists bit_number_of ρ bs) % p ≡ ρ a → SplitRow p ρ a bs
row_holds p pos ρ a bs v e =
    sum_holds p (total ρ (weighted p (first_weight p) bs)) (spelled (lists bit_number_of ρ bs)) (ρ a) pos (weigh p pos ρ (first_weight p) bs v) e
    ∙ ap (λ (t : ℕ). t % p) (sym (total_end ρ (weighted p (first_weight p) bs) (p - 1) a))

-- ---- the bits of a variable
abbrev row_after : ℕ → Variable → List Boolean → Script (List Boolean)
row_after p a bs = row [] [] (weighted p (first_weight p) bs ++ (times_variable (p - 1) a ∷ [])) (answer bs)

module _ (p : ℕ) (P : OddPrime p) where
  above : 1 < p
  above = P.prime.0

  pub long_enough : p < 2 ^ prime_bits p
  long_enough = bit_length-high p (omega (arith, P.prime.0)) P.small

  split_goes : (o : Bool) (a : Variable) (x : ℕ) (ys : List ℕ) → SplitsTo p (prime_bits p) x ys → Owns o x 0 ys → Goes o p (split_script p a) (λ ρ. ρ a ≡ x) (λ ρ bs. lists bit_number_of ρ bs ≡ ys)
  split_goes o a x ys h own =
      goes_then o p (new_digits p a 0 (prime_bits p)) (row_after p a) (λ ρ. ρ a ≡ x) (λ ρ bs. Varying bs × (lists bit_number_of ρ bs ≡ ys)) (λ ρ bs. lists bit_number_of ρ bs ≡ ys)
      (digits_go o p above a x 0 (prime_bits p) ys (λ ρ. ρ a ≡ x) (λ ρ e. e) h.0 own)
      (λ bs. goes_row o p [] [] (weighted p (first_weight p) bs ++ (times_variable (p - 1) a ∷ [])) (answer bs) (λ ρ. (ρ a ≡ x) × (Varying bs × (lists bit_number_of ρ bs ≡ ys))) (λ ρ bs. lists bit_number_of ρ bs ≡ ys)
      (λ ρ low e. row_holds p (omega (arith, above)) ρ a bs e.1.0 (ap (λ (zs : List ℕ). spelled zs % p) e.1.1 ∙ h.1 ∙ sym e.0))
      (tt, λ ρ low e. e.1.1))

  own_digits : (x : ℕ) → x < p → SplitsTo p (prime_bits p) x (lowest (prime_bits p) x)
  own_digits x l = (lowest_many (prime_bits p) x, ap (λ (t : ℕ). t % p) (lowest_spells (prime_bits p) x (omega (arith, long_enough))) ∙ mod-eq_of_lt l)

  pub split_at : (a : Variable) → LawAt p (λ ρ. ρ a) (lists bit_number_of) (split_script p a) (Below p) (SplitsTo p (prime_bits p)) Always (lowest (prime_bits p))
  split_at a = record {
    sound = λ ρ low l.
        must_then p ρ (new_digits p a 0 (prime_bits p)) (row_after p a) (λ bs. Varying bs × ManyBits (prime_bits p) (lists bit_number_of ρ bs)) (λ bs. SplitsTo p (prime_bits p) (ρ a) (lists bit_number_of ρ bs))
        (digits_force p P.prime ρ low a 0 (prime_bits p)) (λ bs h r. (h.1, row_says p (omega (arith, above)) ρ low a bs h.0 r));
    complete = λ x ys l s. split_goes false a x ys s (owns_any x 0 ys);
    own = λ x l s. split_goes true a x (lowest (prime_bits p) x) (own_digits x l) (subst (λ (t : ℕ). Owns true x 0 (lowest (prime_bits p) t)) (flat x) (owns_digits x 0 (prime_bits p)));
  }
    where
      flat : (x : ℕ) → x / 2 ^ 0 ≡ x
      flat x = omega arith
