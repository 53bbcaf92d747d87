-- The law of the lowest k bits of a number whose other bits are 0.
use Rattle.std.proofs.Common.{◌≡◌, ◌↔◌, ℕ, zero, suc, ◌+◌, ◌-◌, ◌*◌, ◌%◌, ◌/◌, ◌^◌, ◌<◌, ◌≤◌, true, ltb, List, refl, sym, ap, ap₂, ◌∙◌, subst, arith, mod-eq_of_lt, mod-lt, pow-suc}
use Rattle.std.proofs.Math.Nat.{pow-le-pow_right}
use borrow.Author.Tests.{true-ltb}
use Rattle.field.specs.Laws.{OddPrime}
use Rattle.field.specs.Modulus.{bit_length as prime_bits}
use Rattle.field.proofs.Lengths.{bit_length-low}
use Rattle.relations.specs.declared.fault.GadgetFault.TheVariants.{Unsatisfiable}
use Rattle.relations.specs.Script.{Script, answer, then}
use Rattle.fp.specs.Equality.{gap}
use Rattle.boolean.specs.declared.bits.Boolean.{Boolean}
use Rattle.fp_var.specs.declared.numbers.FpVar.{FpVar}
use Rattle.fp_var.specs.declared.numbers.FpVar.TheVariants.{Constant, Var}
use Rattle.fp_var.specs.Numbers.{sub_script}
use Rattle.fp_bits.specs.Digits.{constant_bits}
use Rattle.fp_bits.specs.Bits.{new_digits, le_bits_script, nothing_left, top_bits_zero_script}
use Rattle.laws.specs.Law.{Val, Law, lists}
use Rattle.laws.proofs.Frame.{nothing, must_mono, goes_mono}
use Rattle.bit_laws.specs.Bits.{bit_number_of, spelled}
use Rattle.bit_laws.proofs.Statements.{less_says}
use Rattle.bit_laws.proofs.Differences.{gap_is}
use Rattle.bit_laws.proofs.Fixes.{Fixes, Always, fixes_then, fixes_on, fixes_as, fixes_if, fixes_answer, fixes_refuse}
use Rattle.number_laws.specs.Numbers.{fp_number_of, Below, difference}
use Rattle.number_laws.proofs.Arithmetic.{sub_fixes}
use Rattle.number_laws.proofs.NumberStatements.{constant_is_fixes}
use Rattle.number_laws.proofs.Shapes.{fixes_reads}
use Rattle.fp_bit_laws.specs.Spelled.{lowest, ManyBits, Spells}
use Rattle.fp_bit_laws.proofs.Spelling.{lowest_many, lowest_spells, lowest_is, spelled_below, constant_digits}
use Rattle.fp_bit_laws.proofs.Joining.{fixes_after, fixes_where}
use Rattle.fp_bit_laws.proofs.Splitting.{digits_force, digits_go, owns_digits, Owns, Varying}
use Rattle.fp_bit_laws.proofs.Gathering.{le_bits_fixes}

-- a power of two is no odd number but 1
no_power : (p k : ℕ) → 1 < p → p % 2 ≡ 1 → 2 ^ k ≤ p → 2 ^ k < p
no_power p zero above odd le = above
no_power p (suc k) above odd le = let q = pow-suc 2 k in even (2 ^ k) (omega (arith, le, q)) q
  where
    even : (t : ℕ) → t * 2 ≤ p → 2 ^ suc k ≡ t * 2 → 2 ^ suc k < p
    even t h e = omega arith

-- fewer bits than the prime has spell a number below it
pub few_below : (p : ℕ) → OddPrime p → (k : ℕ) → k < prime_bits p → 2 ^ k < p
few_below p P k lt = no_power p k P.prime.0 P.odd (omega (arith, bit_length-low p (omega (arith, P.prime.0)) P.small, pow-le-pow_right {n = 2} (omega arith) {i = k} {j = prime_bits p - 1} (omega (arith, lt))))

-- a number less another is 0 where they are the same
apart_says : (p x y : ℕ) → 1 < p → x < p → y < p → (0 ≡ difference p (x, y)) ↔ (x ≡ y)
apart_says p x y above lx ly =
    let g : (1 * x + ((p - 1) * y + 0)) % p ≡ gap p x y = gap_is p x y (omega (arith, above)) ly in
    let s = less_says p x y above lx ly in
    (λ z. s.0 (g ∙ sym z), λ e. sym (sym g ∙ s.1 e))

-- bits and what is left, as numbers
abbrev pub split_number : Val → List Boolean × FpVar → List ℕ × ℕ
split_number ρ o = (lists bit_number_of ρ o.0, fp_number_of ρ o.1)

-- what the steps after the new bits say: the bits spell the number, and nothing is left
abbrev after_bits : ℕ → FpVar → List Boolean → Script (List Boolean × FpVar)
after_bits p a bs = then (le_bits_script p bs) (λ x. then (sub_script p a x) (λ r. then (nothing_left p r) (λ u. answer (bs, r))))

module _ (p : ℕ) (P : OddPrime p) where
  -- what is left is 0
  nothing_fixes : (r : FpVar) → Fixes p (λ ρ. fp_number_of ρ r) nothing (nothing_left p r) (Below p) (λ y. 0 ≡ y) (λ y. tt)
  nothing_fixes r = constant_is_fixes p P.prime (Below p) (λ y. 0 ≡ y) 0 r (omega (arith, P.prime.0)) (λ ρ h. (h, (λ e. e, λ e. e)))

  -- of a number below p and k bits
  abbrev Ready : ℕ → ℕ × List ℕ → Type 0
  Ready k q = Below p q.0 × ManyBits k q.1

  spelled_small : (k : ℕ) → k < prime_bits p → (xs : List ℕ) → ManyBits k xs → spelled xs < p
  spelled_small k lt xs h = omega (arith, few_below p P k lt, spelled_below xs h.0, ap (λ (j : ℕ). 2 ^ j) h.1)

  after_fixes : (k : ℕ) → k < prime_bits p → (a : FpVar) (bs : List Boolean) → Fixes p {X = ℕ × List ℕ} (λ ρ. (fp_number_of ρ a, lists bit_number_of ρ bs)) split_number (after_bits p a bs) (Ready k) (λ q. spelled q.1 ≡ q.0) (λ q. (q.1, 0))
  after_fixes k lt a bs =
      let above : 1 < p = P.prime.0 in
      let pos : 0 < p = omega (arith, above) in
      fixes_as (Ready k) (λ q. spelled q.1 ≡ q.0) (λ q. (q.1, 0)) (λ q h. h)
      (λ q h r. (left q h).0 r.1.1.0) (λ q h t. ((λ c m. spelled_small k lt q.1 h.1), (tt, ((left q h).1 t, tt)))) (λ q h r. ap (λ (y : ℕ). (q.1, y)) (sym r.1.1.0))
      (fixes_then {P₂ = λ z. Below p z.0.0 × Below p z.1} {R₂ = λ z. Unit {0} × ((0 ≡ difference p (z.0.0, z.1)) × Unit {0})} {e₂ = λ z. (z.0.1, difference p (z.0.0, z.1))}
      (fixes_where (Ready k) (λ q h. h.1.0) (fixes_on (λ ρ. (fp_number_of ρ a, lists bit_number_of ρ bs)) (λ q. q.1) (λ ρ low. refl) (le_bits_fixes p P bs)))
      (λ x. fixes_then {P₂ = λ z. Below p z.1} (fixes_on (λ ρ. ((fp_number_of ρ a, lists bit_number_of ρ bs), fp_number_of ρ x)) (λ z. (z.0.0, z.1)) (λ ρ low. refl) (sub_fixes p P.prime a x))
      (λ r. fixes_then (fixes_on (λ ρ. (((fp_number_of ρ a, lists bit_number_of ρ bs), fp_number_of ρ x), fp_number_of ρ r)) (λ z. z.1) (λ ρ low. refl) (nothing_fixes r))
      (λ u. fixes_answer (bs, r) Always Always (λ w. (w.0.0.0.1, w.0.1)) (λ ρ low h. (tt, refl))) (λ z h t. tt))
      (λ z h t. mod-lt (z.0.0 + (p - z.1)) pos)) (λ q h t. (h.0, mod-lt (spelled q.1) pos)))
    where
      left : (q : ℕ × List ℕ) → Ready k q → (0 ≡ difference p (q.0, spelled q.1 % p)) ↔ (spelled q.1 ≡ q.0)
      left q h =
          let l = spelled_small k lt q.1 h.1 in
          let s = apart_says p q.0 (spelled q.1 % p) P.prime.0 h.0 (mod-lt (spelled q.1) (omega (arith, P.prime.0))) in
          (λ z. sym (s.0 z ∙ mod-eq_of_lt l), λ e. s.1 (sym e ∙ sym (mod-eq_of_lt l)))

  pub top_bits_zero_fixes : (k : ℕ) → k < prime_bits p → (a : FpVar) → Fixes p (λ ρ. fp_number_of ρ a) split_number (top_bits_zero_script p k a) (Below p) (λ x. x < 2 ^ k) (λ x. (lowest k x, 0))
  top_bits_zero_fixes k lt (Constant c) = fixes_if (ltb (c % p) (2 ^ k))
      (λ q. fixes_answer (constant_bits k (c % p), Constant 0) (Below p) (λ x. x < 2 ^ k) (λ x. (lowest k x, 0))
      (λ ρ low l. (omega (arith, true-ltb (c % p) (2 ^ k) (sym q), mod-eq_of_lt l), ap (λ (ys : List ℕ). (ys, 0)) (constant_digits ρ k (c % p) ∙ ap (lowest k) (mod-eq_of_lt l)))))
      (λ q. fixes_refuse Unsatisfiable (Below p) (λ x. x < 2 ^ k) (λ x. (lowest k x, 0)))
  top_bits_zero_fixes k lt (Var a) =
      fixes_after {R = λ x ys. ManyBits k ys} {e = lowest k} (new_digits p a.variable 0 k) (λ x. x < 2 ^ k) (λ x. (lowest k x, 0))
      (λ ρ low l. must_mono p ρ (new_digits p a.variable 0 k) (λ bs. Varying bs × ManyBits k (lists bit_number_of ρ bs)) (λ bs. ManyBits k (lists bit_number_of ρ bs)) (λ bs h. h.1) (digits_force p P.prime ρ low a.variable 0 k))
      (λ x l. goes_mono true p (new_digits p a.variable 0 k) (λ ρ. ρ a.variable ≡ x) (λ ρ. ρ a.variable ≡ x) (λ ρ bs. Varying bs × (lists bit_number_of ρ bs ≡ lowest k x)) (λ ρ bs. lists bit_number_of ρ bs ≡ lowest k x) (λ ρ q. q) (λ ρ bs q h. h.1)
      (digits_go true p P.prime.0 a.variable x 0 k (lowest k x) (λ ρ. ρ a.variable ≡ x) (λ ρ e. e) (lowest_many k x) (subst (λ (t : ℕ). Owns true x 0 (lowest k t)) (flat x) (owns_digits x 0 k))))
      (λ bs. after_fixes k lt (Var a) bs) (λ x ys l h. (l, h))
      (λ x ys l h r. (omega (arith, spelled_below ys h.0, ap (λ (j : ℕ). 2 ^ j) h.1, r), ap (λ (zs : List ℕ). (zs, 0)) (lowest_is k x ys h r)))
      (λ x l t. (lowest_many k x, lowest_spells k x t))
    where
      flat : (x : ℕ) → x / 2 ^ 0 ≡ x
      flat x = omega arith

  -- k bits, which spell the number, and what is left, which is 0: so it is for a number below 2 ^ k
  pub top_bits_zero_law : (k : ℕ) → k < prime_bits p → Law p fp_number_of split_number (top_bits_zero_script p k) (Below p) (λ x y. Spells k x y.0 × (y.1 ≡ 0)) (λ x. x < 2 ^ k) (λ x. (lowest k x, 0))
  top_bits_zero_law k lt = fixes_reads (λ x y. Spells k x y.0 × (y.1 ≡ 0))
      (λ x y l w. (omega (arith, spelled_below y.0 w.0.0.0, ap (λ (j : ℕ). 2 ^ j) w.0.0.1, w.0.1), ap₂ (λ (ys : List ℕ) (r : ℕ). (ys, r)) (lowest_is k x y.0 w.0.0 w.0.1) w.1))
      (λ x l r. ((lowest_many k x, lowest_spells k x r), refl)) (top_bits_zero_fixes k lt)
