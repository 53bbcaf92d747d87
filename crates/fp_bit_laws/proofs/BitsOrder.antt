-- The scripts of numbers' bits and of comparison in order: all that they name is there, and the values that they give are below p, and are there whatever was asked for.
use Rattle.std.proofs.Common.{ℕ, zero, suc, ◌+◌, ◌-◌, ◌/◌, ◌%◌, ◌^◌, ◌<◌, Bool, true, false, leb, ltb, List, [], ◌∷◌, ◌++◌, length, refl, arith}
use Rattle.std.specs.declared.cmp.Ordering.{Ordering}
use Rattle.std.specs.declared.cmp.Ordering.TheVariants.{Less, Equal, Greater}
use Rattle.field.specs.Modulus.{bit_length as prime_bits, half_of}
use Rattle.relations.specs.declared.term.Variable.{Variable}
use Rattle.relations.specs.declared.term.Variable.TheVariants.{One}
use Rattle.relations.specs.declared.term.Term.{Term}
use Rattle.relations.specs.declared.fault.GadgetFault.TheVariants.{Unsatisfiable}
use Rattle.relations.specs.Script.{answer, combine, row, then}
use Rattle.relations.specs.Terms.{times, just}
use Rattle.boolean.specs.declared.bits.Boolean.{Boolean}
use Rattle.boolean.specs.declared.bits.Boolean.TheVariants.{Constant as constant_bit, Var as variable_bit}
use Rattle.boolean.specs.Booleans.{bit_terms}
use Rattle.fp_var.specs.declared.numbers.FpVar.{FpVar}
use Rattle.fp_var.specs.declared.numbers.FpVar.TheVariants.{Constant, Var}
use Rattle.fp_var.specs.Numbers.{named, copied, scaled, add_constant, sub_script}
use Rattle.gates.specs.Kary.{all_constant, told_all}
use Rattle.gates.specs.Walk.{place}
use Rattle.fp_bits.specs.Digits.{number_of_digits, constant_bits, heavier, constants_weight, first_weight}
use Rattle.fp_bits.specs.Bits.{new_digits, weighted, split_script, to_non_unique_bits_script, to_bits_script, weighed, gathered, le_bits_script, nothing_left, top_bits_zero_script}
use Rattle.fp_cmp.specs.Compare.{at_most_half, lowest_of_double, smaller, compared, is_cmp_script, ordered, forced, enforce_cmp_script}
use Rattle.laws.specs.Law.{There, Constants, Wider, TermsThere, Orderly}
use Rattle.laws.proofs.Frame.{constants_wider, terms_wider}
use Rattle.bit_laws.specs.Bits.{ThereBit}
use Rattle.bit_laws.proofs.Lists.{each_at}
use Rattle.bit_laws.proofs.Choices.{not_neat}
use Rattle.bit_laws.proofs.Statements.{Silent, row_neat}
use Rattle.bit_laws.proofs.Chains.{ThereAll, bits_wider}
use Rattle.bit_laws.proofs.Bound.{walk_neat}
use Rattle.bit_laws.proofs.Fixes.{Neat, neat_then, neat_next, neat_on, neat_if, neat_answer, neat_refuse, neat_combine, neat_orderly}
use Rattle.number_laws.specs.Numbers.{ThereFp, TherePair}
use Rattle.number_laws.proofs.NumberOrder.{Has, fp_wider, scaled_neat, add_neat, sub_neat, double_neat}
use Rattle.number_laws.proofs.StatementOrder.{holding_neat, constant_is_neat}
use Rattle.fp_bit_laws.proofs.Splitting.{put_first}

-- ---- what is there
terms_append : (h : There) (ts us : List Term) → TermsThere h ts → TermsThere h us → TermsThere h (ts ++ us)
terms_append h [] us t u = u
terms_append h (x ∷ ts) us t u = (t.0, terms_append h ts us t.1 u)

weighted_there : (h : There) (p w : ℕ) (bs : List Boolean) → ThereAll h bs → TermsThere h (weighted p w bs)
weighted_there h p w [] t = tt
weighted_there h p w (constant_bit b ∷ bs) t = weighted_there h p (heavier p w) bs t.1
weighted_there h p w (variable_bit a ∷ bs) t = (t.0, weighted_there h p (heavier p w) bs t.1)

constants_there : (h : There) (k x : ℕ) → ThereAll h (constant_bits k x)
constants_there h zero x = tt
constants_there h (suc k) x = (tt, constants_there h k (x / 2))

terms_there : (h : There) → Constants h → (b : Boolean) → ThereBit h b → TermsThere h (bit_terms b)
terms_there h z (constant_bit true) t = (z.one, tt)
terms_there h z (constant_bit false) t = tt
terms_there h z (variable_bit a) t = (t, tt)

-- bits and what is left are there
abbrev pub ThereSplit : There → List Boolean × FpVar → Type 0
ThereSplit h o = ThereAll h o.0 × ThereFp h o.1

module _ (p : ℕ) (above : 1 < p) where
  -- ---- bits from a number
  -- a bit before others
  first_neat : (a w : Variable) (i k : ℕ) → Neat p (new_digits p a i k) (Has a) ThereAll → Neat p (then (new_digits p a i k) (put_first w)) (λ h. Has a h × Has w h) ThereAll
  first_neat a w i k more =
      neat_then (λ h l up t. (up a t.0, up w t.1)) (neat_on (λ h. Has a h × Has w h) (λ h t. t.0) more)
      (λ bs. neat_answer (variable_bit (record { variable = w }) ∷ bs) (λ h. (Has a h × Has w h) × ThereAll h bs) ThereAll (λ h t. (t.0.1, t.1)))

  digit_below : (x : ℕ) → x < 2 → x < p
  digit_below x l = omega (arith, above)

  pub digits_neat : (a : Variable) (i k : ℕ) → Neat p (new_digits p a i k) (Has a) ThereAll
  digits_neat a i zero = neat_answer [] (Has a) ThereAll (λ h t. tt)
  digits_neat a i (suc k) =
      let more = digits_neat a (i + 1) k in
      record {
        sees = λ h z t. ((t, tt), λ h₁ up w hw. ((up One z.one, (hw, tt)), (hw, tt), tt, (first_neat a w (i + 1) k more).sees h₁ (constants_wider h h₁ up z) (up a t, hw)));
        tidy = ((λ ρ low. digit_below ((ρ a / 2 ^ i) % 2) (omega arith)), λ w. (first_neat a w (i + 1) k more).tidy);
        steady = ((λ ρ. refl), λ w. (first_neat a w (i + 1) k more).steady);
      }

  split_neat : (a : Variable) → Neat p (split_script p a) (Has a) ThereAll
  split_neat a = neat_then (λ h l up t. up a t) (digits_neat a 0 (prime_bits p)) (λ bs. last bs)
    where
      last : (bs : List Boolean) → Neat p (row [] [] (weighted p (first_weight p) bs ++ (times (p - 1) a ∷ [])) (answer bs)) (λ h. Has a h × ThereAll h bs) ThereAll
      last bs = record { sees = λ h z t. (tt, tt, terms_append h (weighted p (first_weight p) bs) (times (p - 1) a ∷ []) (weighted_there h p (first_weight p) bs t.1) (t.0, tt), t.1); tidy = tt; steady = tt }

  pub to_non_unique_bits_neat : (a : FpVar) → Neat p (to_non_unique_bits_script p a) (λ h. ThereFp h a) ThereAll
  to_non_unique_bits_neat (Constant c) = neat_answer (constant_bits (prime_bits p) (c % p)) (λ h. ThereFp h (Constant c)) ThereAll (λ h t. constants_there h (prime_bits p) (c % p))
  to_non_unique_bits_neat (Var a) = split_neat a.variable

  pub to_bits_neat : (a : FpVar) → Neat p (to_bits_script p a) (λ h. ThereFp h a) ThereAll
  to_bits_neat (Constant c) = neat_answer (constant_bits (prime_bits p) (c % p)) (λ h. ThereFp h (Constant c)) ThereAll (λ h t. constants_there h (prime_bits p) (c % p))
  to_bits_neat (Var a) = neat_next (split_neat a.variable) (λ bs. neat_then (λ h l up t. bits_wider h l up bs t) (walk_neat p above bs (p - 1)) (λ u. neat_answer bs (λ h. ThereAll h bs × Silent h u) ThereAll (λ h t. t.0)))

  -- ---- a number from bits
  weighed_neat : (w : ℕ) (bs : List Boolean) (ts : List Term) → Neat p (weighed p w bs ts) (λ h. ThereAll h bs × TermsThere h ts) TermsThere
  weighed_neat w [] ts = neat_answer ts (λ h. ThereAll h [] × TermsThere h ts) TermsThere (λ h t. t.1)
  weighed_neat w (constant_bit b ∷ bs) ts = neat_on (λ h. ThereAll h (constant_bit b ∷ bs) × TermsThere h ts) (λ h t. (t.0.1, t.1)) (weighed_neat (heavier p w) bs ts)
  weighed_neat w (variable_bit a ∷ bs) ts =
      neat_then {s = copied a.variable} {k = λ x. then (scaled p w x) (λ y. weighed p (heavier p w) bs (ts ++ just y))} (λ h l up t. (bits_wider h l up (variable_bit a ∷ bs) t.0, terms_wider h l up ts t.1))
      (neat_combine (just a.variable) (λ h. ThereAll h (variable_bit a ∷ bs) × TermsThere h ts) (λ h z t. (t.0.0, tt)))
      (λ x. neat_then (λ h l up t. ((bits_wider h l up (variable_bit a ∷ bs) t.0.0, terms_wider h l up ts t.0.1), up x t.1)) (neat_on (λ h. (ThereAll h (variable_bit a ∷ bs) × TermsThere h ts) × Has x h) (λ h t. t.1) (scaled_neat p w x))
      (λ y. neat_on (λ h. ((ThereAll h (variable_bit a ∷ bs) × TermsThere h ts) × Has x h) × Has y h) (λ h t. (t.0.0.0.1, terms_append h ts (just y) t.0.0.1 (t.1, tt))) (weighed_neat (heavier p w) bs (ts ++ just y))))

  gathered_neat : (bs : List Boolean) → Neat p (gathered p bs) (λ h. ThereAll h bs) ThereFp
  gathered_neat bs =
      neat_next (neat_on (λ h. ThereAll h bs) (λ h t. (t, tt)) (weighed_neat (first_weight p) bs []))
      (λ ts. neat_next {s = combine ts (λ s. answer s)} {k = λ s. add_constant p (constants_weight p (first_weight p) bs) s} (neat_combine ts (λ h. TermsThere h ts) (λ h z t. t))
      (λ s. neat_on (λ h. Has s h) (λ h t. (t, tt)) (add_neat p (named s) (Constant (constants_weight p (first_weight p) bs)))))

  pub le_bits_neat : (bs : List Boolean) → Neat p (le_bits_script p bs) (λ h. ThereAll h bs) ThereFp
  le_bits_neat bs = neat_if (all_constant bs) (neat_answer (Constant (number_of_digits (told_all bs) % p)) (λ h. ThereAll h bs) ThereFp (λ h t. tt))
      (neat_then (λ h l up t. bits_wider h l up bs t) (gathered_neat bs)
      (λ s. neat_then (λ h l up t. (bits_wider h l up bs t.0, fp_wider h l up s t.1)) (neat_on (λ h. ThereAll h bs × ThereFp h s) (λ h t. t.0) (neat_if (leb (prime_bits p) (length bs)) (walk_neat p above bs (p - 1)) (neat_answer tt (λ h. ThereAll h bs) Silent (λ h t. tt))))
      (λ u. neat_answer s (λ h. (ThereAll h bs × ThereFp h s) × Silent h u) ThereFp (λ h t. t.0.1))))

  -- ---- the lowest bits of a number
  pub top_bits_zero_neat : (k : ℕ) (a : FpVar) → Neat p (top_bits_zero_script p k a) (λ h. ThereFp h a) ThereSplit
  top_bits_zero_neat k (Constant c) = neat_if (ltb (c % p) (2 ^ k)) (neat_answer (constant_bits k (c % p), Constant 0) (λ h. ThereFp h (Constant c)) ThereSplit (λ h t. (constants_there h k (c % p), tt))) (neat_refuse Unsatisfiable (λ h. ThereFp h (Constant c)) ThereSplit)
  top_bits_zero_neat k (Var a) =
      neat_then {k = λ bs. then (le_bits_script p bs) (λ x. then (sub_script p (Var a) x) (λ r. then (nothing_left p r) (λ u. answer (bs, r))))} (λ h l up t. up a.variable t) (digits_neat a.variable 0 k)
      (λ bs. neat_then (λ h l up t. (up a.variable t.0, bits_wider h l up bs t.1)) (neat_on (λ h. Has a.variable h × ThereAll h bs) (λ h t. t.1) (le_bits_neat bs))
      (λ x. neat_then (λ h l up t. ((up a.variable t.0.0, bits_wider h l up bs t.0.1), fp_wider h l up x t.1)) (neat_on (λ h. (Has a.variable h × ThereAll h bs) × ThereFp h x) (λ h t. (t.0.0, t.1)) (sub_neat p (Var a) x))
      (λ r. neat_then (λ h l up t. (((up a.variable t.0.0.0, bits_wider h l up bs t.0.0.1), fp_wider h l up x t.0.1), fp_wider h l up r t.1))
      (neat_on (λ h. ((Has a.variable h × ThereAll h bs) × ThereFp h x) × ThereFp h r) (λ h t. t.1) (constant_is_neat p 0 r))
      (λ u. neat_answer (bs, r) (λ h. (((Has a.variable h × ThereAll h bs) × ThereFp h x) × ThereFp h r) × Silent h u) ThereSplit (λ h t. (t.0.0.0.1, t.0.1))))))

  -- ---- comparison
  half_neat : (a : FpVar) → Neat p (at_most_half p a) (λ h. ThereFp h a) Silent
  half_neat a = neat_next (to_non_unique_bits_neat a) (λ bs. walk_neat p above bs (half_of p))

  lowest_neat : (a b : FpVar) → Neat p (lowest_of_double p a b) (λ h. TherePair h (a, b)) ThereBit
  lowest_neat a b = neat_next (sub_neat p a b) (λ d. neat_next (double_neat p d) (λ e. neat_next (to_bits_neat e) (λ bs. neat_answer (place bs 0) (λ h. ThereAll h bs) ThereBit (λ h t. each_at (ThereBit h) bs 0 (constant_bit false) tt t))))

  smaller_neat : (flag : Bool) (a b : FpVar) → Neat p (smaller p flag a b) (λ h. TherePair h (a, b)) ThereBit
  smaller_neat false a b = lowest_neat a b
  smaller_neat true a b = neat_next (neat_on (λ h. TherePair h (a, b)) (λ h t. (t.1, t.0)) (lowest_neat b a)) (not_neat p above)

  pair_wider : (h k : There) → Wider h k → (a b : FpVar) → TherePair h (a, b) → TherePair k (a, b)
  pair_wider h k up a b t = (fp_wider h k up a t.0, fp_wider h k up b t.1)

  compared_neat : (flag : Bool) (a b : FpVar) → Neat p (compared p flag a b) (λ h. TherePair h (a, b)) ThereBit
  compared_neat flag a b =
      neat_then (λ h l up t. pair_wider h l up a b t) (neat_on (λ h. TherePair h (a, b)) (λ h t. t.0) (half_neat a))
      (λ u. neat_then (λ h l up t. (pair_wider h l up a b t.0, tt)) (neat_on (λ h. TherePair h (a, b) × Silent h u) (λ h t. t.0.1) (half_neat b))
      (λ v. neat_on (λ h. (TherePair h (a, b) × Silent h u) × Silent h v) (λ h t. t.0.0) (smaller_neat flag a b)))

  pub is_cmp_neat : (o : Ordering) (flag : Bool) (a b : FpVar) → Neat p (is_cmp_script p o flag a b) (λ h. TherePair h (a, b)) ThereBit
  is_cmp_neat Less flag a b = compared_neat flag a b
  is_cmp_neat Equal flag a b = neat_refuse Unsatisfiable (λ h. TherePair h (a, b)) ThereBit
  is_cmp_neat Greater flag a b = neat_on (λ h. TherePair h (a, b)) (λ h t. (t.1, t.0)) (compared_neat flag b a)

  shown_neat : (flag : Bool) (a b : FpVar) → Neat p (then (compared p flag a b) (λ c. row (bit_terms c) (just One) (just One) (answer tt))) (λ h. TherePair h (a, b)) Silent
  shown_neat flag a b = neat_next (compared_neat flag a b) (λ c. row_neat p (λ h. ThereBit h c) (bit_terms c) (just One) (just One) (λ h z t. (terms_there h z c t, (z.one, tt), (z.one, tt))))

  forced_neat : (flag : Bool) (a b : FpVar) → Neat p (forced p flag a b) (λ h. TherePair h (a, b)) Silent
  forced_neat flag (Constant x) (Constant y) = holding_neat p (ordered p flag x y) (λ h. TherePair h (Constant x, Constant y))
  forced_neat flag (Constant x) (Var b) = shown_neat flag (Constant x) (Var b)
  forced_neat flag (Var a) b = shown_neat flag (Var a) b

  pub enforce_cmp_neat : (o : Ordering) (flag : Bool) (a b : FpVar) → Neat p (enforce_cmp_script p o flag a b) (λ h. TherePair h (a, b)) Silent
  enforce_cmp_neat Less flag a b = forced_neat flag a b
  enforce_cmp_neat Equal flag a b = neat_refuse Unsatisfiable (λ h. TherePair h (a, b)) Silent
  enforce_cmp_neat Greater flag a b = neat_on (λ h. TherePair h (a, b)) (λ h t. (t.1, t.0)) (forced_neat flag b a)

  -- ---- the calls
  pub le_bits_orderly : Orderly p (le_bits_script p) ThereAll ThereFp
  le_bits_orderly = neat_orderly le_bits_neat

  pub to_non_unique_bits_orderly : Orderly p (to_non_unique_bits_script p) ThereFp ThereAll
  to_non_unique_bits_orderly = neat_orderly to_non_unique_bits_neat

  pub to_bits_orderly : Orderly p (to_bits_script p) ThereFp ThereAll
  to_bits_orderly = neat_orderly to_bits_neat

  pub top_bits_zero_orderly : (k : ℕ) → Orderly p (top_bits_zero_script p k) ThereFp ThereSplit
  top_bits_zero_orderly k = neat_orderly (top_bits_zero_neat k)

  pub is_cmp_orderly : (o : Ordering) (flag : Bool) → Orderly p (λ i. is_cmp_script p o flag i.0 i.1) TherePair ThereBit
  is_cmp_orderly o flag = neat_orderly (λ i. is_cmp_neat o flag i.0 i.1)

  pub enforce_cmp_orderly : (o : Ordering) (flag : Bool) → Orderly p (λ i. enforce_cmp_script p o flag i.0 i.1) TherePair Silent
  enforce_cmp_orderly o flag = neat_orderly (λ i. enforce_cmp_neat o flag i.0 i.1)
