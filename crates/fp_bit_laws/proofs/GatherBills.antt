-- What the scripts of the number that bits spell, and of the lowest bits of a number, ask for.
use Rattle.std.proofs.Common.{◌≡◌, ◌≢◌, ℕ, ◌+◌, ◌-◌, ◌*◌, ◌%◌, ◌^◌, ◌<◌, ◌≤◌, Bool, true, false, cond, eqb, leb, ltb, List, [], ◌∷◌, ◌++◌, length, map, Some, None, Option, sym, refl, ap, ap₂, ◌∙◌, subst, arith, ne_eqb, false-eqb, mod-eq_of_lt, mod-lt}
use lib.ListN.{length-map}
use Rattle.field.specs.Laws.{OddPrime}
use Rattle.field.specs.Modulus.{bit_length as prime_bits}
use Rattle.relations.specs.declared.term.Variable.{Variable}
use Rattle.relations.specs.declared.term.Variable.TheVariants.{One, Zero, Input, Witness, Combination}
use Rattle.relations.specs.declared.term.Term.{Term}
use Rattle.relations.specs.declared.fault.GadgetFault.TheVariants.{Unsatisfiable}
use Rattle.relations.specs.Sum.{code, sum_of}
use Rattle.relations.specs.Script.{Script, answer, combine, then}
use Rattle.relations.specs.Terms.{times, just}
use Rattle.allocated.specs.Gates.{bit}
use Rattle.boolean.specs.declared.bits.Boolean.{Boolean}
use Rattle.boolean.specs.declared.bits.Boolean.TheVariants.{Constant as constant_bit, Var as variable_bit}
use Rattle.fp_var.specs.declared.numbers.FpVar.{FpVar}
use Rattle.fp_var.specs.declared.numbers.FpVar.TheVariants.{Constant, Var}
use Rattle.fp_var.specs.Numbers.{named, copied, scaled, add_constant, sub_script}
use Rattle.gates.specs.Kary.{all_constant, told_all}
use Rattle.fp_bits.specs.Digits.{digits, number_of_digits, constant_bits, constants_weight, heavier, first_weight}
use Rattle.fp_bits.specs.Bits.{weighed, gathered, below_prime, le_bits_script, nothing_left, top_bits_zero_script}
use Rattle.laws.specs.History.{Each}
use Rattle.laws.specs.Bill.{takes_combination, Next, ends}
use Rattle.laws.proofs.Theorem.{each_append}
use Rattle.bit_laws.specs.Bits.{real}
use Rattle.bit_laws.specs.Bills.{shadow, shadows, Due, owes, due_then, all_known, values_of, variables, walk_due}
use Rattle.bit_laws.proofs.Lists.{each_mono}
use Rattle.bit_laws.proofs.Sizes.{one_some, just_size, more_size}
use Rattle.bit_laws.proofs.Owes.{Older, Later, later_then, older_real, older_later, Ended, Owes, owes_then, owes_answer, owes_refuse, owes_combine, owes_if, owes_as}
use Rattle.bit_laws.proofs.BitBills.{unit, Any}
use Rattle.bit_laws.proofs.WideBills.{AllOld, all_later, unseen}
use Rattle.bit_laws.proofs.BoundBills.{walk_owes}
use Rattle.number_laws.specs.Bills.{number_shadow, same_number, add_constant_due, sub_due, constant_is_due}
use Rattle.number_laws.proofs.NumberSizes.{OldFp, old_fp_later, scaled_owes}
use Rattle.number_laws.proofs.NumberBills.{sub_owes}
use Rattle.number_laws.proofs.StatementBills.{constant_is_owes}
use Rattle.fp_bit_laws.specs.Bills.{weight_bill, weighed_bill, known_weight, gathered_due, below_due, le_bits_due, top_bits_zero_due}
use Rattle.fp_bit_laws.proofs.NumberBits.{odd_above}
use Rattle.fp_bit_laws.proofs.BitsSizes.{Separate, separate_end, Solid, separate_size, heavier_some}
use Rattle.fp_bit_laws.proofs.BitsBills.{new_bits_old, constants_known, constants_old, digits_owes}

-- ---- names
-- a combination that is made between the names n and the names l
abbrev pub Made : Next → Next → Variable → Type 0
Made n l v = (c : ℕ) × (v ≡ Combination c) × (n.place ≤ c) × (c < l.place)

pub made_older : (n l : Next) (v : Variable) → Made n l v → Older l v
made_older n l v h = subst (Older l) (sym h.1) h.3

-- what came before is another
pub made_apart : (n l : Next) (v w : Variable) → Older n v → Made n l w → code v ≢ code w
made_apart n l v w h m e = other v h (e ∙ ap code m.1)
  where
    other : (v : Variable) → Older n v → code v ≢ code (Combination m.0)
    other One h = absurd h
    other Zero h = absurd h
    other (Input i) h = λ e. omega arith
    other (Witness i) h = λ e. omega arith
    other (Combination c) h = λ e. omega (arith, e, h, m.2)

pub made_later : (n l k : Next) → Later l k → (v : Variable) → Made n l v → Made n k v
made_later n l k up v h = (h.0, h.1, h.2, omega (arith, h.3, up.places))

pub made_sooner : (n l k : Next) → Later n l → (v : Variable) → Made l k v → Made n k v
made_sooner n l k up v h = (h.0, h.1, omega (arith, h.2, up.places), h.3)

-- a number that is a constant or was made so
abbrev pub FreshFp : Next → Next → FpVar → Type 0
FreshFp n l (Constant c) = Unit {0}
FreshFp n l (Var a) = Made n l a.variable

pub fresh_old : (n l : Next) (x : FpVar) → FreshFp n l x → OldFp l x
fresh_old n l (Constant c) h = tt
fresh_old n l (Var a) h = made_older n l a.variable h

-- ---- the weighted bits
-- a term of a combination that came before the next names, with the coefficient 1
abbrev Plain : Next → Term → Type 0
Plain n t = (t.coefficient ≡ 1) × (c : ℕ) × (t.variable ≡ Combination c) × (c < n.place)

plain_later : (n l : Next) → Later n l → (t : Term) → Plain n t → Plain l t
plain_later n l up t h = (h.0, h.1, h.2, omega (arith, h.3, up.places))

plain_apart : (n l : Next) (y : Variable) → Made n l y → (t : Term) → Plain n t → code t.variable ≢ code y
plain_apart n l y m t h e = let q : code (Combination h.1) ≡ code (Combination m.0) = sym (ap code h.2) ∙ e ∙ ap code m.1 in omega (arith, q, h.3, m.2)

-- k terms of different variables
abbrev Ready : ℕ → Next → List Term → Type 0
Ready k n ts = Separate ts × Each (Plain n) ts × (length ts ≡ k)

length_more : (ts : List Term) (t : Term) → length (ts ++ (t ∷ [])) ≡ length ts + 1
length_more [] t = refl
length_more (u ∷ ts) t = omega (arith, length_more ts t)

weight_known : (p w : ℕ) (bs : List Boolean) → constants_weight p w bs ≡ known_weight p w (shadows bs)
weight_known p w [] = refl
weight_known p w (constant_bit b ∷ bs) = ap (λ (t : ℕ). (bit b * w + t) % p) (weight_known p (heavier p w) bs)
weight_known p w (variable_bit a ∷ bs) = weight_known p (heavier p w) bs

all_is : (bs : List Boolean) → all_constant bs ≡ all_known (shadows bs)
all_is [] = refl
all_is (constant_bit b ∷ bs) = all_is bs
all_is (variable_bit a ∷ bs) = refl

told_is : (bs : List Boolean) → told_all bs ≡ values_of (shadows bs)
told_is [] = refl
told_is (constant_bit b ∷ bs) = ap (λ (l : List Bool). b ∷ l) (told_is bs)
told_is (variable_bit a ∷ bs) = ap (λ (l : List Bool). false ∷ l) (told_is bs)

fresh_later : (n l k : Next) → Later l k → (x : FpVar) → FreshFp n l x → FreshFp n k x
fresh_later n l k up (Constant c) h = tt
fresh_later n l k up (Var a) h = made_later n l k up a.variable h

-- bits and what is left came before the next names
abbrev pub OldSplit : Next → List Boolean × FpVar → Type 0
OldSplit n o = AllOld n o.0 × OldFp n o.1

abbrev pub split_shadow : List Boolean × FpVar → List (Option Bool) × Option ℕ
split_shadow o = (shadows o.0, number_shadow o.1)

-- of the answer less is said
owes_good : {p : ℕ} {n : Next} {Out A : Type 0} {s : Script Out} {sh : Out → A} {Good Fine : Next → Out → Type 0} {d : Due A} → ((l : Next) (x : Out) → Good l x → Fine l x) → Owes p n s sh Good d → Owes p n s sh Fine d
owes_good {p} {n} {Out} {A} {s} {sh} {Good} {Fine} {d} f a = record { charged = a.charged; ended = go (ends p n s) d.1 a.ended }
  where
    go : (r : Option (Out × Next)) (o : Option A) → Ended n sh Good r o → Ended n sh Fine r o
    go None None h = tt
    go None (Some a) h = h
    go (Some x) None h = h
    go (Some x) (Some a) h = (h.0, h.1, f x.1 x.0 h.2)

module _ (p : ℕ) (P : OddPrime p) where
  two : 2 < p
  two = odd_above p P.prime.0 P.odd

  -- a multiple of a combination, whose coefficient is not 0
  weight_owes : (w : ℕ) (n l : Next) (x : Variable) → w % p ≢ 0 → Later n l → Made n l x → Owes p l (scaled p w x) unseen (Made n) (owes (weight_bill p w) tt)
  weight_owes w n l x some up m =
      owes_as (owes (weight_bill p w) tt) (go (eqb (w % p) 1) (eqb (w % p) 0) (ne_eqb (w % p) 0 some))
      (scaled_owes p two l w x unseen (Made n) tt tt (made_older n l x m) refl m (λ k. refl) (λ k. (l.place + k, refl, omega (arith, up.places), omega arith)))
    where
      go : (t z : Bool) → z ≡ false → ◌≡◌ {A = Due (Unit {0})} (cond t (owes [] tt) (owes (takes_combination (cond z 0 1) ∷ []) tt)) (owes (cond t [] (takes_combination 1 ∷ [])) tt)
      go true z e = refl
      go false z e = ap (λ (b : Bool). owes (takes_combination (cond b 0 1) ∷ []) tt) e

  weighed_owes : (w : ℕ) (bs : List Boolean) (ts : List Term) (k : ℕ) (n : Next) → AllOld n bs → Separate ts → Each (Plain n) ts → length ts + variables (shadows bs) ≡ k → w % p ≢ 0
      → Owes p n (weighed p w bs ts) unseen (Ready k) (owes (weighed_bill p w (shadows bs)) tt)
  weighed_owes w [] ts k n h s q e some = owes_answer ts unseen (Ready k) tt refl (s, q, omega (arith, e))
  weighed_owes w (constant_bit b ∷ bs) ts k n h s q e some = weighed_owes (heavier p w) bs ts k n h.1 s q e (heavier_some p w P some)
  weighed_owes w (variable_bit a ∷ bs) ts k n h s q e some =
      owes_then {s = copied a.variable} {k = λ x. then (scaled p w x) (λ y. weighed p (heavier p w) bs (ts ++ just y))} (λ u. owes (weight_bill p w ++ weighed_bill p (heavier p w) (shadows bs)) tt)
      (owes_combine (just a.variable) 1 unseen (Made n) tt (just_size p two 1 a.variable (one_some p two) (older_real n a.variable h.0)) refl (n.place + 1, refl, omega arith, omega arith))
      (λ l x up m. owes_then (λ u. owes (weighed_bill p (heavier p w) (shadows bs)) tt) (weight_owes w n l x some up m)
      (λ j y up₁ made. let later = later_then n l j up up₁ in
      weighed_owes (heavier p w) bs (ts ++ just y) k j (all_later n j later bs h.1) (separate_end ts (times 1 y) s (each_mono (Plain n) (λ u. code u.variable ≢ code y) (plain_apart n j y made) ts q))
      (each_append (Plain j) ts (just y) (each_mono (Plain n) (Plain j) (plain_later n j later) ts q) ((refl, made.0, made.1, made.3), tt)) (omega (arith, e, length_more ts (times 1 y))) (heavier_some p w P some)))

  -- ---- the sum
  first_some : first_weight p % p ≢ 0
  first_some e = one_some p two (sym (mod-eq_of_lt (mod-lt 1 (omega (arith, two)))) ∙ e)

  ready_size : (k : ℕ) (n : Next) (ts : List Term) → Ready k n ts → (sum_of p ts).size ≡ k
  ready_size k n ts r = separate_size p ts r.0 (each_mono (Plain n) (Solid p) (λ t h. (ap real h.2, λ e. one_some p two (ap (λ (c : ℕ). c % p) (sym h.0) ∙ e))) ts r.1) ∙ r.2

  added_owes : (c : ℕ) (n l : Next) (s : Variable) → Later n l → Made n l s → Owes p l (add_constant p c s) number_shadow (FreshFp n) (add_constant_due p c)
  added_owes c n l s up m = owes_if (eqb (c % p) 0) (λ e. owes_answer (named s) number_shadow (FreshFp n) None refl m)
      (λ e. record {
        charged = ap (λ (k : ℕ). takes_combination k ∷ []) (more_size p two s c (older_real l s (made_older n l s m)) (false-eqb (c % p) 0 (sym e)));
        ended = (record { inputs = omega arith; witnesses = omega arith; places = omega arith }, refl, (l.place + (sum_of p (times 1 s ∷ (times c One ∷ []))).size, refl, omega (arith, up.places), omega arith));
      })

  gathered_owes : (bs : List Boolean) (n : Next) → AllOld n bs → Owes p n (gathered p bs) number_shadow (FreshFp n) (gathered_due p (shadows bs))
  gathered_owes bs n h =
      let v : ℕ = variables (shadows bs) in
      let c : ℕ = constants_weight p (first_weight p) bs in
      owes_then (λ u. due_then (owes (takes_combination v ∷ []) (tt {0})) (λ u. add_constant_due p (known_weight p (first_weight p) (shadows bs)))) (weighed_owes (first_weight p) bs [] v n h tt tt (omega arith) first_some)
      (λ l ts up r. owes_then {s = combine ts (λ s. answer s)} {k = λ s. add_constant p c s} (λ u. add_constant_due p (known_weight p (first_weight p) (shadows bs)))
      (owes_combine ts v unseen (Made l) tt (ready_size v l ts r) refl (l.place + v, refl, omega arith, omega arith))
      (λ j s up₁ m. owes_as (add_constant_due p (known_weight p (first_weight p) (shadows bs))) (ap (add_constant_due p) (weight_known p (first_weight p) bs)) (added_owes c n j s (later_then n l j up up₁) (made_sooner n l j up s m))))

  below_owes : (bs : List Boolean) (n : Next) → AllOld n bs → Owes p n (below_prime p bs) unit Any (below_due p (shadows bs))
  below_owes bs n h =
      subst (λ (k : ℕ). Owes p n (below_prime p bs) unit Any (cond (leb (prime_bits p) k) (walk_due p (shadows bs) (p - 1)) (owes [] tt))) (sym (length-map bs shadow))
      (owes_if (leb (prime_bits p) (length bs)) (λ e. walk_owes p two bs (p - 1) n h) (λ e. owes_answer tt unit Any tt refl tt))

  pub fresh_le_bits_owes : (bs : List Boolean) (n : Next) → AllOld n bs → Owes p n (le_bits_script p bs) number_shadow (FreshFp n) (le_bits_due p (shadows bs))
  fresh_le_bits_owes bs n h =
      let rest : Due (Option ℕ) = due_then (gathered_due p (shadows bs)) (λ y. due_then (below_due p (shadows bs)) (λ u. owes [] y)) in
      owes_as (le_bits_due p (shadows bs)) (ap₂ (λ (b : Bool) (ts : List Bool). cond b (owes [] (Some (number_of_digits ts % p))) rest) (all_is bs) (told_is bs))
      (owes_if (all_constant bs) (λ e. owes_answer (Constant (number_of_digits (told_all bs) % p)) number_shadow (FreshFp n) (Some (number_of_digits (told_all bs) % p)) refl tt)
      (λ e. owes_then (λ y. due_then (below_due p (shadows bs)) (λ u. owes [] y)) (gathered_owes bs n h)
      (λ l s up f. owes_then (λ u. owes [] (number_shadow s)) (below_owes bs l (all_later n l up bs h)) (λ j u up₁ q. owes_answer s number_shadow (FreshFp n) (number_shadow s) refl (fresh_later n l j up₁ s f)))))

  pub le_bits_owes : (bs : List Boolean) (n : Next) → AllOld n bs → Owes p n (le_bits_script p bs) number_shadow OldFp (le_bits_due p (shadows bs))
  le_bits_owes bs n h = owes_good (fresh_old n) (fresh_le_bits_owes bs n h)

  pub top_bits_zero_owes : (k : ℕ) (a : FpVar) (n : Next) → OldFp n a → Owes p n (top_bits_zero_script p k a) split_shadow OldSplit (top_bits_zero_due p k (number_shadow a))
  top_bits_zero_owes k (Constant c) n h = owes_if (ltb (c % p) (2 ^ k))
      (λ e. owes_answer (constant_bits k (c % p), Constant 0) split_shadow OldSplit (map Some (digits k (c % p)), Some 0) (ap (λ (l : List (Option Bool)). (l, Some 0)) (constants_known k (c % p))) (constants_old n k (c % p), tt))
      (λ e. owes_refuse Unsatisfiable split_shadow OldSplit)
  top_bits_zero_owes k (Var a) n h =
      owes_then {k = λ bs. then (le_bits_script p bs) (λ x. then (sub_script p (Var a) x) (λ r. then (nothing_left p r) (λ u. answer (bs, r))))}
      (λ os. due_then (le_bits_due p os) (λ x. due_then (sub_due p false None x) (λ r. due_then (constant_is_due p 0 r) (λ u. owes [] (os, r))))) (digits_owes p P a.variable 0 k n)
      (λ l bs up g. let old = new_bits_old n k l bs g in
      owes_then (λ x. due_then (sub_due p false None x) (λ r. due_then (constant_is_due p 0 r) (λ u. owes [] (shadows bs, r)))) (fresh_le_bits_owes bs l old)
      (λ j x up₁ f. let ha = older_later n l up a.variable h in
      owes_then (λ r. due_then (constant_is_due p 0 r) (λ u. owes [] (shadows bs, r)))
      (owes_as (sub_due p false None (number_shadow x)) (ap (λ (t : Bool). sub_due p t None (number_shadow x)) (other l j a.variable x ha f)) (sub_owes p two j (Var a) x (older_later l j up₁ a.variable ha) (fresh_old l j x f)))
      (λ i r up₂ q. owes_then (λ u. owes [] (shadows bs, number_shadow r)) (constant_is_owes p two i 0 r q)
      (λ m u up₃ z. owes_answer (bs, r) split_shadow OldSplit (shadows bs, number_shadow r) refl (all_later l m (later_then l j m up₁ (later_then j i m up₂ up₃)) bs old, old_fp_later i m up₃ r q)))))
    where
      other : (l j : Next) (v : Variable) (x : FpVar) → Older l v → FreshFp l j x → same_number (named v) x ≡ false
      other l j v (Constant c) o f = refl
      other l j v (Var b) o f = ne_eqb (code v) (code b.variable) (made_apart l j v b.variable o f)
