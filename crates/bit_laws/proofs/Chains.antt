-- Gates of many bits: chains, sums that are compared, and the gate that takes one or the other.
use Rattle.std.proofs.Common.{◌≡◌, ◌⊎◌, ℕ, zero, suc, ◌+◌, ◌*◌, ◌%◌, ◌<◌, ◌≤◌, Bool, true, false, not, ◌&&◌, eqb, leb, List, [], ◌∷◌, ◌++◌, length, sym, refl, ap, ap₂, ◌∙◌, inl, inr, arith, mod-eq_of_lt, true≢false, eq-eqb, ne_eqb, true-eqb, leb-false}
use native.Mathlib.Nat.{add-mod, mod-mod, zero-mod}
use Rattle.arith.specs.Number.{Prime}
use Rattle.relations.specs.declared.term.Variable.{Variable}
use Rattle.relations.specs.declared.term.Variable.TheVariants.{One}
use Rattle.relations.specs.declared.term.Term.{Term}
use Rattle.relations.specs.declared.fault.GadgetFault.TheVariants.{TooManyMembers}
use Rattle.relations.specs.Script.{Script, answer, combine}
use Rattle.relations.specs.Terms.{times, just}
use Rattle.allocated.specs.declared.gate.Gate.{Gate}
use Rattle.allocated.specs.declared.gate.Gate.TheVariants.{And as and_gate, Or as or_gate}
use Rattle.allocated.specs.declared.allocated.AllocatedBool.{AllocatedBool}
use Rattle.boolean.specs.declared.bits.Boolean.{Boolean}
use Rattle.boolean.specs.declared.bits.Boolean.TheVariants.{Constant, Var}
use Rattle.allocated.specs.Gates.{bit, truth, applied, either}
use Rattle.boolean.specs.Booleans.{as_var}
use Rattle.gates.specs.declared.wide.Wide.{Wide}
use Rattle.gates.specs.declared.wide.Wide.TheVariants.{And, Or}
use Rattle.gates.specs.Kary.{gate_of, all_of, any_of, joined, chain_from, chain_script, ones, summands, topped, sum_script, compared, all_constant, told_all, summed_script, sums, kary_script, nand_script, enforce_nand_script}
use Rattle.laws.specs.Law.{Val, Low, Must, total, Law, lists, There, Wider, TermsThere, Orderly}
use Rattle.laws.specs.History.{Each}
use Rattle.laws.proofs.Frame.{must_then, must_if, must_mono, Function, Pure, pure_then, pure_if, nothing, terms_wider}
use Rattle.laws.proofs.Theorem.{length_lists, each_wider}
use Rattle.bit_laws.specs.Bits.{bit_number_of, ThereBit, AllBits, truths, joined_bit, NotAll, equality, inequality}
use Rattle.bit_laws.proofs.BitLaws.{tabled, bit_low, same_bit, known_bit}
use Rattle.bit_laws.proofs.Choices.{bit_wider, not_fixes, gate_fixes, not_neat, gate_neat}
use Rattle.bit_laws.proofs.Statements.{zero_fixes, zero_neat, Silent}
use Rattle.bit_laws.proofs.Differences.{allocated_number, is_eq_fixes, is_neq_fixes, is_eq_neat, is_neq_neat, ThereAllocated}
use Rattle.bit_laws.proofs.Fixes.{Fixes, Always, fixes_then, fixes_next, fixes_on, fixes_as, fixes_is, fixes_to, fixes_if, fixes_cons, fixes_answer, fixes_refuse, fixes_pure, fixes_function, fixes_law, Neat, neat_then, neat_next, neat_on, neat_if, neat_answer, neat_refuse, neat_combine, neat_orderly}

-- ---- truth values
-- a gate on what came before and each that follows
abbrev pub folds : Gate → Bool → List Bool → Bool
folds g c [] = c
folds g c (b ∷ bs) = folds g (applied g c b) bs

pub folds_or : (c : Bool) (bs : List Bool) → folds or_gate c bs ≡ either c (any_of bs)
folds_or true [] = refl
folds_or false [] = refl
folds_or true (b ∷ bs) = folds_or true bs
folds_or false (b ∷ bs) = folds_or b bs

folds_and : (c : Bool) (bs : List Bool) → folds and_gate c bs ≡ (c && all_of bs)
folds_and true [] = refl
folds_and false [] = refl
folds_and true (b ∷ bs) = folds_and b bs
folds_and false (b ∷ bs) = folds_and false bs

folds_joined : (g : Wide) (c : Bool) (bs : List Bool) → folds (gate_of g) c bs ≡ joined g (c ∷ bs)
folds_joined And c bs = folds_and c bs
folds_joined Or c bs = folds_or c bs

-- ---- a chain
-- a bit and a list of bits
abbrev pub Starts : ℕ × List ℕ → Type 0
Starts x = (x.0 ≤ 1) × AllBits x.1

abbrev pub chained : Gate → ℕ × List ℕ → ℕ
chained g x = bit (folds g (truth x.0) (truths x.1))

module _ (p : ℕ) (P : Prime p) (two : 2 < p) where
  pub chain_fixes : (g : Gate) (bs : List Boolean) (cur : Boolean) → Fixes p (λ ρ. (bit_number_of ρ cur, lists bit_number_of ρ bs)) bit_number_of (chain_from g p cur bs) Starts Always (chained g)
  chain_fixes g [] cur = fixes_answer cur Starts Always (chained g) (λ ρ low h. (tt, same_bit (bit_number_of ρ cur) h.0))
  chain_fixes g (b ∷ bs) cur =
      let to : Val → ℕ × ℕ × List ℕ = λ ρ. (bit_number_of ρ cur, bit_number_of ρ b, lists bit_number_of ρ bs) in
      let Q : ℕ × ℕ × List ℕ → Type 0 = λ u. Starts (u.0, u.1 ∷ u.2) in
      fixes_cons (λ ρ. bit_number_of ρ cur) bit_number_of b bs Starts Always (chained g) 0
      (fixes_is Q (λ u. chained g (u.0, u.1 ∷ u.2)) (λ u h. h) (λ u h. (tt, tt)) (λ u h. ap (λ (c : Bool). bit (folds g c (truths u.2))) (known_bit (applied g (truth u.0) (truth u.1))))
      (fixes_then (fixes_to to (λ u. (u.0, u.1)) Q (λ u. tabled g (u.0, u.1)) (λ ρ low. refl) (λ u h. (h.0, h.1.0)) (λ ρ low h. refl) (gate_fixes p P two g cur b))
      (λ c. fixes_on (λ ρ. (to ρ, bit_number_of ρ c)) (λ x. (x.1, x.0.2)) (λ ρ low. refl) (chain_fixes g bs c)) (λ u h r. (bit_low _, h.1.1))))

  -- where the first of the list is what the chain begins with
  pub chain_is : (g : Wide) (bs : List Boolean) → Fixes p (λ ρ. lists bit_number_of ρ bs) bit_number_of (chain_script g p bs) AllBits Always (joined_bit g)
  chain_is g [] = fixes_answer (Constant (joined g [])) AllBits Always (joined_bit g) (λ ρ low h. (tt, refl))
  chain_is g (b ∷ bs) =
      fixes_on (λ ρ. lists bit_number_of ρ (b ∷ bs)) (λ xs. (tt {0}, xs)) (λ ρ low. refl)
      (fixes_cons (λ ρ. tt {0}) bit_number_of b bs (λ u. AllBits u.1) Always (λ u. joined_bit g u.1) 0
      (fixes_is (λ u. AllBits (u.1 ∷ u.2)) (λ u. joined_bit g (u.1 ∷ u.2)) (λ u h. h) (λ u h. tt) (λ u h. ap bit (folds_joined g (truth u.1) (truths u.2)))
      (fixes_on (λ ρ. (tt {0}, bit_number_of ρ b, lists bit_number_of ρ bs)) (λ u. (u.1, u.2)) (λ ρ low. refl) (chain_fixes (gate_of g) bs b))))

-- ---- a sum
abbrev pub tally : List ℕ → ℕ
tally [] = 0
tally (x ∷ xs) = x + tally xs

-- the number of a variable
abbrev pub number : Val → Variable → ℕ
number ρ v = ρ v

total_append : (ρ : Val) (ts us : List Term) → total ρ (ts ++ us) ≡ total ρ ts + total ρ us
total_append ρ [] us = omega arith
total_append ρ (t ∷ ts) us = omega (arith, total_append ρ ts us)

summands_force : (p : ℕ) (ρ : Val) → Low p ρ → (bs : List Boolean) (ts : List Term) → Must p ρ (summands bs ts) (λ us. total ρ us + ones bs ≡ total ρ ts + tally (lists bit_number_of ρ bs))
summands_force p ρ low [] ts = refl
summands_force p ρ low (Constant true ∷ bs) ts =
    must_mono p ρ (summands bs ts) (λ us. total ρ us + ones bs ≡ total ρ ts + tally (lists bit_number_of ρ bs)) (λ us. total ρ us + (1 + ones bs) ≡ total ρ ts + (1 + tally (lists bit_number_of ρ bs))) (λ us h. omega arith) (summands_force p ρ low bs ts)
summands_force p ρ low (Constant false ∷ bs) ts =
    must_mono p ρ (summands bs ts) (λ us. total ρ us + ones bs ≡ total ρ ts + tally (lists bit_number_of ρ bs)) (λ us. total ρ us + ones bs ≡ total ρ ts + (0 + tally (lists bit_number_of ρ bs))) (λ us h. omega arith) (summands_force p ρ low bs ts)
summands_force p ρ low (Var a ∷ bs) ts = λ x e.
    must_mono p ρ (summands bs (ts ++ just x)) (λ us. total ρ us + ones bs ≡ total ρ (ts ++ just x) + tally (lists bit_number_of ρ bs)) (λ us. total ρ us + ones bs ≡ total ρ ts + (ρ a.variable + tally (lists bit_number_of ρ bs)))
    (λ us h. let q : ρ x ≡ ρ a.variable = e ∙ ap (λ (t : ℕ). t % p) (omega arith) ∙ mod-eq_of_lt (low.low a.variable) in let s = total_append ρ ts (just x) in omega arith) (summands_force p ρ low bs (ts ++ just x))

summands_pure : (bs : List Boolean) (ts : List Term) → Pure (summands bs ts)
summands_pure [] ts = tt
summands_pure (Constant b ∷ bs) ts = summands_pure bs ts
summands_pure (Var a ∷ bs) ts = λ x. summands_pure bs (ts ++ just x)

pub sum_fixes : (p : ℕ) → 1 < p → (bs : List Boolean) → Fixes p (λ ρ. lists bit_number_of ρ bs) number (sum_script bs) Always Always (λ xs. tally xs % p)
sum_fixes p above bs = fixes_pure (sum_script bs) Always (λ xs. tally xs % p)
    (pure_then (summands bs []) (λ ts. combine ts (λ s. topped (ones bs) s)) (summands_pure bs []) (λ ts s. pure_if (eqb (ones bs) 0) (answer s) (combine (times 1 s ∷ (times (ones bs) One ∷ [])) (λ v. answer v)) tt (λ v. tt)))
    (λ ρ low h.
    must_then p ρ (summands bs []) (λ ts. combine ts (λ s. topped (ones bs) s)) (λ us. total ρ us + ones bs ≡ 0 + tally (lists bit_number_of ρ bs)) (λ s. ρ s ≡ tally (lists bit_number_of ρ bs) % p) (summands_force p ρ low bs [])
    (λ us q s es.
    let T : ℕ = total ρ us in
    let whole : (T % p + ones bs) % p ≡ tally (lists bit_number_of ρ bs) % p = add-mod (T % p) (ones bs) p ∙ ap (λ (t : ℕ). (t + ones bs % p) % p) (mod-mod T p) ∙ sym (add-mod T (ones bs) p) ∙ ap (λ (t : ℕ). t % p) (omega (arith, q)) in
    must_if p ρ (eqb (ones bs) 0) (answer s) (combine (times 1 s ∷ (times (ones bs) One ∷ [])) (λ v. answer v)) (λ s. ρ s ≡ tally (lists bit_number_of ρ bs) % p)
    (λ z. let n : ones bs ≡ 0 = true-eqb (ones bs) 0 (sym z) in es ∙ ap (λ (t : ℕ). t % p) (omega arith))
    (λ z v ev. ev ∙ ap (λ (o : ℕ). (1 * ρ s + (ones bs * o + 0)) % p) low.one ∙ ap (λ (t : ℕ). t % p) (omega (arith, es)) ∙ whole)))

-- ---- what a sum of bits says of all of them, and of any
all_says : (xs : List ℕ) → AllBits xs → ((all_of (truths xs) ≡ true) × (tally xs ≡ length xs)) ⊎ ((all_of (truths xs) ≡ false) × (tally xs < length xs))
all_says [] h = inl (refl, refl)
all_says (zero ∷ xs) h = inr (refl, short xs h.1)
  where
    short : (xs : List ℕ) → AllBits xs → 0 + tally xs < suc (length xs)
    short [] h = omega arith
    short (x ∷ xs) h = let q = short xs h.1 in let r = h.0 in omega arith
all_says (suc zero ∷ xs) h = elim (all_says xs h.1) [ inl q ↦ inl (q.0, omega (arith, q.1)) | inr q ↦ inr (q.0, omega (arith, q.1)) ]
all_says (suc (suc x) ∷ xs) h = let q = h.0 in absurd (omega arith)

any_says : (xs : List ℕ) → AllBits xs → ((any_of (truths xs) ≡ false) × (tally xs ≡ 0)) ⊎ ((any_of (truths xs) ≡ true) × (0 < tally xs) × (tally xs ≤ length xs))
any_says [] h = inl (refl, refl)
any_says (zero ∷ xs) h = elim (any_says xs h.1) [ inl q ↦ inl (q.0, omega (arith, q.1)) | inr q ↦ inr (q.0, omega (arith, q.1), omega (arith, q.2)) ]
any_says (suc zero ∷ xs) h = inr (refl, omega arith, most xs h.1)
  where
    most : (xs : List ℕ) → AllBits xs → 1 + tally xs ≤ suc (length xs)
    most [] h = omega arith
    most (x ∷ xs) h = let q = most xs h.1 in let r = h.0 in omega arith
any_says (suc (suc x) ∷ xs) h = let q = h.0 in absurd (omega arith)

-- what the comparison makes of a sum
abbrev weighed : Wide → ℕ → ℕ → ℕ → ℕ
weighed And p k s = equality (k % p, s)
weighed Or p k s = inequality (0, s)

weighed_says : (g : Wide) (p : ℕ) (xs : List ℕ) → length xs < p → AllBits xs → weighed g p (length xs) (tally xs % p) ≡ joined_bit g xs
weighed_says And p xs lt h = elim (all_says xs h) [
  | inl q ↦ ap bit (eq-eqb (length xs % p) (tally xs % p) (ap (λ (t : ℕ). t % p) (sym q.1)) ∙ sym q.0)
  | inr q ↦ ap bit (ne_eqb (length xs % p) (tally xs % p) (λ e. let s = q.1 in let u : length xs ≡ tally xs = sym (mod-eq_of_lt lt) ∙ e ∙ mod-eq_of_lt (omega arith) in omega arith) ∙ sym q.0)
]
weighed_says Or p xs lt h = elim (any_says xs h) [
  | inl q ↦ ap (λ (b : Bool). bit (not b)) (eq-eqb 0 (tally xs % p) (sym (ap (λ (t : ℕ). t % p) q.1 ∙ zero-mod p))) ∙ ap bit (sym q.0)
  | inr q ↦ ap (λ (b : Bool). bit (not b)) (ne_eqb 0 (tally xs % p) (λ e. let s = q.1 in let u = q.2 in let v : tally xs ≡ 0 = sym (mod-eq_of_lt (omega arith)) ∙ sym e in omega arith)) ∙ ap bit (sym q.0)
]

told_truths : (ρ : Val) (bs : List Boolean) → all_constant bs ≡ true → told_all bs ≡ truths (lists bit_number_of ρ bs)
told_truths ρ [] e = refl
told_truths ρ (Constant b ∷ bs) e = ap₂ (λ (x : Bool) (xs : List Bool). x ∷ xs) (sym (known_bit b)) (told_truths ρ bs e)
told_truths ρ (Var a ∷ bs) e = absurd (true≢false (sym e))

-- ---- the gate
module _ (p : ℕ) (P : Prime p) (two : 2 < p) where
  compared_fixes : (g : Wide) (k : ℕ) (s : Variable) → Fixes p (λ ρ. ρ s) allocated_number (compared g p k s) Always Always (weighed g p k)
  compared_fixes And k s =
      fixes_is Always (weighed And p k) (λ x h. tt) (λ x h. (tt, tt)) (λ x h. refl)
      (fixes_then (fixes_pure {of = number} (combine (times k One ∷ []) (λ v. answer v)) Always (λ x. k % p) (λ v. tt) (λ ρ low h v e. e ∙ ap (λ (o : ℕ). (k * o + 0) % p) low.one ∙ ap (λ (t : ℕ). t % p) (omega arith)))
      (λ c. fixes_on (λ ρ. (ρ s, ρ c)) (λ x. (x.1, x.0)) (λ ρ low. refl) (is_eq_fixes p P c s)) (λ x h r. tt))
  compared_fixes Or k s =
      fixes_is Always (weighed Or p k) (λ x h. tt) (λ x h. (tt, tt)) (λ x h. refl)
      (fixes_then (fixes_pure {of = number} (combine [] (λ v. answer v)) Always (λ x. 0) (λ v. tt) (λ ρ low h v e. e ∙ zero-mod p))
      (λ c. fixes_on (λ ρ. (ρ s, ρ c)) (λ x. (x.1, x.0)) (λ ρ low. refl) (is_neq_fixes p P c s)) (λ x h r. tt))

  as_var_fixes : {X : Type 0} {at : Val → X} (s : Script AllocatedBool) {Q R : X → Type 0} {e : X → ℕ} → Fixes p at allocated_number s Q R e → Fixes p at bit_number_of (as_var s) Q R e
  as_var_fixes s {Q} {R} {e} a = fixes_as Q R e (λ x q. q) (λ x q r. r.0) (λ x q r. (r, tt)) (λ x q r. refl) (fixes_next a (λ m. fixes_answer (Var m) Always Always (λ y. y) (λ ρ low h. (tt, refl))) (λ x q r. tt))

  summed_fixes : (g : Wide) (bs : List Boolean) → length bs < p → Fixes p (λ ρ. lists bit_number_of ρ bs) bit_number_of (summed_script g p bs) AllBits Always (joined_bit g)
  summed_fixes g bs lt =
      fixes_if (all_constant bs)
      (λ c. fixes_answer (Constant (joined g (told_all bs))) AllBits Always (joined_bit g) (λ ρ low h. (tt, ap (λ (ts : List Bool). bit (joined g ts)) (told_truths ρ bs c))))
      (λ c. fixes_to (λ ρ. lists bit_number_of ρ bs) (λ xs. xs) AllBits (joined_bit g) (λ ρ low. refl) (λ xs h. tt)
      (λ ρ low h. ap (λ (k : ℕ). weighed g p k (tally (lists bit_number_of ρ bs) % p)) (sym (length_lists bit_number_of ρ bs)) ∙ weighed_says g p (lists bit_number_of ρ bs) (omega (arith, length_lists bit_number_of ρ bs)) h)
      (fixes_is Always (λ xs. weighed g p (length bs) (tally xs % p)) (λ x h. tt) (λ x h. (tt, tt)) (λ x h. refl)
      (fixes_next (sum_fixes p P.0 bs) (λ s. as_var_fixes (compared g p (length bs) s) (compared_fixes g (length bs) s)) (λ x h r. tt))))

  pub kary_fixes : (g : Wide) (bs : List Boolean) → Fixes p (λ ρ. lists bit_number_of ρ bs) bit_number_of (kary_script g p bs) AllBits Always (joined_bit g)
  kary_fixes g bs =
      fixes_if (sums (length bs))
      (λ e. fixes_if (leb p (length bs)) (λ f. fixes_refuse TooManyMembers AllBits Always (joined_bit g)) (λ f. summed_fixes g bs (leb-false p (length bs) f)))
      (λ e. chain_is p P two g bs)

  pub nand_fixes : (bs : List Boolean) → Fixes p (λ ρ. lists bit_number_of ρ bs) bit_number_of (nand_script p bs) AllBits Always (λ xs. bit (not (all_of (truths xs))))
  nand_fixes bs =
      fixes_is AllBits (λ xs. bit (not (all_of (truths xs)))) (λ xs h. h) (λ xs h. (tt, tt)) (λ xs h. ap (λ (b : Bool). bit (not b)) (known_bit (all_of (truths xs))))
      (fixes_next (kary_fixes And bs) (not_fixes p P two) (λ xs h r. bit_low _))

  pub enforce_nand_fixes : (bs : List Boolean) → Fixes p (λ ρ. lists bit_number_of ρ bs) nothing (enforce_nand_script p bs) AllBits NotAll (λ xs. tt)
  enforce_nand_fixes bs =
      fixes_as AllBits NotAll (λ xs. tt) (λ xs h. h) (λ xs h r. none (all_of (truths xs)) r.1) (λ xs h r. (tt, ap bit r)) (λ xs h r. refl)
      (fixes_next (kary_fixes And bs) (zero_fixes p two) (λ xs h r. bit_low _))
    where
      none : (b : Bool) → bit b ≡ 0 → b ≡ false
      none true e = absurd (omega arith)
      none false e = refl

  pub chain_function : (g : Wide) → Function p (lists bit_number_of) bit_number_of (chain_script g p) AllBits (joined_bit g)
  chain_function g = fixes_function (chain_is p P two g)

  pub kary_function : (g : Wide) → Function p (lists bit_number_of) bit_number_of (kary_script g p) AllBits (joined_bit g)
  kary_function g = fixes_function (kary_fixes g)

  pub nand_function : Function p (lists bit_number_of) bit_number_of (nand_script p) AllBits (λ xs. bit (not (all_of (truths xs))))
  nand_function = fixes_function nand_fixes

  pub enforce_nand_law : Law p (lists bit_number_of) nothing (enforce_nand_script p) AllBits (λ xs u. NotAll xs) NotAll (λ xs. tt)
  enforce_nand_law = fixes_law enforce_nand_fixes

-- ---- in order
pub bits_wider : (h k : There) → Wider h k → (bs : List Boolean) → Each (ThereBit h) bs → Each (ThereBit k) bs
bits_wider h k up bs t = each_wider ThereBit bit_wider h k up bs t

terms_append : (h : There) (ts us : List Term) → TermsThere h ts → TermsThere h us → TermsThere h (ts ++ us)
terms_append h [] us t u = u
terms_append h (x ∷ ts) us t u = (t.0, terms_append h ts us t.1 u)

-- what bits name is there
abbrev pub ThereAll : There → List Boolean → Type 0
ThereAll h bs = Each (ThereBit h) bs

-- a variable is there
abbrev pub Here : There → Variable → Type 0
Here h v = h v ≡ true

summands_neat : (p : ℕ) (bs : List Boolean) (ts : List Term) → Neat p (summands bs ts) (λ h. ThereAll h bs × TermsThere h ts) TermsThere
summands_neat p [] ts = neat_answer ts (λ h. ThereAll h [] × TermsThere h ts) TermsThere (λ h t. t.1)
summands_neat p (Constant b ∷ bs) ts = neat_on (λ h. ThereAll h (Constant b ∷ bs) × TermsThere h ts) (λ h t. (t.0.1, t.1)) (summands_neat p bs ts)
summands_neat p (Var a ∷ bs) ts =
    neat_then {s = combine (just a.variable) (λ x. answer x)} (λ h k up t. (bits_wider h k up (Var a ∷ bs) t.0, terms_wider h k up ts t.1))
    (neat_combine (just a.variable) (λ h. ThereAll h (Var a ∷ bs) × TermsThere h ts) (λ h z t. (t.0.0, tt)))
    (λ x. neat_on (λ h. (ThereAll h (Var a ∷ bs) × TermsThere h ts) × Here h x) (λ h t. (t.0.0.1, terms_append h ts (just x) t.0.1 (t.1, tt))) (summands_neat p bs (ts ++ just x)))

sum_neat : (p : ℕ) (bs : List Boolean) → Neat p (sum_script bs) (λ h. ThereAll h bs) Here
sum_neat p bs =
    neat_next (neat_on (λ h. ThereAll h bs) (λ h t. (t, tt)) (summands_neat p bs []))
    (λ ts. neat_next {s = combine ts (λ s. answer s)} {k = λ s. topped (ones bs) s} (neat_combine ts (λ h. TermsThere h ts) (λ h z t. t))
    (λ s. neat_if (eqb (ones bs) 0) (neat_answer s (λ h. Here h s) Here (λ h t. t)) (neat_combine (times 1 s ∷ (times (ones bs) One ∷ [])) (λ h. Here h s) (λ h z t. (t, (z.one, tt))))))

module _ (p : ℕ) (above : 1 < p) where
  pub chain_neat : (g : Gate) (bs : List Boolean) (cur : Boolean) → Neat p (chain_from g p cur bs) (λ h. ThereBit h cur × ThereAll h bs) ThereBit
  chain_neat g [] cur = neat_answer cur (λ h. ThereBit h cur × ThereAll h []) ThereBit (λ h t. t.0)
  chain_neat g (b ∷ bs) cur =
      neat_then (λ h k up t. (bit_wider h k up cur t.0, bits_wider h k up (b ∷ bs) t.1)) (neat_on (λ h. ThereBit h cur × ThereAll h (b ∷ bs)) (λ h t. (t.0, t.1.0)) (gate_neat p above g cur b))
      (λ c. neat_on (λ h. (ThereBit h cur × ThereAll h (b ∷ bs)) × ThereBit h c) (λ h t. (t.1, t.0.1.1)) (chain_neat g bs c))

  pub chain_all_neat : (g : Wide) (bs : List Boolean) → Neat p (chain_script g p bs) (λ h. ThereAll h bs) ThereBit
  chain_all_neat g [] = neat_answer (Constant (joined g [])) (λ h. ThereAll h []) ThereBit (λ h t. tt)
  chain_all_neat g (b ∷ bs) = chain_neat (gate_of g) bs b

  compared_neat : (g : Wide) (k : ℕ) (s : Variable) → Neat p (compared g p k s) (λ h. Here h s) ThereAllocated
  compared_neat And k s =
      neat_then {s = combine (times k One ∷ []) (λ c. answer c)} (λ h l up t. up s t) (neat_combine (times k One ∷ []) (λ h. Here h s) (λ h z t. (z.one, tt)))
      (λ c. neat_on (λ h. Here h s × Here h c) (λ h t. (t.1, t.0)) (is_eq_neat p above c s))
  compared_neat Or k s =
      neat_then {s = combine [] (λ c. answer c)} (λ h l up t. up s t) (neat_combine [] (λ h. Here h s) (λ h z t. tt)) (λ c. neat_on (λ h. Here h s × Here h c) (λ h t. (t.1, t.0)) (is_neq_neat p above c s))

  summed_neat : (g : Wide) (bs : List Boolean) → Neat p (summed_script g p bs) (λ h. ThereAll h bs) ThereBit
  summed_neat g bs =
      neat_if (all_constant bs) (neat_answer (Constant (joined g (told_all bs))) (λ h. ThereAll h bs) ThereBit (λ h t. tt))
      (neat_next (sum_neat p bs) (λ s. neat_next (compared_neat g (length bs) s) (λ a. neat_answer (Var a) (λ h. ThereAllocated h a) ThereBit (λ h t. t))))

  pub kary_neat : (g : Wide) (bs : List Boolean) → Neat p (kary_script g p bs) (λ h. ThereAll h bs) ThereBit
  kary_neat g bs = neat_if (sums (length bs)) (neat_if (leb p (length bs)) (neat_refuse TooManyMembers (λ h. ThereAll h bs) ThereBit) (summed_neat g bs)) (chain_all_neat g bs)

  pub nand_neat : (bs : List Boolean) → Neat p (nand_script p bs) (λ h. ThereAll h bs) ThereBit
  nand_neat bs = neat_next (kary_neat And bs) (not_neat p above)

  pub enforce_nand_neat : (bs : List Boolean) → Neat p (enforce_nand_script p bs) (λ h. ThereAll h bs) Silent
  enforce_nand_neat bs = neat_next (kary_neat And bs) (zero_neat p)

  pub chain_orderly : (g : Wide) → Orderly p (chain_script g p) ThereAll ThereBit
  chain_orderly g = neat_orderly (chain_all_neat g)

  pub kary_orderly : (g : Wide) → Orderly p (kary_script g p) ThereAll ThereBit
  kary_orderly g = neat_orderly (kary_neat g)

  pub nand_orderly : Orderly p (nand_script p) ThereAll ThereBit
  nand_orderly = neat_orderly nand_neat

  pub enforce_nand_orderly : Orderly p (enforce_nand_script p) ThereAll Silent
  enforce_nand_orderly = neat_orderly enforce_nand_neat
