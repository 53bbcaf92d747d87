-- What the scripts of gates of many bits ask for.
use Rattle.std.proofs.Common.{◌≡◌, ◌≢◌, ℕ, suc, ◌+◌, ◌*◌, ◌%◌, ◌<◌, ◌≤◌, Bool, true, false, cond, eqb, leb, List, [], ◌∷◌, ◌++◌, length, replicate, Some, None, Option, sym, refl, ap, ap₂, ◌∙◌, subst, arith, eq-eqb, ne_eqb, false-eqb, leb-true, leb-false, mod-eq_of_lt, one-add, append-nil}
use Rattle.relations.specs.declared.term.Variable.{Variable}
use Rattle.relations.specs.declared.term.Variable.TheVariants.{One, Witness, Combination}
use Rattle.relations.specs.declared.term.Term.{Term}
use Rattle.relations.specs.declared.term.Side.TheVariants.{Witness as witness}
use Rattle.relations.specs.declared.fault.GadgetFault.TheVariants.{TooManyMembers}
use Rattle.relations.specs.Sum.{code, Pairs, handed, total, named, weight, merged, sum_of}
use Rattle.relations.specs.Script.{answer, combine}
use Rattle.relations.specs.Terms.{times, just, less, one_less}
use Rattle.allocated.specs.declared.gate.Gate.{Gate}
use Rattle.allocated.specs.declared.allocated.AllocatedBool.{AllocatedBool}
use Rattle.allocated.specs.Gates.{not_allocated}
use Rattle.boolean.specs.declared.bits.Boolean.{Boolean}
use Rattle.boolean.specs.declared.bits.Boolean.TheVariants.{Constant, Var}
use Rattle.fp.specs.Equality.{differ_script, is_eq_script, is_neq_script}
use Rattle.gates.specs.declared.wide.Wide.{Wide}
use Rattle.gates.specs.declared.wide.Wide.TheVariants.{And, Or}
use Rattle.gates.specs.Kary.{gate_of, joined, chain_from, chain_script, ones, summands, topped, sum_script, compared, all_constant, told_all, summed_script, sums, kary_script, nand_script, enforce_nand_script}
use Rattle.laws.specs.History.{Each}
use Rattle.laws.specs.Bill.{Charge, takes_variable, takes_combination, takes_row, Next}
use lib.ListN.{length-map}
use Rattle.laws.proofs.Theorem.{each_append}
use Rattle.bit_laws.proofs.Lists.{each_mono}
use Rattle.bit_laws.specs.Bills.{shadow, shadows, Due, owes, quits, due_then, not_due, zero_due, gate_due, differ_bill, is_eq_bill, is_neq_bill, chain_due, chain_all_due, variables, one_count, topped_bill, sum_bill, compared_bill, all_known, values_of, summed_due, kary_due, nand_due, enforce_nand_due}
use Rattle.bit_laws.proofs.Sizes.{one_some, just_size, less_size, between_size, ones_size, more_size}
use Rattle.bit_laws.proofs.Owes.{Older, Later, older_real, older_later, combination_apart, OldBit, old_later, Owes, owes_then, owes_answer, owes_refuse, owes_combine, owes_if, owes_as}
use Rattle.bit_laws.proofs.BitBills.{unit, Any, and_same, or_same, gate_owes, not_owes, zero_owes}

-- ---- lists of bits
abbrev pub AllOld : Next → List Boolean → Type 0
AllOld n bs = Each (OldBit n) bs

pub all_later : (n k : Next) → Later n k → (bs : List Boolean) → AllOld n bs → AllOld k bs
all_later n k l bs h = each_mono (OldBit n) (OldBit k) (λ b q. old_later n k l b q) bs h

-- ---- a chain of a gate that doesn't ask whether its operands are one variable
abbrev pub Plain : Gate → Type 0
Plain g = (s : Bool) (a b : Option Bool) → gate_due g s a b ≡ gate_due g false a b

plain : (g : Wide) → Plain (gate_of g)
plain And = and_same
plain Or = or_same

module _ (p : ℕ) (two : 2 < p) where
  pub chain_owes : (g : Gate) → Plain g → (bs : List Boolean) (cur : Boolean) (n : Next) → OldBit n cur → AllOld n bs → Owes p n (chain_from g p cur bs) shadow OldBit (chain_due g (shadow cur) (shadows bs))
  chain_owes g flat [] cur n hc h = owes_answer cur shadow OldBit (shadow cur) refl hc
  chain_owes g flat (b ∷ bs) cur n hc h =
      owes_then (λ c. chain_due g c (shadows bs)) (owes_as (gate_due g false (shadow cur) (shadow b)) (flat _ (shadow cur) (shadow b)) (gate_owes p two n g cur b hc h.0))
      (λ l x up hx. chain_owes g flat bs x l hx (all_later n l up bs h.1))

  pub chain_all_owes : (g : Wide) (bs : List Boolean) (n : Next) → AllOld n bs → Owes p n (chain_script g p bs) shadow OldBit (chain_all_due g (shadows bs))
  chain_all_owes g [] n h = owes_answer (Constant (joined g [])) shadow OldBit (Some (joined g [])) refl tt
  chain_all_owes g (b ∷ bs) n h = chain_owes (gate_of g) (plain g) bs b n h.0 h.1

-- ---- a sum of different combinations
-- the combinations at some places, each once
abbrev terms_at : List ℕ → List Term
terms_at [] = []
terms_at (c ∷ cs) = times 1 (Combination c) ∷ terms_at cs

abbrev Distinct : List ℕ → Type 0
Distinct [] = Unit {0}
Distinct (c ∷ cs) = Each (λ d. c ≢ d) cs × Distinct cs

each_zip : (P Q R : ℕ → Type 0) → ((d : ℕ) → P d → Q d → R d) → (cs : List ℕ) → Each P cs → Each Q cs → Each R cs
each_zip P Q R f [] a b = tt
each_zip P Q R f (c ∷ cs) a b = (f c a.0 b.0, each_zip P Q R f cs a.1 b.1)

-- the code of the combination at a place
abbrev at : ℕ → ℕ
at c = 8 * c + 3

module _ (p : ℕ) (above : 1 < p) where
  apart_total : (c : ℕ) (cs : List ℕ) (a : ℕ) → Each (λ d. c ≢ d) cs → total p a (handed (terms_at cs)) (at c) ≡ a
  apart_total c [] a h = refl
  apart_total c (d ∷ cs) a h = ap (λ (b : Bool). total p (cond b ((a + 1) % p) a) (handed (terms_at cs)) (at c)) (ne_eqb (at d) (at c) (λ e. h.0 (omega arith))) ∙ apart_total c cs a h.1

  apart_named : (c : ℕ) (cs : List ℕ) → Each (λ d. c ≢ d) cs → named (at c) (handed (terms_at cs)) ≡ false
  apart_named c [] h = refl
  apart_named c (d ∷ cs) h = ap (λ (b : Bool). cond b true (named (at c) (handed (terms_at cs)))) (ne_eqb (at d) (at c) (λ e. h.0 (omega arith))) ∙ apart_named c cs h.1

  -- each counts once
  once : (cs : List ℕ) → Distinct cs → Each (λ c. total p 0 (handed (terms_at cs)) (at c) ≡ 1) cs
  once [] h = tt
  once (c ∷ cs) h = (
    ap (λ (b : Bool). total p (cond b ((0 + 1) % p) 0) (handed (terms_at cs)) (at c)) (eq-eqb (at c) (at c) refl) ∙ apart_total c cs ((0 + 1) % p) h.0 ∙ mod-eq_of_lt above,
    each_zip (λ d. c ≢ d) (λ d. total p 0 (handed (terms_at cs)) (at d) ≡ 1) (λ d. total p 0 (handed (terms_at (c ∷ cs))) (at d) ≡ 1)
        (λ d ne e. ap (λ (b : Bool). total p (cond b ((0 + 1) % p) 0) (handed (terms_at cs)) (at d)) (ne_eqb (at c) (at d) (λ q. ne (omega arith))) ∙ e) cs h.0 (once cs h.1),
  )

  merged_size : (all : Pairs) (cs : List ℕ) → Distinct cs → Each (λ c. total p 0 all (at c) ≡ 1) cs → length (merged p all (handed (terms_at cs))) ≡ length cs
  merged_size all [] h w = refl
  merged_size all (c ∷ cs) h w =
      let q : weight p all (at c) (handed (terms_at cs)) ≡ 1 = ap (λ (b : Bool). cond b 0 (total p 0 all (at c))) (apart_named c cs h.0) ∙ w.0 in
      ap (λ (k : ℕ). length (cond (eqb k 0) (merged p all (handed (terms_at cs))) ((at c, k) ∷ merged p all (handed (terms_at cs))))) q ∙ ap suc (merged_size all cs h.1 w.1)

  distinct_size : (cs : List ℕ) → Distinct cs → (sum_of p (terms_at cs)).size ≡ length cs
  distinct_size cs h = merged_size (handed (terms_at cs)) cs h (once cs h)

-- one more, above the others
distinct_end : (cs : List ℕ) (c : ℕ) → Distinct cs → Each (λ d. d < c) cs → Distinct (cs ++ (c ∷ []))
distinct_end [] c h l = (tt, tt)
distinct_end (d ∷ cs) c h l = (apart cs h.0, distinct_end cs c h.1 l.1)
  where
    apart : (es : List ℕ) → Each (λ e. d ≢ e) es → Each (λ e. d ≢ e) (es ++ (c ∷ []))
    apart [] a = (λ e. let q = l.0 in omega arith, tt)
    apart (e ∷ es) a = (a.0, apart es a.1)

terms_end : (cs : List ℕ) (c : ℕ) → terms_at cs ++ just (Combination c) ≡ terms_at (cs ++ (c ∷ []))
terms_end [] c = refl
terms_end (d ∷ cs) c = ap (λ (ts : List Term). times 1 (Combination d) ∷ ts) (terms_end cs c)

length_end : (cs : List ℕ) (c : ℕ) → length (cs ++ (c ∷ [])) ≡ length cs + 1
length_end [] c = refl
length_end (d ∷ cs) c = omega (arith, length_end cs c)

-- k terms, of different combinations that came before the next names
pub record Made (k : ℕ) (n : Next) (ts : List Term) : Type 0 where
  pub places : List ℕ
  pub are : ts ≡ terms_at places
  pub distinct : Distinct places
  pub below : Each (λ c. c < n.place) places
  pub long : length places ≡ k

-- an answer of which nothing is kept
abbrev pub unseen : {A : Type 0} → A → Unit {0}
unseen a = tt

one_counts : (bs : List Boolean) → ones bs ≡ one_count (shadows bs)
one_counts [] = refl
one_counts (Constant true ∷ bs) = ap (λ (k : ℕ). 1 + k) (one_counts bs)
one_counts (Constant false ∷ bs) = one_counts bs
one_counts (Var a ∷ bs) = one_counts bs

ones_most : (bs : List Boolean) → ones bs ≤ length bs
ones_most [] = omega arith
ones_most (Constant true ∷ bs) = omega (arith, ones_most bs)
ones_most (Constant false ∷ bs) = omega (arith, ones_most bs)
ones_most (Var a ∷ bs) = omega (arith, ones_most bs)

module _ (p : ℕ) (two : 2 < p) where
  -- the name of a combination of one term
  abbrev After : Next → Next → Variable → Type 0
  After n l x = (x ≡ Combination (n.place + 1)) × (n.place + 1 < l.place)

  summands_owes : (bs : List Boolean) (cs : List ℕ) (k : ℕ) (n : Next) → AllOld n bs → Distinct cs → Each (λ c. c < n.place) cs → length cs + variables (shadows bs) ≡ k
      → Owes p n (summands bs (terms_at cs)) unseen (Made k) (owes (replicate (variables (shadows bs)) (takes_combination 1)) tt)
  summands_owes [] cs k n h d l e = owes_answer (terms_at cs) unseen (Made k) tt refl (record { places = cs; are = refl; distinct = d; below = l; long = omega arith })
  summands_owes (Constant b ∷ bs) cs k n h d l e = summands_owes bs cs k n h.1 d l e
  summands_owes (Var a ∷ bs) cs k n h d l e =
      owes_as (owes (replicate (1 + variables (shadows bs)) (takes_combination 1)) tt) (ap (λ (j : ℕ). owes (replicate j (takes_combination 1)) tt) (sym (one-add (variables (shadows bs)))))
      (owes_then {s = combine (just a.variable) (λ x. answer x)} {k = λ x. summands bs (terms_at cs ++ just x)} (λ u. owes (replicate (variables (shadows bs)) (takes_combination 1)) tt)
      (owes_combine (just a.variable) 1 unseen (After n) tt (just_size p two 1 a.variable (one_some p two) (older_real n a.variable h.0)) refl (refl, omega arith))
      (λ m x up q.
      let c : ℕ = n.place + 1 in
      subst (λ (ts : List Term). Owes p m (summands bs ts) unseen (Made k) (owes (replicate (variables (shadows bs)) (takes_combination 1)) tt)) (sym (ap (λ (v : Variable). terms_at cs ++ just v) q.0 ∙ terms_end cs c))
      (summands_owes bs (cs ++ (c ∷ [])) k m (all_later n m up bs h.1) (distinct_end cs c d (each_mono (λ d. d < n.place) (λ d. d < c) (λ d q. omega arith) cs l)) (each_append (λ d. d < m.place) cs (c ∷ []) (each_mono (λ d. d < n.place) (λ d. d < m.place) (λ d r. let u = q.1 in omega arith) cs l) (q.1, tt)) (omega (arith, length_end cs c)))))

  topped_owes : (k : ℕ) (s : Variable) (n : Next) → Older n s → k < p → Owes p n (topped k s) unseen Older (owes (topped_bill k) tt)
  topped_owes k s n h lt = go (eqb k 0) refl
    where
      some : k ≢ 0 → k % p ≡ 0 → ⊥
      some ne e = ne (sym (mod-eq_of_lt lt) ∙ e)

      go : (b : Bool) → eqb k 0 ≡ b → Owes p n (cond b (answer s) (combine (times 1 s ∷ (times k One ∷ [])) (λ v. answer v))) unseen Older (owes (cond b [] (takes_combination 2 ∷ [])) tt)
      go true e = owes_answer s unseen Older tt refl h
      go false e = owes_combine (times 1 s ∷ (times k One ∷ [])) 2 unseen Older tt (more_size p two s k (older_real n s h) (some (false-eqb k 0 (sym e)))) refl (omega arith)

  pub sum_owes : (bs : List Boolean) (n : Next) → AllOld n bs → length bs < p → Owes p n (sum_script bs) unseen Older (owes (sum_bill (shadows bs)) tt)
  sum_owes bs n h lt =
      let v : ℕ = variables (shadows bs) in
      let o : ℕ = one_count (shadows bs) in
      owes_then (λ u. owes (takes_combination v ∷ topped_bill o) tt) (summands_owes bs [] v n h tt tt (omega arith))
      (λ l us up m. owes_then {s = combine us (λ s. answer s)} {k = λ s. topped (ones bs) s} (λ u. owes (topped_bill o) tt)
      (owes_combine us v unseen Older tt (ap (λ (ts : List Term). (sum_of p ts).size) m.are ∙ distinct_size p (omega arith) m.places m.distinct ∙ m.long) refl (omega arith))
      (λ j s up₁ q. owes_as (owes (topped_bill o) tt) (ap (λ (k : ℕ). owes (topped_bill k) tt) (one_counts bs)) (topped_owes (ones bs) s j q (omega (arith, ones_most bs)))))

  -- ---- equality of two variables
  abbrev OldAllocated : Next → AllocatedBool → Type 0
  OldAllocated n a = Older n a.variable

  pub differ_owes : (x y : Variable) (n : Next) → Older n x → Older n y → Owes p n (differ_script p x y) unseen OldAllocated (owes (differ_bill (eqb (code x) (code y))) tt)
  differ_owes x y n hx hy = record {
    charged = λ i. takes_variable witness true ∷ (takes_variable witness true ∷ (takes_row (first i) ∷ (takes_combination (less_size p two (Witness n.witness_at) refl i) ∷ (takes_row (second i) ∷ []))));
    ended = (record { inputs = omega arith; witnesses = omega arith; places = omega arith }, refl, omega arith);
  }
    where
      size : ℕ
      size = (sum_of p (less p x y)).size

      first : (sum_of p (less p x y)).size + (sum_of p (just (Witness (n.witness_at + 1)))).size + (sum_of p (just (Witness n.witness_at))).size ≡ cond (eqb (code x) (code y)) 2 4
      first = (λ i. between_size p two x y (older_real n x hx) (older_real n y hy) i + just_size p two 1 (Witness (n.witness_at + 1)) (one_some p two) refl i + just_size p two 1 (Witness n.witness_at) (one_some p two) refl i) ∙ go (eqb (code x) (code y))
        where
          go : (t : Bool) → cond t 0 2 + 1 + 1 ≡ cond t 2 4
          go true = refl
          go false = refl

      second : (sum_of p (less p x y)).size + (sum_of p (just (Combination (n.place + (sum_of p (one_less p (Witness n.witness_at))).size)))).size + 0 ≡ cond (eqb (code x) (code y)) 1 3
      second = (λ i. between_size p two x y (older_real n x hx) (older_real n y hy) i + just_size p two 1 (Combination (n.place + (sum_of p (one_less p (Witness n.witness_at))).size)) (one_some p two) refl i + 0) ∙ go (eqb (code x) (code y))
        where
          go : (t : Bool) → cond t 0 2 + 1 + 0 ≡ cond t 1 3
          go true = refl
          go false = refl

  pub not_allocated_owes : (a : AllocatedBool) (n : Next) → OldAllocated n a → Owes p n (not_allocated p a) unseen OldAllocated (owes (takes_combination 2 ∷ []) tt)
  not_allocated_owes a n h = record {
    charged = ap (λ (k : ℕ). takes_combination k ∷ []) (less_size p two a.variable (older_real n a.variable h));
    ended = (record { inputs = omega arith; witnesses = omega arith; places = omega arith }, refl, omega arith);
  }

  pub is_eq_number_owes : (x y : Variable) (n : Next) → Older n x → Older n y → Owes p n (is_eq_script p x y) unseen OldAllocated (owes (is_eq_bill (eqb (code x) (code y))) tt)
  is_eq_number_owes x y n hx hy = owes_then (λ u. owes (takes_combination 2 ∷ []) tt) (differ_owes x y n hx hy) (λ l a up h. not_allocated_owes a l h)

  pub is_neq_number_owes : (x y : Variable) (n : Next) → Older n x → Older n y → Owes p n (is_neq_script p x y) unseen OldAllocated (owes (is_neq_bill (eqb (code x) (code y))) tt)
  is_neq_number_owes x y n hx hy = owes_then (λ u. owes (takes_combination 2 ∷ []) tt) (is_eq_number_owes x y n hx hy) (λ l a up h. not_allocated_owes a l h)

  -- a new combination, and whether it is another
  abbrev Other : Variable → Next → Variable → Type 0
  Other s l c = Older l c × (code c ≢ code s)

  compared_owes : (g : Wide) (k : ℕ) (s : Variable) (n : Next) → Older n s → (k % p ≡ 0 → ⊥) → Owes p n (compared g p k s) unseen OldAllocated (owes (compared_bill g) tt)
  compared_owes And k s n h some =
      owes_then {s = combine (times k One ∷ []) (λ c. answer c)} {k = λ c. is_eq_script p c s} (λ u. owes (is_eq_bill false) tt)
      (owes_combine (times k One ∷ []) 1 unseen (Other s) tt (ones_size p two k some) refl (omega arith, λ e. combination_apart n s 1 h (sym e)))
      (λ l c up q. owes_as (owes (is_eq_bill false) tt) (ap (λ (b : Bool). owes (is_eq_bill b) tt) (ne_eqb (code c) (code s) q.1)) (is_eq_number_owes c s l q.0 (older_later n l up s h)))
  compared_owes Or k s n h some =
      owes_then {s = combine [] (λ c. answer c)} {k = λ c. is_neq_script p c s} (λ u. owes (is_neq_bill false) tt)
      (owes_combine [] 0 unseen (Other s) tt refl refl (omega arith, λ e. combination_apart n s 0 h (sym e)))
      (λ l c up q. owes_as (owes (is_neq_bill false) tt) (ap (λ (b : Bool). owes (is_neq_bill b) tt) (ne_eqb (code c) (code s) q.1)) (is_neq_number_owes c s l q.0 (older_later n l up s h)))

  -- ---- the gate
  summed_owes : (g : Wide) (bs : List Boolean) (n : Next) → AllOld n bs → 3 < length bs → length bs < p → Owes p n (summed_script g p bs) shadow OldBit (summed_due g (shadows bs))
  summed_owes g bs n h more lt =
      let d : Due (Option Bool) = owes (sum_bill (shadows bs) ++ compared_bill g) None in
      owes_as (summed_due g (shadows bs)) (ap₂ (λ (b : Bool) (ts : List Bool). cond b (owes [] (Some (joined g ts))) (owes (sum_bill (shadows bs) ++ compared_bill g) None)) (all_is bs) (told_is bs))
      (owes_if (all_constant bs) (λ e. owes_answer (Constant (joined g (told_all bs))) shadow OldBit (Some (joined g (told_all bs))) refl tt)
      (λ e. owes_as d (ap (λ (cs : List Charge). owes (sum_bill (shadows bs) ++ cs) None) (append-nil (compared_bill g)))
      (owes_then (λ u. due_then (owes (compared_bill g) (tt {0})) (λ u. owes [] None)) (sum_owes bs n h lt)
      (λ l s up hs. owes_then {k = λ a. answer (Var a)} (λ u. owes [] None) (compared_owes g (length bs) s l hs (λ z. let q : length bs % p ≡ length bs = mod-eq_of_lt lt in omega arith))
      (λ j a up₁ ha. owes_answer (Var a) shadow OldBit None refl ha)))))
    where
      all_is : (bs : List Boolean) → all_constant bs ≡ all_known (shadows bs)
      all_is [] = refl
      all_is (Constant b ∷ bs) = all_is bs
      all_is (Var a ∷ bs) = refl

      told_is : (bs : List Boolean) → told_all bs ≡ values_of (shadows bs)
      told_is [] = refl
      told_is (Constant b ∷ bs) = ap (λ (l : List Bool). b ∷ l) (told_is bs)
      told_is (Var a ∷ bs) = ap (λ (l : List Bool). false ∷ l) (told_is bs)

  pub kary_owes : (g : Wide) (bs : List Boolean) (n : Next) → AllOld n bs → Owes p n (kary_script g p bs) shadow OldBit (kary_due g p (shadows bs))
  kary_owes g bs n h =
      subst (λ (k : ℕ). Owes p n (kary_script g p bs) shadow OldBit (cond (sums k) (cond (leb p k) (quits TooManyMembers) (summed_due g (shadows bs))) (chain_all_due g (shadows bs)))) (sym (length-map bs shadow))
      (owes_if (sums (length bs))
      (λ e. owes_if (leb p (length bs)) (λ f. owes_refuse TooManyMembers shadow OldBit) (λ f. summed_owes g bs n h (let q = leb-true 4 (length bs) e in omega arith) (leb-false p (length bs) f)))
      (λ e. chain_all_owes p two g bs n h))

  pub nand_owes : (bs : List Boolean) (n : Next) → AllOld n bs → Owes p n (nand_script p bs) shadow OldBit (nand_due p (shadows bs))
  nand_owes bs n h = owes_then not_due (kary_owes And bs n h) (λ l x up hx. not_owes p two l x hx)

  pub enforce_nand_owes : (bs : List Boolean) (n : Next) → AllOld n bs → Owes p n (enforce_nand_script p bs) unit Any (enforce_nand_due p (shadows bs))
  enforce_nand_owes bs n h = owes_then zero_due (kary_owes And bs n h) (λ l x up hx. zero_owes p two l x hx)
