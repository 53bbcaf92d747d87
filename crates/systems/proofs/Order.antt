-- What adds to a system or cuts it leaves its terms in order.
use Rattle.std.proofs.Common.{◌≡◌, ℕ, zero, suc, ◌+◌, ◌*◌, ◌/◌, ◌%◌, ◌≤◌, Bool, true, false, cond, eqb, ltb, List, [], ◌∷◌, ◌++◌, map, length, take, sym, refl, ap, ◌∙◌, subst, arith}
use native.Mathlib.Nat.{zero-mod}
use Rattle.std.proofs.lemmas.Bool.{and_parts, eqb-false}
use Rattle.relations.specs.declared.term.Variable.{Variable}
use Rattle.relations.specs.declared.term.Variable.TheVariants.{One, Zero, Input, Witness, Combination}
use Rattle.relations.specs.declared.term.Term.{Term}
use Rattle.relations.specs.Sum.{Pairs, code, decode, counted, handed, total, named, weight, merged, code_in, all_in}
use Rattle.relations.specs.Meaning.{places, has_all}
use Rattle.words.specs.Words.{Kept, combo, combinations, Triple, whole, triple, rows, lists_in, triples_in, LcWritten, RowWritten}
use Rattle.words.specs.State.{State, Fit, view, with_lc, with_row}
use Rattle.words.proofs.Areas.{combinations_used}
use Rattle.words.proofs.Cuts.{code_in_more, triple_each, rows_take}
use Rattle.words.proofs.Values.{total_there}
use Rattle.written.specs.declared.Counts.{Counts}
use Rattle.written.specs.Keeps.{up_to, Named}
use Rattle.written.proofs.Keeps.{decode_input, decode_witness, decode_combination}
use Rattle.systems.specs.Held.{Sized, CutAt}
use Rattle.systems.specs.Adding.{LcSized, cut_state}
use Rattle.systems.specs.Order.{outline, InOrder, RowsNamed, Ordered}
use Rattle.systems.proofs.Views.{has_all_in}
use Rattle.systems.proofs.Calls.{lc_combos, lc_rows, row_combos, row_rows}

-- ---- where more is there
-- m has no fewer inputs and witnesses than n
abbrev Roomier : Counts → Counts → Type 0
Roomier n m = (n.inputs ≤ m.inputs) × (n.witnesses ≤ m.witnesses)

named_more : (n m : Counts) (ts : Pairs) → Roomier n m → n.front ≤ m.front → Named n ts → Named m ts
named_more n m [] r e h = tt
named_more n m (t ∷ ts) r e h = (code_in_more n.inputs n.witnesses n.front m.inputs m.witnesses m.front t.0 r.0 r.1 e h.0, h.1, named_more n m ts r e h.2)

pub in_order_more : (n m : Counts) (e : ℕ) (xs : List Kept) → Roomier n m → InOrder n e xs → InOrder m e xs
in_order_more n m e [] r h = tt
in_order_more n m e (x ∷ xs) r h = (named_more (up_to n e) (up_to m e) x.terms r (omega arith) h.0, in_order_more n m (e + length x.terms + 1) xs r h.1)

pub rows_more : (n m : Counts) (ts : List Triple) → Roomier n m → n.front ≤ m.front → RowsNamed n ts → RowsNamed m ts
rows_more n m [] r e h = tt
rows_more n m (t ∷ ts) r e h = ((named_more n m t.a r e h.0.0, named_more n m t.b r e h.0.1, named_more n m t.c r e h.0.2), rows_more n m ts r e h.1)

-- ---- one list after another
pub in_order_append : (n : Counts) (p e : ℕ) (xs ys : List Kept) → InOrder n e xs → InOrder n (e + places (map (combo p) xs)) ys → InOrder n e (xs ++ ys)
in_order_append n p e [] ys h k = subst (λ (x : ℕ). InOrder n x ys) none k
  where
    none : e + 0 ≡ e
    none = omega arith
in_order_append n p e (x ∷ xs) ys h k = (h.0, in_order_append n p (e + length x.terms + 1) xs ys h.1 (subst (λ (m : ℕ). InOrder n m ys) shift k))
  where
    shift : e + (length x.terms + 1 + places (map (combo p) xs)) ≡ e + length x.terms + 1 + places (map (combo p) xs)
    shift = omega arith

pub in_order_split : (n : Counts) (p e : ℕ) (xs ys : List Kept) → InOrder n e (xs ++ ys) → InOrder n e xs × InOrder n (e + places (map (combo p) xs)) ys
in_order_split n p e [] ys h = (tt, subst (λ (x : ℕ). InOrder n x ys) none h)
  where
    none : e ≡ e + 0
    none = omega arith
in_order_split n p e (x ∷ xs) ys h =
    let r = in_order_split n p (e + length x.terms + 1) xs ys h.1 in
    ((h.0, r.0), subst (λ (m : ℕ). InOrder n m ys) shift r.1)
  where
    shift : e + length x.terms + 1 + places (map (combo p) xs) ≡ e + (length x.terms + 1 + places (map (combo p) xs))
    shift = omega arith

pub rows_append : (n : Counts) (xs ys : List Triple) → RowsNamed n xs → RowsNamed n ys → RowsNamed n (xs ++ ys)
rows_append n [] ys h k = k
rows_append n (x ∷ xs) ys h k = (h.0, rows_append n xs ys h.1 k)

pub rows_split : (n : Counts) (xs ys : List Triple) → RowsNamed n (xs ++ ys) → RowsNamed n xs × RowsNamed n ys
rows_split n [] ys h = (tt, h)
rows_split n (x ∷ xs) ys h = let r = rows_split n xs ys h.1 in ((h.0, r.0), r.1)

-- ---- the first of a list, where less is there
take_in_order : (n : Counts) (k e : ℕ) (xs : List Kept) → InOrder n e xs → InOrder n e (take k xs)
take_in_order n zero e xs h = tt
take_in_order n (suc k) e [] h = tt
take_in_order n (suc k) e (x ∷ xs) h = (h.0, take_in_order n k (e + length x.terms + 1) xs h.1)

take_rows : (n : Counts) (k : ℕ) (ts : List Triple) → RowsNamed n ts → RowsNamed n (take k ts)
take_rows n zero ts h = tt
take_rows n (suc k) [] h = tt
take_rows n (suc k) (t ∷ ts) h = (h.0, take_rows n k ts h.1)

-- what stands among the first of each, and before a place, stands among the first before the place
code_both : (i w e j u f c : ℕ) → code_in i w e c ≡ true → code_in j u f c ≡ true → code_in i w f c ≡ true
code_both i w e j u f c = go (eqb (c % 8) 1) (eqb (c % 8) 2) (eqb (c % 8) 3)
  where
    go : (x y z : Bool) → cond x (ltb (c / 8) i) (cond y (ltb (c / 8) w) (cond z (ltb (c / 8) e) true)) ≡ true → cond x (ltb (c / 8) j) (cond y (ltb (c / 8) u) (cond z (ltb (c / 8) f) true)) ≡ true → cond x (ltb (c / 8) i) (cond y (ltb (c / 8) w) (cond z (ltb (c / 8) f) true)) ≡ true
    go true y z p q = p
    go false true z p q = p
    go false false true p q = q
    go false false false p q = refl

named_both : (n m : Counts) (e : ℕ) (ts : Pairs) → all_in m.inputs m.witnesses e ts ≡ true → Named n ts → Named (up_to m n.front) ts
named_both n m e [] a h = tt
named_both n m e (t ∷ ts) a h =
    let b = and_parts (code_in m.inputs m.witnesses e t.0) (all_in m.inputs m.witnesses e ts) a in
    (code_both m.inputs m.witnesses e n.inputs n.witnesses n.front t.0 b.0 h.0, h.1, named_both n m e ts b.1 h.2)

named_all : (n m : Counts) (ts : Pairs) → all_in m.inputs m.witnesses m.front ts ≡ true → Named n ts → Named m ts
named_all n m [] a h = tt
named_all n m (t ∷ ts) a h = let b = and_parts (code_in m.inputs m.witnesses m.front t.0) (all_in m.inputs m.witnesses m.front ts) a in (b.0, h.1, named_all n m ts b.1 h.2)

in_order_both : (n m : Counts) (d e : ℕ) (xs : List Kept) → lists_in m.inputs m.witnesses d xs ≡ true → InOrder n e xs → InOrder m e xs
in_order_both n m d e [] a h = tt
in_order_both n m d e (x ∷ xs) a h =
    let b = and_parts (all_in m.inputs m.witnesses d x.terms) (lists_in m.inputs m.witnesses d xs) a in
    (named_both (up_to n e) m d x.terms b.0 h.0, in_order_both n m d (e + length x.terms + 1) xs b.1 h.1)

rows_all : (n m : Counts) (ts : List Triple) → triples_in m.inputs m.witnesses m.front ts ≡ true → RowsNamed n ts → RowsNamed m ts
rows_all n m [] a h = tt
rows_all n m (t ∷ ts) a h =
    let b = and_parts _ (triples_in m.inputs m.witnesses m.front ts) a in
    let d = triple_each m.inputs m.witnesses m.front t b.0 in
    ((named_all n m t.a d.0 h.0.0, named_all n m t.b d.1 h.0.1, named_all n m t.c d.2 h.0.2), rows_all n m ts b.1 h.1)

pub in_order_cut : (n m : Counts) (k d : ℕ) (xs ys : List Kept) → take k xs ≡ ys → lists_in m.inputs m.witnesses d ys ≡ true → InOrder n 0 xs → InOrder m 0 ys
in_order_cut n m k d xs ys q a h = in_order_both n m d 0 ys a (subst (λ (zs : List Kept). InOrder n 0 zs) q (take_in_order n k 0 xs h))

pub rows_cut : (n m : Counts) (r : ℕ) (xs ys : List Triple) → take r xs ≡ ys → triples_in m.inputs m.witnesses m.front ys ≡ true → RowsNamed n xs → RowsNamed m ys
rows_cut n m r xs ys q a h = rows_all n m ys a (subst (λ (zs : List Triple). RowsNamed n zs) q (take_rows n r xs h))

-- ---- terms that are handed in
-- Zero counts nothing
zero_total : (p : ℕ) (ts : List Term) → total p 0 (handed ts) 5 ≡ 0
zero_total p [] = refl
zero_total p (t ∷ ts) = go t.variable (zero_total p ts)
  where
    go : (v : Variable) → total p 0 (handed ts) 5 ≡ 0 → total p 0 ((code v, counted v t.coefficient) ∷ handed ts) 5 ≡ 0
    go One h = h
    go Zero h = ap (λ (x : ℕ). total p x (handed ts) 5) (zero-mod p) ∙ h
    go (Input n) h = total_there p t.coefficient (handed ts) (8 * n + 1) 5 (λ e. omega arith) ∙ h
    go (Witness n) h = total_there p t.coefficient (handed ts) (8 * n + 2) 5 (λ e. omega arith) ∙ h
    go (Combination n) h = total_there p t.coefficient (handed ts) (8 * n + 3) 5 (λ e. omega arith) ∙ h

-- any other variable is had back from its code
code_back : (p : ℕ) (all ts : List Term) (v : Variable) → (weight p (handed all) (code v) (handed ts) ≡ 0 → ⊥) → code (decode (code v)) ≡ code v
code_back p all ts One h = refl
code_back p all ts Zero h = absurd (h (nothing (named 5 (handed ts))))
  where
    nothing : (b : Bool) → cond b 0 (total p 0 (handed all) 5) ≡ 0
    nothing true = refl
    nothing false = zero_total p all
code_back p all ts (Input n) h = ap code (decode_input n)
code_back p all ts (Witness n) h = ap code (decode_witness n)
code_back p all ts (Combination n) h = ap code (decode_combination n)

merged_named : (p : ℕ) (n : Counts) (all ts : List Term) → all_in n.inputs n.witnesses n.front (handed ts) ≡ true → Named n (merged p (handed all) (handed ts))
merged_named p n all [] h = tt
merged_named p n all (t ∷ ts) h =
    let b = and_parts (code_in n.inputs n.witnesses n.front (code t.variable)) (all_in n.inputs n.witnesses n.front (handed ts)) h in
    go (eqb (weight p (handed all) (code t.variable) (handed ts)) 0) refl b.0 (merged_named p n all ts b.1)
  where
    go : (b : Bool) → eqb (weight p (handed all) (code t.variable) (handed ts)) 0 ≡ b → code_in n.inputs n.witnesses n.front (code t.variable) ≡ true → Named n (merged p (handed all) (handed ts))
        → Named n (cond {A = Pairs} b (merged p (handed all) (handed ts)) ((code t.variable, weight p (handed all) (code t.variable) (handed ts)) ∷ merged p (handed all) (handed ts)))
    go true e c ih = ih
    go false e c ih = (c, code_back p all ts t.variable (eqb-false _ 0 e), ih)

-- they are stored by their codes
pub whole_named : (p : ℕ) (n : Counts) (ts : List Term) → all_in n.inputs n.witnesses n.front (handed ts) ≡ true → Named n (whole p ts)
whole_named p n ts h = merged_named p n ts ts h

-- ---- each call
-- an input or a witness more
pub variable_ordered : (s t : State) → Roomier (outline s) (outline t) → s.front ≤ t.front → combinations s.lcs s.front s.term_words ≡ combinations t.lcs t.front t.term_words → rows s.count s.row_words s.term_words ≡ rows t.count t.row_words t.term_words → Ordered s → Ordered t
variable_ordered s t r e c q o = record {
  combos = subst (λ (xs : List Kept). InOrder (outline t) 0 xs) c (in_order_more (outline s) (outline t) 0 (combinations s.lcs s.front s.term_words) r o.combos);
  rows = subst (λ (xs : List Triple). RowsNamed (outline t) xs) q (rows_more (outline s) (outline t) (rows s.count s.row_words s.term_words) r e o.rows);
}

-- a combination more
pub lc_ordered : (s : State) (ts : List Term) (n kept : ℕ) (vs : List ℕ) → Fit s → LcSized s ts n → LcWritten s.modulus s.front n kept ts s.term_words vs → Ordered s → Ordered (with_lc s n vs)
lc_ordered s ts n kept vs f z x o = record {
  combos = subst (λ (xs : List Kept). InOrder m 0 xs) (sym (lc_combos s ts n kept vs f x))
      (in_order_append m 0 0 (combinations s.lcs s.front s.term_words) (record { terms = whole s.modulus ts; word = kept } ∷ []) (in_order_more (outline s) m 0 (combinations s.lcs s.front s.term_words) same o.combos) (newest, tt));
  rows = subst (λ (xs : List Triple). RowsNamed m xs) (lc_rows s ts n kept vs f z.room x) (rows_more (outline s) m (rows s.count s.row_words s.term_words) same (omega arith) o.rows);
}
  where
    m : Counts
    m = outline (with_lc s n vs)

    same : Roomier (outline s) m
    same = (omega arith, omega arith)

    newest : Named (up_to m (0 + places (map (combo 0) (combinations s.lcs s.front s.term_words)))) (whole s.modulus ts)
    newest = named_more (outline s) (up_to m (0 + places (map (combo 0) (combinations s.lcs s.front s.term_words)))) (whole s.modulus ts) same (omega (arith, combinations_used 0 s.lcs s.front s.term_words f.chain))
        (whole_named s.modulus (outline s) ts (has_all_in s ts f z.known))

-- a row more
pub row_ordered : (s : State) (a b c : List Term) (la lb lc low : ℕ) (qs vs : List ℕ) → Fit s → Sized s a b c la lb lc → low + (la + lb + lc) ≡ s.back → RowWritten s.modulus s.count s.back low a b c s.row_words qs s.term_words vs → Ordered s → Ordered (with_row s low qs vs)
row_ordered s a b c la lb lc low qs vs f z e x o = record {
  combos = subst (λ (xs : List Kept). InOrder (outline s) 0 xs) (row_combos s a b c low qs vs f (omega (arith, z.room, f.terms_in)) x) o.combos;
  rows = subst (λ (xs : List Triple). RowsNamed (outline s) xs) (sym (row_rows s a b c low qs vs f x))
      (rows_append (outline s) (rows s.count s.row_words s.term_words) (triple s.modulus a b c ∷ []) o.rows ((one a z.a_known, one b z.b_known, one c z.c_known), tt));
}
  where
    one : (ts : List Term) → has_all (view s) ts ≡ true → Named (outline s) (whole s.modulus ts)
    one ts h = whole_named s.modulus (outline s) ts (has_all_in s ts f h)

-- a cut
pub cut_ordered : (s : State) (i w k r end low : ℕ) → CutAt s i w k r end low → Ordered s → Ordered (cut_state s i w k r end low)
cut_ordered s i w k r end low x o = record {
  combos = in_order_cut (outline s) (outline (cut_state s i w k r end low)) k end (combinations s.lcs s.front s.term_words) (combinations k end s.term_words) x.cut x.combos_named o.combos;
  rows = rows_cut (outline s) (outline (cut_state s i w k r end low)) r (rows s.count s.row_words s.term_words) (rows r s.row_words s.term_words) (rows_take r s.count s.row_words s.term_words x.r_in) x.rows_named o.rows;
}
