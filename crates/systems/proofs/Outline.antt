-- A row's sums written out.
use Rattle.std.proofs.Common.{◌≡◌, ℕ, zero, suc, ◌+◌, ◌-◌, ◌<◌, ◌≤◌, Bool, true, false, cond, eqb, ltb, List, [], ◌∷◌, ◌++◌, length, get_or, take, drop, sym, refl, ap, ◌∙◌, subst, le_of_suc-le-suc, arith, ltb-false, ltb-true, leb-true, Ok, Err, Result, leb, le-ltb, lt-ltb, le-leb}
use borrow.Author.Tests.{lt-leb}
use Rattle.std.proofs.lemmas.Bool.{eqb-true, eqb-false}
use Rattle.relations.specs.declared.term.Variable.{Variable}
use Rattle.relations.specs.declared.term.Variable.TheVariants.{One, Input, Witness}
use Rattle.relations.specs.Sum.{Sum, Row, row_of}
use Rattle.words.specs.Words.{tabulate, pairs, plain}
use Rattle.words.specs.State.{State, Fit, view}
use Rattle.words.proofs.Cuts.{lies}
use Rattle.words.proofs.Tables.{tabulate_same, tabulate_length}
use Rattle.written.specs.declared.Counts.{Counts}
use Rattle.written.specs.declared.writer.Writer.{Writer}
use Rattle.written.specs.Cells.{Lies, Over, written_out}
use Rattle.written.specs.Keeps.{Keeps}
use Rattle.systems.proofs.Worth.{part_worth}
use Rattle.systems.specs.declared.rooms.OutlineFault.{OutlineFault}
use Rattle.systems.specs.declared.rooms.OutlineFault.TheVariants.{NoSuchRow, TooShort}
use Rattle.systems.specs.declared.store.Part.{Part}
use Rattle.systems.specs.declared.store.Part.TheVariants.{A, B, C}
use Rattle.systems.specs.Read.{Writing}
use Rattle.systems.specs.Adding.{PartWritten}
use Rattle.systems.specs.Order.{outline, Ordered}
use Rattle.systems.specs.Outline.{place, working, width, placed, coefficients, row_sum, outlining, KeepsValue}
use Rattle.systems.proofs.Verdicts.{row_is}

-- the words of a part lie in their room
part_lies : (s : State) (part : Part) (i : ℕ) → Fit s → i < s.count → get_or s.row_words (place part i) 0 + get_or s.row_words (place part i + 1) 0 ≤ s.term_room
part_lies s A i f h = (lies s.term_room i s.count s.row_words h f.stack).a
part_lies s B i f h = (lies s.term_room i s.count s.row_words h f.stack).b
part_lies s C i f h = (lies s.term_room i s.count s.row_words h f.stack).c

-- terms in their room lie in the words
lies_in : (s : State) (start len : ℕ) → Fit s → start + len ≤ s.term_room → Lies start len s.term_words
lies_in s start len f h = record { long = omega (arith, f.terms_long); limit = omega (arith, f.term_limit) }

-- they mean the part's sum
part_is : (s : State) (part : Part) (i : ℕ) → i < s.count → plain s.modulus (pairs (get_or s.row_words (place part i) 0) (get_or s.row_words (place part i + 1) 0) s.term_words) ≡ row_sum part i (view s)
part_is s A i h = ap (λ (r : Row). r.a) (sym (row_is s i (row_of 0 [] [] []) h))
part_is s B i h = ap (λ (r : Row). r.b) (sym (row_is s i (row_of 0 [] [] []) h))
part_is s C i h = ap (λ (r : Row). r.c) (sym (row_is s i (row_of 0 [] [] []) h))

-- the first n of a list, place by place
take_more : (n : ℕ) (xs : List ℕ) → n < length xs → take (suc n) xs ≡ take n xs ++ (get_or xs n 0 ∷ [])
take_more n [] h = absurd (omega arith)
take_more zero (x ∷ xs) h = refl
take_more (suc n) (x ∷ xs) h = ap (λ (ys : List ℕ). x ∷ ys) (take_more n xs (le_of_suc-le-suc h))

taken : (n : ℕ) (xs : List ℕ) → n ≤ length xs → take n xs ≡ tabulate n (λ j. get_or xs j 0)
taken zero xs h = refl
taken (suc n) xs h = take_more n xs (omega arith) ∙ ap (λ (ys : List ℕ). ys ++ (get_or xs n 0 ∷ [])) (taken n xs (omega arith))

-- the coefficient at a place
at_placed : (n : Counts) (f : Variable → ℕ) (os qs : List ℕ) (j : ℕ) → Over n f os qs → j < 1 + n.inputs + n.witnesses → get_or qs j 0 ≡ f (placed n.inputs j)
at_placed n f os qs j o h = by_zero (eqb j 0) refl
  where
    by_input : (b : Bool) → ltb (j - 1) n.inputs ≡ b → (j ≡ 0 → ⊥) → get_or qs j 0 ≡ f (cond b (Input (j - 1)) (Witness (j - 1 - n.inputs)))
    by_input true e z =
        let same : j ≡ 1 + (j - 1) = omega arith in
        ap (λ (x : ℕ). get_or qs x 0) same ∙ o.inputs (j - 1) (ltb-true (j - 1) n.inputs e)
    by_input false e z =
        let le : n.inputs ≤ j - 1 = ltb-false (j - 1) n.inputs e in
        let same : j ≡ 1 + n.inputs + (j - 1 - n.inputs) = omega arith in
        ap (λ (x : ℕ). get_or qs x 0) same ∙ o.witnesses (j - 1 - n.inputs) (omega arith)

    by_zero : (b : Bool) → eqb j 0 ≡ b → get_or qs j 0 ≡ f (cond b One (cond (ltb (j - 1) n.inputs) (Input (j - 1)) (Witness (j - 1 - n.inputs))))
    by_zero true e = ap (λ (x : ℕ). get_or qs x 0) (eqb-true j 0 e) ∙ o.one
    by_zero false e = by_input (ltb (j - 1) n.inputs) refl (eqb-false j 0 e)

-- the words beyond those it takes are as they were
beyond_same : (n : ℕ) (os qs : List ℕ) → length qs ≡ length os → ((j : ℕ) → n ≤ j → get_or qs j 0 ≡ get_or os j 0) → drop n qs ≡ drop n os
beyond_same zero [] [] e h = refl
beyond_same zero [] (y ∷ ys) e h = absurd (omega arith)
beyond_same zero (x ∷ xs) [] e h = absurd (omega arith)
beyond_same zero (x ∷ xs) (y ∷ ys) e h = λ i. h 0 (omega arith) i ∷ beyond_same zero xs ys (omega arith) (λ j l. h (suc j) (omega arith)) i
beyond_same (suc n) [] [] e h = refl
beyond_same (suc n) [] (y ∷ ys) e h = absurd (omega arith)
beyond_same (suc n) (x ∷ xs) [] e h = absurd (omega arith)
beyond_same (suc n) (x ∷ xs) (y ∷ ys) e h = beyond_same n xs ys (omega arith) (λ j l. h (suc j) (omega arith))

shaped : (n : Counts) (f : Variable → ℕ) (os qs : List ℕ) (i w : ℕ) → i ≡ n.inputs → w ≡ n.witnesses → Over n f os qs → 1 + i + w ≤ length qs → take (1 + i + w) qs ≡ tabulate (1 + i + w) (λ j. f (placed i j))
shaped n f os qs i w ei ew o h =
    taken (1 + i + w) qs h
    ∙ tabulate_same (1 + i + w) (λ j. get_or qs j 0) (λ j. f (placed i j)) (λ j l. at_placed n f os qs j o (omega (arith, ei, ew)) ∙ ap (λ (x : ℕ). f (placed x j)) (sym ei))

-- what writing a part of a row out leaves
pub record Outlined (s : State) (part : Part) (i : ℕ) (os qs : List ℕ) : Type 0 where
  pub written : take (width (view s)) qs ≡ coefficients s.modulus (view s) (row_sum part i (view s))
  pub beyond : drop (working s) qs ≡ drop (working s) os
  pub keeps : KeepsValue s.modulus (view s) (row_sum part i (view s)) qs

pub outlined : (s : State) (part : Part) (i : ℕ) (os qs : List ℕ) → Fit s → Ordered s → i < s.count → working s ≤ length os → PartWritten s part i os qs → Outlined s part i os qs
outlined s part i os qs f r h l w =
    let ei : length (view s).inputs ≡ s.inputs = tabulate_length s.inputs _ in
    let ew : length (view s).witnesses ≡ s.witnesses = tabulate_length s.witnesses _ in
    record {
      written = shaped (outline s) _ os qs (length (view s).inputs) (length (view s).witnesses) ei ew w.over (omega (arith, ei, ew, w.same_long)) ∙ ap (λ (z : Sum). coefficients s.modulus (view s) z) (part_is s part i h);
      beyond = beyond_same (working s) os qs w.same_long w.over.beyond;
      keeps = subst (λ (z : Sum). KeepsValue s.modulus (view s) z qs) (part_is s part i h) (part_worth s part i qs f r h (omega (arith, w.same_long)) w.keeps);
    }

-- ---- what writing a part of row i out comes to
pub no_such_row : (s : State) (i l : ℕ) → s.count ≤ i → ◌≡◌ {A = Result (Unit {0}) OutlineFault} (Err NoSuchRow) (outlining s.count (working s) i l)
no_such_row s i l h =
    let t : ltb i s.count ≡ false = le-ltb i _ h in
    sym (rw t)

pub too_short : (s : State) (i l : ℕ) → i < s.count → l < working s → ◌≡◌ {A = Result (Unit {0}) OutlineFault} (Err TooShort) (outlining s.count (working s) i l)
too_short s i l h k =
    let t : ltb i s.count ≡ true = lt-ltb i _ h in
    let z : leb (working s) l ≡ false = lt-leb (working s) l k in
    sym (rw (t, z))

pub written_out_fits : (s : State) (i l : ℕ) → i < s.count → working s ≤ l → ◌≡◌ {A = Result (Unit {0}) OutlineFault} (Ok tt) (outlining s.count (working s) i l)
written_out_fits s i l h k =
    let t : ltb i s.count ≡ true = lt-ltb i _ h in
    let z : leb (working s) l ≡ true = le-leb (working s) l k in
    sym (rw (t, z))

-- it is done only where there is such a row, and room to write it
pub outlining_done : (n w i l : ℕ) → ◌≡◌ {A = Result (Unit {0}) OutlineFault} (Ok tt) (outlining n w i l) → (i < n) × (w ≤ l)
outlining_done n w i l e = by_row (ltb i n) refl e
  where
    by_room : (b : Bool) → leb w l ≡ b → i < n → ◌≡◌ {A = Result (Unit {0}) OutlineFault} (Ok tt) (cond b (Ok tt) (Err TooShort)) → (i < n) × (w ≤ l)
    by_room true q h e = (h, leb-true w l q)
    by_room false q h e = cc

    by_row : (b : Bool) → ltb i n ≡ b → ◌≡◌ {A = Result (Unit {0}) OutlineFault} (Ok tt) (cond b (cond (leb w l) (Ok tt) (Err TooShort)) (Err NoSuchRow)) → (i < n) × (w ≤ l)
    by_row true q e = by_room (leb w l) refl (ltb-true i n q) e
    by_row false q e = cc

-- ---- through a writer
pub part_lies_read : (s : State) (part : Part) (i at : ℕ) (ws : List ℕ) → at ≡ place part i → ws ≡ s.term_words → Fit s → i < s.count → Lies (get_or s.row_words at 0) (get_or s.row_words (at + 1) 0) ws
part_lies_read s part i at ws ea e f h =
    subst (λ (vs : List ℕ). Lies (get_or s.row_words at 0) (get_or s.row_words (at + 1) 0) vs) (sym e)
    (subst (λ (x : ℕ). Lies (get_or s.row_words x 0) (get_or s.row_words (x + 1) 0) s.term_words) (sym ea)
    (lies_in s (get_or s.row_words (place part i) 0) (get_or s.row_words (place part i + 1) 0) f (part_lies s part i f h)))

pub part_written : (s : State) (part : Part) (i at : ℕ) (w : Writer) (os qs : List ℕ) → at ≡ place part i → Writing s w → length qs ≡ length os →
    Over w.counts (written_out w.modulus w.counts (get_or s.row_words at 0) (get_or s.row_words (at + 1) 0) w.terms.now) os qs →
    Keeps w.modulus w.counts (get_or s.row_words at 0) (get_or s.row_words (at + 1) 0) w.terms.now qs → PartWritten s part i os qs
part_written s part i at w os qs ea e q o k = record {
  same_long = q;
  over = subst (λ (x : Type 0). x) (λ j. Over (e.counts j) (written_out (e.modulus j) (e.counts j) (get_or s.row_words (ea j) 0) (get_or s.row_words (ea j + 1) 0) (e.terms j)) os qs) o;
  keeps = subst (λ (x : Type 0). x) (λ j. Keeps (e.modulus j) (e.counts j) (get_or s.row_words (ea j) 0) (get_or s.row_words (ea j + 1) 0) (e.terms j) qs) k;
}
