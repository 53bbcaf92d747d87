-- What a watch knows, as the system below it grows and is cut.
use Rattle.std.proofs.Common.{◌≡◌, ℕ, ◌+◌, ◌-◌, ◌<◌, ◌≤◌, Bool, true, false, cond, eqb, leb, ltb, List, [], ◌∷◌, ◌++◌, length, take, drop, get_or, Some, None, Ok, Err, Option, Result, sym, refl, ap, ◌∙◌, subst, arith, lt-ltb, le-ltb, ltb-true, ltb-false, length-append, is_some, ◌⊎◌, inl, inr}
use Rattle.std.proofs.lemmas.List.{get_or_append_left, take-append-drop}
use Rattle.std.proofs.Math.Seq.{get_or-append_seam}
use borrow.Author.Tests.{eqb-false, clash}
use Rattle.relations.specs.declared.term.Variable.{Variable}
use Rattle.relations.specs.declared.term.Variable.TheVariants.{One, Zero, Input, Witness, Combination}
use Rattle.relations.specs.declared.term.Term.{Term}
use Rattle.relations.specs.declared.term.Side.{Side}
use Rattle.relations.specs.declared.term.Side.TheVariants.{Input as input, Witness as witness}
use Rattle.relations.specs.declared.fault.SystemFault.{SystemFault}
use Rattle.relations.specs.declared.fault.SystemFault.TheVariants.{UnknownVariable, TermsFull, MarkRefused}
use Rattle.relations.specs.Sum.{Row, row_of, sum_of}
use Rattle.relations.specs.Meaning.{Meaning, Combo, Ran, Grows, number, kept_at, places, assigned, new_variable, keeping, with_new, full, listed, room, new_lc, has_all, used, with_combo, combo_of, enforce, has_row, row_use, rows_full, with_row, rewind, may_cut, cut_to}
use Rattle.relations.specs.Rows.{reach, Agree, LocalRows, RowsLocal}
use Rattle.relations.specs.Unmet.{met, unmet_from, first_unmet}
use Rattle.relations.proofs.Growth.{growing_new, growing_lc}
use Rattle.laws.proofs.Heads.{places_append}
use Rattle.layers.specs.Watched.{unmet, fails, Watched, among}
use Rattle.layers.proofs.Firsts.{unmet_same, local_more, either, unmet_append, Between, unmet_between}

-- ---- what a system reaches keeps its numbers as the system grows
kept_reached : (c : ℕ) (cs xs : List Combo) → ltb c (places cs) ≡ true → kept_at c (cs ++ xs) ≡ kept_at c cs
kept_reached c [] xs h = let z = ltb-true c 0 h in absurd (omega arith)
kept_reached c (x ∷ cs) xs h = go (eqb c x.sum.size) (ltb c x.sum.size) refl refl (kept_reached (c - (x.sum.size + 1)) cs xs)
  where
    go : (b d : Bool) → eqb c x.sum.size ≡ b → ltb c x.sum.size ≡ d → (ltb (c - (x.sum.size + 1)) (places cs) ≡ true → kept_at (c - (x.sum.size + 1)) (cs ++ xs) ≡ kept_at (c - (x.sum.size + 1)) cs)
        → cond b (number x.kept) (cond d 0 (kept_at (c - (x.sum.size + 1)) (cs ++ xs))) ≡ cond b (number x.kept) (cond d 0 (kept_at (c - (x.sum.size + 1)) cs))
    go true d p q f = refl
    go false true p q f = refl
    go false false p q f =
        let ne : c ≡ x.sum.size → ⊥ = eqb-false c x.sum.size p in
        let ge : x.sum.size ≤ c = ltb-false c x.sum.size q in
        let lt : c < x.sum.size + 1 + places cs = ltb-true c _ h in
        f (lt-ltb _ _ (omega arith))

agree_grown : (m n : Meaning) → Grows m n → Agree (reach m) (assigned m) (assigned n)
agree_grown m n g One h = refl
agree_grown m n g Zero h = refl
agree_grown m n g (Input k) h = ap number (ap (λ (l : List (Option ℕ)). get_or l k None) g.inputs_are ∙ get_or_append_left m.inputs g.inputs None k (ltb-true _ _ h))
agree_grown m n g (Witness k) h = ap number (ap (λ (l : List (Option ℕ)). get_or l k None) g.witnesses_are ∙ get_or_append_left m.witnesses g.witnesses None k (ltb-true _ _ h))
agree_grown m n g (Combination c) h = ap (kept_at c) g.combos_are ∙ kept_reached c m.combos g.combos h

reach_grown : (m n : Meaning) → Grows m n → (v : Variable) → reach m v ≡ true → reach n v ≡ true
reach_grown m n g One h = refl
reach_grown m n g Zero h = refl
reach_grown m n g (Input k) h = let l = ltb-true _ _ h in let e : length n.inputs ≡ length m.inputs + length g.inputs = simp length-append at (ap length g.inputs_are) in lt-ltb _ _ (omega arith)
reach_grown m n g (Witness k) h = let l = ltb-true _ _ h in let e : length n.witnesses ≡ length m.witnesses + length g.witnesses = simp length-append at (ap length g.witnesses_are) in lt-ltb _ _ (omega arith)
reach_grown m n g (Combination c) h = let l = ltb-true _ _ h in let e : places n.combos ≡ places m.combos + places g.combos = ap places g.combos_are ∙ places_append m.combos g.combos in lt-ltb _ _ (omega arith)

-- growth without a row
pub watched_grown : (p : ℕ) (u : Option ℕ) (m n : Meaning) → Grows m n → n.rows ≡ m.rows → Watched p u m → Watched p u n
watched_grown p u m n g e w = record {
  first = w.first ∙ sym (λ i. cond (g.keeps_is i) (judged i) None);
  local = subst (LocalRows (reach n)) (sym e) (local_more (reach m) (reach n) (reach_grown m n g) m.rows w.local);
}
  where
    judged : unmet_from p (assigned n) 0 n.rows ≡ unmet_from p (assigned m) 0 m.rows
    judged = ap (unmet_from p (assigned n) 0) e ∙ unmet_same p (reach m) (assigned m) (assigned n) (agree_grown m n g) 0 m.rows w.local

-- ---- a new variable, and a new combination
rows_new : (d : Side) (o : Option ℕ) (m : Meaning) → (new_variable d o m).1.rows ≡ m.rows
rows_new d o m = go d o (ltb (length (listed d m)) (room d m)) m.keeps
  where
    with : (d : Side) (o : Option ℕ) → (with_new d o m).rows ≡ m.rows
    with input o = refl
    with witness o = refl

    go : (d : Side) (o : Option ℕ) (b k : Bool) → (cond {A = Result Variable SystemFault × Meaning} b (keeping k d o m) (Err (full d), m)).1.rows ≡ m.rows
    go d o true false = with d None
    go d None true true = refl
    go d (Some x) true true = with d (Some x)
    go d o false k = refl

rows_lc : (p : ℕ) (ts : List Term) (m : Meaning) → (new_lc p ts m).1.rows ≡ m.rows
rows_lc p ts m = go (has_all m ts) (leb (used m + ((sum_of p ts).size + 1)) m.term_room)
  where
    go : (k b : Bool) → (cond {A = Result Variable SystemFault × Meaning} k (cond b (Ok (Combination (places m.combos + (sum_of p ts).size)), with_combo (combo_of p ts m) m) (Err TermsFull, m)) (Err UnknownVariable, m)).1.rows ≡ m.rows
    go true true = refl
    go true false = refl
    go false b = refl

pub watched_new : (p : ℕ) (u : Option ℕ) (d : Side) (o : Option ℕ) (m n : Meaning) (r : Result Variable SystemFault) → Ran (new_variable d o) m r n → Watched p u m → Watched p u n
watched_new p u d o m n r e w = subst (Watched p u) (ap (λ q. q.1) e) (watched_grown p u m (new_variable d o m).1 (growing_new d o m) (rows_new d o m) w)

pub watched_lc : (p : ℕ) (u : Option ℕ) (ts : List Term) (m n : Meaning) (r : Result Variable SystemFault) → Ran (new_lc p ts) m r n → Watched p u m → Watched p u n
watched_lc p u ts m n r e w = subst (Watched p u) (ap (λ q. q.1) e) (watched_grown p u m (new_lc p ts m).1 (growing_lc p ts m) (rows_lc p ts m) w)

-- ---- a new row
-- what an answer tells of the system that is left: o where the call was accepted, and else m
abbrev pub Left : {A E : Type 0} → Result A E → Meaning → Meaning → Meaning → Type 0
Left (Ok x) m o n = n ≡ o
Left (Err e) m o n = n ≡ m

pub left_row : (p : ℕ) (a b c : List Term) (m n : Meaning) (r : Result (Unit {0}) SystemFault) → Ran (enforce p a b c) m r n → Left r m (with_row (row_of p a b c) m) n
left_row p a b c m n r e = subst (λ q. Left q.0 m (with_row (row_of p a b c) m) q.1) e (go (has_row m a b c) (leb (used m + row_use (row_of p a b c)) m.term_room) (ltb (length m.rows) m.row_room))
  where
    go : (k t r : Bool) → let q = cond {A = Result (Unit {0}) SystemFault × Meaning} k (cond t (cond r (Ok tt, with_row (row_of p a b c) m) (Err (rows_full m.capped), m)) (Err TermsFull, m)) (Err UnknownVariable, m) in Left q.0 m (with_row (row_of p a b c) m) q.1
    go true true true = refl
    go true true false = refl
    go true false r = refl
    go false t r = refl

-- the new row stands last
first_row : (p : ℕ) (r : Row) (m : Meaning) → first_unmet p (with_row r m) ≡ either (first_unmet p m) (cond (fails p (length m.rows) (with_row r m)) (Some (length m.rows)) None)
first_row p r m = go m.keeps
  where
    judged : (b : Bool) → cond b None (Some (0 + length m.rows)) ≡ cond (unmet (Some b)) (Some (length m.rows)) None
    judged true = refl
    judged false = let e : 0 + length m.rows ≡ length m.rows = omega arith in ap Some e

    there : ltb (length m.rows) (length (m.rows ++ (r ∷ []))) ≡ true
    there = lt-ltb _ _ (omega (arith, length-append m.rows (r ∷ [])))

    last : get_or (m.rows ++ (r ∷ [])) (length m.rows) (row_of 0 [] [] []) ≡ r
    last = get_or-append_seam m.rows r [] (row_of 0 [] [] [])

    go : (k : Bool) → cond k (unmet_from p (assigned (with_row r m)) 0 (m.rows ++ (r ∷ []))) None
        ≡ either (cond k (unmet_from p (assigned m) 0 m.rows) None)
        (cond (unmet (cond k (cond (ltb (length m.rows) (length (m.rows ++ (r ∷ [])))) (Some (met p (assigned (with_row r m)) (get_or (m.rows ++ (r ∷ [])) (length m.rows) (row_of 0 [] [] [])))) None) None)) (Some (length m.rows)) None)
    go false = refl
    go true =
        unmet_append p (assigned m) 0 m.rows (r ∷ [])
        ∙ ap (either (unmet_from p (assigned m) 0 m.rows)) (judged (met p (assigned m) r) ∙ sym (λ i. cond (unmet (cond (there i) (Some (met p (assigned m) (last i))) None)) (Some (length m.rows)) None))

-- ---- a cut
cut_grown : (m : Meaning) (i w k r : ℕ) → Grows (cut_to i w k r m) m
cut_grown m i w k r = record {
  inputs = drop i m.inputs;
  witnesses = drop w m.witnesses;
  combos = drop k m.combos;
  rows = drop r m.rows;
  inputs_are = sym (take-append-drop i m.inputs);
  witnesses_are = sym (take-append-drop w m.witnesses);
  combos_are = sym (take-append-drop k m.combos);
  rows_are = sym (take-append-drop r m.rows);
  keeps_is = refl;
  input_room_is = refl;
  witness_room_is = refl;
  term_room_is = refl;
  row_room_is = refl;
  capped_is = refl;
}

among_either : (n k : ℕ) (x y : Option ℕ) → Between 0 n x → Between n k y → x ≡ among n (either x y)
among_either n k (Some j) y h g = sym (ap (λ (b : Bool). cond b (Some j) None) (lt-ltb j n h.1))
among_either n k None None h g = refl
among_either n k None (Some j) h g = sym (ap (λ (b : Bool). cond b (Some j) None) (le-ltb j n g.0))

first_cut : (p : ℕ) (m : Meaning) (i w k r : ℕ) → RowsLocal (cut_to i w k r m) → first_unmet p (cut_to i w k r m) ≡ among (length (take r m.rows)) (first_unmet p m)
first_cut p m i w k r local = go m.keeps
  where
    whole : unmet_from p (assigned m) 0 m.rows ≡ either (unmet_from p (assigned m) 0 (take r m.rows)) (unmet_from p (assigned m) (0 + length (take r m.rows)) (drop r m.rows))
    whole = sym (ap (unmet_from p (assigned m) 0) (take-append-drop r m.rows)) ∙ unmet_append p (assigned m) 0 (take r m.rows) (drop r m.rows)

    same : unmet_from p (assigned m) 0 (take r m.rows) ≡ unmet_from p (assigned (cut_to i w k r m)) 0 (take r m.rows)
    same = unmet_same p (reach (cut_to i w k r m)) (assigned (cut_to i w k r m)) (assigned m) (agree_grown (cut_to i w k r m) m (cut_grown m i w k r)) 0 (take r m.rows) local

    plain : 0 + length (take r m.rows) ≡ length (take r m.rows)
    plain = omega arith

    go : (q : Bool) → cond q (unmet_from p (assigned (cut_to i w k r m)) 0 (take r m.rows)) None ≡ among (length (take r m.rows)) (cond q (unmet_from p (assigned m) 0 m.rows) None)
    go false = refl
    go true =
        sym same
        ∙ among_either (0 + length (take r m.rows)) (0 + length (take r m.rows) + length (drop r m.rows)) _ _ (unmet_between p (assigned m) 0 (take r m.rows)) (unmet_between p (assigned m) (0 + length (take r m.rows)) (drop r m.rows))
        ∙ (λ j. among (plain j) (sym whole j))

pub left_cut : (i w k r : ℕ) (m n : Meaning) (q : Result (Unit {0}) SystemFault) → Ran (rewind i w k r) m q n → Left q m (cut_to i w k r m) n
left_cut i w k r m n q e = subst (λ x. Left x.0 m (cut_to i w k r m) x.1) e (go (may_cut i w k r m))
  where
    go : (b : Bool) → let x = cond {A = Result (Unit {0}) SystemFault × Meaning} b (Ok tt, cut_to i w k r m) (Err MarkRefused, m) in Left x.0 m (cut_to i w k r m) x.1
    go true = refl
    go false = refl

-- ---- what a watch knows behind each call
-- a refused row changes nothing
pub watched_refused : (p : ℕ) (u : Option ℕ) (a b c : List Term) (m n : Meaning) (e : SystemFault) → Ran (enforce p a b c) m (Err e) n → Watched p u m → Watched p u n
watched_refused p u a b c m n e ran w = subst (Watched p u) (sym (left_row p a b c m n (Err e) ran)) w

-- the first unmet row behind an accepted one, where there are k rows then
next_unmet : (p k : ℕ) (u : Option ℕ) (a b c : List Term) (m n : Meaning) (x : Unit {0}) → Ran (enforce p a b c) m (Ok x) n → k ≡ length n.rows → u ≡ first_unmet p m → either u (cond (fails p (k - 1) n) (Some (k - 1)) None) ≡ first_unmet p n
next_unmet p k u a b c m n x ran count first =
    let r : Row = row_of p a b c in
    let e : n ≡ with_row r m = left_row p a b c m n (Ok x) ran in
    let long : length n.rows ≡ length m.rows + 1 = ap (λ (l : Meaning). length l.rows) e ∙ length-append m.rows (r ∷ []) in
    let last : k - 1 ≡ length m.rows = omega arith in
    (λ i. either (first i) (cond (fails p (last i) (e i)) (Some (last i)) None)) ∙ sym (first_row p r m) ∙ ap (first_unmet p) (sym e)

-- it is that row, where there was none before and the row fails
pub watched_failing : (p k : ℕ) (u : Option ℕ) (a b c : List Term) (m n : Meaning) (x : Unit {0}) → Ran (enforce p a b c) m (Ok x) n → k ≡ length n.rows → RowsLocal n → is_some u ≡ false → fails p (k - 1) n ≡ true → Watched p u m → Watched p (Some (k - 1)) n
watched_failing p k u a b c m n x ran count local none bad w = record { first = go u none (next_unmet p k u a b c m n x ran count w.first); local = local }
  where
    go : (u : Option ℕ) → is_some u ≡ false → either u (cond (fails p (k - 1) n) (Some (k - 1)) None) ≡ first_unmet p n → Some (k - 1) ≡ first_unmet p n
    go None q e = sym (ap (λ (b : Bool). cond b (Some (k - 1)) None) bad) ∙ e
    go (Some j) q e = absurd (clash (sym q))

-- and else the one before
pub watched_standing : (p k : ℕ) (u : Option ℕ) (a b c : List Term) (m n : Meaning) (x : Unit {0}) → Ran (enforce p a b c) m (Ok x) n → k ≡ length n.rows → RowsLocal n → (is_some u ≡ true) ⊎ (fails p (k - 1) n ≡ false) → Watched p u m → Watched p u n
watched_standing p k u a b c m n x ran count local why w = record { first = go u why (next_unmet p k u a b c m n x ran count w.first); local = local }
  where
    go : (u : Option ℕ) → (is_some u ≡ true) ⊎ (fails p (k - 1) n ≡ false) → either u (cond (fails p (k - 1) n) (Some (k - 1)) None) ≡ first_unmet p n → u ≡ first_unmet p n
    go (Some j) q e = e
    go None (inl q) e = absurd (clash q)
    go None (inr q) e = sym (ap (λ (b : Bool). cond b (Some (k - 1)) None) q) ∙ e

-- behind a cut, where there are l rows then
pub watched_cut : (p l : ℕ) (u : Option ℕ) (i w k r : ℕ) (m n : Meaning) (x : Unit {0}) → Ran (rewind i w k r) m (Ok x) n → l ≡ length n.rows → RowsLocal n → Watched p u m → Watched p (among l u) n
watched_cut p l u i w k r m n x ran count local known =
    let e : n ≡ cut_to i w k r m = left_cut i w k r m n (Ok x) ran in
    record {
      first = (λ j. among ((count ∙ ap (λ (q : Meaning). length q.rows) e) j) (known.first j)) ∙ sym (first_cut p m i w k r (subst RowsLocal e local)) ∙ ap (first_unmet p) (sym e);
      local = local;
    }
