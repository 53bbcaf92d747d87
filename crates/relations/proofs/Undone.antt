-- A rewinding after a refused script gives the system back.
use Rattle.std.proofs.Common.{◌≡◌, ℕ, Bool, true, ◌&&◌, leb, List, ◌++◌, length, take, Ok, Err, Result, sym, refl, ap, ◌∙◌, subst, le_refl, arith, length-append, le-leb}
use Rattle.std.proofs.lemmas.List.{take_at}
use Rattle.relations.specs.declared.fault.SystemFault.{SystemFault}
use Rattle.relations.specs.declared.fault.GadgetFault.{GadgetFault}
use Rattle.relations.specs.Meaning.{Meaning, places, combos_within, rows_within, cut_to, may_cut, rewind, Sane, Begins, Stored, cut}
use Rattle.relations.specs.Script.{Script, run, restored, whole}
use Rattle.relations.specs.Meaning.{Grows}
use Rattle.relations.proofs.Growth.{growing_run}

back : {A : Type 0} (xs ys zs : List A) → ys ≡ xs ++ zs → take (length xs) ys ≡ xs
back xs ys zs e = ap (take (length xs)) e ∙ take_at xs zs (length xs) refl

no_shorter : {A : Type 0} (xs ys zs : List A) → ys ≡ xs ++ zs → leb (length xs) (length ys) ≡ true
no_shorter xs ys zs e = le-leb (length xs) (length ys) (omega (arith, simp length-append at (ap length e)))

-- a cut back to what a system was gives it back
cut_back : (m n : Meaning) → Grows m n → cut_to (length m.inputs) (length m.witnesses) (length m.combos) (length m.rows) n ≡ m
cut_back m n g = λ i. record {
  keeps = g.keeps_is i;
  inputs = back m.inputs n.inputs g.inputs g.inputs_are i;
  witnesses = back m.witnesses n.witnesses g.witnesses g.witnesses_are i;
  combos = back m.combos n.combos g.combos g.combos_are i;
  rows = back m.rows n.rows g.rows g.rows_are i;
  input_room = g.input_room_is i;
  witness_room = g.witness_room_is i;
  term_room = g.term_room_is i;
  row_room = g.row_room_is i;
  capped = g.capped_is i;
}

abbrev V : Bool → Bool → Bool → Bool → Bool → Bool → Bool
V a b c d x y = (a && (b && (c && d))) && (x && y)

allowed : (m n : Meaning) → Sane m → Grows m n → may_cut (length m.inputs) (length m.witnesses) (length m.combos) (length m.rows) n ≡ true
allowed m n s g =
    (λ i. V (no_shorter m.inputs n.inputs g.inputs g.inputs_are i) (no_shorter m.witnesses n.witnesses g.witnesses g.witnesses_are i)
    (no_shorter m.combos n.combos g.combos g.combos_are i) (no_shorter m.rows n.rows g.rows g.rows_are i)
    (combos_within (length m.inputs) (length m.witnesses) (places (cs i)) (cs i))
    (rows_within (length m.inputs) (length m.witnesses) (places (cs i)) (back m.rows n.rows g.rows g.rows_are i)))
    ∙ (λ i. s.combos i && s.rows i)
  where
    cs : take (length m.combos) n.combos ≡ m.combos
    cs = back m.combos n.combos g.combos g.combos_are

rewound : (m n : Meaning) → Sane m → Grows m n → rewind (length m.inputs) (length m.witnesses) (length m.combos) (length m.rows) n ≡ (Ok tt, m)
rewound m n s g = rw (allowed m n s g) (ap (λ x. (Ok tt, x)) (cut_back m n g))

-- a mark's lengths are those of a system's lists
pub record Marks (m : Meaning) (i w k r : ℕ) : Type 0 where
  pub inputs : i ≡ length m.inputs
  pub witnesses : w ≡ length m.witnesses
  pub combos : k ≡ length m.combos
  pub rows : r ≡ length m.rows

back_to : {A : Type 0} (p : ℕ) (s : Script A) (m n o : Meaning) (r : Result A GadgetFault) (q : Result (Unit {0}) SystemFault) (a b c d : ℕ) → Sane m → Marks m a b c d → run p s m ≡ (r, n) → rewind a b c d n ≡ (q, o) → ◌≡◌ {A = Result (Unit {0}) SystemFault × Meaning} (Ok tt, m) (q, o)
back_to p s m n o r q a b c d sane at ran re =
    let grown : Grows m n = subst (Grows m) (ap (λ x. x.1) ran) (growing_run p s m) in
    sym (rewound m n sane grown) ∙ sym (λ i. rewind (at.inputs i) (at.witnesses i) (at.combos i) (at.rows i) n) ∙ re

pub undone : {A : Type 0} (p : ℕ) (s : Script A) (m n o : Meaning) (e : GadgetFault) (q : Result (Unit {0}) SystemFault) (a b c d : ℕ) → Sane m → Marks m a b c d → run p s m ≡ (Err e, n) → rewind a b c d n ≡ (q, o) → whole (run p s) m ≡ (Err e, o)
undone p s m n o e q a b c d sane at ran re =
    ap (λ x. restored m x.0 x.1) ran ∙ ap (λ x. (Err e, x.1)) (back_to p s m n o (Err e) q a b c d sane at ran re)

pub never_stuck : {A : Type 0} (p : ℕ) (s : Script A) (m n o : Meaning) (e : GadgetFault) (f : SystemFault) (a b c d : ℕ) → Sane m → Marks m a b c d → run p s m ≡ (Err e, n) → rewind a b c d n ≡ (Err f, o) → ⊥
never_stuck p s m n o e f a b c d sane at ran re =
    let b = ap (λ x. x.0) (back_to p s m n o (Err e) (Err f) a b c d sane at ran re) in
    let z : ◌≡◌ {A = ℕ} 0 1 = cc b in omega arith

-- where the rewinding leaves the system, it leaves its words
pub words_back : {A : Type 0} (p : ℕ) (s : Script A) (m n o : Meaning) (e : GadgetFault) (q : Result (Unit {0}) SystemFault) (a b c d : ℕ) (t u v : Stored) → Sane m → Marks m a b c d → run p s m ≡ (Err e, n) → rewind a b c d n ≡ (q, o) → Begins m t n u → v ≡ cut o u → v ≡ t
words_back p s m n o e q a b c d t u v sane at ran re begins is =
    is ∙ ap (λ x. cut x.1 u) (sym (back_to p s m n o (Err e) q a b c d sane at ran re)) ∙ begins.words

pub begins_refl : (m : Meaning) (t : Stored) → cut m t ≡ t → Begins m t m t
begins_refl m t e = record { shorter = record { inputs = le_refl _; witnesses = le_refl _; combos = le_refl _; rows = le_refl _; terms = le_refl _ }; words = e }

pub same_begins : (m n l : Meaning) (s t u : Stored) → n ≡ m → t ≡ s → Begins l u m s → Begins l u n t
same_begins m n l s t u e f b = subst (λ x. Begins l u x t) (sym e) (subst (λ x. Begins l u m x) (sym f) b)

pub system_back : {A : Type 0} (p : ℕ) (s : Script A) (m n o : Meaning) (e : GadgetFault) (q : Result (Unit {0}) SystemFault) (a b c d : ℕ) → Sane m → Marks m a b c d → run p s m ≡ (Err e, n) → rewind a b c d n ≡ (q, o) → o ≡ m
system_back p s m n o e q a b c d sane at ran re = ap (λ x. x.1) (sym (back_to p s m n o (Err e) q a b c d sane at ran re))
