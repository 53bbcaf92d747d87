-- Steps only add to the ends of the lists.
use Rattle.std.proofs.Common.{◌≡◌, ℕ, ◌+◌, Bool, true, false, cond, ltb, leb, List, [], ◌∷◌, ◌++◌, length, Some, None, Ok, Err, Option, Result, sym, refl, ap, ◌∙◌, append_assoc, append-nil}
use Rattle.relations.specs.declared.term.Variable.{Variable}
use Rattle.relations.specs.declared.term.Variable.TheVariants.{Combination}
use Rattle.relations.specs.declared.term.Term.{Term}
use Rattle.relations.specs.declared.fault.SystemFault.{SystemFault}
use Rattle.relations.specs.declared.fault.SystemFault.TheVariants.{UnknownVariable, TermsFull}
use Rattle.relations.specs.declared.fault.GadgetFault.{GadgetFault}
use Rattle.relations.specs.Sum.{Row, row_of, sum_of}
use Rattle.relations.specs.Meaning.{Meaning, Combo, Step, ask, new_variable, keeping, with_new, full, listed, room, new_lc, with_combo, combo_of, enforce, with_row, rows_full, has_all, has_row, used, row_use, places, Grows}
use Rattle.relations.specs.declared.term.Side.{Side}
use Rattle.relations.specs.declared.term.Side.TheVariants.{Input as input, Witness as witness}
use Rattle.relations.specs.Script.{Script, answer, refuse, allocate, combine, row, next, asking, run}

pub grows_refl : (m : Meaning) → Grows m m
grows_refl m = record {
  inputs = [];
  witnesses = [];
  combos = [];
  rows = [];
  inputs_are = sym (append-nil m.inputs);
  witnesses_are = sym (append-nil m.witnesses);
  combos_are = sym (append-nil m.combos);
  rows_are = sym (append-nil m.rows);
  keeps_is = refl;
  input_room_is = refl;
  witness_room_is = refl;
  term_room_is = refl;
  row_room_is = refl;
  capped_is = refl;
}

more : {A : Type 0} (xs ys zs a b : List A) → ys ≡ xs ++ a → zs ≡ ys ++ b → zs ≡ xs ++ (a ++ b)
more xs ys zs a b p q = q ∙ ap (λ l. l ++ b) p ∙ append_assoc xs a b

pub grows_trans : (m n o : Meaning) → Grows m n → Grows n o → Grows m o
grows_trans m n o p q = record {
  inputs = p.inputs ++ q.inputs;
  witnesses = p.witnesses ++ q.witnesses;
  combos = p.combos ++ q.combos;
  rows = p.rows ++ q.rows;
  inputs_are = more m.inputs n.inputs o.inputs p.inputs q.inputs p.inputs_are q.inputs_are;
  witnesses_are = more m.witnesses n.witnesses o.witnesses p.witnesses q.witnesses p.witnesses_are q.witnesses_are;
  combos_are = more m.combos n.combos o.combos p.combos q.combos p.combos_are q.combos_are;
  rows_are = more m.rows n.rows o.rows p.rows q.rows p.rows_are q.rows_are;
  keeps_is = q.keeps_is ∙ p.keeps_is;
  input_room_is = q.input_room_is ∙ p.input_room_is;
  witness_room_is = q.witness_room_is ∙ p.witness_room_is;
  term_room_is = q.term_room_is ∙ p.term_room_is;
  row_room_is = q.row_room_is ∙ p.row_room_is;
  capped_is = q.capped_is ∙ p.capped_is;
}

grows_new : (d : Side) (o : Option ℕ) (m : Meaning) → Grows m (with_new d o m)
grows_new input o m = record {
  inputs = o ∷ [];
  witnesses = [];
  combos = [];
  rows = [];
  inputs_are = refl;
  witnesses_are = sym (append-nil m.witnesses);
  combos_are = sym (append-nil m.combos);
  rows_are = sym (append-nil m.rows);
  keeps_is = refl;
  input_room_is = refl;
  witness_room_is = refl;
  term_room_is = refl;
  row_room_is = refl;
  capped_is = refl;
}
grows_new witness o m = record {
  inputs = [];
  witnesses = o ∷ [];
  combos = [];
  rows = [];
  inputs_are = sym (append-nil m.inputs);
  witnesses_are = refl;
  combos_are = sym (append-nil m.combos);
  rows_are = sym (append-nil m.rows);
  keeps_is = refl;
  input_room_is = refl;
  witness_room_is = refl;
  term_room_is = refl;
  row_room_is = refl;
  capped_is = refl;
}

grows_combo : (x : Combo) (m : Meaning) → Grows m (with_combo x m)
grows_combo x m = record {
  inputs = [];
  witnesses = [];
  combos = x ∷ [];
  rows = [];
  inputs_are = sym (append-nil m.inputs);
  witnesses_are = sym (append-nil m.witnesses);
  combos_are = refl;
  rows_are = sym (append-nil m.rows);
  keeps_is = refl;
  input_room_is = refl;
  witness_room_is = refl;
  term_room_is = refl;
  row_room_is = refl;
  capped_is = refl;
}

grows_row : (r : Row) (m : Meaning) → Grows m (with_row r m)
grows_row r m = record {
  inputs = [];
  witnesses = [];
  combos = [];
  rows = r ∷ [];
  inputs_are = sym (append-nil m.inputs);
  witnesses_are = sym (append-nil m.witnesses);
  combos_are = sym (append-nil m.combos);
  rows_are = refl;
  keeps_is = refl;
  input_room_is = refl;
  witness_room_is = refl;
  term_room_is = refl;
  row_room_is = refl;
  capped_is = refl;
}

-- ---- each call
pub growing_new : (d : Side) (o : Option ℕ) (m : Meaning) → Grows m (new_variable d o m).1
growing_new d o m = go (ltb (length (listed d m)) (room d m)) m.keeps o
  where
    go : (b k : Bool) (o : Option ℕ) → Grows m (cond {A = Result Variable SystemFault × Meaning} b (keeping k d o m) (Err (full d), m)).1
    go true false o = grows_new d None m
    go true true None = grows_refl m
    go true true (Some x) = grows_new d (Some x) m
    go false k o = grows_refl m

pub growing_lc : (p : ℕ) (ts : List Term) (m : Meaning) → Grows m (new_lc p ts m).1
growing_lc p ts m = go (has_all m ts) (leb (used m + ((sum_of p ts).size + 1)) m.term_room)
  where
    go : (k b : Bool) → Grows m (cond {A = Result Variable SystemFault × Meaning} k (cond b (Ok (Combination (places m.combos + (sum_of p ts).size)), with_combo (combo_of p ts m) m) (Err TermsFull, m)) (Err UnknownVariable, m)).1
    go true true = grows_combo (combo_of p ts m) m
    go true false = grows_refl m
    go false b = grows_refl m

pub growing_row : (p : ℕ) (a b c : List Term) (m : Meaning) → Grows m (enforce p a b c m).1
growing_row p a b c m = go (has_row m a b c) (leb (used m + row_use (row_of p a b c)) m.term_room) (ltb (length m.rows) m.row_room)
  where
    go : (k t r : Bool) → Grows m (cond {A = Result (Unit {0}) SystemFault × Meaning} k (cond t (cond r (Ok tt, with_row (row_of p a b c) m) (Err (rows_full m.capped), m)) (Err TermsFull, m)) (Err UnknownVariable, m)).1
    go true true true = grows_row (row_of p a b c) m
    go true true false = grows_refl m
    go true false r = grows_refl m
    go false t r = grows_refl m

growing_asking : {A : Type 0} (d : Side) (vs : List Variable) (f : List (Option ℕ) → Option ℕ) (k : Variable → Step (Result A GadgetFault)) → ((v : Variable) (n : Meaning) → Grows n (k v n).1) → (m : Meaning) → Grows m (asking d vs f k m).1
growing_asking {A} d [] f k h m = go (new_variable d (f []) m).0 (new_variable d (f []) m).1 (growing_new d (f []) m)
  where
    go : (r : Result Variable SystemFault) (n : Meaning) → Grows m n → Grows m (next {A = Variable} {B = A} r n k).1
    go (Ok v) n g = grows_trans m n (k v n).1 g (h v n)
    go (Err e) n g = g
growing_asking {A} d (v ∷ vs) f k h m = go (ask v m).0 (λ o. growing_asking d vs (λ os. f (o ∷ os)) k h m)
  where
    go : (r : Result (Option ℕ) SystemFault) → ((o : Option ℕ) → Grows m (asking d vs (λ os. f (o ∷ os)) k m).1) → Grows m (next {A = Option ℕ} {B = A} r m (λ o. asking d vs (λ os. f (o ∷ os)) k)).1
    go (Ok o) g = g o
    go (Err e) g = grows_refl m

-- whatever the script, its lists only grow
pub growing_run : {A : Type 0} (p : ℕ) (s : Script A) (m : Meaning) → Grows m (run p s m).1
growing_run p (answer x) m = grows_refl m
growing_run p (refuse e) m = grows_refl m
growing_run p (allocate d vs f k) m = growing_asking d vs f (λ v. run p (k v)) (λ v n. growing_run p (k v) n) m
growing_run {A} p (combine ts k) m = go (new_lc p ts m).0 (new_lc p ts m).1 (growing_lc p ts m) (λ v n. growing_run p (k v) n)
  where
    go : (r : Result Variable SystemFault) (n : Meaning) → Grows m n → ((v : Variable) (n : Meaning) → Grows n (run p (k v) n).1) → Grows m (next {A = Variable} {B = A} r n (λ v. run p (k v))).1
    go (Ok v) n g h = grows_trans m n (run p (k v) n).1 g (h v n)
    go (Err e) n g h = g
growing_run {A} p (row a b c s) m = go (enforce p a b c m).0 (enforce p a b c m).1 (growing_row p a b c m) (λ n. growing_run p s n)
  where
    go : (r : Result (Unit {0}) SystemFault) (n : Meaning) → Grows m n → ((n : Meaning) → Grows n (run p s n).1) → Grows m (next {A = Unit {0}} {B = A} r n (λ u. run p s)).1
    go (Ok u) n g h = grows_trans m n (run p s n).1 g (h n)
    go (Err e) n g h = g
