-- What a call does to a system is the same where values are forgotten, but for the values.
use Rattle.std.proofs.Common.{◌≡◌, ℕ, ◌+◌, ◌-◌, ◌*◌, Bool, true, false, cond, ◌&&◌, eqb, ltb, leb, List, [], ◌∷◌, map, length, take, Some, None, Ok, Err, Option, Result, refl, sym, ap, ◌∙◌, arith}
use Rattle.std.proofs.lemmas.List.{length-map, map-append, take-map}
use Rattle.relations.specs.declared.term.Variable.{Variable}
use Rattle.relations.specs.declared.term.Variable.TheVariants.{One, Zero, Input, Witness, Combination}
use Rattle.relations.specs.declared.term.Term.{Term}
use Rattle.relations.specs.declared.term.Side.{Side}
use Rattle.relations.specs.declared.term.Side.TheVariants.{Input as input, Witness as witness}
use Rattle.relations.specs.declared.fault.SystemFault.{SystemFault}
use Rattle.relations.specs.declared.fault.SystemFault.TheVariants.{UnknownVariable, TermsFull, InputsFull, WitnessesFull, MarkRefused}
use Rattle.relations.specs.Sum.{sum_of, row_of}
use Rattle.relations.specs.Meaning.{Meaning, Combo, places, rows_use, is_head, known, all_known, has, has_all, has_row, used, row_use, combo_of, with_combo, with_row, rows_full, with_new, keeping, new_variable, new_lc, admit, enforce, combos_within, rows_within, may_cut, rewind, cut_to, Stored, cut, Begins, Extends}
use Rattle.systems.specs.Forgotten.{no_value, shape, forgotten, without}
use Rattle.systems.proofs.Grown.{grown}

-- ---- what a system has and uses
pub places_same : (xs : List Combo) → places (map shape xs) ≡ places xs
places_same [] = refl
places_same (x ∷ xs) = ap (λ (n : ℕ). x.sum.size + 1 + n) (places_same xs)

head_same : (c : ℕ) (xs : List Combo) → is_head c (map shape xs) ≡ is_head c xs
head_same c [] = refl
head_same c (x ∷ xs) = ap (λ (b : Bool). cond (eqb c x.sum.size) true (cond (ltb c x.sum.size) false b)) (head_same (c - (x.sum.size + 1)) xs)

known_same : (i w : ℕ) (cs : List Combo) (v : Variable) → known i w (map shape cs) v ≡ known i w cs v
known_same i w cs One = refl
known_same i w cs Zero = refl
known_same i w cs (Input k) = refl
known_same i w cs (Witness k) = refl
known_same i w cs (Combination c) = head_same c cs

all_known_same : (i w : ℕ) (cs : List Combo) (ts : List Term) → all_known i w (map shape cs) ts ≡ all_known i w cs ts
all_known_same i w cs [] = refl
all_known_same i w cs (t ∷ ts) = λ k. known_same i w cs t.variable k && all_known_same i w cs ts k

pub has_same : (m : Meaning) (v : Variable) → has (forgotten m) v ≡ has m v
has_same m v = (λ k. known (length-map m.inputs no_value k) (length-map m.witnesses no_value k) (map shape m.combos) v) ∙ known_same (length m.inputs) (length m.witnesses) m.combos v

pub has_all_same : (m : Meaning) (ts : List Term) → has_all (forgotten m) ts ≡ has_all m ts
has_all_same m ts = (λ k. all_known (length-map m.inputs no_value k) (length-map m.witnesses no_value k) (map shape m.combos) ts) ∙ all_known_same (length m.inputs) (length m.witnesses) m.combos ts

has_row_same : (m : Meaning) (a b c : List Term) → has_row (forgotten m) a b c ≡ has_row m a b c
has_row_same m a b c = λ k. has_all_same m a k && (has_all_same m b k && has_all_same m c k)

pub used_same : (m : Meaning) → used (forgotten m) ≡ used m
used_same m = ap (λ (n : ℕ). n + rows_use m.rows) (places_same m.combos)

pub within_same : (i w e : ℕ) (xs : List Combo) → combos_within i w e (map shape xs) ≡ combos_within i w e xs
within_same i w e [] = refl
within_same i w e (x ∷ xs) = ap (λ (b : Bool). x.sum.within i w e && b) (within_same i w e xs)

-- ---- calls
-- an answer and what it leaves, where values are forgotten
abbrev pub hidden : {A : Type 0} → A × Meaning → A × Meaning
hidden q = (q.0, forgotten q.1)

grown_input : (m : Meaning) (y : Option ℕ) → ◌≡◌ {A = Result Variable SystemFault × Meaning} (Ok (Input (length (map no_value m.inputs))), with_new input None (forgotten m)) (Ok (Input (length m.inputs)), forgotten (with_new input y m))
grown_input m y = λ i. (Ok (Input (length-map m.inputs no_value i)), record { keeps = false; inputs = sym (map-append no_value m.inputs (y ∷ [])) i; witnesses = map no_value m.witnesses; combos = map shape m.combos; rows = m.rows; input_room = m.input_room; witness_room = m.witness_room; term_room = m.term_room; row_room = m.row_room; capped = m.capped })

grown_witness : (m : Meaning) (y : Option ℕ) → ◌≡◌ {A = Result Variable SystemFault × Meaning} (Ok (Witness (length (map no_value m.witnesses))), with_new witness None (forgotten m)) (Ok (Witness (length m.witnesses)), forgotten (with_new witness y m))
grown_witness m y = λ i. (Ok (Witness (length-map m.witnesses no_value i)), record { keeps = false; inputs = map no_value m.inputs; witnesses = sym (map-append no_value m.witnesses (y ∷ [])) i; combos = map shape m.combos; rows = m.rows; input_room = m.input_room; witness_room = m.witness_room; term_room = m.term_room; row_room = m.row_room; capped = m.capped })

-- a new variable never misses its value
pub variable_hidden : (d : Side) (o : Option ℕ) (x : ℕ) (m : Meaning) → new_variable d o (forgotten m) ≡ hidden (new_variable d (Some x) m)
variable_hidden input o x m = ap (λ (n : ℕ). cond (ltb n m.input_room) (keeping false input o (forgotten m)) (Err InputsFull, forgotten m)) (length-map m.inputs no_value) ∙ go (ltb (length m.inputs) m.input_room) m.keeps
  where
    go : (b k : Bool) → cond b (keeping false input o (forgotten m)) (Err InputsFull, forgotten m) ≡ hidden (cond b (keeping k input (Some x) m) (Err InputsFull, m))
    go true true = grown_input m (Some x)
    go true false = grown_input m None
    go false k = refl
variable_hidden witness o x m = ap (λ (n : ℕ). cond (ltb n m.witness_room) (keeping false witness o (forgotten m)) (Err WitnessesFull, forgotten m)) (length-map m.witnesses no_value) ∙ go (ltb (length m.witnesses) m.witness_room) m.keeps
  where
    go : (b k : Bool) → cond b (keeping false witness o (forgotten m)) (Err WitnessesFull, forgotten m) ≡ hidden (cond b (keeping k witness (Some x) m) (Err WitnessesFull, m))
    go true true = grown_witness m (Some x)
    go true false = grown_witness m None
    go false k = refl

pub lc_answer : (p : ℕ) (ts : List Term) (m : Meaning) → (new_lc p ts (forgotten m)).0 ≡ (new_lc p ts m).0
lc_answer p ts m =
    (λ i. (cond {A = Result Variable SystemFault × Meaning} (has_all_same m ts i) (cond (leb (used_same m i + ((sum_of p ts).size + 1)) m.term_room) (Ok (Combination (places_same m.combos i + (sum_of p ts).size)), with_combo (combo_of p ts (forgotten m)) (forgotten m)) (Err TermsFull, forgotten m)) (Err UnknownVariable, forgotten m)).0)
    ∙ go (has_all m ts) (leb (used m + ((sum_of p ts).size + 1)) m.term_room)
  where
    v : Variable
    v = Combination (places m.combos + (sum_of p ts).size)

    go : (h u : Bool) → ◌≡◌ {A = Result Variable SystemFault} (cond {A = Result Variable SystemFault × Meaning} h (cond u (Ok v, with_combo (combo_of p ts (forgotten m)) (forgotten m)) (Err TermsFull, forgotten m)) (Err UnknownVariable, forgotten m)).0 (cond {A = Result Variable SystemFault × Meaning} h (cond u (Ok v, with_combo (combo_of p ts m) m) (Err TermsFull, m)) (Err UnknownVariable, m)).0
    go true true = refl
    go true false = refl
    go false u = refl

pub admit_answer : (p : ℕ) (a b c : List Term) (m : Meaning) → (admit p a b c (forgotten m)).0 ≡ (admit p a b c m).0
admit_answer p a b c m =
    (λ i. (cond {A = Result (Unit {0}) SystemFault × Meaning} (has_row_same m a b c i) (cond (leb (used_same m i + row_use (row_of p a b c)) m.term_room) (Ok tt, forgotten m) (Err TermsFull, forgotten m)) (Err UnknownVariable, forgotten m)).0)
    ∙ go (has_row m a b c) (leb (used m + row_use (row_of p a b c)) m.term_room)
  where
    go : (h u : Bool) → ◌≡◌ {A = Result (Unit {0}) SystemFault} (cond {A = Result (Unit {0}) SystemFault × Meaning} h (cond u (Ok tt, forgotten m) (Err TermsFull, forgotten m)) (Err UnknownVariable, forgotten m)).0 (cond {A = Result (Unit {0}) SystemFault × Meaning} h (cond u (Ok tt, m) (Err TermsFull, m)) (Err UnknownVariable, m)).0
    go true true = refl
    go true false = refl
    go false u = refl

pub enforce_hidden : (p : ℕ) (a b c : List Term) (m : Meaning) → enforce p a b c (forgotten m) ≡ hidden (enforce p a b c m)
enforce_hidden p a b c m =
    (λ i. cond (has_row_same m a b c i) (cond (leb (used_same m i + row_use (row_of p a b c)) m.term_room) (cond (ltb (length m.rows) m.row_room) (Ok tt, with_row (row_of p a b c) (forgotten m)) (Err (rows_full m.capped), forgotten m)) (Err TermsFull, forgotten m)) (Err UnknownVariable, forgotten m))
    ∙ go (has_row m a b c) (leb (used m + row_use (row_of p a b c)) m.term_room) (ltb (length m.rows) m.row_room)
  where
    go : (h u r : Bool) → ◌≡◌ {A = Result (Unit {0}) SystemFault × Meaning} (cond h (cond u (cond r (Ok tt, with_row (row_of p a b c) (forgotten m)) (Err (rows_full m.capped), forgotten m)) (Err TermsFull, forgotten m)) (Err UnknownVariable, forgotten m))
        (hidden (cond h (cond u (cond r (Ok tt, with_row (row_of p a b c) m) (Err (rows_full m.capped), m)) (Err TermsFull, m)) (Err UnknownVariable, m)))
    go true true true = refl
    go true true false = refl
    go true false r = refl
    go false u r = refl

-- ---- cutting back
abbrev V : Bool → Bool → Bool → Bool → Bool → Bool → Bool
V a b c d x y = (a && (b && (c && d))) && (x && y)

pub may_cut_same : (i w k r : ℕ) (m : Meaning) → may_cut i w k r (forgotten m) ≡ may_cut i w k r m
may_cut_same i w k r m =
    (λ t. V (leb i (length-map m.inputs no_value t)) (leb w (length-map m.witnesses no_value t)) (leb k (length-map m.combos shape t)) (leb r (length m.rows)) (combos_within i w (places (take-map shape k m.combos t)) (take-map shape k m.combos t)) (rows_within i w (places (take-map shape k m.combos t)) (take r m.rows)))
    ∙ (λ t. V (leb i (length m.inputs)) (leb w (length m.witnesses)) (leb k (length m.combos)) (leb r (length m.rows)) (combos_within i w (places_same (take k m.combos) t) (map shape (take k m.combos))) (rows_within i w (places_same (take k m.combos) t) (take r m.rows)))
    ∙ (λ t. V (leb i (length m.inputs)) (leb w (length m.witnesses)) (leb k (length m.combos)) (leb r (length m.rows)) (within_same i w (places (take k m.combos)) (take k m.combos) t) (rows_within i w (places (take k m.combos)) (take r m.rows)))

cut_hidden : (i w k r : ℕ) (m : Meaning) → cut_to i w k r (forgotten m) ≡ forgotten (cut_to i w k r m)
cut_hidden i w k r m = λ t. record { keeps = false; inputs = take-map no_value i m.inputs t; witnesses = take-map no_value w m.witnesses t; combos = take-map shape k m.combos t; rows = take r m.rows; input_room = m.input_room; witness_room = m.witness_room; term_room = m.term_room; row_room = m.row_room; capped = m.capped }

pub rewind_hidden : (i w k r : ℕ) (m : Meaning) → rewind i w k r (forgotten m) ≡ hidden (rewind i w k r m)
rewind_hidden i w k r m =
    (λ t. cond (may_cut_same i w k r m t) (Ok tt, cut_hidden i w k r m t) (Err MarkRefused, forgotten m))
    ∙ go (may_cut i w k r m)
  where
    go : (b : Bool) → ◌≡◌ {A = Result (Unit {0}) SystemFault × Meaning} (cond b (Ok tt, forgotten (cut_to i w k r m)) (Err MarkRefused, forgotten m)) (hidden (cond b (Ok tt, cut_to i w k r m) (Err MarkRefused, m)))
    go true = refl
    go false = refl

-- ---- stored words
pub cut_without : (m : Meaning) (t : Stored) → cut (forgotten m) (without t) ≡ without (cut m t)
cut_without m t = λ i. record { inputs = []; witnesses = []; combos = take (2 * places_same m.combos i) t.combos; rows = take (6 * length m.rows) t.rows; terms = take (2 * rows_use m.rows) t.terms }

pub adds_without : (m n : Meaning) (s t : Stored) → Begins m s n t → Extends (forgotten m) (without s) (forgotten n) (without t)
adds_without m n s t b =
    grown (forgotten m) (forgotten n) (without s) (without t) record {
      inputs = omega arith;
      witnesses = omega arith;
      combos = omega (arith, places_same m.combos, places_same n.combos, b.shorter.combos);
      rows = b.shorter.rows;
      terms = b.shorter.terms;
    } (cut_without m t ∙ ap without b.words)

-- ---- a refusal leaves a system as it was
abbrev Stays : {A : Type 0} → Result A SystemFault × Meaning → Meaning → SystemFault → Type 0
Stays q m e = q.0 ≡ Err e → q ≡ (Err e, m)

stays_ok : {A : Type 0} (v : A) (n m : Meaning) (e : SystemFault) → Stays {A = A} (Ok v, n) m e
stays_ok v n m e h = cc

stays_cond : {A : Type 0} (b : Bool) (q : Result A SystemFault × Meaning) (f : SystemFault) (m : Meaning) (e : SystemFault) → Stays q m e → Stays (cond b q (Err f, m)) m e
stays_cond true q f m e s h = s h
stays_cond {A} false q f m e s h = ap (λ (r : Result A SystemFault). (r, m)) h

pub lc_stays : (p : ℕ) (ts : List Term) (m : Meaning) (e : SystemFault) → (new_lc p ts m).0 ≡ Err e → new_lc p ts m ≡ (Err e, m)
lc_stays p ts m e = stays_cond (has_all m ts) _ UnknownVariable m e (stays_cond (leb (used m + ((sum_of p ts).size + 1)) m.term_room) _ TermsFull m e (stays_ok (Combination (places m.combos + (sum_of p ts).size)) (with_combo (combo_of p ts m) m) m e))

pub enforce_stays : (p : ℕ) (a b c : List Term) (m : Meaning) (e : SystemFault) → (enforce p a b c m).0 ≡ Err e → enforce p a b c m ≡ (Err e, m)
enforce_stays p a b c m e = stays_cond (has_row m a b c) _ UnknownVariable m e (stays_cond (leb (used m + row_use (row_of p a b c)) m.term_room) _ TermsFull m e (stays_cond (ltb (length m.rows) m.row_room) _ (rows_full m.capped) m e (stays_ok tt (with_row (row_of p a b c) m) m e)))
