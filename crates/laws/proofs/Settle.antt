-- How a script ends is how its bill is settled.
use Rattle.std.proofs.Common.{◌≡◌, ℕ, ◌+◌, Bool, true, false, cond, ◌&&◌, ltb, leb, List, [], ◌∷◌, ◌++◌, map, length, Some, None, Ok, Err, Option, Result, sym, refl, ap, ◌∙◌, subst, ap₂, arith, length-append, ltb-true, lt-ltb, le-leb, leb-true}
use Rattle.relations.specs.declared.term.Variable.{Variable}
use Rattle.relations.specs.declared.term.Variable.TheVariants.{Combination}
use Rattle.relations.specs.declared.term.Term.{Term}
use Rattle.relations.specs.declared.fault.SystemFault.{SystemFault}
use Rattle.relations.specs.declared.fault.SystemFault.TheVariants.{UnknownVariable, MissingValue, TermsFull}
use Rattle.relations.specs.declared.fault.GadgetFault.{GadgetFault}
use Rattle.relations.specs.declared.fault.GadgetFault.TheVariants.{System}
use Rattle.relations.specs.Sum.{Row, sum_of, row_of}
use Rattle.relations.specs.Meaning.{Meaning, Combo, Step, has, has_all, has_row, known, all_known, assigned, kept, next_of, full, with_new, keeping, new_variable, places, used, row_use, rows_use, with_combo, combo_of, new_lc, with_row, rows_full, enforce}
use Rattle.relations.specs.declared.term.Side.{Side}
use Rattle.relations.specs.declared.term.Side.TheVariants.{Input as input, Witness as witness}
use Rattle.relations.specs.Script.{Script, answer, refuse, allocate, combine, row, then, next, asking, run, restored, whole}
use Rattle.laws.specs.Law.{Val, There, AllThere, TermsThere, Wider, Sees, Steady, present}
use Rattle.laws.specs.Runs.{Agree}
use Rattle.laws.specs.Bill.{Charge, takes_variable, takes_combination, takes_row, stops, Next, names, names_with, named, past, past_terms, charges, Foreseen, ends, Rooms, rooms, Account, account, space, spent, with_variable, with_terms, lacks, pay, follow, settle, settled, billed, nothing_used, plus, cost, tally, Within, Clean, Settled}
use Rattle.laws.proofs.Heads.{places_append}
use Rattle.laws.proofs.Link.{wider_new, wider_combo, new_there, combo_there}
use Rattle.laws.proofs.Own.{assigned_new, assigned_combo, assigned_row}
use Rattle.laws.proofs.Trace.{allocated, combined, enforced, refused}

-- ---- what is named is there
-- two tests at once
both : (x y : Bool) → x ≡ true → y ≡ true → (x && y) ≡ true
both x y p q = ap₂ (λ (u v : Bool). u && v) p q

-- terms pass the system's test
all_there : (i w : ℕ) (cs : List Combo) (ts : List Term) → TermsThere (known i w cs) ts → all_known i w cs ts ≡ true
all_there i w cs [] h = refl
all_there i w cs (t ∷ ts) h = both (known i w cs t.variable) (all_known i w cs ts) h.0 (all_there i w cs ts h.1)

-- asking for what is there comes to the new variable
asking_there : {A : Type 0} (d : Side) (vs : List Variable) (f : List (Option ℕ) → Option ℕ) (k : Variable → Step (Result A GadgetFault)) (m : Meaning) → AllThere (has m) vs
    → asking d vs f k m ≡ next (new_variable d (f (map (kept m) vs)) m).0 (new_variable d (f (map (kept m) vs)) m).1 k
asking_there d [] f k m h = refl
asking_there {A} d (v ∷ vs) f k m h =
    ap (λ (b : Bool). next {A = Option ℕ} {B = A} (cond {A = Result (Option ℕ) SystemFault} b (Ok (kept m v)) (Err UnknownVariable)) m (λ o. asking d vs (λ os. f (o ∷ os)) k)) h.0
    ∙ asking_there d vs (λ os. f (kept m v ∷ os)) k m h.1

-- ---- the names and the account after each step
-- the next names past an input or witness
names_new : (q : Val) (d : Side) (o : Option ℕ) (m : Meaning) → names_with q (with_new d o m) ≡ past d (names_with q m)
names_new q input o m = ap (λ (n : ℕ). record { input_at = n; witness_at = length m.witnesses; place = places m.combos; kept = q }) (length-append m.inputs (o ∷ []))
names_new q witness o m = ap (λ (n : ℕ). record { input_at = length m.inputs; witness_at = n; place = places m.combos; kept = q }) (length-append m.witnesses (o ∷ []))

-- the name of the new one
named_new : (q : Val) (d : Side) (m : Meaning) → named d (names_with q m) ≡ next_of d m
named_new q input m = refl
named_new q witness m = refl

-- the rooms are the same
rooms_new : (d : Side) (o : Option ℕ) (m : Meaning) → rooms (with_new d o m) ≡ rooms m
rooms_new input o m = refl
rooms_new witness o m = refl

-- one more is used
account_new : (d : Side) (o : Option ℕ) (m : Meaning) → account (with_new d o m) ≡ with_variable d (account m)
account_new input o m = ap (λ (n : ℕ). record { inputs = n; witnesses = length m.witnesses; terms = used m; rows = length m.rows }) (length-append m.inputs (o ∷ []))
account_new witness o m = ap (λ (n : ℕ). record { inputs = length m.inputs; witnesses = n; terms = used m; rows = length m.rows }) (length-append m.witnesses (o ∷ []))

-- the places of one more combination
places_snoc : (cs : List Combo) (x : Combo) → places (cs ++ (x ∷ [])) ≡ places cs + (x.sum.size + 1)
places_snoc cs x = places_append cs (x ∷ []) ∙ omega arith

-- the next names past a combination
names_combo : (q : Val) (x : Combo) (m : Meaning) → names_with q (with_combo x m) ≡ past_terms x.sum.size (names_with q m)
names_combo q x m = ap (λ (n : ℕ). record { input_at = length m.inputs; witness_at = length m.witnesses; place = n; kept = q }) (places_snoc m.combos x)

-- its terms and its heading are used
account_combo : (x : Combo) (m : Meaning) → account (with_combo x m) ≡ with_terms (x.sum.size + 1) 0 (account m)
account_combo x m =
    let e : used (with_combo x m) ≡ used m + (x.sum.size + 1) = omega (arith, places_snoc m.combos x) in
    let z : length m.rows ≡ length m.rows + 0 = omega arith in
    λ i. record { inputs = length m.inputs; witnesses = length m.witnesses; terms = e i; rows = z i }

-- the terms of one more row
rows_snoc : (rs : List Row) (r : Row) → rows_use (rs ++ (r ∷ [])) ≡ rows_use rs + row_use r
rows_snoc [] r = omega arith
rows_snoc (q ∷ rs) r = let h = rows_snoc rs r in omega arith

-- its terms and one row are used
account_row : (r : Row) (m : Meaning) → account (with_row r m) ≡ with_terms (row_use r) 1 (account m)
account_row r m =
    let e : used (with_row r m) ≡ used m + row_use r = omega (arith, rows_snoc m.rows r) in
    λ i. record { inputs = length m.inputs; witnesses = length m.witnesses; terms = e i; rows = length-append m.rows (r ∷ []) i }

-- ---- one charge
-- an input or witness, by cases
new_go : {A : Type 0} (d : Side) (m : Meaning) (k : Variable → Step (Result A GadgetFault)) (cs : List Charge)
    → ((w : Option ℕ) → settle (rooms m) (with_variable d (account m)) cs ≡ billed (k (next_of d m) (with_new d w m)))
    → (t q : Bool) (o : Option ℕ) (b : Bool) → (q ≡ true → present o ≡ b)
    → follow (cond t (cond (lacks q b) (Err (System MissingValue)) (Ok (with_variable d (account m)))) (Err (System (full d)))) (λ a. settle (rooms m) a cs)
    ≡ billed (next {A = Variable} {B = A} (cond {A = Result Variable SystemFault × Meaning} t (keeping q d o m) (Err (full d), m)).0 (cond {A = Result Variable SystemFault × Meaning} t (keeping q d o m) (Err (full d), m)).1 k)
new_go {A} d m k cs h true false o b e = h None
new_go {A} d m k cs h true true None b e = ap (λ (c : Bool). follow (cond (lacks true c) (Err (System MissingValue)) (Ok (with_variable d (account m)))) (λ a. settle (rooms m) a cs)) (sym (e refl))
new_go {A} d m k cs h true true (Some x) b e = ap (λ (c : Bool). follow (cond (lacks true c) (Err (System MissingValue)) (Ok (with_variable d (account m)))) (λ a. settle (rooms m) a cs)) (sym (e refl)) ∙ h (Some x)
new_go {A} d m k cs h false q o b e = refl

-- an input or witness is paid as it is added
new_settles : {A : Type 0} (d : Side) (m : Meaning) (k : Variable → Step (Result A GadgetFault)) (cs : List Charge) (o : Option ℕ) (b : Bool)
    → ((w : Option ℕ) → settle (rooms m) (with_variable d (account m)) cs ≡ billed (k (next_of d m) (with_new d w m))) → (m.keeps ≡ true → present o ≡ b)
    → settled (takes_variable d b ∷ cs) m ≡ billed (next {A = Variable} {B = A} (new_variable d o m).0 (new_variable d o m).1 k)
new_settles input m k cs o b h e = new_go input m k cs h (ltb (length m.inputs) m.input_room) m.keeps o b e
new_settles witness m k cs o b h e = new_go witness m k cs h (ltb (length m.witnesses) m.witness_room) m.keeps o b e

-- so is a combination
combo_settles : {A : Type 0} (p : ℕ) (ts : List Term) (m : Meaning) (k : Variable → Step (Result A GadgetFault)) (cs : List Charge)
    → has_all m ts ≡ true → settle (rooms m) (with_terms ((sum_of p ts).size + 1) 0 (account m)) cs ≡ billed (k (Combination (places m.combos + (sum_of p ts).size)) (with_combo (combo_of p ts m) m))
    → settled (takes_combination (sum_of p ts).size ∷ cs) m ≡ billed (next {A = Variable} {B = A} (new_lc p ts m).0 (new_lc p ts m).1 k)
combo_settles {A} p ts m k cs there h = go (has_all m ts) (leb (used m + ((sum_of p ts).size + 1)) m.term_room) there
  where
    go : (q t : Bool) → q ≡ true
        → follow (cond t (Ok (with_terms ((sum_of p ts).size + 1) 0 (account m))) (Err (System TermsFull))) (λ a. settle (rooms m) a cs)
        ≡ billed (next {A = Variable} {B = A} (cond {A = Result Variable SystemFault × Meaning} q (cond t (Ok (Combination (places m.combos + (sum_of p ts).size)), with_combo (combo_of p ts m) m) (Err TermsFull, m)) (Err UnknownVariable, m)).0
        (cond {A = Result Variable SystemFault × Meaning} q (cond t (Ok (Combination (places m.combos + (sum_of p ts).size)), with_combo (combo_of p ts m) m) (Err TermsFull, m)) (Err UnknownVariable, m)).1 k)
    go true true e = h
    go true false e = refl
    go false t e = let z : ◌≡◌ {A = ℕ} 0 1 = cc e in absurd (omega arith)

-- so is a row
row_settles : {A : Type 0} (p : ℕ) (a b c : List Term) (m : Meaning) (k : Step (Result A GadgetFault)) (cs : List Charge)
    → has_row m a b c ≡ true → settle (rooms m) (with_terms (row_use (row_of p a b c)) 1 (account m)) cs ≡ billed (k (with_row (row_of p a b c) m))
    → settled (takes_row (row_use (row_of p a b c)) ∷ cs) m ≡ billed (next {A = Unit {0}} {B = A} (enforce p a b c m).0 (enforce p a b c m).1 (λ u. k))
row_settles {A} p a b c m k cs there h = go (has_row m a b c) (leb (used m + row_use (row_of p a b c)) m.term_room) (ltb (length m.rows) m.row_room) there
  where
    go : (q t r : Bool) → q ≡ true
        → follow (cond t (cond r (Ok (with_terms (row_use (row_of p a b c)) 1 (account m))) (Err (System (rows_full m.capped)))) (Err (System TermsFull))) (λ a. settle (rooms m) a cs)
        ≡ billed (next {A = Unit {0}} {B = A} (cond {A = Result (Unit {0}) SystemFault × Meaning} q (cond t (cond r (Ok tt, with_row (row_of p a b c) m) (Err (rows_full m.capped), m)) (Err TermsFull, m)) (Err UnknownVariable, m)).0
        (cond {A = Result (Unit {0}) SystemFault × Meaning} q (cond t (cond r (Ok tt, with_row (row_of p a b c) m) (Err (rows_full m.capped), m)) (Err TermsFull, m)) (Err UnknownVariable, m)).1 (λ u. k))
    go true true true e = h
    go true true false e = refl
    go true false r e = refl
    go false t r e = let z : ◌≡◌ {A = ℕ} 0 1 = cc e in absurd (omega arith)

-- ---- what is foreseen
-- where giving values does not depend on any, it is foreseen
pub foreseen_steady : {A : Type 0} (h : There) (q : Val) (s : Script A) → Steady s → Foreseen h q s
foreseen_steady h q (answer x) st = tt
foreseen_steady h q (refuse e) st = tt
foreseen_steady h q (allocate d vs f k) st = (λ ρ a. st.0 ρ ∙ sym (st.0 q), λ v. foreseen_steady h q (k v) (st.1 v))
foreseen_steady h q (combine ts k) st = λ v. foreseen_steady h q (k v) (st v)
foreseen_steady h q (row a b c s) st = foreseen_steady h q s st

-- one script after another
pub foreseen_then : {A B : Type 0} (h : There) (q : Val) (s : Script A) (k : A → Script B) → Foreseen h q s → ((x : A) → Foreseen h q (k x)) → Foreseen h q (then s k)
foreseen_then h q (answer x) k a b = b x
foreseen_then h q (refuse e) k a b = tt
foreseen_then h q (allocate d vs f c) k a b = (a.0, λ v. foreseen_then h q (c v) k (a.1 v) b)
foreseen_then h q (combine ts c) k a b = λ v. foreseen_then h q (c v) k (a v) b
foreseen_then h q (row u v w s) k a b = foreseen_then h q s k a b

-- numbers that agree on what is there go on doing so where more is there
agree_on : (h : There) (m n : Meaning) (q : Val) → Wider h (has m) → Agree h q (assigned m) → Agree (has m) (assigned m) (assigned n) → Agree h q (assigned n)
agree_on h m n q w a g v t = g v (w v t) ∙ a v t

-- ---- the whole bill: where all that a script names is there, it ends as its bill is settled. The numbers q are those kept for the variables of h
settles_with : (p : ℕ) {A : Type 0} (h : There) (q : Val) (s : Script A) (m : Meaning) (K : There → A → Type 0) → Wider h (has m) → Agree h q (assigned m) → Sees (has m) s K → Foreseen h q s
    → settled (charges p (names_with q m) s) m ≡ billed (run p s m)
settles_with p h q (answer x) m K w a see st = refl
settles_with p h q (refuse e) m K w a see st = refl
settles_with p {A} h q (allocate d vs f k) m K w a see st =
    new_settles d m (λ v. run p (k v)) (charges p (past d (names_with q m)) (k (named d (names_with q m)))) (f (map (kept m) vs)) (present (f (map (λ v. Some (q v)) vs)))
    (λ o. (λ i. settle (sym (rooms_new d o m) i) (sym (account_new d o m) i) (charges p (sym (names_new q d o m) i) (k (named_new q d m i))))
    ∙ settles_with p h q (k (next_of d m)) (with_new d o m) K (λ v t. wider_new d o m v (w v t)) (agree_on h m (with_new d o m) q w a (assigned_new d o m)) (see.1 (has (with_new d o m)) (wider_new d o m) (next_of d m) (new_there d o m)) (st.1 (next_of d m)))
    (λ keeps. ap (λ (b : Bool). present (f (map (λ v. cond b (Some (assigned m v)) None) vs))) keeps ∙ st.0 (assigned m) a)
    ∙ ap billed (sym (asking_there d vs f (λ v. run p (k v)) m see.0))
settles_with p {A} h q (combine ts k) m K w a see st =
    let c : Combo = combo_of p ts m in
    let v : Variable = Combination (places m.combos + (sum_of p ts).size) in
    combo_settles p ts m (λ v. run p (k v)) (charges p (past_terms (sum_of p ts).size (names_with q m)) (k v)) (all_there (length m.inputs) (length m.witnesses) m.combos ts see.0)
    ((λ i. settle (rooms m) (sym (account_combo c m) i) (charges p (sym (names_combo q c m) i) (k v)))
    ∙ settles_with p h q (k v) (with_combo c m) K (λ x t. wider_combo c m x (w x t)) (agree_on h m (with_combo c m) q w a (assigned_combo c m)) (see.1 (has (with_combo c m)) (wider_combo c m) v (combo_there c m)) (st v))
settles_with p {A} h q (row a b c s) m K w g see st =
    let r : Row = row_of p a b c in
    let all : (ts : List Term) → TermsThere (has m) ts → has_all m ts ≡ true = λ ts. all_there (length m.inputs) (length m.witnesses) m.combos ts in
    row_settles p a b c m (run p s) (charges p (names_with q m) s) (both (has_all m a) (has_all m b && has_all m c) (all a see.0) (both (has_all m b) (has_all m c) (all b see.1) (all c see.2)))
    ((λ i. settle (rooms m) (sym (account_row r m) i) (charges p (names_with q m) s)) ∙ settles_with p h q s (with_row r m) K w (λ v t. ap (λ (f : Val). f v) (sym (assigned_row r m)) ∙ g v t) see.3 st)

-- with the numbers that a system keeps itself
pub settles : (p : ℕ) {A : Type 0} (s : Script A) (m : Meaning) (K : There → A → Type 0) → Sees (has m) s K → Foreseen (has m) (assigned m) s → settled (charges p (names m) s) m ≡ billed (run p s m)
settles p s m K see st = settles_with p (has m) (assigned m) s m K (λ v t. t) (λ v t. refl) see st

-- a bill that cannot be paid is why a script is refused, and one that is paid is what it used
pub settles_ok : (p : ℕ) {A : Type 0} (s : Script A) (m n : Meaning) (x : A) (K : There → A → Type 0) → Sees (has m) s K → Foreseen (has m) (assigned m) s → run p s m ≡ (Ok x, n) → settled (charges p (names m) s) m ≡ Ok (account n)
settles_ok p s m n x K see st e = settles p s m K see st ∙ ap billed e

-- a refused run is a bill that cannot be paid
pub settles_err : (p : ℕ) {A : Type 0} (s : Script A) (m n : Meaning) (e : GadgetFault) (K : There → A → Type 0) → Sees (has m) s K → Foreseen (has m) (assigned m) s → run p s m ≡ (Err e, n) → settled (charges p (names m) s) m ≡ Err e
settles_err p s m n e K see st q = settles p s m K see st ∙ ap billed q

-- and the other way round
pub settled_err : (p : ℕ) {A : Type 0} (s : Script A) (m : Meaning) (e : GadgetFault) (K : There → A → Type 0) → Sees (has m) s K → Foreseen (has m) (assigned m) s → settled (charges p (names m) s) m ≡ Err e → (run p s m).0 ≡ Err e
settled_err p {A} s m e K see st q = go (run p s m).0 (run p s m).1 (sym (settles p s m K see st) ∙ q)
  where
    go : (r : Result A GadgetFault) (n : Meaning) → billed (r, n) ≡ Err e → r ≡ Err e
    go (Ok x) n h = let z : ◌≡◌ {A = ℕ} 0 1 = cc h in absurd (omega arith)
    go (Err f) n h = let z : f ≡ e = cc h in ap Err z

-- a bill that is paid is an accepted run
pub settled_ok : (p : ℕ) {A : Type 0} (s : Script A) (m : Meaning) (a : Account) (K : There → A → Type 0) → Sees (has m) s K → Foreseen (has m) (assigned m) s → settled (charges p (names m) s) m ≡ Ok a → (x : A) × (n : Meaning) × (run p s m ≡ (Ok x, n)) × (account n ≡ a)
settled_ok p {A} s m a K see st q = go (run p s m).0 (run p s m).1 refl (sym (settles p s m K see st) ∙ q)
  where
    go : (r : Result A GadgetFault) (n : Meaning) → run p s m ≡ (r, n) → billed (r, n) ≡ Ok a → (x : A) × (n : Meaning) × (run p s m ≡ (Ok x, n)) × (account n ≡ a)
    go (Ok x) n e h = let z : account n ≡ a = cc h in (x, n, e, z)
    go (Err f) n e h = let z : ◌≡◌ {A = ℕ} 0 1 = cc h in absurd (omega arith)

-- ---- bills one after another
-- the bill of what follows
abbrev pub behind : {A B : Type 0} → ℕ → (A → Script B) → Option (A × Next) → List Charge
behind p k None = []
behind p k (Some (x, n)) = charges p n (k x)

-- the bill of two scripts is one behind the other
pub charges_then : {A B : Type 0} (p : ℕ) (n : Next) (s : Script A) (k : A → Script B) → charges p n (then s k) ≡ charges p n s ++ behind p k (ends p n s)
charges_then p n (answer x) k = refl
charges_then p n (refuse e) k = refl
charges_then p n (allocate d vs f c) k = ap (λ (l : List Charge). takes_variable d (present (f (map (λ v. Some (n.kept v)) vs))) ∷ l) (charges_then p (past d n) (c (named d n)) k)
charges_then p n (combine ts c) k = ap (λ (l : List Charge). takes_combination (sum_of p ts).size ∷ l) (charges_then p (past_terms (sum_of p ts).size n) (c (Combination (n.place + (sum_of p ts).size))) k)
charges_then p n (row a b c s) k = ap (λ (l : List Charge). takes_row (row_use (row_of p a b c)) ∷ l) (charges_then p n s k)

-- where what follows ends
abbrev pub ended : {A B : Type 0} → ℕ → (A → Script B) → Option (A × Next) → Option (B × Next)
ended p k None = None
ended p k (Some (x, n)) = ends p n (k x)

-- where two scripts end
pub ends_then : {A B : Type 0} (p : ℕ) (n : Next) (s : Script A) (k : A → Script B) → ends p n (then s k) ≡ ended p k (ends p n s)
ends_then p n (answer x) k = refl
ends_then p n (refuse e) k = refl
ends_then p n (allocate d vs f c) k = ends_then p (past d n) (c (named d n)) k
ends_then p n (combine ts c) k = ends_then p (past_terms (sum_of p ts).size n) (c (Combination (n.place + (sum_of p ts).size))) k
ends_then p n (row a b c s) k = ends_then p n s k

-- one bill is paid, and then the other
pub settle_append : (r : Rooms) (a : Account) (xs ys : List Charge) → settle r a (xs ++ ys) ≡ follow (settle r a xs) (λ b. settle r b ys)
settle_append r a [] ys = refl
settle_append r a (x ∷ xs) ys = go (pay r a x) (λ b. settle_append r b xs ys)
  where
    go : (z : Result Account GadgetFault) → ((b : Account) → settle r b (xs ++ ys) ≡ follow (settle r b xs) (λ b. settle r b ys)) → follow z (λ b. settle r b (xs ++ ys)) ≡ follow (follow z (λ b. settle r b xs)) (λ b. settle r b ys)
    go (Ok b) h = h b
    go (Err e) h = refl

-- an accepted script answered what the names say
pub ends_with : (p : ℕ) {A : Type 0} (q : Val) (s : Script A) (m n : Meaning) (x : A) → run p s m ≡ (Ok x, n) → ends p (names_with q m) s ≡ Some (x, names_with q n)
ends_with p q (answer y) m n x e = let z : y ≡ x = cc (ap (λ r. r.0) e) in λ i. Some (z i, names_with q (e i).1)
ends_with p q (refuse f) m n x e = absurd (refused f m n x e)
ends_with p {A} q (allocate d vs f k) m n x e =
    let r = allocated d vs f (λ v. run p (k v)) m n x e in
    (λ i. ends p (sym (names_new q d r.value m) i) (k (named_new q d m i))) ∙ ends_with p q (k (next_of d m)) (with_new d r.value m) n x r.rest
ends_with p q (combine ts k) m n x e =
    let r = combined p ts (λ v. run p (k v)) m n x e in
    (λ i. ends p (sym (names_combo q (combo_of p ts m) m) i) (k (Combination (places m.combos + (sum_of p ts).size)))) ∙ ends_with p q (k (Combination (places m.combos + (sum_of p ts).size))) (with_combo (combo_of p ts m) m) n x r.rest
ends_with p q (row a b c s) m n x e =
    let r = enforced p a b c (run p s) m n x e in
    ends_with p q s (with_row (row_of p a b c) m) n x r.rest

-- with the numbers that were kept where it began
pub ends_run : (p : ℕ) {A : Type 0} (s : Script A) (m n : Meaning) (x : A) → run p s m ≡ (Ok x, n) → ends p (names m) s ≡ Some (x, names_with (assigned m) n)
ends_run p s m n x e = ends_with p (assigned m) s m n x e

-- ---- a bill is paid exactly when it is clean and comes to no more than there is room for
-- accounts with the same counts are the same
same_account : (a b : Account) → a.inputs ≡ b.inputs → a.witnesses ≡ b.witnesses → a.terms ≡ b.terms → a.rows ≡ b.rows → a ≡ b
same_account a b i w t r = λ j. record { inputs = i j; witnesses = w j; terms = t j; rows = r j }

-- sums of three accounts
pub plus_assoc : (a b c : Account) → plus (plus a b) c ≡ plus a (plus b c)
plus_assoc a b c = same_account (plus (plus a b) c) (plus a (plus b c)) (omega arith) (omega arith) (omega arith) (omega arith)

-- one more variable is one more on the account
with_cost : (d : Side) (b : Bool) (a : Account) → with_variable d a ≡ plus a (cost (takes_variable d b))
with_cost input b a = same_account (with_variable input a) (plus a (cost (takes_variable input b))) (omega arith) (omega arith) (omega arith) (omega arith)
with_cost witness b a = same_account (with_variable witness a) (plus a (cost (takes_variable witness b))) (omega arith) (omega arith) (omega arith) (omega arith)

-- a charge can be paid
abbrev Payable : Rooms → Account → Charge → Type 0
Payable r a c = Within r (plus a (cost c)) → Clean r.keeps (c ∷ []) → pay r a c ≡ Ok (plus a (cost c))

-- a clean charge that finds room is paid
payable : (r : Rooms) (a : Account) (c : Charge) → Payable r a c
payable r a (takes_variable input b) w q =
    (λ i. cond (lt-ltb a.inputs r.inputs (let h = w.inputs in omega arith) i) (cond (q.0 i) (Err (System MissingValue)) (Ok (with_variable input a))) (Err (System (full input)))) ∙ ap Ok (with_cost input b a)
payable r a (takes_variable witness b) w q =
    (λ i. cond (lt-ltb a.witnesses r.witnesses (let h = w.witnesses in omega arith) i) (cond (q.0 i) (Err (System MissingValue)) (Ok (with_variable witness a))) (Err (System (full witness)))) ∙ ap Ok (with_cost witness b a)
payable r a (takes_combination k) w q =
    (λ i. cond (le-leb (a.terms + (k + 1)) r.terms (let h = w.terms in omega arith) i) (Ok (with_terms (k + 1) 0 a)) (Err (System TermsFull)))
    ∙ ap Ok (same_account (with_terms (k + 1) 0 a) (plus a (cost (takes_combination k))) (omega arith) (omega arith) (omega arith) (omega arith))
payable r a (takes_row k) w q =
    (λ i. cond (le-leb (a.terms + k) r.terms (let h = w.terms in omega arith) i) (cond (lt-ltb a.rows r.rows (let h = w.rows in omega arith) i) (Ok (with_terms k 1 a)) (Err (System (rows_full r.capped)))) (Err (System TermsFull)))
    ∙ ap Ok (same_account (with_terms k 1 a) (plus a (cost (takes_row k))) (omega arith) (omega arith) (omega arith) (omega arith))
payable r a (stops e) w q = absurd q

-- a clean bill's first charge and its rest are clean
clean_head : (q : Bool) (c : Charge) (cs : List Charge) → Clean q (c ∷ cs) → Clean q (c ∷ []) × Clean q cs
clean_head q (takes_variable d b) cs h = ((h.0, tt), h.1)
clean_head q (takes_combination k) cs h = (tt, h)
clean_head q (takes_row k) cs h = (tt, h)
clean_head q (stops e) cs h = absurd h

-- and the other way round
clean_join : (q : Bool) (c : Charge) (cs : List Charge) → Clean q (c ∷ []) → Clean q cs → Clean q (c ∷ cs)
clean_join q (takes_variable d b) cs h k = (h.0, k)
clean_join q (takes_combination k₁) cs h k = k
clean_join q (takes_row k₁) cs h k = k
clean_join q (stops e) cs h k = h

-- what is less finds room too
within_less : (r : Rooms) (a b : Account) → Within r (plus a b) → Within r a
within_less r a b w = record { inputs = let h = w.inputs in omega arith; witnesses = let h = w.witnesses in omega arith; terms = let h = w.terms in omega arith; rows = let h = w.rows in omega arith }

-- a clean bill that finds room is paid
pub settle_accepts : (r : Rooms) (a : Account) (cs : List Charge) → Within r (plus a (tally cs)) → Clean r.keeps cs → settle r a cs ≡ Ok (plus a (tally cs))
settle_accepts r a [] w q = ap Ok (same_account a (plus a nothing_used) (omega arith) (omega arith) (omega arith) (omega arith))
settle_accepts r a (c ∷ cs) w q =
    let h = clean_head r.keeps c cs q in
    let w₁ : Within r (plus (plus a (cost c)) (tally cs)) = subst (Within r) (sym (plus_assoc a (cost c) (tally cs))) w in
    ap (λ (z : Result Account GadgetFault). follow z (λ b. settle r b cs)) (payable r a c (within_less r (plus a (cost c)) (tally cs) w₁) h.0)
    ∙ settle_accepts r (plus a (cost c)) cs w₁ h.1 ∙ ap Ok (plus_assoc a (cost c) (tally cs))

-- what a charge that was paid says
abbrev Was : Rooms → Account → Charge → Result Account GadgetFault → Type 0
Was r a c (Ok b) = (b ≡ plus a (cost c)) × Within r (plus a (cost c)) × Clean r.keeps (c ∷ [])
Was r a c (Err e) = Unit {0}

-- the same of an input or witness
was_variable : (r : Rooms) (a : Account) (d : Side) (b : Bool) → (ltb (spent d a) (space d r) ≡ true → Within r (plus a (cost (takes_variable d b)))) → Was r a (takes_variable d b) (pay r a (takes_variable d b))
was_variable r a d b w = go (ltb (spent d a) (space d r)) (lacks r.keeps b) refl refl
  where
    go : (t q : Bool) → ltb (spent d a) (space d r) ≡ t → lacks r.keeps b ≡ q → Was r a (takes_variable d b) (cond t (cond q (Err (System MissingValue)) (Ok (with_variable d a))) (Err (System (full d))))
    go true true e f = tt
    go true false e f = (with_cost d b a, w e, (f, tt))
    go false q e f = tt

-- by cases
was : (r : Rooms) (a : Account) → Within r a → (c : Charge) → Was r a c (pay r a c)
was r a w (takes_variable input b) = was_variable r a input b (λ e. let h = ltb-true a.inputs r.inputs e in record { inputs = omega arith; witnesses = let k = w.witnesses in omega arith; terms = let k = w.terms in omega arith; rows = let k = w.rows in omega arith })
was r a w (takes_variable witness b) = was_variable r a witness b (λ e. let h = ltb-true a.witnesses r.witnesses e in record { inputs = let k = w.inputs in omega arith; witnesses = omega arith; terms = let k = w.terms in omega arith; rows = let k = w.rows in omega arith })
was r a w (takes_combination k) = go (leb (a.terms + (k + 1)) r.terms) refl
  where
    go : (t : Bool) → leb (a.terms + (k + 1)) r.terms ≡ t → Was r a (takes_combination k) (cond t (Ok (with_terms (k + 1) 0 a)) (Err (System TermsFull)))
    go true e =
        let h = leb-true (a.terms + (k + 1)) r.terms e in (
          same_account (with_terms (k + 1) 0 a) (plus a (cost (takes_combination k))) (omega arith) (omega arith) (omega arith) (omega arith),
          record { inputs = let j = w.inputs in omega arith; witnesses = let j = w.witnesses in omega arith; terms = omega arith; rows = let j = w.rows in omega arith },
          tt,
        )
    go false e = tt
was r a w (takes_row k) = go (leb (a.terms + k) r.terms) (ltb a.rows r.rows) refl refl
  where
    go : (t q : Bool) → leb (a.terms + k) r.terms ≡ t → ltb a.rows r.rows ≡ q → Was r a (takes_row k) (cond t (cond q (Ok (with_terms k 1 a)) (Err (System (rows_full r.capped)))) (Err (System TermsFull)))
    go true true e f =
        let h = leb-true (a.terms + k) r.terms e in
        let g = ltb-true a.rows r.rows f in (
          same_account (with_terms k 1 a) (plus a (cost (takes_row k))) (omega arith) (omega arith) (omega arith) (omega arith),
          record { inputs = let j = w.inputs in omega arith; witnesses = let j = w.witnesses in omega arith; terms = omega arith; rows = omega arith },
          tt,
        )
    go true false e f = tt
    go false q e f = tt
was r a w (stops e) = tt

-- a bill that was paid was clean and found room
pub settle_accepted : (r : Rooms) (a b : Account) (cs : List Charge) → Within r a → settle r a cs ≡ Ok b → Settled r a cs b
settle_accepted r a b [] w e =
    let z : a ≡ plus a nothing_used = same_account a (plus a nothing_used) (omega arith) (omega arith) (omega arith) (omega arith) in
    let q : a ≡ b = cc e in
    record { total = sym q ∙ z; within = subst (Within r) z w; clean = tt }
settle_accepted r a b (c ∷ cs) w e = go (pay r a c) (was r a w c) e (λ d v q. settle_accepted r d b cs v q)
  where
    go : (z : Result Account GadgetFault) → Was r a c z → follow z (λ d. settle r d cs) ≡ Ok b → ((d : Account) → Within r d → settle r d cs ≡ Ok b → Settled r d cs b) → Settled r a (c ∷ cs) b
    go (Ok d) h q f =
        let s : Settled r (plus a (cost c)) cs b = subst (λ (x : Account). Settled r x cs b) h.0 (f d (subst (Within r) (sym h.0) h.1) q) in
        record { total = s.total ∙ plus_assoc a (cost c) (tally cs); within = subst (Within r) (plus_assoc a (cost c) (tally cs)) s.within; clean = clean_join r.keeps c cs h.2 s.clean }
    go (Err f₁) h q f = let z : ◌≡◌ {A = ℕ} 0 1 = cc q in absurd (omega arith)

-- a run as one call is billed as the run is
pub billed_whole : {A : Type 0} (s : Step (Result A GadgetFault)) (m : Meaning) → billed (whole s m) ≡ billed (s m)
billed_whole {A} s m = go (s m).0 (s m).1
  where
    go : (r : Result A GadgetFault) (n : Meaning) → billed (restored m r n) ≡ billed (r, n)
    go (Ok x) n = refl
    go (Err e) n = refl
