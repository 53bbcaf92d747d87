-- What an accepted script leaves: what is named is there, what is answered is there, and the shape does not depend on values.
use Rattle.std.proofs.Common.{◌≡◌, ℕ, ◌+◌, ◌<◌, List, [], ◌∷◌, ◌++◌, length, Ok, Option, sym, refl, ap, ◌∙◌, subst, arith, length-append}
use Rattle.relations.specs.declared.term.Variable.{Variable}
use Rattle.relations.specs.declared.term.Variable.TheVariants.{Input, Witness, Combination}
use Rattle.relations.specs.declared.term.Term.{Term}
use Rattle.relations.specs.Sum.{Row, sum_of, row_of}
use Rattle.relations.specs.Meaning.{Meaning, Combo, places, has, next_of, with_new, with_combo, combo_of, with_row}
use Rattle.relations.specs.declared.term.Side.{Side}
use Rattle.relations.specs.declared.term.Side.TheVariants.{Input as input, Witness as witness}
use Rattle.relations.specs.Script.{Script, answer, refuse, allocate, combine, row, run}
use Rattle.laws.specs.Law.{There, TermsThere, Names}
use Rattle.laws.specs.Runs.{Bounded, Proper}
use Rattle.laws.proofs.Heads.{Alike, alike_append, places_alike}
use Rattle.laws.proofs.Trace.{allocated, combined, enforced, refused}
use Rattle.laws.proofs.Link.{sum_bounded, proper_new, proper_combo, proper_row, wider_new, wider_combo, new_there, combo_there}

-- ---- what is named is there
pub proper_run : (p : ℕ) → 1 < p → {A : Type 0} (s : Script A) (m n : Meaning) (x : A) → run p s m ≡ (Ok x, n) → Proper p m → Proper p n
proper_run p above (answer y) m n x e pr = subst (Proper p) (ap (λ q. q.1) e) pr
proper_run p above (refuse f) m n x e pr = absurd (refused f m n x e)
proper_run p above (allocate d vs f k) m n x e pr =
    let r = allocated d vs f (λ v. run p (k v)) m n x e in
    proper_run p above (k (next_of d m)) (with_new d r.value m) n x r.rest (proper_new p d r.value m pr)
proper_run p above (combine ts k) m n x e pr =
    let r = combined p ts (λ v. run p (k v)) m n x e in
    proper_run p above (k (Combination (places m.combos + (sum_of p ts).size))) (with_combo (combo_of p ts m) m) n x r.rest (proper_combo p (combo_of p ts m) m (sum_bounded p (omega arith) (has m) refl ts r.there) pr)
proper_run p above (row a b c s) m n x e pr =
    let r = enforced p a b c (run p s) m n x e in
    let bound : (ts : List Term) → TermsThere (has m) ts → Bounded p (has m) (sum_of p ts) = λ ts. sum_bounded p (omega arith) (has m) refl ts in
    proper_run p above s (with_row (row_of p a b c) m) n x r.rest (proper_row p (row_of p a b c) m (bound a r.there_a, bound b r.there_b, bound c r.there_c) pr)

-- ---- what is answered is there
pub names_run : (p : ℕ) {A : Type 0} (s : Script A) (m n : Meaning) (x : A) (K : There → A → Type 0) → run p s m ≡ (Ok x, n) → Names (has m) s K → K (has n) x
names_run p (answer y) m n x K e h =
    let q : y ≡ x = cc (ap (λ r. r.0) e) in
    subst (λ (l : Meaning). K (has l) x) (ap (λ r. r.1) e) (subst (K (has m)) q h)
names_run p (refuse f) m n x K e h = absurd (refused f m n x e)
names_run p (allocate d vs f k) m n x K e h =
    let r = allocated d vs f (λ v. run p (k v)) m n x e in
    names_run p (k (next_of d m)) (with_new d r.value m) n x K r.rest (h (has (with_new d r.value m)) (wider_new d r.value m) (next_of d m) (new_there d r.value m))
names_run p (combine ts k) m n x K e h =
    let r = combined p ts (λ v. run p (k v)) m n x e in
    let c : Combo = combo_of p ts m in
    let v : Variable = Combination (places m.combos + (sum_of p ts).size) in
    names_run p (k v) (with_combo c m) n x K r.rest (h (has (with_combo c m)) (wider_combo c m) v (combo_there c m))
names_run p (row a b c s) m n x K e h =
    let r = enforced p a b c (run p s) m n x e in
    names_run p s (with_row (row_of p a b c) m) n x K r.rest h

-- ---- two systems with as many inputs and witnesses, the same sums and the same rows, whatever is kept in them
pub record Shape (m n : Meaning) : Type 0 where
  pub inputs : length m.inputs ≡ length n.inputs
  pub witnesses : length m.witnesses ≡ length n.witnesses
  pub combos : Alike m.combos n.combos
  pub rows : m.rows ≡ n.rows

-- the next names are the same
same_next : (d : Side) (m n : Meaning) → Shape m n → next_of d m ≡ next_of d n
same_next input m n s = ap Input s.inputs
same_next witness m n s = ap Witness s.witnesses

-- lists of one length have one length with one more
longer : (xs ys : List (Option ℕ)) (x y : Option ℕ) → length xs ≡ length ys → length (xs ++ (x ∷ [])) ≡ length (ys ++ (y ∷ []))
longer xs ys x y e = omega (arith, length-append xs (x ∷ []), length-append ys (y ∷ []))

-- one more input or witness in both
shape_new : (d : Side) (o q : Option ℕ) (m n : Meaning) → Shape m n → Shape (with_new d o m) (with_new d q n)
shape_new input o q m n s = record { inputs = longer m.inputs n.inputs o q s.inputs; witnesses = s.witnesses; combos = s.combos; rows = s.rows }
shape_new witness o q m n s = record { inputs = s.inputs; witnesses = longer m.witnesses n.witnesses o q s.witnesses; combos = s.combos; rows = s.rows }

-- the answer and the shape depend on the shape alone
pub same_shape : (p : ℕ) {A : Type 0} (s : Script A) (m n : Meaning) (x : A) (l o : Meaning) (y : A) → Shape m l → run p s m ≡ (Ok x, n) → run p s l ≡ (Ok y, o) → (x ≡ y) × Shape n o
same_shape p (answer z) m n x l o y sh e f =
    let qx : z ≡ x = cc (ap (λ r. r.0) e) in
    let qy : z ≡ y = cc (ap (λ r. r.0) f) in
    (sym qx ∙ qy, subst (λ (a : Meaning). Shape a o) (ap (λ r. r.1) e) (subst (Shape m) (ap (λ r. r.1) f) sh))
same_shape p (refuse g) m n x l o y sh e f = absurd (refused g m n x e)
same_shape p (allocate d vs g k) m n x l o y sh e f =
    let r = allocated d vs g (λ v. run p (k v)) m n x e in
    let t = allocated d vs g (λ v. run p (k v)) l o y f in
    same_shape p (k (next_of d m)) (with_new d r.value m) n x (with_new d t.value l) o y (shape_new d r.value t.value m l sh) r.rest
    (subst (λ (v : Variable). run p (k v) (with_new d t.value l) ≡ (Ok y, o)) (sym (same_next d m l sh)) t.rest)
same_shape p (combine ts k) m n x l o y sh e f =
    let r = combined p ts (λ v. run p (k v)) m n x e in
    let t = combined p ts (λ v. run p (k v)) l o y f in
    same_shape p (k (Combination (places m.combos + (sum_of p ts).size))) (with_combo (combo_of p ts m) m) n x (with_combo (combo_of p ts l) l) o y
    (record { inputs = sh.inputs; witnesses = sh.witnesses; combos = alike_append m.combos l.combos (combo_of p ts m ∷ []) (combo_of p ts l ∷ []) sh.combos (refl, tt); rows = sh.rows }) r.rest
    (subst (λ (c : ℕ). run p (k (Combination (c + (sum_of p ts).size))) (with_combo (combo_of p ts l) l) ≡ (Ok y, o)) (sym (places_alike m.combos l.combos sh.combos)) t.rest)
same_shape p (row a b c s) m n x l o y sh e f =
    let r = enforced p a b c (run p s) m n x e in
    let t = enforced p a b c (run p s) l o y f in
    same_shape p s (with_row (row_of p a b c) m) n x (with_row (row_of p a b c) l) o y
    (record { inputs = sh.inputs; witnesses = sh.witnesses; combos = sh.combos; rows = ap (λ (q : List Row). q ++ (row_of p a b c ∷ [])) sh.rows }) r.rest t.rest
