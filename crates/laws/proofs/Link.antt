-- From what a script means to the numbers to what its run added: soundness and completeness.
use Rattle.std.proofs.Common.{◌≡◌, ℕ, ◌+◌, ◌*◌, ◌%◌, ◌<◌, ◌≤◌, Bool, true, false, cond, eqb, List, [], ◌∷◌, ◌++◌, length, Ok, Option, sym, refl, ap, ◌∙◌, subst, ap₂, append_assoc, append-nil, le_refl, mod-lt, mul-zero, zero-mul, arith, length-append, ltb-true, le-ltb, lt-ltb, eq-eqb, ne_eqb}
use native.Mathlib.Nat.{mod-mod, add-mod-mod, zero-mod}
use borrow.Author.Tests.{clash}
use Rattle.arith.proofs.Euclid.{mul_mod_l, mul_mod_r}
use Rattle.relations.specs.declared.term.Variable.{Variable}
use Rattle.relations.specs.declared.term.Variable.TheVariants.{One, Zero, Input, Witness, Combination}
use Rattle.relations.specs.declared.term.Term.{Term}
use Rattle.relations.specs.Sum.{Sum, Row, code, decode, counted, sum_of, row_of}
use Rattle.relations.specs.Meaning.{Meaning, Combo, places, is_head, known, has, next_of, with_new, with_combo, combo_of, with_row}
use Rattle.relations.specs.declared.term.Side.{Side}
use Rattle.relations.specs.declared.term.Side.TheVariants.{Input as input, Witness as witness}
use Rattle.relations.specs.Script.{Script, answer, refuse, allocate, combine, row, run}
use Rattle.relations.specs.Meaning.{Grows}
use Rattle.relations.proofs.Growth.{growing_run}
use Rattle.laws.specs.Law.{Val, total, Low, RowMet, Must, Goes, There, Wider, TermsThere}
use Rattle.laws.specs.Runs.{Met, Sums, Agree, Same, Bounded, Formed, RowsKnown, Proper, Solves}
use Rattle.laws.proofs.Heads.{head_append, head_new, no_head, known_more, code_same, decode_input, decode_witness, decode_combination}
use Rattle.laws.proofs.Trace.{allocated, combined, enforced, refused}

-- ---- the sum that terms mean
-- a handed term counts as it is read
term_at : (v : Variable) (k : ℕ) (ρ : Val) → ρ Zero ≡ 0 → counted v k * ρ (decode (code v)) ≡ k * ρ v
term_at One k ρ z = refl
term_at Zero k ρ z = zero-mul (ρ One) ∙ sym (ap (λ (x : ℕ). k * x) z ∙ mul-zero k)
term_at (Input n) k ρ z = ap (λ (v : Variable). k * ρ v) (decode_input n)
term_at (Witness n) k ρ z = ap (λ (v : Variable). k * ρ v) (decode_witness n)
term_at (Combination n) k ρ z = ap (λ (v : Variable). k * ρ v) (decode_combination n)

-- its value is the total of the terms modulo p
pub sum_total : (p : ℕ) (ρ : Val) → ρ Zero ≡ 0 → (ts : List Term) → (sum_of p ts).value ρ ≡ total ρ ts % p
sum_total p ρ z [] = sym (zero-mod p)
sum_total p ρ z (t ∷ ts) =
    ap₂ (λ (x y : ℕ). (x + y) % p) (term_at t.variable t.coefficient ρ z) (sum_total p ρ z ts) ∙ add-mod-mod (t.coefficient * ρ t.variable) (total ρ ts) p

-- numbers that agree on what is there agree at its codes
code_local : (h : There) → h One ≡ true → (ρ σ : Val) → Agree h ρ σ → (v : Variable) → h v ≡ true → σ (decode (code v)) ≡ ρ (decode (code v))
code_local h one ρ σ g One k = g One one
code_local h one ρ σ g Zero k = g One one
code_local h one ρ σ g (Input n) k = ap σ (decode_input n) ∙ g (Input n) k ∙ ap ρ (sym (decode_input n))
code_local h one ρ σ g (Witness n) k = ap σ (decode_witness n) ∙ g (Witness n) k ∙ ap ρ (sym (decode_witness n))
code_local h one ρ σ g (Combination n) k = ap σ (decode_combination n) ∙ g (Combination n) k ∙ ap ρ (sym (decode_combination n))

-- a sum depends only on its variables
sum_local : (p : ℕ) (h : There) → h One ≡ true → (ρ σ : Val) → Agree h ρ σ → (ts : List Term) → TermsThere h ts → (sum_of p ts).value σ ≡ (sum_of p ts).value ρ
sum_local p h one ρ σ g [] k = refl
sum_local p h one ρ σ g (t ∷ ts) k =
    ap₂ (λ (x y : ℕ). (counted t.variable t.coefficient * x + y) % p) (code_local h one ρ σ g t.variable k.0) (sum_local p h one ρ σ g ts k.1)

-- a sum is below p
sum_below : (p : ℕ) → 0 < p → (ρ : Val) (ts : List Term) → (sum_of p ts).value ρ < p
sum_below p pos ρ [] = pos
sum_below p pos ρ (t ∷ ts) = mod-lt (counted t.variable t.coefficient * ρ (decode (code t.variable)) + (sum_of p ts).value ρ) pos

-- the sum of terms whose variables are there
pub sum_bounded : (p : ℕ) → 0 < p → (h : There) → h One ≡ true → (ts : List Term) → TermsThere h ts → Bounded p h (sum_of p ts)
sum_bounded p pos h one ts k = record { local = λ ρ σ g. sum_local p h one ρ σ g ts k; below = λ ρ. sum_below p pos ρ ts }

-- ---- what is there
-- numbers that agree on more agree on less
pub agree_wider : (h k : There) → Wider h k → (ρ σ : Val) → Agree k ρ σ → Agree h ρ σ
agree_wider h k up ρ σ g v q = g v (up v q)

-- a sum stays bounded where more is there
pub bounded_wider : (p : ℕ) (h k : There) → Wider h k → (s : Sum) → Bounded p h s → Bounded p k s
bounded_wider p h k up s b = record { local = λ ρ σ g. b.local ρ σ (agree_wider h k up ρ σ g); below = b.below }

-- the same combinations, with no fewer inputs and witnesses
pub known_up : (i w j u : ℕ) (cs : List Combo) → i ≤ j → w ≤ u → Wider (known i w cs) (known j u cs)
known_up i w j u cs hi hw One k = refl
known_up i w j u cs hi hw Zero k = refl
known_up i w j u cs hi hw (Input n) k = lt-ltb n j (let h = ltb-true n i k in omega arith)
known_up i w j u cs hi hw (Witness n) k = lt-ltb n u (let h = ltb-true n w k in omega arith)
known_up i w j u cs hi hw (Combination c) k = k

-- n has what m has
pub has_grows : (m n : Meaning) → Grows m n → Wider (has m) (has n)
has_grows m n g v k =
    subst (λ (cs : List Combo). known (length n.inputs) (length n.witnesses) cs v ≡ true) (sym g.combos_are)
    (known_more (length m.inputs) (length m.witnesses) (length n.inputs) (length n.witnesses) m.combos g.combos
    (omega (arith, simp length-append at (ap length g.inputs_are))) (omega (arith, simp length-append at (ap length g.witnesses_are))) v k)

-- an accepted run only adds
pub run_grows : (p : ℕ) {A : Type 0} (s : Script A) (m n : Meaning) (x : A) → run p s m ≡ (Ok x, n) → Grows m n
run_grows p s m n x e = subst (Grows m) (ap (λ q. q.1) e) (growing_run p s m)

-- ---- lists with one more
-- combinations stay formed with more inputs and witnesses
pub formed_up : (p i w j u : ℕ) → i ≤ j → w ≤ u → (done cs : List Combo) → Formed p i w done cs → Formed p j u done cs
formed_up p i w j u hi hw done [] f = tt
formed_up p i w j u hi hw done (x ∷ cs) f = (bounded_wider p (known i w done) (known j u done) (known_up i w j u done hi hw) x.sum f.0, formed_up p i w j u hi hw (done ++ (x ∷ [])) cs f.1)

-- one more combination is formed
pub formed_snoc : (p i w : ℕ) (done cs : List Combo) (x : Combo) → Formed p i w done cs → Bounded p (known i w (done ++ cs)) x.sum → Formed p i w done (cs ++ (x ∷ []))
formed_snoc p i w done [] x f b = (subst (λ (l : List Combo). Bounded p (known i w l) x.sum) (append-nil done) b, tt)
formed_snoc p i w done (c ∷ cs) x f b = (f.0, formed_snoc p i w (done ++ (c ∷ [])) cs x f.1 (subst (λ (l : List Combo). Bounded p (known i w l) x.sum) (sym (append_assoc done (c ∷ []) cs)) b))

-- rows stay known where more is there
pub rows_wider : (p : ℕ) (h k : There) → Wider h k → (rs : List Row) → RowsKnown p h rs → RowsKnown p k rs
rows_wider p h k up [] f = tt
rows_wider p h k up (r ∷ rs) f = ((bounded_wider p h k up r.a f.0.0, bounded_wider p h k up r.b f.0.1, bounded_wider p h k up r.c f.0.2), rows_wider p h k up rs f.1)

-- one more row is known
pub rows_snoc : (p : ℕ) (h : There) (rs : List Row) (r : Row) → RowsKnown p h rs → Bounded p h r.a × Bounded p h r.b × Bounded p h r.c → RowsKnown p h (rs ++ (r ∷ []))
rows_snoc p h [] r f b = (b, tt)
rows_snoc p h (q ∷ rs) r f b = (f.0, rows_snoc p h rs r f.1 b)

-- one more combination has its value
pub sums_snoc : (ρ : Val) (done cs : List Combo) (x : Combo) → Sums ρ done cs → ρ (Combination (places (done ++ cs) + x.sum.size)) ≡ x.sum.value ρ → Sums ρ done (cs ++ (x ∷ []))
sums_snoc ρ done [] x f e = (subst (λ (l : List Combo). ρ (Combination (places l + x.sum.size)) ≡ x.sum.value ρ) (append-nil done) e, tt)
sums_snoc ρ done (c ∷ cs) x f e = (f.0, sums_snoc ρ (done ++ (c ∷ [])) cs x f.1 (subst (λ (l : List Combo). ρ (Combination (places l + x.sum.size)) ≡ x.sum.value ρ) (sym (append_assoc done (c ∷ []) cs)) e))

-- the first combinations have their values
pub sums_front : (ρ : Val) (done cs xs : List Combo) → Sums ρ done (cs ++ xs) → Sums ρ done cs
sums_front ρ done [] xs f = tt
sums_front ρ done (c ∷ cs) xs f = (f.0, sums_front ρ (done ++ (c ∷ [])) cs xs f.1)

-- the last combination has its value
pub sums_last : (ρ : Val) (done cs : List Combo) (x : Combo) → Sums ρ done (cs ++ (x ∷ [])) → ρ (Combination (places (done ++ cs) + x.sum.size)) ≡ x.sum.value ρ
sums_last ρ done [] x f = subst (λ (l : List Combo). ρ (Combination (places l + x.sum.size)) ≡ x.sum.value ρ) (sym (append-nil done)) f.0
sums_last ρ done (c ∷ cs) x f = subst (λ (l : List Combo). ρ (Combination (places l + x.sum.size)) ≡ x.sum.value ρ) (append_assoc done (c ∷ []) cs) (sums_last ρ (done ++ (c ∷ [])) cs x f.1)

-- the first rows are met
pub met_front : (p : ℕ) (ρ : Val) (rs qs : List Row) → Met p ρ (rs ++ qs) → Met p ρ rs
met_front p ρ [] qs f = tt
met_front p ρ (r ∷ rs) qs f = (f.0, met_front p ρ rs qs f.1)

-- the last row is met
pub met_last : (p : ℕ) (ρ : Val) (rs : List Row) (r : Row) → Met p ρ (rs ++ (r ∷ [])) → (r.a.value ρ * r.b.value ρ) % p ≡ r.c.value ρ % p
met_last p ρ [] r f = f.0
met_last p ρ (q ∷ rs) r f = met_last p ρ rs r f.1

-- one more row is met
pub met_snoc : (p : ℕ) (ρ : Val) (rs : List Row) (r : Row) → Met p ρ rs → (r.a.value ρ * r.b.value ρ) % p ≡ r.c.value ρ % p → Met p ρ (rs ++ (r ∷ []))
met_snoc p ρ [] r f e = (e, tt)
met_snoc p ρ (q ∷ rs) r f e = (f.0, met_snoc p ρ rs r f.1 e)

-- ---- other numbers, which agree on what is there
-- rows stay met
pub met_same : (p : ℕ) (h : There) (ρ σ : Val) → Agree h ρ σ → (rs : List Row) → RowsKnown p h rs → Met p ρ rs → Met p σ rs
met_same p h ρ σ g [] k f = tt
met_same p h ρ σ g (r ∷ rs) k f = (
  ap₂ (λ (x y : ℕ). (x * y) % p) (k.0.0.local ρ σ g) (k.0.1.local ρ σ g) ∙ f.0 ∙ ap (λ (x : ℕ). x % p) (sym (k.0.2.local ρ σ g)),
  met_same p h ρ σ g rs k.1 f.1,
)

-- combinations keep their values
pub sums_same : (p i w : ℕ) (ρ σ : Val) (done cs : List Combo) → Agree (known i w (done ++ cs)) ρ σ → Formed p i w done cs → Sums ρ done cs → Sums σ done cs
sums_same p i w ρ σ done [] g f s = tt
sums_same p i w ρ σ done (x ∷ cs) g f s = (
  g (Combination (places done + x.sum.size)) here ∙ s.0 ∙ sym (f.0.local ρ σ (λ v k. g v (known_more i w i w done (x ∷ cs) (le_refl i) (le_refl w) v k))),
  sums_same p i w ρ σ (done ++ (x ∷ [])) cs (subst (λ (l : List Combo). Agree (known i w l) ρ σ) (sym (append_assoc done (x ∷ []) cs)) g) f.1 s.1,
)
  where
    here : is_head (places done + x.sum.size) (done ++ (x ∷ cs)) ≡ true
    here = subst (λ (l : List Combo). is_head (places done + x.sum.size) l ≡ true) (append_assoc done (x ∷ []) cs) (head_append (places done + x.sum.size) (done ++ (x ∷ [])) cs (head_new done x))

-- a solution stays one
pub solves_same : (p : ℕ) (m : Meaning) (ρ σ : Val) → Proper p m → Same m ρ σ → Low p σ → Solves p m ρ → Solves p m σ
solves_same p m ρ σ pr g low s = record {
  low = low;
  sums = sums_same p (length m.inputs) (length m.witnesses) ρ σ [] m.combos g pr.formed s.sums;
  met = met_same p (has m) ρ σ g m.rows pr.rows s.met;
}

-- what solves a system solves what it grew from
pub before : (p : ℕ) (m n : Meaning) → Grows m n → (ρ : Val) → Solves p n ρ → Solves p m ρ
before p m n g ρ s = record {
  low = s.low;
  sums = sums_front ρ [] m.combos g.combos (subst (Sums ρ []) g.combos_are s.sums);
  met = met_front p ρ m.rows g.rows (subst (Met p ρ) g.rows_are s.met);
}

-- ---- rows by their terms
-- a product modulo p, from the remainders of both factors
pub mul_mods : (a b p : ℕ) → ((a % p) * (b % p)) % p ≡ (a * b) % p
mul_mods a b p = mul_mod_l a (b % p) p ∙ mul_mod_r a b p

-- a row of the system is met, so it is met as handed
pub row_total : (p : ℕ) (ρ : Val) → ρ Zero ≡ 0 → (a b c : List Term) → ((sum_of p a).value ρ * (sum_of p b).value ρ) % p ≡ (sum_of p c).value ρ % p → RowMet p ρ a b c
row_total p ρ z a b c e =
    sym (mul_mods (total ρ a) (total ρ b) p) ∙ ap₂ (λ (x y : ℕ). (x * y) % p) (sym (sum_total p ρ z a)) (sym (sum_total p ρ z b)) ∙ e ∙ ap (λ (x : ℕ). x % p) (sum_total p ρ z c) ∙ mod-mod (total ρ c) p

-- and the other way round
pub total_row : (p : ℕ) (ρ : Val) → ρ Zero ≡ 0 → (a b c : List Term) → RowMet p ρ a b c → ((sum_of p a).value ρ * (sum_of p b).value ρ) % p ≡ (sum_of p c).value ρ % p
total_row p ρ z a b c e =
    ap₂ (λ (x y : ℕ). (x * y) % p) (sum_total p ρ z a) (sum_total p ρ z b) ∙ mul_mods (total ρ a) (total ρ b) p ∙ e ∙ sym (mod-mod (total ρ c) p) ∙ ap (λ (x : ℕ). x % p) (sym (sum_total p ρ z c))

-- ---- each step
-- a new input or witness leaves what is there
pub wider_new : (d : Side) (o : Option ℕ) (m : Meaning) → Wider (has m) (has (with_new d o m))
wider_new input o m = known_up (length m.inputs) (length m.witnesses) (length (m.inputs ++ (o ∷ []))) (length m.witnesses) m.combos (omega (arith, length-append m.inputs (o ∷ []))) (le_refl (length m.witnesses))
wider_new witness o m = known_up (length m.inputs) (length m.witnesses) (length m.inputs) (length (m.witnesses ++ (o ∷ []))) m.combos (le_refl (length m.inputs)) (omega (arith, length-append m.witnesses (o ∷ [])))

-- a new combination leaves what is there
pub wider_combo : (x : Combo) (m : Meaning) → Wider (has m) (has (with_combo x m))
wider_combo x m = known_more (length m.inputs) (length m.witnesses) (length m.inputs) (length m.witnesses) m.combos (x ∷ []) (le_refl (length m.inputs)) (le_refl (length m.witnesses))

-- a new variable was not there, and is there now
pub new_not : (d : Side) (m : Meaning) → has m (next_of d m) ≡ false
new_not input m = le-ltb (length m.inputs) (length m.inputs) (le_refl (length m.inputs))
new_not witness m = le-ltb (length m.witnesses) (length m.witnesses) (le_refl (length m.witnesses))

-- an input or witness
pub new_there : (d : Side) (o : Option ℕ) (m : Meaning) → has (with_new d o m) (next_of d m) ≡ true
new_there input o m = lt-ltb (length m.inputs) (length (m.inputs ++ (o ∷ []))) (omega (arith, length-append m.inputs (o ∷ [])))
new_there witness o m = lt-ltb (length m.witnesses) (length (m.witnesses ++ (o ∷ []))) (omega (arith, length-append m.witnesses (o ∷ [])))

-- a combination was not there
pub combo_not : (m : Meaning) (s : ℕ) → has m (Combination (places m.combos + s)) ≡ false
combo_not m s = no_head (places m.combos + s) m.combos (omega arith)

-- and is there now
pub combo_there : (x : Combo) (m : Meaning) → has (with_combo x m) (Combination (places m.combos + x.sum.size)) ≡ true
combo_there x m = head_new m.combos x

-- one more input or witness leaves a system proper
pub proper_new : (p : ℕ) (d : Side) (o : Option ℕ) (m : Meaning) → Proper p m → Proper p (with_new d o m)
proper_new p input o m pr = record {
  formed = formed_up p (length m.inputs) (length m.witnesses) (length (m.inputs ++ (o ∷ []))) (length m.witnesses) (omega (arith, length-append m.inputs (o ∷ []))) (le_refl (length m.witnesses)) [] m.combos pr.formed;
  rows = rows_wider p (has m) (has (with_new input o m)) (wider_new input o m) m.rows pr.rows;
}
proper_new p witness o m pr = record {
  formed = formed_up p (length m.inputs) (length m.witnesses) (length m.inputs) (length (m.witnesses ++ (o ∷ []))) (le_refl (length m.inputs)) (omega (arith, length-append m.witnesses (o ∷ []))) [] m.combos pr.formed;
  rows = rows_wider p (has m) (has (with_new witness o m)) (wider_new witness o m) m.rows pr.rows;
}

-- so does one more combination
pub proper_combo : (p : ℕ) (x : Combo) (m : Meaning) → Bounded p (has m) x.sum → Proper p m → Proper p (with_combo x m)
proper_combo p x m b pr = record {
  formed = formed_snoc p (length m.inputs) (length m.witnesses) [] m.combos x pr.formed b;
  rows = rows_wider p (has m) (has (with_combo x m)) (wider_combo x m) m.rows pr.rows;
}

-- so does one more row
pub proper_row : (p : ℕ) (r : Row) (m : Meaning) → Bounded p (has m) r.a × Bounded p (has m) r.b × Bounded p (has m) r.c → Proper p m → Proper p (with_row r m)
proper_row p r m b pr = record { formed = pr.formed; rows = rows_snoc p (has m) m.rows r pr.rows b }

-- a solution stays one with one more input or witness
pub solves_new : (p : ℕ) (d : Side) (o : Option ℕ) (m : Meaning) (ρ : Val) → Solves p m ρ → Solves p (with_new d o m) ρ
solves_new p input o m ρ s = record { low = s.low; sums = s.sums; met = s.met }
solves_new p witness o m ρ s = record { low = s.low; sums = s.sums; met = s.met }

-- and with one more combination that has its value
pub solves_combo : (p : ℕ) (x : Combo) (m : Meaning) (ρ : Val) → Solves p m ρ → ρ (Combination (places m.combos + x.sum.size)) ≡ x.sum.value ρ → Solves p (with_combo x m) ρ
solves_combo p x m ρ s e = record { low = s.low; sums = sums_snoc ρ [] m.combos x s.sums e; met = s.met }

-- and with one more row that is met
pub solves_row : (p : ℕ) (r : Row) (m : Meaning) (ρ : Val) → Solves p m ρ → (r.a.value ρ * r.b.value ρ) % p ≡ r.c.value ρ % p → Solves p (with_row r m) ρ
solves_row p r m ρ s e = record { low = s.low; sums = s.sums; met = met_snoc p ρ m.rows r s.met e }

-- ---- soundness: what solves the system at the exit has all that the script forces
pub sound_run : (p : ℕ) (ρ : Val) {A : Type 0} (s : Script A) (m n : Meaning) (x : A) (Q : A → Type 0) → run p s m ≡ (Ok x, n) → Solves p n ρ → Must p ρ s Q → Q x
sound_run p ρ (answer y) m n x Q e sol h = let q : y ≡ x = cc (ap (λ r. r.0) e) in subst Q q h
sound_run p ρ (refuse f) m n x Q e sol h = absurd (refused f m n x e)
sound_run p ρ (allocate d vs f k) m n x Q e sol h =
    let r = allocated d vs f (λ v. run p (k v)) m n x e in
    sound_run p ρ (k (next_of d m)) (with_new d r.value m) n x Q r.rest sol (h (next_of d m))
sound_run p ρ (combine ts k) m n x Q e sol h =
    let r = combined p ts (λ v. run p (k v)) m n x e in
    let v : Variable = Combination (places m.combos + (sum_of p ts).size) in
    let m₁ : Meaning = with_combo (combo_of p ts m) m in
    let at = sums_last ρ [] m.combos (combo_of p ts m) (before p m₁ n (run_grows p (k v) m₁ n x r.rest) ρ sol).sums in
    sound_run p ρ (k v) m₁ n x Q r.rest sol (h v (at ∙ sum_total p ρ sol.low.zero ts))
sound_run p ρ (row a b c s) m n x Q e sol h =
    let r = enforced p a b c (run p s) m n x e in
    let m₁ : Meaning = with_row (row_of p a b c) m in
    let at = met_last p ρ m.rows (row_of p a b c) (before p m₁ n (run_grows p s m₁ n x r.rest) ρ sol).met in
    sound_run p ρ s m₁ n x Q r.rest sol (h (row_total p ρ sol.low.zero a b c at))

-- ---- completeness
-- ρ with another number for one variable
put : Val → Variable → ℕ → Val
put ρ u x v = cond (eqb (code v) (code u)) x (ρ v)

-- it has that number there
put_at : (ρ : Val) (u : Variable) (x : ℕ) → put ρ u x u ≡ x
unfolding put
put_at ρ u x = ap (λ (b : Bool). cond b x (ρ u)) (eq-eqb (code u) (code u) refl)

-- it has the old numbers at what was there
put_agrees : (h : There) (ρ : Val) (u : Variable) (x : ℕ) → h u ≡ false → Agree h ρ (put ρ u x)
unfolding put
put_agrees h ρ u x e v k = ap (λ (b : Bool). cond b x (ρ v)) (ne_eqb (code v) (code u) (λ q. clash (sym e ∙ ap h (sym (code_same v u q)) ∙ k)))

-- it is low
put_low : (p : ℕ) (h : There) → h One ≡ true → h Zero ≡ true → (ρ : Val) (u : Variable) (x : ℕ) → h u ≡ false → x < p → Low p ρ → Low p (put ρ u x)
unfolding put
put_low p h one nil ρ u x e lx l = record {
  one = put_agrees h ρ u x e One one ∙ l.one;
  zero = put_agrees h ρ u x e Zero nil ∙ l.zero;
  low = λ v. pick (eqb (code v) (code u)) (ρ v) (l.low v);
}
  where
    pick : (b : Bool) (y : ℕ) → y < p → cond b x y < p
    pick true y q = lx
    pick false y q = q

-- an assignment that goes on from ρ and solves the system at the exit
pub record Extends (p : ℕ) (m n : Meaning) (ρ : Val) (Q : Val → Type 0) : Type 0 where
  pub values : Val
  pub solves : Solves p n values
  pub agrees : Same m ρ values
  pub says : Q values

-- what a script can go on to, a solution can be carried on to
pub complete_run : (p : ℕ) → 1 < p → {A : Type 0} (s : Script A) (m n : Meaning) (x : A) (ρ : Val) (Q : Val → A → Type 0)
    → run p s m ≡ (Ok x, n) → Proper p m → Solves p m ρ → Goes false p s (Same m ρ) Q → Extends p m n ρ (λ σ. Q σ x)
complete_run p above (answer y) m n x ρ Q e pr sol h =
    let q : y ≡ x = cc (ap (λ r. r.0) e) in
    record { values = ρ; solves = subst (λ (l : Meaning). Solves p l ρ) (ap (λ r. r.1) e) sol; agrees = λ v k. refl; says = subst (Q ρ) q (h.1 ρ sol.low (λ v k. refl)) }
complete_run p above (refuse f) m n x ρ Q e pr sol h = absurd (refused f m n x e)
complete_run p above (allocate d vs f k) m n x ρ Q e pr sol h =
    let r = allocated d vs f (λ v. run p (k v)) m n x e in
    let u : Variable = next_of d m in
    let y : ℕ = h.0.0 in
    let ρ₁ : Val = put ρ u y in
    let m₁ : Meaning = with_new d r.value m in
    let old : Same m ρ ρ₁ = put_agrees (has m) ρ u y (new_not d m) in
    let low : Low p ρ₁ = put_low p (has m) refl refl ρ u y (new_not d m) (h.1 ρ sol.low (λ v kn. refl)).0 sol.low in
    let down : (σ : Val) → Same m₁ ρ₁ σ → Same m ρ σ = λ σ g v kn. g v (wider_new d r.value m v kn) ∙ old v kn in
    let at : (σ : Val) → Same m₁ ρ₁ σ → σ u ≡ y = λ σ g. g u (new_there d r.value m) ∙ put_at ρ u y in
    let t = complete_run p above (k u) m₁ n x ρ₁ Q r.rest (proper_new p d r.value m pr) (solves_new p d r.value m ρ₁ (solves_same p m ρ ρ₁ pr old low sol)) (h.0.1 u, λ σ l g. (h.1 σ l (down σ g)).1 u (at σ g)) in
    record { values = t.values; solves = t.solves; agrees = down t.values t.agrees; says = t.says }
complete_run p above (combine ts k) m n x ρ Q e pr sol h =
    let r = combined p ts (λ v. run p (k v)) m n x e in
    let c : Combo = combo_of p ts m in
    let u : Variable = Combination (places m.combos + (sum_of p ts).size) in
    let b : Bounded p (has m) (sum_of p ts) = sum_bounded p (omega arith) (has m) refl ts r.there in
    let y : ℕ = (sum_of p ts).value ρ in
    let ρ₁ : Val = put ρ u y in
    let m₁ : Meaning = with_combo c m in
    let old : Same m ρ ρ₁ = put_agrees (has m) ρ u y (combo_not m (sum_of p ts).size) in
    let low : Low p ρ₁ = put_low p (has m) refl refl ρ u y (combo_not m (sum_of p ts).size) (b.below ρ) sol.low in
    let down : (σ : Val) → Same m₁ ρ₁ σ → Same m ρ σ = λ σ g v kn. g v (wider_combo c m v kn) ∙ old v kn in
    let at : (σ : Val) → Same m₁ ρ₁ σ → σ u ≡ (sum_of p ts).value σ = λ σ g. g u (combo_there c m) ∙ put_at ρ u y ∙ sym (b.local ρ σ (down σ g)) in
    let t = complete_run p above (k u) m₁ n x ρ₁ Q r.rest (proper_combo p c m b pr) (solves_combo p c m ρ₁ (solves_same p m ρ ρ₁ pr old low sol) (at ρ₁ (λ v kn. refl))) (h.0 u, λ σ l g. h.1 σ l (down σ g) u (at σ g ∙ sum_total p σ l.zero ts)) in
    record { values = t.values; solves = t.solves; agrees = down t.values t.agrees; says = t.says }
complete_run p above (row a b c s) m n x ρ Q e pr sol h =
    let r = enforced p a b c (run p s) m n x e in
    let bound : (ts : List Term) → TermsThere (has m) ts → Bounded p (has m) (sum_of p ts) = λ ts. sum_bounded p (omega arith) (has m) refl ts in
    let met = total_row p ρ sol.low.zero a b c (h.1 ρ sol.low (λ v kn. refl)).0 in
    let t = complete_run p above s (with_row (row_of p a b c) m) n x ρ Q r.rest (proper_row p (row_of p a b c) m (bound a r.there_a, bound b r.there_b, bound c r.there_c) pr) (solves_row p (row_of p a b c) m ρ sol met) (h.0, λ σ l g. (h.1 σ l g).1) in
    record { values = t.values; solves = t.solves; agrees = t.agrees; says = t.says }
