-- The law of the bound on what bits spell.
use Rattle.std.proofs.Common.{◌≡◌, ℕ, zero, suc, ◌^◌, ◌<◌, ◌≤◌, Bool, true, false, ◌&&◌, List, [], ◌∷◌, ◌++◌, drop, get_or, sym, refl, ap, ap₂, ◌∙◌, subst, arith}
use Rattle.arith.specs.Number.{Prime}
use Rattle.relations.specs.Script.{then}
use Rattle.allocated.specs.declared.gate.Gate.TheVariants.{Or as or_gate}
use Rattle.boolean.specs.declared.bits.Boolean.{Boolean}
use Rattle.boolean.specs.declared.bits.Boolean.TheVariants.{Constant}
use Rattle.allocated.specs.Gates.{bit, truth}
use Rattle.boolean.specs.Booleans.{zero_script}
use Rattle.gates.specs.declared.wide.Wide.TheVariants.{And}
use Rattle.gates.specs.Kary.{all_of, any_of, kary_script}
use Rattle.gates.specs.Walk.{bit_of, bit_length, place, above_script, closed_script, fall_script, descent, walk_script}
use Rattle.laws.specs.Law.{Val, Law, lists, Orderly}
use Rattle.laws.proofs.Frame.{nothing}
use lib.ListN.{get_or-map}
use mathlib.Core.Bool.{and-true, and_assoc, and_comm}
use Rattle.std.proofs.lemmas.List.{drop-map}
use Rattle.laws.proofs.Theorem.{lists_append, each_append}
use Rattle.bit_laws.proofs.Lists.{lists_drop, lists_at, each_drop, each_at}
use Rattle.bit_laws.specs.Bits.{bit_number_of, ThereBit, AllBits, truths, spelled}
use Rattle.bit_laws.proofs.BitLaws.{bit_low, same_bit, known_bit}
use Rattle.bit_laws.proofs.Choices.{bit_wider}
use Rattle.bit_laws.proofs.Statements.{zero_fixes, zero_neat, Silent}
use Rattle.bit_laws.proofs.Chains.{Starts, folds_or, chain_fixes, kary_fixes, bits_wider, ThereAll, chain_neat, kary_neat}
use Rattle.bit_laws.proofs.Walking.{Either, Walk, walk_is, spelled_is, bits_enough}
use Rattle.bit_laws.proofs.Fixes.{Fixes, Always, fixes_then, fixes_next, fixes_on, fixes_as, fixes_is, fixes_to, fixes_if, fixes_answer, fixes_law, Neat, neat_then, neat_next, neat_on, neat_if, neat_answer, neat_orderly}

-- ---- lists
no_bit : (b : Bool) → bit b ≡ 0 → b ≡ false
no_bit true e = absurd (omega arith)
no_bit false e = refl

-- all of a list and of one more
all_end : (xs : List ℕ) (x : ℕ) → all_of (truths (xs ++ (x ∷ []))) ≡ (all_of (truths xs) && truth x)
all_end [] x = and-true (truth x)
all_end (y ∷ xs) x = ap (λ (b : Bool). truth y && b) (all_end xs x) ∙ sym (and_assoc (truth y) (all_of (truths xs)) (truth x))

-- ---- one place
-- a bit, and the run that is closed with it
abbrev closed : ℕ × List ℕ → Bool
closed x = truth x.0 && all_of (truths x.1)

-- the same with one bit more
abbrev Falls : ℕ × List ℕ × ℕ → Type 0
Falls x = (x.0 ≤ 1) × AllBits x.1 × (x.2 ≤ 1)

-- the bits, what closed the last run, and the run
abbrev Ready : List ℕ × ℕ × List ℕ → Type 0
Ready x = AllBits x.0 × (x.1 ≤ 1) × AllBits x.2

abbrev WalkFrom : ℕ → ℕ → List ℕ × ℕ × List ℕ → Type 0
WalkFrom e i x = Walk i e (truths x.0) (closed (x.1, x.2))

-- a one of the bound, and a zero
at_one : (A B : Type 0) {b : Bool} → b ≡ true → A → Either b A B
at_one A B q a = subst (λ (b : Bool). Either b A B) (sym q) a

of_one : (A B : Type 0) {b : Bool} → b ≡ true → Either b A B → A
of_one A B q a = subst (λ (b : Bool). Either b A B) q a

at_zero : (A B : Type 0) {b : Bool} → b ≡ false → B → Either b A B
at_zero A B q a = subst (λ (b : Bool). Either b A B) (sym q) a

of_zero : (A B : Type 0) {b : Bool} → b ≡ false → Either b A B → B
of_zero A B q a = subst (λ (b : Bool). Either b A B) q a

module _ (p : ℕ) (P : Prime p) (two : 2 < p) where
  closed_fixes : (run : List Boolean) (last : Boolean) → Fixes p (λ ρ. (bit_number_of ρ last, lists bit_number_of ρ run)) bit_number_of (closed_script p run last) Starts Always (λ x. bit (closed x))
  closed_fixes [] last = fixes_answer last Starts Always (λ x. bit (closed x)) (λ ρ low h. (tt, same_bit (bit_number_of ρ last) h.0 ∙ ap bit (sym (and-true (truth (bit_number_of ρ last))))))
  closed_fixes (b ∷ run) last =
      fixes_is Starts (λ x. bit (closed x)) (λ x h. each_append (λ x. x ≤ 1) x.1 (x.0 ∷ []) h.1 (h.0, tt)) (λ x h. tt) (λ x h. ap bit (all_end x.1 x.0 ∙ and_comm (all_of (truths x.1)) (truth x.0)))
      (fixes_on (λ ρ. (bit_number_of ρ last, lists bit_number_of ρ (b ∷ run))) (λ x. x.1 ++ (x.0 ∷ [])) (λ ρ low. lists_append bit_number_of ρ (b ∷ run) (last ∷ [])) (kary_fixes p P two And ((b ∷ run) ++ (last ∷ []))))

  -- at a zero of the bound
  fall_fixes : (run : List Boolean) (last b : Boolean) → Fixes p (λ ρ. (bit_number_of ρ last, lists bit_number_of ρ run, bit_number_of ρ b)) bit_number_of (fall_script p run last b) Falls (λ x. (closed (x.0, x.1) && truth x.2) ≡ false) (λ x. bit (closed (x.0, x.1)))
  fall_fixes run last b =
      let to : Val → ℕ × List ℕ × ℕ = λ ρ. (bit_number_of ρ last, lists bit_number_of ρ run, bit_number_of ρ b) in
      fixes_as Falls (λ x. (closed (x.0, x.1) && truth x.2) ≡ false) (λ x. bit (closed (x.0, x.1))) (λ x h. h)
      (λ x h r. sym (same (closed (x.0, x.1)) x.2) ∙ no_bit _ r.1.0.1) (λ x h r. (tt, ((tt, ap bit (same (closed (x.0, x.1)) x.2 ∙ r)), tt))) (λ x h r. refl)
      (fixes_then (fixes_to to (λ x. (x.0, x.1)) Falls (λ x. bit (closed (x.0, x.1))) (λ ρ low. refl) (λ x h. (h.0, h.1)) (λ ρ low h. refl) (closed_fixes run last))
      (λ l. fixes_then (fixes_next (fixes_on (λ ρ. (to ρ, bit_number_of ρ l)) (λ x. x.1 ∷ x.0.2 ∷ []) (λ ρ low. refl) (kary_fixes p P two And (l ∷ b ∷ []))) (zero_fixes p two) (λ x h r. bit_low _))
      (λ u. fixes_answer {at = λ ρ. ((to ρ, bit_number_of ρ l), nothing ρ u)} l Always Always (λ x. x.0.1) (λ ρ low h. (tt, refl))) (λ x h r. tt))
      (λ x h r. (bit_low _, (h.2, tt))))
    where
      same : (v : Bool) (n : ℕ) → all_of (truths (bit v ∷ n ∷ [])) ≡ (v && truth n)
      same v n = ap₂ (λ (a c : Bool). a && c) (known_bit v) (and-true (truth n))

  -- from place i down
  descent_fixes : (e i : ℕ) (bs : List Boolean) (last : Boolean) (run : List Boolean) → Fixes p (λ ρ. (lists bit_number_of ρ bs, bit_number_of ρ last, lists bit_number_of ρ run)) nothing (descent p e i bs last run) Ready (WalkFrom e i) (λ x. tt)
  descent_fixes e zero bs last run = fixes_answer tt Ready (WalkFrom e zero) (λ x. tt) (λ ρ low h. (tt, refl))
  descent_fixes e (suc i) bs last run =
      let to : Val → List ℕ × ℕ × List ℕ = λ ρ. (lists bit_number_of ρ bs, bit_number_of ρ last, lists bit_number_of ρ run) in
      fixes_if (bit_of e i)
      (λ q. fixes_as Ready (WalkFrom e (suc i)) (λ x. tt) (λ x h. (h.0, h.1, each_append (λ x. x ≤ 1) x.2 (get_or x.0 i 0 ∷ []) h.2 (each_at (λ x. x ≤ 1) x.0 i 0 (omega arith) h.0, tt)))
      (λ x h r. at_one _ _ q (subst (Walk i e (truths x.0)) (longer x) r)) (λ x h r. subst (Walk i e (truths x.0)) (sym (longer x)) (of_one _ _ q r)) (λ x h r. refl)
      (fixes_on to (λ x. (x.0, x.1, x.2 ++ (get_or x.0 i 0 ∷ []))) (λ ρ low j. (lists bit_number_of ρ bs, bit_number_of ρ last, (lists_append bit_number_of ρ run (place bs i ∷ []) ∙ ap (λ (n : ℕ). lists bit_number_of ρ run ++ (n ∷ [])) (lists_at bit_number_of ρ bs i (Constant false))) j))
      (descent_fixes e i bs last (run ++ (place bs i ∷ [])))))
      (λ q. fixes_as Ready (WalkFrom e (suc i)) (λ x. tt) (λ x h. h)
      (λ x h r. at_zero _ _ q (sym (falls x) ∙ r.0, subst (Walk i e (truths x.0)) (shut x) r.1)) (λ x h r. let w = of_zero _ _ q r in (falls x ∙ w.0, subst (Walk i e (truths x.0)) (sym (shut x)) w.1)) (λ x h r. refl)
      (fixes_then (fixes_as Ready (λ x. (closed (x.1, x.2) && truth (get_or x.0 i 0)) ≡ false) (λ x. bit (closed (x.1, x.2))) (λ x h. (h.1, h.2, each_at (λ x. x ≤ 1) x.0 i 0 (omega arith) h.0)) (λ x h r. r) (λ x h r. r) (λ x h r. refl)
      (fixes_on to (λ x. (x.1, x.2, get_or x.0 i 0)) (λ ρ low j. (bit_number_of ρ last, lists bit_number_of ρ run, lists_at bit_number_of ρ bs i (Constant false) j)) (fall_fixes run last (place bs i))))
      (λ l. fixes_on (λ ρ. (to ρ, bit_number_of ρ l)) (λ x. (x.0.0, x.1, [])) (λ ρ low. refl) (descent_fixes e i bs l [])) (λ x h r. (h.0, bit_low _, tt))))
    where
      falls : (x : List ℕ × ℕ × List ℕ) → (closed (x.1, x.2) && truth (get_or x.0 i 0)) ≡ (closed (x.1, x.2) && get_or (truths x.0) i false)
      falls x = ap (λ (b : Bool). closed (x.1, x.2) && b) (sym (get_or-map truth x.0 i 0))

      longer : (x : List ℕ × ℕ × List ℕ) → closed (x.1, x.2 ++ (get_or x.0 i 0 ∷ [])) ≡ (closed (x.1, x.2) && get_or (truths x.0) i false)
      longer x = ap (λ (b : Bool). truth x.1 && b) (all_end x.2 (get_or x.0 i 0)) ∙ sym (and_assoc (truth x.1) (all_of (truths x.2)) (truth (get_or x.0 i 0))) ∙ falls x

      shut : (x : List ℕ × ℕ × List ℕ) → closed (bit (closed (x.1, x.2)), []) ≡ closed (x.1, x.2)
      shut x = and-true (truth (bit (closed (x.1, x.2)))) ∙ known_bit (closed (x.1, x.2))

  -- the bits above the bound's
  above_fixes : (bs : List Boolean) → Fixes p (λ ρ. lists bit_number_of ρ bs) nothing (above_script p bs) AllBits (λ xs. any_of (truths xs) ≡ false) (λ xs. tt)
  above_fixes bs =
      fixes_as AllBits (λ xs. any_of (truths xs) ≡ false) (λ xs. tt) (λ xs h. (omega arith, h)) (λ xs h r. sym (folds_or false (truths xs)) ∙ no_bit _ r.1) (λ xs h r. (tt, ap bit (folds_or false (truths xs) ∙ r))) (λ xs h r. refl)
      (fixes_next (fixes_on (λ ρ. lists bit_number_of ρ bs) (λ xs. (0, xs)) (λ ρ low. refl) (chain_fixes p P two or_gate bs (Constant false))) (zero_fixes p two) (λ xs h r. bit_low _))

  -- the walk over n places, for a bound below 2 ^ n
  walk_at : (n e : ℕ) (bs : List Boolean) → e < 2 ^ n → Fixes p (λ ρ. lists bit_number_of ρ bs) nothing (then (above_script p (drop n bs)) (λ u. descent p e n bs (Constant true) [])) AllBits (λ xs. spelled xs ≤ e) (λ xs. tt)
  walk_at n e bs lt =
      fixes_as AllBits (λ xs. spelled xs ≤ e) (λ xs. tt) (λ xs h. h)
      (λ xs h r. let w = (walk_is n e (truths xs) lt).0 (sym (ap any_of (sym (drop-map truth n xs))) ∙ r.0, r.1) in omega (arith, w, spelled_is xs h))
      (λ xs h r. let w = (walk_is n e (truths xs) lt).1 (omega (arith, r, spelled_is xs h)) in (ap any_of (sym (drop-map truth n xs)) ∙ w.0, w.1)) (λ xs h r. refl)
      (fixes_then (fixes_as AllBits (λ xs. any_of (truths (drop n xs)) ≡ false) (λ xs. tt) (λ xs h. each_drop (λ x. x ≤ 1) n xs h) (λ xs h r. r) (λ xs h r. r) (λ xs h r. refl)
      (fixes_on (λ ρ. lists bit_number_of ρ bs) (λ xs. drop n xs) (λ ρ low. lists_drop bit_number_of ρ n bs) (above_fixes (drop n bs))))
      (λ u. fixes_on (λ ρ. (lists bit_number_of ρ bs, nothing ρ u)) (λ x. (x.0, 1, [])) (λ ρ low. refl) (descent_fixes e n bs (Constant true) [])) (λ xs h r. (h, omega arith, tt)))

  pub walk_fixes : (bs : List Boolean) (e : ℕ) → e < 2 ^ 64 → Fixes p (λ ρ. lists bit_number_of ρ bs) nothing (walk_script p bs e) AllBits (λ xs. spelled xs ≤ e) (λ xs. tt)
  walk_fixes bs e lt = walk_at (bit_length e) e bs (bits_enough e 64 lt)

  pub walk_law : (e : ℕ) → e < 2 ^ 64 → Law p (lists bit_number_of) nothing (λ bs. walk_script p bs e) AllBits (λ xs u. spelled xs ≤ e) (λ xs. spelled xs ≤ e) (λ xs. tt)
  walk_law e lt = fixes_law (λ bs. walk_fixes bs e lt)

-- ---- in order
module _ (p : ℕ) (above : 1 < p) where
  closed_neat : (run : List Boolean) (last : Boolean) → Neat p (closed_script p run last) (λ h. ThereBit h last × ThereAll h run) ThereBit
  closed_neat [] last = neat_answer last (λ h. ThereBit h last × ThereAll h []) ThereBit (λ h t. t.0)
  closed_neat (b ∷ run) last = neat_on (λ h. ThereBit h last × ThereAll h (b ∷ run)) (λ h t. each_append (ThereBit h) (b ∷ run) (last ∷ []) t.1 (t.0, tt)) (kary_neat p above And ((b ∷ run) ++ (last ∷ [])))

  fall_neat : (run : List Boolean) (last b : Boolean) → Neat p (fall_script p run last b) (λ h. ThereBit h last × ThereAll h run × ThereBit h b) ThereBit
  fall_neat run last b =
      neat_then (λ h k up t. (bit_wider h k up last t.0, bits_wider h k up run t.1, bit_wider h k up b t.2))
      (neat_on (λ h. ThereBit h last × ThereAll h run × ThereBit h b) (λ h t. (t.0, t.1)) (closed_neat run last))
      (λ l. neat_then {s = then (kary_script And p (l ∷ b ∷ [])) zero_script} (λ h k up t. ((bit_wider h k up last t.0.0, bits_wider h k up run t.0.1, bit_wider h k up b t.0.2), bit_wider h k up l t.1))
      (neat_on (λ h. (ThereBit h last × ThereAll h run × ThereBit h b) × ThereBit h l) (λ h t. (t.1, (t.0.2, tt))) (neat_next (kary_neat p above And (l ∷ b ∷ [])) (zero_neat p)))
      (λ u. neat_answer l (λ h. ((ThereBit h last × ThereAll h run × ThereBit h b) × ThereBit h l) × Silent h u) ThereBit (λ h t. t.0.1)))

  descent_neat : (e i : ℕ) (bs : List Boolean) (last : Boolean) (run : List Boolean) → Neat p (descent p e i bs last run) (λ h. ThereAll h bs × ThereBit h last × ThereAll h run) Silent
  descent_neat e zero bs last run = neat_answer tt (λ h. ThereAll h bs × ThereBit h last × ThereAll h run) Silent (λ h t. tt)
  descent_neat e (suc i) bs last run =
      neat_if (bit_of e i)
      (neat_on (λ h. ThereAll h bs × ThereBit h last × ThereAll h run) (λ h t. (t.0, t.1, each_append (ThereBit h) run (place bs i ∷ []) t.2 (each_at (ThereBit h) bs i (Constant false) tt t.0, tt))) (descent_neat e i bs last (run ++ (place bs i ∷ []))))
      (neat_then (λ h k up t. (bits_wider h k up bs t.0, bit_wider h k up last t.1, bits_wider h k up run t.2))
      (neat_on (λ h. ThereAll h bs × ThereBit h last × ThereAll h run) (λ h t. (t.1, t.2, each_at (ThereBit h) bs i (Constant false) tt t.0)) (fall_neat run last (place bs i)))
      (λ l. neat_on (λ h. (ThereAll h bs × ThereBit h last × ThereAll h run) × ThereBit h l) (λ h t. (t.0.0, t.1, tt)) (descent_neat e i bs l [])))

  walk_neat_at : (n e : ℕ) (bs : List Boolean) → Neat p (then (above_script p (drop n bs)) (λ u. descent p e n bs (Constant true) [])) (λ h. ThereAll h bs) Silent
  walk_neat_at n e bs =
      neat_then {s = above_script p (drop n bs)} (λ h k up t. bits_wider h k up bs t)
      (neat_next (neat_on (λ h. ThereAll h bs) (λ h t. (tt, each_drop (ThereBit h) n bs t)) (chain_neat p above or_gate (drop n bs) (Constant false))) (zero_neat p))
      (λ u. neat_on (λ h. ThereAll h bs × Silent h u) (λ h t. (t.0, tt, tt)) (descent_neat e n bs (Constant true) []))

  pub walk_neat : (bs : List Boolean) (e : ℕ) → Neat p (walk_script p bs e) (λ h. ThereAll h bs) Silent
  walk_neat bs e = walk_neat_at (bit_length e) e bs

  pub walk_orderly : (e : ℕ) → Orderly p (λ bs. walk_script p bs e) ThereAll Silent
  walk_orderly e = neat_orderly (λ bs. walk_neat bs e)
