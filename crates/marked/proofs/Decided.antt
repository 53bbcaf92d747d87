-- What a line claims is decided by computing where its commands lead, and the numbers that obey them.
use Rattle.std.proofs.Common.{◌≡◌, ℕ, ◌<◌, Bool, true, false, not, cond, ◌&&◌, eqb, inl, inr, List, [], ◌∷◌, map, length, Some, None, Option, sym, refl, ap, ◌∙◌, subst}
use borrow.Author.Tests.{eqb-true}
use Rattle.std.proofs.lemmas.Bool.{and_parts}
use Rattle.arith.specs.Number.{Prime}
use Rattle.command.specs.declared.commands.Command.{Command}
use Rattle.command.specs.declared.fault.TapeFault.{TapeFault}
use Rattle.laws.specs.Runs.{values}
use Rattle.laws.specs.History.{Each}
use Rattle.readings.specs.Readings.{numbers_of}
use Rattle.readings.specs.State.{State}
use Rattle.readings.specs.Runs.{History, Running}
use Rattle.readings.proofs.Step.{promised}
use Rattle.marked.specs.Lines.{Claim, passes, refuses, meets, allows, always, bars, adds_nothing, uses, Line, claim, commands_of, Course, start, after, Accepted, LastRefused, Gives, Forces, Among, EndsIn, HoldsAt, Blank, AllHold}
use Rattle.marked.proofs.Walk.{Spot, first, followed, walk, last_refusal, At, begun, walks, ends_refused}
use Rattle.marked.proofs.Replies.{solutions, solves_all, all_solve}

-- ---- tests of lists of numbers
abbrev same : List ℕ → List ℕ → Bool
same [] [] = true
same [] (y ∷ ys) = false
same (x ∷ xs) [] = false
same (x ∷ xs) (y ∷ ys) = eqb x y && same xs ys

same_is : (xs ys : List ℕ) → same xs ys ≡ true → xs ≡ ys
same_is [] [] e = refl
same_is [] (y ∷ ys) e = cc e
same_is (x ∷ xs) [] e = cc e
same_is (x ∷ xs) (y ∷ ys) e = let h = and_parts (eqb x y) (same xs ys) e in λ i. eqb-true x y h.0 i ∷ same_is xs ys h.1 i

abbrev is_among : List ℕ → List (List ℕ) → Bool
is_among xs [] = false
is_among xs (ys ∷ yss) = cond (same xs ys) true (is_among xs yss)

is_among_so : (xs : List ℕ) (yss : List (List ℕ)) → is_among xs yss ≡ true → Among xs yss
is_among_so xs [] e = cc e
is_among_so xs (ys ∷ yss) e = go (same xs ys) refl e (is_among_so xs yss)
  where
    go : (t : Bool) → same xs ys ≡ t → cond t true (is_among xs yss) ≡ true → (is_among xs yss ≡ true → Among xs yss) → Among xs (ys ∷ yss)
    go true h q k = inl (same_is xs ys h)
    go false h q k = inr (k q)

abbrev all_among : List (List ℕ) → List (List ℕ) → Bool
all_among [] yss = true
all_among (xs ∷ xss) yss = is_among xs yss && all_among xss yss

all_among_so : (xs : List ℕ) (xss yss : List (List ℕ)) → all_among xss yss ≡ true → Among xs xss → Among xs yss
all_among_so xs [] yss e h = absurd h
all_among_so xs (x ∷ xss) yss e (inl q) = subst (λ (z : List ℕ). Among z yss) (sym q) (is_among_so x yss (and_parts (is_among x yss) (all_among xss yss) e).0)
all_among_so xs (x ∷ xss) yss e (inr q) = all_among_so xs xss yss (and_parts (is_among x yss) (all_among xss yss) e).1 q

abbrev ends_in : ℕ → List ℕ → Bool
ends_in y [] = false
ends_in y (x ∷ []) = eqb x y
ends_in y (x ∷ z ∷ zs) = ends_in y (z ∷ zs)

ends_in_so : (y : ℕ) (xs : List ℕ) → ends_in y xs ≡ true → EndsIn y xs
ends_in_so y [] e = cc e
ends_in_so y (x ∷ []) e = ([], ap (λ (w : ℕ). w ∷ []) (eqb-true x y e))
ends_in_so y (x ∷ z ∷ zs) e = let h = ends_in_so y (z ∷ zs) e in (x ∷ h.0, ap (λ (l : List ℕ). x ∷ l) h.1)

abbrev all_end : ℕ → List (List ℕ) → Bool
all_end y [] = true
all_end y (xs ∷ xss) = ends_in y xs && all_end y xss

all_end_so : (y : ℕ) (xs : List ℕ) (xss : List (List ℕ)) → all_end y xss ≡ true → Among xs xss → EndsIn y xs
all_end_so y xs [] e h = absurd h
all_end_so y xs (x ∷ xss) e (inl q) = subst (EndsIn y) (sym q) (ends_in_so y x (and_parts (ends_in y x) (all_end y xss) e).0)
all_end_so y xs (x ∷ xss) e (inr q) = all_end_so y xs xss (and_parts (ends_in y x) (all_end y xss) e).1 q

abbrev no_list : List (List ℕ) → Bool
no_list [] = true
no_list (xs ∷ xss) = false

-- ---- what is found of a claim by computing: where accepted commands lead, or the refusal of the last. It is the claim where that is true
abbrev if_true : Claim → Bool → Option Claim
if_true c true = Some c
if_true c false = None

abbrev refused_so : Option TapeFault → Option Claim
refused_so None = None
refused_so (Some f) = Some (refuses f)

abbrev pub found : Bool → ℕ → List Command → Claim → Option Claim
found k p cs passes = followed (walk k p cs first) (λ b. Some passes)
found k p cs (refuses f) = refused_so (last_refusal k p cs first)
found k p cs (meets xs) = followed (walk k p cs first) (λ b. if_true (meets xs) (is_among xs (solutions p b.past)))
found k p cs (allows xss) = followed (walk k p cs first) (λ b. if_true (allows xss) (all_among xss (solutions p b.past) && all_among (solutions p b.past) xss))
found k p cs (always y) = followed (walk k p cs first) (λ b. if_true (always y) (not (no_list (solutions p b.past)) && all_end y (solutions p b.past)))
found k p cs bars = followed (walk k p cs first) (λ b. if_true bars (no_list (solutions p b.past)))
found k p cs adds_nothing = followed (walk k p cs first) (λ b. if_true adds_nothing b.still)
found k p cs (uses a) = followed (walk k p cs first) (λ b. Some (uses b.spent))

reached : {A : Type 0} (w : Option Spot) (k : Spot → Option A) (x : A) → followed w k ≡ Some x → (b : Spot) × (w ≡ Some b) × (k b ≡ Some x)
reached None k x e = cc e
reached (Some b) k x e = (b, refl, e)

were_true : (c : Claim) (t : Bool) → if_true c t ≡ Some c → t ≡ true
were_true c true e = refl
were_true c false e = cc e

module _ (k : Bool) (p : ℕ) (P : Prime p) (two : 2 < p) where
  -- ---- what runs promise, of the numbers that obey
  given : (b : Spot) (g : Course) (xs : List ℕ) → At k p b g → Among xs (solutions p b.past) → Gives p g.state xs
  given b g xs a m = (promised p P two b.past g.state (subst (λ (h : History). Running p h g.state) a.past a.running)).complete xs (all_solve p b.past xs m)

  forced : (b : Spot) (g : Course) (Q : List ℕ → Type 0) → At k p b g → ((xs : List ℕ) → Among xs (solutions p b.past) → Q xs) → Forces p g.state Q
  forced b g Q a q i met = q (numbers_of (values g.state.system i) g.state.book) (solves_all p b.past _ ((promised p P two b.past g.state (subst (λ (h : History). Running p h g.state) a.past a.running)).sound i met))

  were : (b : Spot) (g : Course) → At k p b g → Accepted g.history
  were b g a = subst Accepted (sym a.past) a.accepted

  each_given : (b : Spot) (g : Course) (xss : List (List ℕ)) → At k p b g → all_among xss (solutions p b.past) ≡ true → Each (Gives p g.state) xss
  each_given b g [] a h = tt
  each_given b g (xs ∷ xss) a h = let q = and_parts (is_among xs (solutions p b.past)) (all_among xss (solutions p b.past)) h in (given b g xs a (is_among_so xs (solutions p b.past) q.0), each_given b g xss a q.1)

  -- ---- claims
  meets_so : (b : Spot) (g : Course) (xs : List ℕ) → At k p b g → is_among xs (solutions p b.past) ≡ true → HoldsAt p (meets xs) g
  meets_so b g xs a e = (were b g a, given b g xs a (is_among_so xs (solutions p b.past) e))

  allows_so : (b : Spot) (g : Course) (xss : List (List ℕ)) → At k p b g → (all_among xss (solutions p b.past) && all_among (solutions p b.past) xss) ≡ true → HoldsAt p (allows xss) g
  allows_so b g xss a e =
      let h = and_parts (all_among xss (solutions p b.past)) (all_among (solutions p b.past) xss) e in
      (were b g a, each_given b g xss a h.0, forced b g (λ xs. Among xs xss) a (λ xs m. all_among_so xs (solutions p b.past) xss h.1 m))

  always_so : (b : Spot) (g : Course) (y : ℕ) → At k p b g → (not (no_list (solutions p b.past)) && all_end y (solutions p b.past)) ≡ true → HoldsAt p (always y) g
  always_so b g y a e =
      let h = and_parts (not (no_list (solutions p b.past))) (all_end y (solutions p b.past)) e in
      (were b g a, some (solutions p b.past) refl h.0, forced b g (EndsIn y) a (λ xs m. all_end_so y xs (solutions p b.past) h.1 m))
    where
      some : (yss : List (List ℕ)) → solutions p b.past ≡ yss → not (no_list yss) ≡ true → (xs : List ℕ) × Gives p g.state xs
      some [] q h = cc h
      some (xs ∷ yss) q h = (xs, given b g xs a (subst (Among xs) (sym q) (inl refl)))

  bars_so : (b : Spot) (g : Course) → At k p b g → no_list (solutions p b.past) ≡ true → HoldsAt p bars g
  bars_so b g a e = (were b g a, forced b g (λ xs. ⊥) a (none (solutions p b.past) e))
    where
      none : (yss : List (List ℕ)) → no_list yss ≡ true → (xs : List ℕ) → Among xs yss → ⊥
      none [] h xs m = m
      none (ys ∷ yss) h xs m = cc h

  -- where all commands are accepted, what is tested of the place that they lead to
  led : (cs : List Command) (s : State) (c : Claim) (f : Spot → Option Claim) → Blank s → s.system.keeps ≡ k → followed (walk k p cs first) f ≡ Some c → (b : Spot) × At k p b (after p cs (start s)) × (f b ≡ Some c)
  led cs s c f h q e = let r = reached (walk k p cs first) f c e in (r.0, walks k p P two cs first r.0 (start s) (begun k p P two s h q) r.1, r.2)

  holds_so : (c : Claim) (cs : List Command) → found k p cs c ≡ Some c → (s : State) → Blank s → s.system.keeps ≡ k → HoldsAt p c (after p cs (start s))
  holds_so passes cs e s h kept = let r = led cs s passes (λ b. Some passes) h kept e in were r.0 (after p cs (start s)) r.1
  holds_so (refuses f) cs e s h kept = go (last_refusal k p cs first) refl e
    where
      go : (x : Option TapeFault) → last_refusal k p cs first ≡ x → refused_so x ≡ Some (refuses f) → LastRefused f (after p cs (start s)).history
      go None q r = cc r
      go (Some g) q r = ends_refused k p P two cs first f (start s) (begun k p P two s h kept) (q ∙ (let z : g ≡ f = cc r in ap Some z))
  holds_so (meets xs) cs e s h kept = let r = led cs s (meets xs) _ h kept e in meets_so r.0 (after p cs (start s)) xs r.1 (were_true (meets xs) _ r.2)
  holds_so (allows xss) cs e s h kept = let r = led cs s (allows xss) _ h kept e in allows_so r.0 (after p cs (start s)) xss r.1 (were_true (allows xss) _ r.2)
  holds_so (always y) cs e s h kept = let r = led cs s (always y) _ h kept e in always_so r.0 (after p cs (start s)) y r.1 (were_true (always y) _ r.2)
  holds_so bars cs e s h kept = let r = led cs s bars _ h kept e in bars_so r.0 (after p cs (start s)) r.1 (were_true bars _ r.2)
  holds_so adds_nothing cs e s h kept =
      let r = led cs s adds_nothing (λ b. if_true adds_nothing b.still) h kept e in
      (were r.0 (after p cs (start s)) r.1, r.1.still (were_true adds_nothing r.0.still r.2))
  holds_so (uses u) cs e s h kept =
      let r = led cs s (uses u) (λ b. Some (uses b.spent)) h kept e in
      let t : ◌≡◌ {A = Option Claim} (Some (uses r.0.spent)) (Some (uses u)) = r.2 in
      (were r.0 (after p cs (start s)) r.1, r.1.spent ∙ cc t)

-- ---- a table, where every tape is found to spell its commands and every claim is found to be true
pub all_hold : (p : ℕ) → Prime p → 2 < p → (ls : List Line) → map (λ l. commands_of (length l.tape) l.tape) ls ≡ map (λ l. Some l.commands) ls → map (λ l. found true p l.commands l.kept) ls ≡ map (λ l. Some l.kept) ls → map (λ l. found false p l.commands l.unkept) ls ≡ map (λ l. Some l.unkept) ls → AllHold p ls
all_hold p P two [] q e f = tt
all_hold p P two (l ∷ ls) q e f =
    let spells : commands_of (length l.tape) l.tape ≡ Some l.commands = cc q in
    let spell : map (λ l. commands_of (length l.tape) l.tape) ls ≡ map (λ l. Some l.commands) ls = cc q in
    let kept : found true p l.commands l.kept ≡ Some l.kept = cc e in
    let are_kept : map (λ l. found true p l.commands l.kept) ls ≡ map (λ l. Some l.kept) ls = cc e in
    let unkept : found false p l.commands l.unkept ≡ Some l.unkept = cc f in
    let are_unkept : map (λ l. found false p l.commands l.unkept) ls ≡ map (λ l. Some l.unkept) ls = cc f in
    ((spells, λ s h. either kept unkept s h s.system.keeps refl), all_hold p P two ls spell are_kept are_unkept)
  where
    either : found true p l.commands l.kept ≡ Some l.kept → found false p l.commands l.unkept ≡ Some l.unkept → (s : State) → Blank s → (k : Bool) → s.system.keeps ≡ k → HoldsAt p (claim k l) (after p l.commands (start s))
    either e f s h true k = holds_so true p P two l.kept l.commands e s h k
    either e f s h false k = holds_so false p P two l.unkept l.commands f s h k
