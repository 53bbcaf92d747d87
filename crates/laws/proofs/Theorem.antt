-- The theorem over runs, for any commands whose gadgets keep their laws.
use Rattle.std.proofs.Common.{◌≡◌, ℕ, suc, ◌<◌, true, List, [], ◌∷◌, ◌++◌, length, get_or, take, drop, None, Ok, Option, sym, refl, ap, ◌∙◌, subst, ap₂, arith, length-append}
use Rattle.std.proofs.lemmas.List.{take_at, drop_at}
use Rattle.relations.specs.declared.term.Variable.{Variable}
use Rattle.relations.specs.declared.term.Variable.TheVariants.{One, Zero, Input, Witness, Combination}
use Rattle.relations.specs.Meaning.{Meaning, Combo, Fresh, number, kept_at, has, assigned}
use Rattle.relations.specs.Script.{Script, run}
use Rattle.relations.specs.Meaning.{Grows}
use Rattle.laws.specs.Law.{Val, Low, There, Constants, Wider, Names, Tidy, Law, lists}
use Rattle.laws.specs.Runs.{Met, Sums, Agree, Same, Formed, RowsKnown, Solves, Promises, Assignment, values}
use Rattle.laws.specs.History.{Entry, accepted, refused, Obeys, Each, Along, Kept, Own, Faithful}
use Rattle.laws.proofs.Link.{has_grows, run_grows, met_same}
use Rattle.laws.proofs.Own.{assigned_grows, right_run}
use Rattle.laws.proofs.Grown.{proper_run, names_run}
use Rattle.laws.proofs.Kept.{law_runs}
use Rattle.laws.proofs.Values.{values_solve, assignment_of, assignment_agrees, own_assignment, own_agrees}

-- ---- lists
-- the numbers of two lists of answers
pub lists_append : {A : Type 0} (num : Val → A → ℕ) (ρ : Val) (xs ys : List A) → lists num ρ (xs ++ ys) ≡ lists num ρ xs ++ lists num ρ ys
lists_append num ρ [] ys = refl
lists_append num ρ (x ∷ xs) ys = ap (λ (l : List ℕ). num ρ x ∷ l) (lists_append num ρ xs ys)

-- as many numbers as answers
pub length_lists : {A : Type 0} (num : Val → A → ℕ) (ρ : Val) (xs : List A) → length (lists num ρ xs) ≡ length xs
length_lists num ρ [] = refl
length_lists num ρ (x ∷ xs) = ap (λ (n : ℕ). suc n) (length_lists num ρ xs)

-- a list is split in one way only, once the second part's length is known
same_split : (xs ys us vs : List ℕ) → xs ++ ys ≡ us ++ vs → length ys ≡ length vs → (xs ≡ us) × (ys ≡ vs)
same_split xs ys us vs e q =
    let n : length xs ≡ length us = omega (arith, length-append xs ys, length-append us vs, ap length e) in (
      sym (take_at xs ys (length xs) refl) ∙ ap (take (length xs)) e ∙ ap (λ (k : ℕ). take k (us ++ vs)) n ∙ take_at us vs (length us) refl,
      sym (drop_at xs ys (length xs) refl) ∙ ap (drop (length xs)) e ∙ ap (λ (k : ℕ). drop k (us ++ vs)) n ∙ drop_at us vs (length us) refl,
    )

-- of each in both parts
pub each_append : {A : Type 0} (P : A → Type 0) (xs ys : List A) → Each P xs → Each P ys → Each P (xs ++ ys)
each_append P [] ys h k = k
each_append P (x ∷ xs) ys h k = (h.0, each_append P xs ys h.1 k)

-- of each with its number in both parts
along_append : {A : Type 0} (P : A → ℕ → Type 0) (xs ys : List A) (us vs : List ℕ) → Along P xs us → Along P ys vs → Along P (xs ++ ys) (us ++ vs)
along_append P [] ys [] vs h k = k
along_append P [] ys (u ∷ us) vs h k = absurd h
along_append P (x ∷ xs) ys [] vs h k = absurd h
along_append P (x ∷ xs) ys (u ∷ us) vs h k = (h.0, along_append P xs ys us vs h.1 k)

-- ---- answers of a kind of their own
module _ {Answer : Type 0} (num : Val → Answer → ℕ) (Known : There → Answer → Type 0) (local : (h : There) (ρ σ : Val) → Agree h ρ σ → (o : Answer) → Known h o → num σ o ≡ num ρ o) where
  -- numbers that agree on what is there give the answers the same numbers
  pub nums_same : (h : There) (ρ σ : Val) → Agree h ρ σ → (os : List Answer) → Each (Known h) os → lists num σ os ≡ lists num ρ os
  nums_same h ρ σ g [] k = refl
  nums_same h ρ σ g (o ∷ os) k = λ j. local h ρ σ g o k.0 j ∷ nums_same h ρ σ g os k.1 j

-- answers stay known where more is there
pub each_wider : {Answer : Type 0} (Known : There → Answer → Type 0) → ((h k : There) → Wider h k → (o : Answer) → Known h o → Known k o) → (h k : There) → Wider h k → (os : List Answer) → Each (Known h) os → Each (Known k) os
each_wider Known up h k w [] a = tt
each_wider Known up h k w (o ∷ os) a = (up h k w o a.0, each_wider Known up h k w os a.1)

-- ---- the empty system
-- a solution of the empty system
start_values : Val
start_values One = 1
start_values Zero = 0
start_values (Input i) = 0
start_values (Witness i) = 0
start_values (Combination c) = 0

-- it is low
start_low : (p : ℕ) → 1 < p → Low p start_values
unfolding start_values
start_low p above = record { one = refl; zero = refl; low = go }
  where
    go : (v : Variable) → start_values v < p
    go One = above
    go Zero = omega arith
    go (Input i) = omega arith
    go (Witness i) = omega arith
    go (Combination c) = omega arith

-- all numbers solve an empty system
fresh_solves : (p : ℕ) (m : Meaning) → Fresh m → (ρ : Val) → Low p ρ → Solves p m ρ
fresh_solves p m f ρ low = record { low = low; sums = subst (Sums ρ []) (sym f.no_combos) tt; met = subst (Met p ρ) (sym f.no_rows) tt }

-- so do those that it keeps
fresh_low : (p : ℕ) → 1 < p → (m : Meaning) → Fresh m → Low p (assigned m)
fresh_low p above m f = record { one = refl; zero = refl; low = go }
  where
    go : (v : Variable) → assigned m v < p
    go One = above
    go Zero = omega arith
    go (Input k) = subst (λ (l : List (Option ℕ)). number (get_or l k None) < p) (sym f.no_inputs) (omega arith)
    go (Witness k) = subst (λ (l : List (Option ℕ)). number (get_or l k None) < p) (sym f.no_witnesses) (omega arith)
    go (Combination c) = subst (λ (l : List Combo). kept_at c l < p) (sym f.no_combos) (omega arith)

-- ---- commands
-- what is asked of the steps s of a command on a book: their law with the reading R, that what they answer is there, that the values that they give
-- are low, that numbers that obey the reading are such as the answers stand for, and that numbers that the book stands for are such as the law wants
pub record Obeyed (p : ℕ) {Answer : Type 0} (num : Val → Answer → ℕ) (Known : There → Answer → Type 0) (Kind : Answer → ℕ → Type 0)
    (bk : List Answer) (s : Script (List Answer)) (Pre : List ℕ → Type 0) (R : List ℕ → List ℕ → Type 0) (S : List ℕ → Type 0) (e : List ℕ → List ℕ) : Type 0 where
  pub law : Law p (λ ρ (u : Unit {0}). lists num ρ bk) (lists num) (λ u. s) Pre R S e
  pub names : (h : There) → Constants h → Each (Known h) bk → Names h s (λ k os. Each (Known k) os)
  pub tidy : Tidy p s
  pub kinds : (os : List Answer) (m n : Meaning) → run p s m ≡ (Ok os, n) → (old new : List ℕ) → Along Kind bk old → length new ≡ length os → R old new → Along Kind os new
  pub pre : (xs : List ℕ) → Along Kind bk xs → Pre xs

module _ (p : ℕ) (above : 1 < p) {Cmd Answer : Type 0} (num : Val → Answer → ℕ) (Known : There → Answer → Type 0) (Kind : Answer → ℕ → Type 0) (Reading : Cmd → List ℕ → List ℕ → Type 0) where
  -- what is promised of a system that is empty, and of no commands
  pub start : (m : Meaning) → Fresh m → Kept p num Known Kind Reading [] m []
  start m f = record {
    proper = record { formed = subst (Formed p (length m.inputs) (length m.witnesses) []) (sym f.no_combos) tt; rows = subst (RowsKnown p (has m)) (sym f.no_rows) tt };
    book = tt;
    kinds = λ xs e. subst (Along Kind []) (sym e) tt;
    right = λ k. record { low = fresh_low p above m f; sums = subst (Sums (assigned m) []) (sym f.no_combos) tt };
    sound = λ ρ s. refl;
    complete = λ xs e. (start_values, fresh_solves p m f start_values (start_low p above), sym e);
    own = λ k o. fresh_solves p m f (assigned m) (fresh_low p above m f);
  }

  -- a refused command changes nothing
  pub step_refused : (c : Cmd) (h : List (Entry Cmd)) (m : Meaning) (bk : List Answer) → Kept p num Known Kind Reading h m bk → Kept p num Known Kind Reading (refused c ∷ h) m bk
  step_refused c h m bk k = record { proper = k.proper; book = k.book; kinds = k.kinds; right = k.right; sound = k.sound; complete = k.complete; own = k.own }

  -- ---- in terms of assignments to inputs and witnesses
  module _ (local : (h : There) (ρ σ : Val) → Agree h ρ σ → (o : Answer) → Known h o → num σ o ≡ num ρ o) where
    -- every assignment that meets the rows gives numbers that obey
    pub assigned_sound : (h : List (Entry Cmd)) (m : Meaning) (bk : List Answer) → Kept p num Known Kind Reading h m bk → (a : Assignment p m) → Met p (values m a) m.rows → Obeys Reading h (lists num (values m a) bk)
    assigned_sound h m bk k a met = k.sound (values m a) (values_solve p above m a k.proper met)

    -- numbers that obey are given by some assignment that meets the rows
    pub assigned_complete : (h : List (Entry Cmd)) (m : Meaning) (bk : List Answer) → Kept p num Known Kind Reading h m bk → (xs : List ℕ) → Obeys Reading h xs → (a : Assignment p m) × Met p (values m a) m.rows × (lists num (values m a) bk ≡ xs)
    assigned_complete h m bk k xs o =
        let got = k.complete xs o in
        let a : Assignment p m = assignment_of p m got.0 got.1.low in
        let same : Same m got.0 (values m a) = assignment_agrees p m got.0 k.proper got.1 in
        (a, met_same p (has m) got.0 (values m a) same m.rows k.proper.rows got.1.met, nums_same num Known local (has m) got.0 (values m a) same bk k.book ∙ got.2)

    -- where values are kept, the kept numbers are an assignment
    pub assigned_own : (h : List (Entry Cmd)) (m : Meaning) (bk : List Answer) → Kept p num Known Kind Reading h m bk → m.keeps ≡ true → Own p num Reading h m bk
    assigned_own h m bk k keeps = record {
      assignment = a;
      inputs = refl;
      witnesses = refl;
      agrees = same;
      obeys = assigned_sound h m bk k a;
      meets = λ o. met_same p (has m) (assigned m) (values m a) same m.rows k.proper.rows (k.own keeps (subst (Obeys Reading h) (nums_same num Known local (has m) (assigned m) (values m a) same bk k.book) o)).met;
    }
      where
        a : Assignment p m
        a = own_assignment p m (k.right keeps)

        same : Same m (assigned m) (values m (own_assignment p m (k.right keeps)))
        same = own_agrees p m k.proper (k.right keeps)

    -- all three
    pub faithful : (h : List (Entry Cmd)) (m : Meaning) (bk : List Answer) → Kept p num Known Kind Reading h m bk → Faithful p num Reading h m bk
    faithful h m bk k = record { sound = assigned_sound h m bk k; complete = assigned_complete h m bk k; own = assigned_own h m bk k }

  -- ---- commands with their scripts
  module _ (local : (h : There) (ρ σ : Val) → Agree h ρ σ → (o : Answer) → Known h o → num σ o ≡ num ρ o)
      (wider : (h k : There) → Wider h k → (o : Answer) → Known h o → Known k o) where
    -- an accepted command is one more entry, with its answers
    pub step_accepted : (c : Cmd) (h : List (Entry Cmd)) (m n : Meaning) (bk os : List Answer) (s : Script (List Answer)) (Pre S : List ℕ → Type 0) (e : List ℕ → List ℕ) → Obeyed p num Known Kind bk s Pre (Reading c) S e
        → Kept p num Known Kind Reading h m bk → run p s m ≡ (Ok os, n) → Kept p num Known Kind Reading (accepted c (length os) ∷ h) n (bk ++ os)
    step_accepted c h m n bk os s Pre S e by k ran = record {
      proper = proper_run p above s m n os ran k.proper;
      book = each_append (Known (has n)) bk os (each_wider Known wider (has m) (has n) (has_grows m n grows) bk k.book) (names_run p s m n os (λ t os. Each (Known t) os) ran (by.names (has m) (record { one = refl; zero = refl }) k.book));
      kinds = λ xs o. subst (Along Kind (bk ++ os)) (sym o.2) (along_append Kind bk os o.0 o.1 (k.kinds o.0 o.5) (by.kinds os m n ran o.0 o.1 (k.kinds o.0 o.5) o.3 o.4));
      right = λ q. right_run p above s m n os ran by.tidy (kept q) k.proper (k.right (kept q));
      sound = sound;
      complete = complete;
      own = own;
    }
      where
        grows : Grows m n
        grows = run_grows p s m n os ran

        kept : n.keeps ≡ true → m.keeps ≡ true
        kept q = sym (run_grows p s m n os ran).keeps_is ∙ q

        promises : Promises p (λ ρ (u : Unit {0}). lists num ρ bk) (lists num) Pre (Reading c) tt m n os
        promises = law_runs p above (λ ρ (u : Unit {0}). lists num ρ bk) (lists num) (λ u. s) Pre (Reading c) S e by.law tt m n os k.proper (λ ρ σ a. nums_same num Known local (has m) ρ σ a bk k.book) ran

        known : (xs : List ℕ) → Obeys Reading h xs → Pre xs
        known xs o = by.pre xs (k.kinds xs o)

        sound : (ρ : Val) → Solves p n ρ → Obeys Reading (accepted c (length os) ∷ h) (lists num ρ (bk ++ os))
        sound ρ t =
            let o : Obeys Reading h (lists num ρ bk) = k.sound ρ (promises.before ρ t) in
            (lists num ρ bk, lists num ρ os, lists_append num ρ bk os, length_lists num ρ os, promises.sound ρ t (known (lists num ρ bk) o), o)

        complete : (xs : List ℕ) → Obeys Reading (accepted c (length os) ∷ h) xs → (ρ : Val) × Solves p n ρ × (lists num ρ (bk ++ os) ≡ xs)
        complete xs o =
            let old : List ℕ = o.0 in
            let got = k.complete old o.5 in
            let ρ : Val = got.0 in
            let more = promises.complete ρ got.1 o.1 (subst Pre (sym got.2) (known old o.5)) (subst (λ (l : List ℕ). Reading c l o.1) (sym got.2) o.4) in
            let same = nums_same num Known local (has m) ρ more.0 more.2 bk k.book ∙ got.2 in
            (more.0, more.1, lists_append num more.0 bk os ∙ ap₂ (λ (x y : List ℕ). x ++ y) same more.3 ∙ sym o.2)

        own : n.keeps ≡ true → Obeys Reading (accepted c (length os) ∷ h) (lists num (assigned n) (bk ++ os)) → Solves p n (assigned n)
        own q o =
            let split = same_split (lists num (assigned n) bk) (lists num (assigned n) os) o.0 o.1 (sym (lists_append num (assigned n) bk os) ∙ o.2) (length_lists num (assigned n) os ∙ sym o.3) in
            let same : lists num (assigned n) bk ≡ lists num (assigned m) bk = nums_same num Known local (has m) (assigned m) (assigned n) (assigned_grows m n grows) bk k.book in
            let first : o.0 ≡ lists num (assigned m) bk = sym split.0 ∙ same in
            let old : Obeys Reading h (lists num (assigned m) bk) = subst (Obeys Reading h) first o.5 in
            (promises.own (kept q) (k.own (kept q) old) (known (lists num (assigned m) bk) old) (o.1, subst (λ (l : List ℕ). Reading c l o.1) first o.4)).0
