-- What a history of commands says of the numbers that were answered, and what a system promises of them.
use Rattle.std.specs.Prelude.{◌≡◌, ℕ, true, List, [], ◌∷◌, ◌++◌, map, length, Ok, Err, Result}
use Rattle.relations.specs.Meaning.{Meaning, number, has, assigned}
use Rattle.laws.specs.Law.{Val, There, lists}
use Rattle.laws.specs.Runs.{Met, Same, Proper, Solves, Right, Assignment, values}

-- a command and how it ended: with so many answers, or refused
pub data Entry (Cmd : Type 0) : Type 0 where
  accepted : Cmd → ℕ → Entry Cmd
  refused : Cmd → Entry Cmd

-- the numbers xs, oldest first, obey a history, newest first. Reading c old new says what the command c promises of the new numbers
-- where the old ones were there before it; a refused command says nothing
abbrev pub Obeys : {Cmd : Type 0} → (Cmd → List ℕ → List ℕ → Type 0) → List (Entry Cmd) → List ℕ → Type 0
Obeys R [] xs = xs ≡ []
Obeys R (accepted c k ∷ h) xs = (old : List ℕ) × (new : List ℕ) × (xs ≡ old ++ new) × (length new ≡ k) × R c old new × Obeys R h old
Obeys R (refused c ∷ h) xs = Obeys R h xs

-- the book after a command that ended so
abbrev pub written : {A E : Type 0} → List A → Result (List A) E → List A
written bk (Ok os) = bk ++ os
written bk (Err e) = bk

-- the entry of a command that ended so
abbrev pub entered : {Cmd A E : Type 0} → Cmd → Result (List A) E → Entry Cmd
entered c (Ok os) = accepted c (length os)
entered c (Err e) = refused c

-- something holds of each answer
abbrev pub Each : {A : Type 0} → (A → Type 0) → List A → Type 0
Each P [] = Unit {0}
Each P (x ∷ xs) = P x × Each P xs

-- something holds of each answer with its number
abbrev pub Along : {A : Type 0} → (A → ℕ → Type 0) → List A → List ℕ → Type 0
Along P [] [] = Unit {0}
Along P [] (x ∷ xs) = ⊥
Along P (a ∷ bk) [] = ⊥
Along P (a ∷ bk) (x ∷ xs) = P a x × Along P bk xs

-- what is kept from command to command. Known h o says that what the answer o names is there, Kind o x that x is a number such as o stands for
pub record Kept (p : ℕ) {Cmd Answer : Type 0} (num : Val → Answer → ℕ) (Known : There → Answer → Type 0) (Kind : Answer → ℕ → Type 0) (Reading : Cmd → List ℕ → List ℕ → Type 0)
    (h : List (Entry Cmd)) (m : Meaning) (bk : List Answer) : Type 0 where
  -- all that is named is there
  pub proper : Proper p m
  pub book : Each (Known (has m)) bk
  -- numbers that obey the history are such as the book's answers stand for
  pub kinds : (xs : List ℕ) → Obeys Reading h xs → Along Kind bk xs
  -- the kept values are right
  pub right : m.keeps ≡ true → Right p m
  -- every assignment that meets the rows gives numbers that obey
  pub sound : (ρ : Val) → Solves p m ρ → Obeys Reading h (lists num ρ bk)
  -- numbers that obey are given by some assignment that meets the rows
  pub complete : (xs : List ℕ) → Obeys Reading h xs → (ρ : Val) × Solves p m ρ × (lists num ρ bk ≡ xs)
  -- the kept values meet the rows if the numbers that they give obey
  pub own : m.keeps ≡ true → Obeys Reading h (lists num (assigned m) bk) → Solves p m (assigned m)

-- the kept numbers as an assignment
pub record Own (p : ℕ) {Cmd Answer : Type 0} (num : Val → Answer → ℕ) (Reading : Cmd → List ℕ → List ℕ → Type 0) (h : List (Entry Cmd)) (m : Meaning) (bk : List Answer) : Type 0 where
  pub assignment : Assignment p m
  pub inputs : assignment.inputs ≡ map number m.inputs
  pub witnesses : assignment.witnesses ≡ map number m.witnesses
  -- it gives every variable that is there the number that is kept for it
  pub agrees : Same m (assigned m) (values m assignment)
  -- it meets the rows exactly when the numbers that it gives obey
  pub obeys : Met p (values m assignment) m.rows → Obeys Reading h (lists num (values m assignment) bk)
  pub meets : Obeys Reading h (lists num (values m assignment) bk) → Met p (values m assignment) m.rows

-- the system says of its inputs and witnesses what the history says of the answers
pub record Faithful (p : ℕ) {Cmd Answer : Type 0} (num : Val → Answer → ℕ) (Reading : Cmd → List ℕ → List ℕ → Type 0) (h : List (Entry Cmd)) (m : Meaning) (bk : List Answer) : Type 0 where
  -- every assignment that meets the rows gives numbers that obey
  pub sound : (a : Assignment p m) → Met p (values m a) m.rows → Obeys Reading h (lists num (values m a) bk)
  -- numbers that obey are given by some assignment that meets the rows
  pub complete : (xs : List ℕ) → Obeys Reading h xs → (a : Assignment p m) × Met p (values m a) m.rows × (lists num (values m a) bk ≡ xs)
  -- where values are kept, the kept numbers are such an assignment
  pub own : m.keeps ≡ true → Own p num Reading h m bk
