-- Runs of commands, and what every run promises.
use Rattle.std.specs.Prelude.{◌≡◌, ◌↔◌, ℕ, true, List, [], ◌∷◌, ◌++◌, length, None, Ok, Err, Option, Result}
use Rattle.relations.specs.Meaning.{Fresh, Grows, assigned}
use Rattle.relations.specs.Unmet.{first_unmet}
use Rattle.relations.specs.Script.{over}
use Rattle.allocated.specs.Gates.{bit_number}
use Rattle.command.specs.declared.commands.Kind.{Kind}
use Rattle.command.specs.declared.commands.Command.{Command}
use Rattle.command.specs.declared.commands.Command.TheVariants.{Bit as BitCommand, Number as NumberCommand}
use Rattle.command.specs.declared.answers.Answer.{Answer}
use Rattle.command.specs.declared.fault.TapeFault.{TapeFault}
use Rattle.command.specs.Answers.{kinds, value_of, number_of as tape_number}
use Rattle.laws.specs.Law.{Given}
use Rattle.laws.specs.Runs.{Met, Assignment, values}
use Rattle.laws.specs.History.{Entry, accepted, refused, Obeys, Each, Kept, Own}
use Rattle.laws.specs.Bill.{settled, account}
use Rattle.readings.specs.Readings.{number_of, numbers_of, Reading, BoundedByKind, NamesThere}
use Rattle.readings.specs.Decision.{bill, decision, Real}
use Rattle.readings.specs.State.{State}

-- a command and how it ended: with answers of these kinds, or refused
abbrev pub Past : Type 0
Past = Command × Result (List Kind) TapeFault

-- the commands so far, newest first
abbrev pub History : Type 0
History = List Past

-- a command and how it ended, as an entry of a history: with so many answers, or refused
abbrev pub entry_of : Command → Result (List Kind) TapeFault → Entry Command
entry_of c (Ok ks) = accepted c (length ks)
entry_of c (Err f) = refused c

-- those of all commands so far
abbrev pub entries : History → List (Entry Command)
entries [] = []
entries (e ∷ h) = entry_of e.0 e.1 ∷ entries h

-- the decision of a command where a run has come
abbrev pub decided : ℕ → Command → State → Result (List Kind) TapeFault
decided p c s = decision p c s.system s.book s.places

-- what an accepted command does: lists and book only grow, the new answers have the kinds that were decided, and of the rooms
-- exactly the bill is used
pub record Grew (p : ℕ) (c : Command) (s t : State) (ks : List Kind) : Type 0 where
  pub system : Grows s.system t.system
  pub paid : settled (bill p (assigned s.system) c s.book) s.system ≡ Ok (account t.system)
  pub answers : List Answer
  pub book : t.book ≡ s.book ++ answers
  pub kinds_are : kinds answers ≡ ks
  pub places_are : t.places ≡ s.places

-- a run: from an empty system and book, each command is decided; an accepted one adds, a refused one changes nothing, and nothing else happens. Which
-- variables and rows an accepted one adds is not said here, only how much room they take: that they are right is what `Promise` says of them
pub data Run (p : ℕ) : History → State → Type 0 where
  begins : (s : State) → Fresh s.system → s.book ≡ [] → Run p [] s
  accepts : {h : History} {s : State} (c : Command) (ks : List Kind) (t : State) → Run p h s → decided p c s ≡ Ok ks → Grew p c s t ks → Run p ((c, Ok ks) ∷ h) t
  refuses : {h : History} {s : State} (c : Command) (f : TapeFault) → Run p h s → decided p c s ≡ Err f → Run p ((c, Err f) ∷ h) s

-- the answer of a new bit or number is the tape's number, where the tape gives one
abbrev pub GivenOne : Option ℕ → List ℕ → Type 0
GivenOne o [] = Unit {0}
GivenOne o (r ∷ rs) = Given o r

-- of a command's answers: only a new bit and a new number are given anything
abbrev pub GivenBy : ℕ → Command → List ℕ → Type 0
GivenBy p (BitCommand m v) rs = GivenOne (bit_number (value_of v)) rs
GivenBy p (NumberCommand m t v) rs = GivenOne (tape_number p t v) rs
GivenBy p c rs = Unit {0}

-- of the answers of all commands: what each accepted command was given is what its answer has
abbrev pub Tells : ℕ → History → List ℕ → Type 0
Tells p [] xs = Unit {0}
Tells p ((c, Ok ks) ∷ h) xs = (old : List ℕ) × (new : List ℕ) × (xs ≡ old ++ new) × (length new ≡ length ks) × GivenBy p c new × Tells p h old
Tells p ((c, Err f) ∷ h) xs = Tells p h xs

-- what is kept from command to command
pub record Running (p : ℕ) (h : History) (s : State) : Type 0 where
  pub run : Run p h s
  pub kept : Kept p number_of NamesThere (BoundedByKind p) (Reading p) (entries h) s.system s.book
  pub real : Each Real s.book
  pub told : s.system.keeps ≡ true → Tells p h (numbers_of (assigned s.system) s.book)

-- what a run promises
pub record Promise (p : ℕ) (h : History) (s : State) : Type 0 where
  -- outcomes: each command ended as it was decided, and a refused one changed nothing
  pub outcomes : Run p h s
  -- soundness: every assignment that meets the rows gives the answers numbers that obey the readings
  pub sound : (a : Assignment p s.system) → Met p (values s.system a) s.system.rows → Obeys (Reading p) (entries h) (numbers_of (values s.system a) s.book)
  -- completeness: all numbers that obey the readings are given to the answers by some assignment that meets the rows
  pub complete : (xs : List ℕ) → Obeys (Reading p) (entries h) xs → (a : Assignment p s.system) × Met p (values s.system a) s.system.rows × (numbers_of (values s.system a) s.book ≡ xs)
  -- own assignment: the kept values are an assignment, which meets the rows exactly when the numbers that it gives obey the readings
  pub own : s.system.keeps ≡ true → Own p number_of (Reading p) (entries h) s.system s.book
  -- in it the answers of new bits and numbers have the values that the tape gives
  pub told : (q : s.system.keeps ≡ true) → Tells p h (numbers_of (values s.system (own q).assignment) s.book)
  -- and a system that keeps values sees no row that is not met exactly when the numbers that they give obey: so says the last line of a printed run
  pub seen : (q : s.system.keeps ≡ true) → (first_unmet p s.system ≡ None) ↔ Obeys (Reading p) (entries h) (numbers_of (values s.system (own q).assignment) s.book)

-- what one command more comes to, where a run with the history h has come to s
pub record Stepped (p : ℕ) (h : History) (c : Command) (s t : State) (r : Result (Unit {0}) TapeFault) : Type 0 where
  pub outcome : r ≡ over (λ ks. tt) (decided p c s)
  pub running : Running p ((c, decided p c s) ∷ h) t
  pub promise : Promise p ((c, decided p c s) ∷ h) t

-- a refusal leaves the state as it was
abbrev pub Unchanged : Result (Unit {0}) TapeFault → State → State → Type 0
Unchanged (Ok u) s t = Unit {0}
Unchanged (Err f) s t = t ≡ s
