-- What a line of the table of marked circuits is, and when it holds.
use Rattle.std.specs.Prelude.{◌≡◌, ◌⊎◌, ℕ, zero, suc, ◌+◌, ◌-◌, ◌*◌, ◌≤◌, Bool, true, false, cond, List, [], ◌∷◌, ◌++◌, length, drop, Some, None, Ok, Err, Option, nat_lt}
use Rattle.relations.specs.Meaning.{Meaning, Fresh}
use Rattle.command.specs.declared.commands.Command.{Command}
use Rattle.command.specs.declared.commands.Decoded.{Decoded}
use Rattle.command.specs.declared.fault.TapeFault.{TapeFault}
use Rattle.command.specs.Tape.{decoded}
use Rattle.laws.specs.Runs.{Met, Assignment, values}
use Rattle.laws.specs.History.{Each}
use Rattle.laws.specs.Bill.{Account, account}
use Rattle.readings.specs.Readings.{numbers_of}
use Rattle.readings.specs.State.{State, executed}
use Rattle.readings.specs.Runs.{History, decided}

-- ---- a line
-- what a line claims of its commands
pub data Claim : Type 0 where
  -- all are accepted
  passes : Claim
  -- all but the last are accepted, and the last is refused so
  refuses : TapeFault → Claim
  -- all are accepted, and some assignment that meets the rows gives the answers these numbers, oldest first
  meets : List ℕ → Claim
  -- all are accepted, and the assignments that meet the rows give the answers exactly these lists of numbers
  allows : List (List ℕ) → Claim
  -- all are accepted, some assignment meets the rows, and each that does gives the last answer this number
  always : ℕ → Claim
  -- all are accepted, and no assignment meets the rows
  bars : Claim
  -- all are accepted, and the last leaves the system as it was
  adds_nothing : Claim
  -- all are accepted, and so much is used of the system's rooms
  uses : Account → Claim

-- a circuit: the bytes of its tape, the commands that these spell, what is claimed of it where values are kept, and what where none are
pub record Line : Type 0 where
  pub tape : List ℕ
  pub commands : List Command
  pub kept : Claim
  pub unkept : Claim

-- the claim of a line, by whether values are kept
abbrev pub claim : Bool → Line → Claim
claim true l = l.kept
claim false l = l.unkept

-- the number of a hexadecimal digit, from the code of its character
abbrev pub digit : ℕ → ℕ
digit c = cond (nat_lt c 65) (c - 48) (c - 55)

-- the bytes of a text that has two digits for each, and a space between
abbrev pub hex : List ℕ → List ℕ
hex [] = []
hex (a ∷ []) = []
hex (a ∷ b ∷ []) = (16 * digit a + digit b) ∷ []
hex (a ∷ b ∷ space ∷ text) = (16 * digit a + digit b) ∷ hex text

-- a line by the text of its tape, with one claim whether values are kept or not
abbrev pub line : List ℕ → List Command → Claim → Line
line text cs c = record { tape = hex text; commands = cs; kept = c; unkept = c }

-- a line with two
abbrev pub line_by_keeping : List ℕ → List Command → Claim → Claim → Line
line_by_keeping text cs c d = record { tape = hex text; commands = cs; kept = c; unkept = d }

-- a command before others
abbrev pub before_others : Command → Option (List Command) → Option (List Command)
before_others c None = None
before_others c (Some cs) = Some (c ∷ cs)

-- what a decoded command comes to; none where there is none
abbrev pub on_decoded : Option Decoded → (Decoded → Option (List Command)) → Option (List Command)
on_decoded None k = None
on_decoded (Some d) k = k d

-- the commands that bytes spell, at most n of them; none where the bytes do not end with the last
abbrev pub commands_of : ℕ → List ℕ → Option (List Command)
commands_of n [] = Some []
commands_of zero (b ∷ bs) = None
commands_of (suc n) (b ∷ bs) = on_decoded (decoded (b ∷ bs)) (λ d. before_others d.command (commands_of n (drop d.length (b ∷ bs))))

-- ---- where commands lead
-- the commands so far with their decisions, the state that they led to, and the system before the last of them
pub record Course : Type 0 where
  pub history : History
  pub state : State
  pub before : Meaning

-- no command yet
abbrev pub start : State → Course
start s = record { history = []; state = s; before = s.system }

-- one command more: it is decided, and its steps are carried out
abbrev pub onward : ℕ → Command → Course → Course
onward p c g = record { history = (c, decided p c g.state) ∷ g.history; state = (executed p c g.state).1; before = g.state.system }

-- some commands, one after another
abbrev pub after : ℕ → List Command → Course → Course
after p [] g = g
after p (c ∷ cs) g = after p cs (onward p c g)

-- ---- what claims mean
-- all commands of a history were accepted
abbrev pub Accepted : History → Type 0
Accepted [] = Unit {0}
Accepted ((c, Ok ks) ∷ h) = Accepted h
Accepted ((c, Err f) ∷ h) = ⊥

-- the last was refused, and those before it were accepted
abbrev pub LastRefused : TapeFault → History → Type 0
LastRefused f [] = ⊥
LastRefused f (e ∷ h) = (e.1 ≡ Err f) × Accepted h

-- some assignment that meets the rows gives the answers these numbers
abbrev pub Gives : ℕ → State → List ℕ → Type 0
Gives p s xs = (a : Assignment p s.system) × Met p (values s.system a) s.system.rows × (numbers_of (values s.system a) s.book ≡ xs)

-- every assignment that meets the rows gives the answers numbers of which P holds
abbrev pub Forces : ℕ → State → (List ℕ → Type 0) → Type 0
Forces p s P = (a : Assignment p s.system) → Met p (values s.system a) s.system.rows → P (numbers_of (values s.system a) s.book)

-- one of some lists
abbrev pub Among : List ℕ → List (List ℕ) → Type 0
Among xs [] = ⊥
Among xs (ys ∷ yss) = (xs ≡ ys) ⊎ Among xs yss

-- the last number is y
abbrev pub EndsIn : ℕ → List ℕ → Type 0
EndsIn y xs = (front : List ℕ) × (xs ≡ front ++ (y ∷ []))

-- a claim of where commands have led
abbrev pub HoldsAt : ℕ → Claim → Course → Type 0
HoldsAt p passes g = Accepted g.history
HoldsAt p (refuses f) g = LastRefused f g.history
HoldsAt p (meets xs) g = Accepted g.history × Gives p g.state xs
HoldsAt p (allows xss) g = Accepted g.history × Each (Gives p g.state) xss × Forces p g.state (λ xs. Among xs xss)
HoldsAt p (always y) g = Accepted g.history × ((xs : List ℕ) × Gives p g.state xs) × Forces p g.state (EndsIn y)
HoldsAt p bars g = Accepted g.history × Forces p g.state (λ xs. ⊥)
HoldsAt p adds_nothing g = Accepted g.history × (g.state.system ≡ g.before)
HoldsAt p (uses a) g = Accepted g.history × (account g.state.system ≡ a)

-- a blank state: nothing is there, each of the four rooms is 1,024 or more, and the book has 4,096 places or more. Whether values are kept, and what a
-- full row room is called, is left open
pub record Blank (s : State) : Type 0 where
  pub fresh : Fresh s.system
  pub book : s.book ≡ []
  pub inputs : 1024 ≤ s.system.input_room
  pub witnesses : 1024 ≤ s.system.witness_room
  pub terms : 1024 ≤ s.system.term_room
  pub rows : 1024 ≤ s.system.row_room
  pub places : 4096 ≤ s.places

-- a line holds: its tape spells its commands, and from every blank state they lead to where its claim for such a state is true
abbrev pub Holds : ℕ → Line → Type 0
Holds p l = (commands_of (length l.tape) l.tape ≡ Some l.commands) × ((s : State) → Blank s → HoldsAt p (claim s.system.keeps l) (after p l.commands (start s)))

-- all lines of a table do
abbrev pub AllHold : ℕ → List Line → Type 0
AllHold p ls = Each (Holds p) ls
