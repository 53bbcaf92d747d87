-- A tape's commands as a run's history, and what a run of a tape comes to.
use Rattle.std.specs.Prelude.{◌≡◌, ℕ, ◌+◌, ◌<◌, ◌≤◌, cond, ◌&&◌, List, [], ◌∷◌, ◌++◌, length, drop, Some, None, Ok, Err, Option, Result, nat_lt}
use Rattle.command.specs.declared.commands.Kind.{Kind}
use Rattle.command.specs.declared.commands.Decoded.{Decoded}
use Rattle.command.specs.declared.fault.TapeFault.{TapeFault}
use Rattle.command.specs.declared.fault.TapeFault.TheVariants.{Unknown}
use Rattle.command.specs.declared.answers.Refused.{Refused}
use Rattle.command.specs.Refusals.{of_tape}
use Rattle.command.specs.Tape.{decoded}
use Rattle.readings.specs.State.{State, executed}
use Rattle.readings.specs.Runs.{History, Running, Promise, decided}

-- the history's commands are the first of the tape, and these take so many bytes
pub data Reads (tape : List ℕ) : History → ℕ → Type 0 where
  nothing : Reads tape [] 0
  further : {h : History} {at : ℕ} (d : Decoded) (o : Result (List Kind) TapeFault) → Reads tape h at → decoded (drop at tape) ≡ Some d → Reads tape ((d.command, o) ∷ h) (at + d.length)

-- the line of a command that is refused with a fault
abbrev pub line : ℕ → TapeFault → Refused
line n f = record { command = n; refusal = of_tape f }

-- a line for each refused command, oldest first: its number, and the refusal
abbrev pub lines : History → List Refused
lines [] = []
lines ((c, Ok ks) ∷ h) = lines h
lines ((c, Err f) ∷ h) = lines h ++ (line (length h) f ∷ [])

-- a run that stops before its limit and before the tape's end has come to a command that is unknown or cut off
abbrev pub last_line : ℕ → List ℕ → History → ℕ → List Refused
last_line most tape h at = cond (nat_lt (length h) most && nat_lt at (length tape)) (line (length h) Unknown ∷ []) []

-- the line of one command
abbrev pub outcome_line : ℕ → Result (List Kind) TapeFault → List Refused
outcome_line n (Ok ks) = []
outcome_line n (Err f) = line n f ∷ []

-- where the steps of a history's commands lead
abbrev pub executing : ℕ → History → State → State
executing p [] s = s
executing p (e ∷ h) s = (executed p e.0 (executing p h s)).1

-- ---- one command of the rest of a tape, the n-th of the run
abbrev pub Next : {E : Type 0} → ℕ → List ℕ → ℕ → State → State → Result (Option ℕ) E → List Refused → List Refused → Type 0
Next p bs n s t (Ok None) before after = (decoded bs ≡ None) × (t ≡ s) × (after ≡ before ++ (line n Unknown ∷ []))
Next p bs n s t (Ok (Some k)) before after =
    (d : Decoded) × (decoded bs ≡ Some d) × (k ≡ d.length)
    × ((h : History) → Running p h s → Running p ((d.command, decided p d.command s) ∷ h) t × (after ≡ before ++ outcome_line n (decided p d.command s)))
    × (t ≡ (executed p d.command s).1)
Next p bs n s t (Err e) before after = (t ≡ s) × (after ≡ before)

-- ---- a run of a tape
-- a run that was not stopped for want of memory: why it stopped, how many commands it ran, and the refusals
pub record Whole (most : ℕ) (tape : List ℕ) (h : History) (at n : ℕ) (before after : List Refused) : Type 0 where
  pub stopped : length h < most → at < length tape → decoded (drop at tape) ≡ None
  pub count : n ≡ length h
  pub refusals : after ≡ before ++ (lines h ++ last_line most tape h at)

-- one that was: the refusals of the commands that it ran
abbrev pub Ends : {E : Type 0} → Result ℕ E → ℕ → List ℕ → History → ℕ → List Refused → List Refused → Type 0
Ends (Ok n) most tape h at before after = Whole most tape h at n before after
Ends (Err e) most tape h at before after = after ≡ before ++ lines h

-- what a run of at most so many commands of a tape comes to, from s, where a run with the history g has come: its commands are the tape's,
-- each ended as it was decided, their steps lead from s to t, and all that runs promise stands
pub record Taped {E : Type 0} (p most : ℕ) (tape : List ℕ) (g : History) (s t : State) (r : Result ℕ E) (before after : List Refused) : Type 0 where
  pub history : History
  pub at : ℕ
  pub reads : Reads tape history at
  pub few : length history ≤ most
  pub steps : t ≡ executing p history s
  pub running : Running p (history ++ g) t
  pub promise : Promise p (history ++ g) t
  pub ends : Ends r most tape history at before after

-- how far a run has come
pub record Progress (p : ℕ) (tape : List ℕ) (g : History) (s t : State) (at n : ℕ) (before after : List Refused) : Type 0 where
  pub history : History
  pub reads : Reads tape history at
  pub count : n ≡ length history
  pub steps : t ≡ executing p history s
  pub running : Running p (history ++ g) t
  pub refusals : after ≡ before ++ lines history
