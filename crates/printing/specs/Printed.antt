-- The text of a tape's run from nothing.
use Rattle.std.specs.Prelude.{◌≡◌, ℕ, min, true, false, List, [], Ok}
use Rattle.std.specs.declared.alloc.AllocError.{AllocError}
use Rattle.relations.specs.Meaning.{empty}
use Rattle.command.specs.declared.answers.Refused.{Refused}
use Rattle.systems.specs.declared.rooms.Rooms.{Rooms}
use Rattle.systems.specs.declared.rooms.OpenFault.TheVariants.{RoomTooLarge}
use Rattle.systems.specs.Opening.{small}
use Rattle.readings.specs.State.{State, state}
use Rattle.tape.specs.Tape.{Taped}
use Rattle.report.specs.Text.{report_text}
use Rattle.report.specs.Sheet.{page_of}
use Rattle.printing.specs.declared.PrintFault.{PrintFault}
use Rattle.printing.specs.declared.PrintFault.TheVariants.{Open, Memory}

-- an empty system with these rooms, and an empty book
abbrev pub nothing_yet : Rooms → ℕ → State
nothing_yet r places = state (empty true r.inputs r.witnesses r.terms r.rows false) [] (min 4096 places)

-- the text is that of a run from nothing, of at most so many commands of the tape: its refusals, and what is reported of the system to which it led
pub record Printed (p : ℕ) (r : Rooms) (places most : ℕ) (tape text : List ℕ) : Type 0 where
  pub end : State
  pub count : ℕ
  pub refused : List Refused
  pub ran : Taped {E = AllocError} p most tape [] (nothing_yet r places) end (Ok count) [] refused
  pub says : text ≡ report_text refused (page_of p end.system)

-- no text: a room is above 65,536, or memory is wanting
abbrev pub Refuses : Rooms → PrintFault → Type 0
Refuses r (Open e) = (e ≡ RoomTooLarge) × (small r ≡ false)
Refuses r Memory = Unit {0}
