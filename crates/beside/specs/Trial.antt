-- The text of a tape's run from nothing.
use Rattle.std.specs.Prelude.{◌≡◌, ℕ, min, Bool, true, false, List, [], ◌++◌, length, Ok, codes}
use Rattle.std.specs.declared.alloc.AllocError.{AllocError}
use Rattle.relations.specs.Meaning.{Meaning, empty}
use Rattle.command.specs.declared.answers.Refused.{Refused}
use Rattle.systems.specs.declared.rooms.Rooms.{Rooms}
use Rattle.readings.specs.State.{State, state}
use Rattle.tape.specs.Tape.{Taped}
use Rattle.report.specs.Text.{refusals_text, counts_text, rows_text, report_text}
use Rattle.report.specs.Sheet.{page_of}
use Rattle.beside.specs.Lines.{rest_text}
use Rattle.beside.specs.declared.block.Mode.{Mode}
use Rattle.beside.specs.declared.block.Mode.TheVariants.{Values, Setup}

-- whether a system keeps values
abbrev pub keeps : Mode → Bool
keeps Values = true
keeps Setup = false

-- an empty system with these rooms, and an empty book
abbrev pub nothing_yet : Mode → Rooms → ℕ → State
nothing_yet mode r places = state (empty (keeps mode) r.inputs r.witnesses r.terms r.rows false) [] (min 4096 places)

-- the lines after the rows
abbrev pub last_lines : State → List ℕ
last_lines end = rest_text end.system end.book (length end.system.combos)

-- what is reported of a system that keeps no values
abbrev pub setup_report_text : ℕ → List Refused → Meaning → List ℕ
setup_report_text p refused m =
    refusals_text refused
    ++ (counts_text (length m.inputs) (length m.witnesses) (length m.rows)
    ++ (rows_text (page_of p m).inputs (page_of p m).rows ++ codes "setup\n"))

-- the lines of a run with these refusals, which led there
abbrev pub lines_of : Mode → ℕ → List Refused → State → List ℕ
lines_of Values p refused end = report_text refused (page_of p end.system) ++ last_lines end
lines_of Setup p refused end = setup_report_text p refused end.system ++ last_lines end

-- the text is that of a run of a tape from nothing, of at most so many commands
pub record Tried (mode : Mode) (p : ℕ) (r : Rooms) (places most : ℕ) (tape text : List ℕ) : Type 0 where
  pub end : State
  pub count : ℕ
  pub refused : List Refused
  pub ran : Taped {E = AllocError} p most tape [] (nothing_yet mode r places) end (Ok count) [] refused
  pub says : text ≡ lines_of mode p refused end
