-- The number and the layer of each fault: layer 2 is a gadget, 3 a system, 4 a layer above a system.
use Rattle.std.specs.Prelude.{ℕ}
use Rattle.relations.specs.declared.fault.SystemFault.{SystemFault}
use Rattle.relations.specs.declared.fault.SystemFault.TheVariants.{UnknownVariable, MissingValue, InputsFull, WitnessesFull, TermsFull, RowsFull, QuotaFull, MarkRefused}
use Rattle.relations.specs.declared.fault.GadgetFault.{GadgetFault}
use Rattle.relations.specs.declared.fault.GadgetFault.TheVariants.{System, TooManyMembers, NoValue, Unsatisfiable, NoSystem}
use Rattle.relations.specs.declared.fault.Reason.{Reason}
use Rattle.relations.specs.declared.fault.Reason.TheVariants.{NotACommand, NotThere, Length, TooManyMembers as TooMany, NoValue as Absent, Unsatisfiable as Broken, NoSystem as Systemless, VariablesFull, TermsFull as NoTerms, RowsFull as NoRows, BookFull, QuotaFull as NoQuota, MarkRefused as BadMark}
use Rattle.relations.specs.declared.fault.Layer.{Layer}
use Rattle.relations.specs.declared.fault.Layer.TheVariants.{Tape, Gadget, System as SystemLayer, AboveSystem}
use Rattle.relations.specs.declared.fault.Refusal.{Refusal}

abbrev pub refusal : ℕ → ℕ → Refusal
refusal n l = record { number = n; layer = l }

-- the number of each reason, and of each layer
abbrev pub number_of : Reason → ℕ
number_of NotACommand = 1
number_of NotThere = 2
number_of Length = 3
number_of TooMany = 4
number_of Absent = 5
number_of Broken = 6
number_of Systemless = 7
number_of VariablesFull = 8
number_of NoTerms = 9
number_of NoRows = 10
number_of BookFull = 11
number_of NoQuota = 12
number_of BadMark = 13

abbrev pub layer_of : Layer → ℕ
layer_of Tape = 1
layer_of Gadget = 2
layer_of SystemLayer = 3
layer_of AboveSystem = 4

abbrev pub of_system : SystemFault → Refusal
of_system UnknownVariable = refusal 2 3
of_system MissingValue = refusal 5 3
of_system InputsFull = refusal 8 3
of_system WitnessesFull = refusal 8 3
of_system TermsFull = refusal 9 3
of_system RowsFull = refusal 10 3
of_system QuotaFull = refusal 12 4
of_system MarkRefused = refusal 13 3

abbrev pub of_gadget : GadgetFault → Refusal
of_gadget (System f) = of_system f
of_gadget TooManyMembers = refusal 4 2
of_gadget NoValue = refusal 5 2
of_gadget Unsatisfiable = refusal 6 2
of_gadget NoSystem = refusal 7 2
