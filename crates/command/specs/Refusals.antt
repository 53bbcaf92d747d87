-- The number and the layer of each fault of a tape's command; layer 1 is the tape.
use Rattle.std.specs.Prelude.{ℕ, List, ◌++◌, codes, decimal}
use Rattle.relations.specs.declared.fault.Refusal.{Refusal}
use Rattle.relations.specs.Fault.{refusal, of_gadget}
use Rattle.command.specs.declared.answers.Refused.{Refused}
use Rattle.command.specs.declared.fault.TapeFault.{TapeFault}
use Rattle.command.specs.declared.fault.TapeFault.TheVariants.{Gadget, Unknown, Operand, Length, BookFull}

-- the number and the layer of a fault
abbrev pub of_tape : TapeFault → Refusal
of_tape (Gadget f) = of_gadget f
of_tape Unknown = refusal 1 1
of_tape Operand = refusal 2 1
of_tape Length = refusal 3 1
of_tape BookFull = refusal 11 1

-- a refused command's line, as `refused 4 2 1` for the command 4, refused with the number 2 by the layer 1
abbrev pub refused_text : Refused → List ℕ
refused_text r = codes "refused " ++ (decimal r.command ++ (codes " " ++ (decimal r.refusal.number ++ (codes " " ++ decimal r.refusal.layer))))
