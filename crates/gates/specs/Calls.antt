-- The calls on many bits that a circuit's author makes.
use Rattle.std.specs.Prelude.{ℕ}
use Rattle.relations.specs.Script.{Script}
use Rattle.boolean.specs.declared.bits.Boolean.{Boolean}
use Rattle.gates.specs.declared.kary.KaryCall.{KaryCall}
use Rattle.gates.specs.declared.kary.KaryCall.TheVariants.{Joined, Nand}
use Rattle.gates.specs.declared.kary.KaryStatement.{KaryStatement}
use Rattle.gates.specs.declared.kary.KaryStatement.TheVariants.{Nand as NotAll, AtMost}
use Rattle.gates.specs.Kary.{kary_script, nand_script, enforce_nand_script}
use Rattle.gates.specs.Walk.{walk_script}

abbrev pub call_script : ℕ → KaryCall → Script Boolean
call_script p (Joined g m) = kary_script g p m.bits.now
call_script p (Nand m) = nand_script p m.bits.now

abbrev pub statement_script : ℕ → KaryStatement → Script (Unit {0})
statement_script p (NotAll m) = enforce_nand_script p m.bits.now
statement_script p (AtMost bs e) = walk_script p bs.now e
