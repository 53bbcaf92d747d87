-- The bits of a number as a list.
use Rattle.std.specs.Prelude.{List, take}
use Rattle.boolean.specs.declared.bits.Boolean.{Boolean}
use Rattle.fp_bits.specs.declared.bits.Bits.{Bits}

-- the lowest first
abbrev pub bits_listed : Bits → List Boolean
bits_listed b = take b.count b.list
