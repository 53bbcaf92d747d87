use Rattle.fp_bits.proofs.Splits.{bits_few}
use Rattle.fp_bits.proofs.split.folded_bits.Goals as goal

pub constant_bits-requires : goal.constant_bits-requires
constant_bits-requires g c = bits_few g.F.Field.modulus c.bits.result c.bits.ensures.is
