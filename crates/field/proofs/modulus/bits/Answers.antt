use Rattle.std.proofs.Common.{ℕ, ◌-◌, ◌^◌, ◌<◌, ◌≤◌, arith, ap, subst}
use Rattle.field.specs.Modulus.{bit_length}
use Rattle.field.proofs.Lengths.{bit_length-low, bit_length-high}
use Rattle.field.proofs.modulus.bits.Goals as goal

pub returns : goal.returns
unfolding bit_length
returns g c =
    let p = c.characteristic.result in
    let e = c.characteristic.ensures in
    let some : 0 < p = omega (arith, e, g.F.Field.laws.prime.0) in
    let fits : p < 2 ^ 32 = omega (arith, c.characteristic.type_inv) in
    record {
      is = ap bit_length e;
      low = subst (λ (m : ℕ). 2 ^ (bit_length p - 1) ≤ m) e (bit_length-low p some fits);
      high = subst (λ (m : ℕ). m < 2 ^ bit_length p) e (bit_length-high p some fits);
    }
