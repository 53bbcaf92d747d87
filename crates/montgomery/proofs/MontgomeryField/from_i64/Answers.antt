use Rattle.std.proofs.Common.{w64, SFits, ℕ, ◌%◌, ap, ◌∙◌, mod-eq_of_lt}
use Rattle.std.proofs.lemmas.Int.{to_z-of_z}
use Rattle.arith.proofs.Bits.{pos_of_prime}
use Rattle.euclid.proofs.Signs.{residue_below}
use Rattle.montgomery.proofs.MontgomeryField.from_i64.Goals as goal

pub returns : goal.returns
returns g c =
    let p = g.row.P in
    let fits : SFits w64 c.args.v = c.ranges.v in
    let e = simp to_z-of_z at c.residue_of.ensures in
    c.from_number.ensures ∙ ap (λ (n : ℕ). n % p) e ∙ mod-eq_of_lt (residue_below p c.args.v (pos_of_prime g.By.IsPrime.vouched.prime))
