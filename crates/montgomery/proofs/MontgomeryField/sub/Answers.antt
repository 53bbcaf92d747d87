use Rattle.std.proofs.Common.{ap, ◌∙◌}
use Rattle.arith.proofs.Bits.{pos_of_prime}
use Rattle.montgomery.specs.Form.{number_of}
use Rattle.montgomery.proofs.Reduction.{of_difference}
use Rattle.montgomery.proofs.MontgomeryField.sub.Goals as goal

pub returns : goal.returns
returns g c =
    let back = g.By.IsMontgomery.back in
    ap (number_of g.row.P back) c.settled.ensures
    ∙ of_difference g.row.P back c.args.self.code c.args.other.code (pos_of_prime g.By.IsPrime.vouched.prime) c.args.other.below
