use Rattle.std.proofs.Common.{sym}
use Rattle.arith.proofs.Bits.{pos_of_prime}
use Rattle.montgomery.specs.Elements.{code_of-number}
use Rattle.montgomery.proofs.MontgomeryField.code.Goals as goal

pub returns : goal.returns
returns g c =
    sym (code_of-number g.row.P g.By.IsMontgomery.back c.args.self.code (pos_of_prime g.By.IsPrime.vouched.prime) c.args.self.below g.By.IsMontgomery.form.back_is)
