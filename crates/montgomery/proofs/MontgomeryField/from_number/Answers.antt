use Rattle.std.proofs.Common.{ℕ, subst, ap, sym, ◌∙◌}
use Rattle.arith.proofs.Bits.{pos_of_prime}
use Rattle.montgomery.specs.Form.{Form, number_of}
use Rattle.montgomery.proofs.Reduction.{of_number}
use Rattle.montgomery.proofs.MontgomeryField.from_number.Goals as goal

pub returns : goal.returns
returns g c =
    let m = g.By.IsMontgomery in
    let f = subst (λ (n : ℕ). Form g.row.P m.NEGATIVE_INVERSE n m.back) (sym c.SQUARE.ensures) m.form in
    ap (number_of g.row.P m.back) c.reduced.ensures
    ∙ of_number g.row.P m.NEGATIVE_INVERSE c.SQUARE.result m.back c.args.n (pos_of_prime g.By.IsPrime.vouched.prime) f
