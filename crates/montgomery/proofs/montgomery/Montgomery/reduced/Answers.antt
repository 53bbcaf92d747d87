use Rattle.std.proofs.Common.{ℕ, subst, sym, ◌∙◌}
use Rattle.arith.proofs.Bits.{pos_of_prime}
use Rattle.montgomery.specs.Form.{Form}
use Rattle.montgomery.proofs.Reduction.{reduces}
use Rattle.montgomery.proofs.montgomery.Montgomery.reduced.Goals as goal

pub returns : goal.returns
returns g c =
    let m = g.By.IsMontgomery in
    let f = subst (λ (n : ℕ). Form g.row.P n m.SQUARE m.back) (sym c.NEGATIVE_INVERSE.ensures) m.form in
    c.settled.ensures ∙ reduces g.row.P c.NEGATIVE_INVERSE.result m.SQUARE m.back c.args.t (pos_of_prime g.By.IsPrime.vouched.prime) f
