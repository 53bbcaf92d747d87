use Rattle.std.proofs.Common.{◌≡◌, ℕ, zero-mul, ◌*◌, ◌%◌, ap, sym, ◌∙◌, mod-lt}
use native.Mathlib.Nat.{zero-mod}
use Rattle.arith.proofs.Bits.{pos_of_prime}
use Rattle.montgomery.specs.Form.{number_of, code_of}
use Rattle.montgomery.specs.Elements.{number_of-code}
use Rattle.montgomery.proofs.Reduction.{same_test}
use Rattle.montgomery.proofs.MontgomeryField.is_zero.Goals as goal

pub returns : goal.returns
returns g c =
    let p = g.row.P in
    let back = g.By.IsMontgomery.back in
    let pos = pos_of_prime g.By.IsPrime.vouched.prime in
    let number = number_of p back c.args.self.code in
    let zero_of : number_of p back 0 ≡ 0 = ap (λ (x : ℕ). x % p) (zero-mul back) ∙ zero-mod p in
    same_test c.code.result number
    (λ z. sym (number_of-code p back number pos (mod-lt (c.args.self.code * back) pos) g.By.IsMontgomery.form.back_is)
    ∙ ap (number_of p back) (sym c.code.ensures ∙ z) ∙ zero_of)
    (λ z. c.code.ensures ∙ ap (code_of p) z ∙ zero-mod p)
