use Rattle.std.proofs.Common.{ℕ, ◌*◌, ◌%◌, ap, sym, ◌∙◌, mod-eq_of_lt}
use Rattle.montgomery.specs.Form.{number_of}
use Rattle.montgomery.proofs.MontgomeryField.inverse.Goals as goal

pub returns-else-is_zero : goal.returns-else-is_zero
returns-else-is_zero g c =
    let e = c.from_number.ensures ∙ mod-eq_of_lt c.inverse_of.ensures.below in
    ap (λ (x : ℕ). (number_of g.row.P g.By.IsMontgomery.back c.args.self.code * x) % g.row.P) e
    ∙ ap (λ (x : ℕ). (x * c.inverse_of.result) % g.row.P) (sym c.to_number.ensures) ∙ c.inverse_of.ensures.is
