use Rattle.std.proofs.Common.{◌≡◌, Some, sym, ap, ◌∙◌, rules}
use Rattle.std.specs.Option.{option_map}
use Rattle.fp_var.specs.Numbers.{inverse_known}
use Rattle.fp_var.proofs.Inverses.{inverse_or_zero}
use Rattle.fp_var.proofs.arithmetic.inverse_value.Goals as goal

pub returns : goal.returns
returns g c =
    let number = g.F.Field.number in
    let p = g.F.Field.modulus in
    let x = c.in_ok-x.field-0 in
    let found = inverse_or_zero number p x c.zero.result c.inverse.result g.F.Field.laws c.zero.ensures c.inverse.ensures in
    let was : c.args.x ≡ Some x = search rules in
    ap (λ r. Some (number r)) c.unwrap_or.ensures ∙ ap Some found ∙ (λ i. inverse_known p (option_map number (sym was i)))
