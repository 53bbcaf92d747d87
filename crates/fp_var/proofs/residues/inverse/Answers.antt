use Rattle.std.proofs.Common.{◌≡◌, cond, ◌==◌, Some, None, sym, ap, ◌∙◌, rules}
use Rattle.std.specs.Option.{option_map}
use Rattle.fp.specs.Equality.{inverse}
use Rattle.fp_var.proofs.Inverses.{inverse_found}
use Rattle.fp_var.proofs.residues.inverse.Goals as goal

pub returns : goal.returns
returns g c =
    let p = g.F.Field.modulus in
    let number = g.F.Field.number in
    let x = c.in_ok-inverse.field-0 in
    let was : c.inverse.result ≡ Some x = search rules in
    ap Some c.to_number.ensures
    ∙ ap (option_map number) (sym was)
    ∙ inverse_found number p c.from_number.result c.inverse.result g.F.Field.laws c.inverse.ensures
    ∙ ap (λ n. cond (n == 0) None (Some (inverse p n))) c.from_number.ensures
