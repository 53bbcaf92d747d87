use Rattle.std.proofs.Common.{◌≡◌, Some, sym, ap, ◌∙◌, rules}
use Rattle.std.specs.Option.{option_map}
use Rattle.fp.specs.Equality.{where_both, multiplier}
use Rattle.fp.proofs.Inverse.{multiplier_found}
use Rattle.fp.proofs.number.multiplier_value.Goals as goal

pub returns : goal.returns
returns g c =
    let number = g.F.Field.number in
    let p = g.F.Field.modulus in
    let l = g.F.Field.laws in
    let x = c.in_ok-x.field-0 in
    let y = c.in_ok-y.field-0 in
    let found = multiplier_found number p (number x) (number y) c.sub.result c.one.result c.inverse.result l (l.below x) (l.below y) c.sub.ensures c.one.ensures c.inverse.ensures in
    let xe : c.args.x ≡ Some x = search rules in
    let ye : c.args.y ≡ Some y = search rules in
    ap (λ r. Some (number r)) c.unwrap_or.ensures ∙ ap Some found ∙ (λ i. where_both (multiplier p) (option_map number (sym xe i)) (option_map number (sym ye i)))
