use Rattle.std.proofs.Common.{◌≡◌, ◌==◌, false, sym, ◌∙◌}
use Rattle.fp_var.proofs.Inverses.{apart_found}
use Rattle.fp_var.proofs.statements.apart.Goals as goal

pub returns-else-is_zero : goal.returns-else-is_zero
returns-else-is_zero g c =
    let test : (g.F.Field.number c.args.condition == 0) ≡ false = sym c.is_zero.ensures ∙ c.if-is_zero.false in
    apart_found g.F.Field.number g.F.Field.modulus c.args.x c.args.y c.args.condition c.sub.result c.inverse.result g.F.Field.laws c.sub.ensures test c.inverse.ensures
