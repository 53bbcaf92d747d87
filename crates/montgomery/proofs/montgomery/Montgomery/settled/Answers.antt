use Rattle.std.proofs.Common.{arith, sym, ◌∙◌, mod-eq_of_lt}
use Rattle.montgomery.proofs.Reduction.{once}
use Rattle.montgomery.proofs.montgomery.Montgomery.settled.Goals as goal
use Rattle.montgomery.proofs.montgomery.Montgomery.settled.Goals.{then-u, else-u}

pub returns : goal.returns
returns g c =
    elim c.if-u.branch [
      | then-u w ↦ w.code-is ∙ once g.row.P c.args.u (omega arith) c.requires
      | else-u w ↦ w.code-is ∙ sym (mod-eq_of_lt (omega arith))
    ]
