use Rattle.std.proofs.Common.{◌+◌, ◌%◌, sym, ◌∙◌}
use Rattle.std.proofs.Math.Nat.{add-mod}
use Rattle.fp_var.proofs.residues.sum.Goals as goal

pub returns : goal.returns
returns g c =
    let p = g.F.Field.modulus in
    c.to_number.ensures ∙ c.add.ensures ∙ (λ i. (c.from_number.ensures i + c.from_number-2.ensures i) % p) ∙ sym (add-mod c.args.a c.args.b p)
