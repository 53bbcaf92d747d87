use Rattle.std.proofs.Common.{◌*◌, ◌%◌, sym, ◌∙◌}
use Rattle.std.proofs.lemmas.Nat.{mul-mod}
use Rattle.fp_var.proofs.residues.product.Goals as goal

pub returns : goal.returns
returns g c =
    let p = g.F.Field.modulus in
    c.to_number.ensures ∙ c.mul.ensures ∙ (λ i. (c.from_number.ensures i * c.from_number-2.ensures i) % p) ∙ sym (mul-mod c.args.a c.args.b p)
