use Rattle.std.proofs.Common.{◌*◌, ◌%◌, ◌∙◌}
use Rattle.std.proofs.lemmas.Nat.{mul-mod_second}
use Rattle.fp_var.proofs.residues.twice.Goals as goal

pub returns : goal.returns
returns g c =
    let p = g.F.Field.modulus in
    c.to_number.ensures ∙ c.double.ensures ∙ (λ i. (2 * c.from_number.ensures i) % p) ∙ mul-mod_second 2 c.args.a p
