use Rattle.std.proofs.Common.{◌%◌, ◌<◌, Some, ap, sym, subst, ◌∙◌, mod-eq_of_lt}
use Rattle.std.specs.Option.{option_map}
use Rattle.layers.proofs.converted.alike.Goals as goal

-- the number is below the one prime, so below the other
pub returns : goal.returns
returns g c =
    let x = c.in_ok-x.x in
    let below = subst (λ p. g.F.Field.number x < p) c.requires (g.F.Field.laws.below x) in
    ap Some (c.from_number.ensures ∙ ap (λ n. n % g.G.Field.modulus) c.to_number.ensures ∙ mod-eq_of_lt below)
    ∙ ap (option_map g.F.Field.number) (sym c.in_ok-x.was)
