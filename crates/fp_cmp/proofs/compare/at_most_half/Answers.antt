use Rattle.std.proofs.Common.{◌≡◌, Err, sym, ap, ◌∙◌, rules}
use Rattle.relations.specs.Script.{run}
use Rattle.relations.proofs.Added.{adds_both}
use Rattle.relations.proofs.Then.{then_ok, then_err}
use Rattle.field.specs.Modulus.{half_of}
use Rattle.gates.specs.Walk.{walk_script}
use Rattle.fp_bits.specs.Bits.{to_non_unique_bits_script}
use Rattle.fp_bits.specs.Listed.{bits_listed}
use Rattle.fp_cmp.proofs.compare.at_most_half.Goals as goal

pub returns-in_err-bits-clause-does : goal.returns-in_err-bits-clause-does
returns-in_err-bits-clause-does g c =
    let p = g.F.Field.modulus in
    let end = g.S.System.meaning c.to_non_unique_bits_le_steps.new.cs in
    let is : c.from_residual.result ≡ Err c.in_err-bits.field-0.0 = search rules in
    then_err p (to_non_unique_bits_script p c.args.number) (λ bs. walk_script p bs (half_of p)) _ end _ c.in_err-bits.ensures.does
    ∙ ap (λ r. (r, end)) (sym is)

pub returns-clause-does : goal.returns-clause-does
returns-clause-does g c =
    let p = g.F.Field.modulus in
    let bs = bits_listed c.in_ok-bits.bits in
    let middle = g.S.System.meaning c.to_non_unique_bits_le_steps.new.cs in
    let most : half_of p ≡ c.from.result = sym (c.from.ensures ∙ c.half.ensures.is) in
    then_ok p (to_non_unique_bits_script p c.args.number) (λ bs. walk_script p bs (half_of p)) _ middle bs c.in_ok-bits.ensures.does
    ∙ (λ i. run p (walk_script p (sym c.as_slice.ensures i) (most i)) middle)
    ∙ c.enforce_smaller_or_equal_than_le_steps.ensures.does

pub returns-clause-adds : goal.returns-clause-adds
returns-clause-adds g c = adds_both c.in_ok-bits.ensures.adds c.enforce_smaller_or_equal_than_le_steps.ensures.adds
