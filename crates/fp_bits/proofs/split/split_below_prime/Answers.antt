use Rattle.std.proofs.Common.{◌≡◌, ◌-◌, Err, sym, ap, ◌∙◌, rules}
use Rattle.relations.specs.Script.{answer, run, over}
use Rattle.relations.proofs.Added.{adds_both}
use Rattle.relations.proofs.Then.{then_ok, then_err}
use Rattle.gates.specs.Walk.{walk_script}
use Rattle.fp_bits.specs.Bits.{split_script}
use Rattle.fp_bits.specs.Listed.{bits_listed}
use Rattle.fp_bits.proofs.Splits.{held_below}
use Rattle.fp_bits.proofs.split.split_below_prime.Goals as goal

pub returns-in_err-bits-clause-does : goal.returns-in_err-bits-clause-does
returns-in_err-bits-clause-does g c =
    let p = g.F.Field.modulus in
    let end = g.S.System.meaning c.split.new.cs in
    let is : c.from_residual.result ≡ Err c.in_err-bits.field-0.0 = search rules in
    then_err p (split_script p c.args.variable) (held_below p) _ end _ c.in_err-bits.ensures.does
    ∙ ap (λ r. (over bits_listed r, end)) (sym is)

pub returns-in_err-less_than_prime-clause-does : goal.returns-in_err-less_than_prime-clause-does
returns-in_err-less_than_prime-clause-does g c =
    let p = g.F.Field.modulus in
    let bs = bits_listed c.in_ok-bits.bits in
    let middle = g.S.System.meaning c.split.new.cs in
    let end = g.S.System.meaning c.less_than_prime.new.cs in
    let is : c.from_residual-in_err-less_than_prime.result ≡ Err c.in_err-less_than_prime.field-0.0 = search rules in
    then_ok p (split_script p c.args.variable) (held_below p) _ middle bs c.in_ok-bits.ensures.does
    ∙ then_err p (walk_script p bs (p - 1)) (λ u. answer bs) middle end _ ((λ i. run p (walk_script p (sym c.as_slice.ensures i) (p - 1)) middle) ∙ c.in_err-less_than_prime.ensures.does)
    ∙ ap (λ r. (over bits_listed r, end)) (sym is)

pub returns-in_err-less_than_prime-clause-adds : goal.returns-in_err-less_than_prime-clause-adds
returns-in_err-less_than_prime-clause-adds g c = adds_both c.in_ok-bits.ensures.adds c.in_err-less_than_prime.ensures.adds

pub returns-clause-does : goal.returns-clause-does
returns-clause-does g c =
    let p = g.F.Field.modulus in
    let bs = bits_listed c.in_ok-bits.bits in
    let middle = g.S.System.meaning c.split.new.cs in
    then_ok p (split_script p c.args.variable) (held_below p) _ middle bs c.in_ok-bits.ensures.does
    ∙ then_ok p (walk_script p bs (p - 1)) (λ u. answer bs) middle _ _ ((λ i. run p (walk_script p (sym c.as_slice.ensures i) (p - 1)) middle) ∙ c.in_ok-less_than_prime.ensures.does)

pub returns-clause-adds : goal.returns-clause-adds
returns-clause-adds g c = adds_both c.in_ok-bits.ensures.adds c.in_ok-less_than_prime.ensures.adds
