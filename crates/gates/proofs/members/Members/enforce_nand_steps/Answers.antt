use Rattle.std.proofs.Common.{◌≡◌, Err, sym, ap, ◌∙◌, rules}
use Rattle.relations.proofs.Added.{adds_both}
use Rattle.relations.proofs.Then.{then_ok, then_err}
use Rattle.boolean.specs.Booleans.{zero_script}
use Rattle.gates.specs.declared.wide.Wide.TheVariants.{And}
use Rattle.gates.specs.Kary.{kary_script}
use Rattle.gates.proofs.members.Members.enforce_nand_steps.Goals as goal

pub returns-in_err-kary_steps-clause-does : goal.returns-in_err-kary_steps-clause-does
returns-in_err-kary_steps-clause-does g c =
    let p = g.F.Field.modulus in
    let is : c.from_residual.result ≡ Err c.in_err-kary_steps.field-0.0 = search rules in
    then_err p (kary_script And p c.args.self.now.bits.now) zero_script _ _ _ c.in_err-kary_steps.ensures.does ∙ ap (λ x. (x, g.S.System.meaning c.kary_steps.new.cs)) (sym is)

pub returns-clause-does : goal.returns-clause-does
returns-clause-does g c =
    let p = g.F.Field.modulus in
    then_ok p (kary_script And p c.args.self.now.bits.now) zero_script _ _ _ c.in_ok-kary_steps.ensures.does ∙ c.enforce_zero_steps.ensures.does

pub returns-clause-adds : goal.returns-clause-adds
returns-clause-adds g c = adds_both c.in_ok-kary_steps.ensures.adds c.enforce_zero_steps.ensures.adds
