use Rattle.std.proofs.Common.{◌≡◌, [], ◌∷◌, take, Err, sym, ap, ◌∙◌, rules}
use Rattle.relations.specs.Script.{answer, then}
use Rattle.relations.proofs.Added.{adds_both}
use Rattle.relations.proofs.Then.{then_ok, then_err}
use Rattle.gates.specs.Kary.{enforce_nand_script}
use Rattle.gates.specs.Walk.{closed_script}
use Rattle.gates.proofs.walk.fall.Goals as goal

pub returns-in_err-last-clause-does : goal.returns-in_err-last-clause-does
returns-in_err-last-clause-does g c =
    let p = g.F.Field.modulus in
    let is : c.from_residual.result ≡ Err c.in_err-last.field-0.0 = search rules in
    then_err p (closed_script p (take c.args.count c.args.bits.now) c.args.last) (λ l. then (enforce_nand_script p (l ∷ (c.args.bit ∷ []))) (λ u. answer l)) _ _ _ c.in_err-last.ensures.does
    ∙ ap (λ r. (r, g.S.System.meaning c.close.new.cs)) (sym is)

pub returns-in_err-enforce_nand_steps-clause-does : goal.returns-in_err-enforce_nand_steps-clause-does
returns-in_err-enforce_nand_steps-clause-does g c =
    let p = g.F.Field.modulus in
    let l = c.in_ok-last.last in
    let is : c.from_residual-in_err-enforce_nand_steps.result ≡ Err c.in_err-enforce_nand_steps.field-0.0 = search rules in
    then_ok p (closed_script p (take c.args.count c.args.bits.now) c.args.last) (λ l. then (enforce_nand_script p (l ∷ (c.args.bit ∷ []))) (λ u. answer l)) _ _ _ c.in_ok-last.ensures.does
    ∙ then_err p (enforce_nand_script p (l ∷ (c.args.bit ∷ []))) (λ u. answer l) _ _ _ c.in_err-enforce_nand_steps.ensures.does
    ∙ ap (λ r. (r, g.S.System.meaning c.enforce_nand_steps.new.cs)) (sym is)

pub returns-in_err-enforce_nand_steps-clause-adds : goal.returns-in_err-enforce_nand_steps-clause-adds
returns-in_err-enforce_nand_steps-clause-adds g c = adds_both c.in_ok-last.ensures.adds c.in_err-enforce_nand_steps.ensures.adds

pub returns-clause-does : goal.returns-clause-does
returns-clause-does g c =
    let p = g.F.Field.modulus in
    let l = c.in_ok-last.last in
    then_ok p (closed_script p (take c.args.count c.args.bits.now) c.args.last) (λ l. then (enforce_nand_script p (l ∷ (c.args.bit ∷ []))) (λ u. answer l)) _ _ _ c.in_ok-last.ensures.does
    ∙ then_ok p (enforce_nand_script p (l ∷ (c.args.bit ∷ []))) (λ u. answer l) _ _ _ c.in_ok-enforce_nand_steps.ensures.does

pub returns-clause-adds : goal.returns-clause-adds
returns-clause-adds g c = adds_both c.in_ok-last.ensures.adds c.in_ok-enforce_nand_steps.ensures.adds
