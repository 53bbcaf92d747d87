use Rattle.std.proofs.Common.{◌≡◌, ◌%◌, ◌==◌, false, cond, Err, sym, ap, ◌∙◌, rules}
use Rattle.relations.specs.Script.{run, then}
use Rattle.relations.proofs.Added.{adds_both}
use Rattle.relations.proofs.Then.{then_ok, then_err}
use Rattle.fp_var.specs.Numbers.{negated, negate_script, less_constant}
use Rattle.fp_var.proofs.arithmetic.constant_less.Goals as goal

pub returns-in_err-less_constant-clause-does : goal.returns-in_err-less_constant-clause-does
returns-in_err-less_constant-clause-does g c =
    let p = g.F.Field.modulus in
    let test : (c.args.c % p == 0) ≡ false = ap (λ n. n == 0) (sym c.from_number.ensures) ∙ sym c.is_zero.ensures ∙ c.if-is_zero.false in
    let is : c.from_residual.result ≡ Err c.in_err-less_constant.field-0.0 = search rules in
    (λ i. run p (cond (test i) (negated p c.args.v) (then (less_constant p c.args.v c.args.c) (negate_script p))) (g.S.System.meaning c.args.cs.now))
    ∙ then_err p (less_constant p c.args.v c.args.c) (negate_script p) _ _ _ c.in_err-less_constant.ensures.does ∙ ap (λ x. (x, g.S.System.meaning c.less_constant.new.cs)) (sym is)

pub returns-clause-does : goal.returns-clause-does
returns-clause-does g c =
    let p = g.F.Field.modulus in
    let test : (c.args.c % p == 0) ≡ false = ap (λ n. n == 0) (sym c.from_number.ensures) ∙ sym c.is_zero.ensures ∙ c.if-is_zero.false in
    (λ i. run p (cond (test i) (negated p c.args.v) (then (less_constant p c.args.v c.args.c) (negate_script p))) (g.S.System.meaning c.args.cs.now))
    ∙ then_ok p (less_constant p c.args.v c.args.c) (negate_script p) _ _ _ c.in_ok-less_constant.ensures.does ∙ c.negate_steps.ensures.does

pub returns-clause-adds : goal.returns-clause-adds
returns-clause-adds g c = adds_both c.in_ok-less_constant.ensures.adds c.negate_steps.ensures.adds
