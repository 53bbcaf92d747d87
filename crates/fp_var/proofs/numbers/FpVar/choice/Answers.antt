use Rattle.std.proofs.Common.{sym, ◌∙◌}
use Rattle.relations.specs.Script.{run, then}
use Rattle.fp_var.specs.Numbers.{constant_lc, choice_of, select_script}
use Rattle.fp_var.proofs.numbers.FpVar.choice.Goals as goal

pub returns-in-Var-Constant-Var-clause-does : goal.returns-in-Var-Constant-Var-clause-does
returns-in-Var-Constant-Var-clause-does g c =
    let p = g.F.Field.modulus in
    let m = g.S.System.meaning c.args.cs.now in
    let case = c.in-Var-Constant-Var in
    (λ i. run p (select_script p (case.is-0 i) (case.is-1 i) (case.is-2 i)) m)
    ∙ (λ i. run p (then (constant_lc case.x) (λ v. choice_of p case.c.variable v (sym c.variable.ensures i))) m)
    ∙ c.choice_of_constant_first.ensures.does

pub returns-in-Var-Var-Constant-clause-does : goal.returns-in-Var-Var-Constant-clause-does
returns-in-Var-Var-Constant-clause-does g c =
    let p = g.F.Field.modulus in
    let m = g.S.System.meaning c.args.cs.now in
    let case = c.in-Var-Var-Constant in
    (λ i. run p (select_script p (case.is-0 i) (case.is-1 i) (case.is-2 i)) m)
    ∙ (λ i. run p (then (constant_lc case.y) (λ v. choice_of p case.c.variable (sym c.variable-in-Var-Var-Constant.ensures i) v)) m)
    ∙ c.choice_of_constant_second.ensures.does

pub returns-in-Var-Var-Var-clause-does : goal.returns-in-Var-Var-Var-clause-does
returns-in-Var-Var-Var-clause-does g c =
    let p = g.F.Field.modulus in
    let m = g.S.System.meaning c.args.cs.now in
    let case = c.in-Var-Var-Var in
    (λ i. run p (select_script p (case.is-0 i) (case.is-1 i) (case.is-2 i)) m)
    ∙ (λ i. run p (choice_of p case.c.variable (sym c.variable-in-Var-Var-Var.ensures i) (sym c.variable-in-Var-Var-Var-2.ensures i)) m)
    ∙ c.choice_of.ensures.does
