use Rattle.std.proofs.Common.{sym, ◌∙◌}
use Rattle.relations.specs.Script.{run}
use Rattle.fp_var.specs.Numbers.{apart_from, apart_both, unequal_script}
use Rattle.fp_var.proofs.numbers.FpVar.unequal.Goals as goal

pub returns-in-Constant-Var-clause-does : goal.returns-in-Constant-Var-clause-does
returns-in-Constant-Var-clause-does g c =
    let p = g.F.Field.modulus in
    let m = g.S.System.meaning c.args.cs.now in
    let case = c.in-Constant-Var in
    (λ i. run p (unequal_script p (case.is-0 i) (case.is-1 i) c.args.condition) m)
    ∙ (λ i. run p (apart_from p case.a (sym c.variable.ensures i) (sym c.condition_variable.ensures i)) m)
    ∙ c.apart_from.ensures.does

pub returns-in-Var-Constant-clause-does : goal.returns-in-Var-Constant-clause-does
returns-in-Var-Constant-clause-does g c =
    let p = g.F.Field.modulus in
    let m = g.S.System.meaning c.args.cs.now in
    let case = c.in-Var-Constant in
    (λ i. run p (unequal_script p (case.is-0 i) (case.is-1 i) c.args.condition) m)
    ∙ (λ i. run p (apart_from p case.b (sym c.variable-in-Var-Constant.ensures i) (sym c.condition_variable-in-Var-Constant.ensures i)) m)
    ∙ c.apart_from-in-Var-Constant.ensures.does

pub returns-in-Var-Var-clause-does : goal.returns-in-Var-Var-clause-does
returns-in-Var-Var-clause-does g c =
    let p = g.F.Field.modulus in
    let m = g.S.System.meaning c.args.cs.now in
    let case = c.in-Var-Var in
    (λ i. run p (unequal_script p (case.is-0 i) (case.is-1 i) c.args.condition) m)
    ∙ (λ i. run p (apart_both p (sym c.variable-in-Var-Var.ensures i) (sym c.variable-in-Var-Var-2.ensures i) (sym c.condition_variable-in-Var-Var.ensures i)) m)
    ∙ c.apart_both.ensures.does
