use Rattle.std.proofs.Common.{◌∷◌, sym, ◌∙◌}
use Rattle.relations.specs.Script.{run}
use Rattle.relations.specs.Terms.{times, just}
use Rattle.fp_var.specs.Numbers.{linear, add_script}
use Rattle.fp_var.proofs.numbers.FpVar.add_steps.Goals as goal

pub returns-in-Var-Var-clause-does : goal.returns-in-Var-Var-clause-does
returns-in-Var-Var-clause-does g c =
    let p = g.F.Field.modulus in
    let m = g.S.System.meaning c.args.cs.now in
    (λ i. run p (add_script p (c.in-Var-Var.is-0 i) (c.in-Var-Var.is-1 i)) m)
    ∙ (λ i. run p (linear (times 1 (sym c.variable.ensures i) ∷ just (sym c.variable-in-Var-Var.ensures i))) m)
    ∙ c.both.ensures.does
