use Rattle.std.proofs.Common.{◌≡◌, cond, Some, None, Err, length, sym, ap, ◌∙◌, rules}
use Rattle.relations.specs.Script.{run, over}
use Rattle.relations.proofs.Added.{adds_both}
use Rattle.relations.proofs.Then.{then_ok, then_err, then_over}
use Rattle.boolean.specs.declared.bits.Boolean.TheVariants.{Var}
use Rattle.boolean.specs.Booleans.{as_var}
use Rattle.gates.specs.Kary.{joined, all_constant, told_all, sum_script, compared}
use Rattle.gates.proofs.Folds.{summed_is}
use Rattle.gates.proofs.members.Members.summed_steps.Goals as goal

pub returns-in_err-total-clause-does : goal.returns-in_err-total-clause-does
returns-in_err-total-clause-does g c =
    let p = g.F.Field.modulus in
    let w = c.args.gate in
    let bs = c.args.self.now.bits.now in
    let n = g.S.System.meaning c.sum.new.cs in
    let is : c.from_residual.result ≡ Err c.in_err-total.field-0.0 = search rules in
    let none : cond (all_constant bs) (Some (joined w (told_all bs))) None ≡ None = search rules in
    ap (λ s. run p s (g.S.System.meaning c.args.cs.now)) (summed_is w p bs none)
    ∙ then_err p (sum_script bs) (λ s. as_var (compared w p (length bs) s)) _ n _ c.in_err-total.ensures.does ∙ ap (λ r. (r, n)) (sym is)

pub returns-clause-does : goal.returns-clause-does
returns-clause-does g c =
    let p = g.F.Field.modulus in
    let w = c.args.gate in
    let bs = c.args.self.now.bits.now in
    let n = g.S.System.meaning c.sum.new.cs in
    let o = g.S.System.meaning c.compare.new.cs in
    let mapped : c.map.result ≡ over Var c.compare.result = search rules in
    let none : cond (all_constant bs) (Some (joined w (told_all bs))) None ≡ None = search rules in
    ap (λ s. run p s (g.S.System.meaning c.args.cs.now)) (summed_is w p bs none)
    ∙ then_ok p (sum_script bs) (λ s. as_var (compared w p (length bs) s)) _ n c.in_ok-total.total c.in_ok-total.ensures.does
    ∙ then_over p (compared w p (length bs) c.in_ok-total.total) Var n o c.compare.result c.compare.ensures.does ∙ ap (λ r. (r, o)) (sym mapped)

pub returns-clause-adds : goal.returns-clause-adds
returns-clause-adds g c = adds_both c.in_ok-total.ensures.adds c.compare.ensures.adds
