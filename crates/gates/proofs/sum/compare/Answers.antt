use Rattle.std.proofs.Common.{[], ◌∷◌, sym, ap, ◌∙◌}
use Rattle.relations.specs.declared.term.Variable.TheVariants.{One}
use Rattle.relations.specs.Meaning.{new_lc}
use Rattle.relations.specs.Script.{run}
use Rattle.relations.specs.Terms.{times}
use Rattle.relations.proofs.Added.{adds_both}
use Rattle.fp.specs.Equality.{is_eq_script, is_neq_script}
use Rattle.gates.specs.Kary.{compared}
use Rattle.gates.proofs.Loops.{combine_ok}
use Rattle.gates.proofs.sum.compare.Goals as goal

pub returns-in_ok-all-in-And-clause-does : goal.returns-in_ok-all-in-And-clause-does
returns-in_ok-all-in-And-clause-does g c =
    let p = g.F.Field.modulus in
    let s = c.args.total in
    let m = g.S.System.meaning c.args.cs.now in
    let n = g.S.System.meaning c.new_lc.new.self in
    ap (λ w. run p (compared w p c.args.members s) m) c.in-And.is
    ∙ combine_ok p (times c.args.members One ∷ []) (λ v. is_eq_script p v s) m n c.in_ok-all-in-And.all ((λ i. new_lc p (sym c.times.ensures i ∷ []) m) ∙ c.in_ok-all-in-And.ensures.does)
    ∙ (λ i. run p (is_eq_script p (sym c.named.ensures i) (sym c.named-in-And.ensures i)) n)
    ∙ c.is_eq_steps.ensures.does

pub returns-in_ok-all-in-And-clause-adds : goal.returns-in_ok-all-in-And-clause-adds
returns-in_ok-all-in-And-clause-adds g c = adds_both c.in_ok-all-in-And.ensures.adds c.is_eq_steps.ensures.adds

pub returns-in_ok-none-in-Or-clause-does : goal.returns-in_ok-none-in-Or-clause-does
returns-in_ok-none-in-Or-clause-does g c =
    let p = g.F.Field.modulus in
    let s = c.args.total in
    let m = g.S.System.meaning c.args.cs.now in
    let n = g.S.System.meaning c.new_lc-in-Or.new.self in
    ap (λ w. run p (compared w p c.args.members s) m) c.in-Or.is
    ∙ combine_ok p [] (λ v. is_neq_script p v s) m n c.in_ok-none-in-Or.none c.in_ok-none-in-Or.ensures.does
    ∙ (λ i. run p (is_neq_script p (sym c.named-in-Or.ensures i) (sym c.named-in-Or-2.ensures i)) n)
    ∙ c.is_neq_steps.ensures.does

pub returns-in_ok-none-in-Or-clause-adds : goal.returns-in_ok-none-in-Or-clause-adds
returns-in_ok-none-in-Or-clause-adds g c = adds_both c.in_ok-none-in-Or.ensures.adds c.is_neq_steps.ensures.adds
