use Rattle.std.proofs.Common.{◌≡◌, Ok, Err, sym, ap, ◌∙◌, rules}
use Rattle.relations.specs.Script.{answer, then}
use Rattle.relations.proofs.Added.{adds_both}
use Rattle.relations.proofs.Then.{then_ok, then_err}
use Rattle.fp_var.specs.Numbers.{sub_script, double_script}
use Rattle.gates.specs.Walk.{place}
use Rattle.fp_bits.specs.Bits.{to_bits_script}
use Rattle.fp_bits.specs.Listed.{bits_listed}
use Rattle.fp_cmp.proofs.compare.lowest_of_double.Goals as goal

pub returns-in_err-difference-clause-does : goal.returns-in_err-difference-clause-does
returns-in_err-difference-clause-does g c =
    let p = g.F.Field.modulus in
    let end = g.S.System.meaning c.sub_steps.new.cs in
    let is : c.from_residual.result ≡ Err c.in_err-difference.field-0.0 = search rules in
    then_err p (sub_script p c.args.x c.args.y) (λ d. then (double_script p d) (λ e. then (to_bits_script p e) (λ bs. answer (place bs 0)))) _ end _ c.in_err-difference.ensures.does
    ∙ ap (λ r. (r, end)) (sym is)

pub returns-in_err-double-clause-does : goal.returns-in_err-double-clause-does
returns-in_err-double-clause-does g c =
    let p = g.F.Field.modulus in
    let d = c.in_ok-difference.difference in
    let end = g.S.System.meaning c.double_steps.new.cs in
    let is : c.from_residual-in_err-double.result ≡ Err c.in_err-double.field-0.0 = search rules in
    then_ok p (sub_script p c.args.x c.args.y) (λ d. then (double_script p d) (λ e. then (to_bits_script p e) (λ bs. answer (place bs 0)))) _ _ d c.in_ok-difference.ensures.does
    ∙ then_err p (double_script p d) (λ e. then (to_bits_script p e) (λ bs. answer (place bs 0))) _ end _ c.in_err-double.ensures.does
    ∙ ap (λ r. (r, end)) (sym is)

pub returns-in_err-double-clause-adds : goal.returns-in_err-double-clause-adds
returns-in_err-double-clause-adds g c = adds_both c.in_ok-difference.ensures.adds c.in_err-double.ensures.adds

pub returns-in_err-bits-clause-does : goal.returns-in_err-bits-clause-does
returns-in_err-bits-clause-does g c =
    let p = g.F.Field.modulus in
    let d = c.in_ok-difference.difference in
    let e = c.in_ok-double.double in
    let end = g.S.System.meaning c.to_bits_le_steps.new.cs in
    let is : c.from_residual-in_err-bits.result ≡ Err c.in_err-bits.field-0.0 = search rules in
    then_ok p (sub_script p c.args.x c.args.y) (λ d. then (double_script p d) (λ e. then (to_bits_script p e) (λ bs. answer (place bs 0)))) _ _ d c.in_ok-difference.ensures.does
    ∙ then_ok p (double_script p d) (λ e. then (to_bits_script p e) (λ bs. answer (place bs 0))) _ _ e c.in_ok-double.ensures.does
    ∙ then_err p (to_bits_script p e) (λ bs. answer (place bs 0)) _ end _ c.in_err-bits.ensures.does
    ∙ ap (λ r. (r, end)) (sym is)

pub returns-in_err-bits-clause-adds : goal.returns-in_err-bits-clause-adds
returns-in_err-bits-clause-adds g c = adds_both (adds_both c.in_ok-difference.ensures.adds c.in_ok-double.ensures.adds) c.in_err-bits.ensures.adds

pub returns-clause-does : goal.returns-clause-does
returns-clause-does g c =
    let p = g.F.Field.modulus in
    let d = c.in_ok-difference.difference in
    let e = c.in_ok-double.double in
    let end = g.S.System.meaning c.to_bits_le_steps.new.cs in
    then_ok p (sub_script p c.args.x c.args.y) (λ d. then (double_script p d) (λ e. then (to_bits_script p e) (λ bs. answer (place bs 0)))) _ _ d c.in_ok-difference.ensures.does
    ∙ then_ok p (double_script p d) (λ e. then (to_bits_script p e) (λ bs. answer (place bs 0))) _ _ e c.in_ok-double.ensures.does
    ∙ then_ok p (to_bits_script p e) (λ bs. answer (place bs 0)) _ end (bits_listed c.in_ok-bits.bits) c.in_ok-bits.ensures.does
    ∙ ap (λ b. (Ok b, end)) (sym c.lowest.ensures)

pub returns-clause-adds : goal.returns-clause-adds
returns-clause-adds g c = adds_both (adds_both c.in_ok-difference.ensures.adds c.in_ok-double.ensures.adds) c.in_ok-bits.ensures.adds
