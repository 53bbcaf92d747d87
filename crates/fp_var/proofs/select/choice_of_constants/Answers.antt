use Rattle.std.proofs.Common.{◌≡◌, ℕ, Err, sym, ap, ◌∙◌, rules}
use Rattle.relations.specs.declared.term.Variable.{Variable}
use Rattle.relations.specs.Meaning.{Meaning}
use Rattle.relations.specs.Script.{Script, run, then}
use Rattle.relations.proofs.Added.{adds_both}
use Rattle.relations.proofs.Then.{then_ok, then_err}
use Rattle.allocated.specs.declared.allocated.AllocatedBool.{AllocatedBool}
use Rattle.allocated.specs.Gates.{not_allocated}
use Rattle.fp_var.specs.declared.numbers.FpVar.{FpVar}
use Rattle.fp_var.specs.Numbers.{copied, weighted, choice_of_constants}
use Rattle.fp_var.proofs.select.choice_of_constants.Goals as goal

-- what follows once the bit's opposite is there, and once the bit's own number is
abbrev after_opposite : ℕ → ℕ → Variable → ℕ → AllocatedBool → Script FpVar
after_opposite p a v b t = then (copied t.variable) (weighted p a v b)

abbrev after_bit : ℕ → AllocatedBool → ℕ → ℕ → Variable → Script FpVar
after_bit p c a b v = then (not_allocated p c) (after_opposite p a v b)

-- the variable of a bit, by another name, copied first
by_name : (p a b : ℕ) (c : AllocatedBool) (v : Variable) (m : Meaning) → v ≡ c.variable → run p (choice_of_constants p c a b) m ≡ run p (then (copied v) (after_bit p c a b)) m
by_name p a b c v m e = λ k. run p (then (copied (sym e k)) (after_bit p c a b)) m

opposite_by_name : (p a b : ℕ) (v : Variable) (t : AllocatedBool) (w : Variable) (m : Meaning) → w ≡ t.variable → run p (after_opposite p a v b t) m ≡ run p (then (copied w) (weighted p a v b)) m
opposite_by_name p a b v t w m e = λ k. run p (then (copied (sym e k)) (weighted p a v b)) m

pub returns-in_err-bit_number-clause-does : goal.returns-in_err-bit_number-clause-does
returns-in_err-bit_number-clause-does g c =
    let p = g.F.Field.modulus in
    let end = g.S.System.meaning c.copied.new.cs in
    let is : c.from_residual.result ≡ Err c.in_err-bit_number.field-0.0 = search rules in
    by_name p c.args.a c.args.b c.args.bit _ _ c.variable.ensures
    ∙ then_err p (copied c.variable.result) (after_bit p c.args.bit c.args.a c.args.b) _ _ _ c.in_err-bit_number.ensures.does
    ∙ ap (λ r. (r, end)) (sym is)

pub returns-in_err-opposite-clause-does : goal.returns-in_err-opposite-clause-does
returns-in_err-opposite-clause-does g c =
    let p = g.F.Field.modulus in
    let end = g.S.System.meaning c.not_steps.new.cs in
    let is : c.from_residual-in_err-opposite.result ≡ Err c.in_err-opposite.field-0.0 = search rules in
    by_name p c.args.a c.args.b c.args.bit _ _ c.variable.ensures
    ∙ then_ok p (copied c.variable.result) (after_bit p c.args.bit c.args.a c.args.b) _ _ _ c.in_ok-bit_number.ensures.does
    ∙ then_err p (not_allocated p c.args.bit) (after_opposite p c.args.a c.in_ok-bit_number.bit_number c.args.b) _ _ _ c.in_err-opposite.ensures.does
    ∙ ap (λ r. (r, end)) (sym is)

pub returns-in_err-opposite-clause-adds : goal.returns-in_err-opposite-clause-adds
returns-in_err-opposite-clause-adds g c = adds_both c.in_ok-bit_number.ensures.adds c.in_err-opposite.ensures.adds

pub returns-in_err-opposite_number-clause-does : goal.returns-in_err-opposite_number-clause-does
returns-in_err-opposite_number-clause-does g c =
    let p = g.F.Field.modulus in
    let v = c.in_ok-bit_number.bit_number in
    let end = g.S.System.meaning c.copied-2.new.cs in
    let is : c.from_residual-in_err-opposite_number.result ≡ Err c.in_err-opposite_number.field-0.0 = search rules in
    by_name p c.args.a c.args.b c.args.bit _ _ c.variable.ensures
    ∙ then_ok p (copied c.variable.result) (after_bit p c.args.bit c.args.a c.args.b) _ _ _ c.in_ok-bit_number.ensures.does
    ∙ then_ok p (not_allocated p c.args.bit) (after_opposite p c.args.a v c.args.b) _ _ _ c.in_ok-opposite.ensures.does
    ∙ opposite_by_name p c.args.a c.args.b v c.in_ok-opposite.opposite _ _ c.variable-2.ensures
    ∙ then_err p (copied c.variable-2.result) (weighted p c.args.a v c.args.b) _ _ _ c.in_err-opposite_number.ensures.does
    ∙ ap (λ r. (r, end)) (sym is)

pub returns-in_err-opposite_number-clause-adds : goal.returns-in_err-opposite_number-clause-adds
returns-in_err-opposite_number-clause-adds g c = adds_both (adds_both c.in_ok-bit_number.ensures.adds c.in_ok-opposite.ensures.adds) c.in_err-opposite_number.ensures.adds

pub returns-clause-does : goal.returns-clause-does
returns-clause-does g c =
    let p = g.F.Field.modulus in
    let v = c.in_ok-bit_number.bit_number in
    by_name p c.args.a c.args.b c.args.bit _ _ c.variable.ensures
    ∙ then_ok p (copied c.variable.result) (after_bit p c.args.bit c.args.a c.args.b) _ _ _ c.in_ok-bit_number.ensures.does
    ∙ then_ok p (not_allocated p c.args.bit) (after_opposite p c.args.a v c.args.b) _ _ _ c.in_ok-opposite.ensures.does
    ∙ opposite_by_name p c.args.a c.args.b v c.in_ok-opposite.opposite _ _ c.variable-2.ensures
    ∙ then_ok p (copied c.variable-2.result) (weighted p c.args.a v c.args.b) _ _ _ c.in_ok-opposite_number.ensures.does
    ∙ c.weighted.ensures.does

pub returns-clause-adds : goal.returns-clause-adds
returns-clause-adds g c = adds_both (adds_both (adds_both c.in_ok-bit_number.ensures.adds c.in_ok-opposite.ensures.adds) c.in_ok-opposite_number.ensures.adds) c.weighted.ensures.adds
