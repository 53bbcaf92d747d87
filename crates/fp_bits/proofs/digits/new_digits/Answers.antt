use Rattle.std.proofs.Common.{◌≡◌, suc, ◌+◌, ◌-◌, ◌<◌, length, take, Err, sym, ap, ◌∙◌, arith, rules}
use Rattle.std.proofs.Math.ListN.{length-set}
use Rattle.std.proofs.lemmas.List.{take_more_set}
use Rattle.relations.specs.Script.{over}
use Rattle.relations.proofs.Added.{adds_both, adds_nothing}
use Rattle.boolean.specs.declared.bits.Boolean.TheVariants.{Var}
use Rattle.fp_bits.specs.Listed.{bits_listed}
use Rattle.fp_bits.proofs.NewDigits.{digits_begin, digits_take, digits_stop}
use Rattle.fp_bits.proofs.digits.new_digits.Goals as goal

pub loop-place-init : goal.loop-place-init
loop-place-init g c =
    let whole : c.args.count - 0 ≡ c.args.count = omega arith in
    record {
      long = search rules;
      does = digits_begin g.F.Field.modulus (c.args.count - 0) c.args.count c.args.variable (g.S.System.meaning c.args.cs.now) whole;
      adds = adds_nothing g.S.System.meaning g.S.System.stored g.S.System.knows c.args.cs.now;
    }

pub returns-in_err-new_digit-clause-does : goal.returns-in_err-new_digit-clause-does
returns-in_err-new_digit-clause-does g c =
    let p = g.F.Field.modulus in
    let l = c.loop-place in
    let end = g.S.System.meaning c.new_digit.new.cs in
    let left : c.args.count - l.place ≡ suc (c.args.count - (l.place + 1)) = omega arith in
    let is : c.from_residual.result ≡ Err c.in_err-new_digit.field-0.0 = search rules in
    sym l.invariant.does
    ∙ digits_stop p l.place _ _ c.args.variable (take l.place l.list) c.in_err-new_digit.field-0.0 (g.S.System.meaning l.cs) end left c.in_err-new_digit.ensures.does
    ∙ ap (λ r. (over bits_listed r, end)) (sym is)

pub returns-in_err-new_digit-clause-adds : goal.returns-in_err-new_digit-clause-adds
returns-in_err-new_digit-clause-adds g c = adds_both c.loop-place.invariant.adds c.in_err-new_digit.ensures.adds

pub loop-place-preserved : goal.loop-place-preserved
loop-place-preserved g c =
    let p = g.F.Field.modulus in
    let l = c.loop-place in
    let bit = c.in_ok-new_digit.field-0 in
    let left : c.args.count - l.place ≡ suc (c.args.count - (l.place + 1)) = omega arith in
    let room : l.place < length l.list = omega arith in
    record {
      long = length-set l.list l.place (Var bit) ∙ l.invariant.long;
      does = sym (digits_take p l.place _ _ c.args.variable (take l.place l.list) _ bit (g.S.System.meaning l.cs) (g.S.System.meaning c.new_digit.new.cs) left c.in_ok-new_digit.ensures.does (take_more_set l.list l.place (Var bit) room)) ∙ l.invariant.does;
      adds = adds_both l.invariant.adds c.in_ok-new_digit.ensures.adds;
    }
