use Rattle.std.proofs.Common.{◌<◌, ◌∷◌, [], ◌++◌, length, take, sym, ap, ◌∙◌, arith}
use Rattle.std.proofs.Math.ListN.{length-set}
use Rattle.std.proofs.lemmas.List.{take_more_set}
use Rattle.relations.specs.Meaning.{new_lc}
use Rattle.relations.specs.Script.{combine}
use Rattle.relations.specs.Terms.{just}
use Rattle.relations.proofs.Added.{adds_both}
use Rattle.gates.specs.Kary.{topped, ones}
use Rattle.gates.proofs.Loops.{sum_takes}
use Rattle.gates.proofs.sum.sum.Goals as goal

pub returns-in_err-new_lc-clause-adds : goal.returns-in_err-new_lc-clause-adds
returns-in_err-new_lc-clause-adds g c = adds_both c.loop-bit.invariant.adds c.in_err-new_lc.ensures.adds

pub loop-bit-preserved : goal.loop-bit-preserved
loop-bit-preserved g c =
    let p = g.F.Field.modulus in
    let l = c.loop-bit in
    let bs = c.args.bits.now in
    let m = g.S.System.meaning l.cs in
    let x = c.in_ok-new_lc.field-0 in
    let room : l.count < length l.terms = omega arith in
    record {
      long = length-set l.terms l.count c.times.result ∙ l.invariant.long;
      few = omega arith;
      does = sym
          (sum_takes p (λ ts. combine ts (λ s. topped (ones bs) s)) (take l.count l.terms) _ c.in-Var.a _ bs l.bit-index x m (g.S.System.meaning c.new_lc.new.self) c.loop-bit-test.true c.in-Var.is
          ((λ i. new_lc p (sym (c.just.ensures ∙ ap just c.variable.ensures) i) m) ∙ c.in_ok-new_lc.ensures.does)
          (take_more_set l.terms l.count c.times.result room ∙ ap (λ t. take l.count l.terms ++ (t ∷ [])) c.times.ensures))
          ∙ l.invariant.does;
      adds = adds_both l.invariant.adds c.in_ok-new_lc.ensures.adds;
    }

pub returns-in_err-total-clause-adds : goal.returns-in_err-total-clause-adds
returns-in_err-total-clause-adds g c = adds_both c.loop-bit.invariant.adds c.in_err-total.ensures.adds

pub returns-clause-adds : goal.returns-clause-adds
returns-clause-adds g c = adds_both (adds_both c.loop-bit.invariant.adds c.in_ok-total.ensures.adds) c.add_constant.ensures.adds
