use Rattle.std.proofs.Common.{◌≡◌, Err, sym, ap, ◌∙◌, rules}
use Rattle.relations.proofs.Added.{adds_both}
use Rattle.gates.proofs.Loops.{chain_next, chain_stop}
use Rattle.gates.proofs.sum.chain_from.Goals as goal

pub returns-in_err-joined-clause-does : goal.returns-in_err-joined-clause-does
returns-in_err-joined-clause-does g c =
    let p = g.F.Field.modulus in
    let l = c.loop-bit in
    let end = g.S.System.meaning c.gate_steps.new.cs in
    let is : c.from_residual.result ≡ Err c.in_err-joined.field-0.0 = search rules in
    sym l.invariant.does
    ∙ chain_stop c.args.gate p l.joined _ c.args.rest.now l.bit-index (g.S.System.meaning l.cs) end c.in_err-joined.field-0.0 c.loop-bit-test.true c.in_err-joined.ensures.does
    ∙ ap (λ r. (r, end)) (sym is)

pub returns-in_err-joined-clause-adds : goal.returns-in_err-joined-clause-adds
returns-in_err-joined-clause-adds g c = adds_both c.loop-bit.invariant.adds c.in_err-joined.ensures.adds

pub loop-bit-preserved : goal.loop-bit-preserved
loop-bit-preserved g c =
    let p = g.F.Field.modulus in
    let l = c.loop-bit in
    record {
      does = sym (chain_next c.args.gate p l.joined c.in_ok-joined.joined _ c.args.rest.now l.bit-index (g.S.System.meaning l.cs) (g.S.System.meaning c.gate_steps.new.cs) c.loop-bit-test.true c.in_ok-joined.ensures.does) ∙ l.invariant.does;
      adds = adds_both l.invariant.adds c.in_ok-joined.ensures.adds;
    }
