use Rattle.std.proofs.Common.{◌≡◌, ◌-◌, false, length, take, drop, Err, sym, ap, ◌∙◌, rules}
use Rattle.relations.specs.Script.{run, then}
use Rattle.relations.proofs.Added.{adds_both}
use Rattle.relations.proofs.Then.{then_ok, then_err}
use Rattle.allocated.specs.declared.gate.Gate.TheVariants.{Or}
use Rattle.boolean.specs.declared.bits.Boolean.TheVariants.{Constant}
use Rattle.boolean.specs.Booleans.{zero_script}
use Rattle.gates.specs.Kary.{chain_from}
use Rattle.gates.proofs.Folds.{rest_of}
use Rattle.gates.proofs.walk.none_above.Goals as goal

pub returns-in_err-chain_from-clause-does : goal.returns-in_err-chain_from-clause-does
returns-in_err-chain_from-clause-does g c =
    let p = g.F.Field.modulus in
    let is : c.from_residual.result ≡ Err c.in_err-chain_from.field-0.0 = search rules in
    let rest = take (length c.args.bits.now - c.args.top) (drop c.args.top c.args.bits.now) in
    let same : rest ≡ drop c.args.top c.args.bits.now = rest_of c.args.bits.now c.args.top in
    (λ i. run p (then (chain_from Or p (Constant false) (sym same i)) zero_script) (g.S.System.meaning c.args.cs.now))
    ∙ then_err p (chain_from Or p (Constant false) rest) zero_script _ _ _ c.in_err-chain_from.ensures.does ∙ ap (λ r. (r, g.S.System.meaning c.chain_from.new.cs)) (sym is)

pub returns-clause-does : goal.returns-clause-does
returns-clause-does g c =
    let p = g.F.Field.modulus in
    let rest = take (length c.args.bits.now - c.args.top) (drop c.args.top c.args.bits.now) in
    let same : rest ≡ drop c.args.top c.args.bits.now = rest_of c.args.bits.now c.args.top in
    (λ i. run p (then (chain_from Or p (Constant false) (sym same i)) zero_script) (g.S.System.meaning c.args.cs.now))
    ∙ then_ok p (chain_from Or p (Constant false) rest) zero_script _ _ _ c.in_ok-chain_from.ensures.does ∙ c.enforce_zero_steps.ensures.does

pub returns-clause-adds : goal.returns-clause-adds
returns-clause-adds g c = adds_both c.in_ok-chain_from.ensures.adds c.enforce_zero_steps.ensures.adds
