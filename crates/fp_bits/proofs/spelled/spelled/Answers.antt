use Rattle.std.proofs.Common.{◌≡◌, true, false, Ok, Err, sym, ap, ◌∙◌, rules}
use Rattle.arith.proofs.Bits.{pos_of_prime}
use Rattle.relations.specs.Script.{answer, run, then}
use Rattle.relations.proofs.Added.{adds_both}
use Rattle.relations.proofs.Then.{then_ok, then_err}
use Rattle.fp_var.specs.declared.numbers.FpVar.TheVariants.{Constant}
use Rattle.gates.specs.Kary.{all_constant}
use Rattle.fp_bits.specs.Bits.{gathered, below_prime}
use Rattle.fp_bits.proofs.Weights.{spelled_folds, spelled_runs}
use Rattle.fp_bits.proofs.spelled.spelled.Goals as goal

pub returns-then-all_constant-clause-does : goal.returns-then-all_constant-clause-does
returns-then-all_constant-clause-does g c =
    let p = g.F.Field.modulus in
    let bs = c.args.bits.now in
    let m = g.S.System.meaning c.args.cs.now in
    let all : all_constant bs ≡ true = sym c.all_constant.ensures ∙ c.if-all_constant.true in
    ap (λ s. run p s m) (spelled_folds p bs (pos_of_prime g.F.Field.laws.prime) all)
    ∙ ap (λ n. (Ok (Constant n), m)) (sym c.constants_weight.ensures)

pub returns-in_err-sum-clause-does : goal.returns-in_err-sum-clause-does
returns-in_err-sum-clause-does g c =
    let p = g.F.Field.modulus in
    let bs = c.args.bits.now in
    let end = g.S.System.meaning c.gathered.new.cs in
    let some : all_constant bs ≡ false = sym c.all_constant.ensures ∙ c.if-all_constant.false in
    let is : c.from_residual.result ≡ Err c.in_err-sum.field-0.0 = search rules in
    ap (λ s. run p s (g.S.System.meaning c.args.cs.now)) (spelled_runs p bs some)
    ∙ then_err p (gathered p bs) (λ s. then (below_prime p bs) (λ u. answer s)) _ end _ c.in_err-sum.ensures.does
    ∙ ap (λ r. (r, end)) (sym is)

pub returns-in_err-below_prime-clause-does : goal.returns-in_err-below_prime-clause-does
returns-in_err-below_prime-clause-does g c =
    let p = g.F.Field.modulus in
    let bs = c.args.bits.now in
    let end = g.S.System.meaning c.below_prime.new.cs in
    let some : all_constant bs ≡ false = sym c.all_constant.ensures ∙ c.if-all_constant.false in
    let is : c.from_residual-in_err-below_prime.result ≡ Err c.in_err-below_prime.field-0.0 = search rules in
    ap (λ s. run p s (g.S.System.meaning c.args.cs.now)) (spelled_runs p bs some)
    ∙ then_ok p (gathered p bs) (λ s. then (below_prime p bs) (λ u. answer s)) _ _ _ c.in_ok-sum.ensures.does
    ∙ then_err p (below_prime p bs) (λ u. answer c.in_ok-sum.sum) _ end _ c.in_err-below_prime.ensures.does
    ∙ ap (λ r. (r, end)) (sym is)

pub returns-in_err-below_prime-clause-adds : goal.returns-in_err-below_prime-clause-adds
returns-in_err-below_prime-clause-adds g c = adds_both c.in_ok-sum.ensures.adds c.in_err-below_prime.ensures.adds

pub returns-clause-does : goal.returns-clause-does
returns-clause-does g c =
    let p = g.F.Field.modulus in
    let bs = c.args.bits.now in
    let some : all_constant bs ≡ false = sym c.all_constant.ensures ∙ c.if-all_constant.false in
    ap (λ s. run p s (g.S.System.meaning c.args.cs.now)) (spelled_runs p bs some)
    ∙ then_ok p (gathered p bs) (λ s. then (below_prime p bs) (λ u. answer s)) _ _ _ c.in_ok-sum.ensures.does
    ∙ then_ok p (below_prime p bs) (λ u. answer c.in_ok-sum.sum) _ _ _ c.in_ok-below_prime.ensures.does

pub returns-clause-adds : goal.returns-clause-adds
returns-clause-adds g c = adds_both c.in_ok-sum.ensures.adds c.in_ok-below_prime.ensures.adds
