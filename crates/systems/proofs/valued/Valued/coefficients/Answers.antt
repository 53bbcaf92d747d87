use Rattle.std.proofs.Common.{ℕ, length, OnOk, sym, ap, ◌∙◌, subst}
use Rattle.systems.specs.Held.{state, meant_by}
use Rattle.systems.specs.Stores.{zeros}
use Rattle.systems.specs.Outline.{working, outlining, row_sum, coefficients, KeepsValue}
use Rattle.systems.proofs.Views.{rows_long}
use Rattle.systems.proofs.Outline.{Outlined}
use Rattle.systems.proofs.Besides.{bare_fit, part_beside}
use Rattle.systems.proofs.Coefficients.{on_ok, outlined_so}
use Rattle.systems.proofs.valued.Valued.coefficients.Goals as goal

pub write_out-requires : goal.write_out-requires
write_out-requires g c = bare_fit c.args.self.now.store c.args.self.now.values.now c.args.self.now.fit

pub returns : goal.returns
returns g c =
    let v = c.args.self.now in
    let s = state v in
    let r = c.write_out.result in
    let i = c.args.row in
    let which = c.args.part in
    let os = c.args.out.now in
    let qs = c.write_out.new.out in
    let e = c.write_out.ensures in
    let o : OnOk r (Outlined s which i os qs) = outlined_so s which i os qs r v.fit v.ordered e.done (on_ok r (part_beside v.store (zeros 131072) v.values.now which i os qs) e.written) in
    record {
      done = e.done ∙ ap (λ (n : ℕ). outlining n (working s) i (length os)) (sym (rows_long s));
      refused = e.refused;
      written = on_ok r (λ (o : Outlined s which i os qs). o.written ∙ ap (λ (p : ℕ). coefficients p (meant_by v) (row_sum which i (meant_by v))) v.prime) o;
      keeps = on_ok r (λ (o : Outlined s which i os qs). subst (λ (p : ℕ). KeepsValue p (meant_by v) (row_sum which i (meant_by v)) qs) v.prime o.keeps) o;
      beyond = on_ok r (λ (o : Outlined s which i os qs). o.beyond) o;
    }
