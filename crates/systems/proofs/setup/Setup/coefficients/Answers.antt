use Rattle.std.proofs.Common.{ℕ, length, OnOk, sym, ap, ◌∙◌, subst}
use Rattle.systems.specs.Held.{shown_by}
use Rattle.systems.specs.Stores.{bare}
use Rattle.systems.specs.Outline.{working, outlining, row_sum, coefficients, KeepsValue}
use Rattle.systems.proofs.Views.{rows_long}
use Rattle.systems.proofs.Coefficients.{Shaped, shaped, on_ok, outlined_so}
use Rattle.systems.proofs.setup.Setup.coefficients.Goals as goal

pub returns : goal.returns
returns g c =
    let v = c.args.self.now in
    let s = v.store in
    let r = c.write_out.result in
    let i = c.args.row in
    let which = c.args.part in
    let os = c.args.out.now in
    let qs = c.write_out.new.out in
    let e = c.write_out.ensures in
    let o : OnOk r (Shaped s which i os qs) = on_ok r (shaped s which i os qs) (outlined_so (bare s) which i os qs r v.fit v.ordered e.done e.written) in
    record {
      done = e.done ∙ ap (λ (n : ℕ). outlining n (working (bare s)) i (length os)) (sym (rows_long (bare s)));
      refused = e.refused;
      written = on_ok r (λ (o : Shaped s which i os qs). o.written ∙ ap (λ (p : ℕ). coefficients p (shown_by v) (row_sum which i (shown_by v))) v.prime) o;
      keeps = on_ok r (λ (o : Shaped s which i os qs). subst (λ (p : ℕ). KeepsValue p (shown_by v) (row_sum which i (shown_by v)) qs) v.prime o.keeps) o;
      beyond = on_ok r (λ (o : Shaped s which i os qs). o.beyond) o;
    }
