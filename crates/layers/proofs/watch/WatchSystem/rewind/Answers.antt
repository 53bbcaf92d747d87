use Rattle.std.proofs.Common.{Option, ℕ, sym, subst}
use Rattle.layers.specs.Watched.{Watched}
use Rattle.layers.proofs.Watched.{watched_cut}
use Rattle.layers.proofs.watch.WatchSystem.rewind.Goals as goal

pub returns-clause-knowing : goal.returns-clause-knowing
returns-clause-knowing g c k = (
  c.rewind.ensures.knowing k.0,
  subst (λ (u : Option ℕ). Watched g.F.Field.modulus u (g.S.System.meaning c.rewind.new.self)) (sym c.among-self.ensures)
      (watched_cut g.F.Field.modulus c.row_count.result c.args.self.now.unmet c.args.mark.inputs c.args.mark.witnesses c.args.mark.combinations c.args.mark.rows _ _ _ c.in_ok-rewind.ensures.does c.row_count.ensures.count c.row_count.ensures.local k.1),
)
