use Rattle.std.proofs.Common.{sym}
use Rattle.systems.specs.Held.{state}
use Rattle.systems.proofs.Views.{rows_long}
use Rattle.systems.proofs.Rows.{rows_local, rows_fit}
use Rattle.systems.proofs.system.ValuedSystem.row_count.Goals as goal

pub returns : goal.returns
returns g c =
    let s = state c.args.self.now in
    record { count = sym (rows_long s); fit = rows_fit s c.args.self.now.fit; local = rows_local s c.args.self.now.fit }
