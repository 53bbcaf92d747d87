use Rattle.std.proofs.Common.{sym}
use Rattle.systems.specs.Stores.{bare}
use Rattle.systems.proofs.Views.{rows_long}
use Rattle.systems.proofs.Shown.{shown_local, shown_fit}
use Rattle.systems.proofs.setup_calls.SetupSystem.row_count.Goals as goal

pub returns : goal.returns
returns g c =
    let s = c.args.self.now.store in
    record { count = sym (rows_long (bare s)); fit = shown_fit s c.args.self.now.fit; local = shown_local s c.args.self.now.fit }
