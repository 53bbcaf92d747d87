use Rattle.systems.specs.Stores.{bare}
use Rattle.systems.proofs.Readers.{row_read}
use Rattle.systems.proofs.store.Store.row.Goals as goal

pub returns : goal.returns
returns c = row_read (bare c.args.self.now) c.rows.result c.row.result c.args.i c.rows.ensures c.row.ensures.a c.row.ensures.b c.row.ensures.c
