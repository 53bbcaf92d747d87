use Rattle.std.proofs.Common.{◌≡◌, ◌<◌, ◌≤◌, length, Err, sym, ◌∙◌, subst, leb-false, leb-true, rules}
use Rattle.written.specs.declared.Counts.{Counts}
use Rattle.written.specs.Cells.{cells}
use Rattle.systems.specs.declared.rooms.OutlineFault.TheVariants.{TooShort}
use Rattle.systems.specs.Stores.{bare}
use Rattle.systems.proofs.Outline.{part_lies_read, part_written, no_such_row, too_short, written_out_fits}
use Rattle.systems.proofs.store.Store.write_out.Goals as goal

pub returns-then-row-self-clause-done : goal.returns-then-row-self-clause-done
returns-then-row-self-clause-done c = no_such_row (bare c.args.self.now) c.args.row (length c.args.out.now) c.if-row-self.true

pub write_out-requires : goal.write_out-requires
write_out-requires c =
    let which = c.args.part in
    part_lies_read (bare c.args.self.now) which c.args.row c.place-at.result c.writer.result.terms.now c.place-at.ensures c.writer.ensures.terms c.requires c.if-row-self.false

pub returns-in_err-write_out-clause-done : goal.returns-in_err-write_out-clause-done
returns-in_err-write_out-clause-done c =
    let l : length c.args.out.now < cells c.writer.result.counts = leb-false _ _ (sym c.in_err-write_out.ensures.room) in
    let is : c.from_residual.result ≡ Err TooShort = search rules in
    is ∙ too_short (bare c.args.self.now) c.args.row (length c.args.out.now) c.if-row-self.false (subst (λ (n : Counts). length c.args.out.now < cells n) c.writer.ensures.counts l)

pub returns : goal.returns
returns c =
    let s = bare c.args.self.now in
    let l : cells c.writer.result.counts ≤ length c.args.out.now = leb-true _ _ (sym c.in_ok-write_out.ensures.room) in
    let which = c.args.part in
    record {
      done = written_out_fits s c.args.row (length c.args.out.now) c.if-row-self.false (subst (λ (n : Counts). cells n ≤ length c.args.out.now) c.writer.ensures.counts l);
      refused = tt;
      written = part_written s which c.args.row c.place-at.result c.writer.result c.args.out.now c.write_out.new.out c.place-at.ensures c.writer.ensures c.write_out.auto.out c.in_ok-write_out.ensures.written c.in_ok-write_out.ensures.keeps;
    }
