use Rattle.std.proofs.Common.{◌+◌, sym, arith}
use Rattle.std.proofs.lemmas.List.{length-take-le}
use Rattle.systems.specs.Held.{state}
use Rattle.report.proofs.Pages.{width_in}
use Rattle.report.proofs.sheet.Sheet.push_part.Goals as goal

pub overflow_add-inputs : goal.overflow_add-inputs
overflow_add-inputs g c = let v = c.args.self.now.system.now in omega (arith, (width_in (state v) v.fit).1, c.counts-inputs.ensures.inputs)

pub overflow_add-inputs-2 : goal.overflow_add-inputs-2
overflow_add-inputs-2 g c =
    let v = c.args.self.now.system.now in omega (arith, (width_in (state v) v.fit).1, c.counts-inputs.ensures.inputs, c.counts-inputs.ensures.witnesses)

pub slice_bounds-push_sum-end : goal.slice_bounds-push_sum-end
slice_bounds-push_sum-end g c =
    let v = c.args.self.now.system.now in
    let counts = c.counts-inputs.result in
    sym (length-take-le (1 + counts.inputs + counts.witnesses) c.deref.result.now
    (omega (arith, (width_in (state v) v.fit).0, c.counts-inputs.ensures.inputs, c.counts-inputs.ensures.witnesses, c.args.self.now.room, c.deref.ensures.len)))
