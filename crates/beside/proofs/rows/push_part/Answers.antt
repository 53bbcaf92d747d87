use Rattle.std.proofs.Common.{◌+◌, length, sym, arith}
use Rattle.std.proofs.lemmas.List.{length-take-le}
use Rattle.systems.specs.Held.{shown_by}
use Rattle.systems.specs.Stores.{bare}
use Rattle.systems.specs.Outline.{working}
use Rattle.systems.proofs.Outline.{outlining_done}
use Rattle.systems.proofs.Shown.{shown_inputs, shown_witnesses}
use Rattle.beside.proofs.rows.push_part.Goals as goal

pub overflow_add-inputs : goal.overflow_add-inputs
overflow_add-inputs g c =
    let v = c.args.system.now in
    omega (arith, v.fit.inputs_in, v.fit.input_limit, shown_inputs v.store, c.counts-inputs.ensures.inputs)

pub overflow_add-inputs-2 : goal.overflow_add-inputs-2
overflow_add-inputs-2 g c =
    let v = c.args.system.now in
    omega (arith, v.fit.inputs_in, v.fit.input_limit, v.fit.witnesses_in, v.fit.witness_limit, shown_inputs v.store, shown_witnesses v.store, c.counts-inputs.ensures.inputs, c.counts-inputs.ensures.witnesses)

pub slice_bounds-push_sum-end : goal.slice_bounds-push_sum-end
slice_bounds-push_sum-end g c =
    let v = c.args.system.now in
    let long = (outlining_done (length (shown_by v).rows) (working (bare v.store)) c.args.row (length c.args.words.now) c.in_ok-coefficients.ensures.done).1 in
    omega (arith, long, c.coefficients.auto.out, shown_inputs v.store, shown_witnesses v.store, c.counts-inputs.ensures.inputs, c.counts-inputs.ensures.witnesses)

pub slice_bounds-push_sum-end-2 : goal.slice_bounds-push_sum-end-2
slice_bounds-push_sum-end-2 g c =
    let counts = c.counts-inputs.result in
    sym (length-take-le (1 + counts.inputs + counts.witnesses) c.coefficients.new.out (slice_bounds-push_sum-end g c))
