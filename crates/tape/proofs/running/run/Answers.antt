use Rattle.std.proofs.Common.{◌≡◌, ℕ, ◌+◌, ◌<◌, ◌≤◌, [], length, drop, Some, None, Ok, Option, vec_items, Result, sym, refl, ap, subst, arith, length-drop, rules}
use Rattle.std.proofs.lemmas.Result.{err_from_is_err_and}
use Rattle.std.specs.declared.alloc.AllocError.{AllocError}
use Rattle.relations.proofs.Added.{adds_nothing, adds_both}
use Rattle.readings.specs.Runs.{History, Running}
use Rattle.readings.proofs.Step.{running_begins, promised}
use Rattle.tape.specs.State.{state_of}
use Rattle.tape.specs.Tape.{Next, Taped}
use Rattle.tape.proofs.Primes.{above_two}
use Rattle.tape.proofs.Tapes.{decoded_there, left_is, known_next, begun, gone_on, unknown_end, tape_end, limit_end, memory_end}
use Rattle.tape.proofs.running.run.Goals as goal

pub loop-number-init : goal.loop-number-init
loop-number-init g c = (0, refl, adds_nothing g.S.System.meaning g.S.System.stored g.S.System.knows c.args.circuit.now.system, λ h k. begun g.F.Field.modulus c.args.tape.now h _ _ k)

pub returns-then-is_empty : goal.returns-then-is_empty
returns-then-is_empty g c =
    let p = g.F.Field.modulus in
    let l = g.F.Field.laws in
    let two = above_two p l.prime l.odd in
    let s = state_of g.S.System.meaning c.args.circuit.now in
    let v = c.loop-number.invariant in
    let empty : length c.loop-number.rest.now ≡ 0 = search rules in
    let past : length c.args.tape.now ≤ v.0 = omega (arith, length-drop v.0 c.args.tape.now, ap length v.1, empty) in
    let ends = λ (h : History) (k : Running p h s). tape_end {E = AllocError} p c.args.most c.args.tape.now (promised p l.prime two) h s (state_of g.S.System.meaning c.loop-number.circuit) v.0 c.loop-number.number (vec_items c.args.refused.now) (vec_items c.loop-number.refused) c.loop-number.auto.number-end past (v.3 h k) in
    record { adds = v.2; runs = ends; fresh = λ f e. ends [] (running_begins p l.prime two s f e) }

pub returns-in_err-length : goal.returns-in_err-length
returns-in_err-length g c =
    let p = g.F.Field.modulus in
    let l = g.F.Field.laws in
    let two = above_two p l.prime l.odd in
    let s = state_of g.S.System.meaning c.args.circuit.now in
    let t = state_of g.S.System.meaning c.next_command.new.circuit in
    let v = c.loop-number.invariant in
    let n = c.in_err-length.ensures in
    let q = err_from_is_err_and c.from_residual.result c.from_residual.ensures.1 in
    let ends = λ (h : History) (k : Running p h s). subst (λ (r : Result ℕ AllocError). Taped {E = AllocError} p c.args.most c.args.tape.now h s t r (vec_items c.args.refused.now) (vec_items c.next_command.new.refused)) (sym q.1)
    (memory_end {E = AllocError} p c.args.most c.args.tape.now (promised p l.prime two) h s (state_of g.S.System.meaning c.loop-number.circuit) t v.0 c.loop-number.number q.0 (vec_items c.args.refused.now) (vec_items c.loop-number.refused) (vec_items c.next_command.new.refused) c.loop-number.auto.number-end n.does.0 n.does.1 (v.3 h k)) in
    record { adds = adds_both v.2 n.adds; runs = ends; fresh = λ f e. ends [] (running_begins p l.prime two s f e) }

pub returns-in_default : goal.returns-in_default
returns-in_default g c =
    let p = g.F.Field.modulus in
    let l = g.F.Field.laws in
    let two = above_two p l.prime l.odd in
    let s = state_of g.S.System.meaning c.args.circuit.now in
    let m = state_of g.S.System.meaning c.loop-number.circuit in
    let t = state_of g.S.System.meaning c.next_command.new.circuit in
    let v = c.loop-number.invariant in
    let n = c.in_ok-length.ensures in
    let filled : 0 < length c.loop-number.rest.now = search rules in
    let before : v.0 < length c.args.tape.now = omega (arith, length-drop v.0 c.args.tape.now, ap length v.1, filled) in
    let step : Next {E = AllocError} p (drop v.0 c.args.tape.now) c.loop-number.number m t (Ok None) (vec_items c.loop-number.refused) (vec_items c.next_command.new.refused) =
    known_next AllocError p v.0 c.loop-number.number c.args.tape.now c.loop-number.rest.now m t c.in_ok-length.field-0 None (vec_items c.loop-number.refused) (vec_items c.next_command.new.refused) v.1 c.in_default.is n.does in
    let ends = λ (h : History) (k : Running p h s). unknown_end {E = AllocError} p c.args.most c.args.tape.now (promised p l.prime two) h s m t v.0 c.loop-number.number (vec_items c.args.refused.now) (vec_items c.loop-number.refused) (vec_items c.next_command.new.refused) c.loop-number-test.true before step (v.3 h k) in
    record { adds = adds_both v.2 n.adds; runs = ends; fresh = λ f e. ends [] (running_begins p l.prime two s f e) }

pub loop-number-preserved : goal.loop-number-preserved
loop-number-preserved g c =
    let p = g.F.Field.modulus in
    let m = state_of g.S.System.meaning c.loop-number.circuit in
    let t = state_of g.S.System.meaning c.next_command.new.circuit in
    let v = c.loop-number.invariant in
    let n = c.in_ok-length.ensures in
    let step : Next {E = AllocError} p (drop v.0 c.args.tape.now) c.loop-number.number m t (Ok (Some c.in-Some.length)) (vec_items c.loop-number.refused) (vec_items c.next_command.new.refused) =
    known_next AllocError p v.0 c.loop-number.number c.args.tape.now c.loop-number.rest.now m t c.in_ok-length.field-0 (Some c.in-Some.length) (vec_items c.loop-number.refused) (vec_items c.next_command.new.refused) v.1 c.in-Some.is n.does in (
      v.0 + c.in-Some.length,
      left_is v.0 c.in-Some.length c.args.tape.now c.loop-number.rest.now v.1,
      (adds_both v.2 n.adds),
      λ h r. gone_on AllocError p c.args.tape.now h (state_of g.S.System.meaning c.args.circuit.now) m t v.0 c.loop-number.number c.in-Some.length (vec_items c.args.refused.now) (vec_items c.loop-number.refused) (vec_items c.next_command.new.refused) step (v.3 h r),
    )

pub returns : goal.returns
returns g c =
    let p = g.F.Field.modulus in
    let l = g.F.Field.laws in
    let two = above_two p l.prime l.odd in
    let s = state_of g.S.System.meaning c.args.circuit.now in
    let v = c.loop-number.invariant in
    let full : c.loop-number.number ≡ c.args.most = omega arith in
    let ends = λ (h : History) (k : Running p h s). subst (λ (r : ℕ). Taped {E = AllocError} p c.args.most c.args.tape.now h s (state_of g.S.System.meaning c.loop-number.circuit) (Ok r) (vec_items c.args.refused.now) (vec_items c.loop-number.refused)) full (limit_end {E = AllocError} p c.args.most c.args.tape.now (promised p l.prime two) h s (state_of g.S.System.meaning c.loop-number.circuit) v.0 c.loop-number.number (vec_items c.args.refused.now) (vec_items c.loop-number.refused) c.loop-number.auto.number-end c.loop-number-test.false (v.3 h k)) in
    record { adds = v.2; runs = ends; fresh = λ f e. ends [] (running_begins p l.prime two s f e) }

pub slice_bounds-rest-count : goal.slice_bounds-rest-count
slice_bounds-rest-count g c =
    let step : Next {E = AllocError} g.F.Field.modulus c.loop-number.rest.now c.loop-number.number (state_of g.S.System.meaning c.loop-number.circuit) (state_of g.S.System.meaning c.next_command.new.circuit) (Ok (Some c.in-Some.length)) (vec_items c.loop-number.refused) (vec_items c.next_command.new.refused) =
    subst (λ (x : Option ℕ). Next {E = AllocError} g.F.Field.modulus c.loop-number.rest.now c.loop-number.number (state_of g.S.System.meaning c.loop-number.circuit) (state_of g.S.System.meaning c.next_command.new.circuit) (Ok x) (vec_items c.loop-number.refused) (vec_items c.next_command.new.refused)) c.in-Some.is c.in_ok-length.ensures.does in
    omega (arith, decoded_there c.loop-number.rest.now step.0 step.1, step.2)

pub slice_bounds-rest-start : goal.slice_bounds-rest-start
slice_bounds-rest-start g c = slice_bounds-rest-count g c
