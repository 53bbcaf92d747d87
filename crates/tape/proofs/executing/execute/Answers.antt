use Rattle.std.proofs.Common.{subst, ◌≡◌, Ok, Err, Result, sym, ap, ◌∙◌}
use Rattle.std.proofs.lemmas.Result.{err_from_is_err_and}
use Rattle.relations.specs.Script.{over}
use Rattle.command.specs.declared.fault.TapeFault.{TapeFault}
use Rattle.command.specs.Decide.{checked}
use Rattle.command.specs.Answers.{kinds}
use Rattle.tape.specs.Book.{held_by, places_of}
use Rattle.tape.specs.State.{state_of}
use Rattle.readings.specs.State.{state, executed}
use Rattle.command.specs.Listed.{listed}
use Rattle.relations.specs.Meaning.{Leaves}
use Rattle.readings.specs.Runs.{Unchanged}
use Rattle.tape.proofs.Executes.{unfit, ranges_short, accepted, refused, places_left, extended, next_of}
use Rattle.tape.proofs.executing.execute.Goals as goal

pub returns-in_err-check-clause-does : goal.returns-in_err-check-clause-does
returns-in_err-check-clause-does g c =
    let p = g.F.Field.modulus in
    let b = c.args.circuit.now.book in
    let m = g.S.System.meaning c.args.circuit.now.system in
    let bad : ◌≡◌ {A = Result (Unit {0}) TapeFault} (Err c.in_err-check.field-0.0) (over (λ _. tt) (checked c.args.command (kinds (held_by b)) (places_of b))) =
    c.in_err-check.ensures ∙ ap (λ k. over (λ _. tt) (checked c.args.command (kinds (held_by b)) k)) c.places-places.ensures in
    let q = err_from_is_err_and c.from_residual.result c.from_residual.ensures.1 in
    unfit p c.args.command m (held_by b) (places_of b) c.in_err-check.field-0.0 bad ∙ ap (λ r. (r, state m (held_by b) (places_of b))) (sym (q.1 ∙ ap Err q.2))

pub returns-in_err-check-clause-runs : goal.returns-in_err-check-clause-runs
returns-in_err-check-clause-runs g c =
    let l = g.F.Field.laws in
    next_of g.F.Field.modulus l.prime l.odd c.args.command _ _ _ (returns-in_err-check-clause-does g c)

pub returns-in_err-answers-clause-does : goal.returns-in_err-answers-clause-does
returns-in_err-answers-clause-does g c =
    let p = g.F.Field.modulus in
    let b = c.args.circuit.now.book in
    let m = g.S.System.meaning c.args.circuit.now.system in
    let n = g.S.System.meaning c.perform.new.cs in
    let ok : ◌≡◌ {A = Result (Unit {0}) TapeFault} (Ok tt) (over (λ _. tt) (checked c.args.command (kinds (held_by b)) (places_of b))) =
    c.in_ok-check.ensures ∙ ap (λ k. over (λ _. tt) (checked c.args.command (kinds (held_by b)) k)) c.places-places.ensures in
    let ran = c.in_err-answers.ensures.does in
    let q = err_from_is_err_and c.from_residual-in_err-answers.result c.from_residual-in_err-answers.ensures.1 in
    refused p c.args.command m n (held_by b) c.in_err-answers.field-0.0 (places_of b) ok ran ∙ ap (λ r. (r, state n (held_by b) (places_of b))) (sym (q.1 ∙ ap Err q.2))

pub returns-in_err-answers-clause-runs : goal.returns-in_err-answers-clause-runs
returns-in_err-answers-clause-runs g c =
    let l = g.F.Field.laws in
    next_of g.F.Field.modulus l.prime l.odd c.args.command _ _ _ (returns-in_err-answers-clause-does g c)

pub returns : goal.returns
returns g c =
    let p = g.F.Field.modulus in
    let l = g.F.Field.laws in
    let b = c.args.circuit.now.book in
    let m = g.S.System.meaning c.args.circuit.now.system in
    let n = g.S.System.meaning c.perform.new.cs in
    let os = listed c.in_ok-answers.answers in
    let s = state_of g.S.System.meaning c.args.circuit.now in
    let t = state_of g.S.System.meaning (record { system = c.perform.new.cs; book = c.extend.new.self }) in
    let ok : ◌≡◌ {A = Result (Unit {0}) TapeFault} (Ok tt) (over (λ _. tt) (checked c.args.command (kinds (held_by b)) (places_of b))) =
    c.in_ok-check.ensures ∙ ap (λ k. over (λ _. tt) (checked c.args.command (kinds (held_by b)) k)) c.places-places.ensures in
    let ran = c.in_ok-answers.ensures.does in
    let room = places_left p l.prime l.odd c.args.command m n (held_by b) os (places_of b) ok ran in
    let e = extended (held_by b) os c.as_slice.result.now (held_by c.extend.new.self) (places_of b) c.extend.result c.as_slice.ensures room c.extend.ensures.extended c.extend.ensures.holds in
    let does : executed p c.args.command s ≡ (c.extend.result, t) =
    accepted p c.args.command m n (held_by b) (held_by c.extend.new.self) os (places_of b) (places_of c.extend.new.self) ok ran e.1 c.extend.ensures.places ∙ ap (λ r. (r, t)) (sym e.0) in
    record {
      does = does;
      adds = c.in_ok-answers.ensures.adds;
      leaves = subst (λ (r : Result (Unit {0}) TapeFault). Leaves r (g.S.System.stored c.args.circuit.now.system) (g.S.System.stored c.perform.new.cs)) (sym e.0) tt;
      unchanged = subst (λ (r : Result (Unit {0}) TapeFault). Unchanged r s t) (sym e.0) tt;
      runs = next_of p l.prime l.odd c.args.command s t c.extend.result does;
    }

pub perform-requires : goal.perform-requires
perform-requires g c =
    let b = c.args.circuit.now.book in
    let ok : ◌≡◌ {A = Result (Unit {0}) TapeFault} (Ok tt) (over (λ _. tt) (checked c.args.command (kinds (held_by b)) (places_of b))) =
    c.in_ok-check.ensures ∙ ap (λ k. over (λ _. tt) (checked c.args.command (kinds (held_by b)) k)) c.places-places.ensures in
    ranges_short g.F.Field.modulus c.args.command (held_by b) (places_of b) ok
