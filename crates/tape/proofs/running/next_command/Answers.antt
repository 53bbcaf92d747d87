use Rattle.std.proofs.Common.{vec_items, Result, sym, refl, ap}
use Rattle.command.specs.declared.fault.TapeFault.{TapeFault}
use Rattle.readings.specs.State.{State}
use Rattle.readings.specs.Runs.{decided}
use Rattle.tape.specs.State.{state_of}
use Rattle.tape.proofs.Tapes.{noted, unnoted}
use Rattle.tape.proofs.running.next_command.Goals as goal

pub returns-in-Err : goal.returns-in-Err
returns-in-Err g c =
    let s = state_of g.S.System.meaning c.args.circuit.now in
    let d = c.in-Some.next in
    record {
      adds = c.execute.ensures.adds;
      does = (
        d,
        sym c.in-Some.ensures,
        refl,
        λ h k.
            let st = c.in-Err.ensures.runs h k in (
              st.running,
              noted c.args.number (decided g.F.Field.modulus d.command s) c.in-Err.fault c.new-in-Err.result (vec_items c.args.refused.now) (vec_items c.reserve.new.self) (vec_items c.push_reserved-in-Err.new.self) st.outcome c.new-in-Err.ensures.command c.new-in-Err.ensures.refusal c.reserve.ensures.items c.push_reserved-in-Err.ensures.items,
            ),
        ap (λ (z : Result (Unit {0}) TapeFault × State). z.1) (sym c.in-Err.ensures.does),
      );
    }

pub returns-in_default-execute-clause-does : goal.returns-in_default-execute-clause-does
returns-in_default-execute-clause-does g c =
    let s = state_of g.S.System.meaning c.args.circuit.now in
    let d = c.in-Some.next in (
      d,
      sym c.in-Some.ensures,
      refl,
      λ h k.
          let st = c.in_default-execute.ensures.runs h k in (
            st.running,
            unnoted c.args.number (decided g.F.Field.modulus d.command s) (vec_items c.args.refused.now) (vec_items c.reserve.new.self) st.outcome c.reserve.ensures.items,
          ),
      ap (λ (z : Result (Unit {0}) TapeFault × State). z.1) (sym c.in_default-execute.ensures.does),
    )
