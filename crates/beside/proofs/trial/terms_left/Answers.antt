use Rattle.std.proofs.Common.{sym, ◌∙◌, arith}
use Rattle.beside.proofs.Room.{refused_full, takes_one}
use Rattle.beside.proofs.trial.terms_left.Goals as goal

pub returns-then-is_err : goal.returns-then-is_err
returns-then-is_err g c =
    let m = g.S.System.meaning c.loop-count.system in
    let n = g.S.System.meaning c.new_lc.new.self in
    let full = refused_full g.F.Field.modulus m n c.new_lc.result c.new_lc.ensures.does (sym c.is_err.ensures.value ∙ c.if-is_err.true) in
    omega (arith, full, c.loop-count.invariant.room, c.loop-count.invariant.more, c.loop-count.invariant.within)

pub loop-count-preserved : goal.loop-count-preserved
loop-count-preserved g c =
    let m = g.S.System.meaning c.loop-count.system in
    let n = g.S.System.meaning c.new_lc.new.self in
    let one = takes_one g.F.Field.modulus m n c.new_lc.result c.new_lc.ensures.does (sym c.is_err.ensures.value ∙ c.if-is_err.false) in
    let was = c.loop-count.invariant in
    record {
      room = one.room ∙ was.room;
      more = omega (arith, one.more, was.more);
      within = omega (arith, one.within, was.room, was.more);
    }

pub returns : goal.returns
returns g c = omega (arith, c.loop-count.invariant.within)
