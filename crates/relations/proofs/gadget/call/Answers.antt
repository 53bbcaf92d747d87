use Rattle.std.proofs.Common.{Ok, sym, ap, ◌∙◌}
use Rattle.relations.specs.Script.{restored}
use Rattle.relations.proofs.Undone.{Marks, undone, never_stuck, system_back, words_back, begins_refl, same_begins}
use Rattle.relations.proofs.gadget.call.Goals as goal

pub returns-in-Ok : goal.returns-in-Ok
returns-in-Ok g c =
    let m = g.S.System.meaning c.args.cs.now in
    let n = g.S.System.meaning c.keep.new.self in
    record {
      does = ap (λ x. restored m x.0 x.1) c.in-Ok.ensures.does ∙ ap (λ x. (Ok c.in-Ok.answer, x)) (sym c.keep.ensures.does);
      adds = record {
        words = λ l u h. same_begins _ _ l _ _ u c.keep.ensures.does c.keep.ensures.leaves (c.in-Ok.ensures.adds.words l u h);
        knowing = λ h. c.keep.ensures.knowing (c.in-Ok.ensures.adds.knowing h);
      };
      leaves = tt;
    }

pub returns-in_ok-rewind-in-Err : goal.returns-in_ok-rewind-in-Err
returns-in_ok-rewind-in-Err g c =
    let start = c.mark-mark.ensures in
    let p = g.F.Field.modulus in
    let s = g.G.Gadget.model c.args.gadget.now in
    let m = g.S.System.meaning c.args.cs.now in
    let n = g.S.System.meaning c.steps.new.cs in
    let o = g.S.System.meaning c.rewind.new.self in
    let t = g.S.System.stored c.args.cs.now in
    let k = c.mark-mark.result in
    let at : Marks m k.inputs k.witnesses k.combinations k.rows =
    record { inputs = start.inputs; witnesses = start.witnesses; combos = start.combinations; rows = start.rows } in
    let begun = c.in-Err.ensures.adds.words m t (begins_refl m t start.words) in
    let ran = c.in-Err.ensures.does in
    let re = c.in_ok-rewind-in-Err.ensures.does in
    let same = words_back p s m n o c.in-Err.fault (Ok tt) k.inputs k.witnesses k.combinations k.rows t (g.S.System.stored c.steps.new.cs) (g.S.System.stored c.rewind.new.self) start.sane at ran re begun c.in_ok-rewind-in-Err.ensures.cuts in
    record {
      does = undone p s m n o c.in-Err.fault (Ok tt) k.inputs k.witnesses k.combinations k.rows start.sane at ran re;
      adds = record {
        words = λ l u h. same_begins m o l t (g.S.System.stored c.rewind.new.self) u (system_back p s m n o c.in-Err.fault (Ok tt) k.inputs k.witnesses k.combinations k.rows start.sane at ran re) same h;
        knowing = λ h. c.in_ok-rewind-in-Err.ensures.knowing (c.in-Err.ensures.adds.knowing h);
      };
      leaves = same;
    }

pub returns-in_err-rewind-in-Err : goal.returns-in_err-rewind-in-Err
returns-in_err-rewind-in-Err g c =
    let start = c.mark-mark.ensures in
    let m = g.S.System.meaning c.args.cs.now in
    let k = c.mark-mark.result in
    let at : Marks m k.inputs k.witnesses k.combinations k.rows =
    record { inputs = start.inputs; witnesses = start.witnesses; combos = start.combinations; rows = start.rows } in
    absurd (never_stuck g.F.Field.modulus (g.G.Gadget.model c.args.gadget.now) m (g.S.System.meaning c.steps.new.cs) (g.S.System.meaning c.rewind.new.self) c.in-Err.fault c.in_err-rewind-in-Err.field-0.0 k.inputs k.witnesses k.combinations k.rows start.sane at c.in-Err.ensures.does c.in_err-rewind-in-Err.ensures.does)
