use Rattle.std.proofs.Common.{◌≡◌, ◌+◌, ◌-◌, ◌<◌, true, false, [], ◌∷◌, ◌++◌, length, take, Err, sym, refl, ap, ◌∙◌, arith, rules}
use Rattle.std.proofs.Math.ListN.{length-set}
use Rattle.std.proofs.lemmas.List.{take_more_set}
use Rattle.relations.specs.Script.{run}
use Rattle.relations.proofs.Added.{adds_both}
use Rattle.gates.specs.Walk.{bit_of, fall_script}
use Rattle.gates.proofs.Walks.{walk_joins, walk_falls, walk_stops}
use Rattle.gates.proofs.walk.descend.Goals as goal

pub loop-i-preserved-then-bit_of : goal.loop-i-preserved-then-bit_of
loop-i-preserved-then-bit_of g c =
    let p = g.F.Field.modulus in
    let l = c.loop-i in
    let below : l.i ≡ (l.i - 1) + 1 = omega arith in
    let one : bit_of c.args.element (l.i - 1) ≡ true = search rules in
    let room : l.count < length l.gathered = omega arith in
    record {
      long = length-set l.gathered l.count c.place-bit.result ∙ l.invariant.long;
      room = omega arith;
      does = sym
          (walk_joins p c.args.element (l.i - 1) l.i c.args.bits.now l.last (take l.count l.gathered) _ (g.S.System.meaning l.cs) below one
          (take_more_set l.gathered l.count c.place-bit.result room ∙ ap (λ b. take l.count l.gathered ++ (b ∷ [])) c.place-bit.ensures))
          ∙ l.invariant.does;
      adds = l.invariant.adds;
    }

pub returns-in_err-last-clause-does : goal.returns-in_err-last-clause-does
returns-in_err-last-clause-does g c =
    let p = g.F.Field.modulus in
    let l = c.loop-i in
    let s = g.S.System.meaning l.cs in
    let end = g.S.System.meaning c.fall.new.cs in
    let below : l.i ≡ (l.i - 1) + 1 = omega arith in
    let none : bit_of c.args.element (l.i - 1) ≡ false = search rules in
    let is : c.from_residual.result ≡ Err c.in_err-last.field-0.0 = search rules in
    sym l.invariant.does
    ∙ walk_stops p c.args.element (l.i - 1) l.i c.args.bits.now l.last (take l.count l.gathered) s end c.in_err-last.field-0.0 below none
    ((λ i. run p (fall_script p (take l.count l.gathered) l.last (sym c.place-bit.ensures i)) s) ∙ c.in_err-last.ensures.does)
    ∙ ap (λ r. (r, end)) (sym is)

pub returns-in_err-last-clause-adds : goal.returns-in_err-last-clause-adds
returns-in_err-last-clause-adds g c = adds_both c.loop-i.invariant.adds c.in_err-last.ensures.adds

pub loop-i-preserved : goal.loop-i-preserved
loop-i-preserved g c =
    let p = g.F.Field.modulus in
    let l = c.loop-i in
    let s = g.S.System.meaning l.cs in
    let below : l.i ≡ (l.i - 1) + 1 = omega arith in
    let none : bit_of c.args.element (l.i - 1) ≡ false = search rules in
    record {
      long = search rules;
      room = omega arith;
      does = sym
          (walk_falls p c.args.element (l.i - 1) l.i c.args.bits.now l.last c.in_ok-last.last (take l.count l.gathered) [] s (g.S.System.meaning c.fall.new.cs) below none
          ((λ i. run p (fall_script p (take l.count l.gathered) l.last (sym c.place-bit.ensures i)) s) ∙ c.in_ok-last.ensures.does) refl)
          ∙ l.invariant.does;
      adds = adds_both l.invariant.adds c.in_ok-last.ensures.adds;
    }
