use Rattle.std.proofs.Common.{◌+◌, ◌<◌, ◌≤◌, length, sym, ap, ◌∙◌, subst, arith}
use Rattle.arith.proofs.Bits.{pos_of_prime}
use Rattle.words.specs.State.{State, Fit, view, words_of}
use Rattle.systems.specs.Stores.{zeros}
use Rattle.systems.specs.Forgotten.{forgotten, without}
use Rattle.systems.specs.Order.{Ordered}
use Rattle.systems.specs.Blank.{Blank}
use Rattle.systems.proofs.Besides.{zeros_long}
use Rattle.systems.proofs.Openings.{small_sides, fresh_fit, fresh_ordered, fresh_words, opens_setup}
use Rattle.systems.proofs.rooms.open_setup.Goals as goal

pub invariant_of-result : goal.invariant_of-result
invariant_of-result g c =
    let o = c.in_ok-store.ensures in
    let p = c.characteristic.result in
    let pos : 0 < p = omega (arith, pos_of_prime g.F.Field.laws.prime, c.characteristic.ensures) in
    let low : p < 4294967296 = omega (arith, g.F.Field.laws.small, c.characteristic.ensures) in
    let long : c.args.rooms.inputs + c.args.rooms.witnesses ≤ length (zeros 131072) = omega (arith, zeros_long 131072, small_sides c.args.rooms (sym c.if-not-small.ensures)) in
    record {
      prime = ap (λ (u : State). u.modulus) (o.is (zeros 131072)) ∙ c.characteristic.ensures;
      fit = subst Fit (sym (o.is (zeros 131072))) (fresh_fit p c.args.rooms c.args.terms.now c.args.rows.now (zeros 131072) pos low (sym c.if-not-small.ensures) o.fits long);
      ordered = subst Ordered (sym (o.is (zeros 131072))) (fresh_ordered p c.args.rooms c.args.terms.now c.args.rows.now (zeros 131072));
      blank = subst Blank (sym (o.is (zeros 131072))) tt;
    }

pub returns : goal.returns
returns g c =
    let o = c.in_ok-store.ensures in
    let r = c.args.rooms in
    let ts = c.args.terms.now in
    let rs = c.args.rows.now in
    let words = fresh_words c.characteristic.result r ts rs (zeros 131072) in
    record {
      fits = opens_setup r (length ts) (length rs) (sym c.if-not-small.ensures) o.fits;
      prime = ap (λ (u : State). u.modulus) (o.is (zeros 131072)) ∙ c.characteristic.ensures;
      means = ap (λ (u : State). forgotten (view u)) (o.is (zeros 131072));
      stored = ap (λ (u : State). without (words_of u)) (o.is (zeros 131072)) ∙ ap without words;
      terms = ap (λ (u : State). u.term_words) (o.is (zeros 131072));
      rows = ap (λ (u : State). u.row_words) (o.is (zeros 131072));
    }
