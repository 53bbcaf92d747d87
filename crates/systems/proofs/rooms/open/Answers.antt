use Rattle.std.proofs.Common.{◌<◌, length, refl, sym, ap, ◌∙◌, subst, arith}
use Rattle.arith.proofs.Bits.{pos_of_prime}
use Rattle.words.specs.State.{State, Fit, view, words_of}
use Rattle.systems.specs.Order.{Ordered}
use Rattle.systems.proofs.Openings.{fresh_fit, fresh_ordered, fresh_words, opens}
use Rattle.systems.proofs.rooms.open.Goals as goal

pub invariant_of-result : goal.invariant_of-result
invariant_of-result g c =
    let o = c.in_ok-store.ensures in
    let p = c.characteristic.result in
    let pos : 0 < p = omega (arith, pos_of_prime g.F.Field.laws.prime, c.characteristic.ensures) in
    let low : p < 4294967296 = omega (arith, g.F.Field.laws.small, c.characteristic.ensures) in
    record {
      prime = ap (λ (u : State). u.modulus) (o.is c.args.values.now) ∙ c.characteristic.ensures;
      fit = subst Fit (sym (o.is c.args.values.now)) (fresh_fit p c.args.rooms c.args.terms.now c.args.rows.now c.args.values.now pos low (sym c.if-not-small.ensures) o.fits c.if-values-rooms.false);
      ordered = subst Ordered (sym (o.is c.args.values.now)) (fresh_ordered p c.args.rooms c.args.terms.now c.args.rows.now c.args.values.now);
    }

pub returns : goal.returns
returns g c =
    let o = c.in_ok-store.ensures in
    let r = c.args.rooms in
    let ts = c.args.terms.now in
    let rs = c.args.rows.now in
    let words = fresh_words c.characteristic.result r ts rs c.args.values.now in
    record {
      fits = opens r (length c.args.values.now) (length ts) (length rs) (sym c.if-not-small.ensures) c.if-values-rooms.false o.fits;
      prime = ap (λ (u : State). u.modulus) (o.is c.args.values.now) ∙ c.characteristic.ensures;
      means = ap view (o.is c.args.values.now);
      stored = ap words_of (o.is c.args.values.now) ∙ words;
      values = refl;
      terms = ap (λ (u : State). u.term_words) (o.is c.args.values.now);
      rows = ap (λ (u : State). u.row_words) (o.is c.args.values.now);
    }
