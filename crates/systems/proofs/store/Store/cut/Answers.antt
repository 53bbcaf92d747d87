use Rattle.std.proofs.Common.{◌≡◌, true, false, refl, sym, ◌∙◌}
use Rattle.words.specs.Words.{combinations, lists_in, rows, triples_in}
use Rattle.systems.specs.Stores.{bare}
use Rattle.systems.proofs.Rewinds.{long_inputs, long_witnesses, long_lcs, long_rows, names_cut, verdict, Firsts, firsts}
use Rattle.systems.proofs.store.Store.cut.Goals.{then-to-self-via-then-to-self, then-to-self-via-else-to-self+then-to-self-2, then-to-self-via-else-to-self+else-to-self-2+then-to-self-3, then-to-self-via-else-to-self+else-to-self-2+else-to-self-3+then-to-self-4, then-not-has_combinations-via-then-not-has_combinations, then-not-has_combinations-via-else-not-has_combinations+then-not-has_rows}
use Rattle.systems.proofs.store.Store.cut.Goals as goal

pub returns-then-to-self : goal.returns-then-to-self
returns-then-to-self c =
    let s = bare c.args.self.now in
    let t = c.args.to in (
      refl,
      elim c.then-to-self.branch [
        | then-to-self-via-then-to-self w ↦ long_inputs s t.inputs t.witnesses t.combinations t.rows w.if-to-self.true
        | then-to-self-via-else-to-self+then-to-self-2 w ↦ long_witnesses s t.inputs t.witnesses t.combinations t.rows w.if-to-self.false w.if-to-self-2.true
        | then-to-self-via-else-to-self+else-to-self-2+then-to-self-3 w ↦ long_lcs s t.inputs t.witnesses t.combinations t.rows w.if-to-self.false w.if-to-self-2.false w.if-to-self-3.true
        | then-to-self-via-else-to-self+else-to-self-2+else-to-self-3+then-to-self-4 w ↦ long_rows s t.inputs t.witnesses t.combinations t.rows w.if-to-self.false w.if-to-self-2.false w.if-to-self-3.false w.if-to-self-4.true
      ],
    )

pub returns-then-not-has_combinations : goal.returns-then-not-has_combinations
returns-then-not-has_combinations c =
    let s = bare c.args.self.now in
    let t = c.args.to in
    let d = c.first-combinations in
    let w = c.rows-rows.ensures in
    let first : Firsts s t.combinations d.result.end = firsts s c.combinations.result d.result t.combinations c.requires c.combinations.ensures d.ensures.count d.ensures.words d.ensures.low d.ensures.tagged d.ensures.cut in
    let listed : lists_in t.inputs t.witnesses d.result.end (combinations d.result.left d.result.end d.result.words.now) ≡ lists_in t.inputs t.witnesses d.result.end (combinations t.combinations d.result.end s.term_words) = (λ i. lists_in t.inputs t.witnesses d.result.end (combinations (d.ensures.count i) d.result.end ((d.ensures.words ∙ c.combinations.ensures.words) i))) in
    let rowed : triples_in t.inputs t.witnesses d.result.end (rows t.rows c.rows-rows.result.words.now c.rows-rows.result.terms.now) ≡ triples_in t.inputs t.witnesses d.result.end (rows t.rows s.row_words s.term_words) = (λ i. triples_in t.inputs t.witnesses d.result.end (rows t.rows (w.words i) (w.terms i))) in (
      refl,
      elim c.then-not-has_combinations.branch [
        | then-not-has_combinations-via-then-not-has_combinations x ↦ names_cut s t.inputs t.witnesses t.combinations t.rows d.result.end c.if-to-self.false c.if-to-self-2.false c.if-to-self-3.false c.if-to-self-4.false first.cut first.chain (x.if-not-has_combinations.ensures ∙ listed)
        | then-not-has_combinations-via-else-not-has_combinations+then-not-has_rows x ↦ verdict s t.inputs t.witnesses t.combinations t.rows d.result.end true false c.if-to-self.false c.if-to-self-2.false c.if-to-self-3.false c.if-to-self-4.false first.cut first.chain (x.if-not-has_combinations.ensures ∙ listed) (x.if-not-has_rows.ensures ∙ rowed)
      ],
    )

pub returns : goal.returns
returns c =
    let s = bare c.args.self.now in
    let t = c.args.to in
    let d = c.first-combinations in
    let w = c.rows-rows.ensures in
    let first : Firsts s t.combinations d.result.end = firsts s c.combinations.result d.result t.combinations c.requires c.combinations.ensures d.ensures.count d.ensures.words d.ensures.low d.ensures.tagged d.ensures.cut in
    let listed : lists_in t.inputs t.witnesses d.result.end (combinations d.result.left d.result.end d.result.words.now) ≡ lists_in t.inputs t.witnesses d.result.end (combinations t.combinations d.result.end s.term_words) = (λ i. lists_in t.inputs t.witnesses d.result.end (combinations (d.ensures.count i) d.result.end ((d.ensures.words ∙ c.combinations.ensures.words) i))) in
    let rowed : triples_in t.inputs t.witnesses d.result.end (rows t.rows c.rows-rows.result.words.now c.rows-rows.result.terms.now) ≡ triples_in t.inputs t.witnesses d.result.end (rows t.rows s.row_words s.term_words) = (λ i. triples_in t.inputs t.witnesses d.result.end (rows t.rows (w.words i) (w.terms i))) in
    let named = c.if-not-has_combinations.ensures ∙ listed in
    let rows_named = c.if-not-has_rows.ensures ∙ rowed in
    record {
      i_in = c.if-to-self.false;
      w_in = c.if-to-self-2.false;
      r_in = c.if-to-self-4.false;
      below = first.below;
      chain = first.chain;
      tagged = first.tagged;
      cut = first.cut;
      low_is = c.floor_of.ensures;
      combos_named = sym named;
      rows_named = sym rows_named;
      allowed = verdict s t.inputs t.witnesses t.combinations t.rows d.result.end true true c.if-to-self.false c.if-to-self-2.false c.if-to-self-3.false c.if-to-self-4.false first.cut first.chain named rows_named;
    }
