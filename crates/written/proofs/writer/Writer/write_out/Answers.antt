use Rattle.std.proofs.Common.{◌++◌, drop, ◌∙◌, subst, arith, rules}
use Rattle.std.proofs.lemmas.List.{length-take-le}
use Rattle.relations.specs.Sum.{Pairs}
use Rattle.words.specs.Words.{pairs}
use Rattle.written.specs.Cells.{written_out, Over, Spread}
use Rattle.written.proofs.Adding.{Cleared, cleared, spread_once}
use Rattle.written.proofs.Going.{over}
use Rattle.written.proofs.Keeps.{cells_keep}
use Rattle.written.proofs.writer.Writer.write_out.Goals as goal

pub returns : goal.returns
returns c =
    let z : Cleared c.args.self.now.counts c.args.out.now (c.fill.new.self ++ drop c.cells-size.result c.args.out.now) = cleared _ _ _ _ _ c.cells-size.ensures (length-take-le _ _ (omega arith)) (c.fill.ensures.after (λ y e. e)) in
    let s : Spread c.args.self.now.modulus c.args.self.now.counts 1 (pairs c.args.start c.args.len c.args.self.now.terms.now) (c.fill.new.self ++ drop c.cells-size.result c.args.out.now) c.add_terms.new.out =
    subst (λ (ts : Pairs). Spread c.args.self.now.modulus c.args.self.now.counts 1 ts (c.fill.new.self ++ drop c.cells-size.result c.args.out.now) c.add_terms.new.out) c.stored_terms.ensures.terms c.add_terms.ensures in
    let o : Over c.args.self.now.counts (written_out c.args.self.now.modulus c.args.self.now.counts c.args.start c.args.len c.args.self.now.terms.now) c.args.out.now c.replace_combinations.new.out =
    over _ _ _ _
    (c.replace_combinations.ensures.holds _ (spread_once _ _ _ _ _ c.args.self.now.nonzero z.zeros s))
    (λ j h. c.replace_combinations.ensures.beyond j h ∙ s.beyond j h ∙ z.beyond j h)
    in
    record {
      room = search rules;
      refused = tt;
      written = o;
      keeps = cells_keep _ _ c.args.start c.args.len _ _ _ c.args.self.now.nonzero c.args.self.now.chain o;
    }
