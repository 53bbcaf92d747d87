use Rattle.std.proofs.Common.{ℕ, List, length, sym, ◌∙◌, ap, leb-false, leb-true}
use Rattle.relations.specs.declared.term.Term.{Term}
use Rattle.words.specs.Words.{whole}
use Rattle.systems.specs.Stores.{bare}
use Rattle.systems.proofs.Calls.{each_known, row_terms_full}
use Rattle.systems.proofs.store.Store.sizes.Goals as goal

pub returns-then-not-takes : goal.returns-then-not-takes
returns-then-not-takes c =
    let n = c.sizes-sizes in
    let long = λ (x : List Term). ap (λ (p : ℕ). length (whole p x)) c.requires.modulus in
    row_terms_full (bare c.args.self.now) c.args.row.a.now c.args.row.b.now c.args.row.c.now n.result.a n.result.b n.result.c c.requires.laid (sym c.if-not-has_row.ensures) (n.ensures.a ∙ long c.args.row.a.now) (n.ensures.b ∙ long c.args.row.b.now) (n.ensures.c ∙ long c.args.row.c.now) (leb-false _ _ (sym c.if-not-takes.ensures))

pub returns : goal.returns
returns c =
    let n = c.sizes-sizes in
    let long = λ (x : List Term). ap (λ (p : ℕ). length (whole p x)) c.requires.modulus in
    let known = each_known (bare c.args.self.now) c.args.row.a.now c.args.row.b.now c.args.row.c.now (sym c.if-not-has_row.ensures) in
    record {
      a_known = known.0;
      b_known = known.1;
      c_known = known.2;
      a_long = n.ensures.a ∙ long c.args.row.a.now;
      b_long = n.ensures.b ∙ long c.args.row.b.now;
      c_long = n.ensures.c ∙ long c.args.row.c.now;
      room = leb-true _ _ (sym c.if-not-takes.ensures);
    }
