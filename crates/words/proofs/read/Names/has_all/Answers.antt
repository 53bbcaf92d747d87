use borrow.Author.Tests.{tests}
use Rattle.std.proofs.Common.{◌∙◌, rules}
use Rattle.std.proofs.lemmas.Iterator.{YieldsList-from_slice}
use Rattle.std.proofs.lemmas.Iterator.Search.{all_from_yields_List}
use Rattle.relations.specs.declared.term.Term.{Term}
use Rattle.words.specs.Words.{there}
use Rattle.words.proofs.Each.{all_there_each}
use Rattle.words.proofs.read.Names.has_all.Goals as goal

pub returns : goal.returns
returns c =
    all_from_yields_List (λ (t : Term). there c.args.self.now.inputs c.args.self.now.witnesses c.args.self.now.front c.args.self.now.terms.now t.variable) _ _ _ c.all.ensures.ran (YieldsList-from_slice c.args.ts.now c.iter.ensures.rest) (λ x b q k. search (rules, tests))
    ∙ all_there_each _ _ _ _ c.args.ts.now
