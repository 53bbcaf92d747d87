use borrow.Author.Tests.{tests}
use Rattle.std.proofs.Common.{ℕ, List, get_or, ◌∙◌, rules}
use Rattle.std.proofs.lemmas.Iterator.Adapters.{YieldsList-from_rev_slice}
use Rattle.std.proofs.lemmas.Iterator.Search.{all_from_yields_List}
use Rattle.relations.specs.Sum.{code_in}
use Rattle.words.proofs.Each.{all_back, all_in_each}
use Rattle.words.proofs.scan.Bounds.has_all.Goals as goal

pub returns : goal.returns
returns c =
    all_from_yields_List (λ (t : List ℕ). code_in c.args.self.inputs c.args.self.witnesses c.args.self.places (get_or t 0 0)) _ _ _ c.all.ensures.ran (YieldsList-from_rev_slice c.args.terms.now (cc)) (λ x b q k. search (rules, tests))
    ∙ all_back (λ (t : List ℕ). code_in c.args.self.inputs c.args.self.witnesses c.args.self.places (get_or t 0 0)) c.args.terms.now
    ∙ all_in_each _ _ _ c.args.terms.now
