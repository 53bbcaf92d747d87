use Rattle.std.proofs.Common.{◌≡◌, ℕ, ◌/◌, ◌*◌, ◌-◌, ◌+◌, length, take, drop, ap, ◌∙◌, arith, rules}
use Rattle.std.specs.Simd.{first_chunks}
use Rattle.std.proofs.lemmas.List.{get_or-take, get_or-drop}
use Rattle.words.specs.Words.{stored}
use Rattle.words.proofs.Worths.{stored_chunks}
use Rattle.words.proofs.read.stored_terms.Goals as goal

pub returns-clause-terms : goal.returns-clause-terms
returns-clause-terms c =
    let n : length (take (2 * (c.args.start + c.args.len) - 2 * c.args.start) (drop (2 * c.args.start) c.args.words.now)) / 2 ≡ c.args.len = search rules in
    ap stored c.as_chunks.ensures.front
    ∙ ap (λ (m : ℕ). stored (first_chunks 2 m (take (2 * (c.args.start + c.args.len) - 2 * c.args.start) (drop (2 * c.args.start) c.args.words.now)))) n
    ∙ stored_chunks c.args.start c.args.len _ c.args.words.now (λ j l. get_or-take (2 * (c.args.start + c.args.len) - 2 * c.args.start) (drop (2 * c.args.start) c.args.words.now) j 0 (omega arith) ∙ get_or-drop (2 * c.args.start) c.args.words.now j 0)
