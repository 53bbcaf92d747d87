use Rattle.std.proofs.Common.{◌≡◌, ◌≢◌, ◌++◌, codes, ap, sym, ◌∙◌, rules, append_assoc}
use Rattle.std.proofs.Output.{has_written_append, has_written_of_eq}
use borrow.Author.Tests.{tests}
use Rattle.report.specs.Text.{term_text, term_texts, more_terms, joined_terms}
use Rattle.report.proofs.Terms.{left, none_left, one_left, zeros_left}
use Rattle.report.proofs.sums.SumDisplay.fmt.Goals as goal

pub returns-in_default-clause-writes : goal.returns-in_default-clause-writes
returns-in_default-clause-writes g c = λ plain ok.
    let inputs = c.args.self.now.inputs in
    let ran = c.in_default.ensures.ran in
    let start : left inputs c.enumerate-indexed.result ≡ term_texts inputs 0 c.args.self.now.coefficients.now = cc in
    let zeros : left inputs c.enumerate-indexed.result ≡ left inputs ran.2.0 = zeros_left _ (λ p x q k. search (rules, tests)) inputs _ ran.0 _ _ ran.1 ran.2.1 ran.3 in
    has_written_of_eq _ _ _ _ _ (ap joined_terms (sym (none_left inputs ran.2.0 _ ran.2.2) ∙ sym zeros ∙ start)) (c.write_str.ensures.writes plain ok)

pub loop-index-init : goal.loop-index-init
loop-index-init g c = λ plain.
    let inputs = c.args.self.now.inputs in
    let ran = c.in-Some.ensures.ran in
    let term = term_text inputs c.in-Some.index c.in-Some.coefficient.now in
    let start : left inputs c.enumerate-indexed.result ≡ term_texts inputs 0 c.args.self.now.coefficients.now = cc in
    let zeros : left inputs c.enumerate-indexed.result ≡ left inputs ran.2.0 = zeros_left _ (λ p x q k. search (rules, tests)) inputs _ ran.0 _ _ ran.1 ran.2.1 ran.3 in
    let some : c.in-Some.coefficient.now ≢ 0 = search (rules, tests) in
    let one = one_left inputs ran.2.0 c.find.new.self (c.in-Some.index, c.in-Some.coefficient) ran.2.2 some in (
      term,
      search rules,
      ap (λ it. term ++ more_terms (left inputs it)) c.into_iter-index-iterator.ensures.into_iter_gives ∙ ap joined_terms (sym one ∙ sym zeros ∙ start),
    )

pub loop-index-preserved-in-Continue-branch-2 : goal.loop-index-preserved-in-Continue-branch-2
loop-index-preserved-in-Continue-branch-2 g c = λ plain.
    let inputs = c.args.self.now.inputs in
    let so_far = c.loop-index.invariant plain in
    let term = term_text inputs c.in-Some-2.index c.in-Some-2.coefficient.now in
    let one = one_left inputs c.loop-index.index-iterator c.next.new.self (c.in-Some-2.index, c.in-Some-2.coefficient) c.in-Some-2.ensures.steps c.if-coefficient-ne0.true in (
      so_far.0 ++ (codes " + " ++ term),
      has_written_append _ _ _ _ _ _ so_far.1 (search rules),
      append_assoc so_far.0 _ _ ∙ ap (λ t. so_far.0 ++ t) (sym (ap more_terms one)) ∙ so_far.2,
    )
