use Rattle.std.proofs.Common.{ap, ◌∙◌}
use Rattle.relations.specs.Sum.{code, decode, code_in}
use Rattle.relations.specs.Meaning.{assigned}
use Rattle.words.specs.Words.{word_of}
use Rattle.words.specs.State.{view}
use Rattle.systems.specs.Held.{state}
use Rattle.systems.proofs.Views.{has_in, word_is, decoded}
use Rattle.systems.proofs.valued.Valued.word.Goals as goal

pub word-requires : goal.word-requires
word-requires g c =
    let e = c.reader.ensures in
    (λ i. code_in (e.inputs i) (e.witnesses i) (e.front i) (c.code_of.ensures i)) ∙ has_in (state c.args.self.now) c.args.variable c.args.self.now.fit c.requires

pub returns-in_default : goal.returns-in_default
returns-in_default g c =
    let s = state c.args.self.now in
    let e = c.reader.ensures in
    c.word.ensures
    ∙ (λ i. word_of (e.input_room i) (e.values i) (e.terms i) (decode (c.code_of.ensures i)))
    ∙ word_is s (code c.args.variable) c.args.self.now.fit (has_in s c.args.variable c.args.self.now.fit c.requires)
    ∙ ap (assigned (view s)) (decoded c.args.variable c.in_default.not-Zero)
