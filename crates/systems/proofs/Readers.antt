-- What is read of a system's words is what it means.
use Rattle.std.proofs.Common.{◌≡◌, ℕ, ◌<◌, true, ◌∙◌}
use Rattle.relations.specs.Sum.{Pairs, all_in, value, decode}
use Rattle.relations.specs.Meaning.{assigned}
use Rattle.words.specs.declared.read.Reader.{Reader}
use Rattle.words.specs.declared.scan.Row.{Row}
use Rattle.words.specs.declared.scan.Rows.{Rows}
use Rattle.words.specs.Words.{worth, stored, row_at}
use Rattle.words.proofs.Cuts.{row_each, triple_each}
use Rattle.words.specs.State.{State, Fit, view}
use Rattle.systems.specs.Read.{Reading, RowRead, RowsRead}
use Rattle.systems.proofs.Views.{worth_is}

pub named_in : (s : State) (r : Reader) (t ts : Pairs) → Reading s r → t ≡ ts → all_in s.inputs s.witnesses s.front ts ≡ true → all_in r.inputs r.witnesses r.front t ≡ true
named_in s r t ts e q h = (λ i. all_in (e.inputs i) (e.witnesses i) (e.front i) (q i)) ∙ h

pub worth_in : (s : State) (r : Reader) (t ts : Pairs) (n : ℕ) → Fit s → Reading s r → t ≡ ts → all_in s.inputs s.witnesses s.front ts ≡ true → n ≡ worth s.modulus r.input_room r.values.now r.terms.now t → n ≡ value s.modulus (λ c. assigned (view s) (decode c)) ts
worth_in s r t ts n f e q h w = w ∙ (λ i. worth s.modulus (e.input_room i) (e.values i) (e.terms i) (q i)) ∙ worth_is s.modulus s ts f h

-- what row i names is there
pub row_named : (s : State) (i : ℕ) → Fit s → i < s.count → (all_in s.inputs s.witnesses s.front (row_at i s.row_words s.term_words).a ≡ true) × (all_in s.inputs s.witnesses s.front (row_at i s.row_words s.term_words).b ≡ true) × (all_in s.inputs s.witnesses s.front (row_at i s.row_words s.term_words).c ≡ true)
row_named s i f h = triple_each s.inputs s.witnesses s.front (row_at i s.row_words s.term_words) (row_each s.inputs s.witnesses s.front s.count i s.row_words s.term_words h f.rows_named)

-- a row that is read through a reader of rows
pub row_read : (s : State) (rs : Rows) (r : Row) (i : ℕ) → RowsRead s rs → stored r.a.now ≡ (row_at i rs.words.now rs.terms.now).a → stored r.b.now ≡ (row_at i rs.words.now rs.terms.now).b → stored r.c.now ≡ (row_at i rs.words.now rs.terms.now).c → RowRead (row_at i s.row_words s.term_words) r
row_read s rs r i w a b c = record {
  a = a ∙ (λ j. (row_at i (w.words j) (w.terms j)).a);
  b = b ∙ (λ j. (row_at i (w.words j) (w.terms j)).b);
  c = c ∙ (λ j. (row_at i (w.words j) (w.terms j)).c);
}
