-- The words of a system, as its parts are read.
use Rattle.std.specs.Prelude.{◌≡◌}
use Rattle.words.specs.declared.read.Names.{Names}
use Rattle.words.specs.declared.read.Reader.{Reader}
use Rattle.words.specs.declared.scan.Row.{Row}
use Rattle.words.specs.declared.scan.Rows.{Rows}
use Rattle.words.specs.declared.scan.Combinations.{Combinations}
use Rattle.words.specs.Words.{Triple, stored}
use Rattle.words.specs.State.{State}
use Rattle.written.specs.declared.writer.Writer.{Writer}
use Rattle.systems.specs.Order.{outline}

pub record Naming (s : State) (n : Names) : Type 0 where
  pub terms : n.terms.now ≡ s.term_words
  pub inputs : n.inputs ≡ s.inputs
  pub witnesses : n.witnesses ≡ s.witnesses
  pub front : n.front ≡ s.front

pub record Reading (s : State) (r : Reader) : Type 0 where
  pub values : r.values.now ≡ s.value_words
  pub terms : r.terms.now ≡ s.term_words
  pub input_room : r.input_room ≡ s.input_room
  pub inputs : r.inputs ≡ s.inputs
  pub witnesses : r.witnesses ≡ s.witnesses
  pub front : r.front ≡ s.front

pub record RowRead (t : Triple) (r : Row) : Type 0 where
  pub a : stored r.a.now ≡ t.a
  pub b : stored r.b.now ≡ t.b
  pub c : stored r.c.now ≡ t.c

pub record RowsRead (s : State) (r : Rows) : Type 0 where
  pub words : r.words.now ≡ s.row_words
  pub terms : r.terms.now ≡ s.term_words
  pub top : r.top ≡ s.term_room
  pub count : r.count ≡ s.count

pub record CombinationsRead (s : State) (r : Combinations) : Type 0 where
  pub words : r.words.now ≡ s.term_words
  pub left : r.left ≡ s.lcs
  pub end : r.end ≡ s.front

pub record Writing (s : State) (w : Writer) : Type 0 where
  pub terms : w.terms.now ≡ s.term_words
  pub counts : w.counts ≡ outline s
  pub modulus : w.modulus ≡ s.modulus
