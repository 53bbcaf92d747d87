-- The rows of a system, line by line.
use Rattle.std.proofs.Common.{◌≡◌, ℕ, ◌+◌, ◌<◌, ◌≤◌, List, [], ◌++◌, length, get_or, take, sym, ap, ◌∙◌, arith, append_assoc}
use lib.ListN.{get_or-map}
use Rattle.std.proofs.lemmas.List.{length-map, take_more, flat_map_more}
use Rattle.relations.specs.Sum.{Row, row_of}
use Rattle.relations.specs.Meaning.{Meaning}
use Rattle.words.specs.State.{State, Fit, view}
use Rattle.words.proofs.Tables.{tabulate_length}
use Rattle.systems.specs.Outline.{width, working}
use Rattle.report.specs.Text.{Sums, row_text, rows_text}
use Rattle.report.specs.Sheet.{sums_of, page_of, line_text}

-- a sum's coefficients are among the words that it takes to write it out
pub width_in : (s : State) → Fit s → (width (view s) ≤ working s) × (width (view s) ≤ 131073)
width_in s f =
    let ei : length (view s).inputs ≡ s.inputs = tabulate_length s.inputs _ in
    let ew : length (view s).witnesses ≡ s.witnesses = tabulate_length s.witnesses _ in
    (omega (arith, ei, ew), omega (arith, ei, ew, f.inputs_in, f.input_limit, f.witnesses_in, f.witness_limit))

abbrev no_row : Row
no_row = row_of 0 [] [] []

-- one more row's line
pub rows_more : (p : ℕ) (m : Meaning) (row : ℕ) (start : List ℕ) → row < length m.rows →
    (start ++ rows_text (page_of p m).inputs (take row (page_of p m).rows)) ++ line_text p m row ≡ start ++ rows_text (page_of p m).inputs (take (row + 1) (page_of p m).rows)
rows_more p m row start h =
    let rows = (page_of p m).rows in
    let text = λ (s : Sums). row_text (length m.inputs) s.left s.right s.product in
    let none = sums_of p m no_row in
    let within : row < length rows = omega (arith, length-map m.rows (sums_of p m)) in
    ap (λ s. (start ++ rows_text (length m.inputs) (take row rows)) ++ text s) (sym (get_or-map (sums_of p m) m.rows row no_row))
    ∙ flat_map_more text start (take row rows) (get_or rows row none)
    ∙ ap (λ ss. start ++ rows_text (length m.inputs) ss) (sym (take_more rows row none within))

-- four pieces, one after the other
pub whole : (t0 t1 t2 t3 t4 a b c d : List ℕ) → t0 ≡ [] → t1 ≡ t0 ++ a → t2 ≡ t1 ++ b → t3 ≡ t2 ++ c → t4 ≡ t3 ++ d → t4 ≡ a ++ (b ++ (c ++ d))
whole t0 t1 t2 t3 t4 a b c d e0 e1 e2 e3 e4 =
    let e : t4 ≡ ((([] ++ a) ++ b) ++ c) ++ d = cc in e ∙ simp append_assoc
