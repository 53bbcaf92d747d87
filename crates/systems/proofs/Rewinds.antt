-- A cut of a system over words does its step.
use Rattle.std.proofs.Common.{◌≡◌, ℕ, ◌+◌, ◌<◌, ◌≤◌, Bool, true, false, ◌&&◌, leb, map, length, get_or, take, Some, Ok, Result, sym, refl, ap, ◌∙◌, arith, le-leb, List, subst}
use borrow.Author.Tests.{lt-leb}
use Rattle.std.proofs.lemmas.List.{take-map}
use Rattle.relations.specs.declared.fault.SystemFault.{SystemFault}
use Rattle.relations.specs.Meaning.{Ran, places, combos_within, rows_within, may_cut, rewind, Cuts}
use Rattle.words.specs.declared.scan.Combinations.{Combinations}
use Rattle.words.specs.Words.{combinations, combo, Chain, rows, meant, lists_in, triples_in, Tagged}
use Rattle.words.specs.State.{State, Fit, view, words_of}
use Rattle.words.proofs.Tables.{tabulate_take}
use Rattle.words.proofs.Areas.{combinations_used, floor_below}
use Rattle.words.proofs.Cuts.{combos_are, rows_are, rows_take, stack_take, floor_take}
use Rattle.systems.specs.Read.{CombinationsRead}
use Rattle.systems.specs.Held.{CutAt, Barred}
use Rattle.systems.specs.Adding.{cut_state}
use Rattle.systems.proofs.Views.{inputs_long, witnesses_long, lcs_long, rows_long}
use Rattle.systems.proofs.Grown.{kept_words}

abbrev V : Bool → Bool → Bool → Bool → Bool → Bool → Bool
V a b c d x y = (a && (b && (c && d))) && (x && y)

abbrev named : State → ℕ → ℕ → ℕ → Bool
named s i w k = combos_within i w (places (take k (view s).combos)) (take k (view s).combos)

abbrev rowed : State → ℕ → ℕ → ℕ → ℕ → Bool
rowed s i w k r = rows_within i w (places (take k (view s).combos)) (take r (view s).rows)

pub long_inputs : (s : State) (i w k r : ℕ) → s.inputs < i → Barred s i w k r
long_inputs s i w k r h = ap (λ (b : Bool). V b (leb w (length (view s).witnesses)) (leb k (length (view s).combos)) (leb r (length (view s).rows)) (named s i w k) (rowed s i w k r)) (lt-leb i (length (view s).inputs) (omega (arith, inputs_long s)))

pub long_witnesses : (s : State) (i w k r : ℕ) → i ≤ s.inputs → s.witnesses < w → Barred s i w k r
long_witnesses s i w k r a h = λ t. V (le-leb i (length (view s).inputs) (omega (arith, inputs_long s)) t) (lt-leb w (length (view s).witnesses) (omega (arith, witnesses_long s)) t) (leb k (length (view s).combos)) (leb r (length (view s).rows)) (named s i w k) (rowed s i w k r)

pub long_lcs : (s : State) (i w k r : ℕ) → i ≤ s.inputs → w ≤ s.witnesses → s.lcs < k → Barred s i w k r
long_lcs s i w k r a b h = λ t. V (le-leb i (length (view s).inputs) (omega (arith, inputs_long s)) t) (le-leb w (length (view s).witnesses) (omega (arith, witnesses_long s)) t) (lt-leb k (length (view s).combos) (omega (arith, lcs_long s)) t) (leb r (length (view s).rows)) (named s i w k) (rowed s i w k r)

pub long_rows : (s : State) (i w k r : ℕ) → i ≤ s.inputs → w ≤ s.witnesses → k ≤ s.lcs → s.count < r → Barred s i w k r
long_rows s i w k r a b c h = λ t. V (le-leb i (length (view s).inputs) (omega (arith, inputs_long s)) t) (le-leb w (length (view s).witnesses) (omega (arith, witnesses_long s)) t) (le-leb k (length (view s).combos) (omega (arith, lcs_long s)) t) (lt-leb r (length (view s).rows) (omega (arith, rows_long s)) t) (named s i w k) (rowed s i w k r)

taken : (s : State) (k end : ℕ) → take k (combinations s.lcs s.front s.term_words) ≡ combinations k end s.term_words → take k (view s).combos ≡ map (combo s.modulus) (combinations k end s.term_words)
taken s k end e = take-map (combo s.modulus) k (combinations s.lcs s.front s.term_words) ∙ ap (map (combo s.modulus)) e

taken_rows : (s : State) (r : ℕ) → r ≤ s.count → take r (view s).rows ≡ map (meant s.modulus) (rows r s.row_words s.term_words)
taken_rows s r h = take-map (meant s.modulus) r (rows s.count s.row_words s.term_words) ∙ ap (map (meant s.modulus)) (rows_take r s.count s.row_words s.term_words h)

pub verdict : (s : State) (i w k r end : ℕ) (x y : Bool) → i ≤ s.inputs → w ≤ s.witnesses → k ≤ s.lcs → r ≤ s.count → take k (combinations s.lcs s.front s.term_words) ≡ combinations k end s.term_words → Chain k end s.term_words → x ≡ lists_in i w end (combinations k end s.term_words) → y ≡ triples_in i w end (rows r s.row_words s.term_words) → may_cut i w k r (view s) ≡ x && y
verdict s i w k r end x y a b c d e ch p q =
    (λ t. V (le-leb i (length (view s).inputs) (omega (arith, inputs_long s)) t) (le-leb w (length (view s).witnesses) (omega (arith, witnesses_long s)) t) (le-leb k (length (view s).combos) (omega (arith, lcs_long s)) t) (le-leb r (length (view s).rows) (omega (arith, rows_long s)) t)
    (combos_within i w (places (taken s k end e t)) (taken s k end e t)) (rows_within i w (places (taken s k end e t)) (taken_rows s r d t)))
    ∙ (λ t. combos_within i w (filled t) (map (combo s.modulus) (combinations k end s.term_words)) && rows_within i w (filled t) (map (meant s.modulus) (rows r s.row_words s.term_words)))
    ∙ (λ t. (combos_are s.modulus i w end (combinations k end s.term_words) ∙ sym p) t && (rows_are s.modulus i w end (rows r s.row_words s.term_words) ∙ sym q) t)
  where
    filled : places (map (combo s.modulus) (combinations k end s.term_words)) ≡ end
    filled = combinations_used s.modulus k end s.term_words ch

pub names_cut : (s : State) (i w k r end : ℕ) → i ≤ s.inputs → w ≤ s.witnesses → k ≤ s.lcs → r ≤ s.count → take k (combinations s.lcs s.front s.term_words) ≡ combinations k end s.term_words → Chain k end s.term_words → false ≡ lists_in i w end (combinations k end s.term_words) → Barred s i w k r
names_cut s i w k r end a b c d e ch p = verdict s i w k r end false (triples_in i w end (rows r s.row_words s.term_words)) a b c d e ch p refl

-- a rewinding from s to t with the answer r: what its contract says
pub record Rewound (s : State) (i w k n : ℕ) (r : Result (Unit {0}) SystemFault) (t : State) : Type 0 where
  pub fit : Fit t
  pub does : Ran (rewind i w k n) (view s) r (view t)
  pub cuts : Cuts r (view t) (words_of s) (words_of t)

cut_fit : (s : State) (i w k r end low : ℕ) → Fit s → CutAt s i w k r end low → Fit (cut_state s i w k r end low)
cut_fit s i w k r end low f x = record {
  modulus = f.modulus;
  small = f.small;
  rows_long = f.rows_long;
  terms_long = f.terms_long;
  values_long = f.values_long;
  input_limit = f.input_limit;
  witness_limit = f.witness_limit;
  term_limit = f.term_limit;
  row_limit = f.row_limit;
  inputs_in = omega (arith, x.i_in, f.inputs_in);
  witnesses_in = omega (arith, x.w_in, f.witnesses_in);
  rows_in = omega (arith, x.r_in, f.rows_in);
  terms_in = omega (arith, x.below, x.low_is, f.terms_in, f.at_floor, floor_take s.term_room r s.count s.row_words x.r_in f.stack);
  back_in = omega (arith, x.low_is, floor_below s.term_room r s.row_words (stack_take s.term_room r s.count s.row_words x.r_in f.stack));
  chain = x.chain;
  tagged = x.tagged;
  stack = stack_take s.term_room r s.count s.row_words x.r_in f.stack;
  at_floor = sym x.low_is;
  inputs_below = λ j h. f.inputs_below j (omega (arith, x.i_in));
  witnesses_below = λ j h. f.witnesses_below j (omega (arith, x.w_in));
  combos_named = x.combos_named;
  rows_named = x.rows_named;
}

pub done : (s : State) (i w k r end low : ℕ) → Fit s → CutAt s i w k r end low → Rewound s i w k r (Ok tt) (cut_state s i w k r end low)
done s i w k r end low f x =
    record {
      fit = g;
      does = ran;
      cuts = sym (kept_words (cut_state s i w k r end low) s g f record {
        inputs = x.i_in;
        witnesses = x.w_in;
        front = x.below;
        count = x.r_in;
        back = omega (arith, x.low_is, f.at_floor, floor_take s.term_room r s.count s.row_words x.r_in f.stack);
        input_room = refl;
        term_room = refl;
        input_words = λ j h. refl;
        witness_words = λ j h. refl;
        combo_words = λ j h. refl;
        row_words = λ j h. refl;
        row_terms = λ j h l. refl;
      });
    }
  where
    g : Fit (cut_state s i w k r end low)
    g = cut_fit s i w k r end low f x

    ran : Ran (rewind i w k r) (view s) (Ok tt) (view (cut_state s i w k r end low))
    ran =
        let t = x.allowed in
        rw t (λ j. (Ok tt, record { keeps = true; inputs = tabulate_take i s.inputs (λ n. Some (get_or s.value_words n 0)) x.i_in j; witnesses = tabulate_take w s.witnesses (λ n. Some (get_or s.value_words (s.input_room + n) 0)) x.w_in j; combos = taken s k end x.cut j; rows = taken_rows s r x.r_in j; input_room = s.input_room; witness_room = s.witness_room; term_room = s.term_room; row_room = s.row_room; capped = false }))

-- ---- the first k combinations, as they are read
pub record Firsts (s : State) (k end : ℕ) : Type 0 where
  pub below : end ≤ s.front
  pub chain : Chain k end s.term_words
  pub tagged : Tagged s.modulus k end s.term_words
  pub cut : take k (combinations s.lcs s.front s.term_words) ≡ combinations k end s.term_words

pub firsts : (s : State) (c d : Combinations) (k : ℕ) → Fit s → CombinationsRead s c → d.left ≡ k → d.words.now ≡ c.words.now → d.end ≤ c.end → ((p : ℕ) → Tagged p c.left c.end c.words.now → Tagged p k d.end c.words.now) → take k (combinations c.left c.end c.words.now) ≡ combinations k d.end c.words.now → Firsts s k d.end
firsts s c d k f e n w l t q = record {
  below = subst (λ (x : ℕ). d.end ≤ x) e.end l;
  chain = subst (λ (x : ℕ). Chain x d.end s.term_words) n (subst (λ (ws : List ℕ). Chain d.left d.end ws) (w ∙ e.words) d.chain);
  tagged = subst (λ (ws : List ℕ). Tagged s.modulus k d.end ws) e.words (t s.modulus (subst (λ (x : Type 0). x) (λ i. Tagged s.modulus (sym e.left i) (sym e.end i) (sym e.words i)) f.tagged));
  cut = subst (λ (x : Type 0). x) (λ i. take k (combinations (e.left i) (e.end i) (e.words i)) ≡ combinations k d.end (e.words i)) q;
}
