-- A store just opened.
use Rattle.std.proofs.Common.{◌≡◌, ℕ, ◌+◌, ◌*◌, ◌<◌, ◌≤◌, Bool, true, false, cond, leb, List, [], length, Some, None, Option, refl, ap, arith, leb-true, le-leb, get_or, ◌-◌}
use Rattle.std.proofs.lemmas.Bool.{and_parts}
use Rattle.relations.specs.Meaning.{Stored}
use Rattle.words.specs.Words.{tabulate}
use Rattle.words.specs.State.{Fit, words_of}
use Rattle.systems.specs.declared.rooms.Rooms.{Rooms}
use Rattle.systems.specs.declared.rooms.OpenFault.{OpenFault}
use Rattle.systems.specs.declared.rooms.OpenFault.TheVariants.{RoomTooLarge, ShortValues, ShortTerms, ShortRows}
use Rattle.systems.specs.Opening.{small, lent, opening, opening_setup, fresh, nothing}
use Rattle.systems.specs.Order.{Ordered}

-- words that are enough
enough : (r : Rooms) (t w : ℕ) → lent r t w ≡ None → (2 * r.terms ≤ t) × (6 * r.rows ≤ w)
enough r t w = by_terms (leb (2 * r.terms) t) refl
  where
    by_rows : (b : Bool) → leb (6 * r.rows) w ≡ b → 2 * r.terms ≤ t → ◌≡◌ {A = Option OpenFault} (cond b None (Some ShortRows)) None → (2 * r.terms ≤ t) × (6 * r.rows ≤ w)
    by_rows true q h e = (h, leb-true _ _ q)
    by_rows false q h e = cc

    by_terms : (b : Bool) → leb (2 * r.terms) t ≡ b → ◌≡◌ {A = Option OpenFault} (cond b (cond (leb (6 * r.rows) w) None (Some ShortRows)) (Some ShortTerms)) None → (2 * r.terms ≤ t) × (6 * r.rows ≤ w)
    by_terms true q e = by_rows (leb (6 * r.rows) w) refl (leb-true _ _ q) e
    by_terms false q e = cc

pub small_sides : (r : Rooms) → small r ≡ true → r.inputs + r.witnesses ≤ 131072
small_sides r s =
    let x = and_parts (leb r.inputs 65536) _ s in
    let y = and_parts (leb r.witnesses 65536) _ x.1 in
    omega (arith, leb-true _ _ x.0, leb-true _ _ y.0)

-- it is well laid beside enough values
pub fresh_fit : (p : ℕ) (r : Rooms) (ts rs vs : List ℕ) → 0 < p → p < 4294967296 → small r ≡ true → lent r (length ts) (length rs) ≡ None → r.inputs + r.witnesses ≤ length vs → Fit (fresh p r ts rs vs)
fresh_fit p r ts rs vs a b s l v =
    let x = and_parts (leb r.inputs 65536) _ s in
    let y = and_parts (leb r.witnesses 65536) _ x.1 in
    let z = and_parts (leb r.terms 65536) (leb r.rows 65536) y.1 in
    let w = enough r (length ts) (length rs) l in
    record {
      modulus = a;
      small = b;
      rows_long = w.1;
      terms_long = w.0;
      values_long = v;
      input_limit = leb-true _ _ x.0;
      witness_limit = leb-true _ _ y.0;
      term_limit = leb-true _ _ z.0;
      row_limit = leb-true _ _ z.1;
      inputs_in = omega arith;
      witnesses_in = omega arith;
      rows_in = omega arith;
      terms_in = omega arith;
      back_in = omega arith;
      chain = refl;
      tagged = tt;
      stack = tt;
      at_floor = refl;
      inputs_below = λ j h. absurd (omega arith);
      witnesses_below = λ j h. absurd (omega arith);
      combos_named = refl;
      rows_named = refl;
    }

pub fresh_ordered : (p : ℕ) (r : Rooms) (ts rs vs : List ℕ) → Ordered (fresh p r ts rs vs)
fresh_ordered p r ts rs vs = record { combos = tt; rows = tt }

pub fresh_words : (p : ℕ) (r : Rooms) (ts rs vs : List ℕ) → words_of (fresh p r ts rs vs) ≡ nothing
fresh_words p r ts rs vs =
    let none : 2 * (r.terms - r.terms) ≡ 0 = omega arith in
    ap (λ (n : ℕ). let t : Stored = record { inputs = []; witnesses = []; combos = []; rows = []; terms = tabulate n (λ j. get_or ts (2 * r.terms - 1 - j) 0) } in t) none

-- the words and rooms are taken
pub opens : (r : Rooms) (v t w : ℕ) → small r ≡ true → r.inputs + r.witnesses ≤ v → lent r t w ≡ None → opening r v t w ≡ None
opens r v t w s h l = λ i. cond (s i) (cond (le-leb (r.inputs + r.witnesses) v h i) (l i) (Some ShortValues)) (Some RoomTooLarge)

pub opens_setup : (r : Rooms) (t w : ℕ) → small r ≡ true → lent r t w ≡ None → opening_setup r t w ≡ None
opens_setup r t w s l = λ i. cond (s i) (l i) (Some RoomTooLarge)
