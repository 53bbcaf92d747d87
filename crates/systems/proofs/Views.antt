-- What a system over words means: its lengths, what it uses, what its variables are.
use Rattle.std.proofs.Common.{◌≡◌, ℕ, ◌+◌, ◌-◌, ◌*◌, ◌/◌, ◌%◌, ◌<◌, Bool, true, false, cond, ◌&&◌, eqb, ltb, List, [], ◌∷◌, length, get_or, Some, None, Ok, Err, Option, Result, sym, refl, ap, ◌∙◌, subst, mod-lt, arith, ltb-true, true-eqb}
use Rattle.std.proofs.lemmas.List.{length-map}
use Rattle.relations.specs.declared.fault.SystemFault.{SystemFault}
use Rattle.relations.specs.declared.fault.SystemFault.TheVariants.{UnknownVariable}
use Rattle.relations.specs.declared.term.Variable.{Variable}
use Rattle.relations.specs.declared.term.Variable.TheVariants.{One, Zero, Input, Witness, Combination}
use Rattle.relations.specs.declared.term.Term.{Term}
use Rattle.relations.specs.Sum.{Pairs, code, decode, handed, code_in, all_in, value}
use Rattle.relations.specs.Meaning.{known, all_known, number, places, rows_use, used, has, has_all, assigned, ask, combos_within, rows_within, Sane}
use Rattle.words.specs.Words.{combinations, combo, rows, meant, there, all_there, word_of, worth, Small}
use Rattle.words.specs.State.{State, Fit, view}
use Rattle.words.proofs.Tables.{tabulate_length, tabulate_at}
use Rattle.words.proofs.Areas.{combinations_used, combinations_length, rows_length, rows_used}
use Rattle.words.proofs.Cuts.{combos_are, rows_are}
use Rattle.words.proofs.Heads.{kept_test, head_below}
use Rattle.words.proofs.There.{there_known, all_there_known, known_in, all_known_in, known_small}

pub inputs_long : (s : State) → length (view s).inputs ≡ s.inputs
inputs_long s = tabulate_length s.inputs (λ j. Some (get_or s.value_words j 0))

pub witnesses_long : (s : State) → length (view s).witnesses ≡ s.witnesses
witnesses_long s = tabulate_length s.witnesses (λ j. Some (get_or s.value_words (s.input_room + j) 0))

pub lcs_long : (s : State) → length (view s).combos ≡ s.lcs
lcs_long s = length-map (combinations s.lcs s.front s.term_words) (combo s.modulus) ∙ combinations_length s.lcs s.front s.term_words

pub rows_long : (s : State) → length (view s).rows ≡ s.count
rows_long s = length-map (rows s.count s.row_words s.term_words) (meant s.modulus) ∙ rows_length s.count s.row_words s.term_words

pub places_are : (s : State) → Fit s → places (view s).combos ≡ s.front
places_are s f = combinations_used s.modulus s.lcs s.front s.term_words f.chain

pub use_is : (s : State) → Fit s → rows_use (view s).rows ≡ s.term_room - s.back
use_is s f = omega (arith, rows_used s.modulus s.term_room s.count s.row_words s.term_words f.stack, f.at_floor, f.back_in)

pub used_is : (s : State) → Fit s → used (view s) ≡ s.front + (s.term_room - s.back)
used_is s f = λ i. places_are s f i + use_is s f i

pub sane_is : (s : State) → Fit s → Sane (view s)
sane_is s f = record {
  combos = (λ i. combos_within (inputs_long s i) (witnesses_long s i) (places_are s f i) (view s).combos) ∙ combos_are s.modulus s.inputs s.witnesses s.front (combinations s.lcs s.front s.term_words) ∙ f.combos_named;
  rows = (λ i. rows_within (inputs_long s i) (witnesses_long s i) (places_are s f i) (view s).rows) ∙ rows_are s.modulus s.inputs s.witnesses s.front (rows s.count s.row_words s.term_words) ∙ f.rows_named;
}

-- ---- variables
pub has_is : (s : State) (v : Variable) → Fit s → there s.inputs s.witnesses s.front s.term_words v ≡ has (view s) v
has_is s v f = there_known s.modulus s.inputs s.witnesses s.lcs s.front s.term_words v f.chain f.tagged ∙ sym (λ i. known (inputs_long s i) (witnesses_long s i) (view s).combos v)

pub has_all_is : (s : State) (ts : List Term) → Fit s → all_there s.inputs s.witnesses s.front s.term_words ts ≡ has_all (view s) ts
has_all_is s ts f = all_there_known s.modulus s.inputs s.witnesses s.lcs s.front s.term_words ts f.chain f.tagged ∙ sym (λ i. all_known (inputs_long s i) (witnesses_long s i) (view s).combos ts)

pub has_in : (s : State) (v : Variable) → Fit s → has (view s) v ≡ true → code_in s.inputs s.witnesses s.front (code v) ≡ true
has_in s v f h = sym (λ i. code_in (inputs_long s i) (witnesses_long s i) (places_are s f i) (code v)) ∙ known_in (length (view s).inputs) (length (view s).witnesses) (view s).combos v h

pub has_all_in : (s : State) (ts : List Term) → Fit s → has_all (view s) ts ≡ true → all_in s.inputs s.witnesses s.front (handed ts) ≡ true
has_all_in s ts f h = sym (λ i. all_in (inputs_long s i) (witnesses_long s i) (places_are s f i) (handed ts)) ∙ all_known_in (length (view s).inputs) (length (view s).witnesses) (view s).combos ts h

pub has_small : (s : State) (ts : List Term) → Fit s → has_all (view s) ts ≡ true → Small ts
has_small s ts f h = known_small (length (view s).inputs) (length (view s).witnesses) (view s).combos ts (omega (arith, inputs_long s)) (omega (arith, witnesses_long s)) (omega (arith, places_are s f)) h

-- ---- kept values
pub word_is : (s : State) (c : ℕ) → Fit s → code_in s.inputs s.witnesses s.front c ≡ true → word_of s.input_room s.value_words s.term_words (decode c) ≡ assigned (view s) (decode c)
word_is s c f h = go (eqb (c % 8) 1) (eqb (c % 8) 2) (eqb (c % 8) 3) h
  where
    go : (x y z : Bool) → cond x (ltb (c / 8) s.inputs) (cond y (ltb (c / 8) s.witnesses) (cond z (ltb (c / 8) s.front) true)) ≡ true →
        word_of s.input_room s.value_words s.term_words (cond x (Input (c / 8)) (cond y (Witness (c / 8)) (cond z (Combination (c / 8)) One)))
        ≡ assigned (view s) (cond x (Input (c / 8)) (cond y (Witness (c / 8)) (cond z (Combination (c / 8)) One)))
    go true y z q = sym (ap number (tabulate_at s.inputs (c / 8) (λ j. Some (get_or s.value_words j 0)) None (ltb-true _ _ q)))
    go false true z q = sym (ap number (tabulate_at s.witnesses (c / 8) (λ j. Some (get_or s.value_words (s.input_room + j) 0)) None (ltb-true _ _ q)))
    go false false true q = sym (kept_test s.modulus s.lcs s.front (c / 8) s.term_words f.chain f.tagged (ltb-true _ _ q))
    go false false false q = refl

both : (a b : Bool) → a && b ≡ true → (a ≡ true) × (b ≡ true)
both true b e = (refl, e)
both false b e = let z : ◌≡◌ {A = ℕ} 0 1 = cc in absurd (omega arith)

pub worth_is : (p : ℕ) (s : State) (ts : Pairs) → Fit s → all_in s.inputs s.witnesses s.front ts ≡ true → worth p s.input_room s.value_words s.term_words ts ≡ value p (λ c. assigned (view s) (decode c)) ts
worth_is p s [] f h = refl
worth_is p s (t ∷ ts) f h = λ i. (t.1 * word_is s t.0 f (both _ _ h).0 i + worth_is p s ts f (both _ _ h).1 i) % p

pub worth_below : (p : ℕ) (a : ℕ → ℕ) (ts : Pairs) → 0 < p → value p a ts < p
worth_below p a [] h = h
worth_below p a (t ∷ ts) h = mod-lt (t.1 * a t.0 + value p a ts) h

-- the kept word of a variable that is there is below the modulus, or 1
pub word_below : (s : State) (v : Variable) → Fit s → has (view s) v ≡ true → (v ≡ One → ⊥) → assigned (view s) v < s.modulus
word_below s One f h n = absurd (n refl)
word_below s Zero f h n = f.modulus
word_below s (Input k) f h n =
    let l : k < s.inputs = ltb-true k s.inputs (sym (ap (ltb k) (inputs_long s)) ∙ h) in
    subst (λ (x : ℕ). x < s.modulus) (sym (ap number (tabulate_at s.inputs k (λ j. Some (get_or s.value_words j 0)) None l))) (f.inputs_below k l)
word_below s (Witness k) f h n =
    let l : k < s.witnesses = ltb-true k s.witnesses (sym (ap (ltb k) (witnesses_long s)) ∙ h) in
    subst (λ (x : ℕ). x < s.modulus) (sym (ap number (tabulate_at s.witnesses k (λ j. Some (get_or s.value_words (s.input_room + j) 0)) None l))) (f.witnesses_below k l)
word_below s (Combination c) f h n =
    let q : (ltb c s.front ≡ true) × (eqb (get_or s.term_words (2 * c) 0 % 8) 4 ≡ true) = both _ _ (has_is s (Combination c) f ∙ h) in
    subst (λ (x : ℕ). x < s.modulus)
    (sym (kept_test s.modulus s.lcs s.front c s.term_words f.chain f.tagged (ltb-true _ _ q.0) ∙ ap (λ (b : Bool). cond b (get_or s.term_words (2 * c + 1) 0) 0) q.1))
    (head_below s.modulus s.lcs s.front c s.term_words f.chain f.tagged (ltb-true _ _ q.0) (true-eqb _ 4 (sym q.1)))

abbrev picked : ℕ → ℕ → Variable
picked m q = cond (eqb m 1) (Input q) (cond (eqb m 2) (Witness q) (cond (eqb m 3) (Combination q) One))

-- a code tells its variable, but for the variable zero
pub decoded : (v : Variable) → (v ≡ Zero → ⊥) → decode (code v) ≡ v
decoded One n = refl
decoded Zero n = absurd (n refl)
decoded (Input k) n = (λ t. picked (rest k t) (eighth k t))
  where
    rest : (n : ℕ) → (8 * n + 1) % 8 ≡ 1
    rest n = omega arith

    eighth : (n : ℕ) → (8 * n + 1) / 8 ≡ n
    eighth n = omega arith
decoded (Witness k) n = (λ t. picked (rest k t) (eighth k t))
  where
    rest : (n : ℕ) → (8 * n + 2) % 8 ≡ 2
    rest n = omega arith

    eighth : (n : ℕ) → (8 * n + 2) / 8 ≡ n
    eighth n = omega arith
decoded (Combination k) n = (λ t. picked (rest k t) (eighth k t))
  where
    rest : (n : ℕ) → (8 * n + 3) % 8 ≡ 3
    rest n = omega arith

    eighth : (n : ℕ) → (8 * n + 3) / 8 ≡ n
    eighth n = omega arith

pub told_is : (s : State) (v : Variable) (x : ℕ) → has (view s) v ≡ true → x ≡ assigned (view s) v → ◌≡◌ {A = Result (Option ℕ) SystemFault} (Ok (Some x)) (ask v (view s)).0
told_is s v x h e = ap (λ (y : ℕ). Ok (Some y)) e ∙ sym (ap (λ (b : Bool). cond b (Ok (Some (assigned (view s) v))) (Err UnknownVariable)) h)
