-- Writing a sum out keeps its value.
use Rattle.std.proofs.Common.{◌≡◌, ℕ, zero, suc, ◌+◌, ◌-◌, ◌*◌, ◌/◌, ◌%◌, ◌<◌, ◌≤◌, Bool, true, false, cond, eqb, ltb, List, [], ◌∷◌, length, get_or, Some, None, Option, sym, refl, ap, ◌∙◌, mul_assoc, add-mul, mul-zero, arith, ltb-false, ltb-true, eq-eqb, ne_eqb}
use native.Mathlib.Nat.{mod-mod, zero-mod}
use Rattle.std.proofs.lemmas.Bool.{cond-true, cond-false, eqb-true, eqb-false}
use Rattle.arith.proofs.Euclid.{mul_mod_l}
use Rattle.relations.specs.declared.term.Variable.{Variable}
use Rattle.relations.specs.declared.term.Variable.TheVariants.{One, Input, Witness, Combination}
use Rattle.relations.specs.Sum.{Pairs, code, decode, code_in, total, value}
use Rattle.relations.specs.Meaning.{Combo, places}
use Rattle.relations.specs.Written.{expanded}
use Rattle.words.specs.Words.{pairs, heading, Chain}
use Rattle.words.proofs.Frames.{length_pairs}
use Rattle.words.proofs.Values.{sum_to, right, sum_same, sum_update, total_here, total_there}
use Rattle.written.specs.declared.Counts.{Counts}
use Rattle.written.specs.Cells.{cells, variable_at, cell, written_out, Over}
use Rattle.written.specs.Keeps.{up_to, Named, Earlier, Given, Gives, Keeps}
use Rattle.written.proofs.Cells.{Found, found, cell_code, at_combination}
use Rattle.written.proofs.Adding.{times_rem}
use Rattle.written.proofs.Going.{older, older_more, older_places}
use Rattle.written.proofs.Sums.{sum_mod, sum_plus, sum_zeros}

-- the coefficients f, each times what ρ gives its variable, summed over the cells
abbrev pub weighed : Counts → (Variable → ℕ) → (Variable → ℕ) → ℕ
weighed n ρ f = sum_to (cells n) (λ j. f (variable_at n j) * ρ (variable_at n j))

-- ---- codes
has_cell : (n : Counts) (c : ℕ) → code_in n.inputs n.witnesses n.front c ≡ true → code (decode c) ≡ c → (m : ℕ) × (cell n c ≡ Some m)
has_cell n c = go (eqb (c % 8) 1) (eqb (c % 8) 2) (eqb (c % 8) 3)
  where
    go : (a b d : Bool) → cond a (ltb (c / 8) n.inputs) (cond b (ltb (c / 8) n.witnesses) (cond d (ltb (c / 8) n.front) true)) ≡ true → code (cond a (Input (c / 8)) (cond b (Witness (c / 8)) (cond d (Combination (c / 8)) One))) ≡ c → (m : ℕ) × (cond {A = Option ℕ} a (cond (ltb (c / 8) n.inputs) (Some (1 + c / 8)) None) (cond b (cond (ltb (c / 8) n.witnesses) (Some (1 + n.inputs + c / 8)) None) (cond d (cond (ltb (c / 8) n.front) (Some (1 + n.inputs + n.witnesses + c / 8)) None) (cond (eqb c 0) (Some 0) None))) ≡ Some m)
    go true b d h r = (1 + c / 8, cond-true _ _ _ h)
    go false true d h r = (1 + n.inputs + c / 8, cond-true _ _ _ h)
    go false false true h r = (1 + n.inputs + n.witnesses + c / 8, cond-true _ _ _ h)
    go false false false h r = (0, cond-true _ _ _ (eq-eqb c 0 (sym r)))

pub decode_input : (k : ℕ) → decode (8 * k + 1) ≡ Input k
decode_input k = cond-true _ _ _ (eq-eqb ((8 * k + 1) % 8) 1 (omega arith)) ∙ ap Input same
  where
    same : (8 * k + 1) / 8 ≡ k
    same = omega arith

pub decode_witness : (k : ℕ) → decode (8 * k + 2) ≡ Witness k
decode_witness k =
    cond-false _ _ _ (ne_eqb ((8 * k + 2) % 8) 1 (λ z. omega arith))
    ∙ cond-true _ _ _ (eq-eqb ((8 * k + 2) % 8) 2 (omega arith))
    ∙ ap Witness same
  where
    same : (8 * k + 2) / 8 ≡ k
    same = omega arith

pub decode_combination : (k : ℕ) → decode (8 * k + 3) ≡ Combination k
decode_combination k =
    cond-false _ _ _ (ne_eqb ((8 * k + 3) % 8) 1 (λ z. omega arith))
    ∙ cond-false _ _ _ (ne_eqb ((8 * k + 3) % 8) 2 (λ z. omega arith))
    ∙ cond-true _ _ _ (eq-eqb ((8 * k + 3) % 8) 3 (omega arith))
    ∙ ap Combination same
  where
    same : (8 * k + 3) / 8 ≡ k
    same = omega arith

decode_at : (n : Counts) (j : ℕ) → decode (code (variable_at n j)) ≡ variable_at n j
decode_at n j = go (eqb j 0) (ltb (j - 1) n.inputs) (ltb (j - 1 - n.inputs) n.witnesses)
  where
    go : (a b d : Bool) → decode (code (cond a One (cond b (Input (j - 1)) (cond d (Witness (j - 1 - n.inputs)) (Combination (j - 1 - n.inputs - n.witnesses)))))) ≡ cond a One (cond b (Input (j - 1)) (cond d (Witness (j - 1 - n.inputs)) (Combination (j - 1 - n.inputs - n.witnesses))))
    go true b d = refl
    go false true d = decode_input (j - 1)
    go false false true = decode_witness (j - 1 - n.inputs)
    go false false false = decode_combination (j - 1 - n.inputs - n.witnesses)

-- ---- the value of terms is the sum over the cells
value_cells : (p : ℕ) (n : Counts) (ρ : Variable → ℕ) (ts : Pairs) → 0 < p → Named n ts → value p (λ c. ρ (decode c)) ts ≡ weighed n ρ (λ v. total p 0 ts (code v)) % p
value_cells p n ρ [] h b = sym (ap (λ (x : ℕ). x % p) (none (cells n)) ∙ zero-mod p)
  where
    none : (m : ℕ) → sum_to m (λ j. 0 * ρ (variable_at n j)) ≡ 0
    none zero = refl
    none (suc m) = omega (arith, none m)
value_cells p n ρ (t ∷ ts) h b =
    right p (value p (λ c. ρ (decode c)) ts) (weighed n ρ (λ v. total p 0 ts (code v))) (t.1 * ρ (decode t.0))
    (ap (λ (x : ℕ). x % p) (value_cells p n ρ ts h b.2) ∙ mod-mod (weighed n ρ (λ v. total p 0 ts (code v))) p)
    ∙ sym (sum_update p (cells n)
    (λ j. total p 0 ts (code (variable_at n j)) * ρ (variable_at n j))
    (λ j. total p 0 (t ∷ ts) (code (variable_at n j)) * ρ (variable_at n j))
    d (t.1 * ρ (decode t.0)) f.within
    (λ j l ne. ap (λ (x : ℕ). x * ρ (variable_at n j)) (total_there p t.1 ts t.0 (code (variable_at n j)) (other j l ne)))
    at)
  where
    has : (m : ℕ) × (cell n t.0 ≡ Some m)
    has = has_cell n t.0 b.0 b.1

    d : ℕ
    d = has.0

    f : Found n t.0 d
    f = found n t.0 d has.1

    other : (j : ℕ) → j < cells n → (d ≡ j → ⊥) → t.0 ≡ code (variable_at n j) → ⊥
    other j l ne same =
        let s : cell n t.0 ≡ Some j = ap (cell n) same ∙ cell_code n j l in
        let g : cell n t.0 ≡ Some d = has.1 in
        let z : d ≡ j = cc in
        ne z

    rest : ℕ
    rest = total p 0 ts (code (variable_at n d))

    same_variable : variable_at n d ≡ decode t.0
    same_variable = sym (decode_at n d) ∙ ap decode f.of

    at : (total p 0 (t ∷ ts) (code (variable_at n d)) * ρ (variable_at n d)) % p ≡ (t.1 * ρ (decode t.0) + rest * ρ (variable_at n d)) % p
    at =
        ap (λ (x : ℕ). (x * ρ (variable_at n d)) % p) (total_here p t.1 ts t.0 (code (variable_at n d)) h (sym f.of))
        ∙ mul_mod_l (t.1 + rest) (ρ (variable_at n d)) p
        ∙ ap (λ (x : ℕ). x % p) (add-mul t.1 rest (ρ (variable_at n d)))
        ∙ ap (λ (v : Variable). (t.1 * ρ v + rest * ρ (variable_at n d)) % p) same_variable

-- ---- one combination replaced
module _ (p : ℕ) (n : Counts) (ρ f : Variable → ℕ) (end : ℕ) (ws : List ℕ) (pos : 0 < p) (long : heading end ws + 1 ≤ end) (named : Named (up_to n (end - 1 - heading end ws)) (pairs (end - 1 - heading end ws) (heading end ws) ws)) (g : Given p ρ end ws) where
  abbrev start : ℕ
  start = end - 1 - heading end ws

  abbrev terms : Pairs
  terms = pairs (end - 1 - heading end ws) (heading end ws) ws

  abbrev product : ℕ → ℕ
  product j = f (variable_at n j) * ρ (variable_at n j)

  nothing_there : (j : ℕ) → 1 + n.inputs + n.witnesses + start ≤ j → j < 1 + n.inputs + n.witnesses + start + heading end ws → product j ≡ 0
  nothing_there j l u =
      let at : j ≡ 1 + n.inputs + n.witnesses + (j - (1 + n.inputs + n.witnesses)) = omega arith in
      ap (λ (x : ℕ). f (variable_at n j) * x)
      (ap ρ (ap (variable_at n) at ∙ at_combination n (j - (1 + n.inputs + n.witnesses)))
      ∙ g.nothing (j - (1 + n.inputs + n.witnesses)) (omega arith) (omega arith))
      ∙ mul-zero (f (variable_at n j))

  -- the sum before: that over the cells below, and the product of the combination itself
  before : weighed (up_to n end) ρ f ≡ weighed (up_to n start) ρ f + f (Combination (end - 1)) * ρ (Combination (end - 1))
  before =
      ap (λ (x : ℕ). sum_to x product) count
      ∙ ap (λ (x : ℕ). x + product (1 + n.inputs + n.witnesses + start + heading end ws)) (sum_zeros (heading end ws) (1 + n.inputs + n.witnesses + start) product nothing_there)
      ∙ ap (λ (v : Variable). weighed (up_to n start) ρ f + f v * ρ v) (ap (variable_at n) place ∙ at_combination n (end - 1))
    where
      count : 1 + n.inputs + n.witnesses + end ≡ suc (1 + n.inputs + n.witnesses + start + heading end ws)
      count = omega arith

      place : 1 + n.inputs + n.witnesses + start + heading end ws ≡ 1 + n.inputs + n.witnesses + (end - 1)
      place = omega arith

  -- the sum after: k times the value of the terms is added
  after : (k : ℕ) → weighed (up_to n start) ρ (λ v. (f v + k * total p 0 terms (code v)) % p) % p ≡ (weighed (up_to n start) ρ f + k * ρ (Combination (end - 1))) % p
  after k =
      sum_mod p (cells (up_to n start)) _ (λ j. product j + k * (total p 0 terms (code (variable_at n j)) * ρ (variable_at n j))) each
      ∙ ap (λ (x : ℕ). x % p) (sum_plus (cells (up_to n start)) k product (λ j. total p 0 terms (code (variable_at n j)) * ρ (variable_at n j)))
      ∙ sym (times_rem p (weighed (up_to n start) ρ f) k (weighed (up_to n start) ρ (λ v. total p 0 terms (code v))))
      ∙ ap (λ (x : ℕ). (weighed (up_to n start) ρ f + k * x) % p) (sym (value_cells p (up_to n start) ρ terms pos named) ∙ sym g.worth)
      ∙ times_rem p (weighed (up_to n start) ρ f) k (ρ (Combination (end - 1)))
    where
      each : (j : ℕ) → j < cells (up_to n start) → (((f (variable_at n j) + k * total p 0 terms (code (variable_at n j))) % p) * ρ (variable_at n j)) % p ≡ (product j + k * (total p 0 terms (code (variable_at n j)) * ρ (variable_at n j))) % p
      each j l =
          mul_mod_l (f (variable_at n j) + k * total p 0 terms (code (variable_at n j))) (ρ (variable_at n j)) p
          ∙ ap (λ (x : ℕ). x % p)
          (add-mul (f (variable_at n j)) (k * total p 0 terms (code (variable_at n j))) (ρ (variable_at n j))
          ∙ ap (λ (x : ℕ). product j + x) (mul_assoc k (total p 0 terms (code (variable_at n j))) (ρ (variable_at n j))))

  one_replaced : (c : ℕ) → end - 1 ≡ c → weighed (up_to n end) ρ f % p ≡ weighed (up_to n start) ρ (λ v. (f v + f (Combination c) * total p 0 terms (code v)) % p) % p
  one_replaced c e =
      ap (λ (x : ℕ). x % p) before ∙ sym (after (f (Combination (end - 1))))
      ∙ ap (λ (x : ℕ). weighed (up_to n start) ρ (λ v. (f v + f (Combination x) * total p 0 terms (code v)) % p) % p) e

-- ---- all combinations replaced
keeps_from : (p : ℕ) (n : Counts) (ρ f : Variable → ℕ) (k end : ℕ) (ws : List ℕ) → 0 < p → Chain k end ws → Earlier n k end ws → Gives p ρ k end ws → weighed (up_to n end) ρ f % p ≡ weighed (up_to n 0) ρ (expanded p f (older p k end ws)) % p
keeps_from p n ρ f zero end ws h c e g = ap (λ (x : ℕ). weighed (up_to n x) ρ f % p) c
keeps_from p n ρ f (suc k) end ws h c e g =
    one_replaced p n ρ f end ws h c.0 e.0 g.0 (places (older p k start ws) + length terms) place
    ∙ keeps_from p n ρ (λ v. (f v + f (Combination (places (older p k start ws) + length terms)) * total p 0 terms (code v)) % p) k start ws h c.1 e.1 g.1
    ∙ ap (λ (xs : List Combo). weighed (up_to n 0) ρ (expanded p f xs) % p) (sym (older_more p k end ws))
  where
    start : ℕ
    start = end - 1 - heading end ws

    terms : Pairs
    terms = pairs (end - 1 - heading end ws) (heading end ws) ws

    place : end - 1 ≡ places (older p k start ws) + length terms
    place = omega (arith, older_places p k start ws c.1, length_pairs start (heading end ws) ws, c.0)

-- the value of stored terms is the sum of the coefficients of One, of the inputs and of the witnesses, written out, each times what ρ gives
pub keeps : (p : ℕ) (n : Counts) (start len : ℕ) (ws : List ℕ) (ρ : Variable → ℕ) → 0 < p → Chain n.lcs n.front ws → Named n (pairs start len ws) → Earlier n n.lcs n.front ws → Gives p ρ n.lcs n.front ws → value p (λ c. ρ (decode c)) (pairs start len ws) ≡ weighed (up_to n 0) ρ (written_out p n start len ws) % p
keeps p n start len ws ρ h c b e g =
    value_cells p n ρ (pairs start len ws) h b
    ∙ keeps_from p n ρ (λ v. total p 0 (pairs start len ws) (code v)) n.lcs n.front ws h c e g

-- the same of the cells that hold them
over_at : (n : Counts) (f : Variable → ℕ) (os qs : List ℕ) → Over n f os qs → (j : ℕ) → j < 1 + n.inputs + n.witnesses + 0 → get_or qs j 0 ≡ f (variable_at n j)
over_at n f os qs o j h = go (eqb j 0) (ltb (j - 1) n.inputs) (ltb (j - 1 - n.inputs) n.witnesses) refl refl refl
  where
    go : (a b d : Bool) → eqb j 0 ≡ a → ltb (j - 1) n.inputs ≡ b → ltb (j - 1 - n.inputs) n.witnesses ≡ d → get_or qs j 0 ≡ f (cond a One (cond b (Input (j - 1)) (cond d (Witness (j - 1 - n.inputs)) (Combination (j - 1 - n.inputs - n.witnesses)))))
    go true b d p q r = ap (λ (x : ℕ). get_or qs x 0) (eqb-true j 0 p) ∙ o.one
    go false true d p q r =
        let some : j ≡ 0 → ⊥ = eqb-false j 0 p in
        let same : j ≡ 1 + (j - 1) = omega arith in
        ap (λ (x : ℕ). get_or qs x 0) same ∙ o.inputs (j - 1) (ltb-true _ _ q)
    go false false true p q r =
        let some : j ≡ 0 → ⊥ = eqb-false j 0 p in
        let high : n.inputs ≤ j - 1 = ltb-false _ _ q in
        let same : j ≡ 1 + n.inputs + (j - 1 - n.inputs) = omega arith in
        ap (λ (x : ℕ). get_or qs x 0) same ∙ o.witnesses (j - 1 - n.inputs) (ltb-true _ _ r)
    go false false false p q r =
        let some : j ≡ 0 → ⊥ = eqb-false j 0 p in
        let high : n.inputs ≤ j - 1 = ltb-false _ _ q in
        let higher : n.witnesses ≤ j - 1 - n.inputs = ltb-false _ _ r in
        absurd (omega arith)

pub cells_keep : (p : ℕ) (n : Counts) (start len : ℕ) (ws os qs : List ℕ) → 0 < p → Chain n.lcs n.front ws → Over n (written_out p n start len ws) os qs → Keeps p n start len ws qs
cells_keep p n start len ws os qs h c o ρ b e g =
    keeps p n start len ws ρ h c b e g
    ∙ ap (λ (x : ℕ). x % p) (sum_same (1 + n.inputs + n.witnesses + 0) _ (λ j. get_or qs j 0 * ρ (variable_at n j)) (λ j l. ap (λ (x : ℕ). x * ρ (variable_at n j)) (sym (over_at n (written_out p n start len ws) os qs o j l))))
    ∙ ap (λ (x : ℕ). sum_to x (λ j. get_or qs j 0 * ρ (variable_at n j)) % p) none
  where
    none : 1 + n.inputs + n.witnesses + 0 ≡ 1 + n.inputs + n.witnesses
    none = omega arith
