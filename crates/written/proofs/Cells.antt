-- Cells and codes: each variable that is there has one cell.
use Rattle.std.proofs.Common.{◌≡◌, ℕ, ◌+◌, ◌-◌, ◌*◌, ◌/◌, ◌%◌, ◌<◌, ◌≤◌, Bool, true, false, cond, eqb, ltb, Some, None, Option, sym, refl, ap, ◌∙◌, subst, arith, ltb-false, ltb-true, le-ltb, lt-ltb, eq-eqb, ne_eqb}
use Rattle.std.proofs.lemmas.Bool.{cond-true, cond-false, eqb-true, eqb-false}
use Rattle.relations.specs.declared.term.Variable.TheVariants.{One, Input, Witness, Combination}
use Rattle.relations.specs.Sum.{code}
use Rattle.written.specs.declared.Counts.{Counts}
use Rattle.written.specs.Cells.{cells, variable_at, cell}

-- which variable a cell is of
pub at_input : (n : Counts) (k : ℕ) → k < n.inputs → variable_at n (1 + k) ≡ Input k
at_input n k h =
    cond-false _ _ _ (ne_eqb (1 + k) 0 (λ z. omega arith))
    ∙ cond-true _ _ _ (lt-ltb (1 + k - 1) n.inputs (omega arith))
    ∙ ap Input same
  where
    same : 1 + k - 1 ≡ k
    same = omega arith

pub at_witness : (n : Counts) (k : ℕ) → k < n.witnesses → variable_at n (1 + n.inputs + k) ≡ Witness k
at_witness n k h =
    cond-false _ _ _ (ne_eqb (1 + n.inputs + k) 0 (λ z. omega arith))
    ∙ cond-false _ _ _ (le-ltb (1 + n.inputs + k - 1) n.inputs (omega arith))
    ∙ cond-true _ _ _ (lt-ltb (1 + n.inputs + k - 1 - n.inputs) n.witnesses (omega arith))
    ∙ ap Witness same
  where
    same : 1 + n.inputs + k - 1 - n.inputs ≡ k
    same = omega arith

pub at_combination : (n : Counts) (k : ℕ) → variable_at n (1 + n.inputs + n.witnesses + k) ≡ Combination k
at_combination n k =
    cond-false _ _ _ (ne_eqb (1 + n.inputs + n.witnesses + k) 0 (λ z. omega arith))
    ∙ cond-false _ _ _ (le-ltb (1 + n.inputs + n.witnesses + k - 1) n.inputs (omega arith))
    ∙ cond-false _ _ _ (le-ltb (1 + n.inputs + n.witnesses + k - 1 - n.inputs) n.witnesses (omega arith))
    ∙ ap Combination same
  where
    same : 1 + n.inputs + n.witnesses + k - 1 - n.inputs - n.witnesses ≡ k
    same = omega arith

-- which cell a code is of
cell_input : (n : Counts) (k : ℕ) → k < n.inputs → cell n (8 * k + 1) ≡ Some (1 + k)
cell_input n k h =
    cond-true _ _ _ (eq-eqb ((8 * k + 1) % 8) 1 (omega arith))
    ∙ cond-true _ _ _ (lt-ltb ((8 * k + 1) / 8) n.inputs (omega arith))
    ∙ ap Some same
  where
    same : 1 + (8 * k + 1) / 8 ≡ 1 + k
    same = omega arith

cell_witness : (n : Counts) (k : ℕ) → k < n.witnesses → cell n (8 * k + 2) ≡ Some (1 + n.inputs + k)
cell_witness n k h =
    cond-false _ _ _ (ne_eqb ((8 * k + 2) % 8) 1 (λ z. omega arith))
    ∙ cond-true _ _ _ (eq-eqb ((8 * k + 2) % 8) 2 (omega arith))
    ∙ cond-true _ _ _ (lt-ltb ((8 * k + 2) / 8) n.witnesses (omega arith))
    ∙ ap Some same
  where
    same : 1 + n.inputs + (8 * k + 2) / 8 ≡ 1 + n.inputs + k
    same = omega arith

cell_combination : (n : Counts) (k : ℕ) → k < n.front → cell n (8 * k + 3) ≡ Some (1 + n.inputs + n.witnesses + k)
cell_combination n k h =
    cond-false _ _ _ (ne_eqb ((8 * k + 3) % 8) 1 (λ z. omega arith))
    ∙ cond-false _ _ _ (ne_eqb ((8 * k + 3) % 8) 2 (λ z. omega arith))
    ∙ cond-true _ _ _ (eq-eqb ((8 * k + 3) % 8) 3 (omega arith))
    ∙ cond-true _ _ _ (lt-ltb ((8 * k + 3) / 8) n.front (omega arith))
    ∙ ap Some same
  where
    same : 1 + n.inputs + n.witnesses + (8 * k + 3) / 8 ≡ 1 + n.inputs + n.witnesses + k
    same = omega arith

-- the cell of a cell's variable is that cell
pub cell_code : (n : Counts) (j : ℕ) → j < cells n → cell n (code (variable_at n j)) ≡ Some j
cell_code n j h = go (eqb j 0) (ltb (j - 1) n.inputs) (ltb (j - 1 - n.inputs) n.witnesses) refl refl refl
  where
    first : j ≡ 0 → ◌≡◌ {A = Option ℕ} (Some 0) (Some j)
    first e = ap Some (sym e)

    go : (a b d : Bool) → eqb j 0 ≡ a → ltb (j - 1) n.inputs ≡ b → ltb (j - 1 - n.inputs) n.witnesses ≡ d → cell n (code (cond a One (cond b (Input (j - 1)) (cond d (Witness (j - 1 - n.inputs)) (Combination (j - 1 - n.inputs - n.witnesses)))))) ≡ Some j
    go true b d p q r = first (eqb-true j 0 p)
    go false true d p q r =
        let some : j ≡ 0 → ⊥ = eqb-false j 0 p in
        let same : 1 + (j - 1) ≡ j = omega arith in
        cell_input n (j - 1) (ltb-true _ _ q) ∙ ap Some same
    go false false true p q r =
        let some : j ≡ 0 → ⊥ = eqb-false j 0 p in
        let high : n.inputs ≤ j - 1 = ltb-false _ _ q in
        let same : 1 + n.inputs + (j - 1 - n.inputs) ≡ j = omega arith in
        cell_witness n (j - 1 - n.inputs) (ltb-true _ _ r) ∙ ap Some same
    go false false false p q r =
        let some : j ≡ 0 → ⊥ = eqb-false j 0 p in
        let high : n.inputs ≤ j - 1 = ltb-false _ _ q in
        let higher : n.witnesses ≤ j - 1 - n.inputs = ltb-false _ _ r in
        let same : 1 + n.inputs + n.witnesses + (j - 1 - n.inputs - n.witnesses) ≡ j = omega arith in
        cell_combination n (j - 1 - n.inputs - n.witnesses) (omega arith) ∙ ap Some same

-- what a found cell is
pub record Found (n : Counts) (c m : ℕ) : Type 0 where
  pub within : m < cells n
  pub of : code (variable_at n m) ≡ c

found_input : (n : Counts) (c m : ℕ) → c % 8 ≡ 1 → c / 8 < n.inputs → Some (1 + c / 8) ≡ Some m → Found n c m
found_input n c m t h e =
    let same : 1 + c / 8 ≡ m = cc in
    let whole : 8 * (c / 8) + 1 ≡ c = omega arith in
    subst (Found n c) same record { within = omega arith; of = ap code (at_input n (c / 8) h) ∙ whole }

found_witness : (n : Counts) (c m : ℕ) → c % 8 ≡ 2 → c / 8 < n.witnesses → Some (1 + n.inputs + c / 8) ≡ Some m → Found n c m
found_witness n c m t h e =
    let same : 1 + n.inputs + c / 8 ≡ m = cc in
    let whole : 8 * (c / 8) + 2 ≡ c = omega arith in
    subst (Found n c) same record { within = omega arith; of = ap code (at_witness n (c / 8) h) ∙ whole }

found_combination : (n : Counts) (c m : ℕ) → c % 8 ≡ 3 → c / 8 < n.front → Some (1 + n.inputs + n.witnesses + c / 8) ≡ Some m → Found n c m
found_combination n c m t h e =
    let same : 1 + n.inputs + n.witnesses + c / 8 ≡ m = cc in
    let whole : 8 * (c / 8) + 3 ≡ c = omega arith in
    subst (Found n c) same record { within = omega arith; of = ap code (at_combination n (c / 8)) ∙ whole }

found_one : (n : Counts) (c m : ℕ) → c ≡ 0 → Some 0 ≡ Some m → Found n c m
found_one n c m z e =
    let same : 0 ≡ m = cc in
    subst (Found n c) same record { within = omega arith; of = sym z }

nothing : {A : Type 0} (m : ℕ) → ◌≡◌ {A = Option ℕ} None (Some m) → A
nothing m e = let z : ◌≡◌ {A = ℕ} 0 1 = cc in absurd (omega arith)

pub found : (n : Counts) (c m : ℕ) → cell n c ≡ Some m → Found n c m
found n c m = go (eqb (c % 8) 1) (eqb (c % 8) 2) (eqb (c % 8) 3) (eqb c 0) (ltb (c / 8) n.inputs) (ltb (c / 8) n.witnesses) (ltb (c / 8) n.front) refl refl refl refl refl refl refl
  where
    go : (a b d z i w e : Bool) → eqb (c % 8) 1 ≡ a → eqb (c % 8) 2 ≡ b → eqb (c % 8) 3 ≡ d → eqb c 0 ≡ z → ltb (c / 8) n.inputs ≡ i → ltb (c / 8) n.witnesses ≡ w → ltb (c / 8) n.front ≡ e → cond {A = Option ℕ} a (cond i (Some (1 + c / 8)) None) (cond b (cond w (Some (1 + n.inputs + c / 8)) None) (cond d (cond e (Some (1 + n.inputs + n.witnesses + c / 8)) None) (cond z (Some 0) None))) ≡ Some m → Found n c m
    go true b d z true w e p1 p2 p3 p4 p5 p6 p7 q = found_input n c m (eqb-true _ _ p1) (ltb-true _ _ p5) q
    go true b d z false w e p1 p2 p3 p4 p5 p6 p7 q = nothing m q
    go false true d z i true e p1 p2 p3 p4 p5 p6 p7 q = found_witness n c m (eqb-true _ _ p2) (ltb-true _ _ p6) q
    go false true d z i false e p1 p2 p3 p4 p5 p6 p7 q = nothing m q
    go false false true z i w true p1 p2 p3 p4 p5 p6 p7 q = found_combination n c m (eqb-true _ _ p3) (ltb-true _ _ p7) q
    go false false true z i w false p1 p2 p3 p4 p5 p6 p7 q = nothing m q
    go false false false true i w e p1 p2 p3 p4 p5 p6 p7 q = found_one n c m (eqb-true _ _ p4) q
    go false false false false i w e p1 p2 p3 p4 p5 p6 p7 q = nothing m q
