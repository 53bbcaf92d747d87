-- The text of a report, as the list of its bytes.
use Rattle.std.specs.Prelude.{ℕ, ◌+◌, ◌-◌, cond, List, [], ◌∷◌, ◌++◌, length, codes, decimal, ◌==◌, nat_le}
use Rattle.std.specs.List.{flat_map}
use Rattle.command.specs.declared.answers.Refused.{Refused}
use Rattle.command.specs.Refusals.{refused_text}
use Rattle.systems.specs.declared.reading.Verdict.{Verdict}
use Rattle.systems.specs.declared.reading.Verdict.TheVariants.{Met, Unmet}

-- ---- sums
-- the name of the variable with the index k: one, then the inputs, then the witnesses
abbrev pub name_text : ℕ → ℕ → List ℕ
name_text inputs k =
    cond (k == 0) (codes "one")
    (cond (nat_le k inputs) (codes "i" ++ decimal (k - 1)) (codes "w" ++ decimal (k - 1 - inputs)))

-- a coefficient and the name of its variable
abbrev pub term_text : ℕ → ℕ → ℕ → List ℕ
term_text inputs k coefficient = decimal coefficient ++ (codes " " ++ name_text inputs k)

-- the terms whose coefficient is not zero, the first coefficient being that of the variable with the index k
abbrev pub term_texts : ℕ → ℕ → List ℕ → List (List ℕ)
term_texts inputs k [] = []
term_texts inputs k (c ∷ cs) = cond (c == 0) (term_texts inputs (k + 1) cs) (term_text inputs k c ∷ term_texts inputs (k + 1) cs)

-- more terms after some that stand already
abbrev pub more_terms : List (List ℕ) → List ℕ
more_terms ts = flat_map (λ t. codes " + " ++ t) ts

-- the terms of a whole sum
abbrev pub joined_terms : List (List ℕ) → List ℕ
joined_terms [] = codes "0"
joined_terms (t ∷ ts) = t ++ more_terms ts

-- a sum, from the coefficients of all variables
abbrev pub sum_text : ℕ → List ℕ → List ℕ
sum_text inputs cs = joined_terms (term_texts inputs 0 cs)

-- ---- rows
-- a row: its three sums
abbrev pub row_text : ℕ → List ℕ → List ℕ → List ℕ → List ℕ
row_text inputs a b c =
    sum_text inputs a ++ (codes " ; " ++ (sum_text inputs b ++ (codes " ; " ++ (sum_text inputs c ++ codes "\n"))))

-- ---- the other lines
-- the line of a refusal
abbrev pub refusal_text : Refused → List ℕ
refusal_text r = refused_text r ++ codes "\n"

-- the lines of all refusals
abbrev pub refusals_text : List Refused → List ℕ
refusals_text rs = flat_map refusal_text rs

-- the line of the counts
abbrev pub counts_text : ℕ → ℕ → ℕ → List ℕ
counts_text inputs witnesses rows =
    codes "inputs " ++ (decimal inputs ++ (codes " witnesses " ++ (decimal witnesses ++ (codes " rows " ++ (decimal rows ++ codes "\n")))))

-- the last line
abbrev pub verdict_text : Verdict → List ℕ
verdict_text Met = codes "met\n"
verdict_text (Unmet k) = codes "unmet " ++ (decimal k ++ codes "\n")

-- ---- the whole
-- a row, as the coefficients of its three sums: that of one, then those of the inputs, then those of the witnesses
pub record Sums : Type 0 where
  pub left : List ℕ
  pub right : List ℕ
  pub product : List ℕ

-- the lines of all rows
abbrev pub rows_text : ℕ → List Sums → List ℕ
rows_text inputs ss = flat_map (λ s. row_text inputs s.left s.right s.product) ss

-- what is reported of a system: how many inputs and witnesses it has, its rows, and whether they are met
pub record Page : Type 0 where
  pub inputs : ℕ
  pub witnesses : ℕ
  pub rows : List Sums
  pub verdict : Verdict

-- the text of a report: refusals, counts, rows, last line
abbrev pub report_text : List Refused → Page → List ℕ
report_text refused page =
    refusals_text refused
    ++ (counts_text page.inputs page.witnesses (length page.rows)
    ++ (rows_text page.inputs page.rows ++ verdict_text page.verdict))
