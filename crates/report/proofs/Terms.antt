-- The terms of a sum, as they are written one by one.
use Rattle.std.proofs.Common.{Iter, Bor, None, Some, ◌≡◌, ℕ, ◌+◌, cond, List, [], ◌∷◌, sym, ap, ◌∙◌, eq-eqb, ne_eqb}
use Rattle.std.proofs.lemmas.List.{nil_from_length}
use Rattle.std.specs.declared.iter.Enumerate.{Enumerate}
use Rattle.std.specs.Iterator.{Yields}
use Rattle.std.specs.List.{FoldsTo}
use Rattle.std.specs.Iterator.Adapters.{enumerate_source, enumerate_count, enumerate_steps}
use Rattle.std.specs.Slice.Iter.{iter_rest, iter_steps}
use Rattle.report.specs.Text.{term_text, term_texts}

-- the terms of the coefficients that an iterator has still to give
abbrev pub left : ℕ → Enumerate (Iter ℕ) → List (List ℕ)
left inputs it = term_texts inputs (enumerate_count it) (iter_rest (enumerate_source it))

-- after the last coefficient
pub none_left : (inputs : ℕ) (s t : Enumerate (Iter ℕ)) → enumerate_steps iter_steps s None t → left inputs s ≡ []
none_left inputs s t step = ap (term_texts inputs (enumerate_count s)) (nil_from_length (iter_rest (enumerate_source s)) step.0.0)

-- a zero coefficient has no term
pub zero_left : (inputs : ℕ) (s t : Enumerate (Iter ℕ)) (x : ℕ × Bor ℕ) → enumerate_steps iter_steps s (Some x) t → x.1.now ≡ 0 → left inputs s ≡ left inputs t
zero_left inputs s t x step zero =
    let k = enumerate_count s in
    let rest = iter_rest (enumerate_source t) in
    ap (term_texts inputs k) step.0
    ∙ ap (λ z. cond z (term_texts inputs (k + 1) rest) (term_text inputs k x.1.now ∷ term_texts inputs (k + 1) rest)) (eq-eqb x.1.now 0 zero)
    ∙ ap (λ j. term_texts inputs j rest) (sym step.2)

-- any other has one
pub one_left : (inputs : ℕ) (s t : Enumerate (Iter ℕ)) (x : ℕ × Bor ℕ) → enumerate_steps iter_steps s (Some x) t → (x.1.now ≡ 0 → ⊥) → left inputs s ≡ term_text inputs x.0 x.1.now ∷ left inputs t
one_left inputs s t x step other =
    let k = enumerate_count s in
    let rest = iter_rest (enumerate_source t) in
    ap (term_texts inputs k) step.0
    ∙ ap (λ z. cond z (term_texts inputs (k + 1) rest) (term_text inputs k x.1.now ∷ term_texts inputs (k + 1) rest)) (ne_eqb x.1.now 0 other)
    ∙ ap (λ j. term_text inputs j x.1.now ∷ term_texts inputs (k + 1) rest) (sym step.1)
    ∙ ap (λ j. term_text inputs x.0 x.1.now ∷ term_texts inputs j rest) (sym step.2)

-- where a search passes over zero coefficients
pub zeros_left : {F : Type 0} (passes : F → ℕ × Bor ℕ → F → Type 0) (zero : (p : F) (x : ℕ × Bor ℕ) (q : F) → passes p x q → x.1.now ≡ 0) (inputs : ℕ) (s : Enumerate (Iter ℕ)) (xs : List (ℕ × Bor ℕ)) (t : Enumerate (Iter ℕ)) (p q : F) → Yields (enumerate_steps iter_steps) s xs t → FoldsTo passes p xs q → left inputs s ≡ left inputs t
zeros_left passes zero inputs s [] t p q run passed = ap (left inputs) run
zeros_left passes zero inputs s (x ∷ xs) t p q run passed =
    zero_left inputs s run.0 x run.1 (zero p x passed.0 passed.1) ∙ zeros_left passes zero inputs run.0 xs t passed.0 q run.2 passed.2
