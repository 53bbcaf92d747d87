-- Whether the kept values meet the rows, as a system sees it, and whether they obey.
use Rattle.std.proofs.Common.{◌≡◌, ◌↔◌, ℕ, ◌+◌, ◌*◌, ◌%◌, Bool, true, false, cond, List, [], ◌∷◌, Some, None, Option, sym, refl, ap, ◌∙◌, arith, eqb-true, eq-eqb}
use Rattle.std.proofs.Math.Nat.{mod-eq_of_lt}
use Rattle.relations.specs.Sum.{Row}
use Rattle.relations.specs.Meaning.{Meaning, has, assigned}
use Rattle.relations.specs.Unmet.{met, unmet_from, first_unmet}
use Rattle.laws.specs.Law.{Val, There}
use Rattle.laws.specs.Runs.{Met, RowsKnown}

module _ (p : ℕ) (h : There) (ρ : Val) where
  no_none : {A : Type 0} {n : ℕ} → ◌≡◌ {A = Option ℕ} (Some n) None → A
  no_none e = let z : ◌≡◌ {A = ℕ} 0 1 = cc e in absurd (omega arith)

  -- where none of some rows is seen unmet they are met
  pub rows_met : (rs : List Row) → RowsKnown p h rs → (n : ℕ) → unmet_from p ρ n rs ≡ None → Met p ρ rs
  rows_met [] k n e = tt
  rows_met (r ∷ rs) k n e = go (met p ρ r) refl e (λ q. rows_met rs k.1 (n + 1) q)
    where
      go : (b : Bool) → met p ρ r ≡ b → cond b (unmet_from p ρ (n + 1) rs) (Some n) ≡ None → (unmet_from p ρ (n + 1) rs ≡ None → Met p ρ rs) → Met p ρ (r ∷ rs)
      go true m q rest = (eqb-true ((r.a.value ρ * r.b.value ρ) % p) (r.c.value ρ) m ∙ sym (mod-eq_of_lt (k.0.2.below ρ)), rest q)
      go false m q rest = no_none q

  -- and the other way round
  pub none_unmet : (rs : List Row) → RowsKnown p h rs → (n : ℕ) → Met p ρ rs → unmet_from p ρ n rs ≡ None
  none_unmet [] k n m = refl
  none_unmet (r ∷ rs) k n m =
      ap (λ (b : Bool). cond b (unmet_from p ρ (n + 1) rs) (Some n)) (eq-eqb ((r.a.value ρ * r.b.value ρ) % p) (r.c.value ρ) (m.0 ∙ mod-eq_of_lt (k.0.2.below ρ)))
      ∙ none_unmet rs k.1 (n + 1) m.1

-- where values are kept, a system sees no unmet row exactly where they meet the rows
pub sees_met : (p : ℕ) (m : Meaning) → RowsKnown p (has m) m.rows → m.keeps ≡ true → (first_unmet p m ≡ None) ↔ Met p (assigned m) m.rows
sees_met p m k keeps =
    let same : first_unmet p m ≡ unmet_from p (assigned m) 0 m.rows = ap (λ (b : Bool). cond b (unmet_from p (assigned m) 0 m.rows) None) keeps in (
      λ e. rows_met p (has m) (assigned m) m.rows k 0 (sym same ∙ e),
      λ q. same ∙ none_unmet p (has m) (assigned m) m.rows k 0 q,
    )
