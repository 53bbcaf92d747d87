-- What an empty combination takes of the terms.
use Rattle.std.proofs.Common.{◌≡◌, ℕ, ◌+◌, ◌≤◌, Bool, true, false, leb, cond, [], ◌∷◌, Ok, Err, Result, refl, sym, ap, ◌∙◌, arith, leb-true, leb-false}
use Rattle.std.specs.Result.{is_err}
use borrow.Author.Tests.{clash}
use Rattle.relations.specs.declared.term.Variable.{Variable}
use Rattle.relations.specs.declared.term.Variable.TheVariants.{Combination}
use Rattle.relations.specs.declared.fault.SystemFault.{SystemFault}
use Rattle.relations.specs.declared.fault.SystemFault.TheVariants.{TermsFull}
use Rattle.relations.specs.Meaning.{Meaning, Ran, places, used, combo_of, with_combo, new_lc}
use Rattle.laws.proofs.Heads.{places_append}

-- what comes of an empty combination, by whether a term is left
abbrev outcome : ℕ → Meaning → Bool → Result Variable SystemFault × Meaning
outcome p m b = cond b (Ok (Combination (places m.combos + 0)), with_combo (combo_of p [] m) m) (Err TermsFull, m)

-- it is refused where no term is left
pub refused_full : (p : ℕ) (m n : Meaning) (r : Result Variable SystemFault) → Ran (new_lc p []) m r n → is_err r ≡ true → m.term_room ≤ used m
refused_full p m n r ran err = go (leb (used m + 1) m.term_room) refl ran
  where
    go : (b : Bool) → leb (used m + 1) m.term_room ≡ b → outcome p m b ≡ (r, n) → m.term_room ≤ used m
    go true fits given = absurd (clash (ap is_err (ap (λ x. x.0) given) ∙ err))
    go false fits given = let h = leb-false (used m + 1) m.term_room fits in omega (arith, h)

-- else it takes one
pub record TakesOne (m n : Meaning) : Type 0 where
  pub room : n.term_room ≡ m.term_room
  pub more : used n ≡ used m + 1
  pub within : used m + 1 ≤ m.term_room

pub takes_one : (p : ℕ) (m n : Meaning) (r : Result Variable SystemFault) → Ran (new_lc p []) m r n → is_err r ≡ false → TakesOne m n
takes_one p m n r ran ok = go (leb (used m + 1) m.term_room) refl ran
  where
    go : (b : Bool) → leb (used m + 1) m.term_room ≡ b → outcome p m b ≡ (r, n) → TakesOne m n
    go true fits given =
        let added : with_combo (combo_of p [] m) m ≡ n = ap (λ x. x.1) given in
        let longer = places_append m.combos (combo_of p [] m ∷ []) in
        record {
          room = ap (λ (x : Meaning). x.term_room) (sym added);
          more = ap used (sym added) ∙ omega (arith, longer);
          within = leb-true (used m + 1) m.term_room fits;
        }
    go false fits given = absurd (clash (sym (ap is_err (ap (λ x. x.0) given) ∙ ok)))
