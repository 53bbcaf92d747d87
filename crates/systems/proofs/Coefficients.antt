-- Sums written out where values are forgotten: what is written does not depend on them.
use Rattle.std.proofs.Common.{◌≡◌, ℕ, ◌+◌, ◌*◌, ◌%◌, List, [], ◌∷◌, ◌++◌, map, reverse, length, take, drop, Some, Ok, Err, Result, OnOk, refl, sym, ap, ◌∙◌}
use Rattle.std.proofs.lemmas.List.{map-append, length-map, reverse-append}
use Rattle.relations.specs.declared.term.Variable.{Variable}
use Rattle.relations.specs.declared.term.Variable.TheVariants.{Combination}
use Rattle.relations.specs.Sum.{Sum}
use Rattle.relations.specs.Meaning.{Meaning, Combo, places}
use Rattle.relations.specs.Written.{expanded, written}
use Rattle.laws.specs.Runs.{Assignment, look, evaluated}
use Rattle.words.specs.Words.{tabulate}
use Rattle.words.specs.State.{State, Fit, view}
use Rattle.words.proofs.Tables.{tabulate_same}
use Rattle.systems.specs.declared.store.Store.{Store}
use Rattle.systems.specs.declared.store.Part.{Part}
use Rattle.systems.specs.declared.rooms.OutlineFault.{OutlineFault}
use Rattle.systems.specs.Stores.{bare}
use Rattle.systems.specs.Forgotten.{no_value, shape, forgotten}
use Rattle.systems.specs.Adding.{PartWritten}
use Rattle.systems.specs.Order.{Ordered}
use Rattle.systems.specs.Outline.{width, working, placed, coefficients, row_sum, outlining, KeepsValue}
use Rattle.systems.proofs.Forgetting.{places_same}
use Rattle.systems.proofs.Outline.{Outlined, outlined, outlining_done}

reverse_shape : (xs : List Combo) → reverse (map shape xs) ≡ map shape (reverse xs)
reverse_shape [] = refl
reverse_shape (x ∷ xs) =
    reverse-append (shape x ∷ []) (map shape xs)
    ∙ ap (λ (ys : List Combo). ys ++ (shape x ∷ [])) (reverse_shape xs)
    ∙ sym (map-append shape (reverse xs) (x ∷ []))
    ∙ ap (map shape) (sym (reverse-append (x ∷ []) xs))

expanded_same : (p : ℕ) (f : Variable → ℕ) (xs : List Combo) → expanded p f (map shape xs) ≡ expanded p f xs
expanded_same p f [] = refl
expanded_same p f (x ∷ xs) =
    ap (λ (n : ℕ). expanded p (λ v. (f v + f (Combination (n + x.sum.size)) * x.sum.at v) % p) (map shape xs)) (places_same xs)
    ∙ expanded_same p (λ v. (f v + f (Combination (places xs + x.sum.size)) * x.sum.at v) % p) xs

written_same : (p : ℕ) (m : Meaning) (s : Sum) (v : Variable) → written p (forgotten m) s v ≡ written p m s v
written_same p m s v =
    ap (λ (xs : List Combo). expanded p s.at xs v) (reverse_shape m.combos)
    ∙ ap (λ (f : Variable → ℕ). f v) (expanded_same p s.at (reverse m.combos))

width_same : (m : Meaning) → width (forgotten m) ≡ width m
width_same m = λ i. 1 + length-map m.inputs no_value i + length-map m.witnesses no_value i

coefficients_same : (p : ℕ) (m : Meaning) (s : Sum) → coefficients p (forgotten m) s ≡ coefficients p m s
coefficients_same p m s =
    (λ i. tabulate (width_same m i) (λ j. written p (forgotten m) s (placed (length-map m.inputs no_value i) j)))
    ∙ tabulate_same (width m) (λ j. written p (forgotten m) s (placed (length m.inputs) j)) (λ j. written p m s (placed (length m.inputs) j)) (λ j h. written_same p m s (placed (length m.inputs) j))

evaluated_same : (is us : List ℕ) (done xs : List Combo) → evaluated is us done (map shape xs) ≡ evaluated is us done xs
evaluated_same is us done [] = refl
evaluated_same is us done (x ∷ xs) = evaluated_same is us (done ++ (record { sum = x.sum; kept = Some (x.sum.value (look is us done)) } ∷ [])) xs

keeps_same : (p : ℕ) (m : Meaning) (s : Sum) (cs : List ℕ) → KeepsValue p m s cs → KeepsValue p (forgotten m) s cs
keeps_same p m s cs k a =
    let b : Assignment p m = record {
      inputs = a.inputs;
      witnesses = a.witnesses;
      inputs_long = a.inputs_long ∙ length-map m.inputs no_value;
      witnesses_long = a.witnesses_long ∙ length-map m.witnesses no_value;
      inputs_low = a.inputs_low;
      witnesses_low = a.witnesses_low;
    } in
    ap (λ (xs : List Combo). s.value (look a.inputs a.witnesses xs)) (evaluated_same a.inputs a.witnesses [] m.combos) ∙ k b

-- what writing a part out leaves, where no values are kept
pub record Shaped (s : Store) (part : Part) (i : ℕ) (os qs : List ℕ) : Type 0 where
  pub written : take (width (forgotten (view (bare s)))) qs ≡ coefficients s.modulus (forgotten (view (bare s))) (row_sum part i (view (bare s)))
  pub beyond : drop (working (bare s)) qs ≡ drop (working (bare s)) os
  pub keeps : KeepsValue s.modulus (forgotten (view (bare s))) (row_sum part i (view (bare s))) qs

pub shaped : (s : Store) (part : Part) (i : ℕ) (os qs : List ℕ) → Outlined (bare s) part i os qs → Shaped s part i os qs
shaped s part i os qs o =
    let m = view (bare s) in
    record {
      written = (λ k. take (width_same m k) qs) ∙ o.written ∙ sym (coefficients_same s.modulus m (row_sum part i m));
      beyond = o.beyond;
      keeps = keeps_same s.modulus m (row_sum part i m) qs o.keeps;
    }

-- ---- where it is done
pub on_ok : {A E : Type 0} {P Q : Type 0} (r : Result A E) → (P → Q) → OnOk r P → OnOk r Q
on_ok (Ok x) f h = f h
on_ok (Err e) f h = tt

pub outlined_so : (s : State) (part : Part) (i : ℕ) (os qs : List ℕ) (r : Result (Unit {0}) OutlineFault) → Fit s → Ordered s → r ≡ outlining s.count (working s) i (length os) → OnOk r (PartWritten s part i os qs) → OnOk r (Outlined s part i os qs)
outlined_so s part i os qs (Ok u) f o e w = let d = outlining_done s.count (working s) i (length os) e in outlined s part i os qs f o d.0 d.1 w
outlined_so s part i os qs (Err k) f o e w = tt
