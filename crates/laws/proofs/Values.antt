-- Assignments to inputs and witnesses, and the numbers that they give to combinations.
use Rattle.std.proofs.Common.{◌≡◌, ℕ, zero, suc, ◌+◌, ◌<◌, true, ltb, List, [], ◌∷◌, ◌++◌, map, length, get_or, Some, None, Option, sym, refl, ap, ◌∙◌, subst, ⊎_elim, append_assoc, append-nil, le_of_suc-le-suc, arith, ltb-true}
use lib.ListN.{length-map, get_or-map}
use borrow.Author.Tests.{clash}
use Rattle.relations.specs.declared.term.Variable.{Variable}
use Rattle.relations.specs.declared.term.Variable.TheVariants.{One, Zero, Input, Witness, Combination}
use Rattle.relations.specs.Meaning.{Meaning, Combo, places, number, kept_at, known, assigned}
use Rattle.laws.specs.Law.{Val, Low}
use Rattle.laws.specs.Runs.{Met, Sums, Agree, Same, Formed, Proper, Solves, Right, AllLow, Assignment, look, evaluated, values}
use Rattle.laws.proofs.Heads.{Alike, alike_append, places_alike, known_alike, head_new, kept_append, kept_new, head_cases}
use Rattle.laws.proofs.Own.{kept_low}

-- a combination with its value
given : List ℕ → List ℕ → List Combo → Combo → Combo
given is ws done x = record { sum = x.sum; kept = Some (x.sum.value (look is ws done)) }

-- evaluation adds behind what is done, with the same sums
evaluated_grows : (is ws : List ℕ) (done cs : List Combo) → (zs : List Combo) × (evaluated is ws done cs ≡ done ++ zs) × Alike zs cs
unfolding given
evaluated_grows is ws done [] = ([], sym (append-nil done), tt)
evaluated_grows is ws done (x ∷ cs) =
    let y : Combo = given is ws done x in
    let r = evaluated_grows is ws (done ++ (y ∷ [])) cs in
    (y ∷ r.0, r.1 ∙ append_assoc done (y ∷ []) r.0, (refl, r.2))

-- what was evaluated stays
look_old : (i w : ℕ) (is ws : List ℕ) (done zs : List Combo) → Agree (known i w done) (look is ws done) (look is ws (done ++ zs))
look_old i w is ws done zs One k = refl
look_old i w is ws done zs Zero k = refl
look_old i w is ws done zs (Input n) k = refl
look_old i w is ws done zs (Witness n) k = refl
look_old i w is ws done zs (Combination c) k = kept_append c done zs k

-- ---- the numbers of an assignment are those of the sums
-- from some that are done on
values_sums_from : (p i w : ℕ) (is ws : List ℕ) (old done cs : List Combo) → Alike old done → Formed p i w old cs → Sums (look is ws (evaluated is ws done cs)) old cs
unfolding given
values_sums_from p i w is ws old done [] a f = tt
values_sums_from p i w is ws old done (x ∷ cs) a f =
    let y : Combo = given is ws done x in
    let r = evaluated_grows is ws (done ++ (y ∷ [])) cs in
    let whole : evaluated is ws done (x ∷ cs) ≡ done ++ (y ∷ r.0) = r.1 ∙ append_assoc done (y ∷ []) r.0 in
    let σ : Val = look is ws (evaluated is ws done (x ∷ cs)) in
    let g : Agree (known i w old) (look is ws done) σ =
    subst (λ (l : List Combo). Agree (known i w old) (look is ws done) (look is ws l)) (sym whole)
    (λ v k. look_old i w is ws done (y ∷ r.0) v (sym (known_alike i w old done a v) ∙ k)) in (
      ap (λ (c : ℕ). kept_at (c + x.sum.size) (evaluated is ws done (x ∷ cs))) (places_alike old done a)
          ∙ ap (kept_at (places done + x.sum.size)) r.1
          ∙ kept_append (places done + x.sum.size) (done ++ (y ∷ [])) r.0 (head_new done y)
          ∙ kept_new done y ∙ sym (f.0.local (look is ws done) σ g),
      values_sums_from p i w is ws (old ++ (x ∷ [])) (done ++ (y ∷ [])) cs (alike_append old done (x ∷ []) (y ∷ []) a (refl, tt)) f.1,
    )

-- ---- numbers that are those of the sums are an assignment's
-- from some that are done on
values_only_from : (p i w : ℕ) (ρ : Val) (is ws : List ℕ) (old done cs : List Combo) → Alike old done → Agree (known i w done) ρ (look is ws done) → Formed p i w old cs → Sums ρ old cs → Agree (known i w (old ++ cs)) ρ (look is ws (evaluated is ws done cs))
unfolding given
values_only_from p i w ρ is ws old done [] a g f s v k = g v (sym (known_alike i w old done a v) ∙ sym (ap (λ (l : List Combo). known i w l v) (append-nil old)) ∙ k)
values_only_from p i w ρ is ws old done (x ∷ cs) a g f s v k =
    values_only_from p i w ρ is ws (old ++ (x ∷ [])) (done ++ (y ∷ [])) cs (alike_append old done (x ∷ []) (y ∷ []) a (refl, tt)) more f.1 s.1 v
    (ap (λ (l : List Combo). known i w l v) (append_assoc old (x ∷ []) cs) ∙ k)
  where
    y : Combo
    y = record { sum = x.sum; kept = Some (x.sum.value (look is ws done)) }

    more : Agree (known i w (done ++ (y ∷ []))) ρ (look is ws (done ++ (y ∷ [])))
    more One q = g One refl
    more Zero q = g Zero refl
    more (Input n) q = g (Input n) q
    more (Witness n) q = g (Witness n) q
    more (Combination c) q = ⊎_elim
        (λ h. kept_append c done (y ∷ []) h ∙ g (Combination c) h)
        (λ e. ap (λ (n : ℕ). kept_at n (done ++ (y ∷ []))) e ∙ kept_new done y ∙ f.0.local ρ (look is ws done) (λ u r. g u (sym (known_alike i w old done a u) ∙ r)) ∙ sym s.0
        ∙ ap (λ (n : ℕ). ρ (Combination (n + x.sum.size))) (places_alike old done a) ∙ ap (λ (n : ℕ). ρ (Combination n)) (sym e))
        (head_cases c done y q)

-- ---- below p
-- each number of a list is below p
low_at : (p : ℕ) → 1 < p → (xs : List ℕ) → AllLow p xs → (k : ℕ) → get_or xs k 0 < p
low_at p above [] h k = omega arith
low_at p above (x ∷ xs) h zero = h.0
low_at p above (x ∷ xs) h (suc k) = low_at p above xs h.1 k

-- so are the values of combinations
evaluated_low : (p : ℕ) → 1 < p → (i w : ℕ) (is ws : List ℕ) (old done cs : List Combo) → Formed p i w old cs → ((c : ℕ) → kept_at c done < p) → (c : ℕ) → kept_at c (evaluated is ws done cs) < p
unfolding given
evaluated_low p above i w is ws old done [] f h c = h c
evaluated_low p above i w is ws old done (x ∷ cs) f h c =
    let y : Combo = given is ws done x in
    evaluated_low p above i w is ws (old ++ (x ∷ [])) (done ++ (y ∷ [])) cs f.1 (kept_low p above done y h (f.0.below (look is ws done))) c

-- so are all numbers of an assignment
pub values_low : (p : ℕ) → 1 < p → (m : Meaning) (a : Assignment p m) → Proper p m → Low p (values m a)
values_low p above m a pr = record { one = refl; zero = refl; low = go }
  where
    go : (v : Variable) → values m a v < p
    go One = above
    go Zero = omega arith
    go (Input k) = low_at p above a.inputs a.inputs_low k
    go (Witness k) = low_at p above a.witnesses a.witnesses_low k
    go (Combination c) = evaluated_low p above (length m.inputs) (length m.witnesses) a.inputs a.witnesses [] [] m.combos pr.formed (λ c. omega arith) c

-- the combinations of a system
pub values_sums : (p : ℕ) (m : Meaning) (a : Assignment p m) → Proper p m → Sums (values m a) [] m.combos
values_sums p m a pr = values_sums_from p (length m.inputs) (length m.witnesses) a.inputs a.witnesses [] [] m.combos tt pr.formed

-- an assignment that meets the rows solves the system
pub values_solve : (p : ℕ) → 1 < p → (m : Meaning) (a : Assignment p m) → Proper p m → Met p (values m a) m.rows → Solves p m (values m a)
values_solve p above m a pr met = record { low = values_low p above m a pr; sums = values_sums p m a pr; met = met }

-- an assignment that has ρ's numbers at the inputs and witnesses has them at the combinations
pub values_only : (p : ℕ) (m : Meaning) (a : Assignment p m) (ρ : Val) → Proper p m → Low p ρ → Sums ρ [] m.combos
    → ((k : ℕ) → ltb k (length m.inputs) ≡ true → get_or a.inputs k 0 ≡ ρ (Input k)) → ((k : ℕ) → ltb k (length m.witnesses) ≡ true → get_or a.witnesses k 0 ≡ ρ (Witness k)) → Same m ρ (values m a)
values_only p m a ρ pr low sums fi fw = values_only_from p (length m.inputs) (length m.witnesses) ρ a.inputs a.witnesses [] [] m.combos tt go pr.formed sums
  where
    go : Agree (known (length m.inputs) (length m.witnesses) []) ρ (look a.inputs a.witnesses [])
    go One q = sym low.one
    go Zero q = sym low.zero
    go (Input k) q = fi k q
    go (Witness k) q = fw k q
    go (Combination c) q = absurd (clash q)

-- ---- the assignment that ρ is
-- the first numbers of a function
listing : ℕ → (ℕ → ℕ) → List ℕ
listing zero f = []
listing (suc n) f = f 0 ∷ listing n (λ k. f (suc k))

-- there are so many
length_listing : (n : ℕ) (f : ℕ → ℕ) → length (listing n f) ≡ n
unfolding listing
length_listing zero f = refl
length_listing (suc n) f = ap suc (length_listing n (λ k. f (suc k)))

-- they are below p
low_listing : (p n : ℕ) (f : ℕ → ℕ) → ((k : ℕ) → f k < p) → AllLow p (listing n f)
unfolding listing
low_listing p zero f h = tt
low_listing p (suc n) f h = (h 0, low_listing p n (λ k. f (suc k)) (λ k. h (suc k)))

-- each is the function's
listing_at : (n : ℕ) (f : ℕ → ℕ) (k : ℕ) → k < n → get_or (listing n f) k 0 ≡ f k
unfolding listing
listing_at zero f k h = absurd (omega arith)
listing_at (suc n) f zero h = refl
listing_at (suc n) f (suc k) h = listing_at n (λ k. f (suc k)) k (le_of_suc-le-suc h)

-- the numbers of inputs and witnesses
pub assignment_of : (p : ℕ) (m : Meaning) (ρ : Val) → Low p ρ → Assignment p m
assignment_of p m ρ low = record {
  inputs = listing (length m.inputs) (λ k. ρ (Input k));
  witnesses = listing (length m.witnesses) (λ k. ρ (Witness k));
  inputs_long = length_listing (length m.inputs) (λ k. ρ (Input k));
  witnesses_long = length_listing (length m.witnesses) (λ k. ρ (Witness k));
  inputs_low = low_listing p (length m.inputs) (λ k. ρ (Input k)) (λ k. low.low (Input k));
  witnesses_low = low_listing p (length m.witnesses) (λ k. ρ (Witness k)) (λ k. low.low (Witness k));
}

-- it gives all that is there ρ's numbers
pub assignment_agrees : (p : ℕ) (m : Meaning) (ρ : Val) → Proper p m → (s : Solves p m ρ) → Same m ρ (values m (assignment_of p m ρ s.low))
unfolding assignment_of
assignment_agrees p m ρ pr s = values_only p m (assignment_of p m ρ s.low) ρ pr s.low s.sums
    (λ k h. listing_at (length m.inputs) (λ k. ρ (Input k)) k (ltb-true k (length m.inputs) h))
    (λ k h. listing_at (length m.witnesses) (λ k. ρ (Witness k)) k (ltb-true k (length m.witnesses) h))

-- ---- the assignment that is kept
-- the kept numbers are below p
pub low_numbers : (p : ℕ) (xs : List (Option ℕ)) → ((k : ℕ) → number (get_or xs k None) < p) → AllLow p (map number xs)
low_numbers p [] h = tt
low_numbers p (x ∷ xs) h = (h 0, low_numbers p xs (λ k. h (suc k)))

-- the kept numbers of inputs and witnesses
abbrev pub own_assignment : (p : ℕ) (m : Meaning) → Right p m → Assignment p m
own_assignment p m r = record {
  inputs = map number m.inputs;
  witnesses = map number m.witnesses;
  inputs_long = length-map m.inputs number;
  witnesses_long = length-map m.witnesses number;
  inputs_low = low_numbers p m.inputs (λ k. r.low.low (Input k));
  witnesses_low = low_numbers p m.witnesses (λ k. r.low.low (Witness k));
}

-- it gives all that is there the kept numbers
pub own_agrees : (p : ℕ) (m : Meaning) → Proper p m → (r : Right p m) → Same m (assigned m) (values m (own_assignment p m r))
own_agrees p m pr r = values_only p m (own_assignment p m r) (assigned m) pr r.low r.sums (λ k h. get_or-map number m.inputs k None) (λ k h. get_or-map number m.witnesses k None)
