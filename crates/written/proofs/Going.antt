-- From the newest combination down, the coefficients stay the same sum written out.
use Rattle.std.proofs.Common.{◌≡◌, ℕ, suc, ◌+◌, ◌-◌, ◌*◌, ◌%◌, ◌<◌, ◌≤◌, List, [], ◌∷◌, ◌++◌, map, reverse, length, get_or, sym, refl, ap, ◌∙◌, subst, arith}
use Rattle.std.proofs.lemmas.List.{map-append, reverse-append}
use Rattle.relations.specs.declared.term.Variable.{Variable}
use Rattle.relations.specs.declared.term.Variable.TheVariants.{Combination}
use Rattle.relations.specs.Sum.{Pairs, code, total}
use Rattle.relations.specs.Meaning.{Combo, places}
use Rattle.relations.specs.Written.{expanded}
use Rattle.words.specs.Words.{pairs, Kept, combination, combo, combinations, heading, Chain, TakenOff}
use Rattle.words.proofs.Frames.{length_pairs}
use Rattle.words.proofs.Areas.{places_append, combinations_used}
use Rattle.words.proofs.Cuts.{Last, last}
use Rattle.written.specs.declared.Counts.{Counts}
use Rattle.written.specs.Cells.{variable_at, Beyond, Below, Holds, Spread, newest_first, Over}
use Rattle.written.proofs.Cells.{at_input, at_witness, at_combination}
use Rattle.written.proofs.Adding.{spread_below}

-- the first `left` combinations, which end at `end`, the newest first
abbrev pub older : ℕ → ℕ → ℕ → List ℕ → List Combo
older p left end ws = reverse (map (combo p) (combinations left end ws))

places_reverse : (xs : List Combo) → places (reverse xs) ≡ places xs
places_reverse [] = refl
places_reverse (x ∷ xs) = ap places (reverse-append (x ∷ []) xs) ∙ places_append (reverse xs) (x ∷ []) ∙ omega (arith, places_reverse xs)

pub older_places : (p left end : ℕ) (ws : List ℕ) → Chain left end ws → places (older p left end ws) ≡ end
older_places p left end ws c = places_reverse (map (combo p) (combinations left end ws)) ∙ combinations_used p left end ws c

-- the last is the first of the reversed
pushed : (p : ℕ) (xs : List Kept) (x : Kept) → reverse (map (combo p) (xs ++ (x ∷ []))) ≡ combo p x ∷ reverse (map (combo p) xs)
pushed p xs x = ap (λ (ys : List Combo). reverse ys) (map-append (combo p) xs (x ∷ [])) ∙ reverse-append (map (combo p) xs) (combo p x ∷ [])

pub older_more : (p k end : ℕ) (ws : List ℕ) → older p (suc k) end ws ≡ combo p (combination (end - 1 - heading end ws) (heading end ws) ws) ∷ older p k (end - 1 - heading end ws) ws
older_more p k end ws = pushed p (combinations k (end - 1 - heading end ws) ws) (combination (end - 1 - heading end ws) (heading end ws) ws)

older_split : (p left end : ℕ) (ws : List ℕ) → Last left end ws → older p left end ws ≡ combo p (combination (end - 1 - heading end ws) (heading end ws) ws) ∷ older p (left - 1) (end - 1 - heading end ws) ws
older_split p left end ws l = ap (λ (xs : List Kept). reverse (map (combo p) xs)) l.split ∙ pushed p (combinations (left - 1) (end - 1 - heading end ws) ws) (combination (end - 1 - heading end ws) (heading end ws) ws)

-- the coefficients that the cells hold, with the combinations xs still to be replaced, are `whole` written out
pub record Going (p : ℕ) (n : Counts) (os : List ℕ) (xs : List Combo) (whole : Variable → ℕ) : Type 0 where
  pub so_far : Variable → ℕ
  pub holds : Holds n os so_far
  pub same : expanded p so_far xs ≡ whole

pub record Replacing (p : ℕ) (n : Counts) (left end : ℕ) (ws os qs : List ℕ) : Type 0 where
  pub low : end ≤ n.front
  pub chain : Chain left end ws
  pub below : Below p n qs
  pub beyond : Beyond n os qs
  pub going : (f : Variable → ℕ) → Holds n os f → Going p n qs (older p left end ws) (expanded p f (newest_first p n ws))

-- one combination replaced: k is the coefficient in its cell
going_step : (p : ℕ) (n : Counts) (left end k : ℕ) (ws os qs : List ℕ) (whole : Variable → ℕ) → Last left end ws → end ≤ n.front → k ≡ get_or os (1 + n.inputs + n.witnesses + (end - 1)) 0 → Spread p n k (pairs (end - 1 - heading end ws) (heading end ws) ws) os qs → Going p n os (older p left end ws) whole → Going p n qs (older p (left - 1) (end - 1 - heading end ws) ws) whole
going_step p n left end k ws os qs whole l low ke s g = record {
  so_far = λ v. (g.so_far v + g.so_far (Combination (places rest + length ts)) * total p 0 ts (code v)) % p;
  holds = λ j h. s.sums j h ∙ (λ t. (g.holds j h t + coefficient t * total p 0 ts (code (variable_at n j))) % p);
  same = sym (ap (expanded p g.so_far) (older_split p left end ws l)) ∙ g.same;
}
  where
    ts : Pairs
    ts = pairs (end - 1 - heading end ws) (heading end ws) ws

    rest : List Combo
    rest = older p (left - 1) (end - 1 - heading end ws) ws

    place : end - 1 ≡ places rest + length ts
    place = omega (arith, older_places p (left - 1) (end - 1 - heading end ws) ws l.chain, length_pairs (end - 1 - heading end ws) (heading end ws) ws, l.long)

    coefficient : k ≡ g.so_far (Combination (places rest + length ts))
    coefficient =
        ke ∙ g.holds (1 + n.inputs + n.witnesses + (end - 1)) (omega (arith, l.some))
        ∙ ap g.so_far (at_combination n (end - 1) ∙ ap Combination place)

-- the newest is taken off, and its terms are added
pub replacing_step : (p : ℕ) (n : Counts) (left end : ℕ) (us : List ℕ) (left' end' : ℕ) (us' : List ℕ) (at : ℕ) (ts : Pairs) (k : ℕ) (ws os qs rs : List ℕ) → 0 < p → us ≡ ws → TakenOff left end us left' end' us' at ts → k ≡ get_or qs (1 + n.inputs + n.witnesses + at) 0 → Spread p n k ts qs rs → Replacing p n left end ws os qs → (us' ≡ ws) × Replacing p n left' end' ws os rs
replacing_step p n left end us left' end' us' at ts k ws os qs rs pos e t ke s inv = (
  t.same ∙ e,
  subst (λ (x : ℕ). Replacing p n x end' ws os rs) (sym t.fewer) (subst (λ (x : ℕ). Replacing p n (left - 1) x ws os rs) lower record {
    low = omega (arith, inv.low);
    chain = down.chain;
    below = spread_below p n k ts qs rs pos s;
    beyond = λ j b. s.beyond j b ∙ inv.beyond j b;
    going = λ f b. going_step p n left end k ws qs rs _ down inv.low (ke ∙ ap (λ (x : ℕ). get_or qs (1 + n.inputs + n.witnesses + x) 0) t.place) (subst (λ (xs : Pairs). Spread p n k xs qs rs) terms s) (inv.going f b);
  }),
)
  where
    down : Last left end ws
    down = last left end ws t.some inv.chain

    lower : end - 1 - heading end ws ≡ end'
    lower = ap (λ (vs : List ℕ). end - 1 - heading end vs) (sym e) ∙ sym t.lower

    terms : ts ≡ pairs (end - 1 - heading end ws) (heading end ws) ws
    terms = t.terms ∙ ap (λ (vs : List ℕ). pairs (end - 1 - heading end vs) (heading end vs) vs) e

-- what the first cells hold
pub over : (n : Counts) (f : Variable → ℕ) (os qs : List ℕ) → Holds n qs f → Beyond n os qs → Over n f os qs
over n f os qs h b = record {
  one = h 0 (omega arith);
  inputs = λ i l. h (1 + i) (omega arith) ∙ ap f (at_input n i l);
  witnesses = λ j l. h (1 + n.inputs + j) (omega arith) ∙ ap f (at_witness n j l);
  beyond = b;
}
