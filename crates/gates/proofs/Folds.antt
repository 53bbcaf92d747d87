-- Loops over the members of a gate: what is left of them, and what came of those before.
use Rattle.std.proofs.Common.{◌≡◌, ℕ, ◌+◌, ◌-◌, ◌<◌, Bool, true, false, cond, ◌&&◌, List, ◌∷◌, length, get_or, take, drop, Some, None, Option, refl, sym, ap, ◌∙◌, add-one, drop-cons, length-drop}
use Rattle.std.proofs.Math.Seq.{take-length}
use Rattle.relations.specs.Script.{answer, then}
use Rattle.allocated.specs.Gates.{either}
use Rattle.boolean.specs.declared.bits.Boolean.{Boolean}
use Rattle.boolean.specs.declared.bits.Boolean.TheVariants.{Constant}
use Rattle.boolean.specs.Booleans.{as_var}
use Rattle.gates.specs.declared.wide.Wide.{Wide}
use Rattle.gates.specs.declared.wide.Wide.TheVariants.{And, Or}
use Rattle.gates.specs.Kary.{joined, all_of, any_of, all_constant, told_all, summed_script, sum_script, compared}

-- a truth value with some more
abbrev pub joined_with : Wide → Bool → List Bool → Bool
joined_with And v bs = v && all_of bs
joined_with Or v bs = either v (any_of bs)

-- what a gate of constants comes to, where those before the members bs came to v
abbrev pub folds : Wide → Bool → List Boolean → Option Bool
folds g v bs = cond (all_constant bs) (Some (joined_with g v (told_all bs))) None

pub next_of : {A : Type 0} (xs : List A) (i : ℕ) (d : A) → i < length xs → drop i xs ≡ get_or xs i d ∷ drop (i + 1) xs
next_of xs i d h = rw (add-one, drop-cons xs i d)

-- where the fold of the members comes to nothing, they are summed
pub summed_is : (g : Wide) (p : ℕ) (bs : List Boolean) → cond (all_constant bs) (Some (joined g (told_all bs))) None ≡ None → summed_script g p bs ≡ then (sum_script bs) (λ s. as_var (compared g p (length bs) s))
summed_is g p bs e = go (all_constant bs) e
  where
    go : (t : Bool) → cond {A = Option Bool} t (Some (joined g (told_all bs))) None ≡ None
        → cond t (answer (Constant (joined g (told_all bs)))) (then (sum_script bs) (λ s. as_var (compared g p (length bs) s))) ≡ then (sum_script bs) (λ s. as_var (compared g p (length bs) s))
    go true n = cc
    go false n = refl

-- what is left of a list from a place on, as a range to its end
pub rest_of : {A : Type 0} (xs : List A) (n : ℕ) → take (length xs - n) (drop n xs) ≡ drop n xs
rest_of xs n = ap (λ k. take k (drop n xs)) (sym (length-drop n xs)) ∙ take-length (drop n xs)
