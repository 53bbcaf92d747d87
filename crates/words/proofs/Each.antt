-- Tests of terms as tests of each element of a list.
use Rattle.std.proofs.Common.{◌≡◌, ℕ, Bool, true, false, cond, ◌&&◌, ◌||◌, eqb, List, [], ◌∷◌, reverse, get_or, refl, ap, ◌∙◌}
use Rattle.std.proofs.Math.Bool.{and-true, and_comm}
use Rattle.std.proofs.lemmas.List.{reverse-append}
use Rattle.std.proofs.lemmas.List.Folds.{list_all-append}
use Rattle.std.specs.List.{list_all, list_any}
use Rattle.relations.specs.declared.term.Term.{Term}
use Rattle.relations.specs.Sum.{code, handed, named, code_in, all_in}
use Rattle.words.specs.Words.{stored, there, all_there}

pub all_there_each : (i w e : ℕ) (ws : List ℕ) (ts : List Term) → list_all (λ t. there i w e ws t.variable) ts ≡ all_there i w e ws ts
all_there_each i w e ws [] = refl
all_there_each i w e ws (t ∷ ts) = ap (λ (b : Bool). there i w e ws t.variable && b) (all_there_each i w e ws ts)

pub all_in_each : (i w e : ℕ) (ts : List (List ℕ)) → list_all (λ t. code_in i w e (get_or t 0 0)) ts ≡ all_in i w e (stored ts)
all_in_each i w e [] = refl
all_in_each i w e (t ∷ ts) = ap (λ (b : Bool). code_in i w e (get_or t 0 0) && b) (all_in_each i w e ts)

-- from the last one on
pub all_back : {A : Type 0} (p : A → Bool) (xs : List A) → list_all p (reverse xs) ≡ list_all p xs
all_back p [] = refl
all_back p (x ∷ xs) =
    ap (list_all p) (reverse-append (x ∷ []) xs) ∙ list_all-append p (reverse xs) (x ∷ [])
    ∙ ap (λ b. b && (p x && true)) (all_back p xs) ∙ ap (λ b. list_all p xs && b) (and-true (p x)) ∙ and_comm (list_all p xs) (p x)

pub named_each : (ts : List Term) (c : ℕ) → list_any (λ t. eqb (code t.variable) c) ts ≡ named c (handed ts)
named_each [] c = refl
named_each (t ∷ ts) c = go (eqb (code t.variable) c) (named_each ts c)
  where
    go : (b : Bool) {x y : Bool} → x ≡ y → b || x ≡ cond b true y
    go true e = refl
    go false e = e
