-- Going through the rows to the first that is not met.
use Rattle.std.proofs.Common.{◌≡◌, ℕ, zero, suc, ◌+◌, ◌*◌, ◌%◌, ◌<◌, ◌≤◌, Bool, true, false, cond, eqb, List, [], ◌∷◌, ◌++◌, get_or, drop, Some, None, sym, refl, ap, ◌∙◌, length, arith, lt-ltb, le-ltb}
use Rattle.std.proofs.lemmas.List.{at_drop_more, at_drop_all, get_or-map}
use Rattle.relations.specs.Sum.{Row, row_of}
use Rattle.relations.specs.Meaning.{assigned}
use Rattle.words.specs.Words.{tabulate, Triple, rows, row_at, meant}
use Rattle.words.specs.State.{State, view}
use Rattle.words.proofs.Tables.{tabulate_at}
use Rattle.words.proofs.Areas.{rows_length}
use Rattle.relations.specs.Unmet.{met, is_met, unmet_from, first_unmet}
use Rattle.systems.proofs.Views.{rows_long}

rows_table : (n : ℕ) (rs ws : List ℕ) → rows n rs ws ≡ tabulate n (λ i. row_at i rs ws)
rows_table zero rs ws = refl
rows_table (suc n) rs ws = ap (λ (xs : List Triple). xs ++ (row_at n rs ws ∷ [])) (rows_table n rs ws)

pub row_is : (s : State) (i : ℕ) (r : Row) → i < s.count → get_or (view s).rows i r ≡ meant s.modulus (row_at i s.row_words s.term_words)
row_is s i r h =
    let d = row_at i s.row_words s.term_words in
    get_or-map (meant s.modulus) (rows s.count s.row_words s.term_words) i d r (omega (arith, rows_length s.count s.row_words s.term_words))
    ∙ ap (meant s.modulus) (ap (λ (xs : List Triple). get_or xs i d) (rows_table s.count s.row_words s.term_words) ∙ tabulate_at s.count i (λ j. row_at j s.row_words s.term_words) d h)

-- at row i: the rows from i on
from_here : (s : State) (i : ℕ) (b : Bool) → i < s.count → b ≡ met s.modulus (assigned (view s)) (meant s.modulus (row_at i s.row_words s.term_words)) →
    unmet_from s.modulus (assigned (view s)) i (drop i (view s).rows) ≡ cond b (unmet_from s.modulus (assigned (view s)) (i + 1) (drop (i + 1) (view s).rows)) (Some i)
from_here s i b h e =
    at_drop_more (λ (xs : List Row). unmet_from s.modulus (assigned (view s)) i xs) (view s).rows i (meant s.modulus (row_at i s.row_words s.term_words)) (omega (arith, rows_long s))
    ∙ ap (λ (x : Row). cond (met s.modulus (assigned (view s)) x) (unmet_from s.modulus (assigned (view s)) (i + 1) (drop (i + 1) (view s).rows)) (Some i)) (row_is s i (meant s.modulus (row_at i s.row_words s.term_words)) h)
    ∙ ap (λ (x : Bool). cond x (unmet_from s.modulus (assigned (view s)) (i + 1) (drop (i + 1) (view s).rows)) (Some i)) (sym e)

pub on : (s : State) (i : ℕ) → i < s.count → true ≡ met s.modulus (assigned (view s)) (meant s.modulus (row_at i s.row_words s.term_words)) → unmet_from s.modulus (assigned (view s)) i (drop i (view s).rows) ≡ first_unmet s.modulus (view s) → unmet_from s.modulus (assigned (view s)) (i + 1) (drop (i + 1) (view s).rows) ≡ first_unmet s.modulus (view s)
on s i h e inv = sym (from_here s i true h e) ∙ inv

pub stop : (s : State) (i : ℕ) → i < s.count → false ≡ met s.modulus (assigned (view s)) (meant s.modulus (row_at i s.row_words s.term_words)) → unmet_from s.modulus (assigned (view s)) i (drop i (view s).rows) ≡ first_unmet s.modulus (view s) → Some i ≡ first_unmet s.modulus (view s)
stop s i h e inv = sym (from_here s i false h e) ∙ inv

pub end : (s : State) (i : ℕ) → s.count ≤ i → unmet_from s.modulus (assigned (view s)) i (drop i (view s).rows) ≡ first_unmet s.modulus (view s) → None ≡ first_unmet s.modulus (view s)
end s i h inv = sym (at_drop_all (λ (xs : List Row). unmet_from s.modulus (assigned (view s)) i xs) (view s).rows i (omega (arith, rows_long s))) ∙ inv

pub met_is : (p a b c x y z : ℕ) → a ≡ x → b ≡ y → c ≡ z → eqb ((a * b + 0) % p) c ≡ eqb ((x * y) % p) z
met_is p a b c x y z e f g = λ i. eqb (all i % p) (g i)
  where
    plain : (n : ℕ) → n + 0 ≡ n
    plain n = omega arith

    all : a * b + 0 ≡ x * y
    all = plain (a * b) ∙ (λ i. e i * f i)

-- row i is there, and is met or not
pub row_judged : (s : State) (p i : ℕ) (b : Bool) → s.modulus ≡ p → i < s.count → b ≡ met s.modulus (assigned (view s)) (meant s.modulus (row_at i s.row_words s.term_words)) → Some b ≡ is_met p i (view s)
row_judged s p i b q h e =
    let d = row_of 0 [] [] [] in
    ap Some (e ∙ (λ k. met (q k) (assigned (view s)) (sym (row_is s i d h) k)))
    ∙ (λ k. cond (sym (lt-ltb i (length (view s).rows) (omega (arith, h, rows_long s))) k) (Some (met p (assigned (view s)) (get_or (view s).rows i d))) None)

pub row_missing : (s : State) (p i : ℕ) → s.count ≤ i → None ≡ is_met p i (view s)
row_missing s p i h = λ k. cond (sym (le-ltb i (length (view s).rows) (omega (arith, h, rows_long s))) k) (Some (met p (assigned (view s)) (get_or (view s).rows i (row_of 0 [] [] [])))) None
