-- What it means that writing a sum out keeps its value.
use Rattle.std.specs.Prelude.{◌≡◌, ℕ, zero, suc, ◌+◌, ◌-◌, ◌*◌, ◌%◌, ◌<◌, ◌≤◌, true, List, [], ◌∷◌, slice_index}
use Rattle.relations.specs.declared.term.Variable.{Variable}
use Rattle.relations.specs.declared.term.Variable.TheVariants.{Combination}
use Rattle.relations.specs.Sum.{Pairs, code, decode, code_in, value}
use Rattle.words.specs.Words.{pairs, heading}
use Rattle.words.proofs.Values.{sum_to}
use Rattle.written.specs.declared.Counts.{Counts}
use Rattle.written.specs.Cells.{variable_at}

-- the same counts with the combinations below place e alone
abbrev pub up_to : Counts → ℕ → Counts
up_to n e = record { inputs = n.inputs; witnesses = n.witnesses; lcs = n.lcs; front = e }

-- each term names One, an input, a witness or a place below the front, by its code
abbrev pub Named : Counts → Pairs → Type 0
Named n [] = Unit {0}
Named n (t ∷ ts) = (code_in n.inputs n.witnesses n.front t.0 ≡ true) × (code (decode t.0) ≡ t.0) × Named n ts

-- each of k combinations, the last of which ends at a place, names only places below its own terms
abbrev pub Earlier : Counts → ℕ → ℕ → List ℕ → Type 0
Earlier n zero end ws = Unit {0}
Earlier n (suc k) end ws = Named (up_to n (end - 1 - heading end ws)) (pairs (end - 1 - heading end ws) (heading end ws) ws) × Earlier n k (end - 1 - heading end ws) ws

-- ρ gives the combination that ends at a place the value of its terms, and the places of these terms nothing
pub record Given (p : ℕ) (ρ : Variable → ℕ) (end : ℕ) (ws : List ℕ) : Type 0 where
  pub worth : ρ (Combination (end - 1)) % p ≡ value p (λ c. ρ (decode c)) (pairs (end - 1 - heading end ws) (heading end ws) ws)
  pub nothing : (c : ℕ) → end - 1 - heading end ws ≤ c → c < end - 1 → ρ (Combination c) ≡ 0

abbrev pub Gives : ℕ → (Variable → ℕ) → ℕ → ℕ → List ℕ → Type 0
Gives p ρ zero end ws = Unit {0}
Gives p ρ (suc k) end ws = Given p ρ end ws × Gives p ρ k (end - 1 - heading end ws) ws

-- whatever numbers ρ gives, so that each combination has the value of its terms: the value of `len` stored terms from place `start` on
-- is, modulo p, the sum of the first coefficients, those of One, of the inputs and of the witnesses, each times what ρ gives its variable
abbrev pub Keeps : ℕ → Counts → ℕ → ℕ → List ℕ → List ℕ → Type 0
Keeps p n start len ws qs = (ρ : Variable → ℕ) → Named n (pairs start len ws) → Earlier n n.lcs n.front ws → Gives p ρ n.lcs n.front ws → value p (λ c. ρ (decode c)) (pairs start len ws) ≡ sum_to (1 + n.inputs + n.witnesses) (λ j. slice_index qs j * ρ (variable_at n j)) % p
