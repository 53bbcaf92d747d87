-- The walk down from a bound's top bit, from one turn of its loop to the next.
use Rattle.std.proofs.Common.{◌≡◌, ℕ, suc, ◌+◌, Bool, true, false, cond, List, [], ◌∷◌, ◌++◌, Ok, Err, ap, ◌∙◌, sym, add-one}
use Rattle.relations.specs.declared.fault.GadgetFault.{GadgetFault}
use Rattle.relations.specs.Meaning.{Meaning}
use Rattle.relations.specs.Script.{Script, run, then}
use Rattle.relations.proofs.Then.{then_ok, then_err}
use Rattle.boolean.specs.declared.bits.Boolean.{Boolean}
use Rattle.gates.specs.Walk.{bit_of, bits_up_to, place, fall_script, descent}

-- the top bit is the highest that is there
pub top_here : (e n m : ℕ) → m ≡ n + 1 → bit_of e n ≡ true → bits_up_to e m ≡ n + 1
top_here e n m i t = ap (bits_up_to e) (i ∙ add-one n) ∙ ap (λ b. cond b (suc n) (bits_up_to e n)) t ∙ sym (add-one n)

pub top_below : (e n m : ℕ) → m ≡ n + 1 → bit_of e n ≡ false → bits_up_to e m ≡ bits_up_to e n
top_below e n m i t = ap (bits_up_to e) (i ∙ add-one n) ∙ ap (λ b. cond b (suc n) (bits_up_to e n)) t

abbrev falling : ℕ → ℕ → ℕ → List Boolean → Boolean → List Boolean → Script (Unit {0})
falling p e i bs last run = then (fall_script p run last (place bs i)) (λ l. descent p e i bs l [])

step : (p e i m : ℕ) (bs : List Boolean) (last : Boolean) (run : List Boolean) (t : Bool) → m ≡ i + 1 → bit_of e i ≡ t
    → descent p e m bs last run ≡ cond t (descent p e i bs last (run ++ (place bs i ∷ []))) (falling p e i bs last run)
step p e i m bs last run t is b =
    ap (λ n. descent p e n bs last run) (is ∙ add-one i) ∙ ap (λ t. cond t (descent p e i bs last (run ++ (place bs i ∷ []))) (falling p e i bs last run)) b

-- at a one of the bound the bit joins the run
pub walk_joins : (p e i m : ℕ) (bs : List Boolean) (last : Boolean) (gathered more : List Boolean) (s : Meaning) → m ≡ i + 1 → bit_of e i ≡ true → more ≡ gathered ++ (place bs i ∷ [])
    → run p (descent p e m bs last gathered) s ≡ run p (descent p e i bs last more) s
walk_joins p e i m bs last gathered more s is b with_it =
    ap (λ d. run p d s) (step p e i m bs last gathered true is b ∙ ap (descent p e i bs last) (sym with_it))

-- at a zero the run is closed
pub walk_falls : (p e i m : ℕ) (bs : List Boolean) (last l : Boolean) (gathered none : List Boolean) (s t : Meaning) → m ≡ i + 1 → bit_of e i ≡ false → run p (fall_script p gathered last (place bs i)) s ≡ (Ok l, t) → none ≡ []
    → run p (descent p e m bs last gathered) s ≡ run p (descent p e i bs l none) t
walk_falls p e i m bs last l gathered none s t is b ran empty =
    ap (λ d. run p d s) (step p e i m bs last gathered false is b)
    ∙ then_ok p (fall_script p gathered last (place bs i)) (λ l. descent p e i bs l []) s t l ran ∙ ap (λ d. run p (descent p e i bs l d) t) (sym empty)

pub walk_stops : (p e i m : ℕ) (bs : List Boolean) (last : Boolean) (gathered : List Boolean) (s t : Meaning) (f : GadgetFault) → m ≡ i + 1 → bit_of e i ≡ false → run p (fall_script p gathered last (place bs i)) s ≡ (Err f, t)
    → run p (descent p e m bs last gathered) s ≡ (Err f, t)
walk_stops p e i m bs last gathered s t f is b ran =
    ap (λ d. run p d s) (step p e i m bs last gathered false is b)
    ∙ then_err p (fall_script p gathered last (place bs i)) (λ l. descent p e i bs l []) s t f ran
