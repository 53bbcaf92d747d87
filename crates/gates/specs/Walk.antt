-- A bound on the number that bits spell, the lowest bit first: a walk down from the bound's top bit.
use Rattle.std.specs.Prelude.{ℕ, zero, suc, ◌/◌, ◌%◌, ◌^◌, Bool, true, false, cond, List, [], ◌∷◌, ◌++◌, drop, ◌==◌, slice_index_or}
use Rattle.relations.specs.Script.{Script, answer, then}
use Rattle.allocated.specs.declared.gate.Gate.TheVariants.{Or as or_gate}
use Rattle.boolean.specs.declared.bits.Boolean.{Boolean}
use Rattle.boolean.specs.declared.bits.Boolean.TheVariants.{Constant}
use Rattle.boolean.specs.Booleans.{zero_script}
use Rattle.gates.specs.declared.wide.Wide.TheVariants.{And}
use Rattle.gates.specs.Kary.{chain_from, kary_script}

-- bit i of a number
abbrev pub bit_of : ℕ → ℕ → Bool
bit_of e i = (e / 2 ^ i) % 2 == 1

-- how many bits a number has, where it is below 2 ^ n
abbrev pub bits_up_to : ℕ → ℕ → ℕ
bits_up_to e zero = 0
bits_up_to e (suc n) = cond (bit_of e n) (suc n) (bits_up_to e n)

-- how many bits a number below 2 ^ 64 has
abbrev pub bit_length : ℕ → ℕ
bit_length e = bits_up_to e 64

-- the bit at a place; past the end there is the constant 0
abbrev pub place : List Boolean → ℕ → Boolean
place bs i = slice_index_or bs i (Constant false)

-- the bits above the bound's are all 0
abbrev pub above_script : ℕ → List Boolean → Script (Unit {0})
above_script p bs = then (chain_from or_gate p (Constant false) bs) zero_script

-- the end of a run of ones: it goes with what closed the run before, which comes last
abbrev pub closed_script : ℕ → List Boolean → Boolean → Script Boolean
closed_script p [] last = answer last
closed_script p (b ∷ bs) last = kary_script And p ((b ∷ bs) ++ (last ∷ []))

-- at a zero of the bound: the run is closed, and the bit is 0 where all before it was one
abbrev pub fall_script : ℕ → List Boolean → Boolean → Boolean → Script Boolean
fall_script p run last b = then (closed_script p run last) (λ l. then (then (kary_script And p (l ∷ (b ∷ []))) zero_script) (λ u. answer l))

-- from place i down: at a one of the bound the bit joins the run
abbrev pub descent : ℕ → ℕ → ℕ → List Boolean → Boolean → List Boolean → Script (Unit {0})
descent p e zero bs last run = answer tt
descent p e (suc i) bs last run = cond (bit_of e i) (descent p e i bs last (run ++ (place bs i ∷ []))) (then (fall_script p run last (place bs i)) (λ l. descent p e i bs l []))

-- the bits spell at most e
abbrev pub walk_script : ℕ → List Boolean → ℕ → Script (Unit {0})
walk_script p bs e = then (above_script p (drop (bit_length e) bs)) (λ u. descent p e (bit_length e) bs (Constant true) [])
