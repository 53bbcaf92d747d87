-- How many terms the sums of the calls on numbers take, and the parts of their scripts that a constant or a multiple begins.
use Rattle.std.proofs.Common.{◌≡◌, ◌≢◌, ℕ, ◌+◌, ◌%◌, ◌<◌, Bool, true, false, cond, eqb, List, [], ◌∷◌, sym, refl, ap, ◌∙◌, arith, eq-eqb, ne_eqb, true-eqb, false-eqb}
use Rattle.relations.specs.declared.term.Variable.{Variable}
use Rattle.relations.specs.declared.term.Variable.TheVariants.{One, Combination}
use Rattle.relations.specs.declared.term.Term.{Term}
use Rattle.relations.specs.Sum.{code, sum_of}
use Rattle.relations.specs.Terms.{times, less}
use Rattle.fp_var.specs.declared.numbers.FpVar.{FpVar}
use Rattle.fp_var.specs.declared.numbers.FpVar.TheVariants.{Constant, Var}
use Rattle.fp_var.specs.Numbers.{linear, constant_lc, scaled}
use Rattle.laws.specs.Bill.{takes_combination, Next, names, past_terms}
use Rattle.relations.specs.Meaning.{Meaning, has}
use Rattle.bit_laws.specs.Bits.{real}
use Rattle.bit_laws.specs.Bills.{owes}
use Rattle.bit_laws.proofs.Sizes.{sized, just_size, between_size, ones_size, counts}
use Rattle.bit_laws.proofs.Owes.{Older, Later, older_real, older_later, older_there, combination_apart, Owes, owes_answer, owes_combine, owes_if}
use Rattle.bit_laws.proofs.WideBills.{unseen}
use Rattle.number_laws.specs.Numbers.{ThereFp, RealFp}
use Rattle.number_laws.specs.Bills.{number_shadow, multiple_terms, combined_due, scaled_due}

-- ---- names
-- a number is a constant, or came before the next names n
abbrev pub OldFp : Next → FpVar → Type 0
OldFp n (Constant c) = Unit {0}
OldFp n (Var a) = Older n a.variable

pub old_fp_later : (n k : Next) → Later n k → (a : FpVar) → OldFp n a → OldFp k a
old_fp_later n k l (Constant c) h = tt
old_fp_later n k l (Var a) h = older_later n k l a.variable h

pub old_fp_there : (m : Meaning) (a : FpVar) → RealFp a → ThereFp (has m) a → OldFp (names m) a
old_fp_there m (Constant c) r h = tt
old_fp_there m (Var a) r h = older_there m a.variable r h

-- what came before is a constant, an input, a witness or a combination
pub old_fp_real : (n : Next) (a : FpVar) → OldFp n a → RealFp a
old_fp_real n (Constant c) h = tt
old_fp_real n (Var a) h = older_real n a.variable h

-- a variable that came before, and is another than w
abbrev pub Other : Variable → Next → Variable → Type 0
Other w n v = Older n v × (code v ≢ code w)

-- ---- sizes
module _ (p : ℕ) where
  -- a term whose coefficient is 0 modulo p is none
  pub no_size : (c k : ℕ) → k % p ≡ 0 → sized p ((c, k) ∷ []) ≡ 0
  no_size c k h =
      let e = eq-eqb c c refl in
      let x = eq-eqb ((0 + k) % p) 0 (ap (λ (t : ℕ). t % p) (omega arith) ∙ h) in
      simp (e, x)

module _ (p : ℕ) (two : 2 < p) where
  -- a multiple of a variable, and a constant
  pub multiple_size : (c : ℕ) (v : Variable) → real v ≡ true → (sum_of p (times c v ∷ [])).size ≡ multiple_terms p c
  multiple_size c v r = go (eqb (c % p) 0) refl
    where
      go : (t : Bool) → eqb (c % p) 0 ≡ t → (sum_of p (times c v ∷ [])).size ≡ cond t 0 1
      go true e = ap (λ (x : ℕ). sized p ((code v, x) ∷ [])) (counts v c r) ∙ no_size p (code v) c (true-eqb (c % p) 0 (sym e))
      go false e = just_size p two c v (false-eqb (c % p) 0 (sym e)) r

  pub constant_size : (c : ℕ) → (sum_of p (times c One ∷ [])).size ≡ multiple_terms p c
  constant_size c = go (eqb (c % p) 0) refl
    where
      go : (t : Bool) → eqb (c % p) 0 ≡ t → (sum_of p (times c One ∷ [])).size ≡ cond t 0 1
      go true e = no_size p 0 c (true-eqb (c % p) 0 (sym e))
      go false e = ones_size p two c (false-eqb (c % p) 0 (sym e))

  -- the difference of two variables that are not one
  pub apart_size : (x y : Variable) → real x ≡ true → real y ≡ true → code x ≢ code y → (sum_of p (less p x y)).size ≡ 2
  apart_size x y rx ry ne = between_size p two x y rx ry ∙ ap (λ (t : Bool). cond t 0 2) (ne_eqb (code x) (code y) ne)

-- ---- what begins a script
module _ (p : ℕ) (two : 2 < p) (n : Next) where
  -- a combination of k terms as a number
  pub linear_owes : (ts : List Term) (k : ℕ) → (sum_of p ts).size ≡ k → Owes p n (linear ts) number_shadow OldFp (combined_due k)
  linear_owes ts k z = record {
    charged = ap (λ (k : ℕ). takes_combination k ∷ []) z;
    ended = (record { inputs = omega arith; witnesses = omega arith; places = omega arith }, refl, omega arith);
  }

  -- a constant as a combination, which is another than w
  pub constant_owes : (c : ℕ) (w : Variable) → Older n w → Owes p n (constant_lc c) unseen (Other w) (owes (takes_combination (multiple_terms p c) ∷ []) tt)
  constant_owes c w h = owes_combine (times c One ∷ []) (multiple_terms p c) unseen (Other w) tt (constant_size p two c) refl (omega arith, λ e. combination_apart n w (multiple_terms p c) h (sym e))

  -- a multiple of a variable: of the variable itself same is known, and other of a combination
  pub scaled_owes : {A : Type 0} (c : ℕ) (v : Variable) (sh : Variable → A) (Good : Next → Variable → Type 0) (same other : A) → Older n v
      → sh v ≡ same → Good n v → ((k : ℕ) → sh (Combination (n.place + k)) ≡ other) → ((k : ℕ) → Good (past_terms k n) (Combination (n.place + k))) → Owes p n (scaled p c v) sh Good (scaled_due p c same other)
  scaled_owes c v sh Good same other h e g f d =
      owes_if (eqb (c % p) 1) (λ q. owes_answer v sh Good same e g)
      (λ q. owes_combine (times c v ∷ []) (multiple_terms p c) sh Good other (multiple_size p two c v (older_real n v h)) (f (multiple_terms p c)) (d (multiple_terms p c)))
