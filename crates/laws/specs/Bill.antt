-- What a script asks a system for, and what the system's rooms say to it.
use Rattle.std.specs.Prelude.{◌≡◌, ℕ, ◌+◌, ◌≤◌, Bool, true, false, cond, List, [], ◌∷◌, map, length, Some, None, Ok, Err, Option, Result, nat_le, nat_lt}
use Rattle.relations.specs.declared.term.Variable.{Variable}
use Rattle.relations.specs.declared.term.Variable.TheVariants.{Input, Witness, Combination}
use Rattle.relations.specs.declared.fault.SystemFault.TheVariants.{MissingValue, TermsFull}
use Rattle.relations.specs.declared.fault.GadgetFault.{GadgetFault}
use Rattle.relations.specs.declared.fault.GadgetFault.TheVariants.{System}
use Rattle.relations.specs.Sum.{sum_of, row_of}
use Rattle.relations.specs.Meaning.{Meaning, assigned, full, places, row_use, used, rows_full}
use Rattle.relations.specs.declared.term.Side.{Side}
use Rattle.relations.specs.declared.term.Side.TheVariants.{Input as input, Witness as witness}
use Rattle.relations.specs.Script.{Script, answer, refuse, allocate, combine, row}
use Rattle.laws.specs.Law.{Val, There, present}
use Rattle.laws.specs.Runs.{Agree}

-- one thing that is asked for: an input or witness, and whether there is a value for it; a combination of so many terms, its heading not
-- counted; a row of so many terms; or a refusal of the gadget's own
pub data Charge : Type 0 where
  takes_variable : Side → Bool → Charge
  takes_combination : ℕ → Charge
  takes_row : ℕ → Charge
  stops : GadgetFault → Charge

-- ---- the bill of a script
-- the next input, the next witness and the next place of a system, which are the names that new variables get, and the numbers that were kept
-- where a script began: what it asks for may depend on those of its operands
pub record Next : Type 0 where
  pub input_at : ℕ
  pub witness_at : ℕ
  pub place : ℕ
  pub kept : Val

-- those of a system, with numbers q
abbrev pub names_with : Val → Meaning → Next
names_with q m = record { input_at = length m.inputs; witness_at = length m.witnesses; place = places m.combos; kept = q }

-- with its own
abbrev pub names : Meaning → Next
names m = names_with (assigned m) m

-- the name of a new input or witness
abbrev pub named : Side → Next → Variable
named input n = Input n.input_at
named witness n = Witness n.witness_at

-- the names past it
abbrev pub past : Side → Next → Next
past input n = record { input_at = n.input_at + 1; witness_at = n.witness_at; place = n.place; kept = n.kept }
past witness n = record { input_at = n.input_at; witness_at = n.witness_at + 1; place = n.place; kept = n.kept }

-- the names past a combination of k terms
abbrev pub past_terms : ℕ → Next → Next
past_terms k n = record { input_at = n.input_at; witness_at = n.witness_at; place = n.place + (k + 1); kept = n.kept }

-- what a script asks for, in order. Whether there is a value for a variable goes by the numbers that were kept where the script began
abbrev pub charges : {A : Type 0} → ℕ → Next → Script A → List Charge
charges p n (answer x) = []
charges p n (refuse e) = stops e ∷ []
charges p n (allocate d vs f k) = takes_variable d (present (f (map (λ v. Some (n.kept v)) vs))) ∷ charges p (past d n) (k (named d n))
charges p n (combine ts k) = takes_combination (sum_of p ts).size ∷ charges p (past_terms (sum_of p ts).size n) (k (Combination (n.place + (sum_of p ts).size)))
charges p n (row a b c s) = takes_row (row_use (row_of p a b c)) ∷ charges p n s

-- so it is foreseen: whether a script gives a value is the same for all numbers that give the variables of h what q gives them
abbrev pub Foreseen : {A : Type 0} → There → Val → Script A → Type 0
Foreseen h q (answer x) = Unit {0}
Foreseen h q (refuse e) = Unit {0}
Foreseen h q (allocate d vs f k) = ((ρ : Val) → Agree h q ρ → present (f (map (λ v. Some (ρ v)) vs)) ≡ present (f (map (λ v. Some (q v)) vs))) × ((v : Variable) → Foreseen h q (k v))
Foreseen h q (combine ts k) = (v : Variable) → Foreseen h q (k v)
Foreseen h q (row a b c s) = Foreseen h q s

-- where a script ends if nothing is refused: its answer and the next names
abbrev pub ends : {A : Type 0} → ℕ → Next → Script A → Option (A × Next)
ends p n (answer x) = Some (x, n)
ends p n (refuse e) = None
ends p n (allocate d vs f k) = ends p (past d n) (k (named d n))
ends p n (combine ts k) = ends p (past_terms (sum_of p ts).size n) (k (Combination (n.place + (sum_of p ts).size)))
ends p n (row a b c s) = ends p n s

-- ---- what is paid
-- the rooms of a system, whether it keeps values, and whether a quota is what a full row room comes from
pub record Rooms : Type 0 where
  pub inputs : ℕ
  pub witnesses : ℕ
  pub terms : ℕ
  pub rows : ℕ
  pub keeps : Bool
  pub capped : Bool

-- those of a system
abbrev pub rooms : Meaning → Rooms
rooms m = record { inputs = m.input_room; witnesses = m.witness_room; terms = m.term_room; rows = m.row_room; keeps = m.keeps; capped = m.capped }

-- how much of them is used
pub record Account : Type 0 where
  pub inputs : ℕ
  pub witnesses : ℕ
  pub terms : ℕ
  pub rows : ℕ

-- that of a system
abbrev pub account : Meaning → Account
account m = record { inputs = length m.inputs; witnesses = length m.witnesses; terms = used m; rows = length m.rows }

-- the room of a side
abbrev pub space : Side → Rooms → ℕ
space input r = r.inputs
space witness r = r.witnesses

-- what is used of it
abbrev pub spent : Side → Account → ℕ
spent input a = a.inputs
spent witness a = a.witnesses

-- one more input or witness
abbrev pub with_variable : Side → Account → Account
with_variable input a = record { inputs = a.inputs + 1; witnesses = a.witnesses; terms = a.terms; rows = a.rows }
with_variable witness a = record { inputs = a.inputs; witnesses = a.witnesses + 1; terms = a.terms; rows = a.rows }

-- so many terms and rows more
abbrev pub with_terms : ℕ → ℕ → Account → Account
with_terms t r a = record { inputs = a.inputs; witnesses = a.witnesses; terms = a.terms + t; rows = a.rows + r }

-- where values are kept, there must be one
abbrev pub lacks : Bool → Bool → Bool
lacks true b = cond b false true
lacks false b = false

-- a variable wants room, and then its value; a combination wants a term for each of its own and one for its heading; a row wants its terms, and then room
abbrev pub pay : Rooms → Account → Charge → Result Account GadgetFault
pay r a (takes_variable d b) = cond (nat_lt (spent d a) (space d r)) (cond (lacks r.keeps b) (Err (System MissingValue)) (Ok (with_variable d a))) (Err (System (full d)))
pay r a (takes_combination k) = cond (nat_le (a.terms + (k + 1)) r.terms) (Ok (with_terms (k + 1) 0 a)) (Err (System TermsFull))
pay r a (takes_row k) = cond (nat_le (a.terms + k) r.terms) (cond (nat_lt a.rows r.rows) (Ok (with_terms k 1 a)) (Err (System (rows_full r.capped)))) (Err (System TermsFull))
pay r a (stops e) = Err e

-- a refusal ends it
abbrev pub follow : {A B : Type 0} → Result A GadgetFault → (A → Result B GadgetFault) → Result B GadgetFault
follow (Ok a) k = k a
follow (Err e) k = Err e

-- a bill is paid charge by charge: the first that cannot be paid decides
abbrev pub settle : Rooms → Account → List Charge → Result Account GadgetFault
settle r a [] = Ok a
settle r a (c ∷ cs) = follow (pay r a c) (λ b. settle r b cs)

-- a bill that is paid by a system
abbrev pub settled : List Charge → Meaning → Result Account GadgetFault
settled cs m = settle (rooms m) (account m) cs

-- what a run makes of the account: what is used at its exit, or the refusal
abbrev pub billed : {A : Type 0} → Result A GadgetFault × Meaning → Result Account GadgetFault
billed (Ok x, n) = Ok (account n)
billed (Err e, n) = Err e

-- ---- what a bill comes to
-- an empty account
abbrev pub nothing_used : Account
nothing_used = record { inputs = 0; witnesses = 0; terms = 0; rows = 0 }

-- two accounts in one
abbrev pub plus : Account → Account → Account
plus a b = record { inputs = a.inputs + b.inputs; witnesses = a.witnesses + b.witnesses; terms = a.terms + b.terms; rows = a.rows + b.rows }

-- what one charge comes to
abbrev pub cost : Charge → Account
cost (takes_variable d b) = with_variable d nothing_used
cost (takes_combination k) = with_terms (k + 1) 0 nothing_used
cost (takes_row k) = with_terms k 1 nothing_used
cost (stops e) = nothing_used

-- what all come to
abbrev pub tally : List Charge → Account
tally [] = nothing_used
tally (c ∷ cs) = plus (cost c) (tally cs)

-- it finds room
pub record Within (r : Rooms) (a : Account) : Type 0 where
  pub inputs : a.inputs ≤ r.inputs
  pub witnesses : a.witnesses ≤ r.witnesses
  pub terms : a.terms ≤ r.terms
  pub rows : a.rows ≤ r.rows

-- it has no refusal of the gadget's own, and where values are kept none is missing
abbrev pub Clean : Bool → List Charge → Type 0
Clean q [] = Unit {0}
Clean q (takes_variable d b ∷ cs) = (lacks q b ≡ false) × Clean q cs
Clean q (takes_combination k ∷ cs) = Clean q cs
Clean q (takes_row k ∷ cs) = Clean q cs
Clean q (stops e ∷ cs) = ⊥

-- what a bill that was paid says: the account has grown by what it came to, which found room, and it was clean
pub record Settled (r : Rooms) (a : Account) (cs : List Charge) (b : Account) : Type 0 where
  pub total : b ≡ plus a (tally cs)
  pub within : Within r (plus a (tally cs))
  pub clean : Clean r.keeps cs
