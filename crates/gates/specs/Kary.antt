-- Gates of many bits: a chain of gates up to three members, and a sum that is compared from four on.
use Rattle.std.specs.Prelude.{ℕ, ◌+◌, Bool, true, false, cond, ◌&&◌, List, [], ◌∷◌, ◌++◌, length, ◌==◌, nat_le}
use Rattle.relations.specs.declared.term.Variable.{Variable}
use Rattle.relations.specs.declared.term.Variable.TheVariants.{One}
use Rattle.relations.specs.declared.term.Term.{Term}
use Rattle.relations.specs.declared.fault.GadgetFault.TheVariants.{TooManyMembers}
use Rattle.relations.specs.Script.{Script, answer, refuse, combine, then}
use Rattle.relations.specs.Terms.{times, just}
use Rattle.allocated.specs.declared.gate.Gate.{Gate}
use Rattle.allocated.specs.declared.gate.Gate.TheVariants.{And as and_gate, Or as or_gate}
use Rattle.allocated.specs.declared.allocated.AllocatedBool.{AllocatedBool}
use Rattle.allocated.specs.Gates.{either}
use Rattle.boolean.specs.declared.bits.Boolean.{Boolean}
use Rattle.boolean.specs.declared.bits.Boolean.TheVariants.{Constant, Var}
use Rattle.boolean.specs.Booleans.{as_var, not_script, gated_script, zero_script}
use Rattle.fp.specs.Equality.{is_eq_script, is_neq_script}
use Rattle.gates.specs.declared.wide.Wide.{Wide}
use Rattle.gates.specs.declared.wide.Wide.TheVariants.{And, Or}

-- the gate of two members
abbrev pub gate_of : Wide → Gate
gate_of And = and_gate
gate_of Or = or_gate

-- ---- truth values
-- all of some truth values, and some of them
abbrev pub all_of : List Bool → Bool
all_of [] = true
all_of (b ∷ bs) = b && all_of bs

abbrev pub any_of : List Bool → Bool
any_of [] = false
any_of (b ∷ bs) = either b (any_of bs)

abbrev pub joined : Wide → List Bool → Bool
joined And bs = all_of bs
joined Or bs = any_of bs

-- ---- a chain: each member with what came before it
abbrev pub chain_from : Gate → ℕ → Boolean → List Boolean → Script Boolean
chain_from g p cur [] = answer cur
chain_from g p cur (b ∷ bs) = then (gated_script g p cur b) (λ c. chain_from g p c bs)

abbrev pub chain_script : Wide → ℕ → List Boolean → Script Boolean
chain_script g p [] = answer (Constant (joined g []))
chain_script g p (b ∷ bs) = chain_from (gate_of g) p b bs

-- ---- a sum
-- how many members are the constant one
abbrev pub ones : List Boolean → ℕ
ones [] = 0
ones (Constant true ∷ bs) = 1 + ones bs
ones (Constant false ∷ bs) = ones bs
ones (Var a ∷ bs) = ones bs

-- a combination for each variable, and the terms of all of them
abbrev pub summands : List Boolean → List Term → Script (List Term)
summands [] ts = answer ts
summands (Constant b ∷ bs) ts = summands bs ts
summands (Var a ∷ bs) ts = combine (just a.variable) (λ x. summands bs (ts ++ just x))

-- a variable with a constant added to it, unless that is 0
abbrev pub topped : ℕ → Variable → Script Variable
topped n s = cond (n == 0) (answer s) (combine (times 1 s ∷ (times n One ∷ [])) (λ v. answer v))

-- the sum of some members
abbrev pub sum_script : List Boolean → Script Variable
sum_script bs = then (summands bs []) (λ ts. combine ts (λ s. topped (ones bs) s))

-- all members are one where their sum is their number; some are where it is not 0
abbrev pub compared : Wide → ℕ → ℕ → Variable → Script AllocatedBool
compared And p k s = combine (times k One ∷ []) (λ c. is_eq_script p c s)
compared Or p k s = combine [] (λ c. is_neq_script p c s)

-- ---- the gate
abbrev pub constant_bit : Boolean → Bool
constant_bit (Constant b) = true
constant_bit (Var a) = false

abbrev pub all_constant : List Boolean → Bool
all_constant [] = true
all_constant (b ∷ bs) = constant_bit b && all_constant bs

-- the truth value of a constant; a variable has none
abbrev pub told : Boolean → Bool
told (Constant b) = b
told (Var a) = false

abbrev pub told_all : List Boolean → List Bool
told_all [] = []
told_all (b ∷ bs) = told b ∷ told_all bs

-- constants fold
abbrev pub summed_script : Wide → ℕ → List Boolean → Script Boolean
summed_script g p bs = cond (all_constant bs) (answer (Constant (joined g (told_all bs)))) (then (sum_script bs) (λ s. as_var (compared g p (length bs) s)))

-- whether a gate of so many members is a compared sum, and not a chain
abbrev pub sums : ℕ → Bool
sums k = nat_le 4 k

-- a sum of at least p members is refused before anything else
abbrev pub kary_script : Wide → ℕ → List Boolean → Script Boolean
kary_script g p bs = cond (sums (length bs)) (cond (nat_le p (length bs)) (refuse TooManyMembers) (summed_script g p bs)) (chain_script g p bs)

-- whether not all members are one, and that they are not
abbrev pub nand_script : ℕ → List Boolean → Script Boolean
nand_script p bs = then (kary_script And p bs) (not_script p)

abbrev pub enforce_nand_script : ℕ → List Boolean → Script (Unit {0})
enforce_nand_script p bs = then (kary_script And p bs) zero_script
