-- What the gates on bits ask of a system, by which of their operands are constants, and which are one variable.
use Rattle.std.specs.Prelude.{ℕ, zero, suc, ◌+◌, Bool, true, false, not, cond, List, [], ◌∷◌, ◌++◌, map, length, drop, replicate, Some, None, Option, ◌==◌, nat_le, slice_index_or}
use Rattle.relations.specs.declared.fault.GadgetFault.{GadgetFault}
use Rattle.relations.specs.declared.fault.GadgetFault.TheVariants.{Unsatisfiable, TooManyMembers}
use Rattle.relations.specs.declared.term.Side.TheVariants.{Witness as witness}
use Rattle.relations.specs.Sum.{code}
use Rattle.allocated.specs.declared.gate.Gate.{Gate}
use Rattle.allocated.specs.declared.gate.Gate.TheVariants.{And as and_gate, Or as or_gate, Xor as xor_gate}
use Rattle.allocated.specs.Gates.{differ}
use Rattle.boolean.specs.declared.bits.Boolean.{Boolean}
use Rattle.boolean.specs.declared.bits.Boolean.TheVariants.{Constant, Var}
use Rattle.gates.specs.declared.wide.Wide.{Wide}
use Rattle.gates.specs.declared.wide.Wide.TheVariants.{And, Or}
use Rattle.gates.specs.Kary.{gate_of, joined, sums}
use Rattle.gates.specs.Walk.{bit_of, bit_length}
use Rattle.laws.specs.Bill.{Charge, takes_variable, takes_combination, takes_row, stops}

-- ---- operands
-- the shadow of an operand is what a bill sees of it: the value of a constant; a variable has none
abbrev pub shadow : Boolean → Option Bool
shadow (Constant b) = Some b
shadow (Var a) = None

-- the shadows of a list
abbrev pub shadows : List Boolean → List (Option Bool)
shadows bs = map shadow bs

-- whether two bits are one variable
abbrev pub same_name : Boolean → Boolean → Bool
same_name (Constant a) b = false
same_name (Var a) (Constant b) = false
same_name (Var a) (Var b) = code a.variable == code b.variable

-- ---- what is due: a bill, and what is known of the answer, unless the bill ends in a refusal of the gadget's own
-- a bill and what is known of the answer; nothing is known where it ends in a refusal
abbrev pub Due : Type 0 → Type 0
Due A = List Charge × Option A

-- a bill after which this is known of the answer, and one that is a refusal
abbrev pub owes : {A : Type 0} → List Charge → A → Due A
owes cs a = (cs, Some a)

-- a bill that is a refusal
abbrev pub quits : {A : Type 0} → GadgetFault → Due A
quits f = (stops f ∷ [], None)

-- what follows is due too, unless the bill ended in a refusal
abbrev pub goes_on : {A B : Type 0} → List Charge → Option A → (A → Due B) → Due B
goes_on cs None k = (cs, None)
goes_on cs (Some a) k = (cs ++ (k a).0, (k a).1)

-- one after another
abbrev pub due_then : {A B : Type 0} → Due A → (A → Due B) → Due B
due_then d k = goes_on d.0 d.1 k

-- ---- bits: in place of each operand its shadow, and same says whether two of them are one variable
-- a combination of two terms, unless the operand is constant
abbrev pub not_due : Option Bool → Due (Option Bool)
not_due (Some b) = owes [] (Some (not b))
not_due None = owes (takes_combination 2 ∷ []) None

-- a witness, and a row of so many terms
abbrev pub output_due : ℕ → Due (Option Bool)
output_due k = owes (takes_variable witness true ∷ (takes_row k ∷ [])) None

-- a constant beside another operand folds, but for a one beside a variable under xor, which is its not. The row of a gate on two variables: 3 terms for and, 6 for or, 5 for xor and 4 where its operands are one variable
abbrev pub gate_due : Gate → Bool → Option Bool → Option Bool → Due (Option Bool)
gate_due and_gate same (Some true) b = owes [] b
gate_due and_gate same (Some false) b = owes [] (Some false)
gate_due and_gate same None (Some true) = owes [] None
gate_due and_gate same None (Some false) = owes [] (Some false)
gate_due and_gate same None None = output_due 3
gate_due or_gate same (Some true) b = owes [] (Some true)
gate_due or_gate same (Some false) b = owes [] b
gate_due or_gate same None (Some true) = owes [] (Some true)
gate_due or_gate same None (Some false) = owes [] None
gate_due or_gate same None None = output_due 6
gate_due xor_gate same (Some true) b = not_due b
gate_due xor_gate same (Some false) b = owes [] b
gate_due xor_gate same None (Some true) = not_due None
gate_due xor_gate same None (Some false) = owes [] None
gate_due xor_gate same None None = output_due (cond same 4 5)

-- equality: the not of xor
abbrev pub is_eq_due : Bool → Option Bool → Option Bool → Due (Option Bool)
is_eq_due same a b = due_then (gate_due xor_gate same a b) not_due

-- a choice: same says whether the two of which one is chosen are one variable
abbrev pub select_due : Bool → Option Bool → Option Bool → Option Bool → Due (Option Bool)
select_due same (Some true) a b = owes [] a
select_due same (Some false) a b = owes [] b
select_due same None a (Some false) = gate_due and_gate false None a
select_due same None (Some false) (Some true) = due_then (not_due None) (λ t. gate_due and_gate false t (Some true))
select_due same None (Some false) None = due_then (not_due None) (λ t. gate_due and_gate false t None)
select_due same None (Some true) (Some true) = owes [] (Some true)
select_due same None (Some true) None = gate_due or_gate false None None
select_due same None None (Some true) = due_then (not_due None) (λ t. gate_due or_gate false t None)
select_due same None None None = output_due (cond same 3 5)

-- ---- statements
-- a row of so many terms under a condition that is not the constant 0
abbrev pub under_due : Option Bool → ℕ → Due (Unit {0})
under_due (Some false) k = owes [] tt
under_due (Some true) k = owes (takes_row k ∷ []) tt
under_due None k = owes (takes_row k ∷ []) tt

-- a statement on constants that holds or not, under a condition
abbrev pub on_due : Bool → Option Bool → Due (Unit {0})
on_due true c = owes [] tt
on_due false (Some true) = quits Unsatisfiable
on_due false (Some false) = owes [] tt
on_due false None = owes (takes_row 2 ∷ []) tt

-- how many terms the difference of two bits takes, and their sum
abbrev pub difference_terms : Bool → Option Bool → Option Bool → ℕ
difference_terms same (Some a) (Some b) = 0
difference_terms same (Some true) None = 2
difference_terms same (Some false) None = 1
difference_terms same None (Some true) = 2
difference_terms same None (Some false) = 1
difference_terms same None None = cond same 0 2

-- how many terms the sum takes that is 1 where two bits differ
abbrev pub together_terms : Bool → Option Bool → Option Bool → ℕ
together_terms same (Some a) (Some b) = 0
together_terms same (Some true) None = 2
together_terms same (Some false) None = 1
together_terms same None (Some true) = 2
together_terms same None (Some false) = 1
together_terms same None None = cond same 1 2

-- where a condition is 1, two bits are equal, or differ
abbrev pub equal_due : Bool → Option Bool → Option Bool → Option Bool → Due (Unit {0})
equal_due same (Some a) (Some b) c = on_due (not (differ a b)) c
equal_due same (Some a) None c = under_due c (difference_terms same (Some a) None + 1)
equal_due same None b c = under_due c (difference_terms same None b + 1)

-- where a condition is 1, two bits differ
abbrev pub unequal_due : Bool → Option Bool → Option Bool → Option Bool → Due (Unit {0})
unequal_due same (Some a) (Some b) c = on_due (differ a b) c
unequal_due same (Some a) None c = under_due c (together_terms same (Some a) None + 2)
unequal_due same None b c = under_due c (together_terms same None b + 2)

-- a bit is 0
abbrev pub zero_due : Option Bool → Due (Unit {0})
zero_due (Some true) = quits Unsatisfiable
zero_due (Some false) = owes [] tt
zero_due None = owes (takes_row 2 ∷ []) tt

-- ---- equality of two numbers that are variables: two witnesses, the rows of their difference and one combination between them; and the not of the answer
-- a loose bit and a multiplier, the row that ties them, the opposite of the bit, and the row of that
abbrev pub differ_bill : Bool → List Charge
differ_bill same = takes_variable witness true ∷ (takes_variable witness true ∷ (takes_row (cond same 2 4) ∷ (takes_combination 2 ∷ (takes_row (cond same 1 3) ∷ []))))

-- and the opposite of what they say
abbrev pub is_eq_bill : Bool → List Charge
is_eq_bill same = differ_bill same ++ (takes_combination 2 ∷ [])

-- and the opposite of that
abbrev pub is_neq_bill : Bool → List Charge
is_neq_bill same = is_eq_bill same ++ (takes_combination 2 ∷ [])

-- ---- gates of many bits
-- a chain
abbrev pub chain_due : Gate → Option Bool → List (Option Bool) → Due (Option Bool)
chain_due g cur [] = owes [] cur
chain_due g cur (b ∷ bs) = due_then (gate_due g false cur b) (λ c. chain_due g c bs)

-- from the first of some
abbrev pub chain_all_due : Wide → List (Option Bool) → Due (Option Bool)
chain_all_due g [] = owes [] (Some (joined g []))
chain_all_due g (b ∷ bs) = chain_due (gate_of g) b bs

-- how many are variables, and how many the constant one
abbrev pub variables : List (Option Bool) → ℕ
variables [] = 0
variables (Some b ∷ bs) = variables bs
variables (None ∷ bs) = 1 + variables bs

-- how many are the constant one
abbrev pub one_count : List (Option Bool) → ℕ
one_count [] = 0
one_count (Some true ∷ bs) = 1 + one_count bs
one_count (Some false ∷ bs) = one_count bs
one_count (None ∷ bs) = one_count bs

-- a sum: a combination of one term for each variable, one of all of them, and one that adds the number of ones where there are any
abbrev pub topped_bill : ℕ → List Charge
topped_bill n = cond (n == 0) [] (takes_combination 2 ∷ [])

-- the whole sum
abbrev pub sum_bill : List (Option Bool) → List Charge
sum_bill bs = replicate (variables bs) (takes_combination 1) ++ (takes_combination (variables bs) ∷ topped_bill (one_count bs))

-- the number that the sum is compared with, a combination, and the comparison
abbrev pub compared_bill : Wide → List Charge
compared_bill And = takes_combination 1 ∷ is_eq_bill false
compared_bill Or = takes_combination 0 ∷ is_neq_bill false

-- whether all are constants, and their values
abbrev pub all_known : List (Option Bool) → Bool
all_known [] = true
all_known (Some b ∷ bs) = all_known bs
all_known (None ∷ bs) = false

-- the values of constants; a variable counts as false
abbrev pub values_of : List (Option Bool) → List Bool
values_of [] = []
values_of (Some b ∷ bs) = b ∷ values_of bs
values_of (None ∷ bs) = false ∷ values_of bs

-- constants fold; else the sum is compared, and the answer is a variable
abbrev pub summed_due : Wide → List (Option Bool) → Due (Option Bool)
summed_due g bs = cond (all_known bs) (owes [] (Some (joined g (values_of bs)))) (owes (sum_bill bs ++ compared_bill g) None)

-- a sum from four members on, of fewer than p; a chain of fewer
abbrev pub kary_due : Wide → ℕ → List (Option Bool) → Due (Option Bool)
kary_due g p bs = cond (sums (length bs)) (cond (nat_le p (length bs)) (quits TooManyMembers) (summed_due g bs)) (chain_all_due g bs)

-- whether not all members are one, and that they are not
abbrev pub nand_due : ℕ → List (Option Bool) → Due (Option Bool)
nand_due p bs = due_then (kary_due And p bs) not_due

-- that not all members are one
abbrev pub enforce_nand_due : ℕ → List (Option Bool) → Due (Unit {0})
enforce_nand_due p bs = due_then (kary_due And p bs) zero_due

-- ---- the bound on what bits spell
-- the bits above the bound's
abbrev pub above_due : List (Option Bool) → Due (Unit {0})
above_due bs = due_then (chain_due or_gate (Some false) bs) zero_due

-- the end of a run of ones
abbrev pub closed_due : ℕ → List (Option Bool) → Option Bool → Due (Option Bool)
closed_due p [] last = owes [] last
closed_due p (b ∷ bs) last = kary_due And p ((b ∷ bs) ++ (last ∷ []))

-- a zero of the bound
abbrev pub fall_due : ℕ → List (Option Bool) → Option Bool → Option Bool → Due (Option Bool)
fall_due p run last b = due_then (closed_due p run last) (λ l. due_then (enforce_nand_due p (l ∷ (b ∷ []))) (λ u. owes [] l))

-- from place i down
abbrev pub descent_due : ℕ → ℕ → ℕ → List (Option Bool) → Option Bool → List (Option Bool) → Due (Unit {0})
descent_due p e zero bs last run = owes [] tt
descent_due p e (suc i) bs last run =
    cond (bit_of e i) (descent_due p e i bs last (run ++ (slice_index_or bs i (Some false) ∷ []))) (due_then (fall_due p run last (slice_index_or bs i (Some false))) (λ l. descent_due p e i bs l []))

-- the whole walk
abbrev pub walk_due : ℕ → List (Option Bool) → ℕ → Due (Unit {0})
walk_due p bs e = due_then (above_due (drop (bit_length e) bs)) (λ u. descent_due p e (bit_length e) bs (Some true) [])
