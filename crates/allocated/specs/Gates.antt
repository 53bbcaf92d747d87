-- Bits that are variables, and what a gate on two of them asks of a system.
use Rattle.std.specs.Prelude.{ℕ, ◌-◌, Bool, true, false, not, cond, ◌&&◌, List, [], ◌∷◌, Some, None, Option, ◌==◌}
use Rattle.relations.specs.declared.term.Variable.{Variable}
use Rattle.relations.specs.declared.term.Term.{Term}
use Rattle.relations.specs.declared.term.Side.{Side}
use Rattle.relations.specs.declared.term.Side.TheVariants.{Witness as witness}
use Rattle.relations.specs.Script.{Script, answer, allocate, combine, row}
use Rattle.relations.specs.Terms.{times, just, less, one_less}
use Rattle.allocated.specs.declared.gate.Gate.{Gate}
use Rattle.allocated.specs.declared.gate.Gate.TheVariants.{And, Or, Xor}
use Rattle.allocated.specs.declared.allocated.LooseBit.{LooseBit}
use Rattle.allocated.specs.declared.allocated.AllocatedBool.{AllocatedBool}

-- a truth value as a number
abbrev pub bit : Bool → ℕ
bit true = 1
bit false = 0

-- a number as a truth value: all but zero is true
abbrev pub truth : ℕ → Bool
truth n = not (n == 0)

abbrev pub either : Bool → Bool → Bool
either true b = true
either false b = b

abbrev pub differ : Bool → Bool → Bool
differ true b = not b
differ false b = b

-- what a gate makes of two truth values
abbrev pub applied : Gate → Bool → Bool → Bool
applied And a b = a && b
applied Or a b = either a b
applied Xor a b = differ a b

-- the value of a gate's output, where both values are there
abbrev pub gated : Gate → Option ℕ → Option ℕ → Option ℕ
gated g None y = None
gated g (Some x) None = None
gated g (Some x) (Some y) = Some (bit (applied g (truth x) (truth y)))

abbrev pub of_two : (Option ℕ → Option ℕ → Option ℕ) → List (Option ℕ) → Option ℕ
of_two f [] = None
of_two f (x ∷ []) = None
of_two f (x ∷ y ∷ os) = f x y

-- a truth value that may be absent, as a number
abbrev pub bit_number : Option Bool → Option ℕ
bit_number None = None
bit_number (Some b) = Some (bit b)

-- ---- bits by their names
abbrev pub loose : Variable → LooseBit
loose v = record { variable = v }

abbrev pub allocated : Variable → AllocatedBool
allocated v = record { variable = v }

-- the row (1 - v) * v = 0
abbrev pub booleanity : ℕ → Variable → Script AllocatedBool
booleanity p v = row (one_less p v) (just v) [] (answer (allocated v))

-- a new bit that no row forces yet
abbrev pub loose_script : Side → Option Bool → Script LooseBit
loose_script d o = allocate d [] (λ os. bit_number o) (λ v. answer (loose v))

-- a new bit with the row that forces it
abbrev pub new_bit : ℕ → Side → Option Bool → Script AllocatedBool
new_bit p d o = allocate d [] (λ os. bit_number o) (λ v. booleanity p v)

-- a witness for the output of a gate on the variables a and b
abbrev pub output : Gate → Variable → Variable → (Variable → Script AllocatedBool) → Script AllocatedBool
output g a b k = allocate witness (a ∷ b ∷ []) (of_two (gated g)) k

-- a * b = w
abbrev pub and_row : ℕ → Variable → Variable → Variable → Script AllocatedBool
and_row p a b w = row (just a) (just b) (just w) (answer (allocated w))

-- (1 - a) * (1 - b) = 1 - w
abbrev pub or_row : ℕ → Variable → Variable → Variable → Script AllocatedBool
or_row p a b w = row (one_less p a) (one_less p b) (one_less p w) (answer (allocated w))

-- 2 a * b = a + b - w
abbrev pub xor_row : ℕ → Variable → Variable → Variable → Script AllocatedBool
xor_row p a b w = row (times 2 a ∷ []) (just b) (times 1 a ∷ (times 1 b ∷ (times (p - 1) w ∷ []))) (answer (allocated w))

abbrev pub gate_row : Gate → ℕ → Variable → Variable → Variable → Script AllocatedBool
gate_row And = and_row
gate_row Or = or_row
gate_row Xor = xor_row

-- a gate on two variables
abbrev pub gate_script : Gate → ℕ → AllocatedBool → AllocatedBool → Script AllocatedBool
gate_script g p a b = output g a.variable b.variable (gate_row g p a.variable b.variable)

-- one less a bit
abbrev pub not_allocated : ℕ → AllocatedBool → Script AllocatedBool
not_allocated p a = combine (one_less p a.variable) (λ v. answer (allocated v))

-- the rows d * m = w and d * (1 - w) = 0: w is 0 where d is, and 1 where it is not
abbrev pub difference_rows : ℕ → List Term → Variable → Variable → Script AllocatedBool
difference_rows p d m w = row d (just m) (just w) (combine (one_less p w) (λ t. row d (just t) [] (answer (allocated w))))

-- the value of a choice by c: that of a where c is not zero, else that of b
abbrev pub chosen : Option ℕ → Option ℕ → Option ℕ → Option ℕ
chosen (Some c) (Some a) (Some b) = Some (cond (truth c) a b)
chosen (Some c) (Some a) None = None
chosen (Some c) None y = None
chosen None x y = None

abbrev pub of_three : (Option ℕ → Option ℕ → Option ℕ → Option ℕ) → List (Option ℕ) → Option ℕ
of_three f [] = None
of_three f (x ∷ []) = None
of_three f (x ∷ y ∷ []) = None
of_three f (x ∷ y ∷ z ∷ os) = f x y z

-- a choice between two variables: a witness w with the row c * (a - b) = w - b
abbrev pub choice_script : ℕ → AllocatedBool → AllocatedBool → AllocatedBool → Script AllocatedBool
choice_script p c a b = allocate witness (c.variable ∷ a.variable ∷ b.variable ∷ []) (of_three chosen) (λ w. row (just c.variable) (less p a.variable b.variable) (less p w b.variable) (answer (allocated w)))
