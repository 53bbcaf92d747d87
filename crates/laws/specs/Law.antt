-- What a script means to the numbers of a whole assignment.
use Rattle.std.specs.Prelude.{◌≡◌, ℕ, ◌+◌, ◌*◌, ◌%◌, ◌<◌, Bool, true, false, List, [], ◌∷◌, map, Some, None, Option}
use Rattle.relations.specs.declared.term.Variable.{Variable}
use Rattle.relations.specs.declared.term.Variable.TheVariants.{One, Zero}
use Rattle.relations.specs.declared.term.Term.{Term}
use Rattle.relations.specs.Script.{Script, answer, refuse, allocate, combine, row}

-- a number for every variable, combinations too
abbrev pub Val : Type 0
Val = Variable → ℕ

-- the sum of terms, not reduced
abbrev pub total : Val → List Term → ℕ
total ρ [] = 0
total ρ (t ∷ ts) = t.coefficient * ρ t.variable + total ρ ts

-- every variable's number is below p, One is 1 and Zero is 0
pub record Low (p : ℕ) (ρ : Val) : Type 0 where
  pub one : ρ One ≡ 1
  pub zero : ρ Zero ≡ 0
  pub low : (v : Variable) → ρ v < p

-- a row of handed terms is met: a times b is c modulo p
abbrev pub RowMet : ℕ → Val → List Term → List Term → List Term → Type 0
RowMet p ρ a b c = (total ρ a * total ρ b) % p ≡ total ρ c % p

-- what the script's rows and combinations force of its answer, whatever its new variables are
abbrev pub Must : ℕ → Val → {A : Type 0} → Script A → (A → Type 0) → Type 0
Must p ρ (answer x) Q = Q x
Must p ρ (refuse e) Q = Unit {0}
Must p ρ (allocate d vs f k) Q = (v : Variable) → Must p ρ (k v) Q
Must p ρ (combine ts k) Q = (v : Variable) → ρ v ≡ total ρ ts % p → Must p ρ (k v) Q
Must p ρ (row a b c s) Q = RowMet p ρ a b c → Must p ρ s Q

-- a value that is there is x
abbrev pub Given : Option ℕ → ℕ → Type 0
Given None x = Unit {0}
Given (Some y) x = y ≡ x

-- the number given to a new input or witness: any below p, or the one that the script computes
abbrev pub Fits : Bool → ℕ → Val → List Variable → (List (Option ℕ) → Option ℕ) → ℕ → Type 0
Fits true p ρ vs f x = (x < p) × Given (f (map (λ v. Some (ρ v)) vs)) x
Fits false p ρ vs f x = x < p

-- numbers for the new inputs and witnesses of a script. They are chosen step by step with the names of the new variables in sight, never with the assignment
abbrev pub Plan : {A : Type 0} → Script A → Type 0
Plan (answer x) = Unit {0}
Plan (refuse e) = Unit {0}
Plan (allocate d vs f k) = ℕ × ((v : Variable) → Plan (k v))
Plan (combine ts k) = (v : Variable) → Plan (k v)
Plan (row a b c s) = Plan s

-- where the new inputs and witnesses have the planned numbers all rows are met, and the answer is as Q says
abbrev pub Plays : Bool → ℕ → Val → {A : Type 0} (s : Script A) → Plan s → (A → Type 0) → Type 0
Plays o p ρ (answer x) pl Q = Q x
Plays o p ρ (refuse e) pl Q = Unit {0}
Plays o p ρ (allocate d vs f k) pl Q = Fits o p ρ vs f pl.0 × ((v : Variable) → ρ v ≡ pl.0 → Plays o p ρ (k v) (pl.1 v) Q)
Plays o p ρ (combine ts k) pl Q = (v : Variable) → ρ v ≡ total ρ ts % p → Plays o p ρ (k v) (pl v) Q
Plays o p ρ (row a b c s) pl Q = RowMet p ρ a b c × Plays o p ρ s pl Q

-- there are numbers for the new inputs and witnesses that do so in every assignment that is as E says of the old variables
abbrev pub Goes : Bool → ℕ → {A : Type 0} → Script A → (Val → Type 0) → (Val → A → Type 0) → Type 0
Goes o p s E Q = (pl : Plan s) × ((ρ : Val) → Low p ρ → E ρ → Plays o p ρ s pl (Q ρ))

-- ---- the three laws of a gadget g from operands In to answers Out. An assignment makes X of the operands and Y of the answers
-- soundness: where the operands are as Pre says, the rows force the reading R
abbrev pub Forces : (p : ℕ) {In Out X Y : Type 0} → (Val → In → X) → (Val → Out → Y) → (In → Script Out) → (X → Type 0) → (X → Y → Type 0) → Type 0
Forces p {In} at of g Pre R = (ρ : Val) → Low p ρ → (i : In) → Pre (at ρ i) → Must p ρ (g i) (λ o. R (at ρ i) (of ρ o))

-- completeness: answers that obey the reading are had by some numbers for the new inputs and witnesses
abbrev pub Reaches : (p : ℕ) {In Out X Y : Type 0} → (Val → In → X) → (Val → Out → Y) → (In → Script Out) → (X → Type 0) → (X → Y → Type 0) → Type 0
Reaches p {In} {Out} {X} {Y} at of g Pre R = (i : In) (x : X) (y : Y) → Pre x → R x y → Goes false p (g i) (λ ρ. at ρ i ≡ x) (λ ρ o. of ρ o ≡ y)

-- own values: the numbers that the script computes meet the rows, and make e of the operands the answer
abbrev pub Computes : (p : ℕ) {In Out X Y : Type 0} → (Val → In → X) → (Val → Out → Y) → (In → Script Out) → (X → Type 0) → (X → Y) → Type 0
Computes p {In} {Out} {X} {Y} at of g Pre e = (i : In) (x : X) → Pre x → Goes true p (g i) (λ ρ. at ρ i ≡ x) (λ ρ o. of ρ o ≡ e x)

-- the laws of a gadget with the reading R. S says for which operands the reading can be obeyed, e is what the script computes
pub record Law (p : ℕ) {In Out X Y : Type 0} (at : Val → In → X) (of : Val → Out → Y) (g : In → Script Out) (Pre : X → Type 0) (R : X → Y → Type 0) (S : X → Type 0) (e : X → Y) : Type 0 where
  pub sound : Forces p at of g Pre R
  pub complete : Reaches p at of g Pre R
  pub own : Computes p at of g (λ x. Pre x × S x) e
  pub obeyed : (x : X) → Pre x → S x → R x (e x)
  pub solvable : (x : X) (y : Y) → Pre x → R x y → S x

-- what an assignment makes of a list of answers
abbrev pub lists : {Out Y : Type 0} → (Val → Out → Y) → Val → List Out → List Y
lists of ρ [] = []
lists of ρ (o ∷ os) = of ρ o ∷ lists of ρ os

-- ---- what is there
-- which variables are there
abbrev pub There : Type 0
There = Variable → Bool

-- the two constants are there
pub record Constants (h : There) : Type 0 where
  pub one : h One ≡ true
  pub zero : h Zero ≡ true

-- what is there by the first is there by the second
abbrev pub Wider : There → There → Type 0
Wider h k = (v : Variable) → h v ≡ true → k v ≡ true

-- where the variables of h are there at its entry, a script's answer is as K says of what is there at its exit
abbrev pub Names : {A : Type 0} → There → Script A → (There → A → Type 0) → Type 0
Names h (answer x) K = K h x
Names h (refuse e) K = Unit {0}
Names h (allocate d vs f k) K = (h₁ : There) → Wider h h₁ → (v : Variable) → h₁ v ≡ true → Names h₁ (k v) K
Names h (combine ts k) K = (h₁ : There) → Wider h h₁ → (v : Variable) → h₁ v ≡ true → Names h₁ (k v) K
Names h (row a b c s) K = Names h s K

-- all variables of a list are there
abbrev pub AllThere : There → List Variable → Type 0
AllThere h [] = Unit {0}
AllThere h (v ∷ vs) = (h v ≡ true) × AllThere h vs

-- all variables of terms are there
abbrev pub TermsThere : There → List Term → Type 0
TermsThere h [] = Unit {0}
TermsThere h (t ∷ ts) = (h t.variable ≡ true) × TermsThere h ts

-- the same, and all that the script names is there when it names it
abbrev pub Sees : {A : Type 0} → There → Script A → (There → A → Type 0) → Type 0
Sees h (answer x) K = K h x
Sees h (refuse e) K = Unit {0}
Sees h (allocate d vs f k) K = AllThere h vs × ((h₁ : There) → Wider h h₁ → (v : Variable) → h₁ v ≡ true → Sees h₁ (k v) K)
Sees h (combine ts k) K = TermsThere h ts × ((h₁ : There) → Wider h h₁ → (v : Variable) → h₁ v ≡ true → Sees h₁ (k v) K)
Sees h (row a b c s) K = TermsThere h a × TermsThere h b × TermsThere h c × Sees h s K

-- ---- the values that a script gives
-- a value that is there is below p
abbrev pub Below : ℕ → Option ℕ → Type 0
Below p None = Unit {0}
Below p (Some x) = x < p

-- whether a value is there
abbrev pub present : Option ℕ → Bool
present None = false
present (Some x) = true

-- the values that a script gives are below p where those that it asked for are
abbrev pub Tidy : ℕ → {A : Type 0} → Script A → Type 0
Tidy p (answer x) = Unit {0}
Tidy p (refuse e) = Unit {0}
Tidy p (allocate d vs f k) = ((ρ : Val) → Low p ρ → Below p (f (map (λ v. Some (ρ v)) vs))) × ((v : Variable) → Tidy p (k v))
Tidy p (combine ts k) = (v : Variable) → Tidy p (k v)
Tidy p (row a b c s) = Tidy p s

-- whether a script gives a value does not depend on the values that it asked for
abbrev pub Steady : {A : Type 0} → Script A → Type 0
Steady (answer x) = Unit {0}
Steady (refuse e) = Unit {0}
Steady (allocate d vs f k) = ((ρ : Val) → present (f (map (λ v. Some (ρ v)) vs)) ≡ present (f (map (λ v. Some 0) vs))) × ((v : Variable) → Steady (k v))
Steady (combine ts k) = (v : Variable) → Steady (k v)
Steady (row a b c s) = Steady s

-- a gadget's scripts in order: where its operands are as KI says of what is there, all that they name is there and the answers are as KO says,
-- and the values that they give are below p, and are there or not whatever was asked for
pub record Orderly (p : ℕ) {In Out : Type 0} (g : In → Script Out) (KI : There → In → Type 0) (KO : There → Out → Type 0) : Type 0 where
  pub sees : (h : There) → Constants h → (i : In) → KI h i → Sees h (g i) KO
  pub tidy : (i : In) → Tidy p (g i)
  pub steady : (i : In) → Steady (g i)
