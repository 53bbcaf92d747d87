-- What a script asks for where its names come to be, and where it ends.
use Rattle.std.proofs.Common.{◌≡◌, ◌≢◌, ℕ, ◌+◌, ◌<◌, ◌≤◌, Bool, true, false, cond, List, [], ◌∷◌, ◌++◌, length, Some, None, Option, sym, refl, ap, ap₂, ◌∙◌, subst, arith, append-nil}
use borrow.Author.Tests.{true-ltb}
use Rattle.relations.specs.declared.term.Variable.{Variable}
use Rattle.relations.specs.declared.term.Variable.TheVariants.{One, Zero, Input, Witness, Combination}
use Rattle.relations.specs.declared.term.Term.{Term}
use Rattle.relations.specs.declared.fault.GadgetFault.{GadgetFault}
use Rattle.relations.specs.Sum.{code, sum_of, row_of}
use Rattle.relations.specs.Meaning.{Meaning, has, row_use}
use Rattle.relations.specs.Script.{Script, answer, refuse, combine, row, then}
use Rattle.boolean.specs.declared.bits.Boolean.{Boolean}
use Rattle.boolean.specs.declared.bits.Boolean.TheVariants.{Constant, Var}
use Rattle.laws.specs.Bill.{Charge, takes_combination, takes_row, Next, names, past_terms, charges, ends}
use Rattle.laws.proofs.Heads.{head_below}
use Rattle.laws.proofs.Settle.{behind, charges_then, ended, ends_then}
use Rattle.bit_laws.specs.Bits.{real, RealBit, ThereBit}
use Rattle.bit_laws.specs.Bills.{Due, owes, quits, due_then, goes_on}
use Rattle.bit_laws.proofs.Sizes.{clash}

-- ---- names
-- an input, a witness or a combination that came before the next names n
abbrev pub Older : Next → Variable → Type 0
Older n One = ⊥
Older n Zero = ⊥
Older n (Input i) = i < n.input_at
Older n (Witness i) = i < n.witness_at
Older n (Combination c) = c < n.place

-- the next names k are those of n, or later ones
pub record Later (n k : Next) : Type 0 where
  pub inputs : n.input_at ≤ k.input_at
  pub witnesses : n.witness_at ≤ k.witness_at
  pub places : n.place ≤ k.place

pub older_real : (n : Next) (v : Variable) → Older n v → real v ≡ true
older_real n One h = absurd h
older_real n Zero h = absurd h
older_real n (Input i) h = refl
older_real n (Witness i) h = refl
older_real n (Combination c) h = refl

pub older_later : (n k : Next) → Later n k → (v : Variable) → Older n v → Older k v
older_later n k l One h = h
older_later n k l Zero h = h
older_later n k l (Input i) h = omega arith
older_later n k l (Witness i) h = omega arith
older_later n k l (Combination c) h = omega arith

pub later_same : (n : Next) → Later n n
later_same n = record { inputs = omega arith; witnesses = omega arith; places = omega arith }

pub later_then : (n k l : Next) → Later n k → Later k l → Later n l
later_then n k l a b = record { inputs = omega arith; witnesses = omega arith; places = omega arith }

-- what came before is none of the next
pub witness_apart : (n : Next) (v : Variable) → Older n v → code v ≢ code (Witness n.witness_at)
witness_apart n One h = absurd h
witness_apart n Zero h = absurd h
witness_apart n (Input i) h = λ e. omega arith
witness_apart n (Witness i) h = λ e. omega arith
witness_apart n (Combination c) h = λ e. omega arith

pub combination_apart : (n : Next) (v : Variable) (k : ℕ) → Older n v → code v ≢ code (Combination (n.place + k))
combination_apart n One k h = absurd h
combination_apart n Zero k h = absurd h
combination_apart n (Input i) k h = λ e. omega arith
combination_apart n (Witness i) k h = λ e. omega arith
combination_apart n (Combination c) k h = λ e. omega arith

-- what is there came before the next names of its system
pub older_there : (m : Meaning) (v : Variable) → real v ≡ true → has m v ≡ true → Older (names m) v
older_there m One r h = clash r
older_there m Zero r h = clash r
older_there m (Input i) r h = true-ltb i (length m.inputs) (sym h)
older_there m (Witness i) r h = true-ltb i (length m.witnesses) (sym h)
older_there m (Combination c) r h = head_below c m.combos h

-- ---- bits
abbrev pub OldBit : Next → Boolean → Type 0
OldBit n (Constant b) = Unit {0}
OldBit n (Var a) = Older n a.variable

pub old_later : (n k : Next) → Later n k → (b : Boolean) → OldBit n b → OldBit k b
old_later n k l (Constant b) h = tt
old_later n k l (Var a) h = older_later n k l a.variable h

pub old_there : (m : Meaning) (b : Boolean) → RealBit b → ThereBit (has m) b → OldBit (names m) b
old_there m (Constant b) r h = tt
old_there m (Var a) r h = older_there m a.variable r h

-- ---- what is due
-- a script ends as is said: refused, or with an answer of which this is known, and which is as Good says of the names that are next
abbrev pub Ended : {Out A : Type 0} → Next → (Out → A) → (Next → Out → Type 0) → Option (Out × Next) → Option A → Type 0
Ended n sh Good None None = Unit {0}
Ended n sh Good None (Some a) = ⊥
Ended n sh Good (Some x) None = ⊥
Ended n sh Good (Some x) (Some a) = Later n x.1 × (sh x.0 ≡ a) × Good x.1 x.0

-- where n are the next names, the script asks for what is due
pub record Owes (p : ℕ) (n : Next) {Out A : Type 0} (s : Script Out) (sh : Out → A) (Good : Next → Out → Type 0) (d : Due A) : Type 0 where
  pub charged : charges p n s ≡ d.0
  pub ended : Ended n sh Good (ends p n s) d.1

ended_later : {Out A : Type 0} (n k : Next) → Later n k → (sh : Out → A) (Good : Next → Out → Type 0) (r : Option (Out × Next)) (o : Option A) → Ended k sh Good r o → Ended n sh Good r o
ended_later n k l sh Good None None h = tt
ended_later n k l sh Good None (Some a) h = h
ended_later n k l sh Good (Some x) None h = h
ended_later n k l sh Good (Some x) (Some a) h = (later_then n k x.1 l h.0, h.1, h.2)

-- ---- one after another
pub owes_then : {p : ℕ} {n : Next} {Mid Out A B : Type 0} {s : Script Mid} {k : Mid → Script Out} {sm : Mid → A} {sh : Out → B} {Good : Next → Mid → Type 0} {Fine : Next → Out → Type 0} {d : Due A} (f : A → Due B)
    → Owes p n s sm Good d → ((l : Next) (x : Mid) → Later n l → Good l x → Owes p l (k x) sh Fine (f (sm x))) → Owes p n (then s k) sh Fine (due_then d f)
owes_then {p} {n} {Mid} {Out} {A} {B} {s} {k} {sm} {sh} {Good} {Fine} {d} f a b = go (ends p n s) d.1 refl refl a.ended
  where
    go : (r : Option (Mid × Next)) (q : Option A) → ends p n s ≡ r → d.1 ≡ q → Ended n sm Good r q → Owes p n (then s k) sh Fine (goes_on d.0 d.1 f)
    go None None er eq h =
        subst (λ (q : Option A). Owes p n (then s k) sh Fine (goes_on d.0 q f)) (sym eq)
        (record { charged = charges_then p n s k ∙ ap₂ (λ (x : List Charge) (r : Option (Mid × Next)). x ++ behind p k r) a.charged er ∙ append-nil d.0; ended = subst (λ r. Ended n sh Fine r None) (sym (ends_then p n s k ∙ ap (ended p k) er)) tt })
    go None (Some y) er eq h = absurd h
    go (Some x) None er eq h = absurd h
    go (Some x) (Some y) er eq h =
        let r : Owes p x.1 (k x.0) sh Fine (f y) = subst (λ (z : A). Owes p x.1 (k x.0) sh Fine (f z)) h.1 (b x.1 x.0 h.0 h.2) in
        subst (λ (q : Option A). Owes p n (then s k) sh Fine (goes_on d.0 q f)) (sym eq)
        (record {
          charged = charges_then p n s k ∙ ap₂ (λ (x : List Charge) (r : Option (Mid × Next)). x ++ behind p k r) a.charged er ∙ ap (λ (l : List Charge). d.0 ++ l) r.charged;
          ended = subst (λ r. Ended n sh Fine r (f y).1) (sym (ends_then p n s k ∙ ap (ended p k) er)) (ended_later n x.1 h.0 sh Fine (ends p x.1 (k x.0)) (f y).1 r.ended);
        })

-- ---- single scripts
pub owes_answer : {p : ℕ} {n : Next} {Out A : Type 0} (o : Out) (sh : Out → A) (Good : Next → Out → Type 0) (a : A) → sh o ≡ a → Good n o → Owes p n (answer o) sh Good (owes [] a)
owes_answer {p} {n} o sh Good a e g = record { charged = refl; ended = (later_same n, e, g) }

pub owes_refuse : {p : ℕ} {n : Next} {Out A : Type 0} (f : GadgetFault) (sh : Out → A) (Good : Next → Out → Type 0) → Owes p n (refuse f) sh Good (quits f)
owes_refuse f sh Good = record { charged = refl; ended = tt }

-- a combination of k terms, whose name is next
pub owes_combine : {p : ℕ} {n : Next} {A : Type 0} (ts : List Term) (k : ℕ) (sh : Variable → A) (Good : Next → Variable → Type 0) (a : A) → (sum_of p ts).size ≡ k → sh (Combination (n.place + k)) ≡ a → Good (past_terms k n) (Combination (n.place + k))
    → Owes p n (combine ts (λ v. answer v)) sh Good (owes (takes_combination k ∷ []) a)
owes_combine {p} {n} ts k sh Good a z e g =
    let s : ℕ = (sum_of p ts).size in
    record {
      charged = ap (λ (j : ℕ). takes_combination j ∷ []) z;
      ended = (record { inputs = omega arith; witnesses = omega arith; places = omega arith }, ap (λ (j : ℕ). sh (Combination (n.place + j))) z ∙ e, subst (λ (j : ℕ). Good (past_terms j n) (Combination (n.place + j))) (sym z) g);
    }

-- a row of k terms
pub owes_row : {p : ℕ} {n : Next} {Out A : Type 0} (a b c : List Term) (k : ℕ) (o : Out) (sh : Out → A) (Good : Next → Out → Type 0) (x : A) → row_use (row_of p a b c) ≡ k → sh o ≡ x → Good n o → Owes p n (row a b c (answer o)) sh Good (owes (takes_row k ∷ []) x)
owes_row {p} {n} a b c k o sh Good x z e g = record { charged = ap (λ (j : ℕ). takes_row j ∷ []) z; ended = (later_same n, e, g) }

-- a test of names decides between two scripts
pub owes_if : {p : ℕ} {n : Next} {Out A : Type 0} {s t : Script Out} {sh : Out → A} {Good : Next → Out → Type 0} {d e : Due A} (b : Bool) → (b ≡ true → Owes p n s sh Good d) → (b ≡ false → Owes p n t sh Good e) → Owes p n (cond b s t) sh Good (cond b d e)
owes_if true f g = f refl
owes_if false f g = g refl

-- other words for what is due, or for the answer
pub owes_as : {p : ℕ} {n : Next} {Out A : Type 0} {s : Script Out} {sh : Out → A} {Good : Next → Out → Type 0} {d : Due A} (e : Due A) → d ≡ e → Owes p n s sh Good d → Owes p n s sh Good e
owes_as {p} {n} {Out} {A} {s} {sh} {Good} e q a = subst (λ (d : Due A). Owes p n s sh Good d) q a

-- an answer made of another's asks for nothing
pub charges_map : {A B : Type 0} (p : ℕ) (n : Next) (s : Script A) (f : A → B) → charges p n (then s (λ x. answer (f x))) ≡ charges p n s
charges_map {A} {B} p n s f = charges_then p n s (λ x. answer (f x)) ∙ go (ends p n s)
  where
    go : (r : Option (A × Next)) → charges p n s ++ behind p (λ x. answer (f x)) r ≡ charges p n s
    go None = append-nil (charges p n s)
    go (Some x) = append-nil (charges p n s)
