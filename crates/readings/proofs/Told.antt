-- New bits and numbers have the tape's numbers.
use Rattle.std.proofs.Common.{◌≡◌, ℕ, ◌%◌, ◌<◌, Bool, true, false, cond, ◌==◌, List, [], ◌∷◌, length, Some, None, Ok, Option, Result, sym, refl, ap, ◌∙◌, subst, arith, mod-lt, ℤ, pos, negsuc}
use Rattle.std.proofs.Math.Nat.{mod-eq_of_lt}
use lib.Seq.{get_or_at}
use Rattle.arith.specs.Number.{residue}
use Rattle.relations.specs.declared.term.Variable.{Variable}
use Rattle.relations.specs.declared.term.Term.{Term}
use Rattle.relations.specs.declared.fault.GadgetFault.{GadgetFault}
use Rattle.relations.specs.declared.fault.GadgetFault.TheVariants.{NoValue}
use Rattle.relations.specs.Meaning.{Meaning, assigned, next_of, with_new, number}
use Rattle.relations.specs.declared.term.Side.{Side}
use Rattle.relations.specs.declared.term.Side.TheVariants.{Input as input, Witness as witness}
use Rattle.relations.specs.Sum.{row_of}
use Rattle.relations.specs.Terms.{just, one_less}
use Rattle.relations.specs.Script.{Script, answer, allocate, row, run}
use Rattle.boolean.specs.declared.mode.AllocationMode.{AllocationMode}
use Rattle.boolean.specs.declared.mode.AllocationMode.TheVariants.{Constant as as_constant, Input as as_input, Witness as as_witness}
use Rattle.boolean.specs.declared.bits.Boolean.TheVariants.{Constant, Var}
use Rattle.allocated.specs.Gates.{bit, bit_number}
use Rattle.boolean.specs.Booleans.{alloc_script as bit_script}
use Rattle.fp_var.specs.declared.numbers.FpVar.TheVariants.{Constant as constant_number, Var as variable_number}
use Rattle.fp_var.specs.Numbers.{reduced, alloc_script as number_script}
use Rattle.command.specs.declared.commands.Command.{Command}
use Rattle.command.specs.declared.commands.Command.TheVariants.{Bit as BitCommand, Clone, Not, Gated, Kary as KaryCommand, IsEqual, Select, Enforce, AtMost, Number as NumberCommand, Binary as BinaryCommand, Unary as UnaryCommand, MulEquals, SquareEquals, Compare, EnforceNumbers, SelectNumber, FromBit}
use Rattle.command.specs.declared.answers.Answer.{Answer}
use Rattle.command.specs.declared.answers.Answer.TheVariants.{Bit, Number}
use Rattle.command.specs.Answers.{mode_of, value_of, number_of as tape_number, one_bit, one_number, command_script}
use Rattle.laws.specs.Law.{Given}
use Rattle.laws.proofs.Trace.{Keeps, allocated, enforced, refused as ruled}
use Rattle.laws.proofs.Own.{assigned_row}
use Rattle.readings.specs.Readings.{number_of, numbers_of}
use Rattle.readings.specs.Runs.{GivenOne, GivenBy}

-- ---- the tape's numbers
answered_is : {A : Type 0} (x y : A) (m n : Meaning) → ◌≡◌ {A = Result A GadgetFault × Meaning} (Ok x, m) (Ok y, n) → x ≡ y
answered_is {A} x y m n e = let q : ◌≡◌ {A = Result A GadgetFault} (Ok x) (Ok y) = ap (λ z. z.0) e in cc q

-- what follows a new variable and adds nothing to read: the variable keeps its number
record Answered (p : ℕ) (k : Variable → Script (List Answer)) (f : Variable → List Answer) : Type 0 where
  pub ends : (v : Variable) (m n : Meaning) (x : List Answer) → run p (k v) m ≡ (Ok x, n) → (x ≡ f v) × (assigned n v ≡ assigned m v)

-- a new input or witness has the value that it was given
given_new : (p : ℕ) (d : Side) (o : Option ℕ) (m n : Meaning) (x : List Answer) (k : Variable → Script (List Answer)) (f : Variable → List Answer) → Answered p k f → m.keeps ≡ true
    → run p (allocate d [] (λ os. o) k) m ≡ (Ok x, n) → (v : Variable) × (x ≡ f v) × Given o (assigned n v)
given_new p d o m n x k f after keeps ran =
    let a = allocated d [] (λ os. o) (λ v. run p (k v)) m n x ran in
    let v = next_of d m in
    let b = after.ends v (with_new d a.value m) n x a.rest in
    let q : Keeps true o a.value = subst (λ t. Keeps t o a.value) keeps a.keeps in
    let same : assigned n v ≡ number a.value = b.1 ∙ last d a.value m in
    (v, b.0, subst (λ t. Given t (assigned n v)) (sym q.1) (sym (same ∙ ap number q.2)))
  where
    last : (d : Side) (w : Option ℕ) (m : Meaning) → assigned (with_new d w m) (next_of d m) ≡ number w
    last input w m = ap number (get_or_at m.inputs w [] None (length m.inputs) refl)
    last witness w m = ap number (get_or_at m.witnesses w [] None (length m.witnesses) refl)

-- an answer alone, and one behind a row
after_answer : (p : ℕ) (f : Variable → List Answer) → Answered p (λ v. answer (f v)) f
after_answer p f = record { ends = λ v m n x e. (sym (answered_is (f v) x m n e), ap (λ z. assigned z.1 v) (sym e)) }

after_row : (p : ℕ) (a b c : Variable → List Term) (f : Variable → List Answer) → Answered p (λ v. row (a v) (b v) (c v) (answer (f v))) f
after_row p a b c f = record {
  ends = λ v m n x e.
      let r = enforced p (a v) (b v) (c v) (run p (answer (f v))) m n x e in
      (sym (answered_is (f v) x _ _ r.rest), ap (λ z. assigned z.1 v) (sym r.rest) ∙ ap (λ g. g v) (sym (assigned_row (row_of p (a v) (b v) (c v)) m)));
}

-- what is said of the number of one answer
said_one : (n : Meaning) (o : Option ℕ) (x : Answer) (os : List Answer) → os ≡ x ∷ [] → Given o (number_of (assigned n) x) → GivenOne o (numbers_of (assigned n) os)
said_one n o x os e h = subst (λ (l : List Answer). GivenOne o (numbers_of (assigned n) l)) (sym e) h

said_bit : (p : ℕ) (a : AllocationMode) (o : Option Bool) (os : List Answer) (m n : Meaning) → m.keeps ≡ true → run p (one_bit (bit_script p a o)) m ≡ (Ok os, n) → GivenOne (bit_number o) (numbers_of (assigned n) os)
said_bit p as_constant None os m n keeps ran = absurd (ruled NoValue m n os ran)
said_bit p as_constant (Some x) os m n keeps ran = said_one n (Some (bit x)) (Bit (Constant x)) os (sym (answered_is (Bit (Constant x) ∷ []) os m n ran)) refl
said_bit p as_input o os m n keeps ran =
    let r = given_new p input (bit_number o) m n os _ (λ v. Bit (Var (record { variable = v })) ∷ []) (after_row p (one_less p) just (λ v. []) (λ v. Bit (Var (record { variable = v })) ∷ [])) keeps ran in
    said_one n (bit_number o) (Bit (Var (record { variable = r.0 }))) os r.1 r.2
said_bit p as_witness o os m n keeps ran =
    let r = given_new p witness (bit_number o) m n os _ (λ v. Bit (Var (record { variable = v })) ∷ []) (after_row p (one_less p) just (λ v. []) (λ v. Bit (Var (record { variable = v })) ∷ [])) keeps ran in
    said_one n (bit_number o) (Bit (Var (record { variable = r.0 }))) os r.1 r.2

said_number : (p : ℕ) (a : AllocationMode) (o : Option ℕ) (os : List Answer) (m n : Meaning) → m.keeps ≡ true → run p (one_number (number_script p a o)) m ≡ (Ok os, n) → GivenOne (reduced p o) (numbers_of (assigned n) os)
said_number p as_constant None os m n keeps ran = absurd (ruled NoValue m n os ran)
said_number p as_constant (Some x) os m n keeps ran = said_one n (Some (x % p)) (Number (constant_number (x % p))) os (sym (answered_is (Number (constant_number (x % p)) ∷ []) os m n ran)) refl
said_number p as_input o os m n keeps ran =
    let r = given_new p input (reduced p o) m n os _ (λ v. Number (variable_number (record { variable = v })) ∷ []) (after_answer p (λ v. Number (variable_number (record { variable = v })) ∷ [])) keeps ran in
    said_one n (reduced p o) (Number (variable_number (record { variable = r.0 }))) os r.1 r.2
said_number p as_witness o os m n keeps ran =
    let r = given_new p witness (reduced p o) m n os _ (λ v. Number (variable_number (record { variable = v })) ∷ []) (after_answer p (λ v. Number (variable_number (record { variable = v })) ∷ [])) keeps ran in
    said_one n (reduced p o) (Number (variable_number (record { variable = r.0 }))) os r.1 r.2

residue_below : (p : ℕ) → 0 < p → (v : ℤ) → residue p v < p
residue_below p h (pos n) = mod-lt n h
residue_below p h (negsuc n) = omega arith

-- a number of the tape is below p already
tape_reduced : (p : ℕ) → 0 < p → (t : ℕ) (v : ℤ) → reduced p (tape_number p t v) ≡ tape_number p t v
tape_reduced p above t v = go (t == 0)
  where
    go : (b : Bool) → reduced p (cond b None (Some (residue p v))) ≡ cond b None (Some (residue p v))
    go true = refl
    go false = ap (λ (x : ℕ). Some x) (mod-eq_of_lt (residue_below p above v))

pub given_by : (p : ℕ) → 0 < p → (c : Command) (bk os : List Answer) (m n : Meaning) → m.keeps ≡ true → run p (command_script p c bk) m ≡ (Ok os, n) → GivenBy p c (numbers_of (assigned n) os)
given_by p above (BitCommand mode v) bk os m n keeps ran = said_bit p (mode_of mode) (value_of v) os m n keeps ran
given_by p above (NumberCommand mode t v) bk os m n keeps ran = subst (λ o. GivenOne o (numbers_of (assigned n) os)) (tape_reduced p above t v) (said_number p (mode_of mode) (tape_number p t v) os m n keeps ran)
given_by p above (Clone a) bk os m n keeps ran = tt
given_by p above (Not a) bk os m n keeps ran = tt
given_by p above (Gated g a b) bk os m n keeps ran = tt
given_by p above (KaryCommand k r) bk os m n keeps ran = tt
given_by p above (IsEqual a b) bk os m n keeps ran = tt
given_by p above (Select c a b) bk os m n keeps ran = tt
given_by p above (Enforce e a b c) bk os m n keeps ran = tt
given_by p above (AtMost r e) bk os m n keeps ran = tt
given_by p above (BinaryCommand o a b) bk os m n keeps ran = tt
given_by p above (UnaryCommand o a) bk os m n keeps ran = tt
given_by p above (MulEquals a b c) bk os m n keeps ran = tt
given_by p above (SquareEquals a b) bk os m n keeps ran = tt
given_by p above (Compare o a b) bk os m n keeps ran = tt
given_by p above (EnforceNumbers e a b c) bk os m n keeps ran = tt
given_by p above (SelectNumber c a b) bk os m n keeps ran = tt
given_by p above (FromBit a) bk os m n keeps ran = tt
