-- A command's steps in the code are those of its definition.
use Rattle.std.specs.Result.{is_ok}
use Rattle.std.proofs.Common.{◌≡◌, ℕ, ◌+◌, ◌%◌, ◌≤◌, List, ◌++◌, length, Ok, Err, Result, sym, refl, ap, ◌∙◌, Bool, true, cond, leb, le-leb, arith}
use Rattle.relations.specs.declared.fault.GadgetFault.{GadgetFault}
use Rattle.relations.specs.Meaning.{Meaning}
use Rattle.relations.specs.Script.{Script, run, restored, whole, over, then, answer}
use Rattle.relations.proofs.Then.{whole_over}
use Rattle.command.specs.declared.commands.Kind.{Kind}
use Rattle.command.specs.declared.commands.Command.{Command}
use Rattle.command.specs.declared.answers.Answer.{Answer}
use Rattle.command.specs.declared.fault.TapeFault.{TapeFault}
use Rattle.command.specs.declared.fault.TapeFault.TheVariants.{Gadget, BookFull}
use Rattle.command.specs.Decide.{short, measured, checked}
use Rattle.gates.specs.Walk.{bit_length}
use Rattle.command.specs.declared.commands.Claim.TheVariants.{Equal, Unequal}
use Rattle.command.specs.declared.commands.Command.TheVariants.{Bit as BitCommand, Clone, Not, Gated, Kary as KaryCommand, IsEqual, Select, Enforce, AtMost, Number as NumberCommand, Binary as BinaryCommand, Unary as UnaryCommand, MulEquals, SquareEquals, Compare, EnforceNumbers, SelectNumber, FromBit}
use Rattle.command.specs.declared.commands.Binary.TheVariants.{Add, Sub, Mul}
use Rattle.command.specs.declared.commands.Unary.TheVariants.{Negate, Double, Inverse}
use Rattle.command.specs.declared.commands.Comparison.TheVariants.{IsEq, IsNeq}
use Rattle.std.proofs.lemmas.Bool.{and_parts}
use Rattle.command.specs.Answers.{kinds, command_script}
use Rattle.tape.specs.Action.{action, action_script, short_enough}
use Rattle.arith.specs.Number.{Prime}
use Rattle.readings.specs.State.{State, state, filed, performed, executed}
use Rattle.readings.specs.Runs.{History, Running, Stepped}
use Rattle.readings.proofs.Step.{stepped, room_of, passed as check_passed}
use Rattle.tape.proofs.Primes.{above_two}

-- an accepted check
pub passed : (r : Result (List Kind) TapeFault) → ◌≡◌ {A = Result (Unit {0}) TapeFault} (Ok tt) (over (λ _. tt) r) → (ks : List Kind) × (r ≡ Ok ks)
passed (Ok ks) e = (ks, refl)
passed (Err f) e = cc e

-- a gadget's call, its answer put into a list
pub answered : {A : Type 0} (p : ℕ) (s : Script A) (f : A → List Answer) (m n : Meaning) (r : Result A GadgetFault) (q : Result (List Answer) GadgetFault) → whole (run p s) m ≡ (r, n) → q ≡ over f r → whole (run p (then s (λ x. answer (f x)))) m ≡ (q, n)
answered p s f m n r q e h = whole_over p s f m n r e ∙ ap (λ x. (x, n)) (sym h)

-- the steps of what a command asks for are the command's
pub resolved : (p : ℕ) (c : Command) (book : List Answer) → action_script p (action p c book) book ≡ command_script p c book
resolved p (BitCommand m v) book = refl
resolved p (Clone a) book = refl
resolved p (Not a) book = refl
resolved p (Gated g a b) book = refl
resolved p (KaryCommand k r) book = refl
resolved p (IsEqual a b) book = refl
resolved p (Select c a b) book = refl
resolved p (Enforce Equal a b c) book = refl
resolved p (Enforce Unequal a b c) book = refl
resolved p (AtMost r e) book = refl
resolved p (NumberCommand m t v) book = refl
resolved p (BinaryCommand Add a b) book = refl
resolved p (BinaryCommand Sub a b) book = refl
resolved p (BinaryCommand Mul a b) book = refl
resolved p (UnaryCommand Negate a) book = refl
resolved p (UnaryCommand Double a) book = refl
resolved p (UnaryCommand Inverse a) book = refl
resolved p (MulEquals a b c) book = refl
resolved p (SquareEquals a b) book = refl
resolved p (Compare IsEq a b) book = refl
resolved p (Compare IsNeq a b) book = refl
resolved p (EnforceNumbers Equal a b c) book = refl
resolved p (EnforceNumbers Unequal a b c) book = refl
resolved p (SelectNumber c a b) book = refl
resolved p (FromBit a) book = refl

-- of what a checked command asks for no range is too long
pub ranges_short : (p : ℕ) (c : Command) (book : List Answer) (places : ℕ) → ◌≡◌ {A = Result (Unit {0}) TapeFault} (Ok tt) (over (λ _. tt) (checked c (kinds book) places)) → short_enough (action p c book) ≡ true
ranges_short p c book places ok = let ks = passed (checked c (kinds book) places) ok in go c (check_passed c book places ks.0 ks.1).long
  where
    go : (c : Command) → measured c ≡ true → short_enough (action p c book) ≡ true
    go (BitCommand m v) h = refl
    go (Clone a) h = refl
    go (Not a) h = refl
    go (Gated g a b) h = refl
    go (KaryCommand k r) h = (and_parts (leb 1 r.count) (short r) h).1
    go (IsEqual a b) h = refl
    go (Select c a b) h = refl
    go (Enforce e a b c) h = refl
    go (AtMost r e) h = (and_parts (leb (bit_length e) r.count) (short r) h).1
    go (NumberCommand m t v) h = refl
    go (BinaryCommand o a b) h = refl
    go (UnaryCommand o a) h = refl
    go (MulEquals a b c) h = refl
    go (SquareEquals a b) h = refl
    go (Compare o a b) h = refl
    go (EnforceNumbers e a b c) h = refl
    go (SelectNumber c a b) h = refl
    go (FromBit a) h = refl

-- a command that the check refuses
pub unfit : (p : ℕ) (c : Command) (m : Meaning) (book : List Answer) (places : ℕ) (f : TapeFault) → ◌≡◌ {A = Result (Unit {0}) TapeFault} (Err f) (over (λ _. tt) (checked c (kinds book) places)) → executed p c (state m book places) ≡ (Err f, state m book places)
unfit p c m book places f e = go (checked c (kinds book) places) e
  where
    go : (r : Result (List Kind) TapeFault) → ◌≡◌ {A = Result (Unit {0}) TapeFault} (Err f) (over (λ _. tt) r) → performed p c (state m book places) r ≡ (Err f, state m book places)
    go (Ok ks) q = cc q
    go (Err g) q = let same : g ≡ f = cc (sym q) in ap (λ h. (Err h, state m book places)) same

steps_are : (p : ℕ) (c : Command) (m : Meaning) (book : List Answer) {x : Result (List Answer) GadgetFault × Meaning} → whole (run p (action_script p (action p c book) book)) m ≡ x → whole (run p (command_script p c book)) m ≡ x
steps_are p c m book ran = ap (λ (s : Script (List Answer)). whole (run p s) m) (sym (resolved p c book)) ∙ ran

pub accepted : (p : ℕ) (c : Command) (m n : Meaning) (book after os : List Answer) (places places' : ℕ) → ◌≡◌ {A = Result (Unit {0}) TapeFault} (Ok tt) (over (λ _. tt) (checked c (kinds book) places))
    → whole (run p (action_script p (action p c book) book)) m ≡ (Ok os, n) → after ≡ book ++ os → places' ≡ places → executed p c (state m book places) ≡ (Ok tt, state n after places')
accepted p c m n book after os places places' ok ran e f =
    ap (performed p c (state m book places)) (passed (checked c (kinds book) places) ok).1
    ∙ ap (λ q. filed (state m book places) q.0 q.1) (steps_are p c m book ran)
    ∙ (λ i. (Ok tt, state n (sym e i) (sym f i)))

pub refused : (p : ℕ) (c : Command) (m n : Meaning) (book : List Answer) (g : GadgetFault) (places : ℕ) → ◌≡◌ {A = Result (Unit {0}) TapeFault} (Ok tt) (over (λ _. tt) (checked c (kinds book) places))
    → whole (run p (action_script p (action p c book) book)) m ≡ (Err g, n) → executed p c (state m book places) ≡ (Err (Gadget g), state n book places)
refused p c m n book g places ok ran =
    ap (performed p c (state m book places)) (passed (checked c (kinds book) places) ok).1
    ∙ ap (λ q. filed (state m book places) q.0 q.1) (steps_are p c m book ran)

-- where a whole call was accepted its steps were
steps_ran : (s : Result (List Answer) GadgetFault × Meaning) (m n : Meaning) (os : List Answer) → restored m s.0 s.1 ≡ (Ok os, n) → s ≡ (Ok os, n)
steps_ran (Ok x, l) m n os e = e
steps_ran (Err f, l) m n os e = let z : ◌≡◌ {A = Result (List Answer) GadgetFault} (Err f) (Ok os) = ap (λ q. q.0) e in cc z

-- a checked command's answers find places
pub places_left : (p : ℕ) → Prime p → p % 2 ≡ 1 → (c : Command) (m n : Meaning) (book os : List Answer) (places : ℕ) → ◌≡◌ {A = Result (Unit {0}) TapeFault} (Ok tt) (over (λ _. tt) (checked c (kinds book) places))
    → whole (run p (action_script p (action p c book) book)) m ≡ (Ok os, n) → length book + length os ≤ places
places_left p P odd c m n book os places ok ran =
    let ks = passed (checked c (kinds book) places) ok in
    room_of p P (above_two p P odd) c m n book os places ks.0 ks.1 (steps_ran (run p (command_script p c book) m) m n os (steps_are p c m book ran))

-- a book that has places for all takes them
pub extended : (book os now after : List Answer) (places : ℕ) (r : Result (Unit {0}) TapeFault) → now ≡ os → length book + length os ≤ places → r ≡ cond (leb (length book + length now) places) (Ok tt) (Err BookFull) → after ≡ cond (is_ok r) (book ++ now) book → (r ≡ Ok tt) × (after ≡ book ++ os)
extended book os now after places r same h e f =
    let t : leb (length book + length now) places ≡ true = le-leb _ _ (omega (arith, h, ap length same)) in
    let ok : r ≡ Ok tt = e ∙ ap (λ (b : Bool). cond {A = Result (Unit {0}) TapeFault} b (Ok tt) (Err BookFull)) t in
    (ok, f ∙ ap (λ (x : Result (Unit {0}) TapeFault). cond (is_ok x) (book ++ now) book) ok ∙ ap (λ (l : List Answer). book ++ l) same)

-- what runs promise of a command, from what it does
pub next_of : (p : ℕ) → Prime p → p % 2 ≡ 1 → (c : Command) (s t : State) (r : Result (Unit {0}) TapeFault) → executed p c s ≡ (r, t) → (h : History) → Running p h s → Stepped p h c s t r
next_of p P odd c s t r e h k = stepped p P (above_two p P odd) h c s t r e k
