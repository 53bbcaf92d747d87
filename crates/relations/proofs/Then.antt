-- One script after another runs as its parts do.
use Rattle.std.proofs.Common.{◌≡◌, ℕ, List, [], ◌∷◌, Ok, Err, Option, Result, refl, ap, ◌∙◌}
use Rattle.relations.specs.declared.term.Variable.{Variable}
use Rattle.relations.specs.declared.fault.SystemFault.{SystemFault}
use Rattle.relations.specs.declared.fault.GadgetFault.{GadgetFault}
use Rattle.relations.specs.Meaning.{Meaning, Step, ask, new_variable, new_lc, enforce}
use Rattle.relations.specs.declared.term.Side.{Side}
use Rattle.relations.specs.Script.{Script, answer, refuse, allocate, combine, row, then, next, asking, run, over, restored, whole}

-- what follows a script's run
abbrev pub follow : {A B : Type 0} → Result A GadgetFault → Meaning → (A → Step (Result B GadgetFault)) → Result B GadgetFault × Meaning
follow (Ok x) m k = k x m
follow (Err e) m k = (Err e, m)

asking_then : {A B : Type 0} (d : Side) (vs : List Variable) (f : List (Option ℕ) → Option ℕ) (s : Variable → Step (Result A GadgetFault)) (t : Variable → Step (Result B GadgetFault)) (k : A → Step (Result B GadgetFault))
    → ((v : Variable) (n : Meaning) → t v n ≡ follow (s v n).0 (s v n).1 k) → (m : Meaning) → asking d vs f t m ≡ follow (asking d vs f s m).0 (asking d vs f s m).1 k
asking_then {A} {B} d [] f s t k h m = go (new_variable d (f []) m).0 (new_variable d (f []) m).1
  where
    go : (r : Result Variable SystemFault) (n : Meaning) → next {A = Variable} {B = B} r n t ≡ follow (next {A = Variable} {B = A} r n s).0 (next {A = Variable} {B = A} r n s).1 k
    go (Ok v) n = h v n
    go (Err e) n = refl
asking_then {A} {B} d (v ∷ vs) f s t k h m = go (ask v m).0 (λ o. asking_then d vs (λ os. f (o ∷ os)) s t k h m)
  where
    go : (r : Result (Option ℕ) SystemFault) → ((o : Option ℕ) → asking d vs (λ os. f (o ∷ os)) t m ≡ follow (asking d vs (λ os. f (o ∷ os)) s m).0 (asking d vs (λ os. f (o ∷ os)) s m).1 k)
        → next {A = Option ℕ} {B = B} r m (λ o. asking d vs (λ os. f (o ∷ os)) t) ≡ follow (next {A = Option ℕ} {B = A} r m (λ o. asking d vs (λ os. f (o ∷ os)) s)).0 (next {A = Option ℕ} {B = A} r m (λ o. asking d vs (λ os. f (o ∷ os)) s)).1 k
    go (Ok o) g = g o
    go (Err e) g = refl

pub run_then : {A B : Type 0} (p : ℕ) (s : Script A) (k : A → Script B) (m : Meaning) → run p (then s k) m ≡ follow (run p s m).0 (run p s m).1 (λ x. run p (k x))
run_then p (answer x) k m = refl
run_then p (refuse e) k m = refl
run_then p (allocate d vs f c) k m = asking_then d vs f (λ v. run p (c v)) (λ v. run p (then (c v) k)) (λ x. run p (k x)) (λ v n. run_then p (c v) k n) m
run_then {A} {B} p (combine ts c) k m = go (new_lc p ts m).0 (new_lc p ts m).1 (λ v n. run_then p (c v) k n)
  where
    go : (r : Result Variable SystemFault) (n : Meaning) → ((v : Variable) (n : Meaning) → run p (then (c v) k) n ≡ follow (run p (c v) n).0 (run p (c v) n).1 (λ x. run p (k x)))
        → next {A = Variable} {B = B} r n (λ v. run p (then (c v) k)) ≡ follow (next {A = Variable} {B = A} r n (λ v. run p (c v))).0 (next {A = Variable} {B = A} r n (λ v. run p (c v))).1 (λ x. run p (k x))
    go (Ok v) n h = h v n
    go (Err e) n h = refl
run_then {A} {B} p (row a b c s) k m = go (enforce p a b c m).0 (enforce p a b c m).1 (λ n. run_then p s k n)
  where
    go : (r : Result (Unit {0}) SystemFault) (n : Meaning) → ((n : Meaning) → run p (then s k) n ≡ follow (run p s n).0 (run p s n).1 (λ x. run p (k x)))
        → next {A = Unit {0}} {B = B} r n (λ u. run p (then s k)) ≡ follow (next {A = Unit {0}} {B = A} r n (λ u. run p s)).0 (next {A = Unit {0}} {B = A} r n (λ u. run p s)).1 (λ x. run p (k x))
    go (Ok u) n h = h n
    go (Err e) n h = refl

-- where the first is accepted, the second follows
pub then_ok : {A B : Type 0} (p : ℕ) (s : Script A) (k : A → Script B) (m n : Meaning) (x : A) → run p s m ≡ (Ok x, n) → run p (then s k) m ≡ run p (k x) n
then_ok p s k m n x e = run_then p s k m ∙ ap (λ q. follow q.0 q.1 (λ y. run p (k y))) e

-- where the first is refused, so is the whole
pub then_err : {A B : Type 0} (p : ℕ) (s : Script A) (k : A → Script B) (m n : Meaning) (f : GadgetFault) → run p s m ≡ (Err f, n) → run p (then s k) m ≡ (Err f, n)
then_err p s k m n f e = run_then p s k m ∙ ap (λ q. follow q.0 q.1 (λ y. run p (k y))) e

-- a script with another answer
pub then_over : {A B : Type 0} (p : ℕ) (s : Script A) (f : A → B) (m n : Meaning) (r : Result A GadgetFault) → run p s m ≡ (r, n) → run p (then s (λ x. answer (f x))) m ≡ (over f r, n)
then_over {A} {B} p s f m n r e = run_then p s (λ x. answer (f x)) m ∙ ap (λ q. follow q.0 q.1 (λ y. run p (answer (f y)))) e ∙ go r
  where
    go : (r : Result A GadgetFault) → follow {A = A} {B = B} r n (λ y. run p (answer (f y))) ≡ (over f r, n)
    go (Ok x) = refl
    go (Err e) = refl

-- the same of a call that a refusal leaves as it was
pub whole_over : {A B : Type 0} (p : ℕ) (s : Script A) (f : A → B) (m n : Meaning) (r : Result A GadgetFault) → whole (run p s) m ≡ (r, n) → whole (run p (then s (λ x. answer (f x)))) m ≡ (over f r, n)
whole_over {A} {B} p s f m n r e =
    ap (λ q. restored m q.0 q.1) (then_over p s f m (run p s m).1 (run p s m).0 refl)
    ∙ go (run p s m).0 (run p s m).1 ∙ ap (λ q. (over f q.0, q.1)) e
  where
    go : (r : Result A GadgetFault) (n : Meaning) → restored m (over f r) n ≡ (over f (restored m r n).0, (restored m r n).1)
    go (Ok x) n = refl
    go (Err e) n = refl
