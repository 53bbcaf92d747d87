-- Scripts that follow one another, in one bracketing and in another.
use Rattle.std.proofs.Common.{◌≡◌, ℕ, Ok, Err, Result, refl, ap, sym, ◌∙◌}
use Rattle.relations.specs.declared.fault.GadgetFault.{GadgetFault}
use Rattle.relations.specs.Meaning.{Meaning}
use Rattle.relations.specs.Script.{Script, answer, then, run}
use Rattle.relations.proofs.Then.{follow, run_then, then_ok, then_err}

pub then_then : {A B C : Type 0} (p : ℕ) (s : Script A) (f : A → Script B) (g : B → Script C) (m : Meaning) → run p (then (then s f) g) m ≡ run p (then s (λ x. then (f x) g)) m
then_then {A} {B} {C} p s f g m =
    run_then p (then s f) g m
    ∙ ap (λ q. follow q.0 q.1 (λ y. run p (g y))) (run_then p s f m)
    ∙ go (run p s m).0 (run p s m).1
    ∙ sym (run_then p s (λ x. then (f x) g) m)
  where
    go : (r : Result A GadgetFault) (n : Meaning) → follow {A = B} {B = C} (follow {A = A} {B = B} r n (λ x. run p (f x))).0 (follow {A = A} {B = B} r n (λ x. run p (f x))).1 (λ y. run p (g y)) ≡ follow r n (λ x. run p (then (f x) g))
    go (Ok x) n = sym (run_then p (f x) g n)
    go (Err e) n = refl

-- scripts that run alike may begin a script
pub then_alike : {A B : Type 0} (p : ℕ) (s t : Script A) (k : A → Script B) (m : Meaning) → ((n : Meaning) → run p s n ≡ run p t n) → run p (then s k) m ≡ run p (then t k) m
then_alike p s t k m h = run_then p s k m ∙ ap (λ q. follow q.0 q.1 (λ x. run p (k x))) (h m) ∙ sym (run_then p t k m)

-- a script whose answer is handed on is that script
pub then_answer : {A : Type 0} (p : ℕ) (s : Script A) (m : Meaning) → run p (then s (λ x. answer x)) m ≡ run p s m
then_answer {A} p s m = run_then p s (λ x. answer x) m ∙ go (run p s m).0 (run p s m).1
  where
    go : (r : Result A GadgetFault) (n : Meaning) → follow {A = A} {B = A} r n (λ x. run p (answer x)) ≡ (r, n)
    go (Ok x) n = refl
    go (Err e) n = refl

-- an answer that is changed twice
pub changed_twice : {A B C : Type 0} (p : ℕ) (s : Script A) (f : A → B) (g : B → C) (m : Meaning) → run p (then (then s (λ x. answer (f x))) (λ y. answer (g y))) m ≡ run p (then s (λ x. answer (g (f x)))) m
changed_twice p s f g m = then_then p s (λ x. answer (f x)) (λ y. answer (g y)) m

module _ {A B C D : Type 0} (p : ℕ) (s : Script A) (f : A → Script B) (g : B → Script C) (k : C → Script D) (m n : Meaning) where
  regrouped : run p (then (then s (λ x. then (f x) g)) k) m ≡ run p (then (then s f) (λ y. then (g y) k)) m
  regrouped =
      then_alike p (then s (λ x. then (f x) g)) (then (then s f) g) k m (λ n. sym (then_then p s f g n))
      ∙ then_then p (then s f) g k m

  -- after two scripts the third follows
  pub after_two : (y : B) → run p (then s f) m ≡ (Ok y, n) → run p (then (then s (λ x. then (f x) g)) k) m ≡ run p (then (g y) k) n
  after_two y e = regrouped ∙ then_ok p (then s f) (λ y. then (g y) k) m n y e

  pub after_two_refused : (e : GadgetFault) → run p (then s f) m ≡ (Err e, n) → run p (then (then s (λ x. then (f x) g)) k) m ≡ (Err e, n)
  after_two_refused e h = regrouped ∙ then_err p (then s f) (λ y. then (g y) k) m n e h
