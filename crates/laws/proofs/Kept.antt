-- A gadget's law is kept by every accepted run of its script.
use Rattle.std.proofs.Common.{◌≡◌, ℕ, ◌<◌, true, false, Ok, sym, subst}
use Rattle.relations.specs.Meaning.{Meaning, assigned}
use Rattle.relations.specs.Script.{Script, run}
use Rattle.laws.specs.Law.{Val, Law}
use Rattle.laws.specs.Runs.{Same, Proper, Solves, Promises}
use Rattle.laws.proofs.Frame.{goes_mono}
use Rattle.laws.proofs.Link.{before, run_grows, sound_run, complete_run, Extends}
use Rattle.laws.proofs.Own.{own_run, Owned}

-- from a law and an accepted run to the three promises
pub law_runs : (p : ℕ) → 1 < p → {In Out X Y : Type 0} (at : Val → In → X) (of : Val → Out → Y) (g : In → Script Out) (Pre : X → Type 0) (R : X → Y → Type 0) (S : X → Type 0) (e : X → Y) → Law p at of g Pre R S e
    → (i : In) (m n : Meaning) (o : Out) → Proper p m → ((ρ σ : Val) → Same m ρ σ → at σ i ≡ at ρ i) → run p (g i) m ≡ (Ok o, n) → Promises p at of Pre R i m n o
law_runs p above {In} {Out} {X} {Y} at of g Pre R S e law i m n o pr local ran = record {
  before = before p m n (run_grows p (g i) m n o ran);
  sound = λ ρ s pre. sound_run p ρ (g i) m n o (λ z. R (at ρ i) (of ρ z)) ran s (law.sound ρ s.low i pre);
  complete = complete;
  own = own;
}
  where
    complete : (ρ : Val) → Solves p m ρ → (y : Y) → Pre (at ρ i) → R (at ρ i) y → (σ : Val) × Solves p n σ × Same m ρ σ × (of σ o ≡ y)
    complete ρ s y pre r =
        let x : Extends p m n ρ (λ σ. of σ o ≡ y) = complete_run p above (g i) m n o ρ (λ σ z. of σ z ≡ y) ran pr s
        (goes_mono false p (g i) (λ σ. at σ i ≡ at ρ i) (Same m ρ) (λ σ z. of σ z ≡ y) (λ σ z. of σ z ≡ y) (λ σ a. local ρ σ a) (λ σ z a q. q) (law.complete i (at ρ i) y pre r)) in
        (x.values, x.solves, x.agrees, x.says)

    own : m.keeps ≡ true → Solves p m (assigned m) → Pre (at (assigned m) i) → ((y : Y) × R (at (assigned m) i) y) → Solves p n (assigned n) × R (at (assigned m) i) (of (assigned n) o)
    own keeps s pre some =
        let ρ : Val = assigned m in
        let can : S (at ρ i) = law.solvable (at ρ i) some.0 pre some.1 in
        let x : Owned p n (λ σ. of σ o ≡ e (at ρ i)) = own_run p above (g i) m n o (λ σ z. of σ z ≡ e (at ρ i)) ran keeps pr s
        (goes_mono true p (g i) (λ σ. at σ i ≡ at ρ i) (Same m ρ) (λ σ z. of σ z ≡ e (at ρ i)) (λ σ z. of σ z ≡ e (at ρ i)) (λ σ a. local ρ σ a) (λ σ z a q. q) (law.own i (at ρ i) (pre, can))) in
        (x.solves, subst (R (at ρ i)) (sym x.says) (law.obeyed (at ρ i) pre can))
