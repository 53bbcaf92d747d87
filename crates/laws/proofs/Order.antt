-- Gadgets in order, one after another.
use Rattle.std.proofs.Common.{◌≡◌, ℕ, Bool, cond, List, [], ◌∷◌, sym, refl, ◌∙◌}
use Rattle.relations.specs.Meaning.{Meaning, has, assigned}
use Rattle.relations.specs.Script.{Script, answer, refuse, then, run, whole}
use Rattle.relations.specs.declared.fault.GadgetFault.{GadgetFault}
use Rattle.laws.specs.Law.{Val, There, Constants, Wider, Names, Sees, Orderly}
use Rattle.laws.specs.History.{Entry, Each, Kept}
use Rattle.laws.specs.Bill.{names, charges, settled, billed}
use Rattle.laws.proofs.Frame.{Pure, sees_then, sees_mono, sees_if, sees_names, tidy_then, tidy_if, tidy_pure, steady_then, steady_if, steady_pure, constants_wider, checked}
use Rattle.laws.proofs.Settle.{settles, foreseen_steady, billed_whole}

-- the second has the first's operands and answers. Operands that are there stay there
pub orderly_then : (p : ℕ) {In Mid Out : Type 0} (g : In → Script Mid) (f : In → Mid → Script Out) (KI : There → In → Type 0) (KM : There → Mid → Type 0) (KO : There → Out → Type 0)
    → ((h k : There) → Wider h k → (i : In) → KI h i → KI k i)
    → Orderly p g KI KM → Orderly p {In = In × Mid} (λ q. f q.0 q.1) (λ h q. KI h q.0 × KM h q.1) KO → Orderly p (λ i. then (g i) (f i)) KI KO
orderly_then p g f KI KM KO stay a b = record {
  sees = λ h z i ki. sees_then h (g i) (f i) KM KO (a.sees h z i ki) (λ k up o ko. b.sees k (constants_wider h k up z) (i, o) (stay h k up i ki, ko));
  tidy = λ i. tidy_then p (g i) (f i) (a.tidy i) (λ o. b.tidy (i, o));
  steady = λ i. steady_then (g i) (f i) (a.steady i) (λ o. b.steady (i, o));
}

-- the second has the first's answers
pub orderly_next : (p : ℕ) {In Mid Out : Type 0} (g : In → Script Mid) (f : Mid → Script Out) (KI : There → In → Type 0) (KM : There → Mid → Type 0) (KO : There → Out → Type 0)
    → Orderly p g KI KM → Orderly p f KM KO → Orderly p (λ i. then (g i) f) KI KO
orderly_next p g f KI KM KO a b = record {
  sees = λ h z i ki. sees_then h (g i) f KM KO (a.sees h z i ki) (λ k up o ko. b.sees k (constants_wider h k up z) o ko);
  tidy = λ i. tidy_then p (g i) f (a.tidy i) b.tidy;
  steady = λ i. steady_then (g i) f (a.steady i) b.steady;
}

-- the operands are had from others
pub orderly_on : (p : ℕ) {In Out J : Type 0} (g : In → Script Out) (KI : There → In → Type 0) (KO : There → Out → Type 0) (j : J → In) (KJ : There → J → Type 0)
    → ((h : There) → Constants h → (k : J) → KJ h k → KI h (j k)) → Orderly p g KI KO → Orderly p (λ k. g (j k)) KJ KO
orderly_on p g KI KO j KJ from a = record { sees = λ h z k kk. a.sees h z (j k) (from h z k kk); tidy = λ k. a.tidy (j k); steady = λ k. a.steady (j k) }

-- the answers are said more weakly
pub orderly_mono : (p : ℕ) {In Out : Type 0} (g : In → Script Out) (KI : There → In → Type 0) (KO KP : There → Out → Type 0) → ((h : There) (o : Out) → KO h o → KP h o) → Orderly p g KI KO → Orderly p g KI KP
orderly_mono p g KI KO KP f a = record { sees = λ h z i ki. sees_mono h (g i) KO KP (λ k up o ko. f k o ko) (a.sees h z i ki); tidy = a.tidy; steady = a.steady }

-- one answer is listed
pub orderly_one : (p : ℕ) {In Out : Type 0} (g : In → Script Out) (KI : There → In → Type 0) (KO : There → Out → Type 0) → Orderly p g KI KO → Orderly p (λ i. then (g i) (λ o. answer (o ∷ []))) KI (λ h os. Each (KO h) os)
orderly_one p g KI KO a = orderly_next p g (λ o. answer (o ∷ [])) KI KO (λ h os. Each (KO h) os) a (record { sees = λ h z o ko. (ko, tt); tidy = λ o. tt; steady = λ o. tt })

-- the answer is dropped
pub orderly_hide : (p : ℕ) {In Out : Type 0} (g : In → Script Out) (KI : There → In → Type 0) (KO : There → Out → Type 0) → Orderly p g KI KO → Orderly p {Out = Unit {0}} (λ i. then (g i) (λ o. answer tt)) KI (λ h u. Unit {0})
orderly_hide p g KI KO a = orderly_next p g (λ o. answer tt) KI KO (λ h u. Unit {0}) a (record { sees = λ h z o ko. tt; tidy = λ o. tt; steady = λ o. tt })

-- the answer is checked by a second one
pub orderly_checked : (p : ℕ) {In Mid : Type 0} (g : In → Script Mid) (st : Mid → Script (Unit {0})) (KI : There → In → Type 0) (KM : There → Mid → Type 0) → ((h k : There) → Wider h k → (o : Mid) → KM h o → KM k o)
    → Orderly p g KI KM → Orderly p st KM (λ h u. Unit {0}) → Orderly p (checked g st) KI KM
orderly_checked p g st KI KM stay a b = orderly_next p g (λ o. then (st o) (λ u. answer o)) KI KM KM a
    (record {
      sees = λ h z o ko. sees_then h (st o) (λ u. answer o) (λ k u. Unit {0}) KM (b.sees h z o ko) (λ k up u ku. stay h k up o ko);
      tidy = λ o. tidy_then p (st o) (λ u. answer o) (b.tidy o) (λ u. tt);
      steady = λ o. steady_then (st o) (λ u. answer o) (b.steady o) (λ u. tt);
    })

-- a test of names decides between two gadgets
pub orderly_if : (p : ℕ) {In Out : Type 0} (b : In → Bool) (g f : In → Script Out) (KI : There → In → Type 0) (KO : There → Out → Type 0) → Orderly p g KI KO → Orderly p f KI KO → Orderly p (λ i. cond (b i) (g i) (f i)) KI KO
orderly_if p b g f KI KO a c = record {
  sees = λ h z i ki. sees_if h (b i) (g i) (f i) KO (λ e. a.sees h z i ki) (λ e. c.sees h z i ki);
  tidy = λ i. tidy_if p (b i) (g i) (f i) (a.tidy i) (c.tidy i);
  steady = λ i. steady_if (b i) (g i) (f i) (a.steady i) (c.steady i);
}

-- a gadget that only refuses
pub orderly_refuse : (p : ℕ) {In Out : Type 0} (e : In → GadgetFault) (KI : There → In → Type 0) (KO : There → Out → Type 0) → Orderly p (λ i. refuse (e i)) KI KO
orderly_refuse p e KI KO = record { sees = λ h z i ki. tt; tidy = λ i. tt; steady = λ i. tt }

-- a gadget of combinations alone gives no values
pub orderly_pure : (p : ℕ) {In Out : Type 0} (g : In → Script Out) (KI : There → In → Type 0) (KO : There → Out → Type 0) → ((i : In) → Pure (g i)) → ((h : There) → Constants h → (i : In) → KI h i → Sees h (g i) KO) → Orderly p g KI KO
orderly_pure p g KI KO u s = record { sees = s; tidy = λ i. tidy_pure p (g i) (u i); steady = λ i. steady_pure (g i) (u i) }

-- what a gadget in order answers is there
pub orderly_names : (p : ℕ) {In Out : Type 0} (g : In → Script Out) (KI : There → In → Type 0) (KO : There → Out → Type 0) → Orderly p g KI KO → (i : In) (h : There) → Constants h → KI h i → Names h (g i) KO
orderly_names p g KI KO a i h z ki = sees_names h (g i) KO (a.sees h z i ki)

-- a gadget in order ends as its bill is settled
pub orderly_settles : (p : ℕ) {In Out : Type 0} (g : In → Script Out) (KI : There → In → Type 0) (KO : There → Out → Type 0) → Orderly p g KI KO → (i : In) (m : Meaning) → KI (has m) i → settled (charges p (names m) (g i)) m ≡ billed (run p (g i) m)
orderly_settles p g KI KO a i m ki = settles p (g i) m KO (a.sees (has m) (record { one = refl; zero = refl }) i ki) (foreseen_steady (has m) (assigned m) (g i) (a.steady i))

-- so does a command whose gadget is in order, as one call from a system that is kept
pub kept_settles : (p : ℕ) {Cmd Answer : Type 0} (num : Val → Answer → ℕ) (Known : There → Answer → Type 0) (Kind : Answer → ℕ → Type 0) (Reading : Cmd → List ℕ → List ℕ → Type 0) (script : Cmd → List Answer → Script (List Answer))
    → ((c : Cmd) → Orderly p (script c) (λ h bk. Each (Known h) bk) (λ h os. Each (Known h) os))
    → (c : Cmd) (h : List (Entry Cmd)) (m : Meaning) (bk : List Answer) → Kept p num Known Kind Reading h m bk → settled (charges p (names m) (script c bk)) m ≡ billed (whole (run p (script c bk)) m)
kept_settles p num Known Kind Reading script ord c h m bk k =
    orderly_settles p (script c) (λ h bk. Each (Known h) bk) (λ h os. Each (Known h) os) (ord c) bk m k.book ∙ sym (billed_whole (run p (script c bk)) m)
