-- Scripts that can be met exactly where a condition holds of their operands' numbers, and whose answer is then a function of those.
use Rattle.std.proofs.Common.{◌≡◌, ◌↔◌, ℕ, Bool, true, false, cond, List, [], ◌∷◌, drop, get_or, length, sym, refl, ap, ◌∙◌, subst, arith}
use Rattle.relations.specs.declared.term.Term.{Term}
use Rattle.relations.specs.declared.fault.GadgetFault.{GadgetFault}
use Rattle.relations.specs.Script.{Script, answer, refuse, combine, row, then}
use Rattle.laws.specs.Law.{Val, Low, RowMet, Must, Goes, Law, There, Constants, TermsThere, Wider, Sees, Tidy, Steady, Orderly, lists}
use Rattle.laws.proofs.Frame.{must_then, must_mono, plays_mono, goes_then, goes_mono, goes_own, goes_never, Function, Pure, any_plan, pure_plays, nothing, sees_then, tidy_then, steady_then, constants_wider}

-- where the operands' numbers are as P says, the rows force R of them and the answer e; and where R holds, what the script computes meets the rows and answers e
pub record Fixes (p : ℕ) {Out X Y : Type 0} (at : Val → X) (of : Val → Out → Y) (s : Script Out) (P R : X → Type 0) (e : X → Y) : Type 0 where
  pub sound : (ρ : Val) → Low p ρ → P (at ρ) → Must p ρ s (λ o. R (at ρ) × (of ρ o ≡ e (at ρ)))
  pub own : (x : X) → P x → R x → Goes true p s (λ ρ. at ρ ≡ x) (λ ρ o. of ρ o ≡ e x)

-- no condition
abbrev pub Always : {X : Type 0} → X → Type 0
Always x = Unit {0}

-- ---- one after another
pub fixes_then : {p : ℕ} {Mid Out X Y Z : Type 0} {at : Val → X} {by : Val → Mid → Y} {of : Val → Out → Z} {s : Script Mid} {k : Mid → Script Out} {P R : X → Type 0} {e : X → Y} {P₂ R₂ : X × Y → Type 0} {e₂ : X × Y → Z}
    → Fixes p at by s P R e → ((m : Mid) → Fixes p (λ ρ. (at ρ, by ρ m)) of (k m) P₂ R₂ e₂) → ((x : X) → P x → R x → P₂ (x, e x))
    → Fixes p at of (then s k) P (λ x. R x × R₂ (x, e x)) (λ x. e₂ (x, e x))
fixes_then {p} {Mid} {Out} {X} {Y} {Z} {at} {by} {of} {s} {k} {P} {R} {e} {P₂} {R₂} {e₂} a b pre = record {
  sound = λ ρ low px. must_then p ρ s k (λ m. R (at ρ) × (by ρ m ≡ e (at ρ))) (λ o. (R (at ρ) × R₂ (at ρ, e (at ρ))) × (of ρ o ≡ e₂ (at ρ, e (at ρ)))) (a.sound ρ low px)
      (λ m r. must_mono p ρ (k m) (λ o. R₂ (at ρ, by ρ m) × (of ρ o ≡ e₂ (at ρ, by ρ m))) (λ o. (R (at ρ) × R₂ (at ρ, e (at ρ))) × (of ρ o ≡ e₂ (at ρ, e (at ρ))))
      (λ o q. ((r.0, subst (λ (y : Y). R₂ (at ρ, y)) r.1 q.0), q.1 ∙ ap (λ (y : Y). e₂ (at ρ, y)) r.1))
      ((b m).sound ρ low (subst (λ (y : Y). P₂ (at ρ, y)) (sym r.1) (pre (at ρ) px r.0))));
  own = λ x px rx. goes_then true p s k (λ ρ. at ρ ≡ x) (λ ρ m. by ρ m ≡ e x) (λ ρ o. of ρ o ≡ e₂ (x, e x)) (a.own x px rx.0)
      (λ m. goes_mono true p (k m) (λ ρ. ◌≡◌ {A = X × Y} (at ρ, by ρ m) (x, e x)) (λ ρ. (at ρ ≡ x) × (by ρ m ≡ e x)) (λ ρ o. of ρ o ≡ e₂ (x, e x)) (λ ρ o. of ρ o ≡ e₂ (x, e x)) (λ ρ q j. (q.0 j, q.1 j)) (λ ρ o q r. r)
      ((b m).own (x, e x) (pre x px rx.0) rx.1));
}

-- the second sees the first one's answer alone
pub fixes_next : {p : ℕ} {Mid Out X Y Z : Type 0} {at : Val → X} {by : Val → Mid → Y} {of : Val → Out → Z} {s : Script Mid} {k : Mid → Script Out} {P R : X → Type 0} {e : X → Y} {P₂ R₂ : Y → Type 0} {e₂ : Y → Z}
    → Fixes p at by s P R e → ((m : Mid) → Fixes p (λ ρ. by ρ m) of (k m) P₂ R₂ e₂) → ((x : X) → P x → R x → P₂ (e x))
    → Fixes p at of (then s k) P (λ x. R x × R₂ (e x)) (λ x. e₂ (e x))
fixes_next {p} {Mid} {Out} {X} {Y} {Z} {at} {by} {of} {s} {k} {P} {R} {e} {P₂} {R₂} {e₂} a b pre =
    fixes_then {P₂ = λ q. P₂ q.1} {R₂ = λ q. R₂ q.1} {e₂ = λ q. e₂ q.1} a (λ m. record { sound = λ ρ low. (b m).sound ρ low; own = λ q pq rq. let h = (b m).own q.1 pq rq in (h.0, λ ρ low z. h.1 ρ low (ap (λ (t : X × Y). t.1) z)) }) pre

-- ---- other words for the same
-- the operands' numbers are had from others
pub fixes_on : {p : ℕ} {Out X Y U : Type 0} {at : Val → X} {of : Val → Out → Y} {s : Script Out} {P R : X → Type 0} {e : X → Y} (to : Val → U) (f : U → X) → ((ρ : Val) → Low p ρ → at ρ ≡ f (to ρ))
    → Fixes p at of s P R e → Fixes p to of s (λ u. P (f u)) (λ u. R (f u)) (λ u. e (f u))
fixes_on {p} {Out} {X} {Y} {U} {at} {of} {s} {P} {R} {e} to f same a = record {
  sound = λ ρ low px. must_mono p ρ s (λ o. R (at ρ) × (of ρ o ≡ e (at ρ))) (λ o. R (f (to ρ)) × (of ρ o ≡ e (f (to ρ)))) (λ o r. subst (λ (x : X). R x × (of ρ o ≡ e x)) (same ρ low) r) (a.sound ρ low (subst P (sym (same ρ low)) px));
  own = λ u px rx. let h = a.own (f u) px rx in (h.0, λ ρ low q. h.1 ρ low (same ρ low ∙ ap f q));
}

-- the condition and the answer are said otherwise
pub fixes_as : {p : ℕ} {Out X Y : Type 0} {at : Val → X} {of : Val → Out → Y} {s : Script Out} {P R : X → Type 0} {e : X → Y} (Q T : X → Type 0) (d : X → Y)
    → ((x : X) → Q x → P x) → ((x : X) → Q x → R x → T x) → ((x : X) → Q x → T x → R x) → ((x : X) → Q x → R x → e x ≡ d x) → Fixes p at of s P R e → Fixes p at of s Q T d
fixes_as {p} {Out} {X} {Y} {at} {of} {s} {P} {R} {e} Q T d pre to fro same a = record {
  sound = λ ρ low qx. must_mono p ρ s (λ o. R (at ρ) × (of ρ o ≡ e (at ρ))) (λ o. T (at ρ) × (of ρ o ≡ d (at ρ))) (λ o r. (to (at ρ) qx r.0, r.1 ∙ same (at ρ) qx r.0)) (a.sound ρ low (pre (at ρ) qx));
  own = λ x qx tx. let r = fro x qx tx in goes_mono true p s (λ ρ. at ρ ≡ x) (λ ρ. at ρ ≡ x) (λ ρ o. of ρ o ≡ e x) (λ ρ o. of ρ o ≡ d x) (λ ρ q. q) (λ ρ o q z. z ∙ same x qx r) (a.own x (pre x qx) r);
}

-- where nothing is asked, only the answer is said otherwise
pub fixes_is : {p : ℕ} {Out X Y : Type 0} {at : Val → X} {of : Val → Out → Y} {s : Script Out} {P R : X → Type 0} {e : X → Y} (Q : X → Type 0) (d : X → Y)
    → ((x : X) → Q x → P x) → ((x : X) → Q x → R x) → ((x : X) → Q x → e x ≡ d x) → Fixes p at of s P R e → Fixes p at of s Q Always d
fixes_is Q d pre met same a = fixes_as Q Always d pre (λ x q r. tt) (λ x q t. met x q) (λ x q r. same x q) a

-- the operands' numbers are had from others, and so is the answer
pub fixes_to : {p : ℕ} {Out X Y U : Type 0} {at : Val → X} {of : Val → Out → Y} {s : Script Out} {P : X → Type 0} {e : X → Y} (to : Val → U) (f : U → X) (Q : U → Type 0) (d : U → Y)
    → ((ρ : Val) → Low p ρ → at ρ ≡ f (to ρ)) → ((u : U) → Q u → P (f u)) → ((ρ : Val) → Low p ρ → Q (to ρ) → e (f (to ρ)) ≡ d (to ρ)) → Fixes p at of s P Always e → Fixes p to of s Q Always d
fixes_to {p} {Out} {X} {Y} {U} {at} {of} {s} {P} {e} to f Q d same pre is a = record {
  sound = λ ρ low qu. must_mono p ρ s (λ o. Unit {0} × (of ρ o ≡ e (f (to ρ)))) (λ o. Unit {0} × (of ρ o ≡ d (to ρ))) (λ o r. (tt, r.1 ∙ is ρ low qu)) (on.sound ρ low (pre (to ρ) qu));
  own = λ u qu r. let h = on.own u (pre u qu) tt in (h.0, λ ρ low q. plays_mono true p ρ s h.0 (λ o. of ρ o ≡ e (f u)) (λ o. of ρ o ≡ d u) (λ o z. z ∙ ap (λ (w : U). e (f w)) (sym q) ∙ is ρ low (subst Q (sym q) qu) ∙ ap d q) (h.1 ρ low q));
}
  where
    on : Fixes p to of s (λ u. P (f u)) Always (λ u. e (f u))
    on = fixes_on to f same a

-- a test of names decides between two scripts
pub fixes_if : {p : ℕ} {Out X Y : Type 0} {at : Val → X} {of : Val → Out → Y} {s t : Script Out} {P R : X → Type 0} {e : X → Y} (b : Bool)
    → (b ≡ true → Fixes p at of s P R e) → (b ≡ false → Fixes p at of t P R e) → Fixes p at of (cond b s t) P R e
fixes_if true f g = f refl
fixes_if false f g = g refl

-- the first operands of a list
pub fixes_cons : {p : ℕ} {In Out U X Y : Type 0} (to : Val → U) (num : Val → In → X) {of : Val → Out → Y} (b : In) (bs : List In) {s : Script Out} (P R : U × List X → Type 0) (e : U × List X → Y) (d : X)
    → Fixes p {X = U × X × List X} (λ ρ. (to ρ, num ρ b, lists num ρ bs)) of s (λ u. P (u.0, u.1 ∷ u.2)) (λ u. R (u.0, u.1 ∷ u.2)) (λ u. e (u.0, u.1 ∷ u.2))
    → Fixes p {X = U × List X} (λ ρ. (to ρ, lists num ρ (b ∷ bs))) of s P R e
fixes_cons {p} {In} {Out} {U} {X} {Y} to num {of} b bs {s} P R e d a = record { sound = a.sound; own = λ x. own x.0 x.1 }
  where
    own : (u : U) (xs : List X) → P (u, xs) → R (u, xs) → Goes true p s (λ ρ. ◌≡◌ {A = U × List X} (to ρ, num ρ b ∷ lists num ρ bs) (u, xs)) (λ ρ o. of ρ o ≡ e (u, xs))
    own u [] px rx = goes_never true p s (λ ρ. ◌≡◌ {A = U × List X} (to ρ, num ρ b ∷ lists num ρ bs) (u, [])) (λ ρ o. of ρ o ≡ e (u, [])) (λ ρ q. let z = ap (λ (t : U × List X). length t.1) q in omega arith)
    own u (x ∷ xs) px rx = let h = a.own (u, x, xs) px rx in (h.0, λ ρ low q. h.1 ρ low (ap (λ (t : U × List X). (t.0, get_or t.1 0 d, drop 1 t.1)) q))

-- ---- single scripts
pub fixes_answer : {p : ℕ} {Out X Y : Type 0} {at : Val → X} {of : Val → Out → Y} (o : Out) (P R : X → Type 0) (e : X → Y) → ((ρ : Val) → Low p ρ → P (at ρ) → R (at ρ) × (of ρ o ≡ e (at ρ))) → Fixes p at of (answer o) P R e
fixes_answer {p} {Out} {X} {Y} {at} {of} o P R e f = record {
  sound = f;
  own = λ x px rx. (tt, λ ρ low q. (f ρ low (subst P (sym q) px)).1 ∙ ap e q);
}

-- a row, whose meeting is the condition
pub fixes_row : {p : ℕ} {Out X Y : Type 0} {at : Val → X} {of : Val → Out → Y} (a b c : List Term) (o : Out) (P R : X → Type 0) (e : X → Y)
    → ((ρ : Val) → Low p ρ → P (at ρ) → RowMet p ρ a b c ↔ R (at ρ)) → ((ρ : Val) → Low p ρ → P (at ρ) → of ρ o ≡ e (at ρ)) → Fixes p at of (row a b c (answer o)) P R e
fixes_row {p} {Out} {X} {Y} {at} {of} a b c o P R e met is = record {
  sound = λ ρ low px r. ((met ρ low px).0 r, is ρ low px);
  own = λ x px rx. (tt, λ ρ low q. let px₁ = subst P (sym q) px in ((met ρ low px₁).1 (subst R (sym q) rx), is ρ low px₁ ∙ ap e q));
}

-- what only refuses
pub fixes_refuse : {p : ℕ} {Out X Y : Type 0} {at : Val → X} {of : Val → Out → Y} (f : GadgetFault) (P R : X → Type 0) (e : X → Y) → Fixes p at of (refuse f) P R e
fixes_refuse f P R e = record { sound = λ ρ low px. tt; own = λ x px rx. (tt, λ ρ low q. tt) }

-- combinations alone
pub fixes_pure : {p : ℕ} {Out X Y : Type 0} {at : Val → X} {of : Val → Out → Y} (s : Script Out) (P : X → Type 0) (e : X → Y) → Pure s → ((ρ : Val) → Low p ρ → P (at ρ) → Must p ρ s (λ o. of ρ o ≡ e (at ρ))) → Fixes p at of s P Always e
fixes_pure {p} {Out} {X} {Y} {at} {of} s P e u f = record {
  sound = λ ρ low px. must_mono p ρ s (λ o. of ρ o ≡ e (at ρ)) (λ o. Unit {0} × (of ρ o ≡ e (at ρ))) (λ o r. (tt, r)) (f ρ low px);
  own = λ x px rx. (any_plan s, λ ρ low q. pure_plays true p ρ s (λ o. of ρ o ≡ e x) u (must_mono p ρ s (λ o. of ρ o ≡ e (at ρ)) (λ o. of ρ o ≡ e x) (λ o r. r ∙ ap e q) (f ρ low (subst P (sym q) px))));
}

-- ---- from functions, and to laws
pub fixes_of : {p : ℕ} {In Out X Y : Type 0} {at : Val → In → X} {of : Val → Out → Y} {g : In → Script Out} {P : X → Type 0} {e : X → Y} → Function p at of g P e → (i : In) → Fixes p (λ ρ. at ρ i) of (g i) P Always e
fixes_of {p} {In} {Out} {X} {Y} {at} {of} {g} {P} {e} a i = record {
  sound = λ ρ low px. must_mono p ρ (g i) (λ o. of ρ o ≡ e (at ρ i)) (λ o. Unit {0} × (of ρ o ≡ e (at ρ i))) (λ o r. (tt, r)) (a.forces ρ low i px);
  own = λ x px rx. a.computes i x px;
}

pub fixes_function : {p : ℕ} {In Out X Y : Type 0} {at : Val → In → X} {of : Val → Out → Y} {g : In → Script Out} {P : X → Type 0} {e : X → Y} → ((i : In) → Fixes p (λ ρ. at ρ i) of (g i) P Always e) → Function p at of g P e
fixes_function {p} {In} {Out} {X} {Y} {at} {of} {g} {P} {e} a = record {
  forces = λ ρ low i px. must_mono p ρ (g i) (λ o. Unit {0} × (of ρ o ≡ e (at ρ i))) (λ o. of ρ o ≡ e (at ρ i)) (λ o r. r.1) ((a i).sound ρ low px);
  computes = λ i x px. (a i).own x px tt;
}

-- a statement: its law, whose reading is the condition
pub fixes_law : {p : ℕ} {In X : Type 0} {at : Val → In → X} {g : In → Script (Unit {0})} {P R : X → Type 0} {e : X → Unit {0}} → ((i : In) → Fixes p (λ ρ. at ρ i) nothing (g i) P R e) → Law p at nothing g P (λ x u. R x) R (λ x. tt)
fixes_law {p} {In} {X} {at} {g} {P} {R} {e} a = record {
  sound = λ ρ low i px. must_mono p ρ (g i) (λ o. R (at ρ i) × (nothing ρ o ≡ e (at ρ i))) (λ o. R (at ρ i)) (λ o r. r.0) ((a i).sound ρ low px);
  complete = λ i x u px r. goes_own p (g i) (λ ρ. at ρ i ≡ x) (λ ρ v. nothing ρ v ≡ u) ((a i).own x px r);
  own = λ i x h. (a i).own x h.0 h.1;
  obeyed = λ x px s. s;
  solvable = λ x u px r. r;
}

-- ---- scripts in order
-- where the operands are as KI says of what is there, all that the script names is there and its answer is as KO says; the values that it gives are
-- below p, and are there or not whatever was asked for
pub record Neat (p : ℕ) {Out : Type 0} (s : Script Out) (KI : There → Type 0) (KO : There → Out → Type 0) : Type 0 where
  pub sees : (h : There) → Constants h → KI h → Sees h s KO
  pub tidy : Tidy p s
  pub steady : Steady s

-- what is there stays there
abbrev pub Stays : (There → Type 0) → Type 0
Stays K = (h k : There) → Wider h k → K h → K k

pub neat_then : {p : ℕ} {Mid Out : Type 0} {s : Script Mid} {k : Mid → Script Out} {KI : There → Type 0} {KM : There → Mid → Type 0} {KO : There → Out → Type 0}
    → Stays KI → Neat p s KI KM → ((m : Mid) → Neat p (k m) (λ h. KI h × KM h m) KO) → Neat p (then s k) KI KO
neat_then {p} {Mid} {Out} {s} {k} {KI} {KM} {KO} stay a b = record {
  sees = λ h z ki. sees_then h s k KM KO (a.sees h z ki) (λ l up m km. (b m).sees l (constants_wider h l up z) (stay h l up ki, km));
  tidy = tidy_then p s k a.tidy (λ m. (b m).tidy);
  steady = steady_then s k a.steady (λ m. (b m).steady);
}

-- the second sees the first one's answer alone
pub neat_next : {p : ℕ} {Mid Out : Type 0} {s : Script Mid} {k : Mid → Script Out} {KI : There → Type 0} {KM : There → Mid → Type 0} {KO : There → Out → Type 0}
    → Neat p s KI KM → ((m : Mid) → Neat p (k m) (λ h. KM h m) KO) → Neat p (then s k) KI KO
neat_next {p} {Mid} {Out} {s} {k} {KI} {KM} {KO} a b = record {
  sees = λ h z ki. sees_then h s k KM KO (a.sees h z ki) (λ l up m km. (b m).sees l (constants_wider h l up z) km);
  tidy = tidy_then p s k a.tidy (λ m. (b m).tidy);
  steady = steady_then s k a.steady (λ m. (b m).steady);
}

-- the operands are had from others
pub neat_on : {p : ℕ} {Out : Type 0} {s : Script Out} {KI : There → Type 0} {KO : There → Out → Type 0} (KJ : There → Type 0) → ((h : There) → KJ h → KI h) → Neat p s KI KO → Neat p s KJ KO
neat_on KJ f a = record { sees = λ h z k. a.sees h z (f h k); tidy = a.tidy; steady = a.steady }

pub neat_if : {p : ℕ} {Out : Type 0} {s t : Script Out} {KI : There → Type 0} {KO : There → Out → Type 0} (b : Bool) → Neat p s KI KO → Neat p t KI KO → Neat p (cond b s t) KI KO
neat_if true a c = a
neat_if false a c = c

pub neat_answer : {p : ℕ} {Out : Type 0} (o : Out) (KI : There → Type 0) (KO : There → Out → Type 0) → ((h : There) → KI h → KO h o) → Neat p (answer o) KI KO
neat_answer o KI KO f = record { sees = λ h z k. f h k; tidy = tt; steady = tt }

pub neat_refuse : {p : ℕ} {Out : Type 0} (f : GadgetFault) (KI : There → Type 0) (KO : There → Out → Type 0) → Neat p (refuse f) KI KO
neat_refuse f KI KO = record { sees = λ h z k. tt; tidy = tt; steady = tt }

-- a gadget whose scripts are in order
pub neat_orderly : {p : ℕ} {In Out : Type 0} {g : In → Script Out} {KI : There → In → Type 0} {KO : There → Out → Type 0} → ((i : In) → Neat p (g i) (λ h. KI h i) KO) → Orderly p g KI KO
neat_orderly a = record { sees = λ h z i. (a i).sees h z; tidy = λ i. (a i).tidy; steady = λ i. (a i).steady }

-- a combination alone, and what it names
pub neat_combine : {p : ℕ} (ts : List Term) (KI : There → Type 0) → ((h : There) → Constants h → KI h → TermsThere h ts) → Neat p (combine ts (λ v. answer v)) KI (λ h v. h v ≡ true)
neat_combine ts KI f = record { sees = λ h z k. (f h z k, λ h₁ up v hv. hv); tidy = λ v. tt; steady = λ v. tt }
