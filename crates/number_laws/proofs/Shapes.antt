-- Scripts whose only new variables are combinations, and those that a constant or a multiple begins; laws whose reading says what the answer is.
use Rattle.std.proofs.Common.{◌≡◌, ℕ, ◌+◌, ◌-◌, ◌*◌, ◌%◌, true, eqb, [], ◌∷◌, Some, None, Option, refl, sym, ap, ◌∙◌, subst, arith, true-eqb, mod-eq_of_lt, mul-one}
use Rattle.arith.proofs.Ring.{done}
use Rattle.arith.proofs.Solve.{reads, none, times, by_mod}
use Rattle.relations.specs.declared.term.Variable.{Variable}
use Rattle.relations.specs.declared.term.Variable.TheVariants.{One}
use Rattle.relations.specs.Meaning.{number}
use Rattle.relations.specs.Script.{Script, answer, combine}
use Rattle.relations.specs.Terms.{times as times_variable}
use Rattle.fp_var.specs.Numbers.{constant_lc, scaled}
use Rattle.laws.specs.Law.{Val, Low, Must, Given, Plays, Law}
use Rattle.laws.proofs.Frame.{must_mono, must_if, plays_mono, goes_mono, goes_own, Pure, pure_if, any_plan}
use Rattle.bit_laws.proofs.Fixes.{Fixes, Always, fixes_pure}

-- a value that is there is its number
pub number_given : (o : Option ℕ) → Given o (number o)
number_given None = tt
number_given (Some x) = refl

-- ---- no new input and no new witness
-- in each assignment the rows force R and the answer e; and where R holds they are met, and the answer is e
pub fixes_rows : {p : ℕ} {Out X Y : Type 0} {at : Val → X} {of : Val → Out → Y} (s : Script Out) (P R : X → Type 0) (e : X → Y)
    → ((ρ : Val) → Low p ρ → P (at ρ) → Must p ρ s (λ o. R (at ρ) × (of ρ o ≡ e (at ρ))))
    → ((ρ : Val) → Low p ρ → P (at ρ) → R (at ρ) → Plays true p ρ s (any_plan s) (λ o. of ρ o ≡ e (at ρ))) → Fixes p at of s P R e
fixes_rows {p} {Out} {X} {Y} {at} {of} s P R e forces meets = record {
  sound = forces;
  own = λ x px rx. (any_plan s, λ ρ low q. plays_mono true p ρ s (any_plan s) (λ o. of ρ o ≡ e (at ρ)) (λ o. of ρ o ≡ e x) (λ o r. r ∙ ap e q) (meets ρ low (subst P (sym q) px) (subst R (sym q) rx)));
}

-- ---- what begins a script
-- the number of a variable
abbrev pub number_at : Val → Variable → ℕ
number_at ρ v = ρ v

-- a constant as a combination is that constant modulo p
pub constant_value : (p c o : ℕ) → o ≡ 1 → (c * o + 0) % p ≡ c % p
constant_value p c o one = ap (λ (t : ℕ). (c * t + 0) % p) one ∙ ap (λ (t : ℕ). t % p) (omega (arith, mul-one c))

pub constant_fixes : {p : ℕ} {X : Type 0} {at : Val → X} (c : ℕ) (P : X → Type 0) (e : X → ℕ) → ((ρ : Val) → Low p ρ → P (at ρ) → c % p ≡ e (at ρ)) → Fixes p at number_at (constant_lc c) P Always e
constant_fixes {p} c P e is = fixes_pure (constant_lc c) P e (λ v. tt) (λ ρ low px v q. q ∙ constant_value p c (ρ One) low.one ∙ is ρ low px)

-- a multiple of a variable is the product modulo p
pub scaled_pure : (p c : ℕ) (v : Variable) → Pure (scaled p c v)
scaled_pure p c v = pure_if (eqb (c % p) 1) (answer v) (combine (times_variable c v ∷ []) (λ x. answer x)) tt (λ x. tt)

pub scaled_must : (p c : ℕ) (v : Variable) (ρ : Val) → Low p ρ → Must p ρ (scaled p c v) (λ o. ρ o ≡ (c * ρ v) % p)
scaled_must p c v ρ low = must_if p ρ (eqb (c % p) 1) (answer v) (combine (times_variable c v ∷ []) (λ x. answer x)) (λ o. ρ o ≡ (c * ρ v) % p)
    (λ e. once (true-eqb (c % p) 1 (sym e)))
    (λ e x q. q ∙ ap (λ (t : ℕ). t % p) (omega arith))
  where
    once : c % p ≡ 1 → ρ v ≡ (c * ρ v) % p
    once e =
        let l = low.low v in
        sym (mod-eq_of_lt l) ∙ by_mod p (omega arith) (c ∷ ρ v ∷ []) (times ((p - 1) * ρ v) e (search reads depth 9) none) (search reads depth 9) done

pub scaled_fixes : {p : ℕ} {X : Type 0} {at : Val → X} (c : ℕ) (v : Variable) (P : X → Type 0) (e : X → ℕ) → ((ρ : Val) → Low p ρ → P (at ρ) → (c * ρ v) % p ≡ e (at ρ)) → Fixes p at number_at (scaled p c v) P Always e
scaled_fixes {p} {X} {at} c v P e is =
    fixes_pure (scaled p c v) P e (scaled_pure p c v) (λ ρ low px. must_mono p ρ (scaled p c v) (λ o. ρ o ≡ (c * ρ v) % p) (λ o. ρ o ≡ e (at ρ)) (λ o q. q ∙ is ρ low px) (scaled_must p c v ρ low))

-- ---- laws
-- a reading W that says that the condition R holds and that the answer is e
pub fixes_reads : {p : ℕ} {In Out X Y : Type 0} {at : Val → In → X} {of : Val → Out → Y} {g : In → Script Out} {P R : X → Type 0} {e : X → Y} (W : X → Y → Type 0)
    → ((x : X) (y : Y) → P x → W x y → R x × (y ≡ e x)) → ((x : X) → P x → R x → W x (e x)) → ((i : In) → Fixes p (λ ρ. at ρ i) of (g i) P R e) → Law p at of g P W R e
fixes_reads {p} {In} {Out} {X} {Y} {at} {of} {g} {P} {R} {e} W only says a = record {
  sound = λ ρ low i px. must_mono p ρ (g i) (λ o. R (at ρ i) × (of ρ o ≡ e (at ρ i))) (λ o. W (at ρ i) (of ρ o)) (λ o r. subst (W (at ρ i)) (sym r.1) (says (at ρ i) px r.0)) ((a i).sound ρ low px);
  complete = λ i x y px w. let r = only x y px w in
      goes_own p (g i) (λ ρ. at ρ i ≡ x) (λ ρ o. of ρ o ≡ y)
      (goes_mono true p (g i) (λ ρ. at ρ i ≡ x) (λ ρ. at ρ i ≡ x) (λ ρ o. of ρ o ≡ e x) (λ ρ o. of ρ o ≡ y) (λ ρ q. q) (λ ρ o q z. z ∙ sym r.1) ((a i).own x px r.0));
  own = λ i x h. (a i).own x h.0 h.1;
  obeyed = λ x px s. says x px s;
  solvable = λ x y px w. (only x y px w).0;
}
