-- A gadget whose operands are answers of a book, as a command that adds answers.
use Rattle.std.proofs.Common.{◌≡◌, ℕ, ◌≤◌, Bool, true, List, [], ◌∷◌, length, Some, None, Option, refl, ap, ◌∙◌, subst, sym, arith, ◌+◌}
use Rattle.relations.specs.declared.term.Variable.TheVariants.{Combination}
use Rattle.relations.specs.Sum.{sum_of}
use Rattle.relations.specs.Meaning.{Meaning, has, assigned}
use Rattle.relations.specs.Script.{Script, answer, refuse, allocate, combine, row, then}
use Rattle.boolean.specs.declared.bits.Boolean.{Boolean}
use Rattle.boolean.specs.declared.bits.Boolean.TheVariants.{Constant as constant_bit, Var as variable_bit}
use Rattle.command.specs.declared.commands.Kind.{Kind}
use Rattle.command.specs.declared.commands.Kind.TheVariants.{Bit as a_bit}
use Rattle.command.specs.declared.answers.Answer.{Answer}
use Rattle.command.specs.declared.answers.Answer.TheVariants.{Bit, Number}
use Rattle.command.specs.Answers.{kind_of, kinds}
use Rattle.laws.specs.Law.{Val, Law, There, Constants, Sees, Tidy, Steady, Orderly}
use Rattle.laws.specs.History.{Each, Along}
use Rattle.laws.specs.Bill.{Charge, Next, names, past, past_terms, named, charges, Foreseen, ends}
use Rattle.laws.proofs.Frame.{Only, Nothing, nothing, Is, Function, function_law, law_on, law_one, law_none, sees_then, tidy_then}
use Rattle.laws.proofs.Settle.{foreseen_steady, foreseen_then}
use Rattle.bit_laws.specs.Bits.{bit_number_of, ThereBit, RealBit}
use Rattle.bit_laws.specs.Bills.{Due, shadow}
use Rattle.bit_laws.proofs.Owes.{Owes, OldBit, Ended, older_real, charges_map}
use Rattle.bit_laws.proofs.BitBills.{unit, Any}
use Rattle.bit_laws.proofs.Statements.{Silent}
use Rattle.readings.specs.Readings.{number_of, numbers_of, BoundedByKind, NamesThere}
use Rattle.readings.specs.Decision.{Real}

-- what is shown of the steps s of a command, whose operands fit where fit says so, whose answers are of the kinds ks and whose bill is due, by the numbers
-- that are kept
pub record Served (p : ℕ) (s : List Answer → Script (List Answer)) (fit : List Kind → Bool) (ks : List Kind → List Kind) (P : List ℕ → Type 0) (R : List ℕ → List ℕ → Type 0) (S : List ℕ → Type 0) (e : List ℕ → List ℕ) (due : Val → List Answer → List Charge) : Type 0 where
  pub law : (bk : List Answer) → fit (kinds bk) ≡ true → Law p (λ ρ (u : Unit {0}). numbers_of ρ bk) numbers_of (λ u. s bk) P R S e
  pub sees : (bk : List Answer) (h : There) → Constants h → Each (NamesThere h) bk → Sees h (s bk) (λ k os. Each (NamesThere k) os)
  pub tidy : (bk : List Answer) → Tidy p (s bk)
  pub foreseen : (bk : List Answer) (h : There) (q : Val) → Constants h → Each (NamesThere h) bk → Foreseen h q (s bk)
  pub real : (m : Meaning) (k : Next) (bk os : List Answer) → Each Real bk → Each (NamesThere (has m)) bk → ends p (names m) (s bk) ≡ Some (os, k) → Each Real os
  pub kinds_are : (n k : Next) (bk os : List Answer) → fit (kinds bk) ≡ true → ends p n (s bk) ≡ Some (os, k) → kinds os ≡ ks (kinds bk)
  pub pre : (bk : List Answer) (xs : List ℕ) → fit (kinds bk) ≡ true → Along (BoundedByKind p) bk xs → P xs
  -- numbers that obey the reading fit the answers' kinds
  pub bounded : (bk os : List Answer) (old new : List ℕ) → fit (kinds bk) ≡ true → kinds os ≡ ks (kinds bk) → Along (BoundedByKind p) bk old → length new ≡ length os → R old new → Along (BoundedByKind p) os new
  pub billed : (m : Meaning) (bk : List Answer) → Each Real bk → Each (NamesThere (has m)) bk → charges p (names m) (s bk) ≡ due (assigned m) bk

-- ---- where a script ends that goes on from another's answer
pub none_some : {A B : Type 0} {x : B} → ◌≡◌ {A = Option B} None (Some x) → A
none_some e = let z : ◌≡◌ {A = ℕ} 0 1 = cc e in absurd (omega arith)

pub first_of : {A : Type 0} (x y : A) (n k : Next) → ◌≡◌ {A = Option (A × Next)} (Some (x, n)) (Some (y, k)) → x ≡ y
first_of {A} x y n k e = let q : ◌≡◌ {A = A × Next} (x, n) (y, k) = cc e in ap (λ z. z.0) q

pub record EndsWith (p : ℕ) {Out B : Type 0} (n : Next) (s : Script Out) (f : Out → B) (y : B) : Type 0 where
  pub out : Out
  pub after : Next
  pub is : y ≡ f out
  pub ends_so : ends p n s ≡ Some (out, after)

ends_with : (p : ℕ) {Out B : Type 0} (n k : Next) (s : Script Out) (f : Out → B) (y : B) → ends p n (then s (λ o. answer (f o))) ≡ Some (y, k) → EndsWith p n s f y
ends_with p n k (answer x) f y e = record { out = x; after = n; is = sym (first_of (f x) y n k e); ends_so = refl }
ends_with p n k (refuse r) f y e = none_some e
ends_with p n k (allocate d vs w c) f y e = let r = ends_with p (past d n) k (c (named d n)) f y e in record { out = r.out; after = r.after; is = r.is; ends_so = r.ends_so }
ends_with p n k (combine ts c) f y e = let r = ends_with p (past_terms (sum_of p ts).size n) k (c (Combination (n.place + (sum_of p ts).size))) f y e in record { out = r.out; after = r.after; is = r.is; ends_so = r.ends_so }
ends_with p n k (row a b c s) f y e = let r = ends_with p n k s f y e in record { out = r.out; after = r.after; is = r.is; ends_so = r.ends_so }

-- ---- what a gadget answers: a bit or a number
-- how an answer of the type O is one of the book: its kind, its number, what is said of it where it is there and where a bill ends with it, what is known of
-- it beforehand, and which numbers it stands for
pub record Answering (p : ℕ) (O A : Type 0) : Type 1 where
  pub wrap : O → Answer
  pub kind : Kind
  pub num : Val → O → ℕ
  pub there : There → O → Type 0
  pub shade : O → A
  pub good : Next → O → Type 0
  pub bound : ℕ → Type 0
  pub kind_is : (o : O) → kind_of (wrap o) ≡ kind
  pub num_is : (ρ : Val) (o : O) → number_of ρ (wrap o) ≡ num ρ o
  pub there_is : (h : There) (o : O) → there h o → NamesThere h (wrap o)
  pub real_is : (n : Next) (o : O) → good n o → Real (wrap o)
  pub bound_is : (o : Answer) → kind_of o ≡ kind → (x : ℕ) → bound x → BoundedByKind p o x

-- a bit
pub old_real : (n : Next) (b : Boolean) → OldBit n b → RealBit b
old_real n (constant_bit b) h = tt
old_real n (variable_bit a) h = older_real n a.variable h

pub bit_bound : (p : ℕ) (o : Answer) → kind_of o ≡ a_bit → (x : ℕ) → x ≤ 1 → BoundedByKind p o x
bit_bound p (Bit b) e x h = h
bit_bound p (Number y) e x h = let z : ◌≡◌ {A = ℕ} 0 1 = cc e in absurd (omega arith)

abbrev pub bits : (p : ℕ) → Answering p Boolean (Option Bool)
bits p = record { wrap = Bit; kind = a_bit; num = bit_number_of; there = ThereBit; shade = shadow; good = OldBit; bound = λ x. x ≤ 1; kind_is = λ b. refl; num_is = λ ρ b. refl; there_is = λ h b t. t; real_is = old_real; bound_is = bit_bound p }

-- what a script with a bill ends with is real
real_end : {p : ℕ} {O A : Type 0} (t : Answering p O A) (n k : Next) (s : Script O) (d : Due A) (o : O) → Owes p n s t.shade t.good d → ends p n s ≡ Some (o, k) → Real (t.wrap o)
real_end {p} {O} {A} t n k s d o w e = go (ends p n s) d.1 e w.ended
  where
    go : (r : Option (O × Next)) (q : Option A) → r ≡ Some (o, k) → Ended n t.shade t.good r q → Real (t.wrap o)
    go None q e h = none_some e
    go (Some x) None e h = absurd h
    go (Some x) (Some a) e h = subst (λ (z : O). Real (t.wrap z)) (first_of x.0 o x.1 k e) (t.real_is x.1 x.0 h.2)

-- ---- a gadget that answers a bit or a number is a command with one answer
-- what is shown of a gadget g on operands In, to which an assignment gives X, with the answer e
pub record Asks {p : ℕ} {O A : Type 0} (t : Answering p O A) {In X : Type 0} (at : Val → In → X) (g : In → Script O) (look : List Answer → In) (f : List ℕ → X) (fit : List Kind → Bool) (P : X → Type 0) (R : X → ℕ → Type 0) (S : X → Type 0) (e : X → ℕ) (due : List Answer → Due A) : Type 0 where
  pub law : Law p at t.num g P R S e
  pub sees : (bk : List Answer) (h : There) → Constants h → Each (NamesThere h) bk → Sees h (g (look bk)) t.there
  pub tidy : (i : In) → Tidy p (g i)
  pub steady : (i : In) → Steady (g i)
  pub owes : (m : Meaning) (bk : List Answer) → Each Real bk → Each (NamesThere (has m)) bk → Owes p (names m) (g (look bk)) t.shade t.good (due bk)
  pub same : (ρ : Val) (bk : List Answer) → fit (kinds bk) ≡ true → at ρ (look bk) ≡ f (numbers_of ρ bk)
  pub pre : (bk : List Answer) (xs : List ℕ) → fit (kinds bk) ≡ true → Along (BoundedByKind p) bk xs → P (f xs)
  pub low : (x : X) (y : ℕ) → P x → R x y → t.bound y

one_bounded : {p : ℕ} {O A : Type 0} (t : Answering p O A) (os : List Answer) (x : List ℕ) (new : List ℕ) (R : List ℕ → ℕ → Type 0) → kinds os ≡ t.kind ∷ [] → ((r : ℕ) → R x r → t.bound r) → length new ≡ length os → Only R x new → Along (BoundedByKind p) os new
one_bounded t os x [] R k low l q = absurd q
one_bounded t [] x (r ∷ []) R k low l q = absurd (omega arith)
one_bounded {p} t (o ∷ []) x (r ∷ []) R k low l q = (t.bound_is o (ap (head t.kind) k) r (low r q), tt)
  where
    head : Kind → List Kind → Kind
    head d [] = d
    head d (y ∷ ys) = y
one_bounded t (o ∷ o₁ ∷ os) x (r ∷ []) R k low l q = absurd (omega arith)
one_bounded t os x (r ∷ s ∷ new) R k low l q = absurd q

pub serve_one : {p : ℕ} {O A : Type 0} (t : Answering p O A) {In X : Type 0} (at : Val → In → X) (g : In → Script O) (look : List Answer → In) (f : List ℕ → X) (P : X → Type 0) (R : X → ℕ → Type 0) (S : X → Type 0) (e : X → ℕ) (due : List Answer → Due A) (fit : List Kind → Bool)
    → Asks t at g look f fit P R S e due → Served p (λ bk. then (g (look bk)) (λ o. answer (t.wrap o ∷ []))) fit (λ ks. t.kind ∷ []) (λ xs. P (f xs)) (Only (λ xs y. R (f xs) y)) (λ xs. S (f xs)) (λ xs. e (f xs) ∷ []) (λ q bk. (due bk).0)
serve_one {p} t at g look f P R S e due fit a = record {
  law = λ bk h. law_one p (λ ρ (u : Unit {0}). numbers_of ρ bk) t.num number_of t.wrap t.num_is (λ u. g (look bk)) (λ xs. P (f xs)) (λ xs y. R (f xs) y) (λ xs. S (f xs)) (λ xs. e (f xs))
      (law_on p at t.num g (λ ρ (u : Unit {0}). numbers_of ρ bk) (λ u. look bk) f (λ ρ u. a.same ρ bk h) P R S e a.law);
  sees = λ bk h o k. sees_then h (g (look bk)) (λ o. answer (t.wrap o ∷ [])) t.there (λ k os. Each (NamesThere k) os) (a.sees bk h o k) (λ h₁ w o r. (t.there_is h₁ o r, tt));
  tidy = λ bk. tidy_then p (g (look bk)) (λ o. answer (t.wrap o ∷ [])) (a.tidy (look bk)) (λ o. tt);
  foreseen = λ bk h q c k. foreseen_then h q (g (look bk)) (λ o. answer (t.wrap o ∷ [])) (foreseen_steady h q (g (look bk)) (a.steady (look bk))) (λ o. tt);
  real = λ m k bk os r h q. let d = ends_with p (names m) k (g (look bk)) (λ o. t.wrap o ∷ []) os q in subst (Each Real) (sym d.is) (real_end t (names m) d.after (g (look bk)) (due bk) d.out (a.owes m bk r h) d.ends_so, tt);
  kinds_are = λ n k bk os h q. let d = ends_with p n k (g (look bk)) (λ o. t.wrap o ∷ []) os q in ap kinds d.is ∙ ap (λ (x : Kind). x ∷ []) (t.kind_is d.out);
  pre = a.pre;
  bounded = λ bk os old new fits k h l q. one_bounded t os old new (λ xs y. R (f xs) y) k (λ r. a.low (f old) r (a.pre bk old fits h)) l q;
  billed = λ m bk r h. charges_map p (names m) (g (look bk)) (λ o. t.wrap o ∷ []) ∙ (a.owes m bk r h).charged;
}

-- ---- a statement is a command without answers
pub record States (p : ℕ) {In X : Type 0} (at : Val → In → X) (g : In → Script (Unit {0})) (look : List Answer → In) (f : List ℕ → X) (fit : List Kind → Bool) (P : X → Type 0) (S : X → Type 0) (due : Val → List Answer → Due (Unit {0})) : Type 0 where
  pub law : Law p at nothing g P (λ x u. S x) S (λ x. tt)
  pub sees : (bk : List Answer) (h : There) → Constants h → Each (NamesThere h) bk → Sees h (g (look bk)) Silent
  pub tidy : (i : In) → Tidy p (g i)
  pub foreseen : (bk : List Answer) (h : There) (q : Val) → Constants h → Each (NamesThere h) bk → Foreseen h q (g (look bk))
  pub owes : (m : Meaning) (bk : List Answer) → Each Real bk → Each (NamesThere (has m)) bk → Owes p (names m) (g (look bk)) unit Any (due (assigned m) bk)
  pub same : (ρ : Val) (bk : List Answer) → fit (kinds bk) ≡ true → at ρ (look bk) ≡ f (numbers_of ρ bk)
  pub pre : (bk : List Answer) (xs : List ℕ) → fit (kinds bk) ≡ true → Along (BoundedByKind p) bk xs → P (f xs)

none_bounded : (p : ℕ) (os : List Answer) (x : List ℕ) (new : List ℕ) (R : List ℕ → Type 0) → length new ≡ length os → Nothing R x new → Along (BoundedByKind p) os new
none_bounded p [] x [] R l q = tt
none_bounded p (o ∷ os) x [] R l q = absurd (omega arith)
none_bounded p os x (r ∷ new) R l q = absurd q

pub serve_statement : (p : ℕ) {In X : Type 0} (at : Val → In → X) (g : In → Script (Unit {0})) (look : List Answer → In) (f : List ℕ → X) (P : X → Type 0) (S : X → Type 0) (due : Val → List Answer → Due (Unit {0})) (fit : List Kind → Bool)
    → States p at g look f fit P S due → Served p (λ bk. then (g (look bk)) (λ u. answer [])) fit (λ ks. []) (λ xs. P (f xs)) (Nothing (λ xs. S (f xs))) (λ xs. S (f xs)) (λ xs. []) (λ q bk. (due q bk).0)
serve_statement p at g look f P S due fit a = record {
  law = λ bk h. law_none p (λ ρ (u : Unit {0}). numbers_of ρ bk) number_of (λ u. g (look bk)) (λ xs. P (f xs)) (λ xs. S (f xs)) (λ xs. S (f xs))
      (law_on p at nothing g (λ ρ (u : Unit {0}). numbers_of ρ bk) (λ u. look bk) f (λ ρ u. a.same ρ bk h) P (λ x u. S x) S (λ x. tt) a.law);
  sees = λ bk h o t. sees_then h (g (look bk)) (λ u. answer []) Silent (λ k os. Each (NamesThere k) os) (a.sees bk h o t) (λ h₁ w u r. tt);
  tidy = λ bk. tidy_then p (g (look bk)) (λ u. answer []) (a.tidy (look bk)) (λ u. tt);
  foreseen = λ bk h q c k. foreseen_then h q (g (look bk)) (λ u. answer []) (a.foreseen bk h q c k) (λ u. tt);
  real = λ m k bk os r t q. let d = ends_with p (names m) k (g (look bk)) (λ u. []) os q in subst (Each Real) (sym d.is) tt;
  kinds_are = λ n k bk os h q. let d = ends_with p n k (g (look bk)) (λ u. []) os q in ap kinds d.is;
  pre = a.pre;
  bounded = λ bk os old new fits k h l q. none_bounded p os old new (λ xs. S (f xs)) l q;
  billed = λ m bk r t. charges_map p (names m) (g (look bk)) (λ u. []) ∙ (a.owes m bk r t).charged;
}

-- ---- a gadget whose answer is a function of its operands
pub asks_function : {p : ℕ} {O A : Type 0} (t : Answering p O A) {In X : Type 0} {at : Val → In → X} {g : In → Script O} {look : List Answer → In} {f : List ℕ → X} {fit : List Kind → Bool} {P : X → Type 0} {e : X → ℕ} {due : List Answer → Due A} (Seen : There → In → Type 0)
    → Function p at t.num g P e → Orderly p g Seen t.there → ((bk : List Answer) (h : There) → Each (NamesThere h) bk → Seen h (look bk))
    → ((m : Meaning) (bk : List Answer) → Each Real bk → Each (NamesThere (has m)) bk → Owes p (names m) (g (look bk)) t.shade t.good (due bk))
    → ((ρ : Val) (bk : List Answer) → fit (kinds bk) ≡ true → at ρ (look bk) ≡ f (numbers_of ρ bk)) → ((bk : List Answer) (xs : List ℕ) → fit (kinds bk) ≡ true → Along (BoundedByKind p) bk xs → P (f xs)) → ((x : X) → P x → t.bound (e x))
    → Asks t at g look f fit P (Is e) (λ x. Unit {0}) e due
asks_function {p} t {In} {X} {at} {g} {look} {f} {fit} {P} {e} {due} Seen F o seen owed same pre low = record {
  law = function_law p at t.num g P (Is e) e (λ x h. refl) (λ x y h r. r) F;
  sees = λ bk h c k. o.sees h c (look bk) (seen bk h k);
  tidy = o.tidy;
  steady = o.steady;
  owes = owed;
  same = same;
  pre = pre;
  low = λ x y h q. subst t.bound (sym q) (low x h);
}

-- ---- a statement with its law
pub states_law : (p : ℕ) {In X : Type 0} {at : Val → In → X} {g : In → Script (Unit {0})} {look : List Answer → In} {f : List ℕ → X} {fit : List Kind → Bool} {P S : X → Type 0} {due : List Answer → Due (Unit {0})} (Seen : There → In → Type 0)
    → Law p at nothing g P (λ x u. S x) S (λ x. tt) → Orderly p g Seen Silent → ((bk : List Answer) (h : There) → Each (NamesThere h) bk → Seen h (look bk))
    → ((m : Meaning) (bk : List Answer) → Each Real bk → Each (NamesThere (has m)) bk → Owes p (names m) (g (look bk)) unit Any (due bk))
    → ((ρ : Val) (bk : List Answer) → fit (kinds bk) ≡ true → at ρ (look bk) ≡ f (numbers_of ρ bk)) → ((bk : List Answer) (xs : List ℕ) → fit (kinds bk) ≡ true → Along (BoundedByKind p) bk xs → P (f xs))
    → States p at g look f fit P S (λ q bk. due bk)
states_law p {In} {X} {at} {g} {look} {f} {fit} {P} {S} {due} Seen l o seen owed same pre = record {
  law = l;
  sees = λ bk h c t. o.sees h c (look bk) (seen bk h t);
  tidy = o.tidy;
  foreseen = λ bk h q c t. foreseen_steady h q (g (look bk)) (o.steady (look bk));
  owes = owed;
  same = same;
  pre = pre;
}
