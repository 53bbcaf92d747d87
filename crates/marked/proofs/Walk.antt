-- Where commands lead from any beginning, computed: their decisions, the book, the names and what is used are the same for all of them.
use Rattle.std.proofs.Common.{◌≡◌, ℕ, ◌+◌, ◌<◌, ◌≤◌, Bool, true, false, List, [], ◌∷◌, ◌++◌, length, Some, None, Ok, Err, Option, Result, sym, refl, ap, ◌∙◌, subst, arith}
use Rattle.arith.specs.Number.{Prime}
use Rattle.relations.specs.declared.fault.GadgetFault.{GadgetFault}
use Rattle.relations.specs.Meaning.{Meaning, Fresh, Grows, assigned, has, places as places_of, rows_use}
use Rattle.relations.specs.Script.{Script, answer, refuse, allocate, combine, row, run, restored}
use Rattle.command.specs.declared.commands.Kind.{Kind}
use Rattle.command.specs.declared.commands.Command.{Command}
use Rattle.command.specs.declared.answers.Answer.{Answer}
use Rattle.command.specs.declared.fault.TapeFault.{TapeFault}
use Rattle.command.specs.declared.fault.TapeFault.TheVariants.{Gadget}
use Rattle.command.specs.Decide.{checked}
use Rattle.command.specs.Answers.{kinds, command_script}
use Rattle.laws.specs.Law.{Constants}
use Rattle.laws.specs.History.{Each}
use Rattle.laws.specs.Bill.{Charge, Next, names, names_with, charges, ends, rooms, Account, account, nothing_used, settle, settled}
use Rattle.laws.proofs.Link.{run_grows}
use Rattle.laws.proofs.Settle.{settled_ok, ends_with}
use Rattle.readings.specs.Readings.{NamesThere}
use Rattle.readings.specs.Decision.{bill, by_bill, by_check}
use Rattle.readings.specs.State.{State, state, filed, performed, executed}
use Rattle.readings.specs.Runs.{History, decided, Running}
use Rattle.readings.proofs.CommandLaws.{served}
use Rattle.readings.proofs.Step.{stepped, running_begins}
use Rattle.marked.specs.Lines.{Course, start, onward, after, Accepted, LastRefused, Blank}
use Rattle.marked.proofs.Owed.{KeptAsTold, told, kept_as_told, nought, owed, free, Settles, owed_settles}
use Rattle.marked.proofs.Rooms.{least, Wide, own, early, settle_more, checked_more, unfit_more}

-- where accepted commands lead: the commands with their decisions, the book, the next names, what is used, and whether the last command asked for nothing
pub record Spot : Type 0 where
  pub past : History
  pub book : List Answer
  pub next : Next
  pub spent : Account
  pub still : Bool

-- where there was no command
abbrev pub first : Spot
first = record { past = []; book = []; next = record { input_at = 0; witness_at = 0; place = 0; kept = nought }; spent = nothing_used; still = true }

abbrev pub followed : {A B : Type 0} → Option B → (B → Option A) → Option A
followed None k = None
followed (Some b) k = k b

-- one command more, if it is accepted
abbrev pub taken : Command → Spot → List Charge → Result (List Kind) TapeFault → Result Account GadgetFault → Option (List Answer × Next) → Option Spot
taken c b cs (Ok ks) (Ok a) (Some (os, n)) = Some (record { past = (c, Ok ks) ∷ b.past; book = b.book ++ os; next = n; spent = a; still = free cs })
taken c b cs (Ok ks) (Ok a) None = None
taken c b cs (Ok ks) (Err e) z = None
taken c b cs (Err f) y z = None

-- k says whether values are kept
abbrev pub step : Bool → ℕ → Command → Spot → Option Spot
step k p c b = followed (owed k p (told p b.past) c b.book) (λ cs. taken c b cs (checked c (kinds b.book) 4096) (settle (least k) b.spent cs) (ends p b.next (command_script p c b.book)))

-- some commands, if all are accepted
abbrev pub walk : Bool → ℕ → List Command → Spot → Option Spot
walk k p [] b = Some b
walk k p (c ∷ cs) b = followed (step k p c b) (walk k p cs)

-- the refusal of a command, if it comes from its operands or lengths or is the gadget's own
abbrev pub own_fault : GadgetFault → Bool → Option TapeFault
own_fault e true = Some (Gadget e)
own_fault e false = None

abbrev pub early_fault : TapeFault → Bool → Option TapeFault
early_fault f true = Some f
early_fault f false = None

abbrev pub barred : Result (List Kind) TapeFault → Option (Result Account GadgetFault) → Option TapeFault
barred (Ok ks) None = None
barred (Ok ks) (Some (Ok a)) = None
barred (Ok ks) (Some (Err e)) = own_fault e (own (Err e))
barred (Err f) y = early_fault f (early f)

abbrev pub settle_owed : Bool → Account → Option (List Charge) → Option (Result Account GadgetFault)
settle_owed k a None = None
settle_owed k a (Some cs) = Some (settle (least k) a cs)

abbrev pub refusal : Bool → ℕ → Command → Spot → Option TapeFault
refusal k p c b = barred (checked c (kinds b.book) 4096) (settle_owed k b.spent (owed k p (told p b.past) c b.book))

-- the refusal of the last of some commands, if all before it are accepted
abbrev pub last_refusal : Bool → ℕ → List Command → Spot → Option TapeFault
last_refusal k p [] b = None
last_refusal k p (c ∷ []) b = refusal k p c b
last_refusal k p (c ∷ d ∷ cs) b = followed (step k p c b) (last_refusal k p (d ∷ cs))

-- ---- commands have led there
pub record At (k : Bool) (p : ℕ) (b : Spot) (g : Course) : Type 0 where
  pub running : Running p g.history g.state
  pub past : g.history ≡ b.past
  pub accepted : Accepted b.past
  pub book : g.state.book ≡ b.book
  pub next : names_with nought g.state.system ≡ b.next
  pub spent : account g.state.system ≡ b.spent
  pub wide : Wide k (rooms g.state.system)
  pub places : 4096 ≤ g.state.places
  pub still : b.still ≡ true → g.state.system ≡ g.before

-- a script that asks for nothing leaves the system as it was
silent : (p : ℕ) {A : Type 0} (s : Script A) (m n : Meaning) (x : A) → free (charges p (names m) s) ≡ true → run p s m ≡ (Ok x, n) → n ≡ m
silent p {A} (answer y) m n x f e = ap (λ (z : Result A GadgetFault × Meaning). z.1) (sym e)
silent p (refuse g) m n x f e = cc f
silent p (allocate d vs g k) m n x f e = cc f
silent p (combine ts k) m n x f e = cc f
silent p (row a b c s) m n x f e = cc f

-- rooms are the same after a step
still_wide : (k : Bool) (m n : Meaning) → Grows m n → Wide k (rooms m) → Wide k (rooms n)
still_wide k m n g w = record {
  inputs = let h = w.inputs in let e = g.input_room_is in omega arith;
  witnesses = let h = w.witnesses in let e = g.witness_room_is in omega arith;
  terms = let h = w.terms in let e = g.term_room_is in omega arith;
  rows = let h = w.rows in let e = g.row_room_is in omega arith;
  keeps = g.keeps_is ∙ w.keeps;
}

module _ (k : Bool) (p : ℕ) (P : Prime p) (two : 2 < p) where
  -- the check of a command
  check_is : (c : Command) (b : Spot) (g : Course) (x : Result (List Kind) TapeFault) → At k p b g → checked c (kinds b.book) 4096 ≡ x → checked c (kinds g.state.book) 4096 ≡ x
  check_is c b g x a e = ap (λ (l : List Answer). checked c (kinds l) 4096) a.book ∙ e

  -- where values are kept, they are those that the tape gave
  told_at : (b : Spot) (g : Course) → At k p b g → k ≡ true → KeptAsTold p b.past (assigned g.state.system) g.state.book
  told_at b g a e = subst (λ (h : History). KeptAsTold p h (assigned g.state.system) g.state.book) a.past (kept_as_told p g.history g.state a.running.run (a.running.told (a.wide.keeps ∙ e)))

  -- its bill
  bill_is : (c : Command) (b : Spot) (g : Course) (cs : List Charge) → At k p b g → owed k p (told p b.past) c b.book ≡ Some cs → Settles (rooms g.state.system) (account g.state.system) (bill p (assigned g.state.system) c g.state.book) cs
  bill_is c b g cs a e =
      owed_settles k p (assigned g.state.system) refl refl (told p b.past) c g.state.book cs (rooms g.state.system) (account g.state.system) a.wide.keeps (told_at b g a) (ap (owed k p (told p b.past) c) a.book ∙ e)

  settled_is : (c : Command) (b : Spot) (g : Course) (cs : List Charge) (y : Result Account GadgetFault) → At k p b g → own y ≡ true → owed k p (told p b.past) c b.book ≡ Some cs → settle (least k) b.spent cs ≡ y → settled (bill p (assigned g.state.system) c g.state.book) g.state.system ≡ y
  settled_is c b g cs y a o e q = (bill_is c b g cs a e).same ∙ settle_more k (rooms g.state.system) a.wide (account g.state.system) cs y o ((λ i. settle (least k) (a.spent i) cs) ∙ q)

  -- one command more
  leads : (c : Command) (b : Spot) (g : Course) (ks : List Kind) (cs : List Charge) (d : Account) (os : List Answer) (n : Next) → At k p b g → owed k p (told p b.past) c b.book ≡ Some cs → checked c (kinds b.book) 4096 ≡ Ok ks → settle (least k) b.spent cs ≡ Ok d → ends p b.next (command_script p c b.book) ≡ Some (os, n)
      → At k p (record { past = (c, Ok ks) ∷ b.past; book = b.book ++ os; next = n; spent = d; still = free cs }) (onward p c g)
  leads c b g ks cs d os n a owes ch paid e = record {
    running = (stepped p P two g.history c s (executed p c s).1 (executed p c s).0 refl a.running).running;
    past = λ i. (c, decision i) ∷ a.past i;
    accepted = a.accepted;
    book = ap (λ (x : State). x.book) led ∙ (λ i. a.book i ++ answers i);
    next = ap (λ (x : State). names_with nought x.system) led ∙ ap (λ (z : List Answer × Next). z.1) ended;
    spent = ap (λ (x : State). account x.system) led ∙ ran.3;
    wide = subst (λ (x : State). Wide k (rooms x.system)) (sym led) (still_wide k m after_it (run_grows p (command_script p c s.book) m after_it ran.0 ran.2) a.wide);
    places = subst (λ (x : State). 4096 ≤ x.places) (sym led) a.places;
    still = λ f. ap (λ (x : State). x.system) led ∙ silent p (command_script p c s.book) m after_it ran.0 (ap free due ∙ (bill_is c b g cs a owes).free_too ∙ f) ran.2;
  }
    where
      s : State
      s = g.state

      m : Meaning
      m = s.system

      check : checked c (kinds s.book) s.places ≡ Ok ks
      check = checked_more c s.book s.places ks a.places (check_is c b g (Ok ks) a ch)

      bought : settled (bill p (assigned m) c s.book) m ≡ Ok d
      bought = settled_is c b g cs (Ok d) a refl owes paid

      decision : decided p c s ≡ Ok ks
      decision = ap (by_check p c m s.book) check ∙ ap (by_bill ks) bought

      due : charges p (names m) (command_script p c s.book) ≡ bill p (assigned m) c s.book
      due = (served p P two c).billed m s.book a.running.real a.running.kept.book

      there : Constants (has m)
      there = record { one = refl; zero = refl }

      ran : (x : List Answer) × (k : Meaning) × (run p (command_script p c s.book) m ≡ (Ok x, k)) × (account k ≡ d)
      ran = settled_ok p (command_script p c s.book) m d (λ t os. Each (NamesThere t) os) ((served p P two c).sees s.book (has m) there a.running.kept.book) ((served p P two c).foreseen s.book (has m) (assigned m) there a.running.kept.book) (ap (λ (l : List Charge). settled l m) due ∙ bought)

      after_it : Meaning
      after_it = ran.1

      ended : ◌≡◌ {A = List Answer × Next} (ran.0, names_with nought after_it) (os, n)
      ended = let q : ◌≡◌ {A = Option (List Answer × Next)} (Some (ran.0, names_with nought after_it)) (Some (os, n)) = sym (ends_with p nought (command_script p c s.book) m after_it ran.0 ran.2) ∙ (λ i. ends p (a.next i) (command_script p c (a.book i))) ∙ e in cc q

      answers : ran.0 ≡ os
      answers = ap (λ (z : List Answer × Next). z.0) ended

      led : (executed p c s).1 ≡ state after_it (s.book ++ ran.0) s.places
      led = ap (λ (z : Result (List Kind) TapeFault). (performed p c s z).1) check ∙ ap (λ (z : Result (List Answer) GadgetFault × Meaning). (filed s (restored m z.0 z.1).0 (restored m z.0 z.1).1).1) ran.2

  steps : (c : Command) (b t : Spot) (g : Course) → At k p b g → step k p c b ≡ Some t → At k p t (onward p c g)
  steps c b t g a = by_owed (owed k p (told p b.past) c b.book) refl
    where
      go : (cs : List Charge) (x : Result (List Kind) TapeFault) (y : Result Account GadgetFault) (z : Option (List Answer × Next)) → owed k p (told p b.past) c b.book ≡ Some cs → checked c (kinds b.book) 4096 ≡ x → settle (least k) b.spent cs ≡ y → ends p b.next (command_script p c b.book) ≡ z
          → taken c b cs x y z ≡ Some t → At k p t (onward p c g)
      go cs (Ok ks) (Ok d) (Some (os, n)) o h q l e = let r = leads c b g ks cs d os n a o h q l in subst (λ (u : Spot). At k p u (onward p c g)) (cc e) r
      go cs (Ok ks) (Ok d) None o h q l e = cc e
      go cs (Ok ks) (Err f) z o h q l e = cc e
      go cs (Err f) y z o h q l e = cc e

      by_owed : (w : Option (List Charge)) → owed k p (told p b.past) c b.book ≡ w → followed w (λ cs. taken c b cs (checked c (kinds b.book) 4096) (settle (least k) b.spent cs) (ends p b.next (command_script p c b.book))) ≡ Some t → At k p t (onward p c g)
      by_owed None o e = cc e
      by_owed (Some cs) o e = go cs (checked c (kinds b.book) 4096) (settle (least k) b.spent cs) (ends p b.next (command_script p c b.book)) o refl refl refl e

  -- some commands more
  pub walks : (cs : List Command) (b t : Spot) (g : Course) → At k p b g → walk k p cs b ≡ Some t → At k p t (after p cs g)
  walks [] b t g a e = subst (λ (u : Spot). At k p u g) (cc e) a
  walks (c ∷ cs) b t g a e = go (step k p c b) refl e (λ u q h. walks cs u t (onward p c g) q h)
    where
      go : (x : Option Spot) → step k p c b ≡ x → followed x (walk k p cs) ≡ Some t → ((u : Spot) → At k p u (onward p c g) → walk k p cs u ≡ Some t → At k p t (after p cs (onward p c g))) → At k p t (after p cs (onward p c g))
      go None h q r = cc q
      go (Some u) h q r = r u (steps c b u g a h) q

  -- a refused one at their end
  refuses : (c : Command) (b : Spot) (f : TapeFault) (g : Course) → At k p b g → refusal k p c b ≡ Some f → decided p c g.state ≡ Err f
  refuses c b f g a = go (checked c (kinds b.book) 4096) (owed k p (told p b.past) c b.book) refl refl
    where
      s : State
      s = g.state

      go : (x : Result (List Kind) TapeFault) (w : Option (List Charge)) → checked c (kinds b.book) 4096 ≡ x → owed k p (told p b.past) c b.book ≡ w → barred x (settle_owed k b.spent w) ≡ Some f → decided p c s ≡ Err f
      go (Ok ks) None h o e = cc e
      go (Ok ks) (Some cs) h o e = paid (settle (least k) b.spent cs) refl e
        where
          paid : (y : Result Account GadgetFault) → settle (least k) b.spent cs ≡ y → barred (Ok ks) (Some y) ≡ Some f → decided p c s ≡ Err f
          paid (Ok d) l q = cc q
          paid (Err r) l q = owned (own (Err r)) refl q
            where
              owned : (t : Bool) → own (Err r) ≡ t → own_fault r t ≡ Some f → decided p c s ≡ Err f
              owned true w z =
                  ap (by_check p c s.system s.book) (checked_more c s.book s.places ks a.places (check_is c b g (Ok ks) a h))
                  ∙ ap (by_bill ks) (settled_is c b g cs (Err r) a w o l)
                  ∙ (let v : Gadget r ≡ f = cc z in ap Err v)
              owned false w z = cc z
      go (Err r) w h o e = found (early r) refl e
        where
          found : (t : Bool) → early r ≡ t → early_fault r t ≡ Some f → decided p c s ≡ Err f
          found true l q = ap (by_check p c s.system s.book) (unfit_more c (kinds s.book) s.places r l (check_is c b g (Err r) a h)) ∙ (let z : r ≡ f = cc q in ap Err z)
          found false l q = cc q

  pub ends_refused : (cs : List Command) (b : Spot) (f : TapeFault) (g : Course) → At k p b g → last_refusal k p cs b ≡ Some f → LastRefused f (after p cs g).history
  ends_refused [] b f g a e = cc e
  ends_refused (c ∷ []) b f g a e = (refuses c b f g a e, subst Accepted (sym a.past) a.accepted)
  ends_refused (c ∷ d ∷ cs) b f g a e = go (step k p c b) refl e (λ u q h. ends_refused (d ∷ cs) u f (onward p c g) q h)
    where
      go : (x : Option Spot) → step k p c b ≡ x → followed x (last_refusal k p (d ∷ cs)) ≡ Some f → ((u : Spot) → At k p u (onward p c g) → last_refusal k p (d ∷ cs) u ≡ Some f → LastRefused f (after p (d ∷ cs) (onward p c g)).history) → LastRefused f (after p (d ∷ cs) (onward p c g)).history
      go None h q r = cc q
      go (Some u) h q r = r u (steps c b u g a h) q

  -- where a line begins
  pub begun : (s : State) → Blank s → s.system.keeps ≡ k → At k p first (start s)
  begun s h keeps = record {
    running = running_begins p P two s h.fresh h.book;
    past = refl;
    accepted = tt;
    book = h.book;
    next = fresh_names s.system h.fresh;
    spent = fresh_account s.system h.fresh;
    wide = record { inputs = h.inputs; witnesses = h.witnesses; terms = h.terms; rows = h.rows; keeps = keeps };
    places = h.places;
    still = λ e. refl;
  }
    where
      fresh_names : (m : Meaning) → Fresh m → names_with nought m ≡ first.next
      fresh_names m f = λ i. record { input_at = length (f.no_inputs i); witness_at = length (f.no_witnesses i); place = places_of (f.no_combos i); kept = nought }

      fresh_account : (m : Meaning) → Fresh m → account m ≡ nothing_used
      fresh_account m f = λ i. record { inputs = length (f.no_inputs i); witnesses = length (f.no_witnesses i); terms = places_of (f.no_combos i) + rows_use (f.no_rows i); rows = length (f.no_rows i) }
