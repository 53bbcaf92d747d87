-- One command more keeps what runs keep.
use Rattle.std.proofs.Common.{◌≡◌, ℕ, suc, ◌+◌, ◌<◌, Bool, true, false, cond, leb, List, [], ◌∷◌, ◌++◌, length, Some, Ok, Err, Result, sym, refl, ap, ◌∙◌, subst, arith, ◌≤◌, leb-true}
use lib.ListN.{length-map}
use Rattle.arith.specs.Number.{Prime}
use Rattle.relations.specs.declared.fault.GadgetFault.{GadgetFault}
use Rattle.relations.specs.Meaning.{Meaning, Fresh, Grows, has, assigned}
use Rattle.relations.specs.Script.{run, restored, over}
use Rattle.command.specs.declared.commands.Kind.{Kind}
use Rattle.command.specs.declared.commands.Command.{Command}
use Rattle.command.specs.declared.answers.Answer.{Answer}
use Rattle.command.specs.declared.fault.TapeFault.{TapeFault}
use Rattle.command.specs.declared.fault.TapeFault.TheVariants.{Gadget, Operand, Length, BookFull}
use Rattle.command.specs.Decide.{fits, measured, answers, checked}
use Rattle.command.specs.Answers.{kind_of, kinds, command_script}
use Rattle.laws.specs.Law.{Val}
use Rattle.laws.specs.Runs.{Assignment, values}
use Rattle.laws.specs.History.{accepted, Each, Kept}
use Rattle.laws.specs.Bill.{names, names_with, ends, settled, account}
use Rattle.laws.proofs.Frame.{sees_names}
use Rattle.laws.proofs.Link.{run_grows, met_same}
use Rattle.laws.proofs.Own.{assigned_grows}
use Rattle.laws.proofs.Settle.{settles_ok, settles_err, ends_run}
use Rattle.laws.proofs.Theorem.{start, step_refused, Obeyed, step_accepted, faithful, nums_same}
use Rattle.readings.specs.Readings.{number_of, numbers_of, Reading, BoundedByKind, NamesThere}
use Rattle.readings.specs.Decision.{bill, by_bill, by_check, Real}
use Rattle.readings.specs.State.{State, state, filed, performed, executed}
use Rattle.readings.specs.Runs.{History, entries, decided, begins, accepts, refuses, Tells, Running, Promise, Stepped}
use Rattle.readings.proofs.Told.{given_by}
use Rattle.readings.proofs.Seen.{sees_met}
use Rattle.readings.proofs.Tables.{Pre, Solvable, computed, Serves}
use Rattle.readings.proofs.CommandLaws.{served, local, wider}

-- ---- the check before any gadget
pub record Passed (c : Command) (bk : List Answer) (places : ℕ) (ks : List Kind) : Type 0 where
  pub fit : fits c (kinds bk) ≡ true
  pub long : measured c ≡ true
  pub are : ks ≡ answers c (kinds bk)
  pub room : length (kinds bk) + length (answers c (kinds bk)) ≤ places

wrong : {A : Type 0} (f : TapeFault) (ks : List Kind) → ◌≡◌ {A = Result (List Kind) TapeFault} (Err f) (Ok ks) → A
wrong f ks e = let z : ◌≡◌ {A = ℕ} 0 1 = cc e in absurd (omega arith)

pub passed : (c : Command) (bk : List Answer) (places : ℕ) (ks : List Kind) → checked c (kinds bk) places ≡ Ok ks → Passed c bk places ks
passed c bk places ks e = go (fits c (kinds bk)) (measured c) (leb (length (kinds bk) + length (answers c (kinds bk))) places) refl refl refl e
  where
    go : (b l d : Bool) → fits c (kinds bk) ≡ b → measured c ≡ l → leb (length (kinds bk) + length (answers c (kinds bk))) places ≡ d
        → cond {A = Result (List Kind) TapeFault} b (cond l (cond d (Ok (answers c (kinds bk))) (Err BookFull)) (Err Length)) (Err Operand) ≡ Ok ks → Passed c bk places ks
    go true true true h m l q = record { fit = h; long = m; are = cc q; room = leb-true _ _ l }
    go true true false h m l q = wrong BookFull ks q
    go true false d h m l q = wrong Length ks q
    go false m d h g l q = wrong Operand ks q

each_append : {A : Type 0} (P : A → Type 0) (xs ys : List A) → Each P xs → Each P ys → Each P (xs ++ ys)
each_append P [] ys h k = k
each_append P (x ∷ xs) ys h k = (h.0, each_append P xs ys h.1 k)

numbers_append : (ρ : Val) (xs ys : List Answer) → numbers_of ρ (xs ++ ys) ≡ numbers_of ρ xs ++ numbers_of ρ ys
numbers_append ρ [] ys = refl
numbers_append ρ (x ∷ xs) ys = ap (λ (l : List ℕ). number_of ρ x ∷ l) (numbers_append ρ xs ys)

numbers_long : (ρ : Val) (xs : List Answer) → length (numbers_of ρ xs) ≡ length xs
numbers_long ρ [] = refl
numbers_long ρ (x ∷ xs) = ap (λ (n : ℕ). suc n) (numbers_long ρ xs)

module _ (p : ℕ) (P : Prime p) (two : 2 < p) where
  seen : (c : Command) (s : State) → Each (NamesThere (has s.system)) s.book → (ks : List Kind) → checked c (kinds s.book) s.places ≡ Ok ks → decided p c s ≡ by_bill ks (settled (bill p (assigned s.system) c s.book) s.system)
  seen c s t ks e = ap (by_check p c s.system s.book) e

  -- a command that is refused before any gadget
  unfit : (h : History) (s : State) (c : Command) (f : TapeFault) → Running p h s → checked c (kinds s.book) s.places ≡ Err f → decided p c s ≡ Err f
  unfit h s c f k e = ap (by_check p c s.system s.book) e

  -- the bill of a command that a gadget refuses
  barred : (h : History) (s : State) (c : Command) (ks : List Kind) (e : GadgetFault) (l : Meaning) → Running p h s → checked c (kinds s.book) s.places ≡ Ok ks → run p (command_script p c s.book) s.system ≡ (Err e, l) → decided p c s ≡ Err (Gadget e)
  barred h s c ks e l k q ran =
      ap (by_check p c s.system s.book) q
      ∙ ap (by_bill ks) (ap (λ b. settled b s.system) (sym ((served p P two c).billed s.system s.book k.real k.kept.book))
      ∙ settles_err p (command_script p c s.book) s.system l e (λ t os. Each (NamesThere t) os) ((served p P two c).sees s.book (has s.system) (record { one = refl; zero = refl }) k.kept.book) ((served p P two c).foreseen s.book (has s.system) (assigned s.system) (record { one = refl; zero = refl }) k.kept.book) ran)

  -- and of one that is accepted
  cleared : (h : History) (s : State) (c : Command) (os : List Answer) (n : Meaning) → Running p h s → run p (command_script p c s.book) s.system ≡ (Ok os, n) → settled (bill p (assigned s.system) c s.book) s.system ≡ Ok (account n)
  cleared h s c os n k ran =
      ap (λ b. settled b s.system) (sym ((served p P two c).billed s.system s.book k.real k.kept.book))
      ∙ settles_ok p (command_script p c s.book) s.system n os (λ t os. Each (NamesThere t) os) ((served p P two c).sees s.book (has s.system) (record { one = refl; zero = refl }) k.kept.book) ((served p P two c).foreseen s.book (has s.system) (assigned s.system) (record { one = refl; zero = refl }) k.kept.book) ran

  pub running_refused : (h : History) (s : State) (c : Command) (f : TapeFault) → Running p h s → decided p c s ≡ Err f → Running p ((c, Err f) ∷ h) s
  running_refused h s c f k e = record {
    run = refuses c f k.run e;
    kept = step_refused p P.0 number_of NamesThere (BoundedByKind p) (Reading p) c (entries h) s.system s.book k.kept;
    real = k.real;
    told = k.told;
  }

  pub running_accepted : (h : History) (s : State) (c : Command) (ks : List Kind) (os : List Answer) (n : Meaning) → Running p h s → checked c (kinds s.book) s.places ≡ Ok ks → run p (command_script p c s.book) s.system ≡ (Ok os, n) → Running p ((c, Ok ks) ∷ h) (state n (s.book ++ os) s.places)
  running_accepted h s c ks os n k q ran = record {
    run = accepts c ks (state n (s.book ++ os) s.places) k.run (ap (by_check p c m bk) q ∙ ap (by_bill ks) (cleared h s c os n k ran))
        (record { system = grows; paid = cleared h s c os n k ran; answers = os; book = refl; kinds_are = same_kinds; places_are = refl });
    kept = subst (λ (j : ℕ). Kept p number_of NamesThere (BoundedByKind p) (Reading p) (accepted c j ∷ entries h) n (bk ++ os)) many
        (step_accepted p P.0 number_of NamesThere (BoundedByKind p) (Reading p) local wider c (entries h) m n bk os (command_script p c bk) (Pre p c) (Solvable p c) (computed p c) obeyed k.kept ran);
    real = each_append Real bk os k.real (of_c.real m (names_with (assigned m) n) bk os k.real k.kept.book ended);
    told = λ keeps. (
      numbers_of (assigned n) bk,
      numbers_of (assigned n) os,
      numbers_append (assigned n) bk os,
      numbers_long (assigned n) os ∙ many,
      given_by p above c bk os m n (kept_so keeps) ran,
      subst (Tells p h) (sym (nums_same number_of NamesThere local (has m) (assigned m) (assigned n) (assigned_grows m n grows) bk k.kept.book)) (k.told (kept_so keeps)),
    );
  }
    where
      m : Meaning
      m = s.system

      bk : List Answer
      bk = s.book

      grows : Grows s.system n
      grows = run_grows p (command_script p c s.book) s.system n os ran

      kept_so : n.keeps ≡ true → s.system.keeps ≡ true
      kept_so keeps = sym (run_grows p (command_script p c s.book) s.system n os ran).keeps_is ∙ keeps

      of_c : Serves p c
      of_c = served p P two c

      above : 0 < p
      above = omega (arith, two)

      fit : fits c (kinds s.book) ≡ true
      fit = (passed c s.book s.places ks q).fit

      obeyed : Obeyed p number_of NamesThere (BoundedByKind p) s.book (command_script p c s.book) (Pre p c) (Reading p c) (Solvable p c) (computed p c)
      obeyed = record {
        law = (served p P two c).law s.book fit;
        names = λ h k t. sees_names h (command_script p c s.book) (λ k os. Each (NamesThere k) os) ((served p P two c).sees s.book h k t);
        tidy = (served p P two c).tidy s.book;
        kinds = λ os l n r old new a g o. (served p P two c).bounded s.book os old new fit ((served p P two c).kinds_are (names l) (names_with (assigned l) n) s.book os fit (ends_run p (command_script p c s.book) l n os r)) a g o;
        pre = λ xs a. (served p P two c).pre s.book xs fit a;
      }

      ended : ends p (names s.system) (command_script p c s.book) ≡ Some (os, names_with (assigned s.system) n)
      ended = ends_run p (command_script p c s.book) s.system n os ran

      same_kinds : kinds os ≡ ks
      same_kinds = let good = passed c s.book s.places ks q in of_c.kinds_are (names s.system) (names_with (assigned s.system) n) s.book os good.fit ended ∙ sym good.are

      many : length os ≡ length ks
      many = sym (length-map os kind_of) ∙ ap length same_kinds

  -- where a command was checked, its answers find places
  pub room_of : (c : Command) (m n : Meaning) (bk os : List Answer) (places : ℕ) (ks : List Kind) → checked c (kinds bk) places ≡ Ok ks → run p (command_script p c bk) m ≡ (Ok os, n) → length bk + length os ≤ places
  room_of c m n bk os places ks q ran =
      let good = passed c bk places ks q in
      let same = (served p P two c).kinds_are (names m) (names_with (assigned m) n) bk os good.fit (ends_run p (command_script p c bk) m n os ran) in
      omega (arith, good.room, ap length same, length-map os kind_of, length-map bk kind_of)

  -- what runs keep is what they promise
  pub promised : (h : History) (s : State) → Running p h s → Promise p h s
  promised h s k =
      let f = faithful p P.0 number_of NamesThere (BoundedByKind p) (Reading p) local (entries h) s.system s.book k.kept in
      record {
        outcomes = k.run;
        sound = f.sound;
        complete = f.complete;
        own = f.own;
        told = λ q. subst (Tells p h) (sym (nums_same number_of NamesThere local (has s.system) (assigned s.system) (values s.system (f.own q).assignment) (f.own q).agrees s.book k.kept.book)) (k.told q);
        seen = λ q.
            let o = f.own q in
            let a : Assignment p s.system = o.assignment in
            let met = sees_met p s.system k.kept.proper.rows q in (
              λ e. o.obeys (met_same p (has s.system) (assigned s.system) (values s.system a) o.agrees s.system.rows k.kept.proper.rows (met.0 e)),
              λ b. met.1 (met_same p (has s.system) (values s.system a) (assigned s.system) (λ v t. sym (o.agrees v t)) s.system.rows k.kept.proper.rows (o.meets b)),
            );
      }

  pub stepped : (h : History) (c : Command) (s t : State) (r : Result (Unit {0}) TapeFault) → executed p c s ≡ (r, t) → Running p h s → Stepped p h c s t r
  stepped h c s t r e k = by_checked (checked c (kinds s.book) s.places) refl e
    where
      ended : (d : Result (List Kind) TapeFault) (r₁ : Result (Unit {0}) TapeFault) (t₁ : State) → decided p c s ≡ d → r₁ ≡ over (λ ks. tt) d → Running p ((c, d) ∷ h) t₁ → ◌≡◌ {A = Result (Unit {0}) TapeFault × State} (r₁, t₁) (r, t) → Stepped p h c s t r
      ended d r₁ t₁ q o n z =
          let n₁ = subst (λ (x : Result (List Kind) TapeFault). Running p ((c, x) ∷ h) t₁) (sym q) n in
          let o₁ = o ∙ ap (over (λ ks. tt)) (sym q) in
          subst (λ (y : Result (Unit {0}) TapeFault × State). Stepped p h c s y.1 y.0) z (record { outcome = o₁; running = n₁; promise = promised ((c, decided p c s) ∷ h) t₁ n₁ })

      by_run : (ks : List Kind) → checked c (kinds s.book) s.places ≡ Ok ks → (z : Result (List Answer) GadgetFault) (l : Meaning) → run p (command_script p c s.book) s.system ≡ (z, l) → filed s (restored s.system z l).0 (restored s.system z l).1 ≡ (r, t) → Stepped p h c s t r
      by_run ks q (Ok os) l ran y =
          ended (Ok ks) (Ok tt) (state l (s.book ++ os) s.places) (ap (by_check p c s.system s.book) q ∙ ap (by_bill ks) (cleared h s c os l k ran)) refl (running_accepted h s c ks os l k q ran) y
      by_run ks q (Err g) l ran y =
          let d = barred h s c ks g l k q ran in
          ended (Err (Gadget g)) (Err (Gadget g)) s d refl (running_refused h s c (Gadget g) k d) y

      by_checked : (d : Result (List Kind) TapeFault) → checked c (kinds s.book) s.places ≡ d → performed p c s d ≡ (r, t) → Stepped p h c s t r
      by_checked (Ok ks) q y = by_run ks q (run p (command_script p c s.book) s.system).0 (run p (command_script p c s.book) s.system).1 refl y
      by_checked (Err f) q y = let d = unfit h s c f k q in ended (Err f) (Err f) s d refl (running_refused h s c f k d) y

  -- a refused command leaves everything as it was
  pub left_so : (c : Command) (s t : State) (f : TapeFault) → executed p c s ≡ (Err f, t) → t ≡ s
  left_so c s t f e = by_checked (checked c (kinds s.book) s.places) e
    where
      by_run : (z : Result (List Answer) GadgetFault) (l : Meaning) → filed s (restored s.system z l).0 (restored s.system z l).1 ≡ (Err f, t) → t ≡ s
      by_run (Ok os) l y = let q : ◌≡◌ {A = Result (Unit {0}) TapeFault} (Ok tt) (Err f) = ap (λ z. z.0) y in let z : ◌≡◌ {A = ℕ} 0 1 = cc q in absurd (omega arith)
      by_run (Err g) l y = ap (λ z. z.1) (sym y)

      by_checked : (d : Result (List Kind) TapeFault) → performed p c s d ≡ (Err f, t) → t ≡ s
      by_checked (Ok ks) y = by_run (run p (command_script p c s.book) s.system).0 (run p (command_script p c s.book) s.system).1 y
      by_checked (Err g) y = ap (λ z. z.1) (sym y)

  -- where a run begins
  pub running_begins : (s : State) → Fresh s.system → s.book ≡ [] → Running p [] s
  running_begins s f e = record {
    run = begins s f e;
    kept = subst (Kept p number_of NamesThere (BoundedByKind p) (Reading p) [] s.system) (sym e) (start p P.0 number_of NamesThere (BoundedByKind p) (Reading p) s.system f);
    real = subst (Each Real) (sym e) tt;
    told = λ q. tt;
  }
