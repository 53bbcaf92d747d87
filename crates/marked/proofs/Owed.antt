-- What a command asks for, by what its tape has given: one bill goes by kept numbers, and those of new bits and numbers are the tape's.
use Rattle.std.proofs.Common.{◌≡◌, ℕ, zero, suc, ◌+◌, ◌%◌, Bool, true, false, cond, List, [], ◌∷◌, ◌++◌, length, get_or, Some, None, Ok, Err, Option, sym, refl, ap, ◌∙◌, subst, arith, length-append, ltb}
use lib.ListN.{length-map}
use Rattle.relations.specs.declared.fault.GadgetFault.TheVariants.{System}
use Rattle.relations.specs.declared.fault.SystemFault.TheVariants.{MissingValue}
use Rattle.relations.specs.declared.term.Variable.TheVariants.{One, Zero}
use Rattle.relations.specs.Meaning.{assigned, full}
use Rattle.allocated.specs.Gates.{bit, bit_number}
use Rattle.boolean.specs.declared.bits.Boolean.{Boolean}
use Rattle.boolean.specs.declared.bits.Boolean.TheVariants.{Constant, Var}
use Rattle.fp_var.specs.declared.numbers.FpVar.{FpVar}
use Rattle.fp_var.specs.declared.numbers.FpVar.TheVariants.{Constant as constant_number, Var as variable_number}
use Rattle.fp_var.specs.Numbers.{condition, apart}
use Rattle.command.specs.declared.commands.Claim.TheVariants.{Unequal}
use Rattle.command.specs.declared.commands.Command.{Command}
use Rattle.command.specs.declared.commands.Command.TheVariants.{Bit as BitCommand, Number as NumberCommand, EnforceNumbers}
use Rattle.command.specs.declared.answers.Answer.{Answer}
use Rattle.command.specs.declared.answers.Answer.TheVariants.{Bit, Number}
use Rattle.command.specs.Answers.{kind_of, value_of, number_of as tape_number, answer_at, as_bit, as_number, bit_at, number_at}
use Rattle.laws.specs.Law.{Val, Given, present}
use Rattle.laws.specs.History.{Along}
use Rattle.laws.specs.Bill.{Charge, takes_variable, takes_combination, takes_row, stops, Rooms, Account, spent, space, with_variable, lacks, pay, follow, settle}
use Rattle.bit_laws.specs.Bills.{shadow}
use Rattle.number_laws.specs.Bills.{number_shadow, same_number, unequal_due, has_multiplier}
use Rattle.readings.specs.Readings.{number_of, numbers_of}
use Rattle.readings.specs.Decision.{bill}
use Rattle.readings.specs.State.{State}
use Rattle.readings.specs.Runs.{History, Run, begins, accepts, refuses, GivenOne, GivenBy, Tells}
use Rattle.readings.proofs.Operands.{answer_same}

-- ---- the numbers that the tape gave to the answers of a history, oldest first: none to an answer that is computed
abbrev untold : ℕ → List (Option ℕ)
untold zero = []
untold (suc k) = None ∷ untold k

abbrev first_told : Option ℕ → ℕ → List (Option ℕ)
first_told o zero = []
first_told o (suc k) = o ∷ untold k

-- what the tape gives to a command's first answer
abbrev given_to : ℕ → Command → Option ℕ
given_to p (BitCommand m v) = bit_number (value_of v)
given_to p (NumberCommand m t v) = tape_number p t v
given_to p c = None

abbrev pub told : ℕ → History → List (Option ℕ)
told p [] = []
told p ((c, Ok ks) ∷ h) = told p h ++ first_told (given_to p c) (length ks)
told p ((c, Err f) ∷ h) = told p h

untold_long : (k : ℕ) → length (untold k) ≡ k
untold_long zero = refl
untold_long (suc k) = ap (λ (n : ℕ). suc n) (untold_long k)

first_long : (o : Option ℕ) (k : ℕ) → length (first_told o k) ≡ k
first_long o zero = refl
first_long o (suc k) = ap (λ (n : ℕ). suc n) (untold_long k)

-- there is one for each answer of the book
told_long : (p : ℕ) {h : History} {s : State} → Run p h s → length s.book ≡ length (told p h)
told_long p (begins s f e) = ap length e
told_long p (accepts {h} {s} c ks t r d g) =
    ap length g.book
    ∙ length-append s.book g.answers
    ∙ (λ i. told_long p r i + (sym (length-map g.answers kind_of) ∙ ap length g.kinds_are ∙ sym (first_long (given_to p c) (length ks))) i)
    ∙ sym (length-append (told p h) (first_told (given_to p c) (length ks)))
told_long p (refuses c f r d) = told_long p r

along_both : (os qs : List (Option ℕ)) (xs ys : List ℕ) → Along Given os xs → Along Given qs ys → Along Given (os ++ qs) (xs ++ ys)
along_both [] qs [] ys h k = k
along_both [] qs (x ∷ xs) ys h k = absurd h
along_both (o ∷ os) qs [] ys h k = absurd h
along_both (o ∷ os) qs (x ∷ xs) ys h k = (h.0, along_both os qs xs ys h.1 k)

along_untold : (k : ℕ) (xs : List ℕ) → length xs ≡ k → Along Given (untold k) xs
along_untold zero [] e = tt
along_untold zero (x ∷ xs) e = absurd (omega (arith, e))
along_untold (suc k) [] e = absurd (omega (arith, e))
along_untold (suc k) (x ∷ xs) e = (tt, along_untold k xs (omega (arith, e)))

along_first : (o : Option ℕ) (k : ℕ) (xs : List ℕ) → length xs ≡ k → GivenOne o xs → Along Given (first_told o k) xs
along_first o zero [] e h = tt
along_first o zero (x ∷ xs) e h = absurd (omega (arith, e))
along_first o (suc k) [] e h = absurd (omega (arith, e))
along_first o (suc k) (x ∷ xs) e h = (h, along_untold k xs (omega (arith, e)))

along_given : (p : ℕ) (c : Command) (k : ℕ) (xs : List ℕ) → length xs ≡ k → GivenBy p c xs → Along Given (first_told (given_to p c) k) xs
along_given p (BitCommand m v) k xs e h = along_first (bit_number (value_of v)) k xs e h
along_given p (NumberCommand m t v) k xs e h = along_first (tape_number p t v) k xs e h
along_given p c k xs e h = along_first None k xs e (nothing xs)
  where
    nothing : (xs : List ℕ) → GivenOne None xs
    nothing [] = tt
    nothing (x ∷ xs) = tt

-- what is told of a run's numbers: these are they
along_told : (p : ℕ) (h : History) (xs : List ℕ) → length xs ≡ length (told p h) → Tells p h xs → Along Given (told p h) xs
along_told p [] [] e t = tt
along_told p [] (x ∷ xs) e t = absurd (omega (arith, e))
along_told p ((c, Ok ks) ∷ h) xs e t =
    let l = length-append (told p h) (first_told (given_to p c) (length ks)) in
    let n = length-append t.0 t.1 in
    let old : length t.0 ≡ length (told p h) = omega (arith, e, l, n, t.3, ap length t.2, first_long (given_to p c) (length ks)) in
    subst (Along Given (told p ((c, Ok ks) ∷ h))) (sym t.2) (along_both (told p h) (first_told (given_to p c) (length ks)) t.0 t.1 (along_told p h t.0 old t.5) (along_given p c (length ks) t.1 t.3 t.4))
along_told p ((c, Err f) ∷ h) xs e t = along_told p h xs e t

given_at : (os : List (Option ℕ)) (xs : List ℕ) (a : ℕ) → Along Given os xs → Given (get_or os a None) (get_or xs a 0)
given_at [] [] a h = tt
given_at [] (x ∷ xs) a h = absurd h
given_at (o ∷ os) [] a h = absurd h
given_at (o ∷ os) (x ∷ xs) zero h = h.0
given_at (o ∷ os) (x ∷ xs) (suc a) h = given_at os xs a h.1

-- the kept numbers of a run's answers are those that the tape gave
abbrev pub KeptAsTold : ℕ → History → Val → List Answer → Type 0
KeptAsTold p h q book = (a : ℕ) → Given (get_or (told p h) a None) (number_of q (answer_at book a))

numbers_long : (q : Val) (xs : List Answer) → length (numbers_of q xs) ≡ length xs
numbers_long q [] = refl
numbers_long q (x ∷ xs) = ap (λ (n : ℕ). suc n) (numbers_long q xs)

pub kept_as_told : (p : ℕ) (h : History) (s : State) → Run p h s → Tells p h (numbers_of (assigned s.system) s.book) → KeptAsTold p h (assigned s.system) s.book
kept_as_told p h s r t a =
    subst (Given (get_or (told p h) a None)) (sym (answer_same (assigned s.system) s.book a))
    (given_at (told p h) (numbers_of (assigned s.system) s.book) a (along_told p h (numbers_of (assigned s.system) s.book) (numbers_long (assigned s.system) s.book ∙ told_long p r) t))

-- ---- whether a multiplier has a value, by what the tape gave to two numbers and a condition. Of two constants it is not asked
abbrev condition_told : Boolean → Option ℕ → Option ℕ
condition_told (Constant b) o = Some (bit b)
condition_told (Var a) o = o

-- where all three were given
abbrev parted : ℕ → Option ℕ → Option ℕ → Option ℕ → Option Bool
parted p (Some x) (Some y) (Some z) = Some (present (apart p x y z))
parted p x y z = None

-- a constant number is known by itself
abbrev multiplier_told : ℕ → FpVar → FpVar → Option ℕ → Option ℕ → Option ℕ → Option Bool
multiplier_told p (constant_number a) (constant_number b) x y z = Some true
multiplier_told p (constant_number a) (variable_number b) x y z = parted p (Some (a % p)) y z
multiplier_told p (variable_number a) (constant_number b) x y z = parted p (Some (b % p)) x z
multiplier_told p (variable_number a) (variable_number b) x y z = parted p x y z

-- the bill of the statement that two numbers differ
abbrev unequal_owed : ℕ → FpVar → FpVar → Boolean → Option Bool → Option (List Charge)
unequal_owed p a b c None = None
unequal_owed p a b c (Some t) = Some (unequal_due p (same_number a b) t (number_shadow a) (number_shadow b) (shadow c)).0

-- no numbers
abbrev pub nought : Val
nought v = 0

-- the bill of a command where values are kept, by what the tape gave; none where that does not tell it
abbrev owed_kept : ℕ → List (Option ℕ) → Command → List Answer → Option (List Charge)
owed_kept p ts (EnforceNumbers Unequal a b c) book =
    unequal_owed p (number_at book a) (number_at book b) (bit_at book c) (multiplier_told p (number_at book a) (number_at book b) (get_or ts a None) (get_or ts b None) (condition_told (bit_at book c) (get_or ts c None)))
owed_kept p ts c book = Some (bill p nought c book)

-- where no values are kept, whether there are values is not asked
abbrev pub owed : Bool → ℕ → List (Option ℕ) → Command → List Answer → Option (List Charge)
owed true p ts c book = owed_kept p ts c book
owed false p ts c book = Some (bill p nought c book)

-- ---- it is the bill
some_is : {A : Type 0} (x y : A) → ◌≡◌ {A = Option A} (Some x) (Some y) → x ≡ y
some_is x y e = cc e

parted_so : (p : ℕ) (x y z : Option ℕ) (t : Bool) (u v w : ℕ) → parted p x y z ≡ Some t → Given x u → Given y v → Given z w → present (apart p u v w) ≡ t
parted_so p (Some x) (Some y) (Some z) t u v w e a b c = (λ i. present (apart p (sym a i) (sym b i) (sym c i))) ∙ some_is _ _ e
parted_so p (Some x) (Some y) None t u v w e a b c = cc e
parted_so p (Some x) None z t u v w e a b c = cc e
parted_so p None y z t u v w e a b c = cc e

-- what the tape gave to a number that is a variable is kept for the variable
abbrev Named : Val → FpVar → Option ℕ → Type 0
Named q (constant_number c) o = Unit {0}
Named q (variable_number a) o = Given o (q a.variable)

named : (q : Val) (x : Answer) (o : Option ℕ) → Given o (number_of q x) → Named q (as_number x) o
named q (Bit b) o g = tt
named q (Number (constant_number c)) o g = tt
named q (Number (variable_number a)) o g = g

condition_kept : (q : Val) → q One ≡ 1 → q Zero ≡ 0 → (x : Answer) (o : Option ℕ) → Given o (number_of q x) → Given (condition_told (as_bit x) o) (q (condition (as_bit x)))
condition_kept q one nil (Bit (Constant true)) o g = sym one
condition_kept q one nil (Bit (Constant false)) o g = sym nil
condition_kept q one nil (Bit (Var a)) o g = g
condition_kept q one nil (Number x) o g = sym nil

unequal_so : (p : ℕ) (q : Val) (a b : FpVar) (c : Boolean) (x y z : Option ℕ) (cs : List Charge) → Named q a x → Named q b y → Given z (q (condition c)) → unequal_owed p a b c (multiplier_told p a b x y z) ≡ Some cs
    → (unequal_due p (same_number a b) (has_multiplier p q a b c) (number_shadow a) (number_shadow b) (shadow c)).0 ≡ cs
unequal_so p q (constant_number a) (constant_number b) c x y z cs g h k e = some_is _ _ e
unequal_so p q (constant_number a) (variable_number b) c x y z cs g h k e = go (parted p (Some (a % p)) y z) refl e
  where
    go : (t : Option Bool) → parted p (Some (a % p)) y z ≡ t → unequal_owed p (constant_number a) (variable_number b) c t ≡ Some cs → (unequal_due p false (has_multiplier p q (constant_number a) (variable_number b) c) (Some a) None (shadow c)).0 ≡ cs
    go None r f = cc f
    go (Some t) r f = (λ i. (unequal_due p false (parted_so p (Some (a % p)) y z t (a % p) (q b.variable) (q (condition c)) r refl h k i) (Some a) None (shadow c)).0) ∙ some_is _ _ f
unequal_so p q (variable_number a) (constant_number b) c x y z cs g h k e = go (parted p (Some (b % p)) x z) refl e
  where
    go : (t : Option Bool) → parted p (Some (b % p)) x z ≡ t → unequal_owed p (variable_number a) (constant_number b) c t ≡ Some cs → (unequal_due p false (has_multiplier p q (variable_number a) (constant_number b) c) None (Some b) (shadow c)).0 ≡ cs
    go None r f = cc f
    go (Some t) r f = (λ i. (unequal_due p false (parted_so p (Some (b % p)) x z t (b % p) (q a.variable) (q (condition c)) r refl g k i) None (Some b) (shadow c)).0) ∙ some_is _ _ f
unequal_so p q (variable_number a) (variable_number b) c x y z cs g h k e = go (parted p x y z) refl e
  where
    go : (t : Option Bool) → parted p x y z ≡ t → unequal_owed p (variable_number a) (variable_number b) c t ≡ Some cs → (unequal_due p (same_number (variable_number a) (variable_number b)) (has_multiplier p q (variable_number a) (variable_number b) c) None None (shadow c)).0 ≡ cs
    go None r f = cc f
    go (Some t) r f = (λ i. (unequal_due p (same_number (variable_number a) (variable_number b)) (parted_so p x y z t (q a.variable) (q b.variable) (q (condition c)) r g h k i) None None (shadow c)).0) ∙ some_is _ _ f

-- where values are kept
owed_kept_is : (p : ℕ) (q : Val) → q One ≡ 1 → q Zero ≡ 0 → (ts : List (Option ℕ)) (c : Command) (book : List Answer) (cs : List Charge) → ((a : ℕ) → Given (get_or ts a None) (number_of q (answer_at book a))) → owed_kept p ts c book ≡ Some cs → bill p q c book ≡ cs
owed_kept_is p q one nil ts (EnforceNumbers Unequal a b c) book cs g e =
    unequal_so p q (number_at book a) (number_at book b) (bit_at book c) (get_or ts a None) (get_or ts b None) (condition_told (bit_at book c) (get_or ts c None)) cs
    (named q (answer_at book a) (get_or ts a None) (g a)) (named q (answer_at book b) (get_or ts b None) (g b)) (condition_kept q one nil (answer_at book c) (get_or ts c None) (g c)) e
owed_kept_is p q one nil ts c book cs g e = some_is _ _ e

-- where none are kept, all values of a bill may be there
abbrev filled : List Charge → List Charge
filled [] = []
filled (takes_variable d b ∷ cs) = takes_variable d true ∷ filled cs
filled (takes_combination n ∷ cs) = takes_combination n ∷ filled cs
filled (takes_row n ∷ cs) = takes_row n ∷ filled cs
filled (stops f ∷ cs) = stops f ∷ filled cs

unequal_filled : (p : ℕ) (q r : Val) (a b : FpVar) (c : Boolean)
    → filled (unequal_due p (same_number a b) (has_multiplier p q a b c) (number_shadow a) (number_shadow b) (shadow c)).0 ≡ filled (unequal_due p (same_number a b) (has_multiplier p r a b c) (number_shadow a) (number_shadow b) (shadow c)).0
unequal_filled p q r (constant_number a) (constant_number b) c = refl
unequal_filled p q r (constant_number a) (variable_number b) c = refl
unequal_filled p q r (variable_number a) (constant_number b) c = refl
unequal_filled p q r (variable_number a) (variable_number b) c = refl

bill_filled : (p : ℕ) (q r : Val) (c : Command) (book : List Answer) → filled (bill p q c book) ≡ filled (bill p r c book)
bill_filled p q r (EnforceNumbers Unequal a b c) book = unequal_filled p q r (number_at book a) (number_at book b) (bit_at book c)
bill_filled p q r c book = refl

-- a bill that is filled is settled as before
filled_settles : (r : Rooms) (a : Account) (cs : List Charge) → r.keeps ≡ false → settle r a (filled cs) ≡ settle r a cs
filled_settles r a [] e = refl
filled_settles r a (takes_variable d b ∷ cs) e =
    (λ i. follow (cond (ltb (spent d a) (space d r)) (cond (blind i) (Err (System MissingValue)) (Ok (with_variable d a))) (Err (System (full d)))) (λ c. filled_settles r c cs e i))
  where
    blind : lacks r.keeps true ≡ lacks r.keeps b
    blind = ap (λ (k : Bool). lacks k true) e ∙ sym (ap (λ (k : Bool). lacks k b) e)
filled_settles r a (takes_combination n ∷ cs) e = λ i. follow (pay r a (takes_combination n)) (λ c. filled_settles r c cs e i)
filled_settles r a (takes_row n ∷ cs) e = λ i. follow (pay r a (takes_row n)) (λ c. filled_settles r c cs e i)
filled_settles r a (stops f ∷ cs) e = refl

-- whether a bill asks for nothing
abbrev pub free : List Charge → Bool
free [] = true
free (c ∷ cs) = false

filled_free : (cs : List Charge) → free (filled cs) ≡ free cs
filled_free [] = refl
filled_free (takes_variable d b ∷ cs) = refl
filled_free (takes_combination n ∷ cs) = refl
filled_free (takes_row n ∷ cs) = refl
filled_free (stops f ∷ cs) = refl

-- what is owed is settled as the bill is, and asks for nothing where that does
pub record Settles (r : Rooms) (a : Account) (due cs : List Charge) : Type 0 where
  pub same : settle r a due ≡ settle r a cs
  pub free_too : free due ≡ free cs

pub owed_settles : (k : Bool) (p : ℕ) (q : Val) → q One ≡ 1 → q Zero ≡ 0 → (ts : List (Option ℕ)) (c : Command) (book : List Answer) (cs : List Charge) (r : Rooms) (a : Account) → r.keeps ≡ k
    → (k ≡ true → (i : ℕ) → Given (get_or ts i None) (number_of q (answer_at book i))) → owed k p ts c book ≡ Some cs → Settles r a (bill p q c book) cs
owed_settles true p q one nil ts c book cs r a e g o = let h = owed_kept_is p q one nil ts c book cs (g refl) o in record { same = ap (settle r a) h; free_too = ap free h }
owed_settles false p q one nil ts c book cs r a e g o =
    let h = some_is _ _ o in
    record {
      same = sym (filled_settles r a (bill p q c book) e) ∙ ap (settle r a) (bill_filled p q nought c book) ∙ filled_settles r a (bill p nought c book) e ∙ ap (settle r a) h;
      free_too = sym (filled_free (bill p q c book)) ∙ ap free (bill_filled p q nought c book) ∙ filled_free (bill p nought c book) ∙ ap free h;
    }
