-- What the smallest rooms decide, larger ones decide too.
use Rattle.std.proofs.Common.{◌≡◌, ℕ, ◌+◌, ◌≤◌, Bool, true, false, cond, leb, ltb, List, [], ◌∷◌, length, Ok, Err, Result, sym, refl, ap, ◌∙◌, arith, le-leb, leb-true, lt-ltb, ltb-true}
use Rattle.relations.specs.declared.fault.SystemFault.TheVariants.{UnknownVariable, MissingValue, InputsFull, WitnessesFull, TermsFull, RowsFull, QuotaFull, MarkRefused}
use Rattle.relations.specs.declared.fault.GadgetFault.{GadgetFault}
use Rattle.relations.specs.declared.fault.GadgetFault.TheVariants.{System, TooManyMembers, NoValue, Unsatisfiable, NoSystem}
use Rattle.relations.specs.declared.term.Side.{Side}
use Rattle.relations.specs.declared.term.Side.TheVariants.{Input as input, Witness as witness}
use Rattle.relations.specs.Meaning.{full, rows_full}
use Rattle.command.specs.declared.commands.Kind.{Kind}
use Rattle.command.specs.declared.commands.Command.{Command}
use Rattle.command.specs.declared.answers.Answer.{Answer}
use Rattle.command.specs.declared.fault.TapeFault.{TapeFault}
use Rattle.command.specs.declared.fault.TapeFault.TheVariants.{Gadget, Unknown, Operand, Length, BookFull}
use Rattle.command.specs.Decide.{fits, measured, answers, checked}
use Rattle.command.specs.Answers.{kinds}
use Rattle.laws.specs.Bill.{Charge, takes_variable, takes_combination, takes_row, stops, Rooms, Account, space, spent, with_variable, with_terms, lacks, pay, follow, settle}
use Rattle.readings.proofs.Step.{passed}

-- the smallest rooms that a line speaks of; k says whether values are kept
abbrev pub least : Bool → Rooms
least k = record { inputs = 1024; witnesses = 1024; terms = 1024; rows = 1024; keeps = k; capped = false }

-- rooms that are no smaller
pub record Wide (k : Bool) (r : Rooms) : Type 0 where
  pub inputs : 1024 ≤ r.inputs
  pub witnesses : 1024 ≤ r.witnesses
  pub terms : 1024 ≤ r.terms
  pub rows : 1024 ≤ r.rows
  pub keeps : r.keeps ≡ k

-- ---- bills
-- what does not come from the size of a room: a bill that is paid, a value that is missing, or a refusal of the gadget's own
abbrev pub own : Result Account GadgetFault → Bool
own (Ok a) = true
own (Err (System UnknownVariable)) = false
own (Err (System MissingValue)) = true
own (Err (System InputsFull)) = false
own (Err (System WitnessesFull)) = false
own (Err (System TermsFull)) = false
own (Err (System RowsFull)) = false
own (Err (System QuotaFull)) = false
own (Err (System MarkRefused)) = false
own (Err TooManyMembers) = true
own (Err NoValue) = true
own (Err Unsatisfiable) = true
own (Err NoSystem) = true

full_not_own : (d : Side) → own (Err (System (full d))) ≡ false
full_not_own input = refl
full_not_own witness = refl

-- one charge, and what follows it
variable_more : (q : Bool) (r : Rooms) (a : Account) (d : Side) (b : Bool) (k l : Account → Result Account GadgetFault) (x : Result Account GadgetFault) → own x ≡ true → r.keeps ≡ q
    → (ltb (spent d a) (space d (least q)) ≡ true → ltb (spent d a) (space d r) ≡ true) → ((c : Account) → k c ≡ x → l c ≡ x)
    → follow (pay (least q) a (takes_variable d b)) k ≡ x → follow (pay r a (takes_variable d b)) l ≡ x
variable_more q r a d b k l x o s w h e =
    ap (λ (z : Bool). follow (cond (ltb (spent d a) (space d r)) (cond (lacks z b) (Err (System MissingValue)) (Ok (with_variable d a))) (Err (System (full d)))) l) s
    ∙ go (ltb (spent d a) (space d (least q))) (lacks q b) (ltb (spent d a) (space d r)) w e
  where
    go : (t n u : Bool) → (t ≡ true → u ≡ true)
        → follow (cond t (cond n (Err (System MissingValue)) (Ok (with_variable d a))) (Err (System (full d)))) k ≡ x
        → follow (cond u (cond n (Err (System MissingValue)) (Ok (with_variable d a))) (Err (System (full d)))) l ≡ x
    go true true true v e = e
    go true false true v e = h (with_variable d a) e
    go true n false v e = cc (v refl)
    go false n u v e = cc (sym (full_not_own d) ∙ ap own e ∙ o)

combination_more : (q : Bool) (r : Rooms) (a : Account) (n : ℕ) (k l : Account → Result Account GadgetFault) (x : Result Account GadgetFault) → own x ≡ true
    → (leb (a.terms + (n + 1)) 1024 ≡ true → leb (a.terms + (n + 1)) r.terms ≡ true) → ((c : Account) → k c ≡ x → l c ≡ x)
    → follow (pay (least q) a (takes_combination n)) k ≡ x → follow (pay r a (takes_combination n)) l ≡ x
combination_more q r a n k l x o w h = go (leb (a.terms + (n + 1)) 1024) (leb (a.terms + (n + 1)) r.terms) w
  where
    go : (t u : Bool) → (t ≡ true → u ≡ true)
        → follow (cond t (Ok (with_terms (n + 1) 0 a)) (Err (System TermsFull))) k ≡ x → follow (cond u (Ok (with_terms (n + 1) 0 a)) (Err (System TermsFull))) l ≡ x
    go true true v e = h (with_terms (n + 1) 0 a) e
    go true false v e = cc (v refl)
    go false u v e = cc (ap own e ∙ o)

row_more : (q : Bool) (r : Rooms) (a : Account) (n : ℕ) (k l : Account → Result Account GadgetFault) (x : Result Account GadgetFault) → own x ≡ true
    → (leb (a.terms + n) 1024 ≡ true → leb (a.terms + n) r.terms ≡ true) → (ltb a.rows 1024 ≡ true → ltb a.rows r.rows ≡ true) → ((c : Account) → k c ≡ x → l c ≡ x)
    → follow (pay (least q) a (takes_row n)) k ≡ x → follow (pay r a (takes_row n)) l ≡ x
row_more q r a n k l x o w v h = go (leb (a.terms + n) 1024) (leb (a.terms + n) r.terms) (ltb a.rows 1024) (ltb a.rows r.rows) w v
  where
    go : (t u s z : Bool) → (t ≡ true → u ≡ true) → (s ≡ true → z ≡ true)
        → follow (cond t (cond s (Ok (with_terms n 1 a)) (Err (System (rows_full false)))) (Err (System TermsFull))) k ≡ x
        → follow (cond u (cond z (Ok (with_terms n 1 a)) (Err (System (rows_full r.capped)))) (Err (System TermsFull))) l ≡ x
    go true true true true w v e = h (with_terms n 1 a) e
    go true true true false w v e = cc (v refl)
    go true false true z w v e = cc (w refl)
    go true u false z w v e = cc (ap own e ∙ o)
    go false u s z w v e = cc (ap own e ∙ o)

-- a bill comes to the same in wider rooms
pub settle_more : (k : Bool) (r : Rooms) → Wide k r → (a : Account) (cs : List Charge) (x : Result Account GadgetFault) → own x ≡ true → settle (least k) a cs ≡ x → settle r a cs ≡ x
settle_more k r w a [] x o e = e
settle_more k r w a (takes_variable input b ∷ cs) x o e =
    variable_more k r a input b (λ c. settle (least k) c cs) (λ c. settle r c cs) x o w.keeps (λ t. lt-ltb a.inputs r.inputs (let h = ltb-true a.inputs 1024 t in let g = w.inputs in omega arith)) (λ c. settle_more k r w c cs x o) e
settle_more k r w a (takes_variable witness b ∷ cs) x o e =
    variable_more k r a witness b (λ c. settle (least k) c cs) (λ c. settle r c cs) x o w.keeps (λ t. lt-ltb a.witnesses r.witnesses (let h = ltb-true a.witnesses 1024 t in let g = w.witnesses in omega arith)) (λ c. settle_more k r w c cs x o) e
settle_more k r w a (takes_combination n ∷ cs) x o e =
    combination_more k r a n (λ c. settle (least k) c cs) (λ c. settle r c cs) x o (λ t. le-leb (a.terms + (n + 1)) r.terms (let h = leb-true (a.terms + (n + 1)) 1024 t in let g = w.terms in omega arith)) (λ c. settle_more k r w c cs x o) e
settle_more k r w a (takes_row n ∷ cs) x o e =
    row_more k r a n (λ c. settle (least k) c cs) (λ c. settle r c cs) x o (λ t. le-leb (a.terms + n) r.terms (let h = leb-true (a.terms + n) 1024 t in let g = w.terms in omega arith))
    (λ t. lt-ltb a.rows r.rows (let h = ltb-true a.rows 1024 t in let g = w.rows in omega arith)) (λ c. settle_more k r w c cs x o) e
settle_more k r w a (stops f ∷ cs) x o e = e

-- ---- the check before any gadget
-- a fault that is found before places are looked at
abbrev pub early : TapeFault → Bool
early (Gadget f) = false
early Unknown = false
early Operand = true
early Length = true
early BookFull = false

pub checked_more : (c : Command) (bk : List Answer) (places : ℕ) (ks : List Kind) → 4096 ≤ places → checked c (kinds bk) 4096 ≡ Ok ks → checked c (kinds bk) places ≡ Ok ks
checked_more c bk places ks w e =
    let h = passed c bk 4096 ks e in
    let room : length (kinds bk) + length (answers c (kinds bk)) ≤ 4096 = h.room in
    (λ i. cond (h.fit i) (cond (h.long i) (cond (le-leb (length (kinds bk) + length (answers c (kinds bk))) places (omega arith) i) (Ok (answers c (kinds bk))) (Err BookFull)) (Err Length)) (Err Operand))
    ∙ ap Ok (sym h.are)

pub unfit_more : (c : Command) (ks : List Kind) (places : ℕ) (f : TapeFault) → early f ≡ true → checked c ks 4096 ≡ Err f → checked c ks places ≡ Err f
unfit_more c ks places f t = go (fits c ks) (measured c) (leb (length ks + length (answers c ks)) 4096) (leb (length ks + length (answers c ks)) places) (answers c ks)
  where
    go : (b l d u : Bool) (new : List Kind) → ◌≡◌ {A = Result (List Kind) TapeFault} (cond b (cond l (cond d (Ok new) (Err BookFull)) (Err Length)) (Err Operand)) (Err f)
        → ◌≡◌ {A = Result (List Kind) TapeFault} (cond b (cond l (cond u (Ok new) (Err BookFull)) (Err Length)) (Err Operand)) (Err f)
    go true true true u new e = cc e
    go true true false u new e = let z : BookFull ≡ f = cc e in cc (ap early z ∙ t)
    go true false d u new e = e
    go false l d u new e = e
