-- What a quota hands on.
use Rattle.std.proofs.Common.{◌≡◌, ℕ, ◌+◌, ◌<◌, Bool, true, false, cond, leb, ltb, min, List, length, Ok, Err, Result, refl, ap, ◌∙◌, arith, lt-ltb, le-ltb, ltb-true, ltb-false}
use Rattle.std.proofs.lemmas.Bool.{lt-leb}
use Rattle.relations.specs.declared.term.Term.{Term}
use Rattle.relations.specs.declared.fault.SystemFault.{SystemFault}
use Rattle.relations.specs.declared.fault.SystemFault.TheVariants.{UnknownVariable, TermsFull}
use Rattle.relations.specs.Sum.{Row, row_of}
use Rattle.relations.specs.Meaning.{Meaning, Stored, Ran, Begins, Adds, enforce, has_row, used, row_use, rows_full, with_row}
use Rattle.layers.specs.Quoted.{quoted}

-- what adds below a quota adds under it
pub adds_quoted : {S Q : Type 0} {meaning : S → Meaning} {stored : S → Stored} {knows : S → Type 0} (limit : Q → ℕ) (below : Q → S) (p q : Q) → Adds meaning stored knows (below p) (below q)
    → Adds (λ (r : Q). quoted (limit r) (meaning (below r))) (λ r. stored (below r)) (λ r. knows (below r)) p q
adds_quoted {meaning = meaning} {stored = stored} limit below p q a = record {
  words = λ l u b. over l u (a.words l u (same l u b));
  knowing = a.knowing;
}
  where
    same : (l : Meaning) (u : Stored) → Begins l u (quoted (limit p) (meaning (below p))) (stored (below p)) → Begins l u (meaning (below p)) (stored (below p))
    same l u b = record { shorter = record { inputs = b.shorter.inputs; witnesses = b.shorter.witnesses; combos = b.shorter.combos; rows = b.shorter.rows; terms = b.shorter.terms }; words = b.words }

    over : (l : Meaning) (u : Stored) → Begins l u (meaning (below q)) (stored (below q)) → Begins l u (quoted (limit q) (meaning (below q))) (stored (below q))
    over l u b = record { shorter = record { inputs = b.shorter.inputs; witnesses = b.shorter.witnesses; combos = b.shorter.combos; rows = b.shorter.rows; terms = b.shorter.terms }; words = b.words }

-- an answer to a row and the system that it leaves
abbrev Answered : Type 0
Answered = Result (Unit {0}) SystemFault × Meaning

-- the same under a quota
abbrev under : ℕ → Answered → Answered
under n q = (q.0, quoted n q.1)

-- a row that finds room, and one that does not
abbrev taken : Row → Bool → Meaning → Answered
taken r b m = cond b (Ok tt, with_row r m) (Err (rows_full m.capped), m)

-- below its limit a quota takes the rows that the system below takes
pub below_limit : (p n : ℕ) (a b c : List Term) (m o : Meaning) (r : Result (Unit {0}) SystemFault) → length m.rows < n → Ran (enforce p a b c) m r o → Ran (enforce p a b c) (quoted n m) r (quoted n o)
below_limit p n a b c m o r h e = go (has_row m a b c) (leb (used m + row_use (row_of p a b c)) m.term_room) ∙ ap (under n) e
  where
    room : (x : Bool) → ltb (length m.rows) m.row_room ≡ x → taken (row_of p a b c) (ltb (length m.rows) (min n m.row_room)) (quoted n m) ≡ under n (taken (row_of p a b c) x m)
    room true q = let l = ltb-true _ _ q in ap (λ y. taken (row_of p a b c) y (quoted n m)) (lt-ltb (length m.rows) (min n m.row_room) (omega arith))
    room false q =
        let l = ltb-false _ _ q in
        ap (λ y. taken (row_of p a b c) y (quoted n m)) (le-ltb (length m.rows) (min n m.row_room) (omega arith))
        ∙ ap (λ y. (Err (rows_full (cond y true m.capped)), quoted n m)) (lt-leb n m.row_room (omega arith))

    go : (k t : Bool) → cond k (cond t (taken (row_of p a b c) (ltb (length m.rows) (min n m.row_room)) (quoted n m)) (Err TermsFull, quoted n m)) (Err UnknownVariable, quoted n m)
        ≡ under n (cond k (cond t (taken (row_of p a b c) (ltb (length m.rows) m.row_room) m) (Err TermsFull, m)) (Err UnknownVariable, m))
    go true true = room (ltb (length m.rows) m.row_room) refl
    go true false = refl
    go false t = refl
