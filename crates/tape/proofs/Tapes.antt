-- A tape's commands one after another.
use Rattle.command.specs.declared.decoding.Shape.{Shape}
use Rattle.command.specs.Tape.{length_of, shape_of, shaped, spelled, decoded}
use Rattle.command.specs.declared.commands.Decoded.{Decoded}
use Rattle.readings.proofs.OnBook.{none_some}
use Rattle.std.proofs.Common.{◌≡◌, ℕ, ◌+◌, ◌-◌, ◌<◌, ◌≤◌, Bool, true, false, cond, ◌&&◌, ltb, List, [], ◌∷◌, ◌++◌, length, take, drop, Some, None, Ok, Err, Option, Result, sym, refl, ap, ◌∙◌, subst, append_assoc, append-nil, arith, length-drop, le-ltb, lt-ltb, leb, get_or, leb-true}
use Rattle.std.proofs.lemmas.List.{take_all, drop-drop}
use Rattle.relations.specs.Script.{over}
use Rattle.command.specs.declared.commands.Kind.{Kind}
use Rattle.command.specs.declared.fault.TapeFault.{TapeFault}
use Rattle.command.specs.declared.fault.TapeFault.TheVariants.{Unknown}
use Rattle.command.specs.declared.answers.Refused.{Refused}
use Rattle.command.specs.Refusals.{of_tape}
use Rattle.readings.specs.State.{State, executed}
use Rattle.readings.specs.Runs.{History, Running, Promise, decided}
use Rattle.tape.specs.Tape.{Reads, nothing, further, line, lines, last_line, outcome_line, Next, Taped, Progress}

-- a refusal that was decided
pub err_decided : (d : Result (List Kind) TapeFault) (f : TapeFault) → ◌≡◌ {A = Result (Unit {0}) TapeFault} (Err f) (over (λ ks. tt) d) → d ≡ Err f
err_decided (Ok ks) f e = cc e
err_decided (Err g) f e = ap Err (cc e)

-- one more line
pub noted : (n : ℕ) (d : Result (List Kind) TapeFault) (f : TapeFault) (r : Refused) (before middle after : List Refused) → ◌≡◌ {A = Result (Unit {0}) TapeFault} (Err f) (over (λ ks. tt) d) → r.command ≡ n → r.refusal ≡ of_tape f → middle ≡ before → after ≡ middle ++ (r ∷ []) → after ≡ before ++ outcome_line n d
noted n d f r before middle after e c q b a =
    a ∙ (λ i. b i ++ (record { command = c i; refusal = q i } ∷ [])) ∙ ap (λ x. before ++ outcome_line n x) (sym (err_decided d f e))

-- an accepted command leaves no line
pub unnoted : (n : ℕ) (d : Result (List Kind) TapeFault) (before middle : List Refused) → ◌≡◌ {A = Result (Unit {0}) TapeFault} (Ok tt) (over (λ ks. tt) d) → middle ≡ before → middle ≡ before ++ outcome_line n d
unnoted n (Ok ks) before middle e b = b ∙ sym (append-nil before)
unnoted n (Err f) before middle e b = none_ok e
  where
    none_ok : {A : Type 0} → ◌≡◌ {A = Result (Unit {0}) TapeFault} (Ok tt) (Err f) → A
    none_ok q = cc q

-- a command that is decoded is there with all its bytes
pub decoded_there : (bs : List ℕ) (d : Decoded) → decoded bs ≡ Some d → d.length ≤ length bs
decoded_there bs d e = by_shape (shape_of (get_or bs 0 0)) e
  where
    by_shape : (o : Option Shape) → shaped o bs ≡ Some d → d.length ≤ length bs
    by_shape None q = none_some q
    by_shape (Some s) q = go (leb (length_of s) (length bs)) refl q
      where
        made : Decoded
        made = record { command = spelled s (get_or bs 0 0) bs; length = length_of s }

        go : (b : Bool) → leb (length_of s) (length bs) ≡ b → cond {A = Option Decoded} b (Some made) None ≡ Some d → d.length ≤ length bs
        go true l q = let same : made ≡ d = cc q in subst (λ (x : Decoded). x.length ≤ length bs) same (leb-true _ _ l)
        go false l q = none_some q

lines_more : (e : Result (List Kind) TapeFault) (c : _) (h : History) → lines ((c, e) ∷ h) ≡ lines h ++ outcome_line (length h) e
lines_more (Ok ks) c h = sym (append-nil (lines h))
lines_more (Err f) c h = refl

-- a run before its first command
pub begun : (p : ℕ) (tape : List ℕ) (g : History) (s : State) (before : List Refused) → Running p g s → Progress p tape g s s 0 0 before before
begun p tape g s before k = record { history = []; reads = nothing; count = refl; steps = refl; running = k; refusals = sym (append-nil before) }

-- one command more
pub gone_on : (E : Type 0) (p : ℕ) (tape : List ℕ) (g : History) (o s t : State) (at n k : ℕ) (before middle after : List Refused) → Next {E = E} p (drop at tape) n s t (Ok (Some k)) middle after → Progress p tape g o s at n before middle → Progress p tape g o t (at + k) (n + 1) before after
gone_on E p tape g b s t at n k before middle after step r =
    let d = step.0 in
    let o = decided p d.command s in
    let more = step.3 (r.history ++ g) r.running in
    record {
      history = (d.command, o) ∷ r.history;
      reads = subst (λ (j : ℕ). Reads tape ((d.command, o) ∷ r.history) (at + j)) (sym step.2) (further d o r.reads step.1);
      count = omega (arith, r.count);
      steps = step.4 ∙ ap (λ (x : State). (executed p d.command x).1) r.steps;
      running = more.0;
      refusals = more.1 ∙ ap (λ l. l ++ outcome_line n o) r.refusals ∙ append_assoc before (lines r.history) (outcome_line n o)
          ∙ ap (λ j. before ++ (lines r.history ++ outcome_line j o)) r.count ∙ ap (λ l. before ++ l) (sym (lines_more o d.command r.history));
    }

ended : (most : ℕ) (tape : List ℕ) (h : History) (at : ℕ) (a b : Bool) → ltb (length h) most ≡ a → ltb at (length tape) ≡ b → last_line most tape h at ≡ cond (a && b) (line (length h) Unknown ∷ []) []
ended most tape h at a b e f = λ i. cond (e i && f i) (line (length h) Unknown ∷ []) []

module _ {E : Type 0} (p most : ℕ) (tape : List ℕ) (promised : (h : History) (s : State) → Running p h s → Promise p h s) where
  -- a run that comes to a command that is unknown or cut off
  pub unknown_end : (g : History) (o s t : State) (at n : ℕ) (before middle after : List Refused) → n < most → at < length tape → Next {E = E} p (drop at tape) n s t (Ok None) middle after → Progress p tape g o s at n before middle → Taped {E = E} p most tape g o t (Ok n) before after
  unknown_end g o s t at n before middle after lt in_tape step r =
      let k = subst (Running p (r.history ++ g)) (sym step.1) r.running in
      record {
        history = r.history;
        at = at;
        reads = r.reads;
        few = omega (arith, r.count);
        steps = step.1 ∙ r.steps;
        running = k;
        promise = promised (r.history ++ g) t k;
        ends = record {
          stopped = λ a b. step.0;
          count = r.count;
          refusals = step.2 ∙ ap (λ l. l ++ (line n Unknown ∷ [])) r.refusals ∙ append_assoc before (lines r.history) (line n Unknown ∷ [])
              ∙ ap (λ j. before ++ (lines r.history ++ (line j Unknown ∷ []))) r.count
              ∙ ap (λ l. before ++ (lines r.history ++ l)) (sym (ended most tape r.history at true true (lt-ltb (length r.history) most (omega (arith, r.count))) (lt-ltb at (length tape) in_tape)));
        };
      }

  no_more : (g : History) (o t : State) (at n : ℕ) (before after : List Refused) → n ≤ most → (r : Progress p tape g o t at n before after) → last_line most tape r.history at ≡ [] → (length r.history < most → at < length tape → ⊥) → Taped {E = E} p most tape g o t (Ok n) before after
  no_more g o t at n before after le r e h = record {
    history = r.history;
    at = at;
    reads = r.reads;
    few = omega (arith, r.count);
    steps = r.steps;
    running = r.running;
    promise = promised (r.history ++ g) t r.running;
    ends = record {
      stopped = λ a b. absurd (h a b);
      count = r.count;
      refusals = r.refusals ∙ ap (λ l. before ++ l) (sym (append-nil (lines r.history))) ∙ ap (λ l. before ++ (lines r.history ++ l)) (sym e);
    };
  }

  -- a run that comes to the tape's end
  pub tape_end : (g : History) (o t : State) (at n : ℕ) (before after : List Refused) → n ≤ most → length tape ≤ at → Progress p tape g o t at n before after → Taped {E = E} p most tape g o t (Ok n) before after
  tape_end g o t at n before after le past r = no_more g o t at n before after le r (go (ltb (length r.history) most) refl) (λ a b. omega arith)
    where
      go : (b : Bool) → ltb (length r.history) most ≡ b → last_line most tape r.history at ≡ []
      go true e = ended most tape r.history at true false e (le-ltb at (length tape) past)
      go false e = ended most tape r.history at false false e (le-ltb at (length tape) past)

  -- a run that comes to its limit
  pub limit_end : (g : History) (o t : State) (at n : ℕ) (before after : List Refused) → n ≤ most → most ≤ n → Progress p tape g o t at n before after → Taped {E = E} p most tape g o t (Ok n) before after
  limit_end g o t at n before after le ge r = no_more g o t at n before after le r (ended most tape r.history at false (ltb at (length tape)) (le-ltb (length r.history) most (omega (arith, r.count))) refl) (λ a b. omega (arith, r.count))

  -- a run that is stopped for want of memory
  pub memory_end : (g : History) (o s t : State) (at n : ℕ) (e : E) (before middle after : List Refused) → n ≤ most → t ≡ s → after ≡ middle → Progress p tape g o s at n before middle → Taped {E = E} p most tape g o t (Err e) before after
  memory_end g o s t at n e before middle after le q a r =
      let k = subst (Running p (r.history ++ g)) (sym q) r.running in
      record { history = r.history; at = at; reads = r.reads; few = omega (arith, r.count); steps = q ∙ r.steps; running = k; promise = promised (r.history ++ g) t k; ends = a ∙ r.refusals }

-- the rest of a tape once a command of it is read
pub left_is : (at k : ℕ) (tape rest : List ℕ) → rest ≡ drop at tape → take (length rest - k) (drop k rest) ≡ drop (at + k) tape
left_is at k tape rest e = take_all (length rest - k) (drop k rest) (omega (arith, length-drop k rest)) ∙ ap (drop k) e ∙ drop-drop k at tape

-- what a command of the rest came to, where its answer is known
pub known_next : (E : Type 0) (p at n : ℕ) (tape rest : List ℕ) (s t : State) (o q : Option ℕ) (before after : List Refused) → rest ≡ drop at tape → o ≡ q → Next {E = E} p rest n s t (Ok o) before after → Next {E = E} p (drop at tape) n s t (Ok q) before after
known_next E p at n tape rest s t o q before after l e h = subst (λ (x : Option ℕ). Next {E = E} p (drop at tape) n s t (Ok x) before after) e (subst (λ (bs : List ℕ). Next {E = E} p bs n s t (Ok o) before after) l h)
