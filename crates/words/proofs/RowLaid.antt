-- A row written below a place.
use Rattle.std.proofs.Common.{◌≡◌, ℕ, ◌+◌, ◌-◌, ◌*◌, List, length, get_or, sym, ap, ◌∙◌, subst, arith}
use Rattle.relations.specs.declared.term.Term.{Term}
use Rattle.words.specs.Words.{pairs, PartsFit, Parts, Places, whole}
use Rattle.words.proofs.Frames.{pairs_same, Put}
use Rattle.words.proofs.Storing.{Held}

pub parts : (p back la lb lc : ℕ) (a b c : List Term) (ws v1 v2 vs : List ℕ) → PartsFit p back la lb lc a b c ws → Held p (back - la) a v1 ws → Held p (back - la - lb) b v2 v1 → Held p (back - la - lb - lc) c vs v2 → Parts p back la lb lc a b c ws vs
parts p back la lb lc a b c ws v1 v2 vs f x y z = record {
  a_holds = pairs_same (back - la) la vs v1 (λ j l u. z.above j (omega (arith, f.c_long, f.room)) ∙ y.above j (omega (arith, f.b_long, f.room))) ∙ long la a v1 (back - la) f.a_long x.holds;
  b_holds = pairs_same (back - la - lb) lb vs v2 (λ j l u. z.above j (omega (arith, f.c_long, f.room))) ∙ long lb b v2 (back - la - lb) f.b_long y.holds;
  c_holds = long lc c vs (back - la - lb - lc) f.c_long z.holds;
  below = λ j l. z.below j l ∙ y.below j (omega arith) ∙ x.below j (omega arith);
  above = λ j l. z.above j (omega (arith, f.c_long, f.room)) ∙ y.above j (omega (arith, f.b_long, f.room)) ∙ x.above j (omega (arith, f.a_long, f.room));
}
  where
    long : (l : ℕ) (ts : List Term) (us : List ℕ) (at : ℕ) → l ≡ length (whole p ts) → pairs at (length (whole p ts)) us ≡ whole p ts → pairs at l us ≡ whole p ts
    long l ts us at e h = subst (λ (m : ℕ). pairs at m us ≡ whole p ts) (sym e) h

pub places : (n back la lb lc : ℕ) (rs q1 q2 qs : List ℕ) → Put (3 * n) (back - la) la rs q1 → Put (3 * n + 1) (back - la - lb) lb q1 q2 → Put (3 * n + 2) (back - la - lb - lc) lc q2 qs → Places n back la lb lc rs qs
places n back la lb lc rs q1 q2 qs x y z = record {
  kept = λ j l. z.below j (omega arith) ∙ y.below j (omega arith) ∙ x.below j (omega arith);
  a_start = at (6 * n) (2 * (3 * n)) (back - la) (omega arith) (z.below (2 * (3 * n)) (omega arith) ∙ y.below (2 * (3 * n)) (omega arith) ∙ x.first);
  a_long = at (6 * n + 1) (2 * (3 * n) + 1) la (omega arith) (z.below (2 * (3 * n) + 1) (omega arith) ∙ y.below (2 * (3 * n) + 1) (omega arith) ∙ x.second);
  b_start = at (6 * n + 2) (2 * (3 * n + 1)) (back - la - lb) (omega arith) (z.below (2 * (3 * n + 1)) (omega arith) ∙ y.first);
  b_long = at (6 * n + 2 + 1) (2 * (3 * n + 1) + 1) lb (omega arith) (z.below (2 * (3 * n + 1) + 1) (omega arith) ∙ y.second);
  c_start = at (6 * n + 4) (2 * (3 * n + 2)) (back - la - lb - lc) (omega arith) z.first;
  c_long = at (6 * n + 4 + 1) (2 * (3 * n + 2) + 1) lc (omega arith) z.second;
}
  where
    at : (i j v : ℕ) → i ≡ j → get_or qs j 0 ≡ v → get_or qs i 0 ≡ v
    at i j v e h = ap (λ (k : ℕ). get_or qs k 0) e ∙ h
