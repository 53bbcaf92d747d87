-- The loop that stores merged terms.
use Rattle.std.proofs.Common.{◌≡◌, ℕ, suc, ◌+◌, ◌*◌, ◌<◌, ◌≤◌, Bool, true, false, cond, eqb, List, [], ◌∷◌, ◌++◌, length, get_or, set, sym, refl, ap, ◌∙◌, subst, arith}
use Rattle.std.proofs.lemmas.List.{append-nil}
use Rattle.relations.specs.declared.term.Term.{Term}
use Rattle.relations.specs.Sum.{code, handed, Pairs, weight, merged}
use Rattle.words.specs.Words.{pairs, whole, Small}
use Rattle.words.proofs.Frames.{other_write, stored_more, stored_within, length_pairs}

-- every code has 32 bits
abbrev Low : Pairs → Type 0
Low [] = Unit {0}
Low (t ∷ ts) = (t.0 < 4294967296) × Low ts

low_handed : (ts : List Term) → Small ts → Low (handed ts)
low_handed [] s = tt
low_handed (t ∷ ts) s = (s.0, low_handed ts s.1)

low_merged : (p : ℕ) (all ts : Pairs) → Low ts → Low (merged p all ts)
low_merged p all [] s = tt
low_merged p all (t ∷ ts) s = go (eqb (weight p all t.0 ts) 0) (low_merged p all ts s.1)
  where
    go : (b : Bool) → Low (merged p all ts) → Low (cond {A = Pairs} b (merged p all ts) ((t.0, weight p all t.0 ts) ∷ merged p all ts))
    go true ih = ih
    go false ih = (s.0, ih)

-- no more terms are stored than were handed
merged_short : (p : ℕ) (all : Pairs) (ts : List Term) → length (merged p all (handed ts)) ≤ length ts
merged_short p all [] = omega arith
merged_short p all (t ∷ ts) = go (eqb (weight p all (code t.variable) (handed ts)) 0) (merged_short p all ts)
  where
    go : (b : Bool) → length (merged p all (handed ts)) ≤ length ts → length (cond {A = Pairs} b (merged p all (handed ts)) ((code t.variable, weight p all (code t.variable) (handed ts)) ∷ merged p all (handed ts))) ≤ suc (length ts)
    go true h = omega arith
    go false h = omega arith

pub whole_short : (p : ℕ) (ts : List Term) → length (whole p ts) ≤ length ts
whole_short p ts = merged_short p (handed ts) ts

-- n terms are stored, and those of `left` are left to be
pub record Storing (at n : ℕ) (left all : Pairs) (ws vs : List ℕ) : Type 0 where
  pub done : pairs at n ws ++ left ≡ all
  pub below : (j : ℕ) → j < 2 * at → get_or ws j 0 ≡ get_or vs j 0
  pub above : (j : ℕ) → 2 * (at + n) ≤ j → get_or ws j 0 ≡ get_or vs j 0
  pub codes : Low left

pub start : (p at n : ℕ) (ts : List Term) (left : Pairs) (ws : List ℕ) → n ≡ 0 → left ≡ whole p ts → Small ts → Storing at n left (whole p ts) ws ws
start p at n ts left ws z e s = subst (λ (m : ℕ). Storing at m left (whole p ts) ws ws) (sym z) record {
  done = e;
  below = λ j h. refl;
  above = λ j h. refl;
  codes = subst Low (sym e) (low_merged p (handed ts) (handed ts) (low_handed ts s));
}

low_split : (c k : ℕ) (left rest : Pairs) → left ≡ (c, k) ∷ rest → Low left → (c < 4294967296) × Low rest
low_split c k left rest e l = subst Low e l

-- one more has a place
pub record Fine (n c : ℕ) (all : Pairs) : Type 0 where
  pub count : n < length all
  pub code : c < 4294967296

pub fine : (at n c k : ℕ) (left rest all : Pairs) (ws vs : List ℕ) → left ≡ (c, k) ∷ rest → Storing at n left all ws vs → Fine n c all
fine at n c k left rest all ws vs q s = record {
  count = omega (arith, stored_within at n ws left all s.done, ap length q);
  code = (low_split c k left rest q s.codes).0;
}

pub put_in : (at n n' i c k : ℕ) (left rest all : Pairs) (ws us vs : List ℕ) → i ≡ n → n' ≡ n + 1 → us ≡ set (set ws (2 * (at + i)) c) (2 * (at + i) + 1) k → left ≡ (c, k) ∷ rest → 2 * (at + length all) ≤ length ws → Storing at n left all ws vs → Storing at n' rest all us vs
put_in at n n' i c k left rest all ws us vs a b u q fits s =
    subst (λ (m : ℕ). Storing at m rest all us vs) (sym b) (subst (λ (xs : List ℕ). Storing at (n + 1) rest all xs vs) (sym put) record {
      done = stored_more at n c k ws left rest all (omega (arith, f.count)) q s.done;
      below = λ j l. other_write (at + n) c k ws j (λ z. omega arith) (λ z. omega arith) ∙ s.below j l;
      above = λ j l. other_write (at + n) c k ws j (λ z. omega arith) (λ z. omega arith) ∙ s.above j (omega arith);
      codes = (low_split c k left rest q s.codes).1;
    })
  where
    f : Fine n c all
    f = fine at n c k left rest all ws vs q s

    put : us ≡ set (set ws (2 * (at + n)) c) (2 * (at + n) + 1) k
    put = u ∙ ap (λ (x : ℕ). set (set ws (2 * (at + x)) c) (2 * (at + x) + 1) k) a

pub record Held (p at : ℕ) (ts : List Term) (ws vs : List ℕ) : Type 0 where
  pub holds : pairs at (length (whole p ts)) ws ≡ whole p ts
  pub below : (j : ℕ) → j < 2 * at → get_or ws j 0 ≡ get_or vs j 0
  pub above : (j : ℕ) → 2 * (at + length (whole p ts)) ≤ j → get_or ws j 0 ≡ get_or vs j 0

pub held_as : (p p' at at' : ℕ) (ts ts' : List Term) (ws vs : List ℕ) → p ≡ p' → at ≡ at' → ts ≡ ts' → Held p at ts ws vs → Held p' at' ts' ws vs
held_as p p' at at' ts ts' ws vs a b c h = subst (λ (x : ℕ). Held x at' ts' ws vs) a (subst (λ (x : ℕ). Held p x ts' ws vs) b (subst (λ (x : List Term). Held p at x ws vs) c h))

pub ended : (p at n : ℕ) (ts : List Term) (left : Pairs) (ws vs : List ℕ) → left ≡ [] → Storing at n left (whole p ts) ws vs → Held p at ts ws vs
ended p at n ts left ws vs z s = record {
  holds = subst (λ (m : ℕ). pairs at m ws ≡ whole p ts) count all;
  below = s.below;
  above = λ j b. s.above j (omega (arith, count));
}
  where
    all : pairs at n ws ≡ whole p ts
    all = sym (append-nil (pairs at n ws)) ∙ ap (λ (xs : Pairs). pairs at n ws ++ xs) (sym z) ∙ s.done

    count : n ≡ length (whole p ts)
    count = sym (length_pairs at n ws) ∙ ap length all
