-- Operands, which are answers of a book.
use Rattle.std.proofs.Common.{◌≡◌, ℕ, zero, suc, ◌+◌, ◌<◌, ◌≤◌, List, [], ◌∷◌, length, get_or, sym, refl, ap, ◌∙◌, subst, arith, Bool, true, false, ◌&&◌}
use Rattle.std.specs.Prelude.{slice_index_or}
use Rattle.std.proofs.lemmas.Bool.{and_parts}
use Rattle.std.proofs.lemmas.List.{get_or-map}
use lib.ListN.{length-map}
use borrow.Author.Tests.{true-ltb}
use Rattle.boolean.specs.declared.bits.Boolean.{Boolean}
use Rattle.fp_var.specs.declared.numbers.FpVar.{FpVar}
use Rattle.command.specs.declared.commands.Kind.{Kind}
use Rattle.command.specs.declared.commands.Kind.TheVariants.{Bit as a_bit, Number as a_number}
use Rattle.command.specs.Decide.{bit_kind, number_kind, present, is_bit, is_number, are_bits, range_is_bits}
use Rattle.number_laws.specs.Numbers.{fp_number_of, ThereFp, RealFp}
use Rattle.relations.specs.Meaning.{Meaning, has}
use Rattle.boolean.specs.declared.bits.Boolean.TheVariants.{Constant}
use Rattle.command.specs.declared.answers.Answer.{Answer}
use Rattle.command.specs.declared.answers.Answer.TheVariants.{Bit, Number}
use Rattle.command.specs.declared.commands.Range.{Range}
use Rattle.command.specs.Answers.{kind_of, kinds, answer_at, bit_at, as_bit, number_at, as_number, bits_from, bits_at}
use Rattle.laws.specs.Law.{Val, There, lists}
use Rattle.laws.specs.History.{Each, Along}
use Rattle.laws.specs.Bill.{names}
use Rattle.bit_laws.specs.Bits.{bit_number_of, ThereBit, RealBit, AllBits}
use Rattle.bit_laws.proofs.Owes.{OldBit, old_there, older_there}
use Rattle.number_laws.proofs.NumberSizes.{OldFp}
use Rattle.fp_var.specs.declared.numbers.FpVar.TheVariants.{Constant as constant_number, Var as variable_number}
use Rattle.bit_laws.proofs.WideBills.{AllOld}
use Rattle.readings.specs.Readings.{number_of, numbers_of, numbers_from, numbers_at, BoundedByKind, NamesThere}
use Rattle.readings.specs.Decision.{Real}

-- ---- numbers
pub answer_same : (ρ : Val) (bk : List Answer) (a : ℕ) → number_of ρ (answer_at bk a) ≡ get_or (numbers_of ρ bk) a 0
answer_same ρ [] a = refl
answer_same ρ (x ∷ bk) zero = refl
answer_same ρ (x ∷ bk) (suc a) = answer_same ρ bk a

-- ---- what the check says of an operand
-- three tests at once
three_parts : (x y z : Bool) → (x && (y && z)) ≡ true → (x ≡ true) × (y ≡ true) × (z ≡ true)
three_parts x y z h = let t = and_parts x (y && z) h in let u = and_parts y z t.1 in (t.0, u.0, u.1)

-- there is such an answer, and it is a bit, or a number
pub kind_there : (bk : List Answer) (a : ℕ) (d : Kind) → present (kinds bk) a ≡ true → slice_index_or (kinds bk) a d ≡ kind_of (answer_at bk a)
kind_there bk a d h = get_or-map kind_of bk a (Bit (Constant false)) d (omega (arith, true-ltb a (length (kinds bk)) (sym h), length-map bk kind_of))

bit_there : (bk : List Answer) (a : ℕ) → is_bit (kinds bk) a ≡ true → (b : Boolean) × (answer_at bk a ≡ Bit b)
bit_there bk a h =
    let t = and_parts (present (kinds bk) a) (bit_kind (slice_index_or (kinds bk) a a_number)) h in
    go (answer_at bk a) refl (sym (ap bit_kind (kind_there bk a a_number t.0)) ∙ t.1)
  where
    go : (x : Answer) → answer_at bk a ≡ x → bit_kind (kind_of x) ≡ true → (b : Boolean) × (answer_at bk a ≡ Bit b)
    go (Bit b) e k = (b, e)
    go (Number x) e k = let z : ◌≡◌ {A = ℕ} 0 1 = cc k in absurd (omega arith)

number_there : (bk : List Answer) (a : ℕ) → is_number (kinds bk) a ≡ true → (x : FpVar) × (answer_at bk a ≡ Number x)
number_there bk a h =
    let t = and_parts (present (kinds bk) a) (number_kind (slice_index_or (kinds bk) a a_bit)) h in
    go (answer_at bk a) refl (sym (ap number_kind (kind_there bk a a_bit t.0)) ∙ t.1)
  where
    go : (x : Answer) → answer_at bk a ≡ x → number_kind (kind_of x) ≡ true → (x : FpVar) × (answer_at bk a ≡ Number x)
    go (Bit b) e k = let z : ◌≡◌ {A = ℕ} 0 1 = cc k in absurd (omega arith)
    go (Number x) e k = (x, e)

pub bit_same : (ρ : Val) (bk : List Answer) (a : ℕ) → is_bit (kinds bk) a ≡ true → bit_number_of ρ (bit_at bk a) ≡ get_or (numbers_of ρ bk) a 0
bit_same ρ bk a h =
    let t = bit_there bk a h in
    ap (λ (x : Answer). bit_number_of ρ (as_bit x)) t.1 ∙ sym (ap (number_of ρ) t.1) ∙ answer_same ρ bk a

pub fp_same : (ρ : Val) (bk : List Answer) (a : ℕ) → is_number (kinds bk) a ≡ true → fp_number_of ρ (number_at bk a) ≡ get_or (numbers_of ρ bk) a 0
fp_same ρ bk a h =
    let t = number_there bk a h in
    ap (λ (x : Answer). fp_number_of ρ (as_number x)) t.1 ∙ sym (ap (number_of ρ) t.1) ∙ answer_same ρ bk a

from_same : (ρ : Val) (bk : List Answer) (a k : ℕ) → are_bits (kinds bk) a k ≡ true → lists bit_number_of ρ (bits_from bk a k) ≡ numbers_from (numbers_of ρ bk) a k
from_same ρ bk a zero h = refl
from_same ρ bk a (suc k) h = let t = and_parts (is_bit (kinds bk) a) (are_bits (kinds bk) (a + 1) k) h in λ i. bit_same ρ bk a t.0 i ∷ from_same ρ bk (a + 1) k t.1 i

pub range_same : (ρ : Val) (bk : List Answer) (r : Range) → range_is_bits (kinds bk) r ≡ true → lists bit_number_of ρ (bits_at bk r) ≡ numbers_at (numbers_of ρ bk) r
range_same ρ bk r h = from_same ρ bk r.first r.count h

-- ---- what holds of each answer holds of an operand
each_at : (P : Answer → Type 0) → P (Bit (Constant false)) → (bk : List Answer) (a : ℕ) → Each P bk → P (answer_at bk a)
each_at P d [] a e = d
each_at P d (x ∷ bk) zero e = e.0
each_at P d (x ∷ bk) (suc a) e = each_at P d bk a e.1

pub there_at : (h : There) (bk : List Answer) (a : ℕ) → Each (NamesThere h) bk → NamesThere h (answer_at bk a)
there_at h bk a e = each_at (NamesThere h) tt bk a e

there_bit : (h : There) (x : Answer) → NamesThere h x → ThereBit h (as_bit x)
there_bit h (Bit b) t = t
there_bit h (Number x) t = tt

there_fp : (h : There) (x : Answer) → NamesThere h x → ThereFp h (as_number x)
there_fp h (Bit b) t = tt
there_fp h (Number x) t = t

pub there_bit_at : (h : There) (bk : List Answer) (a : ℕ) → Each (NamesThere h) bk → ThereBit h (bit_at bk a)
there_bit_at h bk a e = there_bit h (answer_at bk a) (there_at h bk a e)

pub there_fp_at : (h : There) (bk : List Answer) (a : ℕ) → Each (NamesThere h) bk → ThereFp h (number_at bk a)
there_fp_at h bk a e = there_fp h (answer_at bk a) (there_at h bk a e)

there_from : (h : There) (bk : List Answer) (a k : ℕ) → Each (NamesThere h) bk → Each (ThereBit h) (bits_from bk a k)
there_from h bk a zero e = tt
there_from h bk a (suc k) e = (there_bit_at h bk a e, there_from h bk (a + 1) k e)

pub there_range : (h : There) (bk : List Answer) (r : Range) → Each (NamesThere h) bk → Each (ThereBit h) (bits_at bk r)
there_range h bk r e = there_from h bk r.first r.count e

pub real_at : (bk : List Answer) (a : ℕ) → Each Real bk → Real (answer_at bk a)
real_at bk a e = each_at Real tt bk a e

real_bit : (x : Answer) → Real x → RealBit (as_bit x)
real_bit (Bit b) r = r
real_bit (Number x) r = tt

real_fp : (x : Answer) → Real x → RealFp (as_number x)
real_fp (Bit b) r = tt
real_fp (Number x) r = r

-- ---- operands came before the next names of the system that has them
pub old_at : (m : Meaning) (bk : List Answer) (a : ℕ) → Each Real bk → Each (NamesThere (has m)) bk → OldBit (names m) (bit_at bk a)
old_at m bk a r t = old_there m (bit_at bk a) (real_bit (answer_at bk a) (real_at bk a r)) (there_bit_at (has m) bk a t)

old_fp : (m : Meaning) (x : FpVar) → RealFp x → ThereFp (has m) x → OldFp (names m) x
old_fp m (constant_number c) r t = tt
old_fp m (variable_number a) r t = older_there m a.variable r t

pub old_fp_at : (m : Meaning) (bk : List Answer) (a : ℕ) → Each Real bk → Each (NamesThere (has m)) bk → OldFp (names m) (number_at bk a)
old_fp_at m bk a r t = old_fp m (number_at bk a) (real_fp (answer_at bk a) (real_at bk a r)) (there_fp_at (has m) bk a t)

old_from : (m : Meaning) (bk : List Answer) (a k : ℕ) → Each Real bk → Each (NamesThere (has m)) bk → AllOld (names m) (bits_from bk a k)
old_from m bk a zero r t = tt
old_from m bk a (suc k) r t = (old_at m bk a r t, old_from m bk (a + 1) k r t)

pub old_range : (m : Meaning) (bk : List Answer) (r : Range) → Each Real bk → Each (NamesThere (has m)) bk → AllOld (names m) (bits_at bk r)
old_range m bk r e t = old_from m bk r.first r.count e t

-- ---- numbers that fit the answers: an operand that is a bit is 0 or 1, and one that is a number is below p
module _ (p : ℕ) where
  along_at : (bk : List Answer) (xs : List ℕ) → Along (BoundedByKind p) bk xs → (a : ℕ) → a < length bk → BoundedByKind p (answer_at bk a) (get_or xs a 0)
  along_at [] [] h a l = absurd (omega arith)
  along_at [] (x ∷ xs) h a l = absurd h
  along_at (o ∷ bk) [] h a l = absurd h
  along_at (o ∷ bk) (x ∷ xs) h zero l = h.0
  along_at (o ∷ bk) (x ∷ xs) h (suc a) l = along_at bk xs h.1 a (omega arith)

  pub bounded_at : (bk : List Answer) (xs : List ℕ) → Along (BoundedByKind p) bk xs → (a : ℕ) → present (kinds bk) a ≡ true → BoundedByKind p (answer_at bk a) (get_or xs a 0)
  bounded_at bk xs h a t = along_at bk xs h a (omega (arith, true-ltb a (length (kinds bk)) (sym t), length-map bk kind_of))

  pub low_at : (bk : List Answer) (xs : List ℕ) → Along (BoundedByKind p) bk xs → (a : ℕ) → is_bit (kinds bk) a ≡ true → get_or xs a 0 ≤ 1
  low_at bk xs h a k =
      let t = bit_there bk a k in
      subst (λ (o : Answer). BoundedByKind p o (get_or xs a 0)) t.1 (bounded_at bk xs h a (and_parts (present (kinds bk) a) (bit_kind (slice_index_or (kinds bk) a a_number)) k).0)

  pub below_at : (bk : List Answer) (xs : List ℕ) → Along (BoundedByKind p) bk xs → (a : ℕ) → is_number (kinds bk) a ≡ true → get_or xs a 0 < p
  below_at bk xs h a k =
      let t = number_there bk a k in
      subst (λ (o : Answer). BoundedByKind p o (get_or xs a 0)) t.1 (bounded_at bk xs h a (and_parts (present (kinds bk) a) (number_kind (slice_index_or (kinds bk) a a_bit)) k).0)

  low_from : (bk : List Answer) (xs : List ℕ) → Along (BoundedByKind p) bk xs → (a k : ℕ) → are_bits (kinds bk) a k ≡ true → AllBits (numbers_from xs a k)
  low_from bk xs h a zero t = tt
  low_from bk xs h a (suc k) t = let u = and_parts (is_bit (kinds bk) a) (are_bits (kinds bk) (a + 1) k) t in (low_at bk xs h a u.0, low_from bk xs h (a + 1) k u.1)

  pub low_range : (bk : List Answer) (xs : List ℕ) → Along (BoundedByKind p) bk xs → (r : Range) → range_is_bits (kinds bk) r ≡ true → AllBits (numbers_at xs r)
  low_range bk xs h r t = low_from bk xs h r.first r.count t

  -- ---- two and three operands
  pub low_two : (bk : List Answer) (xs : List ℕ) (a b : ℕ) → (is_bit (kinds bk) a && is_bit (kinds bk) b) ≡ true → Along (BoundedByKind p) bk xs → (get_or xs a 0 ≤ 1) × (get_or xs b 0 ≤ 1)
  low_two bk xs a b t h = let u = and_parts (is_bit (kinds bk) a) (is_bit (kinds bk) b) t in (low_at bk xs h a u.0, low_at bk xs h b u.1)

  pub low_three : (bk : List Answer) (xs : List ℕ) (a b c : ℕ) → (is_bit (kinds bk) a && (is_bit (kinds bk) b && is_bit (kinds bk) c)) ≡ true → Along (BoundedByKind p) bk xs → (get_or xs a 0 ≤ 1) × (get_or xs b 0 ≤ 1) × (get_or xs c 0 ≤ 1)
  low_three bk xs a b c t h = let u = three_parts (is_bit (kinds bk) a) (is_bit (kinds bk) b) (is_bit (kinds bk) c) t in (low_at bk xs h a u.0, low_at bk xs h b u.1, low_at bk xs h c u.2)

  pub below_two : (bk : List Answer) (xs : List ℕ) (a b : ℕ) → (is_number (kinds bk) a && is_number (kinds bk) b) ≡ true → Along (BoundedByKind p) bk xs → (get_or xs a 0 < p) × (get_or xs b 0 < p)
  below_two bk xs a b t h = let u = and_parts (is_number (kinds bk) a) (is_number (kinds bk) b) t in (below_at bk xs h a u.0, below_at bk xs h b u.1)

  pub below_three : (bk : List Answer) (xs : List ℕ) (a b c : ℕ) → (is_number (kinds bk) a && (is_number (kinds bk) b && is_number (kinds bk) c)) ≡ true → Along (BoundedByKind p) bk xs → (get_or xs a 0 < p) × (get_or xs b 0 < p) × (get_or xs c 0 < p)
  below_three bk xs a b c t h = let u = three_parts (is_number (kinds bk) a) (is_number (kinds bk) b) (is_number (kinds bk) c) t in (below_at bk xs h a u.0, below_at bk xs h b u.1, below_at bk xs h c u.2)

  pub guarded_low : (bk : List Answer) (xs : List ℕ) (a b c : ℕ) → (is_number (kinds bk) a && (is_number (kinds bk) b && is_bit (kinds bk) c)) ≡ true → Along (BoundedByKind p) bk xs → (get_or xs a 0 < p) × (get_or xs b 0 < p) × (get_or xs c 0 ≤ 1)
  guarded_low bk xs a b c t h = let u = three_parts (is_number (kinds bk) a) (is_number (kinds bk) b) (is_bit (kinds bk) c) t in (below_at bk xs h a u.0, below_at bk xs h b u.1, low_at bk xs h c u.2)

  pub choice_low : (bk : List Answer) (xs : List ℕ) (c a b : ℕ) → (is_bit (kinds bk) c && (is_number (kinds bk) a && is_number (kinds bk) b)) ≡ true → Along (BoundedByKind p) bk xs → (get_or xs c 0 ≤ 1) × (get_or xs a 0 < p) × (get_or xs b 0 < p)
  choice_low bk xs c a b t h = let u = three_parts (is_bit (kinds bk) c) (is_number (kinds bk) a) (is_number (kinds bk) b) t in (low_at bk xs h c u.0, below_at bk xs h a u.1, below_at bk xs h b u.2)

pub bits_two : (ρ : Val) (bk : List Answer) (a b : ℕ) → (is_bit (kinds bk) a && is_bit (kinds bk) b) ≡ true → ◌≡◌ {A = ℕ × ℕ} (bit_number_of ρ (bit_at bk a), bit_number_of ρ (bit_at bk b)) (get_or (numbers_of ρ bk) a 0, get_or (numbers_of ρ bk) b 0)
bits_two ρ bk a b t = let u = and_parts (is_bit (kinds bk) a) (is_bit (kinds bk) b) t in λ i. (bit_same ρ bk a u.0 i, bit_same ρ bk b u.1 i)

pub bits_three : (ρ : Val) (bk : List Answer) (a b c : ℕ) → (is_bit (kinds bk) a && (is_bit (kinds bk) b && is_bit (kinds bk) c)) ≡ true
    → ◌≡◌ {A = ℕ × ℕ × ℕ} (bit_number_of ρ (bit_at bk a), bit_number_of ρ (bit_at bk b), bit_number_of ρ (bit_at bk c)) (get_or (numbers_of ρ bk) a 0, get_or (numbers_of ρ bk) b 0, get_or (numbers_of ρ bk) c 0)
bits_three ρ bk a b c t = let u = three_parts (is_bit (kinds bk) a) (is_bit (kinds bk) b) (is_bit (kinds bk) c) t in λ i. (bit_same ρ bk a u.0 i, bit_same ρ bk b u.1 i, bit_same ρ bk c u.2 i)

pub fps_two : (ρ : Val) (bk : List Answer) (a b : ℕ) → (is_number (kinds bk) a && is_number (kinds bk) b) ≡ true → ◌≡◌ {A = ℕ × ℕ} (fp_number_of ρ (number_at bk a), fp_number_of ρ (number_at bk b)) (get_or (numbers_of ρ bk) a 0, get_or (numbers_of ρ bk) b 0)
fps_two ρ bk a b t = let u = and_parts (is_number (kinds bk) a) (is_number (kinds bk) b) t in λ i. (fp_same ρ bk a u.0 i, fp_same ρ bk b u.1 i)

pub fps_three : (ρ : Val) (bk : List Answer) (a b c : ℕ) → (is_number (kinds bk) a && (is_number (kinds bk) b && is_number (kinds bk) c)) ≡ true
    → ◌≡◌ {A = ℕ × ℕ × ℕ} (fp_number_of ρ (number_at bk a), fp_number_of ρ (number_at bk b), fp_number_of ρ (number_at bk c)) (get_or (numbers_of ρ bk) a 0, get_or (numbers_of ρ bk) b 0, get_or (numbers_of ρ bk) c 0)
fps_three ρ bk a b c t = let u = three_parts (is_number (kinds bk) a) (is_number (kinds bk) b) (is_number (kinds bk) c) t in λ i. (fp_same ρ bk a u.0 i, fp_same ρ bk b u.1 i, fp_same ρ bk c u.2 i)

pub guarded_same : (ρ : Val) (bk : List Answer) (a b c : ℕ) → (is_number (kinds bk) a && (is_number (kinds bk) b && is_bit (kinds bk) c)) ≡ true
    → ◌≡◌ {A = ℕ × ℕ × ℕ} (fp_number_of ρ (number_at bk a), fp_number_of ρ (number_at bk b), bit_number_of ρ (bit_at bk c)) (get_or (numbers_of ρ bk) a 0, get_or (numbers_of ρ bk) b 0, get_or (numbers_of ρ bk) c 0)
guarded_same ρ bk a b c t = let u = three_parts (is_number (kinds bk) a) (is_number (kinds bk) b) (is_bit (kinds bk) c) t in λ i. (fp_same ρ bk a u.0 i, fp_same ρ bk b u.1 i, bit_same ρ bk c u.2 i)

pub choice_same : (ρ : Val) (bk : List Answer) (c a b : ℕ) → (is_bit (kinds bk) c && (is_number (kinds bk) a && is_number (kinds bk) b)) ≡ true
    → ◌≡◌ {A = ℕ × ℕ × ℕ} (bit_number_of ρ (bit_at bk c), fp_number_of ρ (number_at bk a), fp_number_of ρ (number_at bk b)) (get_or (numbers_of ρ bk) c 0, get_or (numbers_of ρ bk) a 0, get_or (numbers_of ρ bk) b 0)
choice_same ρ bk c a b t = let u = three_parts (is_bit (kinds bk) c) (is_number (kinds bk) a) (is_number (kinds bk) b) t in λ i. (bit_same ρ bk c u.0 i, fp_same ρ bk a u.1 i, fp_same ρ bk b u.2 i)
