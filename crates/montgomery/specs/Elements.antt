-- Remainders in Montgomery's form are a field.
use Rattle.std.specs.Prelude.{◌≡◌, ℕ, ◌<◌, ◌%◌, ◌*◌, [], ◌∷◌}
use Rattle.std.proofs.Common.{sym, ap, ◌∙◌, mod-lt}
use mathlib.Core.HLevel.{is_prop→PathP}
use Rattle.std.proofs.Math.Bridge.{le_prop}
use Rattle.arith.proofs.Bits.{pos_of_prime}
use Rattle.arith.proofs.Euclid.{zero_factor}
use Rattle.arith.proofs.Ring.{done}
use Rattle.arith.proofs.Solve.{reads, none, times, by_same}
use Rattle.field.specs.Laws.{FieldLaws, OddPrime}
use Rattle.montgomery.specs.Form.{Form, number_of, code_of}
use Rattle.montgomery.specs.declared.montgomery.Montgomery.{Montgomery}

-- a number below p comes back from its code
pub number_of-code : (p back n : ℕ) → 0 < p → n < p → (back * 4294967296) % p ≡ 1 → number_of p back (code_of p n) ≡ n
number_of-code p back n pos lt b =
    by_same p pos (n ∷ back ∷ []) (times n b (search reads depth 9) none) (mod-lt _ pos) lt (search reads depth 9) done

-- and a code below p from its number
pub code_of-number : (p back c : ℕ) → 0 < p → c < p → (back * 4294967296) % p ≡ 1 → code_of p (number_of p back c) ≡ c
code_of-number p back c pos lt b =
    by_same p pos (c ∷ back ∷ []) (times c b (search reads depth 9) none) (mod-lt _ pos) lt (search reads depth 9) done

-- two remainders with one code are one
same_code : {P : ℕ} {By : Type 0} (x y : Montgomery P By) → x.code ≡ y.code → x ≡ y
same_code {P} {By} x y e = λ i. record { code = e i; by = x.by; below = is_prop→PathP (λ j. e j < P) (λ j. le_prop) x.below y.below i }

pub montgomery_laws : (P : ℕ) (By : Type 0) (minus square back : ℕ) → OddPrime P → Form P minus square back
    → FieldLaws P (λ (x : Montgomery P By). number_of P back x.code)
montgomery_laws P By minus square back o f = record {
  prime = o.prime;
  odd = o.odd;
  small = o.small;
  below = λ x. mod-lt (x.code * back) pos;
  same = λ x y e. same_code x y (sym (code_of-number P back x.code pos x.below f.back_is) ∙ ap (code_of P) e ∙ code_of-number P back y.code pos y.below f.back_is);
  has = λ n h. (record { code = code_of P n; by = record {}; below = mod-lt (n * 4294967296) pos }, number_of-code P back n pos h f.back_is);
  factor = zero_factor P o.prime;
}
  where
    pos : 0 < P
    pos = pos_of_prime o.prime
