-- Remainders modulo an odd prime are a field.
use Rattle.std.specs.Prelude.{◌≡◌, ℕ, ◌<◌, refl}
use mathlib.Core.HLevel.{is_prop→PathP}
use Rattle.std.proofs.Math.Bridge.{le_prop}
use Rattle.arith.proofs.Euclid.{zero_factor}
use Rattle.field.specs.Laws.{FieldLaws, OddPrime}
use Rattle.field.specs.declared.residue.Residue.{Residue}

-- two remainders with one code are one
pub same_code : {P : ℕ} {By : Type 0} (x y : Residue P By) → x.code ≡ y.code → x ≡ y
same_code {P} {By} x y e = λ i. record { code = e i; by = x.by; below = is_prop→PathP (λ j. e j < P) (λ j. le_prop) x.below y.below i }

pub residue_laws : (P : ℕ) (By : Type 0) → OddPrime P → FieldLaws P (λ (x : Residue P By). x.code)
residue_laws P By o = record {
  prime = o.prime;
  odd = o.odd;
  small = o.small;
  below = λ x. x.below;
  same = same_code;
  has = λ n h. (record { code = n; by = record {}; below = h }, refl);
  factor = zero_factor P o.prime;
}
