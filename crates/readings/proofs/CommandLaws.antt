-- What is shown of each command.
use Rattle.std.proofs.Common.{◌≡◌, ℕ, ◌<◌, refl}
use Rattle.arith.specs.Number.{Prime}
use Rattle.boolean.specs.declared.bits.Boolean.TheVariants.{Constant, Var}
use Rattle.command.specs.declared.commands.Command.{Command}
use Rattle.command.specs.declared.commands.Command.TheVariants.{Bit as BitCommand, Clone, Not, Gated, Kary as KaryCommand, IsEqual, Select, Enforce, AtMost, Number as NumberCommand, Binary as BinaryCommand, Unary as UnaryCommand, MulEquals, SquareEquals, Compare, EnforceNumbers, SelectNumber, FromBit}
use Rattle.fp_var.specs.declared.numbers.FpVar.TheVariants.{Constant as constant_number, Var as variable_number}
use Rattle.command.specs.declared.answers.Answer.{Answer}
use Rattle.command.specs.declared.answers.Answer.TheVariants.{Bit, Number}
use Rattle.laws.specs.Law.{Val, There, Wider}
use Rattle.laws.specs.Runs.{Agree}
use Rattle.readings.specs.Readings.{number_of, NamesThere}
use Rattle.readings.proofs.Tables.{Serves}
use Rattle.readings.proofs.BitCommands.{bit_command, clone_command, not_command, gate_command, is_eq_command, select_command, kary_command, claim_command, bound_command}
use Rattle.readings.proofs.NumberCommands.{number_command, binary_command, unary_command, mul_equals_command, square_equals_command, compare_command, number_claim_command, select_number_command, from_bit_command}

module _ (p : ℕ) (P : Prime p) (two : 2 < p) where
  pub served : (c : Command) → Serves p c
  served (BitCommand m v) = bit_command p P two m v
  served (Clone a) = clone_command p P two a
  served (Not a) = not_command p P two a
  served (Gated g a b) = gate_command p P two g a b
  served (KaryCommand k r) = kary_command p P two k r
  served (IsEqual a b) = is_eq_command p P two a b
  served (Select c a b) = select_command p P two c a b
  served (Enforce e a b c) = claim_command p P two e a b c
  served (AtMost r e) = bound_command p P two r e
  served (NumberCommand m t v) = number_command p P two m t v
  served (BinaryCommand o a b) = binary_command p P two o a b
  served (UnaryCommand o a) = unary_command p P two o a
  served (MulEquals a b c) = mul_equals_command p P two a b c
  served (SquareEquals a b) = square_equals_command p P two a b
  served (Compare o a b) = compare_command p P two o a b
  served (EnforceNumbers e a b c) = number_claim_command p P two e a b c
  served (SelectNumber c a b) = select_number_command p P two c a b
  served (FromBit a) = from_bit_command p P two a

-- ---- answers
pub local : (h : There) (ρ σ : Val) → Agree h ρ σ → (o : Answer) → NamesThere h o → number_of σ o ≡ number_of ρ o
local h ρ σ g (Bit (Constant b)) t = refl
local h ρ σ g (Bit (Var a)) t = g a.variable t
local h ρ σ g (Number (constant_number c)) t = refl
local h ρ σ g (Number (variable_number a)) t = g a.variable t

pub wider : (h k : There) → Wider h k → (o : Answer) → NamesThere h o → NamesThere k o
wider h k w (Bit (Constant b)) t = tt
wider h k w (Bit (Var a)) t = w a.variable t
wider h k w (Number (constant_number c)) t = tt
wider h k w (Number (variable_number a)) t = w a.variable t
