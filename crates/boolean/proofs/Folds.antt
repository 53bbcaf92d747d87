-- The steps of a variable bit as those of a Boolean.
use Rattle.std.proofs.Common.{◌≡◌, ℕ, Result, refl, sym, ap, ◌∙◌}
use Rattle.relations.specs.declared.fault.GadgetFault.{GadgetFault}
use Rattle.relations.specs.Meaning.{Meaning}
use Rattle.relations.specs.Script.{Script, run, over}
use Rattle.relations.proofs.Then.{then_over}
use Rattle.allocated.specs.declared.gate.Gate.{Gate}
use Rattle.allocated.specs.declared.gate.Gate.TheVariants.{And, Or, Xor}
use Rattle.allocated.specs.declared.allocated.AllocatedBool.{AllocatedBool}
use Rattle.allocated.specs.Gates.{gate_script}
use Rattle.boolean.specs.declared.bits.Boolean.{Boolean}
use Rattle.boolean.specs.declared.bits.Boolean.TheVariants.{Var}
use Rattle.boolean.specs.Booleans.{as_var, gated_script}

pub var_runs : (p : ℕ) (s : Script AllocatedBool) (t : Script Boolean) (m n : Meaning) (r : Result AllocatedBool GadgetFault) (q : Result Boolean GadgetFault) → t ≡ as_var s → run p s m ≡ (r, n) → q ≡ over Var r → run p t m ≡ (q, n)
var_runs p s t m n r q is ran e = ap (λ x. run p x m) is ∙ then_over p s Var m n r ran ∙ ap (λ x. (x, n)) (sym e)

-- a gate on two variables
pub of_vars : (g : Gate) (p : ℕ) (a b : AllocatedBool) → gated_script g p (Var a) (Var b) ≡ as_var (gate_script g p a b)
of_vars And p a b = refl
of_vars Or p a b = refl
of_vars Xor p a b = refl
