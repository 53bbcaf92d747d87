use Rattle.std.proofs.Common.{ℕ, Bool, cond, None, Ok, Err, Option, Result, sym, ap, ◌∙◌}
use Rattle.relations.specs.declared.fault.SystemFault.{SystemFault}
use Rattle.relations.specs.declared.fault.SystemFault.TheVariants.{UnknownVariable}
use Rattle.words.specs.State.{view}
use Rattle.systems.specs.Stores.{bare}
use Rattle.systems.proofs.Forgetting.{has_same}
use Rattle.systems.proofs.setup_calls.SetupSystem.value.Goals as goal

abbrev asked : Bool → Result (Option ℕ) SystemFault
asked b = cond b (Ok None) (Err UnknownVariable)

pub returns-then-has : goal.returns-then-has
returns-then-has g c = ap asked (c.if-has.ensures ∙ sym (has_same (view (bare c.args.self.now.store)) c.args.variable))

pub returns-else-has : goal.returns-else-has
returns-else-has g c = ap asked (c.if-has.ensures ∙ sym (has_same (view (bare c.args.self.now.store)) c.args.variable))
