-- What a run changes, and the steps of one command on it.
use Rattle.std.specs.Prelude.{ℕ, List, ◌++◌, Ok, Err, Result}
use Rattle.relations.specs.declared.fault.GadgetFault.{GadgetFault}
use Rattle.relations.specs.Meaning.{Meaning}
use Rattle.relations.specs.Script.{run, whole}
use Rattle.command.specs.declared.commands.Kind.{Kind}
use Rattle.command.specs.declared.commands.Command.{Command}
use Rattle.command.specs.declared.answers.Answer.{Answer}
use Rattle.command.specs.declared.fault.TapeFault.{TapeFault}
use Rattle.command.specs.declared.fault.TapeFault.TheVariants.{Gadget}
use Rattle.command.specs.Decide.{checked}
use Rattle.command.specs.Answers.{kinds, command_script}

-- a system, a book's answers, oldest first, and the places that the book has
pub record State : Type 0 where
  pub system : Meaning
  pub book : List Answer
  pub places : ℕ

-- a system, a book and its places together
abbrev pub state : Meaning → List Answer → ℕ → State
state m book n = record { system = m; book = book; places = n }

-- the answers of accepted steps are added to the book
abbrev pub filed : State → Result (List Answer) GadgetFault → Meaning → Result (Unit {0}) TapeFault × State
filed s (Ok os) n = (Ok tt, state n (s.book ++ os) s.places)
filed s (Err e) n = (Err (Gadget e), state n s.book s.places)

-- what a command does once it is checked: its gadget's call, or nothing where the check refuses
abbrev pub performed : ℕ → Command → State → Result (List Kind) TapeFault → Result (Unit {0}) TapeFault × State
performed p c s (Ok ks) = filed s (whole (run p (command_script p c s.book)) s.system).0 (whole (run p (command_script p c s.book)) s.system).1
performed p c s (Err f) = (Err f, s)

-- one command: what decides before any gadget, then the gadget's call
abbrev pub executed : ℕ → Command → State → Result (Unit {0}) TapeFault × State
executed p c s = performed p c s (checked c (kinds s.book) s.places)
