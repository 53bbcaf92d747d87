-- What the crate's function promises of bills.
use Rattle.std.specs.Prelude.{◌≡◌, ℕ, List, Ok}
use Rattle.relations.specs.declared.term.Variable.{Variable}
use Rattle.relations.specs.Meaning.{Meaning, has, assigned}
use Rattle.relations.specs.Script.{Script, run}
use Rattle.laws.specs.Law.{AllThere, Sees}
use Rattle.laws.specs.Bill.{Charge, names, charges, Foreseen, Rooms, Account, settle, settled, billed, plus, tally, Within, Clean, Settled}

-- what is promised of bills
pub record Bills : Type 0 where
  -- where all that a script names is there, and whether it gives values is foreseen, it ends as its bill is settled
  pub settles : (p : ℕ) (s : Script (List Variable)) (m : Meaning) → Sees (has m) s AllThere → Foreseen (has m) (assigned m) s → settled (charges p (names m) s) m ≡ billed (run p s m)
  -- a clean bill that finds room is paid
  pub pays : (r : Rooms) (a : Account) (cs : List Charge) → Within r (plus a (tally cs)) → Clean r.keeps cs → settle r a cs ≡ Ok (plus a (tally cs))
  -- and no other
  pub paid : (r : Rooms) (a b : Account) (cs : List Charge) → Within r a → settle r a cs ≡ Ok b → Settled r a cs b
