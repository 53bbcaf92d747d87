use Rattle.std.proofs.Common.{[], false, true, refl, lit<, arith}
use Rattle.field.specs.Primes.{prime_7}
use Rattle.relations.specs.Meaning.{empty}
use Rattle.readings.specs.State.{state}
use Rattle.marked.proofs.Decided.{all_hold}
use Rattle.marked.specs.Table.{table}
use Rattle.marked.proofs.marked_circuits_stand.Goals as goal

pub returns-clause-stand : goal.returns-clause-stand
returns-clause-stand c = all_hold 7 prime_7.prime (lit< tt) table refl refl refl

pub returns-clause-blank : goal.returns-clause-blank
returns-clause-blank c = (
  state (empty true 1024 1024 1024 1024 false) [] 4096,
  record {
    fresh = record { no_inputs = refl; no_witnesses = refl; no_combos = refl; no_rows = refl };
    book = refl;
    inputs = omega arith;
    witnesses = omega arith;
    terms = omega arith;
    rows = omega arith;
    places = omega arith;
  },
)
