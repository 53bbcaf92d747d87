use Rattle.std.proofs.Common.{◌≡◌, ◌+◌, ◌≤◌}
use Rattle.relations.specs.Meaning.{used}
use Rattle.beside.specs.Lines.{left}
use Rattle.beside.proofs.trial.terms_left.Given as goal

-- each empty combination uses one term
abbrev pub invariant-loop-count : goal.invariant-loop-count
invariant-loop-count g l =
    let was = g.S.System.meaning l.fn.system in
    let now = g.S.System.meaning l.system in
    record {
      room : now.term_room ≡ was.term_room;
      more : used now ≡ used was + l.count;
      within : l.count ≤ left was;
    }
