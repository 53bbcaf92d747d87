use Rattle.std.proofs.Common.{not, sym, ap, inl, inr, ◌∙◌}
use Rattle.layers.proofs.Watched.{watched_refused, watched_failing, watched_standing}
use Rattle.layers.proofs.watch.WatchSystem.enforce_constraint.Goals.{else-is_none-via-then-is_none+else-fails, else-is_none-via-else-is_none}
use Rattle.layers.proofs.watch.WatchSystem.enforce_constraint.Goals as goal

pub returns-in_err-enforce_constraint-clause-adds : goal.returns-in_err-enforce_constraint-clause-adds
returns-in_err-enforce_constraint-clause-adds g c = record {
  words = c.enforce_constraint.ensures.adds.words;
  knowing = λ k. (c.enforce_constraint.ensures.adds.knowing k.0, watched_refused g.F.Field.modulus c.args.self.now.unmet c.args.a.now c.args.b.now c.args.c.now _ _ _ c.in_err-enforce_constraint.ensures.does k.1);
}

pub returns-then-fails-clause-adds : goal.returns-then-fails-clause-adds
returns-then-fails-clause-adds g c = record {
  words = c.enforce_constraint.ensures.adds.words;
  knowing = λ k. (
    c.enforce_constraint.ensures.adds.knowing k.0,
    watched_failing g.F.Field.modulus c.row_count-row.result c.args.self.now.unmet c.args.a.now c.args.b.now c.args.c.now _ _ _ c.in_ok-enforce_constraint.ensures.does c.row_count-row.ensures.count c.row_count-row.ensures.local
        (c.is_none.ensures ∙ ap not c.if-is_none.true) (sym c.fails.ensures ∙ c.if-fails.true) k.1,
  );
}

pub returns-else-is_none-clause-adds : goal.returns-else-is_none-clause-adds
returns-else-is_none-clause-adds g c = record {
  words = c.enforce_constraint.ensures.adds.words;
  knowing = λ k. (
    c.enforce_constraint.ensures.adds.knowing k.0,
    watched_standing g.F.Field.modulus c.row_count-row.result c.args.self.now.unmet c.args.a.now c.args.b.now c.args.c.now _ _ _ c.in_ok-enforce_constraint.ensures.does c.row_count-row.ensures.count c.row_count-row.ensures.local
        (elim c.else-is_none.branch [
          | else-is_none-via-then-is_none+else-fails w ↦ inr (sym w.fails.ensures ∙ w.if-fails.false)
          | else-is_none-via-else-is_none w ↦ inl (c.is_none.ensures ∙ ap not w.if-is_none.false)
        ]) k.1,
  );
}
