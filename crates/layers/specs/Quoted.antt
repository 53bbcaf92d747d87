-- A quota on rows.
use Rattle.std.specs.Prelude.{ℕ, true, cond, min, nat_le}
use Rattle.relations.specs.Meaning.{Meaning}

-- the system m with at most n rows: the smaller of two row rooms, and where the limit is no greater than the room below it is what a full row room comes from
abbrev pub quoted : ℕ → Meaning → Meaning
quoted n m = record m { row_room = min n m.row_room; capped = cond (nat_le n m.row_room) true m.capped }
