-- The prepared writers of a shard as callers see them.
use Rattle.std.specs.Prelude.{ℕ, Bool, false, List, Option, Some, None, nat_le}
use Rattle.rss_tables.specs.Prepared.{PreparedWriter}

-- the prepared writers by ascending attempt, and for how many writes of one more room was made since it was used up
pub record PreparedView : Type 0 where
  pub prepared : List PreparedWriter
  pub room : Option ℕ

-- whether there is room for one more with a number of writes
abbrev pub has_room : Option ℕ → ℕ → Bool
has_room None writes = false
has_room (Some room) writes = nat_le writes room
