-- Whom an answered snapshot names as passed by.
use Rattle.std.specs.Prelude.{◌≡◌, ℕ, ◌<◌, Some}
use Rattle.rss_wire.specs.declared.messages.Skipped.{Skipped}
use Rattle.rss_tables.specs.Prepared.{PreparedWriter, prepared_of}
use Rattle.rss_tables.specs.ShardRow.{Shard}

-- one that is named is prepared at the time that is named, and its call cannot end before the read time
pub record IsNamed (sh : Shard) (read_time : ℕ) (s : Skipped) : Type 0 where
  pub entry : PreparedWriter
  pub there : prepared_of sh.prepared s.attempt ≡ Some entry
  pub at : s.prepare_time ≡ entry.prepare_time
  pub unended : read_time < entry.earliest_end
