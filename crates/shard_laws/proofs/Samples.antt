-- The sample, computed.
use Rattle.std.proofs.Common.{◌≡◌, true, refl}
use Rattle.std.specs.Prelude.{is_some}
use Rattle.rss_tables.specs.Locks.{is_tombstoned}
use Rattle.rss_tables.specs.Prepared.{prepared_of}
use Rattle.rss_tables.specs.ShardRow.{shard_after}
use Rattle.shard_laws.specs.Sample.{early_attempt, after_early_commit}

pub both_at_once : (is_tombstoned after_early_commit.locks early_attempt ≡ true) × (is_some (prepared_of after_early_commit.prepared early_attempt) ≡ true)
unfolding shard_after
both_at_once = (refl, refl)
