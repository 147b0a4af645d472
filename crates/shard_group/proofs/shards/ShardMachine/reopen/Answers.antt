use Rattle.std.proofs.Common.{ap, ◌∙◌}
use Rattle.rss_tables.specs.ShardRow.{Shard}
use Rattle.shard_versions.specs.Rows.{keys_of}
use Rattle.shard_group.proofs.Keys.{keys_unwritten}
use Rattle.shard_group.proofs.shards.ShardMachine.reopen.Goals as goal

pub returns-clause-keys : goal.returns-clause-keys
returns-clause-keys c = ap (λ (sh : Shard). keys_of sh.store) c.reopen.ensures ∙ keys_unwritten _
