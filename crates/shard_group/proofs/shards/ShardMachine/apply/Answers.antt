use Rattle.std.proofs.Common.{ap, ◌∙◌}
use Rattle.rss_tables.specs.ShardRow.{Shard}
use Rattle.group_tables.proofs.OneShard.{served_one}
use Rattle.shard_versions.specs.Rows.{keys_of}
use Rattle.txn_shard.proofs.ShardLaws.{keys_stay}
use Rattle.shard_group.proofs.shards.ShardMachine.apply.Goals as goal

pub returns-clause-next : goal.returns-clause-next
returns-clause-next c rest = served_one _ _ _ _ c.handle.ensures.after c.handle.ensures.replies rest

pub returns-clause-keys : goal.returns-clause-keys
returns-clause-keys c = ap (λ (sh : Shard). keys_of sh.store) c.handle.ensures.after ∙ keys_stay _ _ _
