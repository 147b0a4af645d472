use Rattle.std.proofs.Common.{◌≡◌, ◌+◌, ◌++◌, drop}
use Rattle.rss_machine.specs.State.{shards_from}
use Rattle.txn_world.specs.Shards.{shards_in}
use Rattle.txn_world.proofs.opening.add_shards.Given as goal

abbrev pub invariant-loop-at : goal.invariant-loop-at
invariant-loop-at l = shards_in l.shards.items ++ shards_from l.config (l.at + 1) (drop l.at l.config.shard_services) ≡ shards_from l.config 1 l.config.shard_services
