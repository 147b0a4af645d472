use Rattle.std.proofs.Common.{◌≡◌, true, drop}
use Rattle.rss_tables.specs.ShardRow.{applied}
use Rattle.txn_shard.specs.Applying.{can_apply}
use Rattle.txn_shard.proofs.applying.apply.Given as goal

-- what was applied, with the writes left, is the whole; and the writes left can be applied
abbrev pub invariant-loop-write : goal.invariant-loop-write
invariant-loop-write l = record {
  applied : applied l.store.store l.call l.time (drop l.write-index l.writes) ≡ applied l.fn.store.store l.call l.time l.writes;
  room : can_apply l.store l.time (drop l.write-index l.writes) ≡ true;
}
