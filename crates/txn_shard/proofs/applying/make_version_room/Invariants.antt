use Rattle.std.proofs.Common.{◌≡◌, true, take}
use Rattle.txn_shard.specs.Applying.{have_room}
use Rattle.txn_shard.proofs.applying.make_version_room.Given as goal

-- the store stays, and there is room for the writes that were passed
abbrev pub invariant-loop-write : goal.invariant-loop-write
invariant-loop-write l = record {
  same : l.store.store ≡ l.fn.store.store;
  room : have_room l.store (take l.write-index l.writes) ≡ true;
}
