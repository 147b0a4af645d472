use Rattle.std.proofs.Common.{length, vec_capacity, ap, arith}
use Rattle.attempt_index.specs.KeyIndex.{key_attempt_lt}
use Rattle.attempt_index.proofs.Searching.{put-fits}
use Rattle.shard_prepared.proofs.index.put_writes.Goals as goal

pub put-requires-clause-room : goal.put-requires-clause-room
put-requires-clause-room c =
    let kept = c.loop-write.invariant in
    let writes = ap length c.writes-write-items.ensures in
    put-fits key_attempt_lt c.loop-write.index.items _ (vec_capacity c.loop-write.index) (omega (arith, kept.few, kept.room, c.requires.room, c.loop-write-test.true, writes))
