use Rattle.std.proofs.Common.{vec_capacity, arith}
use Rattle.attempt_index.specs.KeyIndex.{key_attempt_lt}
use Rattle.attempt_index.proofs.Searching.{put-fits}
use Rattle.attempt_index.proofs.index.put_keys.Goals as goal

pub put-requires-clause-room : goal.put-requires-clause-room
put-requires-clause-room c =
    let kept = c.loop-key.invariant in
    put-fits key_attempt_lt c.loop-key.index.items _ (vec_capacity c.loop-key.index) (omega (arith, kept.few, kept.room, c.requires.room, c.loop-key-test.true))
