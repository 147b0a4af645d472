use Rattle.std.proofs.Common.{length, vec_capacity, ap, arith}
use Rattle.attempt_index.proofs.Listed.{beside-fits}
use Rattle.attempt_index.proofs.listing.put_beside.Goals as goal

pub put_attempts-requires-clause-room : goal.put_attempts-requires-clause-room
put_attempts-requires-clause-room c =
    let kept = c.loop-key.invariant in
    let whole = ap length kept.whole in
    beside-fits c.args.index.now c.args.keys.now c.loop-key.list.items c.loop-key.key-index _ c.find_pairs.result.now (vec_capacity c.loop-key.list) c.loop-key-test.true c.find_pairs.ensures (omega (arith, whole, kept.room, c.requires.room))
