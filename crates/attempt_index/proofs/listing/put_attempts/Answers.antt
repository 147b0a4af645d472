use Rattle.std.proofs.Common.{length, vec_capacity, ap, arith}
use Rattle.attempt_index.proofs.Listed.{attempt-fits}
use Rattle.attempt_index.proofs.listing.put_attempts.Goals as goal

pub put-requires-clause-room : goal.put-requires-clause-room
put-requires-clause-room c =
    let kept = c.loop-pair.invariant in
    let whole = ap length kept.whole in
    attempt-fits c.args.pairs.now c.loop-pair.list.items c.loop-pair.pair-index _ (vec_capacity c.loop-pair.list) c.loop-pair-test.true (omega (arith, whole, kept.room, c.requires.room))
