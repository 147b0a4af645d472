use Rattle.std.proofs.Common.{length, vec_capacity, ap, arith}
use Rattle.attempt_index.specs.Orders.{holder_lt, skipped_lt}
use Rattle.shard_prepared.specs.Sifted.{holder_of, skipped_of, blocks, is_passed}
use Rattle.shard_prepared.specs.Written.{attempt_of}
use Rattle.attempt_index.proofs.Listed.{key-fits}
use Rattle.shard_prepared.proofs.sifting.sift.Goals as goal

pub list_writers-requires-clause-blocking_room : goal.list_writers-requires-clause-blocking_room
list_writers-requires-clause-blocking_room c =
    let kept = c.loop-key.invariant in
    let whole = ap length kept.blocking in
    key-fits attempt_of holder_lt holder_of (blocks c.args.read) c.args.entries.now c.args.index.now c.args.keys.now c.loop-key.blocking.items c.loop-key.key-index _ c.find_pairs-writers.result.now (vec_capacity c.loop-key.blocking) c.loop-key-test.true c.find_pairs-writers.ensures (omega (arith, whole, kept.blocking_room, c.requires.blocking_room))

pub list_writers-requires-clause-skipped_room : goal.list_writers-requires-clause-skipped_room
list_writers-requires-clause-skipped_room c =
    let kept = c.loop-key.invariant in
    let whole = ap length kept.skipped in
    key-fits attempt_of skipped_lt skipped_of (is_passed c.args.read) c.args.entries.now c.args.index.now c.args.keys.now c.loop-key.skipped.items c.loop-key.key-index _ c.find_pairs-writers.result.now (vec_capacity c.loop-key.skipped) c.loop-key-test.true c.find_pairs-writers.ensures (omega (arith, whole, kept.skipped_room, c.requires.skipped_room))
