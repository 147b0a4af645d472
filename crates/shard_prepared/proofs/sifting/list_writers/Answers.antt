use Rattle.std.proofs.Common.{length, vec_capacity, ap, arith}
use Rattle.attempt_index.specs.Orders.{holder_lt, skipped_lt}
use Rattle.shard_prepared.specs.Sifted.{holder_of, skipped_of, blocks, is_passed}
use Rattle.shard_prepared.specs.Written.{attempt_of}
use Rattle.attempt_index.proofs.Listed.{entry-fits}
use Rattle.shard_prepared.proofs.sifting.list_writers.Goals as goal

pub list_blocking-requires-clause-room : goal.list_blocking-requires-clause-room
list_blocking-requires-clause-room c =
    let kept = c.loop-writer.invariant in
    let whole = ap length kept.blocking in
    entry-fits attempt_of holder_lt holder_of (blocks c.args.read) c.args.entries.now c.args.writers.now c.loop-writer.blocking.items c.loop-writer.writer-index _ c.in-Some.entry.now (vec_capacity c.loop-writer.blocking) c.loop-writer-test.true c.in-Some.ensures (omega (arith, whole, kept.blocking_room, c.requires.blocking_room))

pub list_skipped-requires-clause-room : goal.list_skipped-requires-clause-room
list_skipped-requires-clause-room c =
    let kept = c.loop-writer.invariant in
    let whole = ap length kept.skipped in
    entry-fits attempt_of skipped_lt skipped_of (is_passed c.args.read) c.args.entries.now c.args.writers.now c.loop-writer.skipped.items c.loop-writer.writer-index _ c.in-Some.entry.now (vec_capacity c.loop-writer.skipped) c.loop-writer-test.true c.in-Some.ensures (omega (arith, whole, kept.skipped_room, c.requires.skipped_room))
