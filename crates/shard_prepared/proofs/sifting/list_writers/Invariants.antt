use Rattle.std.proofs.Common.{◌≡◌, ◌≤◌, drop, true, vec_capacity}
use Rattle.attempt_index.specs.Ascending.{ascends}
use Rattle.attempt_index.specs.Orders.{holder_lt, skipped_lt}
use Rattle.attempt_index.specs.Listing.{listed_pairs}
use Rattle.shard_prepared.specs.Written.{attempt_of}
use Rattle.shard_prepared.specs.Sifted.{holder_of, skipped_of, blocks, is_passed}
use Rattle.shard_prepared.proofs.sifting.list_writers.Given as goal

-- those listed, with those of the pairs left, are the whole
abbrev pub invariant-loop-writer : goal.invariant-loop-writer
invariant-loop-writer l = record {
  blocking : listed_pairs attempt_of holder_lt holder_of (blocks l.read) l.entries (drop l.writer-index l.writers) l.blocking.items ≡ listed_pairs attempt_of holder_lt holder_of (blocks l.read) l.entries l.writers l.fn.blocking.items;
  skipped : listed_pairs attempt_of skipped_lt skipped_of (is_passed l.read) l.entries (drop l.writer-index l.writers) l.skipped.items ≡ listed_pairs attempt_of skipped_lt skipped_of (is_passed l.read) l.entries l.writers l.fn.skipped.items;
  blocking_ascends : ascends holder_lt l.blocking.items ≡ true;
  skipped_ascends : ascends skipped_lt l.skipped.items ≡ true;
  blocking_room : vec_capacity l.fn.blocking ≤ vec_capacity l.blocking;
  skipped_room : vec_capacity l.fn.skipped ≤ vec_capacity l.skipped;
}
