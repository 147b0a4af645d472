use Rattle.std.proofs.Common.{◌≡◌, ◌≤◌, drop, true, [], vec_capacity}
use Rattle.attempt_index.specs.Ascending.{ascends}
use Rattle.attempt_index.specs.Orders.{holder_lt, skipped_lt}
use Rattle.attempt_index.specs.Listing.{listed_keys}
use Rattle.shard_prepared.specs.Written.{attempt_of}
use Rattle.shard_prepared.specs.Sifted.{holder_of, skipped_of, blocks, is_passed}
use Rattle.shard_prepared.proofs.sifting.sift.Given as goal

-- those listed, with those of the keys left, are the whole
abbrev pub invariant-loop-key : goal.invariant-loop-key
invariant-loop-key l = record {
  blocking : listed_keys attempt_of holder_lt holder_of (blocks l.read) l.entries l.index (drop l.key-index l.keys) l.blocking.items ≡ listed_keys attempt_of holder_lt holder_of (blocks l.read) l.entries l.index l.keys [];
  skipped : listed_keys attempt_of skipped_lt skipped_of (is_passed l.read) l.entries l.index (drop l.key-index l.keys) l.skipped.items ≡ listed_keys attempt_of skipped_lt skipped_of (is_passed l.read) l.entries l.index l.keys [];
  blocking_ascends : ascends holder_lt l.blocking.items ≡ true;
  skipped_ascends : ascends skipped_lt l.skipped.items ≡ true;
  blocking_room : vec_capacity l.fn.blocking ≤ vec_capacity l.blocking;
  skipped_room : vec_capacity l.fn.skipped ≤ vec_capacity l.skipped;
}
