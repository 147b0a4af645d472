use Rattle.std.proofs.Common.{◌≡◌, ◌≤◌, drop, true, vec_capacity}
use Rattle.rss_tables.specs.Attempts.{attempt_lt}
use Rattle.attempt_index.specs.Ascending.{ascends}
use Rattle.attempt_index.specs.Listing.{with_beside}
use Rattle.attempt_index.proofs.listing.put_beside.Given as goal

-- the list so far, with the attempts beside the keys left, is the whole
abbrev pub invariant-loop-key : goal.invariant-loop-key
invariant-loop-key l = record {
  whole : with_beside l.index (drop l.key-index l.keys) l.list.items ≡ with_beside l.index l.keys l.fn.list.items;
  ascending : ascends attempt_lt l.list.items ≡ true;
  room : vec_capacity l.fn.list ≤ vec_capacity l.list;
}
