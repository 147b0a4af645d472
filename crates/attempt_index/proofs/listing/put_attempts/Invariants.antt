use Rattle.std.proofs.Common.{◌≡◌, ◌≤◌, drop, true, vec_capacity}
use Rattle.rss_tables.specs.Attempts.{attempt_lt}
use Rattle.attempt_index.specs.Ascending.{ascends}
use Rattle.attempt_index.specs.Listing.{with_attempts}
use Rattle.attempt_index.proofs.listing.put_attempts.Given as goal

-- the list so far, with the attempts of the pairs left, is the whole
abbrev pub invariant-loop-pair : goal.invariant-loop-pair
invariant-loop-pair l = record {
  whole : with_attempts l.list.items (drop l.pair-index l.pairs) ≡ with_attempts l.fn.list.items l.pairs;
  ascending : ascends attempt_lt l.list.items ≡ true;
  room : vec_capacity l.fn.list ≤ vec_capacity l.list;
}
