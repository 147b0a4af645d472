use Rattle.std.proofs.Common.{◌≡◌, ◌+◌, ◌≤◌, length, drop}
use Rattle.indexmap.specs.IndexSet.{spare}
use Rattle.rss_tables.specs.Locks.{with_tombs}
use Rattle.shard_locks.proofs.buried.bury_all.Given as goal

-- those that joined, with those left, are the whole; and there is room for those left
abbrev pub invariant-loop-attempt : goal.invariant-loop-attempt
invariant-loop-attempt l =
    (with_tombs l.tombs.keys (drop l.attempt-index l.attempts) ≡ with_tombs l.fn.tombs.keys l.attempts)
    × (length l.attempts ≤ spare l.tombs + l.attempt-index)
