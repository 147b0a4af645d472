use Rattle.std.proofs.Common.{◌≡◌}
use Rattle.shard_versions.specs.Rows.{store_of, cleared_upto}
use Rattle.shard_versions.proofs.versions.clear_all.Given as goal

-- the rows that were passed are cleared, and the others are as they were
abbrev pub invariant-loop-place : goal.invariant-loop-place
invariant-loop-place l = store_of l.rows ≡ cleared_upto l.place (store_of l.fn.rows)
