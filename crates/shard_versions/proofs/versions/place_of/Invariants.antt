use Rattle.std.proofs.Common.{◌≡◌, ◌+◌, drop}
use Rattle.shard_versions.specs.Rows.{place_in}
use Rattle.shard_versions.proofs.versions.place_of.Given as goal

-- the key has no row among those that were passed
abbrev pub invariant-loop-place : goal.invariant-loop-place
invariant-loop-place l = place_in l.rows l.key ≡ l.place + place_in (drop l.place l.rows) l.key
