use Rattle.std.proofs.Common.{◌≡◌, ◌++◌, drop}
use Rattle.rss_tables.specs.Versions.{unwritten}
use Rattle.shard_versions.specs.Rows.{store_of}
use Rattle.shard_versions.proofs.versions.Versions.new.Given as goal

-- the rows that are there, with the keys left, are the whole
abbrev pub invariant-loop-key : goal.invariant-loop-key
invariant-loop-key l = store_of l.rows.items ++ unwritten (drop l.key-index l.keys) ≡ unwritten l.keys
