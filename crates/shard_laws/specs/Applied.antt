-- What an attempt's commit makes of a shard.
use Rattle.std.specs.Prelude.{◌≡◌, ℕ, ◌<◌, ◌-◌, List, Some, None, IsTrue}
use Rattle.rss_names.specs.declared.service.Key.{Key}
use Rattle.rss_wire.specs.declared.messages.Version.{Version}
use Rattle.rss_tables.specs.Lines.{version_in}
use Rattle.rss_tables.specs.Locks.{has_key}
use Rattle.rss_tables.specs.ShardRow.{Shard}
use Rattle.shard_laws.specs.Committed.{written_value, keeps_key}
use Rattle.shard_laws.specs.Snapshots.{ClosesAt}

-- an attempt's commit at a time: what it read stood right below it, and what it wrote stands at it
pub record IsApplied (sh : Shard) (call time : ℕ) (reads : List Key) (shown : List (Key × Version)) (writes : List (Key × ℕ)) : Type 0 where
  pub below : (key : Key) (v : Version) → IsTrue (has_key reads key) → version_in shown key ≡ Some v
      → ClosesAt sh key (time - 1) v × (v.time < time)
  pub unwritten : (key : Key) (v : Version) → IsTrue (has_key reads key) → version_in shown key ≡ Some v
      → written_value writes key ≡ None → ClosesAt sh key time v
  pub written : (key : Key) (value : ℕ) → written_value writes key ≡ Some value → IsTrue (keeps_key sh.store key)
      → ClosesAt sh key time record { value = value; time = time; writer = call }
