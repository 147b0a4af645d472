-- The shards of all transaction services.
use Rattle.std.specs.Prelude.{ℕ, ◌-◌, ◌==◌, List, [], ◌∷◌, get_or, map, set, Option, Some, None, if◌then◌else◌}
use Rattle.rss_names.specs.declared.service.Key.{Key}
use Rattle.rss_names.specs.declared.service.ServiceId.{ServiceId}
use Rattle.rss_wire.specs.declared.messages.Outcome.{Outcome}
use Rattle.rss_wire.specs.declared.messages.Request.{Request}
use Rattle.rss_tables.specs.ShardRow.{Shard, opening_shard, shard_after}
use Rattle.rss_machine.specs.Places.{committed_time}
use Rattle.txn_shard.specs.ShardView.{ShardRoom, ShardView}

-- the shards that are seen with their room
abbrev pub shards_in : List ShardView → List Shard
shards_in views = map (λ (v : ShardView). v.shard) views

-- the shard of a number
abbrev pub shard_in : List Shard → ℕ → Shard
shard_in shards n = get_or shards (n - 1) (opening_shard [])

-- no room for anything
abbrev pub no_room : ShardRoom
no_room = record {
  locks = None;
  prepared = None;
  versions = [];
  decisions = 0;
  released = 0;
  wounded = 0;
  shown = 0;
  writes = 0;
  blocking = 0;
  skipped = 0;
}

-- no shard
abbrev pub no_view : ShardView
no_view = record { shard = opening_shard []; room = no_room }

-- the shard of a number with its room
abbrev pub view_in : List ShardView → ℕ → ShardView
view_in views n = get_or views (n - 1) no_view

-- all shards after one of them has served a request
abbrev pub served_by : List Shard → ℕ → ℕ → Request → List Shard
served_by shards n latest r = set shards (n - 1) (shard_after (shard_in shards n) latest r)

-- the time of a decision that is kept, if it is a commit
abbrev pub time_kept : Option Outcome → Option ℕ
time_kept None = None
time_kept (Some outcome) = committed_time outcome

-- the key of an index, where its home is the shard of a number
abbrev pub key_at : ServiceId → ℕ → ℕ → ℕ → List Key
key_at service number home index = if home == number then record { service = service; index = index } ∷ [] else []
