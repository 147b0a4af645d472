-- The shards and replicas as callers see them, and what room a request needs.
use Rattle.std.specs.Prelude.{ℕ, ◌≤◌, Bool, true, List, length}
use Rattle.rss_names.specs.declared.service.Target.{Target}
use Rattle.rss_names.specs.declared.service.Target.TheVariants.{Shard, Replica}
use Rattle.rss_wire.specs.declared.messages.Request.{Request}
use Rattle.reg_world.specs.Rows.{has_room_for}
use Rattle.rss_tables.specs.ShardRow.{Shard as ShardRow}
use Rattle.txn_shard.specs.ShardView.{ShardView, has_room, has_small_times}
use Rattle.txn_world.specs.Shards.{view_in}
use Rattle.world_parts.specs.Parts.{Stores}

-- for how much there is room: what each shard has, and of which registers one more mark can be kept
pub record StoresRoom : Type 0 where
  pub shards : List ShardView
  pub registers : List Bool

-- what shards and replicas keep, with the marks, and for how much there is room
pub record StoresView : Type 0 where
  pub stores : Stores
  pub room : StoresRoom

-- whether there is room for all that a request needs where it is served
unfoldable pub is_ready_for : StoresView → Target → Request → Bool
is_ready_for v (Shard shard) r = has_room (view_in v.room.shards shard) r
is_ready_for v (Replica service replica) r = has_room_for v.room.registers r

-- a target is one of these shards, or a replica
abbrev pub IsThere : List ShardRow → Target → Type 0
IsThere shards (Shard shard) = shard ≤ length shards
IsThere shards (Replica service replica) = Unit {0}

-- whether the times that a request to a target names are small enough to be followed by others
abbrev pub is_timely : Target → Request → Bool
is_timely (Shard shard) r = has_small_times r
is_timely (Replica service replica) r = true
