-- What a session sends in one turn, and where the exchange of each request is kept while it is current.
use Rattle.std.specs.Prelude.{ℕ, ◌+◌, ◌-◌, Bool, false, List, [], ◌∷◌, ◌++◌, map, Option, Some, None}
use Rattle.rss_names.specs.declared.service.Target.{Target}
use Rattle.rss_names.specs.declared.service.Target.TheVariants.{Shard, Replica}
use Rattle.rss_wire.specs.declared.messages.Request.{Request}

-- a request to a target; with a slot, its exchange becomes the current one of that slot, and its
-- reply is awaited; without one, no reply to it is awaited
pub record Out : Type 0 where
  pub slot : Option ℕ
  pub target : Target
  pub request : Request

-- the slot of a replica in a round; replicas are numbered from 1 to 7
abbrev pub replica_slot : ℕ → ℕ
replica_slot replica = replica - 1

-- the slot of a line, by its shard; shards are numbered from 1 to 16
abbrev pub line_slot : ℕ → ℕ
line_slot shard = shard + 6

-- how many slots there are
abbrev pub slot_count : ℕ
slot_count = 23

-- the replica whose slot this is, and the shard whose line's slot this is
abbrev pub slot_replica : ℕ → ℕ
slot_replica slot = slot + 1

abbrev pub slot_shard : ℕ → ℕ
slot_shard slot = slot - 6

-- the slot of a target: of a replica in a round, and of a shard as its own line
abbrev pub target_slot : Target → ℕ
target_slot (Shard shard) = line_slot shard
target_slot (Replica service replica) = replica_slot replica

-- requests whose replies are awaited, each in the slot of its target
abbrev pub awaited : List (Target × Request) → List Out
awaited requests = map (λ (r : Target × Request). record { slot = Some (target_slot r.0); target = r.0; request = r.1 }) requests

-- a request for a line, to the line's own shard
abbrev pub line_out : ℕ → Request → Out
line_out shard request = record { slot = Some (line_slot shard); target = Shard shard; request = request }

-- a request to a shard to which no reply is awaited
abbrev pub told : ℕ → Request → Out
told shard request = record { slot = None; target = Shard shard; request = request }
