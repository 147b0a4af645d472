-- What serving a request makes of shards and replicas, by the machine's own moves.
use Rattle.std.specs.Prelude.{ℕ, Bool, Option, Some, None, is_some}
use Rattle.rss_names.specs.declared.attempt.Attempt.{Attempt}
use Rattle.rss_names.specs.declared.service.Target.{Target}
use Rattle.rss_names.specs.declared.service.Target.TheVariants.{Shard, Replica}
use Rattle.rss_wire.specs.declared.messages.Outcome.{Outcome}
use Rattle.rss_wire.specs.declared.messages.Reply.{Reply}
use Rattle.rss_wire.specs.declared.messages.Request.{Request}
use Rattle.rss_tables.specs.ReplicaRow.{replica_reply}
use Rattle.rss_tables.specs.ShardRow.{shard_reply, decision_in}
use Rattle.rss_machine.specs.Moves.{serves_shard, serves_replica, notes_served}
use Rattle.rss_machine.specs.State.{State}
use Rattle.reg_world.specs.Served.{cells_in}
use Rattle.txn_world.specs.Shards.{shard_in}
use Rattle.world_parts.specs.Parts.{Stores}

-- a request is served at its target, at a reading with this latest moment; the message and the owner
-- are of other parts, so any will do
abbrev pub serves : Target → ℕ → Request → State → State
serves (Shard shard) latest r s = serves_shard s 0 shard latest r
serves (Replica service replica) latest r s = notes_served (serves_replica s 0 service replica r) 0 service r

-- the reply to a request that is served at its target
abbrev pub reply_at : Stores → Target → ℕ → Request → Reply
reply_at d (Shard shard) latest r = shard_reply (shard_in d.shards shard) latest r
reply_at d (Replica service replica) latest r = replica_reply (cells_in d.replicas service replica) r

-- the decision that a shard keeps for an attempt
abbrev pub decision_at : Stores → ℕ → Attempt → Option Outcome
decision_at d shard attempt = decision_in (shard_in d.shards shard).decisions attempt
