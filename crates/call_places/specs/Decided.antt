-- The commit time of a call by what the coordinator of its present attempt keeps.
use Rattle.std.specs.Prelude.{◌≡◌, ℕ, ◌≤◌, length, Option, Some, None}
use Rattle.rss_wire.specs.declared.messages.Holder.{Holder}
use Rattle.rss_tables.specs.ShardRow.{decision_in}
use Rattle.rss_machine.specs.Session.{Session}
use Rattle.rss_machine.specs.State.{State, shard_at}
use Rattle.owner_turns.specs.Asked.{attempt_under}
use Rattle.txn_world.specs.Shards.{time_kept}

abbrev pub decided_by : State → Option Holder → Option ℕ
decided_by s None = None
decided_by s (Some h) = time_kept (decision_in (shard_at s h.coordinator).decisions h.attempt)

abbrev pub decided_for : State → Session → Option ℕ
decided_for s x = decided_by s (attempt_under x)

-- the coordinator of a call's present attempt is a shard that is there
abbrev pub CoordinatorThere : State → Session → Type 0
CoordinatorThere s x = (h : Holder) → attempt_under x ≡ Some h → h.coordinator ≤ length s.shards
