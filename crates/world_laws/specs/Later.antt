-- What never changes back, from one state of a run to every later one.
use Rattle.std.specs.Prelude.{◌≡◌, ℕ, ◌<◌, ◌≤◌, true, [], length, get_or, Some}
use Rattle.rss_names.specs.declared.attempt.Attempt.{Attempt}
use Rattle.rss_names.specs.declared.service.Key.{Key}
use Rattle.rss_names.specs.declared.service.ServiceId.{ServiceId}
use Rattle.carstamps.specs.declared.carstamp.Carstamp.{Carstamp}
use Rattle.carstamps.specs.Stamp.{stamp_le}
use Rattle.rss_wire.specs.Messages.{message_at}
use Rattle.rss_wire.specs.declared.messages.Outcome.{Outcome}
use Rattle.rss_tables.specs.ReplicaRow.{held_at}
use Rattle.rss_tables.specs.ShardRow.{decision_in}
use Rattle.rss_machine.specs.State.{State, shard_at, replicas_at}

-- what a replica of a service holds of a register: its stamp
abbrev pub stamp_in : State → ServiceId → ℕ → Key → Carstamp
stamp_in s service place key = (held_at (get_or (replicas_at s service) place []) key).stamp

-- decisions are never replaced, floors never fall, stamps never fall, and messages keep what they say
pub record Later (u s : State) : Type 0 where
  pub decisions : (n : ℕ) (a : Attempt) (o : Outcome) → decision_in (shard_at u n).decisions a ≡ Some o → decision_in (shard_at s n).decisions a ≡ Some o
  pub floors : (n : ℕ) → (shard_at u n).floor ≤ (shard_at s n).floor
  pub net : length u.net ≤ length s.net
  pub envelopes : (m : ℕ) → m < length u.net → (message_at s.net m).envelope ≡ (message_at u.net m).envelope
  pub bodies : (m : ℕ) → m < length u.net → (message_at s.net m).body ≡ (message_at u.net m).body
  pub stamps : (service : ServiceId) (place : ℕ) (key : Key) → stamp_le (stamp_in u service place key) (stamp_in s service place key) ≡ true
