-- Targets that have a place of their own in a list of losses, and messages that go to such targets alone.
use Rattle.std.specs.Prelude.{◌≡◌, ℕ, ◌<◌, ◌≤◌, length}
use Rattle.rss_names.specs.declared.service.ServiceId.TheVariants.{Txn, Reg}
use Rattle.rss_names.specs.declared.service.Target.{Target}
use Rattle.rss_names.specs.declared.service.Target.TheVariants.{Shard, Replica}
use Rattle.pipeline_lang.specs.Config.{replicas_of}
use Rattle.pipeline_lang.specs.declared.config.Config.{Config}
use Rattle.rss_wire.specs.Messages.{message_at}
use Rattle.rss_machine.specs.State.{State}

-- a register service whose replicas have places: one of eight, with seven replicas at most
pub record IsService (c : Config) (number : ℕ) : Type 0 where
  pub from_one : 1 ≤ number
  pub few : number ≤ 8
  pub replicas : replicas_of c (Reg number) ≤ 7

-- one of the seven places of a service's replicas
pub record IsReplica (c : Config) (number replica : ℕ) : Type 0 where
  pub service : IsService c number
  pub from_one : 1 ≤ replica
  pub few : replica ≤ 7

-- a shard that has a place: one of sixteen
pub record IsShard (shard : ℕ) : Type 0 where
  pub from_one : 1 ≤ shard
  pub few : shard ≤ 16

-- a target has a place of its own
abbrev pub HasPlace : Config → Target → Type 0
HasPlace c (Shard shard) = IsShard shard
HasPlace c (Replica (Reg number) replica) = IsReplica c number replica
HasPlace c (Replica (Txn number) replica) = ⊥

-- what a file gives: one try at least, and replicas to eight register services alone, to each seven at most
pub record GivesPlaces (c : Config) : Type 0 where
  pub tries : 1 ≤ c.tries
  pub replicas : (number : ℕ) → replicas_of c (Reg number) ≤ 7
  pub numbers : (number : ℕ) → 1 ≤ replicas_of c (Reg number) → (1 ≤ number) × (number ≤ 8)
  pub others : (number : ℕ) → replicas_of c (Txn number) ≡ 0

-- every message between an owner and a shard is with one of sixteen
abbrev pub ShardsHavePlaces : State → Type 0
ShardsHavePlaces s =
    (m shard : ℕ) → 0 < m → m < length s.net → (message_at s.net m).envelope.target ≡ Shard shard → IsShard shard
