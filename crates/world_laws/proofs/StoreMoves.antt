-- What has to be shown of a predicate on what a step does to the clock, the net, the shards and the replicas:
-- that it is kept where a message is sent, meets a fate or is served, and where nothing of these changes.
use Rattle.std.proofs.Common.{◌≡◌, ℕ, ◌<◌, Bool, true, false, length, Option, Some, None}
use Rattle.std.specs.Option.{option_map}
use Rattle.std.specs.Prelude.{if◌then◌else◌}
use Rattle.std.proofs.lemmas.Bool.{ltb-true, and_parts}
use Rattle.rss_names.specs.declared.service.ServiceId.{ServiceId}
use Rattle.rss_names.specs.declared.service.Target.{Target}
use Rattle.rss_names.specs.declared.service.Target.TheVariants.{Shard, Replica}
use Rattle.rss_wire.specs.declared.message.Body.TheVariants as body
use Rattle.rss_wire.specs.declared.message.Fate.{Fate}
use Rattle.rss_wire.specs.declared.messages.Request.{Request}
use Rattle.rss_wire.specs.Messages.{message_at, is_sent}
use Rattle.rss_wire.specs.declared.refusal.NetRefusal.{NetRefusal}
use Rattle.rss_wire.specs.declared.refusal.NetRefusal.TheVariants as refused
use Rattle.rss_machine.specs.declared.step.StepRefusal.TheVariants as cause
use Rattle.world_laws.proofs.Looks.{some_is_not}
use Rattle.rss_tables.specs.Outs.{Out}
use Rattle.rss_machine.specs.Moves.{marks_message, sends_one, serves_shard, serves_replica, notes_served}
use Rattle.rss_machine.specs.State.{State}

-- clock, net, shards, replicas and marks are the same
pub record SameStores (s t : State) : Type 0 where
  pub steps : t.steps ≡ s.steps
  pub moment : t.moment ≡ s.moment
  pub moments : t.moments ≡ s.moments
  pub net : t.net ≡ s.net
  pub shards : t.shards ≡ s.shards
  pub replicas : t.replicas ≡ s.replicas
  pub marks : t.marks ≡ s.marks

-- a request that was sent comes to its target
pub record Serves (s : State) (m : ℕ) (r : Request) (target : Target) : Type 0 where
  pub numbered : 0 < m
  pub sent : m < length s.net
  pub asks : (message_at s.net m).body ≡ body.Request r
  pub to : (message_at s.net m).envelope.target ≡ target

-- a message that was sent and can be delivered, lost or repeated
pub record IsSent (s : State) (m : ℕ) : Type 0 where
  pub numbered : 0 < m
  pub sent : m < length s.net

pub by_sent : (s : State) (m : ℕ) (t : Bool) → is_sent s.net m ≡ t → (x : Option NetRefusal) → option_map cause.Message (if t then x else Some refused.NoSuchMessage) ≡ None → IsSent s m
by_sent s m true e x h = let p = and_parts _ _ e in record { numbered = ltb-true 0 m p.0; sent = ltb-true m (length s.net) p.1 }
by_sent s m false e x h = absurd (some_is_not _ h)

-- what has to be shown of a predicate: that these moves keep it
pub record StoreKeeps (P : State → Type 0) : Type 0 where
  pub fates : (s : State) (m : ℕ) (f : Fate) → P s → P (marks_message s m f)
  pub sends : (s : State) (o : ℕ) (out : Out) → P s → P (sends_one s o out)
  pub shards : (s : State) (m shard latest : ℕ) (r : Request) → Serves s m r (Shard shard) → P s → P (serves_shard s m shard latest r)
  pub replicas : (s : State) (m : ℕ) (service : ServiceId) (replica : ℕ) (r : Request) → Serves s m r (Replica service replica) → P s → P (notes_served (serves_replica s m service replica r) (message_at s.net m).envelope.owner service r)
  pub others : (s t : State) → SameStores s t → P s → P t
