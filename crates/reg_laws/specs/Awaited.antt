-- What owners await: each current exchange of a round is that of its own request.
use Rattle.std.specs.Prelude.{◌≡◌, ℕ, ◌<◌, ◌⊎◌, ⊤, List, length, get_or, Some, None}
use Rattle.rss_names.specs.declared.service.Target.TheVariants.{Replica}
use Rattle.rss_wire.specs.Messages.{message_at}
use Rattle.rss_wire.specs.declared.message.Body.TheVariants as body
use Rattle.rss_wire.specs.declared.message.Message.{Message}
use Rattle.rss_wire.specs.declared.messages.Request.{Request}
use Rattle.rss_wire.specs.declared.messages.Reply.{Reply}
use Rattle.rss_tables.specs.Outs.{line_slot, slot_replica}
use Rattle.rss_tables.specs.RegisterSession.{RegSession, phase_request}
use Rattle.rss_machine.specs.Effect.{least_shard}
use Rattle.rss_machine.specs.Session.{Session}
use Rattle.rss_machine.specs.Slots.{slot_in}
use Rattle.rss_machine.specs.State.{State, owner_at}
use Rattle.rss_machine.specs.declared.session.Session.TheVariants as session
use Rattle.world_laws.specs.Exchanges.{ReplicaReplies}

-- an exchange is that of an owner's request of a round's phase to the replica of a slot
pub record IsAsked (net : List Message) (o : ℕ) (r : RegSession) (slot exchange : ℕ) : Type 0 where
  pub sent : exchange < length net
  pub owner : (message_at net exchange).envelope.owner ≡ o
  pub target : (message_at net exchange).envelope.target ≡ Replica r.service (slot_replica slot)
  pub request : Request
  pub says : (message_at net exchange).body ≡ body.Request request
  pub within : slot < r.round.replicas
  pub of_phase : phase_request r.call r.work r.phase ≡ Some request

-- what an owner awaits in a slot: with a round under way its own request, with nothing under way
-- nothing, and a stub that settles an attempt the coordinator alone
abbrev pub IsAwaited : List Message → ℕ → Session → ℕ → ℕ → Type 0
IsAwaited net o session.Idle slot exchange = ⊥
IsAwaited net o (session.Fixing r) slot exchange = IsAsked net o r slot exchange
IsAwaited net o (session.Register r) slot exchange = IsAsked net o r slot exchange
IsAwaited net o (session.Transaction t) slot exchange = ⊤
IsAwaited net o (session.Snapshot t) slot exchange = ⊤
IsAwaited net o (session.Settling attempt shards) slot exchange = slot ≡ line_slot (least_shard shards)

-- each current exchange of each owner is awaited
pub record CurrentsAwaited (s : State) : Type 0 where
  pub awaited : (o slot exchange : ℕ) → get_or (owner_at s o).currents slot None ≡ Some exchange → IsAwaited s.net o (owner_at s o).session slot exchange

-- a reply answers an owner's request of a round's phase to the replica of a slot, as that replica's row does
pub record IsOwnReply (net : List Message) (o : ℕ) (r : RegSession) (slot : ℕ) (answer : Reply) : Type 0 where
  pub exchange : ℕ
  pub asked : IsAsked net o r slot exchange
  pub fits : ReplicaReplies asked.request answer

-- a round is what an owner has under way
abbrev pub IsRound : Session → RegSession → Type 0
IsRound x r = (x ≡ session.Fixing r) ⊎ (x ≡ session.Register r)

-- each reply that is heard in a round answers the round's own request
pub record RepliesAreOwn (s : State) : Type 0 where
  pub own : (m o slot : ℕ) (r : RegSession) (answer : Reply) → 0 < m → m < length s.net → (message_at s.net m).envelope.owner ≡ o → (message_at s.net m).body ≡ body.Reply answer
      → slot_in (owner_at s o).currents (message_at s.net m).envelope.exchange ≡ Some slot → IsRound (owner_at s o).session r → IsOwnReply s.net o r slot answer
