-- Exchanges: every message that was sent is a request, or a reply to an earlier one that fits it.
use Rattle.std.specs.Prelude.{◌≡◌, ℕ, ◌<◌, Bool, true, false, List, length}
use Rattle.rss_names.specs.declared.service.Target.{Target}
use Rattle.rss_names.specs.declared.service.Target.TheVariants.{Shard, Replica}
use Rattle.rss_wire.specs.declared.message.Body.{Body}
use Rattle.rss_wire.specs.declared.message.Body.TheVariants as body
use Rattle.rss_wire.specs.declared.messages.RegReply.{RegReply}
use Rattle.rss_wire.specs.declared.messages.Request.{Request}
use Rattle.rss_wire.specs.declared.messages.Reply.{Reply}
use Rattle.rss_wire.specs.declared.message.Message.{Message}
use Rattle.rss_wire.specs.Messages.{message_at}
use Rattle.rss_tables.specs.ReplicaRow.{replica_reply}
use Rattle.rss_tables.specs.ShardRow.{Shard as ShardState, shard_reply}

-- whether a body is a request
abbrev pub is_request : Body → Bool
is_request (body.Request r) = true
is_request (body.Reply r) = false

-- whether a target is a replica
abbrev pub is_replica : Target → Bool
is_replica (Shard shard) = false
is_replica (Replica service replica) = true

-- a shard in some state, at some reading, gives this reply to a request
pub record ShardReplies (q : Request) (r : Reply) : Type 0 where
  pub shard : ShardState
  pub latest : ℕ
  pub reply : r ≡ shard_reply shard latest q

-- a replica that holds something gives this reply to a request
pub record ReplicaReplies (q : Request) (r : Reply) : Type 0 where
  pub cells : List RegReply
  pub reply : r ≡ replica_reply cells q

-- a reply is one that the target's row gives to a request
abbrev pub Fits : Target → Request → Reply → Type 0
Fits (Shard shard) q r = ShardReplies q r
Fits (Replica service replica) q r = ReplicaReplies q r

-- a message m, with the message of its exchange: it has its number; a request is its own exchange; a
-- reply belongs to an earlier request's, has its owner, stage, target and ordinal, and fits it
pub record IsSound (m : ℕ) (x asked : Message) : Type 0 where
  pub number : x.envelope.number ≡ m
  pub flag : x.envelope.request ≡ is_request x.body
  pub itself : is_request x.body ≡ true → x.envelope.exchange ≡ m
  pub earlier : is_request x.body ≡ false → x.envelope.exchange < m
  pub some : 0 < x.envelope.exchange
  pub request : is_request asked.body ≡ true
  pub owner : x.envelope.owner ≡ asked.envelope.owner
  pub stage : x.envelope.stage ≡ asked.envelope.stage
  pub target : x.envelope.target ≡ asked.envelope.target
  pub ordinal : x.envelope.ordinal ≡ asked.envelope.ordinal
  pub fits : (q : Request) (r : Reply) → x.body ≡ body.Reply r → asked.body ≡ body.Request q → Fits x.envelope.target q r

-- every message that was sent is sound
abbrev pub Exchanges : List Message → Type 0
Exchanges net = (m : ℕ) → 0 < m → m < length net →
    IsSound m (message_at net m) (message_at net (message_at net m).envelope.exchange)
