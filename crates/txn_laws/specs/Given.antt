-- What a reply of a shard says of the shard now.
use Rattle.std.specs.Prelude.{◌≡◌, ℕ, ◌<◌, ◌≤◌, ◌-◌, List, length}
use Rattle.rss_names.specs.declared.service.Target.{Target}
use Rattle.rss_names.specs.declared.service.Target.TheVariants.{Shard}
use Rattle.rss_wire.specs.declared.message.Body.TheVariants as body
use Rattle.rss_wire.specs.declared.messages.Request.{Request}
use Rattle.rss_wire.specs.declared.messages.Reply.{Reply}
use Rattle.rss_wire.specs.Messages.{message_at}
use Rattle.rss_tables.specs.ShardRow.{Shard as ShardState, shard_after, shard_reply}
use Rattle.rss_machine.specs.State.{State, shard_at}
use Rattle.shard_laws.specs.Served.{served, IsReached}
use Rattle.shard_laws.specs.Closed.{EachOf}
use Rattle.txn_laws.specs.Serving.{WasSentTo}

-- a message is the reply of a target to a request
pub record IsReplyOf (s : State) (m : ℕ) (target : Target) (q : Request) (r : Reply) : Type 0 where
  pub numbered : 0 < m
  pub sent : m < length s.net
  pub says : (message_at s.net m).body ≡ body.Reply r
  pub asked : (message_at s.net (message_at s.net m).envelope.exchange).body ≡ body.Request q
  pub from : (message_at s.net m).envelope.target ≡ target

-- a message is the reply of a shard of the file to a request
pub record IsShardReply (s : State) (m shard : ℕ) (q : Request) (r : Reply) : Type 0 where
  pub is : IsReplyOf s m (Shard shard) q r
  pub inside : shard - 1 < length s.shards

-- a shard gave a reply in a state that it had come to, and what it keeps now comes of what it kept then, by
-- requests that were sent to it. Where the request was sent after an earlier state of the run, it was served
-- at a reading that does not end before the true moment of that state
pub record WasGiven (u s : State) (shard exchange : ℕ) (q : Request) (r : Reply) : Type 0 where
  pub before : ShardState
  pub reached : IsReached before
  pub latest : ℕ
  pub reply : r ≡ shard_reply before latest q
  pub requests : List (ℕ × Request)
  pub by : served (shard_after before latest q) requests ≡ shard_at s shard
  pub each : EachOf (WasSentTo s shard 0) requests
  pub not_before : length u.net ≤ exchange → u.moment ≤ latest

-- each reply of a shard was given so
pub record RepliesGiven (u s : State) : Type 0 where
  pub each : (m shard : ℕ) (q : Request) (r : Reply) → IsShardReply s m shard q r
      → WasGiven u s shard (message_at s.net m).envelope.exchange q r
