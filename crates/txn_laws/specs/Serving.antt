-- What a shard serves from one state of a run to a later one.
use Rattle.std.specs.Prelude.{◌≡◌, ℕ, ◌<◌, ◌≤◌, ◌-◌, List, length}
use Rattle.rss_names.specs.declared.service.Target.TheVariants.{Shard}
use Rattle.rss_wire.specs.declared.message.Body.TheVariants as body
use Rattle.rss_wire.specs.declared.messages.Request.{Request}
use Rattle.rss_wire.specs.Messages.{message_at}
use Rattle.rss_machine.specs.State.{State, shard_at}
use Rattle.shard_laws.specs.Served.{served}
use Rattle.shard_laws.specs.Closed.{EachOf}

-- a request was sent to a shard, and is served at a reading that does not end before a moment
pub record WasSentTo (t : State) (shard moment : ℕ) (r : ℕ × Request) : Type 0 where
  pub message : ℕ
  pub numbered : 0 < message
  pub sent : message < length t.net
  pub asks : (message_at t.net message).body ≡ body.Request r.1
  pub number : ℕ
  pub target : (message_at t.net message).envelope.target ≡ Shard number
  pub place : number - 1 ≡ shard - 1
  pub not_before : moment ≤ r.0

-- what a shard keeps in a later state comes of what it kept in an earlier one by requests that were sent to
-- it, each served at a reading that does not end before the true moment of the earlier state
pub record ServesOn (s t : State) (shard : ℕ) : Type 0 where
  pub requests : List (ℕ × Request)
  pub by : served (shard_at s shard) requests ≡ shard_at t shard
  pub each : EachOf (WasSentTo t shard s.moment) requests
