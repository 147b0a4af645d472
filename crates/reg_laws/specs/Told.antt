-- What replies of replicas tell of what they held, and prove of what they hold.
use Rattle.std.specs.Prelude.{◌≡◌, ℕ, ◌-◌, ◌<◌, ◌≤◌, true, List, [], ◌∷◌, length, map, Option, Some, None}
use Rattle.std.specs.List.{All}
use Rattle.rss_names.specs.declared.service.Key.{Key}
use Rattle.rss_names.specs.declared.service.ServiceId.{ServiceId}
use Rattle.rss_names.specs.declared.service.Target.TheVariants.{Replica}
use Rattle.carstamps.specs.declared.carstamp.Carstamp.{Carstamp}
use Rattle.carstamps.specs.Stamp.{stamp_le}
use Rattle.causal_context.specs.declared.dep.Dep.{Dep}
use Rattle.rss_wire.specs.Messages.{message_at}
use Rattle.rss_wire.specs.declared.message.Body.TheVariants as body
use Rattle.rss_wire.specs.declared.messages.Reply.{Reply}
use Rattle.rss_wire.specs.declared.messages.Reply.TheVariants as reply
use Rattle.rss_wire.specs.declared.messages.Request.{Request}
use Rattle.rss_wire.specs.declared.messages.Request.TheVariants as request
use Rattle.rss_machine.specs.State.{State}
use Rattle.world_laws.specs.Later.{stamp_in}

-- a register with a stamp
pub record Stamped : Type 0 where
  pub key : Key
  pub stamp : Carstamp

-- what a request asks a replica to hold at least
abbrev pub asked_to_hold : Request → List Stamped
asked_to_hold (request.Store key value stamp writer) = record { key = key; stamp = stamp } ∷ []
asked_to_hold (request.Fix deps) = map (λ (dep : Dep). record { key = dep.key; stamp = dep.stamp }) deps
asked_to_hold (request.Ask key) = []
asked_to_hold (request.Stamp key) = []
asked_to_hold (request.Lock attempt coordinator reads writes) = []
asked_to_hold (request.Prepare attempt least earliest_end writes) = []
asked_to_hold (request.Decide attempt commit time) = []
asked_to_hold (request.Commit attempt commit_time) = []
asked_to_hold (request.Abort attempt) = []
asked_to_hold (request.Inquire attempt) = []
asked_to_hold (request.Release attempt time last) = []
asked_to_hold (request.Snapshot read_time least keys skip) = []

-- the register that a request asks about
abbrev pub asked_of : Request → List Key
asked_of (request.Ask key) = key ∷ []
asked_of (request.Stamp key) = key ∷ []
asked_of (request.Store key value stamp writer) = []
asked_of (request.Fix deps) = []
asked_of (request.Lock attempt coordinator reads writes) = []
asked_of (request.Prepare attempt least earliest_end writes) = []
asked_of (request.Decide attempt commit time) = []
asked_of (request.Commit attempt commit_time) = []
asked_of (request.Abort attempt) = []
asked_of (request.Inquire attempt) = []
asked_of (request.Release attempt time last) = []
asked_of (request.Snapshot read_time least keys skip) = []

-- what a reply shows of the register asked about
abbrev pub shown_stamp : Reply → Option Carstamp
shown_stamp (reply.Held value stamp writer) = Some stamp
shown_stamp reply.Fixed = None
shown_stamp reply.Stored = None
shown_stamp reply.Wounded = None
shown_stamp (reply.Granted shown) = None
shown_stamp (reply.Wait holders) = None
shown_stamp (reply.Prepared prepare_time) = None
shown_stamp (reply.Decided outcome) = None
shown_stamp reply.Done = None
shown_stamp (reply.Outcome outcome) = None
shown_stamp reply.Open = None
shown_stamp reply.Released = None
shown_stamp (reply.Blocked holders) = None
shown_stamp (reply.Values versions skipped) = None

-- a replica, counted from 0, holds at least this stamp of a register
abbrev pub HoldsAtLeast : State → ServiceId → ℕ → Stamped → Type 0
HoldsAtLeast s service place x = stamp_le x.stamp (stamp_in s service place x.key) ≡ true

-- what a replica's reply to a request proves of a state: it holds what it was asked to hold, and what it showed
pub record Proves (s : State) (service : ServiceId) (replica : ℕ) (q : Request) (answer : Reply) : Type 0 where
  pub holds : All (HoldsAtLeast s service (replica - 1)) (asked_to_hold q)
  pub shown : All (λ (key : Key). (stamp : Carstamp) → shown_stamp answer ≡ Some stamp → stamp_le stamp (stamp_in s service (replica - 1) key) ≡ true) (asked_of q)

-- what a replica's reply to a request tells of an earlier state: at least what it then held
pub record Tells (u : State) (service : ServiceId) (replica : ℕ) (q : Request) (answer : Reply) : Type 0 where
  pub told : All (λ (key : Key). (stamp : Carstamp) → shown_stamp answer ≡ Some stamp → stamp_le (stamp_in u service (replica - 1) key) stamp ≡ true) (asked_of q)

-- a reply of a replica that was sent, to a request that was
pub record IsReply (s : State) (m exchange : ℕ) (service : ServiceId) (replica : ℕ) (q : Request) (answer : Reply) : Type 0 where
  pub numbered : 0 < m
  pub sent : m < length s.net
  pub target : (message_at s.net m).envelope.target ≡ Replica service replica
  pub says : (message_at s.net m).body ≡ body.Reply answer
  pub of : (message_at s.net m).envelope.exchange ≡ exchange
  pub asked : (message_at s.net exchange).body ≡ body.Request q

-- every reply of a replica proves what it was asked to hold and what it showed
pub record RepliesProve (s : State) : Type 0 where
  pub each : (m exchange replica : ℕ) (service : ServiceId) (q : Request) (answer : Reply) → IsReply s m exchange service replica q answer → Proves s service replica q answer

-- every reply to a request that was sent after a state tells at least what the replica held in it
pub record RepliesTell (u s : State) : Type 0 where
  pub each : (m exchange replica : ℕ) (service : ServiceId) (q : Request) (answer : Reply) → IsReply s m exchange service replica q answer → length u.net ≤ exchange → Tells u service replica q answer
