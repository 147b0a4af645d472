-- No stamp has a number above a bound: in requests and replies, heard or stored in rounds, held by replicas, depended on.
use Rattle.std.specs.Prelude.{◌≡◌, ℕ, ◌≤◌, ⊤, get_or, Option, Some, None, List}
use Rattle.std.specs.List.{All}
use Rattle.rss_names.specs.declared.service.Key.{Key}
use Rattle.rss_names.specs.declared.service.ServiceId.{ServiceId}
use Rattle.rss_names.specs.declared.service.Target.{Target}
use Rattle.rss_names.specs.declared.service.Target.TheVariants.{Shard, Replica}
use Rattle.causal_context.specs.declared.dep.Dep.{Dep}
use Rattle.rss_wire.specs.declared.message.Body.{Body}
use Rattle.rss_wire.specs.declared.message.Body.TheVariants as body
use Rattle.rss_wire.specs.declared.messages.RegReply.{RegReply}
use Rattle.rss_wire.specs.declared.messages.Reply.{Reply}
use Rattle.rss_wire.specs.declared.messages.Reply.TheVariants as reply
use Rattle.rss_wire.specs.declared.messages.Request.{Request}
use Rattle.rss_wire.specs.declared.messages.Request.TheVariants.{Lock, Prepare, Decide, Commit, Abort, Inquire, Release, Snapshot, Fix, Ask, Stamp, Store}
use Rattle.rss_wire.specs.Messages.{message_at}
use Rattle.rss_tables.specs.RegisterSession.{RegSession, found_cell}
use Rattle.rss_tables.specs.ReplicaRow.{held_at}
use Rattle.rss_tables.specs.declared.register_session.RegEnd.{RegEnd}
use Rattle.rss_tables.specs.declared.register_session.RegEnd.TheVariants as ends
use Rattle.rss_tables.specs.declared.register_session.RegPhase.{RegPhase}
use Rattle.rss_tables.specs.declared.register_session.RegPhase.TheVariants as phase
use Rattle.rss_tables.specs.declared.register_session.RegWork.{RegWork}
use Rattle.rss_tables.specs.declared.register_session.RegWork.TheVariants as work
use Rattle.rss_machine.specs.Session.{Session}
use Rattle.rss_machine.specs.State.{State, owner_at, cells_at}
use Rattle.rss_machine.specs.declared.session.Session.TheVariants as session
use Rattle.world_laws.specs.Contexts.{AllDeps}

-- of a dependency, and of dependencies
abbrev pub DepUpTo : ℕ → Dep → Type 0
DepUpTo b dep = dep.stamp.number ≤ b

abbrev pub DepsUpTo : ℕ → List Dep → Type 0
DepsUpTo b deps = All (DepUpTo b) deps

-- of a request and of a reply
abbrev pub RequestStampsUpTo : ℕ → Request → Type 0
RequestStampsUpTo b (Store key value stamp writer) = stamp.number ≤ b
RequestStampsUpTo b (Fix deps) = DepsUpTo b deps
RequestStampsUpTo b (Ask key) = ⊤
RequestStampsUpTo b (Stamp key) = ⊤
RequestStampsUpTo b (Lock attempt coordinator reads writes) = ⊤
RequestStampsUpTo b (Prepare attempt least earliest_end writes) = ⊤
RequestStampsUpTo b (Decide attempt commit time) = ⊤
RequestStampsUpTo b (Commit attempt commit_time) = ⊤
RequestStampsUpTo b (Abort attempt) = ⊤
RequestStampsUpTo b (Inquire attempt) = ⊤
RequestStampsUpTo b (Release attempt time last) = ⊤
RequestStampsUpTo b (Snapshot read_time least keys skip) = ⊤

abbrev pub ReplyStampsUpTo : ℕ → Reply → Type 0
ReplyStampsUpTo b (reply.Held value stamp writer) = stamp.number ≤ b
ReplyStampsUpTo b reply.Wounded = ⊤
ReplyStampsUpTo b (reply.Granted shown) = ⊤
ReplyStampsUpTo b (reply.Wait holders) = ⊤
ReplyStampsUpTo b (reply.Prepared prepare_time) = ⊤
ReplyStampsUpTo b (reply.Decided outcome) = ⊤
ReplyStampsUpTo b reply.Done = ⊤
ReplyStampsUpTo b (reply.Outcome outcome) = ⊤
ReplyStampsUpTo b reply.Open = ⊤
ReplyStampsUpTo b reply.Released = ⊤
ReplyStampsUpTo b (reply.Blocked holders) = ⊤
ReplyStampsUpTo b (reply.Values versions skipped) = ⊤
ReplyStampsUpTo b reply.Fixed = ⊤
ReplyStampsUpTo b reply.Stored = ⊤

-- of a message to a target: a request counts where it is for a replica
abbrev pub AskedStampsUpTo : ℕ → Target → Request → Type 0
AskedStampsUpTo b (Shard shard) r = ⊤
AskedStampsUpTo b (Replica service replica) r = RequestStampsUpTo b r

abbrev pub BodyStampsUpTo : ℕ → Target → Body → Type 0
BodyStampsUpTo b target (body.Request r) = AskedStampsUpTo b target r
BodyStampsUpTo b target (body.Reply r) = ReplyStampsUpTo b r

-- of the work and of the phase of a register session
abbrev pub WorkStampsUpTo : ℕ → RegWork → Type 0
WorkStampsUpTo b (work.Fix deps) = DepsUpTo b deps
WorkStampsUpTo b (work.Read key) = ⊤
WorkStampsUpTo b (work.Write key value) = ⊤

abbrev pub GivenUpTo : ℕ → Option Dep → Type 0
GivenUpTo b None = ⊤
GivenUpTo b (Some dep) = DepUpTo b dep

abbrev pub EndStampsUpTo : ℕ → RegEnd → Type 0
EndStampsUpTo b (ends.Read cell dep) = (cell.stamp.number ≤ b) × GivenUpTo b dep
EndStampsUpTo b (ends.Written stamp) = stamp.number ≤ b
EndStampsUpTo b ends.Fixed = ⊤

abbrev pub PhaseStampsUpTo : ℕ → RegPhase → Type 0
PhaseStampsUpTo b phase.Fixing = ⊤
PhaseStampsUpTo b phase.Asking = ⊤
PhaseStampsUpTo b phase.Stamping = ⊤
PhaseStampsUpTo b (phase.Storing stamp) = stamp.number ≤ b
PhaseStampsUpTo b (phase.Done end) = EndStampsUpTo b end

-- of a register session: its work, what its round has heard, and its phase
pub record RoundsUpTo (b : ℕ) (r : RegSession) : Type 0 where
  pub of_work : WorkStampsUpTo b r.work
  pub heard : (place : ℕ) → (found_cell (get_or r.round.heard place None)).stamp.number ≤ b
  pub of_phase : PhaseStampsUpTo b r.phase

abbrev pub SessionStampsUpTo : ℕ → Session → Type 0
SessionStampsUpTo b (session.Register r) = RoundsUpTo b r
SessionStampsUpTo b (session.Fixing r) = RoundsUpTo b r
SessionStampsUpTo b session.Idle = ⊤
SessionStampsUpTo b (session.Transaction t) = ⊤
SessionStampsUpTo b (session.Snapshot t) = ⊤
SessionStampsUpTo b (session.Settling attempt shards) = ⊤

-- of a state
pub record StampsUpTo (b : ℕ) (s : State) : Type 0 where
  pub told : (m : ℕ) → BodyStampsUpTo b (message_at s.net m).envelope.target (message_at s.net m).body
  pub sessions : (o : ℕ) → SessionStampsUpTo b (owner_at s o).session
  pub held : (service : ServiceId) (replica : ℕ) (key : Key) → (held_at (cells_at s service replica) key).stamp.number ≤ b
  pub depended : AllDeps (DepUpTo b) s
