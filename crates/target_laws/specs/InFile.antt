-- Coordinators that are shards of the file: those of who holds locks or is prepared, those that replies name, and those that
-- lines wait for.
use Rattle.std.specs.Prelude.{◌≡◌, ⊤, ℕ, ◌<◌, ◌≤◌, List, [], ◌∷◌, length}
use Rattle.rss_names.specs.declared.service.Target.{Target}
use Rattle.rss_names.specs.declared.service.Target.TheVariants.{Shard, Replica}
use Rattle.pipeline_lang.specs.declared.config.Config.{Config}
use Rattle.rss_wire.specs.Messages.{message_at}
use Rattle.rss_wire.specs.declared.message.Body.{Body}
use Rattle.rss_wire.specs.declared.message.Body.TheVariants as body
use Rattle.rss_wire.specs.declared.message.Message.{Message}
use Rattle.rss_wire.specs.declared.messages.Holder.{Holder}
use Rattle.rss_wire.specs.declared.messages.Reply.{Reply}
use Rattle.rss_wire.specs.declared.messages.Reply.TheVariants as reply
use Rattle.rss_wire.specs.declared.messages.Request.{Request}
use Rattle.rss_wire.specs.declared.messages.Request.TheVariants.{Lock, Prepare, Decide, Commit, Abort, Inquire, Release, Snapshot, Fix, Ask, Stamp, Store}
use Rattle.rss_tables.specs.Lines.{Line}
use Rattle.rss_tables.specs.Locks.{LockHolder}
use Rattle.rss_tables.specs.Outs.{Out}
use Rattle.rss_tables.specs.Prepared.{PreparedWriter}
use Rattle.rss_tables.specs.ShardRow.{Shard as ShardState}
use Rattle.rss_tables.specs.SnapshotSession.{SnapSession}
use Rattle.rss_tables.specs.TransactionSession.{TxnSession}
use Rattle.rss_tables.specs.declared.lines.LineState.{LineState}
use Rattle.rss_tables.specs.declared.lines.LineState.TheVariants as state
use Rattle.rss_machine.specs.State.{State, owner_at, shard_at}
use Rattle.rss_machine.specs.declared.session.Session.TheVariants as session

-- a shard of the file
abbrev pub InFile : Config → ℕ → Type 0
InFile c shard = (1 ≤ shard) × (shard ≤ length c.shard_services)

-- who is named, who holds locks, and who is prepared
abbrev pub HoldersIn : Config → List Holder → Type 0
HoldersIn c [] = ⊤
HoldersIn c (h ∷ holders) = InFile c h.coordinator × HoldersIn c holders

abbrev pub LocksIn : Config → List LockHolder → Type 0
LocksIn c [] = ⊤
LocksIn c (h ∷ holders) = InFile c h.coordinator × LocksIn c holders

abbrev pub PreparedIn : Config → List PreparedWriter → Type 0
PreparedIn c [] = ⊤
PreparedIn c (p ∷ prepared) = InFile c p.coordinator × PreparedIn c prepared

pub record ShardIn (c : Config) (sh : ShardState) : Type 0 where
  pub locks : LocksIn c sh.locks.holders
  pub prepared : PreparedIn c sh.prepared

-- what a request and a reply name
abbrev pub RequestIn : Config → Request → Type 0
RequestIn c (Lock attempt coordinator reads writes) = InFile c coordinator
RequestIn c (Prepare attempt least earliest_end writes) = ⊤
RequestIn c (Decide attempt commit time) = ⊤
RequestIn c (Commit attempt commit_time) = ⊤
RequestIn c (Abort attempt) = ⊤
RequestIn c (Inquire attempt) = ⊤
RequestIn c (Release attempt time last) = ⊤
RequestIn c (Snapshot read_time least keys skip) = ⊤
RequestIn c (Fix deps) = ⊤
RequestIn c (Ask key) = ⊤
RequestIn c (Stamp key) = ⊤
RequestIn c (Store key value stamp writer) = ⊤

abbrev pub ReplyIn : Config → Reply → Type 0
ReplyIn c (reply.Wait holders) = HoldersIn c holders
ReplyIn c (reply.Blocked holders) = HoldersIn c holders
ReplyIn c reply.Wounded = ⊤
ReplyIn c (reply.Granted shown) = ⊤
ReplyIn c (reply.Prepared time) = ⊤
ReplyIn c (reply.Decided outcome) = ⊤
ReplyIn c reply.Done = ⊤
ReplyIn c (reply.Outcome outcome) = ⊤
ReplyIn c reply.Open = ⊤
ReplyIn c reply.Released = ⊤
ReplyIn c (reply.Values versions skipped) = ⊤
ReplyIn c reply.Fixed = ⊤
ReplyIn c (reply.Held value stamp writer) = ⊤
ReplyIn c reply.Stored = ⊤

abbrev pub BodyIn : Config → Body → Type 0
BodyIn c (body.Request r) = RequestIn c r
BodyIn c (body.Reply r) = ReplyIn c r

-- a message with a shard is with one of the file, and names such alone
abbrev pub MessageIn : Config → Message → Type 0
MessageIn c x = (shard : ℕ) → x.envelope.target ≡ Shard shard → InFile c shard × BodyIn c x.body

-- a request that is to be sent likewise
abbrev pub TargetIn : Config → Target → Type 0
TargetIn c (Shard shard) = InFile c shard
TargetIn c (Replica service replica) = ⊤

pub record OutIn (c : Config) (out : Out) : Type 0 where
  pub target : TargetIn c out.target
  pub request : RequestIn c out.request

abbrev pub OutsIn : Config → List Out → Type 0
OutsIn c [] = ⊤
OutsIn c (out ∷ outs) = OutIn c out × OutsIn c outs

-- who a line waits for
abbrev pub StateIn : Config → LineState → Type 0
StateIn c (state.Inquiring holder) = InFile c holder.coordinator
StateIn c (state.Resolving holder outcome) = InFile c holder.coordinator
StateIn c (state.Asleep holder) = InFile c holder.coordinator
StateIn c state.Awaiting = ⊤
StateIn c state.Answered = ⊤
StateIn c state.Dropped = ⊤

-- lines on shards of the file, which wait for coordinators of it
pub record LineIn (c : Config) (l : Line) : Type 0 where
  pub shard : InFile c l.shard
  pub waits : StateIn c l.state

abbrev pub LinesIn : Config → List Line → Type 0
LinesIn c [] = ⊤
LinesIn c (l ∷ lines) = LineIn c l × LinesIn c lines

-- all of it in a state
pub record TargetsIn (c : Config) (s : State) : Type 0 where
  pub messages : (m : ℕ) → 0 < m → m < length s.net → MessageIn c (message_at s.net m)
  pub shards : (n : ℕ) → ShardIn c (shard_at s n)
  pub txn : (o : ℕ) (x : TxnSession) → (owner_at s o).session ≡ session.Transaction x → LinesIn c x.lines
  pub snap : (o : ℕ) (x : SnapSession) → (owner_at s o).session ≡ session.Snapshot x → LinesIn c x.lines
