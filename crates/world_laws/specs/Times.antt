-- No time is above a bound: in requests and replies, in sessions, in works, in contexts, in shards.
use Rattle.std.specs.Prelude.{◌≡◌, ℕ, ◌+◌, ◌≤◌, ⊤, Option, Some, None, List}
use Rattle.std.specs.List.{All}
use Rattle.rss_names.specs.declared.attempt.Attempt.{Attempt}
use Rattle.rss_names.specs.declared.service.Key.{Key}
use Rattle.rss_names.specs.declared.service.ServiceId.{ServiceId}
use Rattle.causal_context.specs.LeastTimes.{least_of}
use Rattle.causal_context.specs.Seen.{Seen}
use Rattle.rss_wire.specs.declared.message.Body.{Body}
use Rattle.rss_wire.specs.declared.message.Body.TheVariants as body
use Rattle.rss_wire.specs.declared.messages.Outcome.{Outcome}
use Rattle.rss_wire.specs.declared.messages.Outcome.TheVariants.{Committed, Aborted}
use Rattle.rss_wire.specs.declared.messages.Reply.{Reply}
use Rattle.rss_wire.specs.declared.messages.Reply.TheVariants as reply
use Rattle.rss_wire.specs.declared.messages.Request.{Request}
use Rattle.rss_wire.specs.declared.messages.Request.TheVariants.{Lock, Prepare, Decide, Commit, Abort, Inquire, Release, Snapshot, Fix, Ask, Stamp, Store}
use Rattle.rss_wire.specs.declared.messages.Skipped.{Skipped}
use Rattle.rss_wire.specs.declared.messages.Version.{Version}
use Rattle.rss_wire.specs.Messages.{message_at}
use Rattle.rss_tables.specs.Lines.{Line}
use Rattle.rss_tables.specs.Pipes.{Chunk, EndMark, no_mark, fenced_mark, bare_mark}
use Rattle.rss_tables.specs.Prepared.{PreparedWriter}
use Rattle.rss_tables.specs.ShardRow.{Shard}
use Rattle.rss_tables.specs.SnapshotSession.{SnapSession}
use Rattle.rss_tables.specs.TransactionSession.{TxnSession}
use Rattle.rss_tables.specs.Versions.{KeyVersions}
use Rattle.rss_tables.specs.Works.{Works}
use Rattle.rss_tables.specs.declared.fences.FenceWork.{FenceWork}
use Rattle.rss_tables.specs.declared.fences.FenceWork.TheVariants.{Nothing, Past, Fix as Stores}
use Rattle.rss_tables.specs.declared.lines.LineState.{LineState}
use Rattle.rss_tables.specs.declared.lines.LineState.TheVariants as state
use Rattle.rss_tables.specs.declared.phases.SnapPhase.{SnapPhase}
use Rattle.rss_tables.specs.declared.phases.SnapPhase.TheVariants as snap
use Rattle.rss_tables.specs.declared.phases.TxnPhase.{TxnPhase}
use Rattle.rss_tables.specs.declared.phases.TxnPhase.TheVariants as phase
use Rattle.rss_machine.specs.Session.{Session}
use Rattle.rss_machine.specs.State.{State, stage_at, owner_at, pipe_at, shard_at}
use Rattle.rss_machine.specs.declared.session.Session.TheVariants as session

-- how far ahead of a reading a transaction may end at the earliest
abbrev pub most_margin : ℕ
most_margin = 1000000

-- of a context: each least time
abbrev pub SeenUpTo : ℕ → Seen → Type 0
SeenUpTo b seen = All (λ (entry : ServiceId × ℕ). entry.1 ≤ b) seen.least

-- of an outcome
abbrev pub OutcomeUpTo : ℕ → Outcome → Type 0
OutcomeUpTo b (Committed time) = time ≤ b
OutcomeUpTo b Aborted = ⊤

-- of versions, each with its key, and of what was passed by
abbrev pub ShownUpTo : ℕ → List (Key × Version) → Type 0
ShownUpTo b shown = All (λ (entry : Key × Version). entry.1.time ≤ b) shown

abbrev pub SkippedUpTo : ℕ → List Skipped → Type 0
SkippedUpTo b skipped = All (λ (x : Skipped). x.prepare_time ≤ b) skipped

-- of a request and of a reply
abbrev pub RequestTimesUpTo : ℕ → Request → Type 0
RequestTimesUpTo b (Lock attempt coordinator reads writes) = ⊤
RequestTimesUpTo b (Prepare attempt least earliest_end writes) = (least ≤ b) × (earliest_end ≤ b + most_margin)
RequestTimesUpTo b (Decide attempt commit time) = time ≤ b
RequestTimesUpTo b (Commit attempt commit_time) = commit_time ≤ b
RequestTimesUpTo b (Abort attempt) = ⊤
RequestTimesUpTo b (Inquire attempt) = ⊤
RequestTimesUpTo b (Release attempt time last) = time ≤ b
RequestTimesUpTo b (Snapshot read_time least keys skip) = (read_time ≤ b) × (least ≤ b)
RequestTimesUpTo b (Fix deps) = ⊤
RequestTimesUpTo b (Ask key) = ⊤
RequestTimesUpTo b (Stamp key) = ⊤
RequestTimesUpTo b (Store key value stamp writer) = ⊤

abbrev pub ReplyTimesUpTo : ℕ → Reply → Type 0
ReplyTimesUpTo b reply.Wounded = ⊤
ReplyTimesUpTo b (reply.Granted shown) = ShownUpTo b shown
ReplyTimesUpTo b (reply.Wait holders) = ⊤
ReplyTimesUpTo b (reply.Prepared prepare_time) = prepare_time ≤ b
ReplyTimesUpTo b (reply.Decided outcome) = OutcomeUpTo b outcome
ReplyTimesUpTo b reply.Done = ⊤
ReplyTimesUpTo b (reply.Outcome outcome) = OutcomeUpTo b outcome
ReplyTimesUpTo b reply.Open = ⊤
ReplyTimesUpTo b reply.Released = ⊤
ReplyTimesUpTo b (reply.Blocked holders) = ⊤
ReplyTimesUpTo b (reply.Values versions skipped) = ShownUpTo b versions × SkippedUpTo b skipped
ReplyTimesUpTo b reply.Fixed = ⊤
ReplyTimesUpTo b (reply.Held value stamp writer) = ⊤
ReplyTimesUpTo b reply.Stored = ⊤

abbrev pub BodyTimesUpTo : ℕ → Body → Type 0
BodyTimesUpTo b (body.Request r) = RequestTimesUpTo b r
BodyTimesUpTo b (body.Reply r) = ReplyTimesUpTo b r

-- of a line: what it passes on, what it was shown, what it passed by, and its prepare time
abbrev pub StateUpTo : ℕ → LineState → Type 0
StateUpTo b (state.Resolving holder outcome) = OutcomeUpTo b outcome
StateUpTo b state.Awaiting = ⊤
StateUpTo b state.Answered = ⊤
StateUpTo b (state.Inquiring holder) = ⊤
StateUpTo b (state.Asleep holder) = ⊤
StateUpTo b state.Dropped = ⊤

pub record LineUpTo (b : ℕ) (l : Line) : Type 0 where
  pub of_state : StateUpTo b l.state
  pub shown : ShownUpTo b l.shown
  pub skipped : SkippedUpTo b l.skipped
  pub prepared : l.prepare_time ≤ b

-- of the sessions of transactions and snapshots
abbrev pub TxnPhaseUpTo : ℕ → TxnPhase → Type 0
TxnPhaseUpTo b phase.Locking = ⊤
TxnPhaseUpTo b phase.Preparing = ⊤
TxnPhaseUpTo b (phase.Freeing time) = time ≤ b
TxnPhaseUpTo b (phase.FreeingLast time) = time ≤ b
TxnPhaseUpTo b (phase.Deciding time) = time ≤ b
TxnPhaseUpTo b phase.Undoing = ⊤
TxnPhaseUpTo b (phase.Waiting time) = time ≤ b
TxnPhaseUpTo b (phase.Committed time) = time ≤ b
TxnPhaseUpTo b (phase.Failed time) = time ≤ b

pub record TxnUpTo (b : ℕ) (t : TxnSession) : Type 0 where
  pub least : t.least ≤ b
  pub of_phase : TxnPhaseUpTo b t.phase
  pub margin : t.margin ≤ most_margin
  pub earliest_end : t.earliest_end ≤ b + most_margin
  pub lines : All (LineUpTo b) t.lines

abbrev pub SnapPhaseUpTo : ℕ → SnapPhase → Type 0
SnapPhaseUpTo b (snap.First read_time) = read_time ≤ b
SnapPhaseUpTo b (snap.Second time) = time ≤ b
SnapPhaseUpTo b (snap.Done time) = time ≤ b

pub record SnapUpTo (b : ℕ) (t : SnapSession) : Type 0 where
  pub least : t.least ≤ b
  pub of_phase : SnapPhaseUpTo b t.phase
  pub lines : All (LineUpTo b) t.lines

abbrev pub SessionTimesUpTo : ℕ → Session → Type 0
SessionTimesUpTo b (session.Transaction t) = TxnUpTo b t
SessionTimesUpTo b (session.Snapshot t) = SnapUpTo b t
SessionTimesUpTo b session.Idle = ⊤
SessionTimesUpTo b (session.Fixing r) = ⊤
SessionTimesUpTo b (session.Register r) = ⊤
SessionTimesUpTo b (session.Settling attempt shards) = ⊤

-- of works: the copy, the works left, and the time that is waited for
abbrev pub FenceUpTo : ℕ → FenceWork → Type 0
FenceUpTo b Nothing = ⊤
FenceUpTo b (Past time) = time ≤ b
FenceUpTo b Stores = ⊤

abbrev pub WaitUpTo : ℕ → Option ℕ → Type 0
WaitUpTo b None = ⊤
WaitUpTo b (Some time) = time ≤ b

pub record WorksUpTo (b : ℕ) (w : Works) : Type 0 where
  pub copy : SeenUpTo b w.copy
  pub left : All (λ (work : ServiceId × FenceWork). FenceUpTo b work.1) w.left
  pub wait : WaitUpTo b w.wait

-- of a pipe
abbrev pub MarkUpTo : ℕ → EndMark → Type 0
MarkUpTo b no_mark = ⊤
MarkUpTo b (fenced_mark number seen) = SeenUpTo b seen
MarkUpTo b bare_mark = ⊤

-- of a shard: its floor, prepared writers, decisions and versions
pub record PreparedUpTo (b : ℕ) (p : PreparedWriter) : Type 0 where
  pub prepare_time : p.prepare_time ≤ b
  pub earliest_end : p.earliest_end ≤ b + most_margin

pub record ShardUpTo (b : ℕ) (sh : Shard) : Type 0 where
  pub floor : sh.floor ≤ b
  pub prepared : All (PreparedUpTo b) sh.prepared
  pub decisions : All (λ (d : Attempt × Outcome). OutcomeUpTo b d.1) sh.decisions
  pub store : All (λ (kv : KeyVersions). All (λ (v : Version). v.time ≤ b) kv.versions) sh.store

-- of a state
pub record TimesUpTo (b : ℕ) (s : State) : Type 0 where
  pub told : (m : ℕ) → BodyTimesUpTo b (message_at s.net m).body
  pub sessions : (o : ℕ) → SessionTimesUpTo b (owner_at s o).session
  pub works : (o : ℕ) → WorksUpTo b (owner_at s o).works
  pub stages : (n : ℕ) → SeenUpTo b (stage_at s n).context
  pub chunks : (p : ℕ) → All (λ (x : Chunk). SeenUpTo b x.context) (pipe_at s p).chunks
  pub marks : (p : ℕ) → MarkUpTo b (pipe_at s p).mark
  pub shards : (n : ℕ) → ShardUpTo b (shard_at s n)
