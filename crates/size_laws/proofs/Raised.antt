-- What is under a bound is under a greater one.
use Rattle.std.proofs.Common.{ℕ, ◌≤◌, List, Option, Some, None, arith}
use Rattle.std.specs.List.{All}
use Rattle.std.proofs.lemmas.List.Elements.{All-weaker}
use Rattle.rss_names.specs.declared.attempt.Attempt.{Attempt}
use Rattle.rss_names.specs.declared.service.Key.{Key}
use Rattle.rss_names.specs.declared.service.ServiceId.{ServiceId}
use Rattle.causal_context.specs.Seen.{Seen}
use Rattle.rss_wire.specs.Messages.{message_at}
use Rattle.rss_wire.specs.declared.message.Body.{Body}
use Rattle.rss_wire.specs.declared.message.Body.TheVariants as body
use Rattle.rss_wire.specs.declared.messages.Outcome.{Outcome}
use Rattle.rss_wire.specs.declared.messages.Outcome.TheVariants.{Committed, Aborted}
use Rattle.rss_wire.specs.declared.messages.Reply.{Reply}
use Rattle.rss_wire.specs.declared.messages.Reply.TheVariants as reply
use Rattle.rss_wire.specs.declared.messages.Request.{Request}
use Rattle.rss_wire.specs.declared.messages.Request.TheVariants as request
use Rattle.rss_wire.specs.declared.messages.Skipped.{Skipped}
use Rattle.rss_wire.specs.declared.messages.Version.{Version}
use Rattle.rss_tables.specs.Lines.{Line}
use Rattle.rss_tables.specs.Pipes.{Pipe, EndMark, no_mark, fenced_mark, bare_mark}
use Rattle.rss_tables.specs.Prepared.{PreparedWriter}
use Rattle.rss_tables.specs.ShardRow.{Shard}
use Rattle.rss_tables.specs.SnapshotSession.{SnapSession}
use Rattle.rss_tables.specs.TransactionSession.{TxnSession}
use Rattle.rss_tables.specs.Versions.{KeyVersions}
use Rattle.rss_tables.specs.declared.fences.FenceWork.{FenceWork}
use Rattle.rss_tables.specs.declared.fences.FenceWork.TheVariants.{Nothing, Past, Fix}
use Rattle.rss_tables.specs.declared.lines.LineState.{LineState}
use Rattle.rss_tables.specs.declared.lines.LineState.TheVariants as state
use Rattle.rss_tables.specs.declared.phases.SnapPhase.{SnapPhase}
use Rattle.rss_tables.specs.declared.phases.SnapPhase.TheVariants as snap
use Rattle.rss_tables.specs.declared.phases.TxnPhase.{TxnPhase}
use Rattle.rss_tables.specs.declared.phases.TxnPhase.TheVariants as phase
use Rattle.rss_machine.specs.Session.{Session}
use Rattle.rss_machine.specs.State.{State, Owner, owner_at}
use Rattle.rss_machine.specs.declared.session.Session.TheVariants as session
use Rattle.world_laws.specs.Times.{SeenUpTo, OutcomeUpTo, ShownUpTo, SkippedUpTo, RequestTimesUpTo, ReplyTimesUpTo, BodyTimesUpTo, StateUpTo, LineUpTo, TxnPhaseUpTo, TxnUpTo, SnapPhaseUpTo, SnapUpTo, FenceUpTo, WaitUpTo, PreparedUpTo, ShardUpTo}
use Rattle.size_laws.specs.Fine.{Fine, WorkFine, SessionFine, OwnerFine, ChunkFine, MarkFine, PipeFine, AllFine}

pub seen_more : (b d : ℕ) (seen : Seen) → b ≤ d → SeenUpTo b seen → SeenUpTo d seen
seen_more b d seen m h = All-weaker (λ (entry : ServiceId × ℕ). entry.1 ≤ b) (λ (entry : ServiceId × ℕ). entry.1 ≤ d) (λ entry l. omega (arith, l, m)) seen.least h

outcome_more : (b d : ℕ) (x : Outcome) → b ≤ d → OutcomeUpTo b x → OutcomeUpTo d x
outcome_more b d (Committed time) m h = omega (arith, h, m)
outcome_more b d Aborted m h = tt

shown_more : (b d : ℕ) (shown : List (Key × Version)) → b ≤ d → ShownUpTo b shown → ShownUpTo d shown
shown_more b d shown m h = All-weaker (λ (entry : Key × Version). entry.1.time ≤ b) (λ (entry : Key × Version). entry.1.time ≤ d) (λ entry l. omega (arith, l, m)) shown h

skipped_more : (b d : ℕ) (skipped : List Skipped) → b ≤ d → SkippedUpTo b skipped → SkippedUpTo d skipped
skipped_more b d skipped m h = All-weaker (λ (x : Skipped). x.prepare_time ≤ b) (λ (x : Skipped). x.prepare_time ≤ d) (λ x l. omega (arith, l, m)) skipped h

request_more : (b d : ℕ) (r : Request) → b ≤ d → RequestTimesUpTo b r → RequestTimesUpTo d r
request_more b d (request.Prepare attempt least earliest_end writes) m h = (let l = h.0 in omega (arith, l, m), let l = h.1 in omega (arith, l, m))
request_more b d (request.Decide attempt commit time) m h = omega (arith, h, m)
request_more b d (request.Commit attempt commit_time) m h = omega (arith, h, m)
request_more b d (request.Release attempt time last) m h = omega (arith, h, m)
request_more b d (request.Snapshot read_time least keys skip) m h = (let l = h.0 in omega (arith, l, m), let l = h.1 in omega (arith, l, m))
request_more b d (request.Lock attempt coordinator reads writes) m h = tt
request_more b d (request.Abort attempt) m h = tt
request_more b d (request.Inquire attempt) m h = tt
request_more b d (request.Fix deps) m h = tt
request_more b d (request.Ask key) m h = tt
request_more b d (request.Stamp key) m h = tt
request_more b d (request.Store key value stamp writer) m h = tt

reply_more : (b d : ℕ) (r : Reply) → b ≤ d → ReplyTimesUpTo b r → ReplyTimesUpTo d r
reply_more b d (reply.Granted shown) m h = shown_more b d shown m h
reply_more b d (reply.Prepared prepare_time) m h = omega (arith, h, m)
reply_more b d (reply.Decided outcome) m h = outcome_more b d outcome m h
reply_more b d (reply.Outcome outcome) m h = outcome_more b d outcome m h
reply_more b d (reply.Values versions skipped) m h = (shown_more b d versions m h.0, skipped_more b d skipped m h.1)
reply_more b d reply.Wounded m h = tt
reply_more b d (reply.Wait holders) m h = tt
reply_more b d reply.Done m h = tt
reply_more b d reply.Open m h = tt
reply_more b d reply.Released m h = tt
reply_more b d (reply.Blocked holders) m h = tt
reply_more b d reply.Fixed m h = tt
reply_more b d (reply.Held value stamp writer) m h = tt
reply_more b d reply.Stored m h = tt

body_more : (b d : ℕ) (x : Body) → b ≤ d → BodyTimesUpTo b x → BodyTimesUpTo d x
body_more b d (body.Request r) m h = request_more b d r m h
body_more b d (body.Reply r) m h = reply_more b d r m h

state_more : (b d : ℕ) (x : LineState) → b ≤ d → StateUpTo b x → StateUpTo d x
state_more b d (state.Resolving holder outcome) m h = outcome_more b d outcome m h
state_more b d state.Awaiting m h = tt
state_more b d state.Answered m h = tt
state_more b d (state.Inquiring holder) m h = tt
state_more b d (state.Asleep holder) m h = tt
state_more b d state.Dropped m h = tt

line_more : (b d : ℕ) (l : Line) → b ≤ d → LineUpTo b l → LineUpTo d l
line_more b d l m h = record { of_state = state_more b d l.state m h.of_state; shown = shown_more b d l.shown m h.shown; skipped = skipped_more b d l.skipped m h.skipped; prepared = let n = h.prepared in omega (arith, n, m) }

lines_more : (b d : ℕ) (lines : List Line) → b ≤ d → All (LineUpTo b) lines → All (LineUpTo d) lines
lines_more b d lines m h = All-weaker (LineUpTo b) (LineUpTo d) (λ l k. line_more b d l m k) lines h

phase_more : (b d : ℕ) (x : TxnPhase) → b ≤ d → TxnPhaseUpTo b x → TxnPhaseUpTo d x
phase_more b d phase.Locking m h = tt
phase_more b d phase.Preparing m h = tt
phase_more b d (phase.Freeing time) m h = omega (arith, h, m)
phase_more b d (phase.FreeingLast time) m h = omega (arith, h, m)
phase_more b d (phase.Deciding time) m h = omega (arith, h, m)
phase_more b d phase.Undoing m h = tt
phase_more b d (phase.Waiting time) m h = omega (arith, h, m)
phase_more b d (phase.Committed time) m h = omega (arith, h, m)
phase_more b d (phase.Failed time) m h = omega (arith, h, m)

txn_more : (b d : ℕ) (t : TxnSession) → b ≤ d → TxnUpTo b t → TxnUpTo d t
txn_more b d t m h = record { least = let l = h.least in omega (arith, l, m); of_phase = phase_more b d t.phase m h.of_phase; margin = h.margin; earliest_end = let l = h.earliest_end in omega (arith, l, m); lines = lines_more b d t.lines m h.lines }

snap_phase_more : (b d : ℕ) (x : SnapPhase) → b ≤ d → SnapPhaseUpTo b x → SnapPhaseUpTo d x
snap_phase_more b d (snap.First read_time) m h = omega (arith, h, m)
snap_phase_more b d (snap.Second time) m h = omega (arith, h, m)
snap_phase_more b d (snap.Done time) m h = omega (arith, h, m)

snap_more : (b d : ℕ) (t : SnapSession) → b ≤ d → SnapUpTo b t → SnapUpTo d t
snap_more b d t m h = record { least = let l = h.least in omega (arith, l, m); of_phase = snap_phase_more b d t.phase m h.of_phase; lines = lines_more b d t.lines m h.lines }

session_more : (b d : ℕ) (x : Session) → b ≤ d → SessionFine b x → SessionFine d x
session_more b d (session.Transaction t) m h = txn_more b d t m h
session_more b d (session.Snapshot t) m h = snap_more b d t m h
session_more b d (session.Register r) m h = h
session_more b d (session.Fixing r) m h = tt
session_more b d session.Idle m h = tt
session_more b d (session.Settling attempt shards) m h = tt

fence_more : (b d : ℕ) (x : FenceWork) → b ≤ d → FenceUpTo b x → FenceUpTo d x
fence_more b d Nothing m h = tt
fence_more b d (Past time) m h = omega (arith, h, m)
fence_more b d Fix m h = tt

wait_more : (b d : ℕ) (x : Option ℕ) → b ≤ d → WaitUpTo b x → WaitUpTo d x
wait_more b d None m h = tt
wait_more b d (Some time) m h = omega (arith, h, m)

fine_more : (b d : ℕ) (seen : Seen) → b ≤ d → Fine b seen → Fine d seen
fine_more b d seen m h = record { times = seen_more b d seen m h.times; orders = h.orders }

owner_more : (b d : ℕ) (w : Owner) → b ≤ d → OwnerFine b w → OwnerFine d w
owner_more b d w m h = record {
  copy = fine_more b d w.works.copy m h.copy;
  left = All-weaker (WorkFine b) (WorkFine d) (λ x k. (fence_more b d x.1 m k.0, k.1)) w.works.left h.left;
  few = h.few;
  wait = wait_more b d w.works.wait m h.wait;
  session = session_more b d w.session m h.session;
  kind = h.kind;
}

mark_more : (b d : ℕ) (x : EndMark) → b ≤ d → MarkFine b x → MarkFine d x
mark_more b d no_mark m h = tt
mark_more b d (fenced_mark number seen) m h = fine_more b d seen m h
mark_more b d bare_mark m h = tt

pipe_more : (b d : ℕ) (pipe : Pipe) → b ≤ d → PipeFine b pipe → PipeFine d pipe
pipe_more b d pipe m h = record { chunks = All-weaker (ChunkFine b) (ChunkFine d) (λ x k. fine_more b d x.context m k) pipe.chunks h.chunks; mark = mark_more b d pipe.mark m h.mark }

prepared_more : (b d : ℕ) (p : PreparedWriter) → b ≤ d → PreparedUpTo b p → PreparedUpTo d p
prepared_more b d p m h = record { prepare_time = let l = h.prepare_time in omega (arith, l, m); earliest_end = let l = h.earliest_end in omega (arith, l, m) }

pub shard_more : (b d : ℕ) (sh : Shard) → b ≤ d → ShardUpTo b sh → ShardUpTo d sh
shard_more b d sh m h = record {
  floor = let l = h.floor in omega (arith, l, m);
  prepared = All-weaker (PreparedUpTo b) (PreparedUpTo d) (λ p k. prepared_more b d p m k) sh.prepared h.prepared;
  decisions = All-weaker (λ (x : Attempt × Outcome). OutcomeUpTo b x.1) (λ (x : Attempt × Outcome). OutcomeUpTo d x.1) (λ x k. outcome_more b d x.1 m k) sh.decisions h.decisions;
  store = All-weaker (λ (kv : KeyVersions). All (λ (v : Version). v.time ≤ b) kv.versions) (λ (kv : KeyVersions). All (λ (v : Version). v.time ≤ d) kv.versions) (λ kv k. All-weaker (λ (v : Version). v.time ≤ b) (λ (v : Version). v.time ≤ d) (λ v l. omega (arith, l, m)) kv.versions k) sh.store h.store;
}

pub all_more : (b d : ℕ) (s : State) → b ≤ d → AllFine b s → AllFine d s
all_more b d s m h = record {
  told = λ i. body_more b d (message_at s.net i).body m (h.told i);
  owners = λ o. owner_more b d (owner_at s o) m (h.owners o);
  stages = λ i. fine_more b d _ m (h.stages i);
  pipes = λ i. pipe_more b d _ m (h.pipes i);
  shards = λ i. shard_more b d _ m (h.shards i);
}
