-- Attempts that others wait for are of calls: no owner has number 0 that has one.
use Rattle.std.specs.Prelude.{◌≡◌, ℕ, ◌<◌, ◌≤◌, ⊤, List, [], length, get_or}
use Rattle.std.specs.List.{All}
use Rattle.rss_wire.specs.declared.message.Body.{Body}
use Rattle.rss_wire.specs.declared.message.Body.TheVariants as body
use Rattle.rss_wire.specs.declared.message.Message.{Message}
use Rattle.rss_wire.specs.declared.messages.Holder.{Holder}
use Rattle.rss_wire.specs.declared.messages.Reply.{Reply}
use Rattle.rss_wire.specs.declared.messages.Reply.TheVariants as reply
use Rattle.rss_wire.specs.declared.messages.Request.{Request}
use Rattle.rss_wire.specs.declared.messages.Request.TheVariants.{Lock, Prepare, Decide, Commit, Abort, Inquire, Release, Snapshot, Fix, Ask, Stamp, Store}
use Rattle.rss_wire.specs.Messages.{message_at}
use Rattle.rss_tables.specs.Lines.{Line}
use Rattle.rss_tables.specs.Locks.{LockHolder}
use Rattle.rss_tables.specs.Prepared.{PreparedWriter}
use Rattle.rss_tables.specs.ShardRow.{Shard, opening_shard}
use Rattle.rss_tables.specs.TransactionSession.{TxnSession}
use Rattle.rss_tables.specs.declared.lines.LineState.{LineState}
use Rattle.rss_tables.specs.declared.lines.LineState.TheVariants as state
use Rattle.rss_machine.specs.Session.{Session}
use Rattle.rss_machine.specs.State.{State, Owner, no_owner}
use Rattle.rss_machine.specs.declared.session.OwnerKind.TheVariants as kind
use Rattle.rss_machine.specs.declared.session.Session.TheVariants as session

-- who is named holds locks for a call, and so who holds them and who is prepared
abbrev pub OfCall : Holder → Type 0
OfCall h = 1 ≤ h.attempt.call

abbrev pub LocksCall : LockHolder → Type 0
LocksCall h = 1 ≤ h.attempt.call

abbrev pub PreparesCall : PreparedWriter → Type 0
PreparesCall p = 1 ≤ p.attempt.call

pub record ShardCalls (sh : Shard) : Type 0 where
  pub locks : All LocksCall sh.locks.holders
  pub prepared : All PreparesCall sh.prepared

-- what a request asks for, and whom a reply names
abbrev pub RequestCalls : Request → Type 0
RequestCalls (Lock attempt coordinator reads writes) = 1 ≤ attempt.call
RequestCalls (Prepare attempt least earliest_end writes) = 1 ≤ attempt.call
RequestCalls (Decide attempt commit time) = ⊤
RequestCalls (Commit attempt commit_time) = ⊤
RequestCalls (Abort attempt) = ⊤
RequestCalls (Inquire attempt) = ⊤
RequestCalls (Release attempt time last) = ⊤
RequestCalls (Snapshot read_time least keys skip) = ⊤
RequestCalls (Fix deps) = ⊤
RequestCalls (Ask key) = ⊤
RequestCalls (Stamp key) = ⊤
RequestCalls (Store key value stamp writer) = ⊤

abbrev pub ReplyCalls : Reply → Type 0
ReplyCalls (reply.Wait holders) = All OfCall holders
ReplyCalls (reply.Blocked holders) = All OfCall holders
ReplyCalls reply.Wounded = ⊤
ReplyCalls (reply.Granted shown) = ⊤
ReplyCalls (reply.Prepared time) = ⊤
ReplyCalls (reply.Decided outcome) = ⊤
ReplyCalls reply.Done = ⊤
ReplyCalls (reply.Outcome outcome) = ⊤
ReplyCalls reply.Open = ⊤
ReplyCalls reply.Released = ⊤
ReplyCalls (reply.Values versions skipped) = ⊤
ReplyCalls reply.Fixed = ⊤
ReplyCalls (reply.Held value stamp writer) = ⊤
ReplyCalls reply.Stored = ⊤

abbrev pub BodyCalls : Body → Type 0
BodyCalls (body.Request r) = RequestCalls r
BodyCalls (body.Reply r) = ReplyCalls r

-- whom a line waits for
abbrev pub StateCalls : LineState → Type 0
StateCalls (state.Inquiring holder) = OfCall holder
StateCalls (state.Resolving holder outcome) = OfCall holder
StateCalls (state.Asleep holder) = OfCall holder
StateCalls state.Awaiting = ⊤
StateCalls state.Answered = ⊤
StateCalls state.Dropped = ⊤

abbrev pub LineCalls : Line → Type 0
LineCalls l = StateCalls l.state

pub record TxnCalls (t : TxnSession) : Type 0 where
  pub call : 1 ≤ t.call
  pub lines : All LineCalls t.lines

abbrev pub SessionCalls : Session → Type 0
SessionCalls (session.Transaction t) = TxnCalls t
SessionCalls (session.Snapshot t) = All LineCalls t.lines
SessionCalls (session.Register r) = ⊤
SessionCalls (session.Fixing r) = ⊤
SessionCalls session.Idle = ⊤
SessionCalls (session.Settling attempt shards) = ⊤

-- owners: the one of number 0 is no call
pub record OwnersCall (owners : List Owner) : Type 0 where
  pub some : 0 < length owners
  pub nobody : (get_or owners 0 no_owner).kind ≡ kind.Fencing
  pub each : (o : ℕ) → SessionCalls (get_or owners o no_owner).session

abbrev pub NetCalls : List Message → Type 0
NetCalls net = (m : ℕ) → BodyCalls (message_at net m).body

abbrev pub ShardsCall : List Shard → Type 0
ShardsCall shards = (i : ℕ) → ShardCalls (get_or shards i (opening_shard []))

-- a state
pub record AllCalls (s : State) : Type 0 where
  pub told : NetCalls s.net
  pub owners : OwnersCall s.owners
  pub shards : ShardsCall s.shards
