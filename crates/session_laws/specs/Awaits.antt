-- What the lines of a session await a reply to.
use Rattle.std.specs.Prelude.{◌≡◌, ℕ, Option, Some, None}
use Rattle.rss_names.specs.declared.service.Target.{Target}
use Rattle.rss_names.specs.declared.service.Target.TheVariants.{Shard}
use Rattle.rss_wire.specs.declared.messages.Request.{Request}
use Rattle.rss_wire.specs.declared.messages.Request.TheVariants as request
use Rattle.rss_wire.specs.declared.messages.Reply.{Reply}
use Rattle.rss_tables.specs.Lines.{Line, decision_request}
use Rattle.rss_tables.specs.ShardRow.{Shard as ShardState, shard_reply}
use Rattle.rss_tables.specs.SnapshotSession.{SnapSession, snap_request}
use Rattle.rss_tables.specs.TransactionSession.{TxnSession, txn_request}
use Rattle.rss_tables.specs.declared.lines.LineState.{LineState}
use Rattle.rss_tables.specs.declared.lines.LineState.TheVariants.{Awaiting, Answered, Inquiring, Resolving, Asleep, Dropped}
use Rattle.rss_tables.specs.declared.phases.SnapPhase.{SnapPhase}
use Rattle.rss_tables.specs.declared.phases.SnapPhase.TheVariants.{First, Second, Done}
use Rattle.rss_tables.specs.declared.phases.TxnPhase.{TxnPhase}
use Rattle.rss_tables.specs.declared.phases.TxnPhase.TheVariants as phase

-- the request whose reply a line awaits, with its target, by the line's state, its shard and the request of its phase
abbrev pub awaited_by : LineState → ℕ → Request → Option (Target × Request)
awaited_by Awaiting shard asked = Some (Shard shard, asked)
awaited_by Answered shard asked = None
awaited_by (Inquiring holder) shard asked = Some (Shard holder.coordinator, request.Inquire holder.attempt)
awaited_by (Resolving holder outcome) shard asked = Some (Shard shard, decision_request holder.attempt outcome)
awaited_by (Asleep holder) shard asked = None
awaited_by Dropped shard asked = None

-- what a line of a transaction awaits in a phase: nothing once the commit or the failure is known
abbrev pub txn_awaits : TxnSession → TxnPhase → Line → Option (Target × Request)
txn_awaits t phase.Locking l = awaited_by l.state l.shard (txn_request t phase.Locking l)
txn_awaits t phase.Preparing l = awaited_by l.state l.shard (txn_request t phase.Preparing l)
txn_awaits t (phase.Freeing time) l = awaited_by l.state l.shard (txn_request t (phase.Freeing time) l)
txn_awaits t (phase.FreeingLast time) l = awaited_by l.state l.shard (txn_request t (phase.FreeingLast time) l)
txn_awaits t (phase.Deciding time) l = awaited_by l.state l.shard (txn_request t (phase.Deciding time) l)
txn_awaits t phase.Undoing l = awaited_by l.state l.shard (txn_request t phase.Undoing l)
txn_awaits t (phase.Waiting time) l = None
txn_awaits t (phase.Committed time) l = None
txn_awaits t (phase.Failed time) l = None

-- what a line of a snapshot awaits in a phase
abbrev pub snap_awaits : SnapSession → SnapPhase → Line → Option (Target × Request)
snap_awaits t (First time) l = awaited_by l.state l.shard (snap_request t (First time) l)
snap_awaits t (Second time) l = awaited_by l.state l.shard (snap_request t (Second time) l)
snap_awaits t (Done time) l = None

-- a reply is one that a shard gives to a request, in some state and at some reading
pub record IsReplyTo (q : Request) (r : Reply) : Type 0 where
  pub shard : ShardState
  pub latest : ℕ
  pub gives : r ≡ shard_reply shard latest q
