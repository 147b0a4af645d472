-- The tables' session, of the parts that the code keeps of it.
use Rattle.std.specs.Prelude.{◌≡◌, ℕ, ◌<◌, ◌^◌, Bool, true, false, List, [], length, Option, Some, None}
use Rattle.rss_names.specs.declared.service.Key.{Key}
use Rattle.rss_names.specs.declared.service.ServiceId.{ServiceId}
use Rattle.pipeline_lang.specs.declared.script.Expr.{Expr}
use Rattle.pipeline_lang.specs.declared.script.Compare.{Compare}
use Rattle.rss_model.specs.declared.op.Op.{Op}
use Rattle.rss_model.specs.declared.op.Op.TheVariants as op
use Rattle.rss_tables.specs.TransactionSession.{TxnSession}
use Rattle.rss_tables.specs.SnapshotSession.{SnapSession}
use Rattle.rss_tables.specs.Lines.{Line}
use Rattle.rss_machine.specs.Moves.{round_without}
use Rattle.rss_machine.specs.Session.{Session}
use Rattle.rss_machine.specs.declared.session.OwnerKind.{OwnerKind}
use Rattle.rss_machine.specs.declared.session.OwnerKind.TheVariants as kind
use Rattle.rss_machine.specs.declared.session.Session.TheVariants as session
use Rattle.two_phase.specs.Session.{SessionView as TxnView, txn_of}
use Rattle.two_phase.specs.declared.txn.Txn.{Txn}
use Rattle.snapshot_reads.specs.Session.{SessionView as SnapView, snap_of}
use Rattle.snapshot_reads.specs.declared.snap.Snap.{Snap}
use Rattle.owner_sessions.specs.declared.called.Called.{Called}
use Rattle.owner_sessions.specs.declared.doing.Doing.{Doing}
use Rattle.owner_sessions.specs.declared.doing.Doing.TheVariants as doing

-- what a transaction reads, tests and writes; another operation nothing
abbrev pub op_reads : Op → List Key
op_reads (op.Txn reads guard writes) = reads
op_reads (op.Read key) = []
op_reads (op.Write key value) = []
op_reads (op.Snap keys) = []

abbrev pub op_guard : Op → Option (Compare ℕ)
op_guard (op.Txn reads guard writes) = guard
op_guard (op.Read key) = None
op_guard (op.Write key value) = None
op_guard (op.Snap keys) = None

abbrev pub op_writes : Op → List (Key × Expr ℕ)
op_writes (op.Txn reads guard writes) = writes
op_writes (op.Read key) = []
op_writes (op.Write key value) = []
op_writes (op.Snap keys) = []

-- what a snapshot reads; another operation nothing
abbrev pub op_keys : Op → List Key
op_keys (op.Snap keys) = keys
op_keys (op.Read key) = []
op_keys (op.Write key value) = []
op_keys (op.Txn reads guard writes) = []

-- the same of an owner
abbrev pub reads_in : OwnerKind → List Key
reads_in (kind.Calling x) = op_reads x
reads_in kind.Fencing = []
reads_in (kind.Stubbing unsettled) = []

abbrev pub guard_in : OwnerKind → Option (Compare ℕ)
guard_in (kind.Calling x) = op_guard x
guard_in kind.Fencing = None
guard_in (kind.Stubbing unsettled) = None

abbrev pub writes_in : OwnerKind → List (Key × Expr ℕ)
writes_in (kind.Calling x) = op_writes x
writes_in kind.Fencing = []
writes_in (kind.Stubbing unsettled) = []

abbrev pub keys_in : OwnerKind → List Key
keys_in (kind.Calling x) = op_keys x
keys_in kind.Fencing = []
keys_in (kind.Stubbing unsettled) = []

-- the tables' session of a transaction and of a snapshot, of the owner's operation and of what is kept
abbrev pub txn_in : OwnerKind → Called → TxnView → TxnSession
txn_in k c t = record {
  call = c.call;
  reads = reads_in k;
  guard = guard_in k;
  writes = writes_in k;
  least = c.least;
  margin = c.margin;
  k = t.k;
  phase = t.phase;
  earliest_end = t.earliest_end;
  lines = t.lines;
}

abbrev pub snap_in : OwnerKind → Called → SnapView → SnapSession
snap_in k c t = record { call = c.call; keys = keys_in k; least = c.least; phase = t.phase; lines = t.lines }

-- a stub settles the attempt that it has to
abbrev pub settling_in : OwnerKind → Session
settling_in (kind.Stubbing (Some unsettled)) = session.Settling unsettled.0 unsettled.1
settling_in (kind.Stubbing None) = session.Idle
settling_in (kind.Calling x) = session.Idle
settling_in kind.Fencing = session.Idle

-- what an owner of this kind has under way
abbrev pub session_of : OwnerKind → Doing → Session
session_of k doing.Idle = session.Idle
session_of k (doing.Fixing r) = session.Fixing r
session_of k (doing.Register r) = session.Register r
session_of k (doing.Transaction c t) = session.Transaction (txn_in k c t)
session_of k (doing.Snapshot c t) = session.Snapshot (snap_in k c t)
session_of k doing.Settling = settling_in k

-- for how many more versions and skipped writers it has room
abbrev pub versions_in : Doing → ℕ
versions_in (doing.Transaction c t) = t.room
versions_in (doing.Snapshot c t) = t.room
versions_in doing.Idle = 0
versions_in (doing.Fixing r) = 0
versions_in (doing.Register r) = 0
versions_in doing.Settling = 0

abbrev pub skips_in : Doing → ℕ
skips_in (doing.Snapshot c t) = t.skips
skips_in (doing.Transaction c t) = 0
skips_in doing.Idle = 0
skips_in (doing.Fixing r) = 0
skips_in (doing.Register r) = 0
skips_in doing.Settling = 0

-- what a session is told is the call of an owner
pub record TellsTxn (x : Txn) (k : OwnerKind) (c : Called) : Type 0 where
  pub call : x.call ≡ c.call
  pub reads : x.reads.now ≡ reads_in k
  pub guard : x.guard ≡ guard_in k
  pub writes : x.writes.now ≡ writes_in k
  pub least : x.least ≡ c.least
  pub margin : x.margin ≡ c.margin
  pub small : x.margin < 2 ^ 62

pub record TellsSnap (x : Snap) (k : OwnerKind) (c : Called) : Type 0 where
  pub call : x.call ≡ c.call
  pub keys : x.keys.now ≡ keys_in k
  pub least : x.least ≡ c.least

-- the round under way goes on without a replica, where it is one of this service
abbrev pub doing_without : Doing → ServiceId → ℕ → Doing
doing_without (doing.Fixing r) service replica = doing.Fixing (round_without r service replica)
doing_without (doing.Register r) service replica = doing.Register (round_without r service replica)
doing_without doing.Idle service replica = doing.Idle
doing_without (doing.Transaction c t) service replica = doing.Transaction c t
doing_without (doing.Snapshot c t) service replica = doing.Snapshot c t
doing_without doing.Settling service replica = doing.Settling
