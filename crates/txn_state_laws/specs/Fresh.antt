-- Snapshots are not before what had ended when they began.
use Rattle.std.specs.Prelude.{◌≡◌, ℕ, ◌<◌, ◌≤◌, Some, IsTrue}
use Rattle.rss_names.specs.declared.service.Key.{Key}
use Rattle.rss_tables.specs.Locks.{has_key}
use Rattle.rss_tables.specs.SnapshotSession.{SnapSession}
use Rattle.rss_tables.specs.TransactionSession.{TxnSession, computed}
use Rattle.rss_tables.specs.declared.phases.TxnPhase.TheVariants as phase
use Rattle.rss_machine.specs.State.{State, owner_at}
use Rattle.rss_machine.specs.declared.session.Session.TheVariants as session
use Rattle.shard_laws.specs.Committed.{written_value}
use Rattle.txn_state_laws.specs.Told.{snap_time}

-- a transaction has ended committed at a time, and wrote a key
pub record HasWritten (s : State) (w time : ℕ) (key : Key) : Type 0 where
  pub txn : TxnSession
  pub under_way : (owner_at s w).session ≡ session.Transaction txn
  pub committed : txn.phase ≡ phase.Committed time
  pub value : ℕ
  pub writes : written_value (computed txn) key ≡ Some value

-- a snapshot whose time is known is at or after each transaction that wrote one of its keys and had ended before it began
pub record AllFresh (s : State) : Type 0 where
  pub each : (o time w written : ℕ) (x : SnapSession) (key : Key) → (owner_at s o).session ≡ session.Snapshot x → snap_time x.phase ≡ Some time
      → HasWritten s w written key → (owner_at s w).dates.ended < (owner_at s o).dates.begun → IsTrue (has_key x.keys key) → written ≤ time
