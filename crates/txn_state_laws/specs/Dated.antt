-- The times of transactions and snapshots against the true moments of the steps in which they begin and end.
use Rattle.std.specs.Prelude.{◌≡◌, ℕ, ◌<◌, ◌≤◌, false, List, Some}
use Rattle.rss_names.specs.declared.attempt.Attempt.{Attempt}
use Rattle.rss_names.specs.declared.service.Key.{Key}
use Rattle.rss_names.specs.declared.service.Target.TheVariants.{Shard}
use Rattle.rss_wire.specs.declared.messages.Reply.TheVariants as reply
use Rattle.rss_wire.specs.declared.messages.Request.TheVariants as request
use Rattle.rss_tables.specs.Prepared.{PreparedWriter, prepared_of}
use Rattle.rss_tables.specs.SnapshotSession.{SnapSession, snap_end}
use Rattle.rss_tables.specs.TransactionSession.{TxnSession, txn_end}
use Rattle.rss_tables.specs.declared.phases.SnapPhase.TheVariants.{First}
use Rattle.rss_tables.specs.declared.phases.TxnPhase.TheVariants as phase
use Rattle.rss_machine.specs.Standing.{is_running}
use Rattle.rss_machine.specs.State.{State, owner_at, shard_at}
use Rattle.rss_machine.specs.declared.session.Session.TheVariants as session
use Rattle.rss_machine.specs.declared.state.OwnerFate.TheVariants.{Ended}
use Rattle.shard_event_laws.specs.Known.{moment_at}
use Rattle.txn_state_laws.specs.Replied.{Replied}
use Rattle.txn_state_laws.specs.Told.{freeing_time}

-- the true moment after the step in which an owner began, and after the one in which it was over
abbrev pub begun_moment : State → ℕ → ℕ
begun_moment s o = moment_at s (owner_at s o).dates.begun

abbrev pub ended_moment : State → ℕ → ℕ
ended_moment s o = moment_at s (owner_at s o).dates.ended

pub record AllDated (s : State) : Type 0 where
  pub begun : (o : ℕ) → (owner_at s o).dates.begun ≤ s.steps
  pub prepared : (shard : ℕ) (a : Attempt) (p : PreparedWriter) → 1 ≤ shard → prepared_of (shard_at s shard).prepared a ≡ Some p → begun_moment s a.call ≤ p.prepare_time
  pub voted : (shard : ℕ) (a : Attempt) (least earliest_end : ℕ) (writes : List (Key × ℕ)) (time : ℕ)
      → Replied s (Shard shard) (request.Prepare a least earliest_end writes) (reply.Prepared time) → (begun_moment s a.call ≤ time) × (least < time)
  pub freeing : (o time : ℕ) (x : TxnSession) → (owner_at s o).session ≡ session.Transaction x → freeing_time x.phase ≡ Some time → begun_moment s o ≤ time
  pub reading : (o time : ℕ) (x : SnapSession) → (owner_at s o).session ≡ session.Snapshot x → x.phase ≡ First time → begun_moment s o ≤ time
  pub committed : (o time : ℕ) (x : TxnSession) → (owner_at s o).session ≡ session.Transaction x → x.phase ≡ phase.Committed time → (time < ended_moment s o) × (x.earliest_end < ended_moment s o) × ((owner_at s o).dates.ended ≤ s.steps)
  pub over : (o time : ℕ) (x : TxnSession) → (owner_at s o).session ≡ session.Transaction x → txn_end x.phase ≡ Some time → (owner_at s o).fate ≡ Ended
  pub snap_over : (o time : ℕ) (x : SnapSession) → (owner_at s o).session ≡ session.Snapshot x → snap_end x.phase ≡ Some time → (owner_at s o).fate ≡ Ended
  pub ended : (o : ℕ) (x : TxnSession) → (owner_at s o).session ≡ session.Transaction x → (owner_at s o).fate ≡ Ended → (time : ℕ) × (txn_end x.phase ≡ Some time)
  pub snap_ended : (o : ℕ) (x : SnapSession) → (owner_at s o).session ≡ session.Snapshot x → (owner_at s o).fate ≡ Ended → (time : ℕ) × (snap_end x.phase ≡ Some time)
