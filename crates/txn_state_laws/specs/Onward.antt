-- How transactions and snapshots go on from one moment to the next, and all that is known between the two.
use Rattle.std.specs.Prelude.{◌≡◌, ◌⊎◌, ℕ, ◌<◌, ◌≤◌, ◌+◌, true, length, Some}
use Rattle.truetime.specs.Reading.{Reading}
use Rattle.pipeline_lang.specs.declared.config.Config.{Config}
use Rattle.rss_tables.specs.SnapshotSession.{SnapSession}
use Rattle.rss_tables.specs.TransactionSession.{TxnSession, computed, greatest_prepared, values_shown}
use Rattle.rss_tables.specs.declared.lines.LineState.TheVariants.{Awaiting}
use Rattle.rss_tables.specs.declared.phases.SnapPhase.TheVariants.{First}
use Rattle.rss_tables.specs.declared.phases.TxnPhase.TheVariants as phase
use Rattle.rss_machine.specs.Session.{Session}
use Rattle.rss_machine.specs.State.{State, owner_at}
use Rattle.rss_machine.specs.declared.session.Session.TheVariants as session
use Rattle.session_laws.specs.Frames.{SameTxn, SameSnap, nth_line}
use Rattle.shard_event_laws.specs.Events.{Event}
use Rattle.shard_event_laws.specs.Facts.{NetGrows}
use Rattle.shard_event_laws.specs.Known.{Known}
use Rattle.txn_state_laws.specs.Awaited.{AnswersHeard}
use Rattle.txn_state_laws.specs.Decided.{known_commit}
use Rattle.txn_laws.specs.Files.{NamesKeys}
use Rattle.txn_state_laws.specs.Framed.{AllFramed}
use Rattle.txn_state_laws.specs.Justified.{may_be_prepared, may_be_committed}
use Rattle.txn_state_laws.specs.Told.{AllTold, has_granted, freeing_time, snap_time}

-- what the present attempt of a transaction keeps, as long as it is the present one
pub record AttemptOnward (x y : TxnSession) : Type 0 where
  pub prepared : may_be_prepared x.phase ≡ true → (may_be_prepared y.phase ≡ true) × (y.earliest_end ≡ x.earliest_end) × (computed y ≡ computed x)
  pub committed : may_be_committed x.phase ≡ true → (may_be_committed y.phase ≡ true) × (greatest_prepared y.lines ≡ greatest_prepared x.lines)
  pub timed : (place : ℕ) → place < length x.lines → may_be_committed x.phase ≡ true → (nth_line y.lines place).prepare_time ≡ (nth_line x.lines place).prepare_time
  pub known : (time : ℕ) → known_commit x.phase ≡ Some time → known_commit y.phase ≡ Some time
  pub freeing : (time : ℕ) → freeing_time x.phase ≡ Some time → (freeing_time y.phase ≡ Some time) ⊎ (y.phase ≡ phase.Undoing)
  pub undoing : x.phase ≡ phase.Undoing → y.phase ≡ phase.Undoing
  pub shown : (place : ℕ) → place < length x.lines → has_granted x.phase (nth_line x.lines place).state ≡ true
      → (y.phase ≡ phase.Undoing) ⊎ ((nth_line y.lines place).shown ≡ (nth_line x.lines place).shown)

-- a transaction goes on: its operation stays, and it is in the same attempt or in the next one
pub record TxnOnward (x y : TxnSession) : Type 0 where
  pub same : SameTxn x y
  pub later : (y.k ≡ x.k) ⊎ ((y.k ≡ x.k + 1) × (y.phase ≡ phase.Locking))
  pub attempt : y.k ≡ x.k → AttemptOnward x y

pub record SnapOnward (x y : SnapSession) : Type 0 where
  pub same : SameSnap x y
  pub first : (read_time : ℕ) → x.phase ≡ First read_time → (y.phase ≡ First read_time) ⊎ ((time : ℕ) × (snap_time y.phase ≡ Some time))
  pub later : (time : ℕ) → snap_time x.phase ≡ Some time → snap_time y.phase ≡ Some time

pub record TxnGoesOn (x : TxnSession) (now : Session) : Type 0 where
  pub txn : TxnSession
  pub under_way : now ≡ session.Transaction txn
  pub onward : TxnOnward x txn

pub record SnapGoesOn (x : SnapSession) (now : Session) : Type 0 where
  pub snap : SnapSession
  pub under_way : now ≡ session.Snapshot snap
  pub onward : SnapOnward x snap

-- a transaction was under way before, or has just begun
pub data TxnComes (before : Session) (y : TxnSession) : Type 0 where
  from : (x : TxnSession) → before ≡ session.Transaction x → TxnOnward x y → TxnComes before y
  anew : before ≡ session.Idle → y.k ≡ 1 → y.phase ≡ phase.Locking → TxnComes before y

pub data SnapComes (before : Session) (y : SnapSession) : Type 0 where
  from_snap : (x : SnapSession) → before ≡ session.Snapshot x → SnapOnward x y → SnapComes before y
  anew_snap : (read_time : ℕ) → before ≡ session.Idle → y.phase ≡ First read_time → SnapComes before y

-- messages, owners, transactions and snapshots go on
pub record AllOnward (s t : State) : Type 0 where
  pub net : NetGrows s t
  pub long : length s.owners ≤ length t.owners
  pub owners : (o : ℕ) → o < length s.owners → ((owner_at t o).kind ≡ (owner_at s o).kind) × ((owner_at t o).dates.begun ≡ (owner_at s o).dates.begun) × ((owner_at t o).stage ≡ (owner_at s o).stage)
  pub txn : (o : ℕ) (x : TxnSession) → (owner_at s o).session ≡ session.Transaction x → TxnGoesOn x (owner_at t o).session
  pub snap : (o : ℕ) (x : SnapSession) → (owner_at s o).session ≡ session.Snapshot x → SnapGoesOn x (owner_at t o).session
  pub txn_from : (o : ℕ) (y : TxnSession) → (owner_at t o).session ≡ session.Transaction y → TxnComes (owner_at s o).session y
  pub snap_from : (o : ℕ) (y : SnapSession) → (owner_at t o).session ≡ session.Snapshot y → SnapComes (owner_at s o).session y

-- all that is known of an event, of the states before and after it
pub record Between (c : Config) (at : Reading) (s t : State) : Type 0 where
  pub names : NamesKeys c
  pub event : Event c at s t
  pub known : Known at s
  pub known_after : Known at t
  pub framed : AllFramed c s
  pub framed_after : AllFramed c t
  pub heard : AnswersHeard s
  pub told : AllTold s
  pub told_after : AllTold t
  pub onward : AllOnward s t
