-- What the lines of transactions and snapshots were told, and what a transaction has found out itself.
use Rattle.std.specs.Prelude.{◌≡◌, ℕ, ◌<◌, ◌≤◌, Bool, true, false, length, Option, Some, None}
use Rattle.rss_names.specs.declared.service.Key.{Key}
use Rattle.rss_names.specs.declared.service.Target.TheVariants.{Shard}
use Rattle.rss_wire.specs.declared.messages.Version.{Version}
use Rattle.rss_wire.specs.declared.messages.Reply.TheVariants as reply
use Rattle.rss_wire.specs.declared.messages.Request.TheVariants as request
use Rattle.rss_tables.specs.Lines.{Line, coordinator_of, is_answered, version_in}
use Rattle.rss_tables.specs.SnapshotSession.{SnapSession}
use Rattle.rss_tables.specs.TransactionSession.{TxnSession, attempt_of, computed, writes_on, leads, guard_of, values_shown, greatest_shown, greatest_prepared}
use Rattle.rss_tables.specs.declared.lines.LineState.{LineState}
use Rattle.rss_tables.specs.declared.phases.SnapPhase.{SnapPhase}
use Rattle.rss_tables.specs.declared.phases.SnapPhase.TheVariants.{First, Second, Done}
use Rattle.rss_tables.specs.declared.phases.TxnPhase.{TxnPhase}
use Rattle.rss_tables.specs.declared.phases.TxnPhase.TheVariants as phase
use Rattle.rss_machine.specs.State.{State, owner_at}
use Rattle.rss_machine.specs.declared.session.Session.TheVariants as session
use Rattle.shard_laws.specs.Closed.{EachOf}
use Rattle.shard_laws.specs.Snapshots.{IsBefore}
use Rattle.session_laws.specs.Frames.{nth_line}
use Rattle.txn_state_laws.specs.Replied.{Replied}

-- whether a line was granted its locks for the present attempt
abbrev pub has_granted : TxnPhase → LineState → Bool
has_granted phase.Locking state = is_answered state
has_granted phase.Preparing state = true
has_granted (phase.Freeing time) state = true
has_granted (phase.FreeingLast time) state = true
has_granted (phase.Deciding time) state = true
has_granted phase.Undoing state = false
has_granted (phase.Waiting time) state = true
has_granted (phase.Committed time) state = true
has_granted (phase.Failed time) state = true

-- whether a line was told its prepare time
abbrev pub has_voted : TxnPhase → LineState → Bool
has_voted phase.Locking state = false
has_voted phase.Preparing state = is_answered state
has_voted (phase.Freeing time) state = false
has_voted (phase.FreeingLast time) state = false
has_voted (phase.Deciding time) state = true
has_voted phase.Undoing state = false
has_voted (phase.Waiting time) state = true
has_voted (phase.Committed time) state = true
has_voted (phase.Failed time) state = false

-- the time at which an attempt whose guard failed gives its locks back
abbrev pub freeing_time : TxnPhase → Option ℕ
freeing_time (phase.Freeing time) = Some time
freeing_time (phase.FreeingLast time) = Some time
freeing_time (phase.Failed time) = Some time
freeing_time phase.Locking = None
freeing_time phase.Preparing = None
freeing_time (phase.Deciding time) = None
freeing_time phase.Undoing = None
freeing_time (phase.Waiting time) = None
freeing_time (phase.Committed time) = None

-- whether a line has given its locks back, by whether it is the coordinator's
abbrev pub has_released : TxnPhase → Bool → LineState → Bool
has_released (phase.Freeing time) true state = false
has_released (phase.Freeing time) false state = is_answered state
has_released (phase.FreeingLast time) true state = false
has_released (phase.FreeingLast time) false state = true
has_released (phase.Failed time) leads state = true
has_released phase.Locking leads state = false
has_released phase.Preparing leads state = false
has_released (phase.Deciding time) leads state = false
has_released phase.Undoing leads state = false
has_released (phase.Waiting time) leads state = false
has_released (phase.Committed time) leads state = false

-- whether the guard was found to hold
abbrev pub is_past_guard : TxnPhase → Bool
is_past_guard phase.Locking = false
is_past_guard phase.Preparing = true
is_past_guard (phase.Freeing time) = false
is_past_guard (phase.FreeingLast time) = false
is_past_guard (phase.Deciding time) = true
is_past_guard phase.Undoing = false
is_past_guard (phase.Waiting time) = true
is_past_guard (phase.Committed time) = true
is_past_guard (phase.Failed time) = false

-- what a line of a transaction was told
pub record LineTold (s : State) (x : TxnSession) (l : Line) : Type 0 where
  pub granted : has_granted x.phase l.state ≡ true
      → Replied s (Shard l.shard) (request.Lock (attempt_of x) (coordinator_of x.lines) l.reads l.writes) (reply.Granted l.shown)
  pub voted : has_voted x.phase l.state ≡ true
      → Replied s (Shard l.shard) (request.Prepare (attempt_of x) x.least x.earliest_end (writes_on l (computed x))) (reply.Prepared l.prepare_time)
  pub released : (time : ℕ) → freeing_time x.phase ≡ Some time → has_released x.phase (leads x l) l.state ≡ true
      → Replied s (Shard l.shard) (request.Release (attempt_of x) time (leads x l)) reply.Released

-- what a transaction has found out of its guard and its times
pub record TxnKnows (x : TxnSession) : Type 0 where
  pub held : is_past_guard x.phase ≡ true → guard_of x.guard (values_shown x) ≡ true
  pub failed : (time : ℕ) → freeing_time x.phase ≡ Some time → (guard_of x.guard (values_shown x) ≡ false) × (x.least ≤ time) × (greatest_shown x.lines ≤ time)
  pub deciding : (time : ℕ) → x.phase ≡ phase.Deciding time → time ≡ greatest_prepared x.lines

-- the time of a snapshot, once it is known
abbrev pub snap_time : SnapPhase → Option ℕ
snap_time (First read_time) = None
snap_time (Second time) = Some time
snap_time (Done time) = Some time

-- a line of a snapshot was told what its keys show at a time: it was asked at that time or later, passed by nobody
-- who may stand at it or before, and was shown nothing after it
pub record IsFinal (s : State) (x : SnapSession) (l : Line) (time : ℕ) : Type 0 where
  pub read_time : ℕ
  pub skip : Bool
  pub replied : Replied s (Shard l.shard) (request.Snapshot read_time x.least l.reads skip) (reply.Values l.shown l.skipped)
  pub upto : time ≤ read_time
  pub passed : EachOf (IsBefore time) l.skipped
  pub below : (key : Key) (v : Version) → version_in l.shown key ≡ Some v → v.time ≤ time

-- what a line of a snapshot was told
pub record SnapLineTold (s : State) (x : SnapSession) (l : Line) : Type 0 where
  pub first : (read_time : ℕ) → x.phase ≡ First read_time → is_answered l.state ≡ true
      → Replied s (Shard l.shard) (request.Snapshot read_time x.least l.reads true) (reply.Values l.shown l.skipped)
  pub final : (time : ℕ) → snap_time x.phase ≡ Some time → is_answered l.state ≡ true → IsFinal s x l time
  pub done : (time : ℕ) → x.phase ≡ Done time → is_answered l.state ≡ true

-- the times of a snapshot are not below its least time
pub record SnapKnows (x : SnapSession) : Type 0 where
  pub first : (read_time : ℕ) → x.phase ≡ First read_time → x.least ≤ read_time
  pub later : (time : ℕ) → snap_time x.phase ≡ Some time → x.least ≤ time

pub record AllTold (s : State) : Type 0 where
  pub txn : (o place : ℕ) (x : TxnSession) → (owner_at s o).session ≡ session.Transaction x → place < length x.lines → LineTold s x (nth_line x.lines place)
  pub knows : (o : ℕ) (x : TxnSession) → (owner_at s o).session ≡ session.Transaction x → TxnKnows x
  pub snap : (o place : ℕ) (x : SnapSession) → (owner_at s o).session ≡ session.Snapshot x → place < length x.lines → SnapLineTold s x (nth_line x.lines place)
  pub snap_knows : (o : ℕ) (x : SnapSession) → (owner_at s o).session ≡ session.Snapshot x → SnapKnows x
