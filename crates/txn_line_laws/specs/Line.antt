-- The line of a transaction service: its placed calls in the order of their keys.
use Rattle.std.specs.Prelude.{◌≡◌, ◌⊎◌, ℕ, ◌<◌, ◌≤◌, Bool, true, false, List, Some, IsTrue}
use Rattle.rss_names.specs.declared.service.Key.{Key}
use Rattle.rss_model.specs.declared.op.Op.{Op}
use Rattle.rss_wire.specs.declared.messages.Version.{Version}
use Rattle.rss_tables.specs.Lines.{Line, shown_on}
use Rattle.rss_tables.specs.Locks.{has_key}
use Rattle.rss_tables.specs.SnapshotSession.{SnapSession}
use Rattle.rss_tables.specs.TransactionSession.{TxnSession, computed, guard_of, values_shown}
use Rattle.rss_tables.specs.Versions.{opening_version}
use Rattle.rss_tables.specs.declared.phases.SnapPhase.TheVariants.{Done}
use Rattle.rss_tables.specs.declared.phases.TxnPhase.TheVariants as phase
use Rattle.rss_machine.specs.Calls.{least_for}
use Rattle.rss_machine.specs.Places.{commit_of, txn_key, key_lt, session_key}
use Rattle.rss_machine.specs.declared.place.PlaceKey.{PlaceKey}
use Rattle.rss_machine.specs.Session.{service_of}
use Rattle.rss_machine.specs.State.{State, owner_at}
use Rattle.rss_machine.specs.Times.{step_of_time}
use Rattle.rss_machine.specs.declared.session.OwnerKind.TheVariants as kind
use Rattle.rss_machine.specs.declared.session.Session.TheVariants as session
use Rattle.rss_machine.specs.declared.state.OwnerFate.TheVariants.{Ended}
use Rattle.shard_laws.specs.Committed.{written_value}
use Rattle.txn_decision_laws.specs.Entered.{is_txn_service}

-- a placed call of a transaction service with its time, whether it only reads, the keys that it reads, and the lines that
-- show them: a committed transaction, one whose guard failed, or a snapshot that has ended
pub data PlacedTxn (s : State) (o : ℕ) : ℕ → Bool → List Key → List Line → Type 0 where
  commits : (x : TxnSession) (time : ℕ) → (owner_at s o).session ≡ session.Transaction x → commit_of s x ≡ Some time → PlacedTxn s o time false x.reads x.lines
  fails : (x : TxnSession) (time : ℕ) → (owner_at s o).session ≡ session.Transaction x → x.phase ≡ phase.Failed time → PlacedTxn s o time true x.reads x.lines
  reads : (x : SnapSession) (time : ℕ) → (owner_at s o).session ≡ session.Snapshot x → x.phase ≡ Done time → PlacedTxn s o time true x.keys x.lines

-- a committed transaction writes a value of a key at its time
pub record TxnWrites (s : State) (w : ℕ) (key : Key) (value time : ℕ) : Type 0 where
  pub txn : TxnSession
  pub under_way : (owner_at s w).session ≡ session.Transaction txn
  pub committed : commit_of s txn ≡ Some time
  pub writes : written_value (computed txn) key ≡ Some value

-- its place
abbrev pub writer_key : State → ℕ → ℕ → PlaceKey
writer_key s w time = txn_key s w false time

-- the transaction whose value a call was shown stands before it, and no other one that writes the key between
pub record WriterBefore (s : State) (o time : ℕ) (only_reads : Bool) (key : Key) (v : Version) : Type 0 where
  pub written : TxnWrites s v.writer key v.value v.time
  pub before : key_lt (writer_key s v.writer v.time) (txn_key s o only_reads time) ≡ true
  pub others : (w value t : ℕ) → TxnWrites s w key value t → (w ≡ v.writer → ⊥) → (w ≡ o → ⊥)
      → (key_lt (writer_key s w t) (writer_key s v.writer v.time) ≡ true) ⊎ (key_lt (txn_key s o only_reads time) (writer_key s w t) ≡ true)

-- a call that was shown the opening value of a key stands before each transaction that writes it
pub record BeforeWriters (s : State) (o time : ℕ) (only_reads : Bool) (key : Key) (v : Version) : Type 0 where
  pub opening : v ≡ opening_version
  pub others : (w value t : ℕ) → TxnWrites s w key value t → (w ≡ o → ⊥) → key_lt (txn_key s o only_reads time) (writer_key s w t) ≡ true

-- each placed call was shown, of each key that it reads, what the last transaction before it wrote
pub record TxnsLegal (s : State) : Type 0 where
  pub shown : (o time : ℕ) (only_reads : Bool) (keys : List Key) (lines : List Line) → PlacedTxn s o time only_reads keys lines → (key : Key) → IsTrue (has_key keys key)
      → BeforeWriters s o time only_reads key (shown_on lines key) ⊎ WriterBefore s o time only_reads key (shown_on lines key)
  pub held : (o time : ℕ) (x : TxnSession) → (owner_at s o).session ≡ session.Transaction x → commit_of s x ≡ Some time → guard_of x.guard (values_shown x) ≡ true
  pub failed : (o time : ℕ) (x : TxnSession) → (owner_at s o).session ≡ session.Transaction x → x.phase ≡ phase.Failed time → guard_of x.guard (values_shown x) ≡ false

-- the places of these calls are theirs: who is placed is placed by its time, a transaction whose guard failed as one that only reads
pub record TxnsPlaced (s : State) : Type 0 where
  pub keyed : (o time : ℕ) (only_reads : Bool) (keys : List Key) (lines : List Line) → PlacedTxn s o time only_reads keys lines → session_key s o (owner_at s o).session ≡ Some (txn_key s o only_reads time)
  pub ended : (o : ℕ) (x : TxnSession) → (owner_at s o).session ≡ session.Transaction x → (owner_at s o).fate ≡ Ended → (time : ℕ) × ((commit_of s x ≡ Some time) ⊎ (x.phase ≡ phase.Failed time))
  pub snap_ended : (o : ℕ) (x : SnapSession) → (owner_at s o).session ≡ session.Snapshot x → (owner_at s o).fate ≡ Ended → (time : ℕ) × (x.phase ≡ Done time)

-- a committed transaction takes effect after the step in which it begins, and where it has ended, by the step of its end
pub record TxnsInside (s : State) : Type 0 where
  pub after : (o time : ℕ) (x : TxnSession) → (owner_at s o).session ≡ session.Transaction x → commit_of s x ≡ Some time → (owner_at s o).dates.begun < step_of_time s time
  pub by_end : (o time : ℕ) (x : TxnSession) → (owner_at s o).session ≡ session.Transaction x → commit_of s x ≡ Some time → (owner_at s o).fate ≡ Ended → step_of_time s time ≤ (owner_at s o).dates.ended

-- a call that entered its transaction service takes effect after the step of its entry
pub record TxnsEnter (s : State) : Type 0 where
  pub after : (o time : ℕ) (only_reads : Bool) (keys : List Key) (lines : List Line) (x : Op) → PlacedTxn s o time only_reads keys lines → (owner_at s o).kind ≡ kind.Calling x → is_txn_service (service_of x) ≡ true → 0 < (owner_at s o).dates.entered → (owner_at s o).dates.entered < step_of_time s time

-- the time of a call is not below the least time of its service in its copy, and above it where the call is committed; so the call
-- stands after each earlier call whose time is at most that
pub record TxnsCovered (s : State) : Type 0 where
  pub least : (o time : ℕ) (only_reads : Bool) (keys : List Key) (lines : List Line) (x : Op) → PlacedTxn s o time only_reads keys lines → (owner_at s o).kind ≡ kind.Calling x → least_for s o (service_of x) ≤ time
  pub above : (o time : ℕ) (keys : List Key) (lines : List Line) (x : Op) → PlacedTxn s o time false keys lines → (owner_at s o).kind ≡ kind.Calling x → least_for s o (service_of x) < time
  pub before : (a b t time : ℕ) (r q : Bool) (keys others : List Key) (lines more : List Line) (x : Op) → PlacedTxn s a t r keys lines → PlacedTxn s b time q others more → (owner_at s b).kind ≡ kind.Calling x
      → a < b → t ≤ least_for s b (service_of x) → key_lt (txn_key s a r t) (txn_key s b q time) ≡ true

-- a call that only reads, and began after a transaction that writes one of its keys had ended, stands after it
pub record TxnsFresh (s : State) : Type 0 where
  pub after : (o time w value t : ℕ) (keys : List Key) (lines : List Line) (key : Key) → PlacedTxn s o time true keys lines → IsTrue (has_key keys key) → TxnWrites s w key value t
      → (owner_at s w).fate ≡ Ended → (owner_at s w).dates.ended < (owner_at s o).dates.begun → key_lt (writer_key s w t) (txn_key s o true time) ≡ true
