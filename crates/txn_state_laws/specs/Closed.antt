-- What shards have closed: what attempts whose guard failed were shown, what versions come from, and what was answered.
use Rattle.std.specs.Prelude.{◌≡◌, ℕ, ◌≤◌, Bool, true, List, Some, IsTrue}
use Rattle.rss_names.specs.declared.attempt.Attempt.{Attempt}
use Rattle.rss_names.specs.declared.service.Key.{Key}
use Rattle.rss_names.specs.declared.service.Target.TheVariants.{Shard}
use Rattle.rss_wire.specs.declared.messages.Outcome.TheVariants.{Committed}
use Rattle.rss_wire.specs.declared.messages.Reply.TheVariants as reply
use Rattle.rss_wire.specs.declared.messages.Request.TheVariants as request
use Rattle.rss_wire.specs.declared.messages.Skipped.{Skipped}
use Rattle.rss_wire.specs.declared.messages.Version.{Version}
use Rattle.rss_tables.specs.Attempts.{has_attempt}
use Rattle.rss_tables.specs.Lines.{Line, coordinator_of, version_in}
use Rattle.rss_tables.specs.Locks.{has_key}
use Rattle.rss_tables.specs.ShardRow.{Shard as ShardState, decision_in}
use Rattle.rss_tables.specs.TransactionSession.{TxnSession, attempt_of, computed}
use Rattle.rss_tables.specs.Versions.{versions_of}
use Rattle.rss_machine.specs.State.{State, owner_at, shard_at}
use Rattle.rss_machine.specs.declared.session.Session.TheVariants as session
use Rattle.shard_laws.specs.Closed.{EachOf}
use Rattle.shard_laws.specs.Committed.{written_value}
use Rattle.shard_laws.specs.Snapshots.{IsBefore, ClosesAt}
use Rattle.txn_state_laws.specs.Framed.{OfAttempt, IsLineOf}
use Rattle.txn_state_laws.specs.Replied.{Replied}
use Rattle.txn_state_laws.specs.Told.{freeing_time}

-- a line that has given its locks back at a time has closed what it was shown
abbrev pub LineFreed : ShardState → Line → ℕ → Type 0
LineFreed sh l time = (key : Key) (v : Version) → IsTrue (has_key l.reads key) → version_in l.shown key ≡ Some v → ClosesAt sh key time v

-- a version is what a committed transaction wrote
pub record WasWritten (s : State) (key : Key) (v : Version) : Type 0 where
  pub txn : TxnSession
  pub under_way : (owner_at s v.writer).session ≡ session.Transaction txn
  pub committed : decision_in (shard_at s (coordinator_of txn.lines)).decisions (attempt_of txn) ≡ Some (Committed v.time)
  pub writes : written_value (computed txn) key ≡ Some v.value

pub record AllClosed (s : State) : Type 0 where
  pub freed : (shard : ℕ) (a : Attempt) (x : TxnSession) (l : Line) (time : ℕ) → 1 ≤ shard → has_attempt (shard_at s shard).released a ≡ true
      → OfAttempt s a x → a.k ≡ x.k → IsLineOf x shard l → freeing_time x.phase ≡ Some time → LineFreed (shard_at s shard) l time
  pub released : (shard : ℕ) (a : Attempt) (time : ℕ) (last : Bool) → Replied s (Shard shard) (request.Release a time last) reply.Released
      → has_attempt (shard_at s shard).released a ≡ true
  pub written : (shard : ℕ) (key : Key) → 1 ≤ shard → EachOf (WasWritten s key) (versions_of (shard_at s shard).store key)
  pub answered : (shard read_time least : ℕ) (keys : List Key) (skip : Bool) (versions : List (Key × Version)) (skipped : List Skipped)
      → Replied s (Shard shard) (request.Snapshot read_time least keys skip) (reply.Values versions skipped)
      → (key : Key) (v : Version) (time : ℕ) → IsTrue (has_key keys key) → version_in versions key ≡ Some v → time ≤ read_time → EachOf (IsBefore time) skipped → v.time ≤ time
      → ClosesAt (shard_at s shard) key time v
