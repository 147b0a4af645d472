-- What an answered snapshot may have missed: writers that cannot end before its read time, or stand after it.
use Rattle.std.specs.Prelude.{◌≡◌, ◌⊎◌, ℕ, ◌<◌, ◌≤◌, Bool, List, Some, IsTrue}
use Rattle.rss_names.specs.declared.service.Key.{Key}
use Rattle.rss_names.specs.declared.service.Target.TheVariants.{Shard}
use Rattle.rss_wire.specs.declared.messages.Outcome.TheVariants.{Committed}
use Rattle.rss_wire.specs.declared.messages.Reply.TheVariants as reply
use Rattle.rss_wire.specs.declared.messages.Request.TheVariants as request
use Rattle.rss_wire.specs.declared.messages.Skipped.{Skipped}
use Rattle.rss_wire.specs.declared.messages.Version.{Version}
use Rattle.rss_tables.specs.Lines.{coordinator_of, version_in}
use Rattle.rss_tables.specs.Locks.{has_key}
use Rattle.rss_tables.specs.Prepared.{PreparedWriter, prepared_of}
use Rattle.rss_tables.specs.ShardRow.{decision_in}
use Rattle.rss_tables.specs.TransactionSession.{TxnSession, attempt_of}
use Rattle.rss_tables.specs.Versions.{versions_of}
use Rattle.rss_machine.specs.State.{State, owner_at, shard_at}
use Rattle.rss_machine.specs.declared.session.Session.TheVariants as session
use Rattle.shard_laws.specs.Closed.{EachOf, writes_key}
use Rattle.txn_state_laws.specs.Replied.{Replied}

-- the committed transaction that wrote a version could not end before a read time
pub record EndsLater (s : State) (read_time : ℕ) (u : Version) : Type 0 where
  pub txn : TxnSession
  pub under_way : (owner_at s u.writer).session ≡ session.Transaction txn
  pub committed : decision_in (shard_at s (coordinator_of txn.lines)).decisions (attempt_of txn) ≡ Some (Committed u.time)
  pub unended : read_time < txn.earliest_end

-- a version was shown or stands before the one that was, or it is above the read time, or its writer could not end before that
abbrev pub IsPassedRightly : State → ℕ → Version → Version → Type 0
IsPassedRightly s read_time v u = (u.time ≤ v.time) ⊎ (read_time < u.time) ⊎ EndsLater s read_time u

-- what a shard has shown of a key at a read time: the floor is there, each prepared writer of the key stands above it or
-- cannot end before it, and so with each version that was not seen
pub record KeyPassed (s : State) (shard read_time : ℕ) (key : Key) (v : Version) : Type 0 where
  pub floor : read_time ≤ (shard_at s shard).floor
  pub entries : (p : PreparedWriter) → prepared_of (shard_at s shard).prepared p.attempt ≡ Some p → IsTrue (writes_key p key)
      → (read_time < p.prepare_time) ⊎ (read_time < p.earliest_end)
  pub versions : EachOf (IsPassedRightly s read_time v) (versions_of (shard_at s shard).store key)

pub record AllPassed (s : State) : Type 0 where
  pub each : (shard read_time least : ℕ) (keys : List Key) (skip : Bool) (versions : List (Key × Version)) (skipped : List Skipped)
      → Replied s (Shard shard) (request.Snapshot read_time least keys skip) (reply.Values versions skipped)
      → (key : Key) (v : Version) → IsTrue (has_key keys key) → version_in versions key ≡ Some v → KeyPassed s shard read_time key v
