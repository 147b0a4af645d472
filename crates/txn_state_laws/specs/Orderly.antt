-- What shards hold and have prepared, and what was granted.
use Rattle.std.specs.Prelude.{◌≡◌, ◌⊎◌, ℕ, ◌<◌, ◌≤◌, List, Some, IsTrue}
use Rattle.rss_names.specs.declared.attempt.Attempt.{Attempt}
use Rattle.rss_names.specs.declared.service.Key.{Key}
use Rattle.rss_names.specs.declared.service.Target.TheVariants.{Shard}
use Rattle.pipeline_lang.specs.Config.{home_of}
use Rattle.pipeline_lang.specs.declared.config.Config.{Config}
use Rattle.rss_wire.specs.declared.messages.Reply.TheVariants as reply
use Rattle.rss_wire.specs.declared.messages.Request.{Request}
use Rattle.rss_wire.specs.declared.messages.Request.TheVariants as request
use Rattle.rss_wire.specs.declared.messages.Version.{Version}
use Rattle.rss_tables.specs.Lines.{Line}
use Rattle.rss_tables.specs.Locks.{LockHolder, has_key}
use Rattle.rss_tables.specs.Prepared.{PreparedWriter, prepared_of}
use Rattle.rss_tables.specs.TransactionSession.{TxnSession}
use Rattle.rss_machine.specs.State.{State, shard_at}
use Rattle.shard_laws.specs.Committed.{keeps_key}
use Rattle.shard_laws.specs.Entries.{holder_of}
use Rattle.shard_laws.specs.Fitting.{is_written}
use Rattle.shard_laws.specs.Locked.{IsGone}
use Rattle.shard_laws.specs.Orderly.{IsOrderly, IsInOrder, HoldsShown}
use Rattle.shard_event_laws.specs.Events.{WasAsked}
use Rattle.txn_laws.specs.Files.{IsKey}
use Rattle.txn_state_laws.specs.Framed.{OfAttempt, IsLineOf}
use Rattle.txn_state_laws.specs.Justified.{PreparesNow}
use Rattle.txn_state_laws.specs.Replied.{Replied}

-- who holds locks on a shard is an attempt with a line there, and holds the locks of that line
pub record HeldIs (s : State) (shard : ℕ) (a : Attempt) (h : LockHolder) : Type 0 where
  pub txn : TxnSession
  pub of : OfAttempt s a txn
  pub line : Line
  pub is_line : IsLineOf txn shard line
  pub reads_are : h.reads ≡ line.reads
  pub writes_are : h.writes ≡ line.writes

-- who is prepared on a shard is an attempt with a line there; the present one with what it asked for
pub record PreparedIs (s : State) (shard : ℕ) (a : Attempt) (p : PreparedWriter) : Type 0 where
  pub txn : TxnSession
  pub of : OfAttempt s a txn
  pub line : Line
  pub is_line : IsLineOf txn shard line
  pub above : txn.least < p.prepare_time
  pub fits : (key : Key) → IsTrue (is_written p.writes key) → IsTrue (has_key line.writes key)
  pub now : a.k ≡ txn.k → PreparesNow txn line p.earliest_end p.writes

pub record AllOrderly (c : Config) (s : State) : Type 0 where
  pub orderly : (shard : ℕ) → IsOrderly (shard_at s shard)
  pub keys : (key : Key) → IsKey c key → IsTrue (keeps_key (shard_at s (home_of c key.index)).store key)
  pub held : (shard : ℕ) (a : Attempt) (h : LockHolder) → 1 ≤ shard → holder_of (shard_at s shard).locks.holders a ≡ Some h → HeldIs s shard a h
  pub prepared : (shard : ℕ) (a : Attempt) (p : PreparedWriter) → 1 ≤ shard → prepared_of (shard_at s shard).prepared a ≡ Some p → PreparedIs s shard a p
  pub granted : (shard : ℕ) (a : Attempt) (coordinator : ℕ) (reads writes : List Key) (shown : List (Key × Version))
      → Replied s (Shard shard) (request.Lock a coordinator reads writes) (reply.Granted shown)
      → HoldsShown (shard_at s shard) a reads writes shown ⊎ IsGone (shard_at s shard) a

-- each request that was sent to a shard keeps it orderly, were it served now
pub record AllInOrder (s : State) : Type 0 where
  pub each : (m shard : ℕ) (q : Request) → WasAsked s m shard q → IsInOrder (shard_at s shard) q
