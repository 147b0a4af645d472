-- What the replies of a shard say of it in every later state.
use Rattle.std.specs.Prelude.{◌≡◌, ◌⊎◌, ℕ, ◌≤◌, Bool, List, Some}
use Rattle.rss_names.specs.declared.attempt.Attempt.{Attempt}
use Rattle.rss_names.specs.declared.service.Key.{Key}
use Rattle.rss_wire.specs.declared.messages.Outcome.{Outcome}
use Rattle.rss_wire.specs.declared.messages.Request.TheVariants.{Lock, Prepare, Decide, Inquire, Release, Snapshot}
use Rattle.rss_wire.specs.declared.messages.Reply.TheVariants as reply
use Rattle.rss_wire.specs.declared.messages.Skipped.{Skipped}
use Rattle.rss_wire.specs.declared.messages.Version.{Version}
use Rattle.rss_tables.specs.Locks.{LockHolder}
use Rattle.rss_tables.specs.ShardRow.{Shard, decision_in}
use Rattle.rss_machine.specs.State.{State, shard_at}
use Rattle.shard_laws.specs.Entries.{holder_of}
use Rattle.shard_laws.specs.Locked.{IsGone}
use Rattle.shard_laws.specs.Fitting.{IsPreparedAt}
use Rattle.txn_laws.specs.Given.{IsShardReply}

-- an attempt holds locks
pub record Holds (sh : Shard) (attempt : Attempt) : Type 0 where
  pub holder : LockHolder
  pub there : holder_of sh.locks.holders attempt ≡ Some holder

-- each reply that was sent: who was granted locks holds some or is done with; who was prepared is prepared
-- at the time that was told or is done with; a decision that was told is kept; who has released is done with;
-- the floor is at least the read time of each snapshot that was answered
pub record RepliesTell (s : State) : Type 0 where
  pub granted : (m shard : ℕ) (a : Attempt) (coordinator : ℕ) (reads writes : List Key) (shown : List (Key × Version))
      → IsShardReply s m shard (Lock a coordinator reads writes) (reply.Granted shown)
      → Holds (shard_at s shard) a ⊎ IsGone (shard_at s shard) a
  pub prepared : (m shard : ℕ) (a : Attempt) (least earliest_end : ℕ) (writes : List (Key × ℕ)) (time : ℕ)
      → IsShardReply s m shard (Prepare a least earliest_end writes) (reply.Prepared time)
      → IsPreparedAt (shard_at s shard) a time ⊎ IsGone (shard_at s shard) a
  pub decided : (m shard : ℕ) (a : Attempt) (commit : Bool) (time : ℕ) (outcome : Outcome)
      → IsShardReply s m shard (Decide a commit time) (reply.Decided outcome)
      → decision_in (shard_at s shard).decisions a ≡ Some outcome
  pub inquired : (m shard : ℕ) (a : Attempt) (outcome : Outcome)
      → IsShardReply s m shard (Inquire a) (reply.Outcome outcome)
      → decision_in (shard_at s shard).decisions a ≡ Some outcome
  pub released : (m shard : ℕ) (a : Attempt) (time : ℕ) (last : Bool)
      → IsShardReply s m shard (Release a time last) reply.Released → IsGone (shard_at s shard) a
  pub answered : (m shard : ℕ) (read_time least : ℕ) (keys : List Key) (skip : Bool) (versions : List (Key × Version)) (skipped : List Skipped)
      → IsShardReply s m shard (Snapshot read_time least keys skip) (reply.Values versions skipped)
      → read_time ≤ (shard_at s shard).floor
