-- What a shard's reply to a snapshot says of its prepared writers.
use Rattle.std.specs.Prelude.{◌≡◌, ℕ, ◌<◌, ◌≤◌, Bool, ◌&&◌, ◌==◌, List, length, Some, IsTrue}
use Rattle.std.specs.List.{list_any}
use Rattle.rss_names.specs.declared.service.Key.{Key}
use Rattle.rss_wire.specs.declared.messages.Holder.{Holder}
use Rattle.rss_wire.specs.declared.messages.Skipped.{Skipped}
use Rattle.rss_wire.specs.declared.messages.Version.{Version}
use Rattle.rss_tables.specs.Attempts.{same_attempt}
use Rattle.rss_tables.specs.Prepared.{PreparedWriter, prepared_of, writes_any}
use Rattle.rss_tables.specs.Versions.{versions_at, version_at}
use Rattle.rss_tables.specs.ShardRow.{Shard}
use Rattle.shard_laws.specs.Closed.{EachOf, IsClosed}

-- whether a prepared attempt is named as passed by, with its prepare time
abbrev pub names : List Skipped → PreparedWriter → Bool
names skipped p = list_any (λ (s : Skipped). same_attempt p.attempt s.attempt && s.prepare_time == p.prepare_time) skipped

-- a prepared writer is passed by: the snapshot may skip, has not seen its prepare time, reads before its
-- call can end, and names it
pub record IsPassedBy (read_time least : ℕ) (skip : Bool) (skipped : List Skipped) (p : PreparedWriter) : Type 0 where
  pub may_skip : IsTrue skip
  pub unseen : least < p.prepare_time
  pub unended : read_time < p.earliest_end
  pub named : IsTrue (names skipped p)

-- a prepared writer of asked keys, at a read time or before
pub record IsAskedAbout (sh : Shard) (keys : List Key) (read_time : ℕ) (p : PreparedWriter) : Type 0 where
  pub there : prepared_of sh.prepared p.attempt ≡ Some p
  pub writes : IsTrue (writes_any keys p)
  pub upto : p.prepare_time ≤ read_time

-- one that is named as passed by is such a writer, and is passed by rightly
pub record IsRightlySkipped (sh : Shard) (keys : List Key) (read_time least : ℕ) (s : Skipped) : Type 0 where
  pub entry : PreparedWriter
  pub named : s ≡ record { attempt = entry.attempt; coordinator = entry.coordinator; prepare_time = entry.prepare_time }
  pub asked : IsAskedAbout sh keys read_time entry
  pub unseen : least < entry.prepare_time
  pub unended : read_time < entry.earliest_end

-- a snapshot is answered: it shows each key's version at the read time; each prepared writer of its keys
-- up to the read time is passed by, and nobody else
pub record IsAnswered (sh : Shard) (read_time least : ℕ) (keys : List Key) (skip : Bool) (versions : List (Key × Version)) (skipped : List Skipped) : Type 0 where
  pub values : versions ≡ versions_at sh.store keys read_time
  pub each : (p : PreparedWriter) → IsAskedAbout sh keys read_time p → IsPassedBy read_time least skip skipped p
  pub rightly : EachOf (IsRightlySkipped sh keys read_time least) skipped

-- one that is named as blocking is a prepared writer of asked keys at the read time or before
pub record IsBlocking (sh : Shard) (keys : List Key) (read_time : ℕ) (h : Holder) : Type 0 where
  pub entry : PreparedWriter
  pub named : h ≡ record { attempt = entry.attempt; coordinator = entry.coordinator }
  pub asked : IsAskedAbout sh keys read_time entry

-- a snapshot is blocked: by one at least, and each that is named is in its way
pub record IsBlocked (sh : Shard) (keys : List Key) (read_time : ℕ) (holders : List Holder) : Type 0 where
  pub some : 0 < length holders
  pub each : EachOf (IsBlocking sh keys read_time) holders

-- a time is above all that a snapshot passed by
abbrev pub IsBefore : ℕ → Skipped → Type 0
IsBefore time s = time < s.prepare_time

-- a key is closed at a time, and shows a version at it
pub record ClosesAt (sh : Shard) (key : Key) (time : ℕ) (v : Version) : Type 0 where
  pub closed : IsClosed sh key time
  pub shows : version_at sh.store key time ≡ v
