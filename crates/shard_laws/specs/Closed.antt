-- The versions of a shard's keys over time: that they rise, where new ones come from, and which times are closed.
use Rattle.std.specs.Prelude.{◌≡◌, ◌⊎◌, ⊤, ℕ, ◌<◌, ◌≤◌, Bool, List, [], ◌∷◌, ◌++◌, Some, IsTrue}
use Rattle.rss_names.specs.declared.service.Key.{Key}
use Rattle.rss_wire.specs.declared.messages.Request.{Request}
use Rattle.rss_wire.specs.declared.messages.Request.TheVariants.{Lock, Prepare, Decide, Commit, Abort, Inquire, Release, Snapshot, Fix, Ask, Stamp, Store}
use Rattle.rss_wire.specs.declared.messages.Version.{Version}
use Rattle.rss_tables.specs.Prepared.{PreparedWriter, prepared_of, writes_any}
use Rattle.rss_tables.specs.Versions.{versions_of}
use Rattle.rss_tables.specs.ShardRow.{Shard, shard_after}

-- something holds of each member of a list
abbrev pub EachOf : {X : Type 0} → (X → Type 0) → List X → Type 0
EachOf P [] = ⊤
EachOf P (x ∷ xs) = P x × EachOf P xs

-- a version is at most, or above, a time
abbrev pub IsAtMost : ℕ → Version → Type 0
IsAtMost time v = v.time ≤ time

abbrev pub IsAbove : ℕ → Version → Type 0
IsAbove time v = time < v.time

-- the times of versions rise strictly
abbrev pub AreRising : List Version → Type 0
AreRising [] = ⊤
AreRising (v ∷ versions) = EachOf (IsAbove v.time) versions × AreRising versions

-- whether a prepared writer writes a key
abbrev pub writes_key : PreparedWriter → Key → Bool
writes_key p key = writes_any (key ∷ []) p

-- a commit of a prepared attempt comes at its prepare time or later
abbrev pub IsTimely : Shard → Request → Type 0
IsTimely sh (Lock a coordinator reads writes) = ⊤
IsTimely sh (Prepare a least earliest_end writes) = ⊤
IsTimely sh (Decide a commit time) = ⊤
IsTimely sh (Commit a time) = (p : PreparedWriter) → prepared_of sh.prepared a ≡ Some p → p.prepare_time ≤ time
IsTimely sh (Abort a) = ⊤
IsTimely sh (Inquire a) = ⊤
IsTimely sh (Release a time last) = ⊤
IsTimely sh (Snapshot read_time least keys skip) = ⊤
IsTimely sh (Fix deps) = ⊤
IsTimely sh (Ask key) = ⊤
IsTimely sh (Stamp key) = ⊤
IsTimely sh (Store key value stamp writer) = ⊤

-- each commit among requests does
abbrev pub AreTimely : Shard → List (ℕ × Request) → Type 0
AreTimely sh [] = ⊤
AreTimely sh (r ∷ requests) = IsTimely sh r.1 × AreTimely (shard_after sh r.0 r.1) requests

-- a version is written by an attempt that is prepared in a state, at its prepare time or later
pub record IsOfPrepared (sh : Shard) (key : Key) (v : Version) : Type 0 where
  pub entry : PreparedWriter
  pub there : prepared_of sh.prepared entry.attempt ≡ Some entry
  pub writes : IsTrue (writes_key entry key)
  pub writer : v.writer ≡ entry.attempt.call
  pub time : entry.prepare_time ≤ v.time

-- a version that is not there yet comes above the floor, or from an attempt that is prepared already
abbrev pub ComesLater : Shard → Key → Version → Type 0
ComesLater sh key v = (sh.floor < v.time) ⊎ IsOfPrepared sh key v

-- the versions of a key in a later state are those of an earlier one and, behind them, such that come later
pub record GrowLater (sh later : Shard) (key : Key) : Type 0 where
  pub more : List Version
  pub grown : versions_of later.store key ≡ versions_of sh.store key ++ more
  pub each : EachOf (ComesLater sh key) more

-- a time is closed for a key: the shard was read or written at it or later, and no prepared writer of the
-- key can commit at it or before
pub record IsClosed (sh : Shard) (key : Key) (time : ℕ) : Type 0 where
  pub floor : time ≤ sh.floor
  pub writers : (p : PreparedWriter) → prepared_of sh.prepared p.attempt ≡ Some p → IsTrue (writes_key p key) → time < p.prepare_time
