-- Prepared attempts write only what they locked, and what holds where they do.
use Rattle.std.specs.Prelude.{◌≡◌, ⊤, ℕ, Bool, ◌||◌, List, [], ◌∷◌, Some, IsTrue}
use Rattle.std.specs.List.{list_any}
use Rattle.rss_names.specs.declared.attempt.Attempt.{Attempt}
use Rattle.rss_names.specs.declared.service.Key.{Key}
use Rattle.rss_wire.specs.declared.messages.Request.{Request}
use Rattle.rss_wire.specs.declared.messages.Request.TheVariants.{Lock, Prepare, Decide, Commit, Abort, Inquire, Release, Snapshot, Fix, Ask, Stamp, Store}
use Rattle.rss_tables.specs.Locks.{LockHolder, has_key}
use Rattle.rss_tables.specs.Prepared.{PreparedWriter, prepared_of}
use Rattle.rss_tables.specs.ShardRow.{Shard, shard_after}
use Rattle.shard_laws.specs.Entries.{holder_of}
use Rattle.shard_laws.specs.Closed.{writes_key}

-- whether a holder locked a key
abbrev pub locks_key : LockHolder → Key → Bool
locks_key h key = has_key h.reads key || has_key h.writes key

-- whether a key is among writes
abbrev pub is_written : List (Key × ℕ) → Key → Bool
is_written writes key = list_any (λ (w : Key × ℕ). has_key (key ∷ []) w.0) writes

-- a prepared attempt writes only keys that it locked to write
pub record WritesAreLocked (sh : Shard) : Type 0 where
  pub each : (p : PreparedWriter) (h : LockHolder) → prepared_of sh.prepared p.attempt ≡ Some p
      → holder_of sh.locks.holders p.attempt ≡ Some h → (key : Key) → IsTrue (writes_key p key) → IsTrue (has_key h.writes key)

-- an attempt asks to prepare only writes of keys that it locked to write
abbrev pub IsFitting : Shard → Request → Type 0
IsFitting sh (Lock a coordinator reads writes) = ⊤
IsFitting sh (Prepare a least earliest_end writes) =
    (h : LockHolder) → holder_of sh.locks.holders a ≡ Some h → (key : Key) → IsTrue (is_written writes key) → IsTrue (has_key h.writes key)
IsFitting sh (Decide a commit time) = ⊤
IsFitting sh (Commit a time) = ⊤
IsFitting sh (Abort a) = ⊤
IsFitting sh (Inquire a) = ⊤
IsFitting sh (Release a time last) = ⊤
IsFitting sh (Snapshot read_time least keys skip) = ⊤
IsFitting sh (Fix deps) = ⊤
IsFitting sh (Ask key) = ⊤
IsFitting sh (Stamp key) = ⊤
IsFitting sh (Store key value stamp writer) = ⊤

-- each of some requests does
abbrev pub AreFitting : Shard → List (ℕ × Request) → Type 0
AreFitting sh [] = ⊤
AreFitting sh (r ∷ requests) = IsFitting sh r.1 × AreFitting (shard_after sh r.0 r.1) requests

-- an attempt is prepared at a time
pub record IsPreparedAt (sh : Shard) (attempt : Attempt) (time : ℕ) : Type 0 where
  pub entry : PreparedWriter
  pub there : prepared_of sh.prepared attempt ≡ Some entry
  pub at : entry.prepare_time ≡ time
