-- What a shard does with a request, case by case: the one place that goes through the table.
use Rattle.std.proofs.Common.{◌≡◌, ℕ, max, Bool, true, false, ◌||◌, List, Option, Some, None, is_some, refl}
use Rattle.std.proofs.lemmas.Bool.{cond_both, or_parts}
use Rattle.rss_names.specs.declared.attempt.Attempt.{Attempt}
use Rattle.rss_names.specs.declared.service.Key.{Key}
use Rattle.rss_wire.specs.declared.messages.Request.{Request}
use Rattle.rss_wire.specs.declared.messages.Request.TheVariants.{Lock, Prepare, Decide, Commit, Abort, Inquire, Release, Snapshot, Fix, Ask, Stamp, Store}
use Rattle.rss_tables.specs.Locks.{LockHolder, Locks, holds, is_tombstoned, coordinator_in, after_wounds, taken}
use Rattle.rss_tables.specs.Prepared.{PreparedWriter, prepared_of, prepared_attempts, with_prepared}
use Rattle.rss_tables.specs.ShardRow.{Shard, keeps_decision, asked_outcome, prepare_time, prepares, commits, tombstones, aborts, can_release, releases, releases_last, is_clear, shard_after}

-- the locks of a shard where an attempt that is neither tombstoned nor holds asks for them
abbrev pub locked : Shard → LockHolder → Shard
locked sh new = record sh {
  locks = taken (after_wounds sh.locks (prepared_attempts sh.prepared) new.attempt new.reads new.writes) new;
}

-- the entry of an attempt that is prepared now
abbrev pub entry_now : Shard → ℕ → Attempt → ℕ → ℕ → List (Key × ℕ) → ℕ → PreparedWriter
entry_now sh latest attempt least earliest_end writes coordinator = record {
  attempt = attempt;
  coordinator = coordinator;
  prepare_time = prepare_time sh latest least;
  earliest_end = earliest_end;
  writes = writes;
}

-- what holds of each thing that a shard does with a request, with its reason
pub record Cases (sh : Shard) (latest : ℕ) (r : Request) (Q : Shard → Type 0) : Type 0 where
  pub rest : Q sh
  pub locks : (new : LockHolder) → r ≡ Lock new.attempt new.coordinator new.reads new.writes
      → is_tombstoned sh.locks new.attempt ≡ false → holds sh.locks new.attempt ≡ false → Q (locked sh new)
  pub prepares : (attempt : Attempt) (least earliest_end : ℕ) (writes : List (Key × ℕ)) (coordinator : ℕ)
      → r ≡ Prepare attempt least earliest_end writes → is_some (prepared_of sh.prepared attempt) ≡ false
      → coordinator_in sh.locks.holders attempt ≡ Some coordinator
      → Q (record sh { prepared = with_prepared sh.prepared (entry_now sh latest attempt least earliest_end writes coordinator) })
  pub decides : (attempt : Attempt) (commit : Bool) (time : ℕ) → r ≡ Decide attempt commit time
      → Q (keeps_decision sh attempt (asked_outcome commit time latest))
  pub commits : (attempt : Attempt) (time : ℕ) (p : PreparedWriter) → r ≡ Commit attempt time
      → prepared_of sh.prepared attempt ≡ Some p → Q (tombstones (commits sh attempt time (Some p)) attempt)
  pub buries : (attempt : Attempt) (time : ℕ) → r ≡ Commit attempt time
      → prepared_of sh.prepared attempt ≡ None → Q (tombstones sh attempt)
  pub aborts : (attempt : Attempt) → r ≡ Abort attempt → Q (aborts sh attempt)
  pub releases : (attempt : Attempt) (time : ℕ) (last : Bool) → r ≡ Release attempt time last
      → can_release sh attempt ≡ true → Q (releases_last (releases sh attempt time) attempt last)
  pub reads : (read_time least : ℕ) (keys : List Key) (skip : Bool) → r ≡ Snapshot read_time least keys skip
      → is_clear sh keys read_time least skip ≡ true → Q (record sh { floor = max sh.floor read_time })

pub cases : (sh : Shard) (latest : ℕ) (r : Request) (Q : Shard → Type 0) → Cases sh latest r Q → Q (shard_after sh latest r)
unfolding shard_after
cases sh latest (Lock attempt coordinator reads writes) Q k =
    cond_both (is_tombstoned sh.locks attempt || holds sh.locks attempt) sh.locks
    (taken (after_wounds sh.locks (prepared_attempts sh.prepared) attempt reads writes) record { attempt = attempt; coordinator = coordinator; reads = reads; writes = writes })
    (λ (l : Locks). Q (record sh { locks = l })) (λ e. k.rest)
    (λ e. let p = or_parts (is_tombstoned sh.locks attempt) (holds sh.locks attempt) e in
    k.locks record { attempt = attempt; coordinator = coordinator; reads = reads; writes = writes } refl p.0 p.1)
cases sh latest (Prepare attempt least earliest_end writes) Q k =
    cond_both (is_some (prepared_of sh.prepared attempt)) sh
    (prepares sh attempt (prepare_time sh latest least) earliest_end writes (coordinator_in sh.locks.holders attempt)) Q (λ e. k.rest)
    (λ e. by_coordinator e (coordinator_in sh.locks.holders attempt) refl)
  where
    by_coordinator : is_some (prepared_of sh.prepared attempt) ≡ false → (o : Option ℕ) → coordinator_in sh.locks.holders attempt ≡ o → Q (prepares sh attempt (prepare_time sh latest least) earliest_end writes o)
    by_coordinator e None f = k.rest
    by_coordinator e (Some c) f = k.prepares attempt least earliest_end writes c refl e f
cases sh latest (Decide attempt commit time) Q k = k.decides attempt commit time refl
cases sh latest (Commit attempt time) Q k = by_entry (prepared_of sh.prepared attempt) refl
  where
    by_entry : (o : Option PreparedWriter) → prepared_of sh.prepared attempt ≡ o → Q (tombstones (commits sh attempt time o) attempt)
    by_entry None f = k.buries attempt time refl f
    by_entry (Some p) f = k.commits attempt time p refl f
cases sh latest (Abort attempt) Q k = k.aborts attempt refl
cases sh latest (Inquire attempt) Q k = k.rest
cases sh latest (Release attempt time last) Q k =
    cond_both (can_release sh attempt) (releases_last (releases sh attempt time) attempt last) sh Q (λ e. k.releases attempt time last refl e) (λ e. k.rest)
cases sh latest (Snapshot read_time least keys skip) Q k =
    cond_both (is_clear sh keys read_time least skip) (record sh { floor = max sh.floor read_time }) sh Q (λ e. k.reads read_time least keys skip refl e) (λ e. k.rest)
cases sh latest (Fix deps) Q k = k.rest
cases sh latest (Ask key) Q k = k.rest
cases sh latest (Stamp key) Q k = k.rest
cases sh latest (Store key value stamp writer) Q k = k.rest
