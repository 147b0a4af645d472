-- The laws of a shard, request by request.
use Rattle.std.proofs.Common.{◌≡◌, ℕ, ◌≤◌, Bool, true, false, List, [], ◌∷◌, ◌++◌, Option, Some, None, is_some, max, refl, sym, ap, ◌∙◌, arith, if◌then◌else◌}
use Rattle.std.proofs.lemmas.Grind.{common_steps}
use Rattle.rss_names.specs.declared.attempt.Attempt.{Attempt}
use Rattle.rss_names.specs.declared.service.Key.{Key}
use Rattle.rss_names.specs.Services.{same_key}
use Rattle.rss_wire.specs.declared.messages.Outcome.{Outcome}
use Rattle.rss_wire.specs.declared.messages.Outcome.TheVariants.{Aborted}
use Rattle.rss_wire.specs.declared.messages.Request.{Request}
use Rattle.rss_wire.specs.declared.messages.Request.TheVariants.{Lock, Prepare, Decide, Commit, Abort, Inquire, Release, Snapshot, Fix, Ask, Stamp, Store}
use Rattle.rss_wire.specs.declared.messages.Version.{Version}
use Rattle.rss_tables.specs.Locks.{coordinator_in}
use Rattle.rss_tables.specs.Prepared.{PreparedWriter, prepared_of}
use Rattle.rss_tables.specs.Versions.{KeyVersions, versions_of, with_version}
use Rattle.rss_tables.specs.ShardRow.{Shard, decision_in, keeps_decision, asked_outcome, prepare_time, prepares, written_since, applied, commits, tombstones, can_release, releases, releases_last, is_clear, shard_after}
use Rattle.shard_versions.specs.Rows.{keys_of}
use Rattle.txn_shard.proofs.Decided.{first-stays}

-- what one decision more leaves
keeps-first : (sh : Shard) (attempt other : Attempt) (outcome kept : Outcome) → decision_in sh.decisions other ≡ Some kept → decision_in (keeps_decision sh attempt outcome).decisions other ≡ Some kept
keeps-first sh attempt other outcome kept h = go (is_some (decision_in sh.decisions attempt)) refl (first-stays sh.decisions attempt other outcome kept h)
  where
    go : (b : Bool) → is_some (decision_in sh.decisions attempt) ≡ b → decision_in (if is_some (decision_in sh.decisions attempt) then sh.decisions else sh.decisions ++ (attempt, outcome) ∷ []) other ≡ Some kept → decision_in (keeps_decision sh attempt outcome).decisions other ≡ Some kept
    go true q s = rw q h
    go false q s = rw q (rw q at s)

keeps-floor : (sh : Shard) (attempt : Attempt) (outcome : Outcome) → (keeps_decision sh attempt outcome).floor ≡ sh.floor
keeps-floor sh attempt outcome = go (is_some (decision_in sh.decisions attempt)) refl
  where
    go : (b : Bool) → is_some (decision_in sh.decisions attempt) ≡ b → (keeps_decision sh attempt outcome).floor ≡ sh.floor
    go true q = rw q refl
    go false q = rw q refl

keeps-store : (sh : Shard) (attempt : Attempt) (outcome : Outcome) → (keeps_decision sh attempt outcome).store ≡ sh.store
keeps-store sh attempt outcome = go (is_some (decision_in sh.decisions attempt)) refl
  where
    go : (b : Bool) → is_some (decision_in sh.decisions attempt) ≡ b → (keeps_decision sh attempt outcome).store ≡ sh.store
    go true q = rw q refl
    go false q = rw q refl

-- what a row changes by cases keeps what each case keeps
either : (P : Shard → Type 0) (b : Bool) (x y : Shard) → P x → P y → P (if b then x else y)
either P true x y p q = p
either P false x y p q = q

prepares-keeps : (P : Shard → Type 0) (sh : Shard) (attempt : Attempt) (time earliest_end : ℕ) (writes : List (Key × ℕ)) (o : Option ℕ) → P sh → ((p : List PreparedWriter) → P (record sh { prepared = p })) → P (prepares sh attempt time earliest_end writes o)
prepares-keeps P sh attempt time earliest_end writes None h f = h
prepares-keeps P sh attempt time earliest_end writes (Some c) h f = f _

with-keys : (store : List KeyVersions) (key : Key) (v : Version) → keys_of (with_version store key v) ≡ keys_of store
with-keys [] key v = refl
with-keys (kv ∷ store) key v = go (same_key kv.key key) refl (with-keys store key v)
  where
    go : (b : Bool) → same_key kv.key key ≡ b → keys_of (with_version store key v) ≡ keys_of store → keys_of (with_version (kv ∷ store) key v) ≡ keys_of (kv ∷ store)
    go true q ih = rw q refl
    go false q ih = rw q (ap (λ (l : List Key). kv.key ∷ l) ih)

applied-keys : (store : List KeyVersions) (call time : ℕ) (writes : List (Key × ℕ)) → keys_of (applied store call time writes) ≡ keys_of store
applied-keys store call time [] = refl
applied-keys store call time (w ∷ writes) = go (written_since (versions_of store w.0) time) refl (applied-keys store call time writes) (applied-keys (with_version store w.0 record { value = w.1; time = time; writer = call }) call time writes)
  where
    go : (b : Bool) → written_since (versions_of store w.0) time ≡ b → keys_of (applied store call time writes) ≡ keys_of store → keys_of (applied (with_version store w.0 record { value = w.1; time = time; writer = call }) call time writes) ≡ keys_of (with_version store w.0 record { value = w.1; time = time; writer = call }) → keys_of (applied store call time (w ∷ writes)) ≡ keys_of store
    go true q s t = rw q s
    go false q s t = rw q (t ∙ with-keys store w.0 record { value = w.1; time = time; writer = call })

commits-decisions : (sh : Shard) (attempt : Attempt) (time : ℕ) (o : Option PreparedWriter) → (commits sh attempt time o).decisions ≡ sh.decisions
commits-decisions sh attempt time None = refl
commits-decisions sh attempt time (Some p) = refl

commits-floor : (sh : Shard) (attempt : Attempt) (time : ℕ) (o : Option PreparedWriter) → sh.floor ≤ (commits sh attempt time o).floor
commits-floor sh attempt time None = omega arith
commits-floor sh attempt time (Some p) = omega arith

commits-keys : (sh : Shard) (attempt : Attempt) (time : ℕ) (o : Option PreparedWriter) → keys_of (commits sh attempt time o).store ≡ keys_of sh.store
commits-keys sh attempt time None = refl
commits-keys sh attempt time (Some p) = applied-keys sh.store attempt.call time p.writes

releases-first : (sh : Shard) (attempt : Attempt) (time : ℕ) (last : Bool) (other : Attempt) (kept : Outcome) → decision_in sh.decisions other ≡ Some kept → decision_in (releases_last (releases sh attempt time) attempt last).decisions other ≡ Some kept
releases-first sh attempt time true other kept h = keeps-first (releases sh attempt time) attempt other Aborted kept h
releases-first sh attempt time false other kept h = h

releases-floor : (sh : Shard) (attempt : Attempt) (time : ℕ) (last : Bool) → sh.floor ≤ (releases_last (releases sh attempt time) attempt last).floor
releases-floor sh attempt time true = rw (keeps-floor (releases sh attempt time) attempt Aborted) (omega arith)
releases-floor sh attempt time false = omega arith

releases-keys : (sh : Shard) (attempt : Attempt) (time : ℕ) (last : Bool) → keys_of (releases_last (releases sh attempt time) attempt last).store ≡ keys_of sh.store
releases-keys sh attempt time true = rw (keeps-store (releases sh attempt time) attempt Aborted) refl
releases-keys sh attempt time false = refl

pub first_decision_stays : (sh : Shard) (latest : ℕ) (r : Request) (attempt : Attempt) (outcome : Outcome) → decision_in sh.decisions attempt ≡ Some outcome → decision_in (shard_after sh latest r).decisions attempt ≡ Some outcome
unfolding shard_after
first_decision_stays sh latest (Lock a coordinator reads writes) attempt outcome h = h
first_decision_stays sh latest (Prepare a least earliest_end writes) attempt outcome h =
    either (λ (s : Shard). decision_in s.decisions attempt ≡ Some outcome) (is_some (prepared_of sh.prepared a)) sh _ h
    (prepares-keeps (λ (s : Shard). decision_in s.decisions attempt ≡ Some outcome) sh a (prepare_time sh latest least) earliest_end writes (coordinator_in sh.locks.holders a) h (λ p. h))
first_decision_stays sh latest (Decide a commit time) attempt outcome h = keeps-first sh a attempt (asked_outcome commit time latest) outcome h
first_decision_stays sh latest (Commit a commit_time) attempt outcome h = rw (commits-decisions sh a commit_time (prepared_of sh.prepared a)) h
first_decision_stays sh latest (Abort a) attempt outcome h = h
first_decision_stays sh latest (Inquire a) attempt outcome h = h
first_decision_stays sh latest (Release a time last) attempt outcome h =
    either (λ (s : Shard). decision_in s.decisions attempt ≡ Some outcome) (can_release sh a) (releases_last (releases sh a time) a last) sh (releases-first sh a time last attempt outcome h) h
first_decision_stays sh latest (Snapshot read_time least keys skip) attempt outcome h =
    either (λ (s : Shard). decision_in s.decisions attempt ≡ Some outcome) (is_clear sh keys read_time least skip) (record sh { floor = max sh.floor read_time }) sh h h
first_decision_stays sh latest (Fix deps) attempt outcome h = h
first_decision_stays sh latest (Ask key) attempt outcome h = h
first_decision_stays sh latest (Stamp key) attempt outcome h = h
first_decision_stays sh latest (Store key value stamp writer) attempt outcome h = h

pub floor_never_falls : (sh : Shard) (latest : ℕ) (r : Request) → sh.floor ≤ (shard_after sh latest r).floor
unfolding shard_after
floor_never_falls sh latest (Lock a coordinator reads writes) = omega arith
floor_never_falls sh latest (Prepare a least earliest_end writes) =
    either (λ (s : Shard). sh.floor ≤ s.floor) (is_some (prepared_of sh.prepared a)) sh _ (omega arith)
    (prepares-keeps (λ (s : Shard). sh.floor ≤ s.floor) sh a (prepare_time sh latest least) earliest_end writes (coordinator_in sh.locks.holders a) (omega arith) (λ p. omega arith))
floor_never_falls sh latest (Decide a commit time) = rw (keeps-floor sh a (asked_outcome commit time latest)) (omega arith)
floor_never_falls sh latest (Commit a commit_time) = commits-floor sh a commit_time (prepared_of sh.prepared a)
floor_never_falls sh latest (Abort a) = omega arith
floor_never_falls sh latest (Inquire a) = omega arith
floor_never_falls sh latest (Release a time last) =
    either (λ (s : Shard). sh.floor ≤ s.floor) (can_release sh a) (releases_last (releases sh a time) a last) sh (releases-floor sh a time last) (omega arith)
floor_never_falls sh latest (Snapshot read_time least keys skip) =
    either (λ (s : Shard). sh.floor ≤ s.floor) (is_clear sh keys read_time least skip) (record sh { floor = max sh.floor read_time }) sh (omega arith) (omega arith)
floor_never_falls sh latest (Fix deps) = omega arith
floor_never_falls sh latest (Ask key) = omega arith
floor_never_falls sh latest (Stamp key) = omega arith
floor_never_falls sh latest (Store key value stamp writer) = omega arith

pub keys_stay : (sh : Shard) (latest : ℕ) (r : Request) → keys_of (shard_after sh latest r).store ≡ keys_of sh.store
unfolding shard_after
keys_stay sh latest (Lock a coordinator reads writes) = refl
keys_stay sh latest (Prepare a least earliest_end writes) =
    either (λ (s : Shard). keys_of s.store ≡ keys_of sh.store) (is_some (prepared_of sh.prepared a)) sh _ refl
    (prepares-keeps (λ (s : Shard). keys_of s.store ≡ keys_of sh.store) sh a (prepare_time sh latest least) earliest_end writes (coordinator_in sh.locks.holders a) refl (λ p. refl))
keys_stay sh latest (Decide a commit time) = ap (λ (s : List KeyVersions). keys_of s) (keeps-store sh a (asked_outcome commit time latest))
keys_stay sh latest (Commit a commit_time) = commits-keys sh a commit_time (prepared_of sh.prepared a)
keys_stay sh latest (Abort a) = refl
keys_stay sh latest (Inquire a) = refl
keys_stay sh latest (Release a time last) =
    either (λ (s : Shard). keys_of s.store ≡ keys_of sh.store) (can_release sh a) (releases_last (releases sh a time) a last) sh (releases-keys sh a time last) refl
keys_stay sh latest (Snapshot read_time least keys skip) =
    either (λ (s : Shard). keys_of s.store ≡ keys_of sh.store) (is_clear sh keys read_time least skip) (record sh { floor = max sh.floor read_time }) sh refl refl
keys_stay sh latest (Fix deps) = refl
keys_stay sh latest (Ask key) = refl
keys_stay sh latest (Stamp key) = refl
keys_stay sh latest (Store key value stamp writer) = refl
