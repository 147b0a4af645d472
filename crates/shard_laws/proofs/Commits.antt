-- What a commit writes, key by key.
use Rattle.std.proofs.Common.{◌≡◌, ◌⊎◌, inl, inr, ℕ, Bool, true, false, ◌||◌, List, [], ◌∷◌, ◌++◌, Option, Some, None, refl, sym, ap, ◌∙◌, subst, arith}
use Rattle.std.specs.Prelude.{if◌then◌else◌, nat_le, ⊤}
use Rattle.std.proofs.lemmas.Bool.{cond_both, true≢false, or_from, or_left, or_right, lt-leb, le-leb}
use Rattle.std.proofs.lemmas.List.Folds.{list_any-append}
use Rattle.rss_names.specs.declared.service.Key.{Key}
use Rattle.rss_names.specs.Services.{same_key}
use Rattle.rss_names.proofs.Services.{same_key-Decides}
use Rattle.rss_wire.specs.declared.messages.Request.TheVariants.{Commit}
use Rattle.rss_wire.specs.declared.messages.Version.{Version}
use Rattle.rss_tables.specs.Prepared.{PreparedWriter, prepared_of}
use Rattle.rss_tables.specs.Versions.{KeyVersions, versions_of, with_version}
use Rattle.rss_tables.specs.ShardRow.{Shard, written_since, applied, commits, tombstones, shard_after}
use Rattle.shard_laws.specs.Closed.{EachOf, writes_key}
use Rattle.shard_laws.specs.Committed.{written_value, keeps_key, IsBelow, version_by}
use Rattle.shard_laws.proofs.Fits.{unwritten_stays}
use Rattle.shard_laws.proofs.Rising.{version_put, applied_keeps, each_any}

-- a key that a store has gets its version
put_there : (store : List KeyVersions) (key : Key) (v : Version) → keeps_key store key ≡ true → versions_of (with_version store key v) key ≡ versions_of store key ++ v ∷ []
put_there [] key v h = absurd (true≢false (sym h))
put_there (kv ∷ store) key v h = by_test (same_key kv.key key) refl h (put_there store key v)
  where
    by_test : (b : Bool) → same_key kv.key key ≡ b → (b || keeps_key store key) ≡ true → (keeps_key store key ≡ true → versions_of (with_version store key v) key ≡ versions_of store key ++ v ∷ []) → versions_of (with_version (kv ∷ store) key v) key ≡ versions_of (kv ∷ store) key ++ v ∷ []
    by_test true e h ih = rw e (rw e refl)
    by_test false e h ih = rw e (rw e (ih h))

-- a store keeps its keys
pub keys_stay : (store : List KeyVersions) (other key : Key) (v : Version) → keeps_key (with_version store other v) key ≡ keeps_key store key
keys_stay [] other key v = refl
keys_stay (kv ∷ store) other key v = by_test (same_key kv.key other) refl (keys_stay store other key v)
  where
    by_test : (b : Bool) → same_key kv.key other ≡ b → keeps_key (with_version store other v) key ≡ keeps_key store key → keeps_key (with_version (kv ∷ store) other v) key ≡ keeps_key (kv ∷ store) key
    by_test true e ih = rw e refl
    by_test false e ih = rw e (ap (λ (t : Bool). same_key kv.key key || t) ih)

-- below a time nothing is written since
not_written : (vs : List Version) (time : ℕ) → EachOf (IsBelow time) vs → written_since vs time ≡ false
not_written [] time h = refl
not_written (v ∷ vs) time h = or_from (nat_le time v.time) (written_since vs time) (lt-leb time v.time h.0) (not_written vs time h.1)

-- what is written at a time is written since
written_now : (vs : List Version) (v : Version) → written_since (vs ++ v ∷ []) v.time ≡ true
written_now vs v = list_any-append (λ (u : Version). nat_le v.time u.time) vs (v ∷ []) ∙ or_right (written_since vs v.time) (nat_le v.time v.time || false) (or_left (nat_le v.time v.time) false (le-leb v.time v.time (omega arith)))

-- a key that is written since is not written again
pub written_stays : (store : List KeyVersions) (call time : ℕ) (key : Key) (writes : List (Key × ℕ)) → written_since (versions_of store key) time ≡ true → versions_of (applied store call time writes) key ≡ versions_of store key
written_stays store call time key writes h = applied_keeps (λ (s : List KeyVersions). versions_of s key ≡ versions_of store key) call time (λ (w : Key × ℕ). ⊤) step writes (each_any writes) store refl
  where
    step : (s : List KeyVersions) (w : Key × ℕ) → ⊤ → written_since (versions_of s w.0) time ≡ false → versions_of s key ≡ versions_of store key → versions_of (with_version s w.0 record { value = w.1; time = time; writer = call }) key ≡ versions_of store key
    step s w q n e = by_key (version_put s w.0 record { value = w.1; time = time; writer = call } key)
      where
        by_key : ((versions_of (with_version s w.0 record { value = w.1; time = time; writer = call }) key ≡ versions_of s key ++ record { value = w.1; time = time; writer = call } ∷ []) × (w.0 ≡ key)) ⊎ (versions_of (with_version s w.0 record { value = w.1; time = time; writer = call }) key ≡ versions_of s key) → versions_of (with_version s w.0 record { value = w.1; time = time; writer = call }) key ≡ versions_of store key
        by_key (inl i) = absurd (true≢false (sym h ∙ ap (λ (vs : List Version). written_since vs time) (sym e) ∙ ap (λ (k : Key). written_since (versions_of s k) time) (sym i.1) ∙ n))
        by_key (inr i) = i ∙ e

-- a key that is written at a time above its versions gets the first value
applied_first : (call time : ℕ) (key : Key) (value : ℕ) (writes : List (Key × ℕ)) → written_value writes key ≡ Some value → (store : List KeyVersions) → keeps_key store key ≡ true → EachOf (IsBelow time) (versions_of store key) → versions_of (applied store call time writes) key ≡ versions_of store key ++ record { value = value; time = time; writer = call } ∷ []
applied_first call time key value [] e store k b = absurd (let x : ◌≡◌ {A = Option ℕ} None (Some value) = e in cc)
applied_first call time key value (w ∷ writes) e store k b = by_test (same_key w.0 key) refl e (applied_first call time key value writes)
  where
    put : List KeyVersions
    put = with_version store w.0 record { value = w.1; time = time; writer = call }

    first : w.0 ≡ key → w.1 ≡ value → versions_of (applied store call time (w ∷ writes)) key ≡ versions_of store key ++ record { value = value; time = time; writer = call } ∷ []
    first i j =
        let now : versions_of (with_version store w.0 record { value = w.1; time = time; writer = call }) key ≡ versions_of store key ++ record { value = w.1; time = time; writer = call } ∷ [] = ap (λ (z : Key). versions_of (with_version store z record { value = w.1; time = time; writer = call }) key) i ∙ put_there store key record { value = w.1; time = time; writer = call } k in
        let since : written_since (versions_of (with_version store w.0 record { value = w.1; time = time; writer = call }) key) time ≡ true = ap (λ (vs : List Version). written_since vs time) now ∙ written_now (versions_of store key) record { value = w.1; time = time; writer = call } in
        let not_yet : written_since (versions_of store w.0) time ≡ false = ap (λ (z : Key). written_since (versions_of store z) time) i ∙ not_written (versions_of store key) time b in
        ap (λ (t : Bool). versions_of (applied (if t then store else with_version store w.0 record { value = w.1; time = time; writer = call }) call time writes) key) not_yet
        ∙ written_stays (with_version store w.0 record { value = w.1; time = time; writer = call }) call time key writes since
        ∙ now
        ∙ ap (λ (z : ℕ). versions_of store key ++ record { value = z; time = time; writer = call } ∷ []) j

    other : same_key w.0 key ≡ false → ((s : List KeyVersions) → keeps_key s key ≡ true → EachOf (IsBelow time) (versions_of s key) → versions_of (applied s call time writes) key ≡ versions_of s key ++ record { value = value; time = time; writer = call } ∷ []) → versions_of (applied store call time (w ∷ writes)) key ≡ versions_of store key ++ record { value = value; time = time; writer = call } ∷ []
    other n ih =
        cond_both (written_since (versions_of store w.0) time) store (with_version store w.0 record { value = w.1; time = time; writer = call })
        (λ (s : List KeyVersions). versions_of (applied s call time writes) key ≡ versions_of store key ++ record { value = value; time = time; writer = call } ∷ [])
        (λ f. ih store k b)
        (λ f. by_key (version_put store w.0 record { value = w.1; time = time; writer = call } key))
      where
        by_key : ((versions_of (with_version store w.0 record { value = w.1; time = time; writer = call }) key ≡ versions_of store key ++ record { value = w.1; time = time; writer = call } ∷ []) × (w.0 ≡ key)) ⊎ (versions_of (with_version store w.0 record { value = w.1; time = time; writer = call }) key ≡ versions_of store key) → versions_of (applied (with_version store w.0 record { value = w.1; time = time; writer = call }) call time writes) key ≡ versions_of store key ++ record { value = value; time = time; writer = call } ∷ []
        by_key (inl i) = absurd (true≢false (sym ((same_key-Decides w.0 key).1 i.1) ∙ n))
        by_key (inr i) = ih (with_version store w.0 record { value = w.1; time = time; writer = call }) (keys_stay store w.0 key record { value = w.1; time = time; writer = call } ∙ k) (subst (EachOf (IsBelow time)) (sym i) b) ∙ ap (λ (vs : List Version). vs ++ record { value = value; time = time; writer = call } ∷ []) i

    by_test : (t : Bool) → same_key w.0 key ≡ t → (if t then Some w.1 else written_value writes key) ≡ Some value → (written_value writes key ≡ Some value → (s : List KeyVersions) → keeps_key s key ≡ true → EachOf (IsBelow time) (versions_of s key) → versions_of (applied s call time writes) key ≡ versions_of s key ++ record { value = value; time = time; writer = call } ∷ []) → versions_of (applied store call time (w ∷ writes)) key ≡ versions_of store key ++ record { value = value; time = time; writer = call } ∷ []
    by_test true f g ih =
        let x : ◌≡◌ {A = Option ℕ} (Some w.1) (Some value) = g in
        first ((same_key-Decides w.0 key).0 f) cc
    by_test false f g ih = other f (ih g)

pub commit_store : (sh : Shard) (latest time : ℕ) (p : PreparedWriter) → prepared_of sh.prepared p.attempt ≡ Some p → (shard_after sh latest (Commit p.attempt time)).store ≡ applied sh.store p.attempt.call time p.writes
unfolding shard_after
commit_store sh latest time p e = ap (λ (o : Option PreparedWriter). (tombstones (commits sh p.attempt time o) p.attempt).store) e

pub commit_writes : (sh : Shard) (latest time : ℕ) (p : PreparedWriter) → prepared_of sh.prepared p.attempt ≡ Some p → (key : Key) (value : ℕ) → written_value p.writes key ≡ Some value → keeps_key sh.store key ≡ true → EachOf (IsBelow time) (versions_of sh.store key) → versions_of (shard_after sh latest (Commit p.attempt time)).store key ≡ versions_of sh.store key ++ version_by p time value ∷ []
commit_writes sh latest time p e key value w k b = ap (λ (s : List KeyVersions). versions_of s key) (commit_store sh latest time p e) ∙ applied_first p.attempt.call time key value p.writes w sh.store k b

pub commit_leaves : (sh : Shard) (latest time : ℕ) (p : PreparedWriter) → prepared_of sh.prepared p.attempt ≡ Some p → (key : Key) → writes_key p key ≡ false → versions_of (shard_after sh latest (Commit p.attempt time)).store key ≡ versions_of sh.store key
commit_leaves sh latest time p e key n = ap (λ (s : List KeyVersions). versions_of s key) (commit_store sh latest time p e) ∙ unwritten_stays sh.store p.attempt.call time p key n
