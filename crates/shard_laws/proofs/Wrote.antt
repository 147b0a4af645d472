-- What the commit of a prepared attempt adds to the versions of a key, and where versions come from.
use Rattle.std.proofs.Common.{◌≡◌, ◌⊎◌, inl, inr, ℕ, Bool, true, false, List, [], ◌∷◌, ◌++◌, Option, Some, None, refl, sym, ap, ◌∙◌, subst}
use Rattle.std.specs.Prelude.{if◌then◌else◌}
use Rattle.std.proofs.lemmas.Bool.{or_parts, or_from, or_left, or_right}
use Rattle.rss_names.specs.declared.attempt.Attempt.{Attempt}
use Rattle.rss_names.specs.declared.service.Key.{Key}
use Rattle.rss_names.specs.Services.{same_key}
use Rattle.rss_wire.specs.declared.messages.Outcome.TheVariants.{Aborted}
use Rattle.rss_wire.specs.declared.messages.Request.{Request}
use Rattle.rss_wire.specs.declared.messages.Request.TheVariants.{Commit}
use Rattle.rss_wire.specs.declared.messages.Version.{Version}
use Rattle.rss_tables.specs.Locks.{has_key}
use Rattle.rss_tables.specs.Prepared.{PreparedWriter, prepared_of}
use Rattle.rss_tables.specs.Versions.{KeyVersions, versions_of}
use Rattle.rss_tables.specs.ShardRow.{Shard, written_since, applied, commits, releases, releases_last, shard_after}
use Rattle.shard_laws.specs.Closed.{EachOf}
use Rattle.shard_laws.specs.Committed.{written_value, keeps_key, version_by}
use Rattle.shard_laws.specs.Fitting.{is_written}
use Rattle.shard_laws.proofs.Cases.{cases}
use Rattle.shard_laws.proofs.Rising.{each_append, all_before}
use Rattle.shard_laws.proofs.Closes.{decides_beside}
use Rattle.shard_laws.proofs.Commits.{commit_writes, commit_leaves, written_stays, commit_store}
use Rattle.shard_laws.proofs.Releases.{keys_later}
use Rattle.shard_laws.specs.Orderly.{IsOrderly}
use Rattle.shard_laws.proofs.Found.{prepared_attempt, prepared_itself}

-- a store has no versions of a key that it does not keep
unkept_none : (store : List KeyVersions) (key : Key) → keeps_key store key ≡ false → versions_of store key ≡ []
unkept_none [] key e = refl
unkept_none (kv ∷ store) key e =
    let p = or_parts (same_key kv.key key) (keeps_key store key) e in
    rw p.0 (unkept_none store key p.1)

-- a key that has no value among writes is not written
pub no_value : (writes : List (Key × ℕ)) (key : Key) → written_value writes key ≡ None → is_written writes key ≡ false
no_value [] key e = refl
no_value (w ∷ writes) key e = by_test (same_key w.0 key) refl e (no_value writes key)
  where
    by_test : (b : Bool) → same_key w.0 key ≡ b → (if b then Some w.1 else written_value writes key) ≡ None → (written_value writes key ≡ None → is_written writes key ≡ false) → is_written (w ∷ writes) key ≡ false
    by_test true s g ih = absurd (let x : ◌≡◌ {A = Option ℕ} (Some w.1) None = g in cc)
    by_test false s g ih = or_from (has_key (key ∷ []) w.0) (is_written writes key) (or_from (same_key w.0 key) false s refl) (ih g)

-- one that has a value is
pub some_value : (writes : List (Key × ℕ)) (key : Key) (value : ℕ) → written_value writes key ≡ Some value → is_written writes key ≡ true
some_value [] key value e = absurd (let x : ◌≡◌ {A = Option ℕ} None (Some value) = e in cc)
some_value (w ∷ writes) key value e = by_test (same_key w.0 key) refl e (some_value writes key value)
  where
    by_test : (b : Bool) → same_key w.0 key ≡ b → (if b then Some w.1 else written_value writes key) ≡ Some value → (written_value writes key ≡ Some value → is_written writes key ≡ true) → is_written (w ∷ writes) key ≡ true
    by_test true s g ih = or_left (has_key (key ∷ []) w.0) (is_written writes key) (or_left (same_key w.0 key) false s)
    by_test false s g ih = or_right (has_key (key ∷ []) w.0) (is_written writes key) (ih g)

-- a commit makes the first value of an attempt for a key one more version of it
pub record Wrote (sh : Shard) (latest time : ℕ) (p : PreparedWriter) (key : Key) : Type 0 where
  pub value : ℕ
  pub first : written_value p.writes key ≡ Some value
  pub grown : versions_of (shard_after sh latest (Commit p.attempt time)).store key ≡ versions_of sh.store key ++ version_by p time value ∷ []

-- or it leaves the versions of the key
pub commit_cases : (sh : Shard) (latest time : ℕ) (p : PreparedWriter) → prepared_of sh.prepared p.attempt ≡ Some p → (key : Key) → (versions_of (shard_after sh latest (Commit p.attempt time)).store key ≡ versions_of sh.store key) ⊎ Wrote sh latest time p key
commit_cases sh latest time p e key = by_kept (keeps_key sh.store key) refl
  where
    by_value : keeps_key sh.store key ≡ true → written_since (versions_of sh.store key) time ≡ false → (v : Option ℕ) → written_value p.writes key ≡ v → (versions_of (shard_after sh latest (Commit p.attempt time)).store key ≡ versions_of sh.store key) ⊎ Wrote sh latest time p key
    by_value k s None v = inl (commit_leaves sh latest time p e key (no_value p.writes key v))
    by_value k s (Some value) v = inr record { value = value; first = v; grown = commit_writes sh latest time p e key value v k (all_before (versions_of sh.store key) time s) }

    by_since : keeps_key sh.store key ≡ true → (b : Bool) → written_since (versions_of sh.store key) time ≡ b → (versions_of (shard_after sh latest (Commit p.attempt time)).store key ≡ versions_of sh.store key) ⊎ Wrote sh latest time p key
    by_since k true s = inl (ap (λ (store : List KeyVersions). versions_of store key) (commit_store sh latest time p e) ∙ written_stays sh.store p.attempt.call time key p.writes s)
    by_since k false s = by_value k s (written_value p.writes key) refl

    by_kept : (b : Bool) → keeps_key sh.store key ≡ b → (versions_of (shard_after sh latest (Commit p.attempt time)).store key ≡ versions_of sh.store key) ⊎ Wrote sh latest time p key
    by_kept true k = by_since k (written_since (versions_of sh.store key) time) refl
    by_kept false k = inl (unkept_none (shard_after sh latest (Commit p.attempt time)).store key (keys_later sh ((latest, Commit p.attempt time) ∷ []) key ∙ k) ∙ sym (unkept_none sh.store key k))

-- what holds of the versions of a key, and of each that a commit makes, holds of those after a request
pub versions_from : (sh : Shard) (latest : ℕ) (r : Request) → IsOrderly sh → (P : Version → Type 0) (key : Key) → EachOf P (versions_of sh.store key) → ((p : PreparedWriter) (time value : ℕ) → r ≡ Commit p.attempt time → prepared_of sh.prepared p.attempt ≡ Some p → written_value p.writes key ≡ Some value → P record { value = value; time = time; writer = p.attempt.call }) → EachOf P (versions_of (shard_after sh latest r).store key)
versions_from sh latest r o P key h f = cases sh latest r (λ (w : Shard). EachOf P (versions_of w.store key)) record {
  rest = h;
  locks = λ new i t n. h;
  prepares = λ b l e ws c i n g. h;
  decides = λ b c t i. decides_beside (λ (s : List KeyVersions) (n : ℕ). EachOf P (versions_of s key)) sh b _ h;
  commits = λ b t p i g. committed b t p i g;
  buries = λ b t i g. h;
  aborts = λ b i. h;
  releases = λ b t last i e. released b t last;
  reads = λ t l ks s i e. h;
}
  where
    by_case : (t : ℕ) (p : PreparedWriter) → r ≡ Commit p.attempt t → prepared_of sh.prepared p.attempt ≡ Some p → (versions_of (shard_after sh latest (Commit p.attempt t)).store key ≡ versions_of sh.store key) ⊎ Wrote sh latest t p key → EachOf P (versions_of (shard_after sh latest (Commit p.attempt t)).store key)
    by_case t p i e (inl s) = subst (EachOf P) (sym s) h
    by_case t p i e (inr w) = subst (EachOf P) (sym w.grown) (each_append P (versions_of sh.store key) (version_by p t w.value ∷ []) h (f p t w.value i e w.first, tt))

    committed : (b : Attempt) (t : ℕ) (p : PreparedWriter) → r ≡ Commit b t → prepared_of sh.prepared b ≡ Some p → EachOf P (versions_of (applied sh.store b.call t p.writes) key)
    committed b t p i g =
        let same = prepared_attempt sh.prepared b p g in
        let there = prepared_itself sh.prepared b p g in
        subst (λ (a : Attempt). EachOf P (versions_of (applied sh.store a.call t p.writes) key)) same
        (subst (λ (s : List KeyVersions). EachOf P (versions_of s key)) (commit_store sh latest t p there)
        (by_case t p (i ∙ ap (λ (a : Attempt). Commit a t) (sym same)) there (commit_cases sh latest t p there key)))

    released : (b : Attempt) (t : ℕ) (last : Bool) → EachOf P (versions_of (releases_last (releases sh b t) b last).store key)
    released b t true = decides_beside (λ (s : List KeyVersions) (n : ℕ). EachOf P (versions_of s key)) (releases sh b t) b Aborted h
    released b t false = h
