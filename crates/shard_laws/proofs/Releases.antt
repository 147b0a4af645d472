-- What a release closes; and that a shard keeps its keys.
use Rattle.std.proofs.Common.{◌≡◌, ℕ, ◌<◌, ◌≤◌, Bool, true, false, List, Option, Some, None, refl, sym, ap, ◌∙◌, subst, arith}
use Rattle.std.specs.Prelude.{if◌then◌else◌, ⊤}
use Rattle.std.proofs.lemmas.Bool.{true≢false, false_from_ne_true}
use Rattle.rss_names.specs.declared.attempt.Attempt.{Attempt}
use Rattle.rss_names.specs.declared.service.Key.{Key}
use Rattle.rss_wire.specs.declared.messages.Outcome.TheVariants.{Aborted}
use Rattle.rss_wire.specs.declared.messages.Request.{Request}
use Rattle.rss_wire.specs.declared.messages.Request.TheVariants.{Release}
use Rattle.rss_tables.specs.Attempts.{same_attempt}
use Rattle.rss_tables.specs.Locks.{Locks, LockHolder}
use Rattle.rss_tables.specs.Prepared.{PreparedWriter, prepared_of}
use Rattle.rss_tables.specs.Versions.{KeyVersions}
use Rattle.rss_tables.specs.ShardRow.{Shard, opening_shard, can_release, releases, releases_last, shard_after}
use Rattle.shard_laws.specs.Served.{served, IsReached}
use Rattle.shard_laws.specs.Entries.{entry_of, prepared_by, holder_of}
use Rattle.shard_laws.specs.Closed.{writes_key, IsClosed}
use Rattle.shard_laws.specs.Committed.{keeps_key}
use Rattle.shard_laws.specs.Fitting.{locks_key, WritesAreLocked}
use Rattle.shard_laws.proofs.Cases.{cases}
use Rattle.shard_laws.proofs.Entries.{same_is}
use Rattle.shard_laws.proofs.Lists.{prepared_is}
use Rattle.shard_laws.proofs.Served.{served_keeps}
use Rattle.shard_laws.proofs.Holding.{only_decides, released_is}
use Rattle.shard_laws.proofs.Rising.{applied_keeps, each_any}
use Rattle.shard_laws.proofs.Closes.{decides_beside}
use Rattle.shard_laws.proofs.Commits.{keys_stay}
use Rattle.shard_laws.proofs.Fits.{unwritten_by_others}
use Rattle.shard_laws.proofs.Laters.{holding}

-- no attempt is prepared at the beginning
pub locked_opening : (keys : List Key) → WritesAreLocked (opening_shard keys)
locked_opening keys = record { each = λ p h e f key w. absurd (let x : ◌≡◌ {A = Option PreparedWriter} None (Some p) = e in cc) }

-- a shard keeps its keys
pub keys_after : (sh : Shard) (latest : ℕ) (r : Request) (key : Key) → keeps_key (shard_after sh latest r).store key ≡ keeps_key sh.store key
keys_after sh latest r key = cases sh latest r (λ (w : Shard). keeps_key w.store key ≡ keeps_key sh.store key) record {
  rest = refl;
  locks = λ new i t n. refl;
  prepares = λ b l w ws c i n g. refl;
  decides = λ b c t i. decides_beside (λ (s : List KeyVersions) (n : ℕ). keeps_key s key ≡ keeps_key sh.store key) sh b _ refl;
  commits = λ b t p i f. applied_keeps (λ (s : List KeyVersions). keeps_key s key ≡ keeps_key sh.store key) b.call t (λ (w : Key × ℕ). ⊤) (λ s w q e h. keys_stay s w.0 key (record { value = w.1; time = t; writer = b.call }) ∙ h) p.writes (each_any p.writes) sh.store refl;
  buries = λ b t i f. refl;
  aborts = λ b i. refl;
  releases = λ b t last i f. released b t last;
  reads = λ t l ks s i f. refl;
}
  where
    released : (b : Attempt) (t : ℕ) (last : Bool) → keeps_key (releases_last (releases sh b t) b last).store key ≡ keeps_key sh.store key
    released b t true = decides_beside (λ (s : List KeyVersions) (n : ℕ). keeps_key s key ≡ keeps_key sh.store key) (releases sh b t) b Aborted refl
    released b t false = refl

pub keys_later : (sh : Shard) (requests : List (ℕ × Request)) (key : Key) → keeps_key (served sh requests).store key ≡ keeps_key sh.store key
keys_later sh requests key = served_keeps (λ (w : Shard). keeps_key w.store key ≡ keeps_key sh.store key) (λ w latest r h. keys_after w latest r key ∙ h) sh requests refl

-- what a release leaves, and where the floor is
record Leaves (sh : Shard) (time : ℕ) (w : Shard) : Type 0 where
  prepared : w.prepared ≡ sh.prepared
  floor : time ≤ w.floor

leaves_last : (sh : Shard) (a : Attempt) (time : ℕ) (last : Bool) → Leaves sh time (releases_last (releases sh a time) a last)
leaves_last sh a time true = record {
  prepared = only_decides (λ (l : Locks) (ps : List PreparedWriter). ps ≡ sh.prepared) (releases sh a time) a Aborted refl;
  floor = decides_beside (λ (s : List KeyVersions) (n : ℕ). time ≤ n) (releases sh a time) a Aborted (omega arith);
}
leaves_last sh a time false = record { prepared = refl; floor = omega arith }

leaves_release : (sh : Shard) (latest : ℕ) (a : Attempt) (time : ℕ) (last : Bool) → can_release sh a ≡ true → Leaves sh time (shard_after sh latest (Release a time last))
unfolding shard_after
leaves_release sh latest a time last c = subst (λ (b : Bool). Leaves sh time (if b then releases_last (releases sh a time) a last else sh)) (sym c) (leaves_last sh a time last)

pub release_closes : (sh : Shard) → IsReached sh → WritesAreLocked sh → (h : LockHolder) → holder_of sh.locks.holders h.attempt ≡ Some h → can_release sh h.attempt ≡ true → (latest time : ℕ) (last : Bool) (key : Key) → locks_key h key ≡ true → IsClosed (shard_after sh latest (Release h.attempt time last)) key time
release_closes sh x w h e c latest time last key l = record { floor = left.floor; writers = λ p f i. none p (ap (λ (ps : List PreparedWriter). prepared_of ps p.attempt) (sym left.prepared) ∙ f) i }
  where
    left : Leaves sh time (shard_after sh latest (Release h.attempt time last))
    left = leaves_release sh latest h.attempt time last c

    none : (p : PreparedWriter) → prepared_of sh.prepared p.attempt ≡ Some p → writes_key p key ≡ true → time < p.prepare_time
    none p f i =
        let other : same_attempt p.attempt h.attempt ≡ false = false_from_ne_true (same_attempt p.attempt h.attempt)
        (λ s. let y : ◌≡◌ {A = Option PreparedWriter} None (Some p) = sym (released_is sh h.attempt c).1 ∙ ap (entry_of prepared_by sh.prepared) (sym (same_is p.attempt h.attempt s)) ∙ sym (prepared_is sh.prepared p.attempt) ∙ f in absurd cc) in
        absurd (true≢false (sym i ∙ unwritten_by_others sh (holding sh x) w h e key l p f other))
