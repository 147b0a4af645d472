-- What a release closes, and who is in the list of those that released.
use Rattle.std.proofs.Common.{◌≡◌, ◌⊎◌, inl, inr, ℕ, ◌≤◌, Bool, true, false, List, [], ◌∷◌, ◌++◌, Some, is_some, refl, sym, ap, ◌∙◌, subst}
use Rattle.std.specs.Prelude.{IsTrue, if◌then◌else◌}
use Rattle.std.proofs.lemmas.Bool.{cond_both}
use Rattle.rss_names.specs.declared.attempt.Attempt.{Attempt}
use Rattle.rss_names.specs.declared.service.Key.{Key}
use Rattle.rss_wire.specs.declared.messages.Outcome.{Outcome}
use Rattle.rss_wire.specs.declared.messages.Outcome.TheVariants.{Aborted}
use Rattle.rss_wire.specs.declared.messages.Request.{Request}
use Rattle.rss_wire.specs.declared.messages.Request.TheVariants.{Release}
use Rattle.rss_wire.specs.declared.messages.Reply.{Reply}
use Rattle.rss_wire.specs.declared.messages.Reply.TheVariants as reply
use Rattle.rss_wire.specs.declared.messages.Version.{Version}
use Rattle.rss_tables.specs.Attempts.{has_attempt}
use Rattle.rss_tables.specs.Lines.{version_in}
use Rattle.rss_tables.specs.Locks.{has_key}
use Rattle.rss_tables.specs.Versions.{KeyVersions, versions_of, version_at, newest_version, opening_version}
use Rattle.rss_tables.specs.ShardRow.{Shard, decision_in, keeps_decision, can_release, releases, releases_last, shard_after, shard_reply}
use Rattle.shard_laws.specs.Closed.{IsClosed}
use Rattle.shard_laws.specs.Snapshots.{ClosesAt}
use Rattle.shard_laws.proofs.Cases.{cases}
use Rattle.shard_laws.proofs.Lists.{stays_joined}
use Rattle.shard_laws.proofs.Closes.{rising, decides_beside}
use Rattle.shard_laws.proofs.Releases.{release_closes as release_closes_keys}
use Rattle.shard_laws.specs.Orderly.{IsOrderly, HoldsShown}
use Rattle.shard_laws.proofs.Newest.{newest_shows, shown_is}
use Rattle.shard_laws.proofs.Found.{found_attempt, found_itself, read_locked}
use Rattle.shard_laws.proofs.Released.{joined_cases}

-- a release leaves the versions
release_store : (sh : Shard) (latest time : ℕ) (last : Bool) (a : Attempt) → (shard_after sh latest (Release a time last)).store ≡ sh.store
unfolding shard_after
release_store sh latest time last a =
    cond_both (can_release sh a) (releases_last (releases sh a time) a last) sh (λ (w : Shard). w.store ≡ sh.store) (λ e. released last) (λ e. refl)
  where
    released : (b : Bool) → (releases_last (releases sh a time) a b).store ≡ sh.store
    released true = decides_beside (λ (s : List KeyVersions) (n : ℕ). s ≡ sh.store) (releases sh a time) a Aborted refl
    released false = refl

-- a release closes what the attempt was shown, at its time
pub release_closes : (sh : Shard) (latest time : ℕ) (last : Bool) (a : Attempt) (reads writes : List Key) (shown : List (Key × Version)) → IsOrderly sh → HoldsShown sh a reads writes shown → IsTrue (can_release sh a) → (key : Key) (v : Version) → IsTrue (has_key reads key) → version_in shown key ≡ Some v → v.time ≤ time → ClosesAt (shard_after sh latest (Release a time last)) key time v
release_closes sh latest time last a reads writes shown o s c key v k g l = record {
  closed = subst (λ (b : Attempt). IsClosed (shard_after sh latest (Release b time last)) key time) itself
      (release_closes_keys sh o.reached o.locked s.holder (found_itself sh.locks.holders a s.holder s.there) (ap (can_release sh) itself ∙ c) latest time last key (read_locked s.holder key (ap (λ (keys : List Key). has_key keys key) s.reads_same ∙ k)));
  shows = ap (λ (store : List KeyVersions). version_at store key time) (release_store sh latest time last a)
      ∙ newest_shows time (versions_of sh.store key) opening_version (rising sh o.reached key) (subst (λ (u : Version). u.time ≤ time) newest l) ∙ sym newest;
}
  where
    itself : s.holder.attempt ≡ a
    itself = found_attempt sh.locks.holders a s.holder s.there

    newest : v ≡ newest_version sh.store key
    newest = shown_is (newest_version sh.store) reads key v (ap (λ (list : List (Key × Version)). version_in list key) s.newest ∙ g)

-- decisions leave who has released
decides_released : (P : List Attempt → Type 0) (sh : Shard) (attempt : Attempt) (outcome : Outcome) → P sh.released → P (keeps_decision sh attempt outcome).released
decides_released P sh attempt outcome h = cond_both (is_some (decision_in sh.decisions attempt)) sh (record sh { decisions = sh.decisions ++ (attempt, outcome) ∷ [] }) (λ (s : Shard). P s.released) (λ e. h) (λ e. h)

-- who has released after a request had before, or the request is its release and can be
pub released_from : (sh : Shard) (latest : ℕ) (r : Request) (a : Attempt) → has_attempt (shard_after sh latest r).released a ≡ true → (has_attempt sh.released a ≡ true) ⊎ ((time : ℕ) × (last : Bool) × (r ≡ Release a time last) × IsTrue (can_release sh a))
released_from sh latest r a = cases sh latest r (λ (w : Shard). has_attempt w.released a ≡ true → (has_attempt sh.released a ≡ true) ⊎ ((time : ℕ) × (last : Bool) × (r ≡ Release a time last) × IsTrue (can_release sh a))) record {
  rest = λ e. inl e;
  locks = λ new i t n e. inl e;
  prepares = λ b l e ws c i n g f. inl f;
  decides = λ b c t i. decides_released (λ (ts : List Attempt). has_attempt ts a ≡ true → (has_attempt sh.released a ≡ true) ⊎ ((time : ℕ) × (last : Bool) × (r ≡ Release a time last) × IsTrue (can_release sh a))) sh b _ (λ e. inl e);
  commits = λ b t p i f e. inl e;
  buries = λ b t i f e. inl e;
  aborts = λ b i e. inl e;
  releases = λ b t last i f. released b t last i f;
  reads = λ t l ks s i f e. inl e;
}
  where
    one : (b : Attempt) (t : ℕ) (last : Bool) → r ≡ Release b t last → can_release sh b ≡ true → (has_attempt sh.released a ≡ true) ⊎ (a ≡ b) → (has_attempt sh.released a ≡ true) ⊎ ((time : ℕ) × (last : Bool) × (r ≡ Release a time last) × IsTrue (can_release sh a))
    one b t last i f (inl e) = inl e
    one b t last i f (inr e) = inr (t, last, i ∙ ap (λ (z : Attempt). Release z t last) (sym e), ap (can_release sh) e ∙ f)

    released : (b : Attempt) (t : ℕ) (last : Bool) → r ≡ Release b t last → can_release sh b ≡ true → has_attempt (releases_last (releases sh b t) b last).released a ≡ true → (has_attempt sh.released a ≡ true) ⊎ ((time : ℕ) × (last : Bool) × (r ≡ Release a time last) × IsTrue (can_release sh a))
    released b t true i f = decides_released (λ (ts : List Attempt). has_attempt ts a ≡ true → (has_attempt sh.released a ≡ true) ⊎ ((time : ℕ) × (last : Bool) × (r ≡ Release a time last) × IsTrue (can_release sh a))) (releases sh b t) b Aborted (λ e. one b t true i f (joined_cases sh.released b a e))
    released b t false i f = λ e. one b t false i f (joined_cases sh.released b a e)

-- who has released stays in the list
pub released_stay : (sh : Shard) (latest : ℕ) (r : Request) (a : Attempt) → has_attempt sh.released a ≡ true → has_attempt (shard_after sh latest r).released a ≡ true
released_stay sh latest r a h = cases sh latest r (λ (w : Shard). has_attempt w.released a ≡ true) record {
  rest = h;
  locks = λ new i t n. h;
  prepares = λ b l e ws c i n g. h;
  decides = λ b c t i. decides_released (λ (ts : List Attempt). has_attempt ts a ≡ true) sh b _ h;
  commits = λ b t p i f. h;
  buries = λ b t i f. h;
  aborts = λ b i. h;
  releases = λ b t last i f. released b t last;
  reads = λ t l ks s i f. h;
}
  where
    released : (b : Attempt) (t : ℕ) (last : Bool) → has_attempt (releases_last (releases sh b t) b last).released a ≡ true
    released b t true = decides_released (λ (ts : List Attempt). has_attempt ts a ≡ true) (releases sh b t) b Aborted (stays_joined sh.released b a h)
    released b t false = stays_joined sh.released b a h

-- who is told that it has released is in the list
pub released_told : (sh : Shard) (latest time : ℕ) (last : Bool) (a : Attempt) → shard_reply sh latest (Release a time last) ≡ reply.Released → has_attempt (shard_after sh latest (Release a time last)).released a ≡ true
unfolding shard_reply
released_told sh latest time last a e = by_test (has_attempt (shard_after sh latest (Release a time last)).released a) refl e
  where
    by_test : (b : Bool) → has_attempt (shard_after sh latest (Release a time last)).released a ≡ b → (if b then reply.Released else reply.Wounded) ≡ reply.Released → has_attempt (shard_after sh latest (Release a time last)).released a ≡ true
    by_test true f g = f
    by_test false f g = absurd (let x : ◌≡◌ {A = Reply} reply.Wounded reply.Released = g in cc)
