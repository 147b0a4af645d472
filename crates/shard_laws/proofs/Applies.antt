-- What the commit of a prepared attempt closes, and that this stays.
use Rattle.std.proofs.Common.{◌≡◌, ◌⊎◌, inl, inr, ℕ, ◌<◌, ◌≤◌, ◌-◌, Bool, true, false, not, List, [], ◌∷◌, Option, Some, None, refl, sym, ap, ◌∙◌, subst, arith}
use Rattle.std.specs.Prelude.{if◌then◌else◌}
use Rattle.std.specs.List.{filter}
use Rattle.std.proofs.lemmas.Bool.{true≢false, false_from_ne_true}
use Rattle.rss_names.specs.declared.attempt.Attempt.{Attempt}
use Rattle.rss_names.specs.declared.service.Key.{Key}
use Rattle.rss_wire.specs.declared.messages.Request.{Request}
use Rattle.rss_wire.specs.declared.messages.Request.TheVariants.{Prepare, Commit}
use Rattle.rss_wire.specs.declared.messages.Version.{Version}
use Rattle.rss_tables.specs.Attempts.{same_attempt}
use Rattle.rss_tables.specs.Lines.{version_in}
use Rattle.rss_tables.specs.Locks.{LockHolder, has_key}
use Rattle.rss_tables.specs.Prepared.{PreparedWriter, prepared_of}
use Rattle.rss_tables.specs.Versions.{versions_of, version_at, last_upto, newest_version, opening_version}
use Rattle.rss_tables.specs.ShardRow.{Shard, commits, tombstones, shard_after}
use Rattle.shard_laws.specs.Entries.{entry_of, AreApart, prepared_by, holder_of}
use Rattle.shard_laws.specs.Changes.{IsPreparedBy}
use Rattle.shard_laws.specs.Closed.{EachOf, IsAtMost, writes_key, IsClosed}
use Rattle.shard_laws.specs.Committed.{written_value, IsBelow, version_by}
use Rattle.shard_laws.specs.Fitting.{locks_key}
use Rattle.shard_laws.proofs.Entries.{kept, found_at, found_kept, same_is, same_itself}
use Rattle.shard_laws.proofs.Lists.{prepared_is}
use Rattle.shard_laws.proofs.Holding.{is_other_writer}
use Rattle.shard_laws.proofs.Laters.{holding, prepared_once, prepared_by_request}
use Rattle.shard_laws.proofs.Rising.{each_more, last_same}
use Rattle.shard_laws.proofs.Closes.{rising}
use Rattle.shard_laws.proofs.Commits.{commit_writes, commit_leaves}
use Rattle.shard_laws.proofs.Fits.{unwritten_by_others}
use Rattle.shard_laws.proofs.Releases.{keys_later, keys_after}
use Rattle.shard_laws.specs.Orderly.{IsOrderly, IsInOrder, HoldsShown}
use Rattle.shard_laws.specs.Applied.{IsApplied}
use Rattle.shard_laws.proofs.Newest.{upto_newest, newest_shows, last_shows, shown_is}
use Rattle.shard_laws.proofs.Found.{found_attempt, found_itself, read_locked, write_locked}
use Rattle.shard_laws.proofs.Stays.{closes_stay}
use Rattle.shard_laws.proofs.Wrote.{Wrote, commit_cases, no_value, some_value}

-- who is prepared after a commit
commit_entries : (sh : Shard) (latest time : ℕ) (p : PreparedWriter) → prepared_of sh.prepared p.attempt ≡ Some p → (shard_after sh latest (Commit p.attempt time)).prepared ≡ filter (is_other_writer p.attempt) sh.prepared
unfolding shard_after
commit_entries sh latest time p e = ap (λ (o : Option PreparedWriter). (tombstones (commits sh p.attempt time o) p.attempt).prepared) e

-- a commit's time is at most the floor after it
commit_floor : (sh : Shard) (latest time : ℕ) (p : PreparedWriter) → prepared_of sh.prepared p.attempt ≡ Some p → time ≤ (shard_after sh latest (Commit p.attempt time)).floor
unfolding shard_after
commit_floor sh latest time p e = subst (λ (o : Option PreparedWriter). time ≤ (tombstones (commits sh p.attempt time o) p.attempt).floor) (sym e) (omega arith)

-- who leaves the prepared writers is not among them
left_writer : (ps : List PreparedWriter) (a : Attempt) → AreApart prepared_by ps → entry_of prepared_by (filter (is_other_writer a) ps) a ≡ None
left_writer ps a x = found_kept prepared_by (is_other_writer a) ps a x ∙ by_entry (entry_of prepared_by ps a) refl
  where
    by_entry : (o : Option PreparedWriter) → entry_of prepared_by ps a ≡ o → kept (is_other_writer a) o ≡ None
    by_entry None f = refl
    by_entry (Some p) f = ap (λ (t : Bool). if not t then Some p else None) (ap (same_attempt a) (found_at prepared_by ps a p f) ∙ same_itself a)

-- who commits is prepared no more
pub prepared_no_more : (sh : Shard) (latest time : ℕ) (p : PreparedWriter) → IsOrderly sh → prepared_of sh.prepared p.attempt ≡ Some p → prepared_of (shard_after sh latest (Commit p.attempt time)).prepared p.attempt ≡ None
prepared_no_more sh latest time p o e =
    prepared_is (shard_after sh latest (Commit p.attempt time)).prepared p.attempt
    ∙ ap (λ (ps : List PreparedWriter). entry_of prepared_by ps p.attempt) (commit_entries sh latest time p e)
    ∙ left_writer sh.prepared p.attempt (prepared_once sh o.reached)

-- a commit asks nobody to prepare
not_both : (a : Attempt) (time : ℕ) (b : Attempt) (least earliest_end : ℕ) (ws : List (Key × ℕ)) → Commit a time ≡ Prepare b least earliest_end ws → ⊥
not_both a time b least earliest_end ws i = cc

-- a commit closes each key that the attempt locked, up to its time
commit_closes : (sh : Shard) (latest time : ℕ) (p : PreparedWriter) (h : LockHolder) → IsOrderly sh → prepared_of sh.prepared p.attempt ≡ Some p → holder_of sh.locks.holders p.attempt ≡ Some h → (key : Key) → locks_key h key ≡ true → (t : ℕ) → t ≤ time → IsClosed (shard_after sh latest (Commit p.attempt time)) key t
commit_closes sh latest time p h o e g key l t m = record {
  floor = (let f = commit_floor sh latest time p e in omega (arith, f, m));
  writers = λ q f i. absurd (nobody q f i (prepared_by_request sh o.reached latest (Commit p.attempt time) q f));
}
  where
    other : (q : PreparedWriter) → prepared_of (shard_after sh latest (Commit p.attempt time)).prepared q.attempt ≡ Some q → same_attempt q.attempt h.attempt ≡ false
    other q f = false_from_ne_true (same_attempt q.attempt h.attempt)
        (λ s. let x : ◌≡◌ {A = Option PreparedWriter} None (Some q) = sym (prepared_no_more sh latest time p o e) ∙ ap (prepared_of (shard_after sh latest (Commit p.attempt time)).prepared) (sym (same_is q.attempt h.attempt s ∙ found_attempt sh.locks.holders p.attempt h g)) ∙ f in absurd cc)

    nobody : (q : PreparedWriter) → prepared_of (shard_after sh latest (Commit p.attempt time)).prepared q.attempt ≡ Some q → writes_key q key ≡ true → (prepared_of sh.prepared q.attempt ≡ Some q) ⊎ IsPreparedBy sh latest (Commit p.attempt time) q → ⊥
    nobody q f i (inl d) = true≢false (sym i ∙ unwritten_by_others sh (holding sh o.reached) o.locked h (found_itself sh.locks.holders p.attempt h g) key l q d (other q f))
    nobody q f i (inr b) = not_both p.attempt time q.attempt b.least q.earliest_end q.writes b.asks

-- the commit of a prepared attempt closes what it was shown right below its time, and what it writes at it
pub commit_applies : (sh : Shard) (latest time : ℕ) (p : PreparedWriter) (reads writes : List Key) (shown : List (Key × Version)) → IsOrderly sh → prepared_of sh.prepared p.attempt ≡ Some p → HoldsShown sh p.attempt reads writes shown → p.prepare_time ≤ time → IsApplied (shard_after sh latest (Commit p.attempt time)) p.attempt.call time reads shown p.writes
commit_applies sh latest time p reads writes shown o e s m = record {
  below = λ key v k g. let b = before key (read key k) in (
    record { closed = commit_closes sh latest time p s.holder o e s.there key (read key k) (time - 1) (omega arith); shows = right_below key (read key k) (commit_cases sh latest time p e key) ∙ sym (newest key v g) },
    subst (λ (u : Version). u.time < time) (sym (newest key v g)) b,
  );
  unwritten = λ key v k g n. record {
    closed = commit_closes sh latest time p s.holder o e s.there key (read key k) time (omega arith);
    shows = ap (last_upto opening_version time) (commit_leaves sh latest time p e key (no_value p.writes key n)) ∙ now key time (let b = before key (read key k) in omega (arith, b)) ∙ sym (newest key v g);
  };
  written = λ key value w k. let l = written key value w in record {
    closed = commit_closes sh latest time p s.holder o e s.there key l time (omega arith);
    shows = ap (last_upto opening_version time) (commit_writes sh latest time p e key value w (sym (keys_later sh ((latest, Commit p.attempt time) ∷ []) key) ∙ k) (all_below key l)) ∙ last_shows time (version_by p time value) (omega arith) (versions_of sh.store key) opening_version;
  };
}
  where
    read : (key : Key) → has_key reads key ≡ true → locks_key s.holder key ≡ true
    read key k = read_locked s.holder key (ap (λ (keys : List Key). has_key keys key) s.reads_same ∙ k)

    written : (key : Key) (value : ℕ) → written_value p.writes key ≡ Some value → locks_key s.holder key ≡ true
    written key value w = write_locked s.holder key (o.locked.each p s.holder e s.there key (some_value p.writes key value w))

    before : (key : Key) → locks_key s.holder key ≡ true → (newest_version sh.store key).time < time
    before key l = let a = o.above p s.holder e s.there key l in omega (arith, a, m)

    newest : (key : Key) (v : Version) → version_in shown key ≡ Some v → v ≡ newest_version sh.store key
    newest key v g = shown_is (newest_version sh.store) reads key v (ap (λ (list : List (Key × Version)). version_in list key) s.newest ∙ g)

    now : (key : Key) (t : ℕ) → (newest_version sh.store key).time ≤ t → version_at sh.store key t ≡ newest_version sh.store key
    now key t b = newest_shows t (versions_of sh.store key) opening_version (rising sh o.reached key) b

    all_below : (key : Key) → locks_key s.holder key ≡ true → EachOf (IsBelow time) (versions_of sh.store key)
    all_below key l =
        let b = before key l in
        each_more (IsAtMost (newest_version sh.store key).time) (IsBelow time) (λ v i. omega (arith, i, b)) (versions_of sh.store key) (upto_newest (versions_of sh.store key) opening_version (rising sh o.reached key))

    right_below : (key : Key) → locks_key s.holder key ≡ true → (versions_of (shard_after sh latest (Commit p.attempt time)).store key ≡ versions_of sh.store key) ⊎ Wrote sh latest time p key → version_at (shard_after sh latest (Commit p.attempt time)).store key (time - 1) ≡ newest_version sh.store key
    right_below key l (inl i) =
        let b = before key l in
        ap (last_upto opening_version (time - 1)) i ∙ now key (time - 1) (omega (arith, b))
    right_below key l (inr w) =
        let b = before key l in
        let above : time - 1 < time = omega (arith, b) in
        ap (last_upto opening_version (time - 1)) w.grown ∙ last_same opening_version (time - 1) (versions_of sh.store key) (version_by p time w.value ∷ []) (above, tt) ∙ now key (time - 1) (omega (arith, b))

-- and so it stays
pub applied_stay : (sh : Shard) (latest : ℕ) (r : Request) → IsOrderly sh → IsInOrder sh r → (call time : ℕ) (reads : List Key) (shown : List (Key × Version)) (writes : List (Key × ℕ)) → IsApplied sh call time reads shown writes → IsApplied (shard_after sh latest r) call time reads shown writes
applied_stay sh latest r o f call time reads shown writes h = record {
  below = λ key v k g. let b = h.below key v k g in (closes_stay sh latest r o f key (time - 1) v b.0, b.1);
  unwritten = λ key v k g n. closes_stay sh latest r o f key time v (h.unwritten key v k g n);
  written = λ key value w k. closes_stay sh latest r o f key time (record { value = value; time = time; writer = call }) (h.written key value w (sym (keys_after sh latest r key) ∙ k));
}
