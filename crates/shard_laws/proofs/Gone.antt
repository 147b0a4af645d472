-- Who is tombstoned stays so, and who is done with stays done with.
use Rattle.std.proofs.Common.{◌≡◌, ℕ, Bool, true, false, List, [], ◌∷◌, length, Option, Some, None, refl, sym, ap, ◌∙◌}
use Rattle.std.specs.Prelude.{◌==◌, if◌then◌else◌}
use Rattle.std.specs.List.{filter}
use Rattle.std.proofs.lemmas.Bool.{cond_both, true≢false, false_from_ne_true}
use Rattle.rss_names.specs.declared.attempt.Attempt.{Attempt}
use Rattle.rss_wire.specs.declared.messages.Request.{Request}
use Rattle.rss_tables.specs.Attempts.{same_attempt, has_attempt, with_attempt}
use Rattle.rss_tables.specs.Locks.{LockHolder, Locks, coordinator_in, is_tombstoned, in_way_of, with_holder, after_wounds, attempts_of, wounded_by, with_tombs, taken}
use Rattle.rss_tables.specs.Prepared.{PreparedWriter, prepared_of, prepared_attempts}
use Rattle.rss_tables.specs.ShardRow.{Shard, releases, releases_last, shard_after}
use Rattle.shard_laws.specs.Entries.{entry_of, held_by, prepared_by, holder_of}
use Rattle.shard_laws.specs.Locked.{IsGone}
use Rattle.shard_laws.proofs.Cases.{cases, entry_now}
use Rattle.shard_laws.proofs.Entries.{same_is}
use Rattle.shard_laws.proofs.Lists.{prepared_is, coordinator_is, coordinator_of, not_some, stays_joined, stays_buried}
use Rattle.shard_laws.proofs.Excludes.{holder_put, is_spared}
use Rattle.shard_laws.proofs.Holding.{entry_put, only_decides, is_other_holder, is_other_writer, not_holding}

-- the tombs after a request for locks
pub tombs_after : (locks : Locks) (prepared : List Attempt) (new : LockHolder) → (taken (after_wounds locks prepared new.attempt new.reads new.writes) new).tombs ≡ with_tombs locks.tombs (attempts_of (wounded_by locks prepared new.attempt new.reads new.writes))
tombs_after locks prepared new =
    cond_both (length (in_way_of (after_wounds locks prepared new.attempt new.reads new.writes) new.attempt new.reads new.writes) == 0)
    (record (after_wounds locks prepared new.attempt new.reads new.writes) { holders = with_holder (after_wounds locks prepared new.attempt new.reads new.writes).holders new }) (after_wounds locks prepared new.attempt new.reads new.writes)
    (λ (l : Locks). l.tombs ≡ with_tombs locks.tombs (attempts_of (wounded_by locks prepared new.attempt new.reads new.writes)))
    (λ e. refl) (λ e. refl)

pub tombstoned_after : (sh : Shard) (latest : ℕ) (r : Request) (a : Attempt) → is_tombstoned sh.locks a ≡ true → is_tombstoned (shard_after sh latest r).locks a ≡ true
tombstoned_after sh latest r a h = cases sh latest r (λ (w : Shard). is_tombstoned w.locks a ≡ true) record {
  rest = h;
  locks = λ new i t n. ap (λ (ts : List Attempt). has_attempt ts a) (tombs_after sh.locks (prepared_attempts sh.prepared) new) ∙ stays_buried sh.locks.tombs (attempts_of (wounded_by sh.locks (prepared_attempts sh.prepared) new.attempt new.reads new.writes)) a h;
  prepares = λ b l e w c i n g. h;
  decides = λ b c t i. only_decides (λ (l : Locks) (ps : List PreparedWriter). is_tombstoned l a ≡ true) sh b _ h;
  commits = λ b t p i f. stays_joined sh.locks.tombs b a h;
  buries = λ b t i f. stays_joined sh.locks.tombs b a h;
  aborts = λ b i. stays_joined sh.locks.tombs b a h;
  releases = λ b t last i e. released b t last;
  reads = λ t l ks s i e. h;
}
  where
    released : (b : Attempt) (t : ℕ) (last : Bool) → is_tombstoned (releases_last (releases sh b t) b last).locks a ≡ true
    released b t true = only_decides (λ (l : Locks) (ps : List PreparedWriter). is_tombstoned l a ≡ true) (releases sh b t) b _ (stays_joined sh.locks.tombs b a h)
    released b t false = stays_joined sh.locks.tombs b a h

-- who has no entry has none among those that a test keeps
module _ {E : Type 0} (at : E → Attempt) where
  pub none_kept : (test : E → Bool) (es : List E) (a : Attempt) → entry_of at es a ≡ None → entry_of at (filter test es) a ≡ None
  none_kept test [] a h = refl
  none_kept test (d ∷ es) a h = go (same_attempt a (at d)) refl (none_kept test es a)
    where
      go : (b : Bool) → same_attempt a (at d) ≡ b → (entry_of at es a ≡ None → entry_of at (filter test es) a ≡ None) → entry_of at (filter test (d ∷ es)) a ≡ None
      go true e ih = absurd (let x : ◌≡◌ {A = Option E} (Some d) None = rw e at h in cc)
      go false e ih = cond_both (test d) (d ∷ filter test es) (filter test es) (λ (l : List E). entry_of at l a ≡ None) (λ f. rw e (ih (rw e at h))) (λ f. ih (rw e at h))

-- what an attempt that is neither a new holder nor holds has after a request for locks
pub free_locks : (locks : Locks) (prepared : List Attempt) (new : LockHolder) (a : Attempt) → holder_of locks.holders a ≡ None → holder_of locks.holders new.attempt ≡ None → same_attempt a new.attempt ≡ false → holder_of (taken (after_wounds locks prepared new.attempt new.reads new.writes) new).holders a ≡ None
free_locks locks prepared new a h n o =
    let test = is_spared prepared new.attempt new.reads new.writes in
    let left : holder_of (filter (is_spared prepared new.attempt new.reads new.writes) locks.holders) a ≡ None = none_kept held_by (is_spared prepared new.attempt new.reads new.writes) locks.holders a h in
    let none : holder_of (filter (is_spared prepared new.attempt new.reads new.writes) locks.holders) new.attempt ≡ None = none_kept held_by (is_spared prepared new.attempt new.reads new.writes) locks.holders new.attempt n in
    cond_both (length (in_way_of (after_wounds locks prepared new.attempt new.reads new.writes) new.attempt new.reads new.writes) == 0)
    (record (after_wounds locks prepared new.attempt new.reads new.writes) { holders = with_holder (after_wounds locks prepared new.attempt new.reads new.writes).holders new }) (after_wounds locks prepared new.attempt new.reads new.writes)
    (λ (l : Locks). holder_of l.holders a ≡ None)
    (λ e. holder_put (filter (is_spared prepared new.attempt new.reads new.writes) locks.holders) new a none ∙ ap (λ (b : Bool). if b then Some new else holder_of (filter (is_spared prepared new.attempt new.reads new.writes) locks.holders) a) o ∙ left)
    (λ e. left)

-- done with, by entries
pub record Done (a : Attempt) (locks : Locks) (ps : List PreparedWriter) : Type 0 where
  pub tombstoned : is_tombstoned locks a ≡ true
  pub free : holder_of locks.holders a ≡ None
  pub unprepared : entry_of prepared_by ps a ≡ None

pub done_gone : (w : Shard) (a : Attempt) → Done a w.locks w.prepared → IsGone w a
done_gone w a d = record { tombstoned = d.tombstoned; free = d.free; unprepared = prepared_is w.prepared a ∙ d.unprepared }

pub gone_done : (w : Shard) (a : Attempt) → IsGone w a → Done a w.locks w.prepared
gone_done w a d = record { tombstoned = d.tombstoned; free = d.free; unprepared = sym (prepared_is w.prepared a) ∙ d.unprepared }

pub done_after : (sh : Shard) (latest : ℕ) (r : Request) (a : Attempt) → Done a sh.locks sh.prepared → Done a (shard_after sh latest r).locks (shard_after sh latest r).prepared
done_after sh latest r a d = cases sh latest r (λ (w : Shard). Done a w.locks w.prepared) record {
  rest = d;
  locks = λ new i t n. record {
    tombstoned = ap (λ (ts : List Attempt). has_attempt ts a) (tombs_after sh.locks (prepared_attempts sh.prepared) new) ∙ stays_buried sh.locks.tombs (attempts_of (wounded_by sh.locks (prepared_attempts sh.prepared) new.attempt new.reads new.writes)) a d.tombstoned;
    free = free_locks sh.locks (prepared_attempts sh.prepared) new a d.free (not_holding sh new.attempt n) (not_new new t);
    unprepared = d.unprepared;
  };
  prepares = λ b l e w c i n g. record { tombstoned = d.tombstoned; free = d.free; unprepared = entry_put sh.prepared (entry_now sh latest b l e w c) a (sym (prepared_is sh.prepared b) ∙ not_some (prepared_of sh.prepared b) n) ∙ ap (λ (t : Bool). if t then Some (entry_now sh latest b l e w c) else entry_of prepared_by sh.prepared a) (not_prepared b c g) ∙ d.unprepared };
  decides = λ b c t i. only_decides (Done a) sh b _ d;
  commits = λ b t p i f. freed b;
  buries = λ b t i f. record { tombstoned = stays_joined sh.locks.tombs b a d.tombstoned; free = d.free; unprepared = d.unprepared };
  aborts = λ b i. freed b;
  releases = λ b t last i e. released b t last;
  reads = λ t l ks s i e. d;
}
  where
    not_new : (new : LockHolder) → is_tombstoned sh.locks new.attempt ≡ false → same_attempt a new.attempt ≡ false
    not_new new t = false_from_ne_true (same_attempt a new.attempt) (λ e. true≢false (sym d.tombstoned ∙ ap (is_tombstoned sh.locks) (same_is a new.attempt e) ∙ t))

    not_prepared : (b : Attempt) (c : ℕ) → coordinator_in sh.locks.holders b ≡ Some c → same_attempt a b ≡ false
    not_prepared b c g = false_from_ne_true (same_attempt a b)
        (λ e. let x : ◌≡◌ {A = Option ℕ} None (Some c) = ap coordinator_of (sym d.free) ∙ ap (λ (z : Attempt). coordinator_of (holder_of sh.locks.holders z)) (same_is a b e) ∙ sym (coordinator_is sh.locks.holders b) ∙ g in absurd cc)

    freed : (b : Attempt) → Done a record { holders = filter (is_other_holder b) sh.locks.holders; tombs = with_attempt sh.locks.tombs b } (filter (is_other_writer b) sh.prepared)
    freed b = record { tombstoned = stays_joined sh.locks.tombs b a d.tombstoned; free = none_kept held_by (is_other_holder b) sh.locks.holders a d.free; unprepared = none_kept prepared_by (is_other_writer b) sh.prepared a d.unprepared }

    released : (b : Attempt) (t : ℕ) (last : Bool) → Done a (releases_last (releases sh b t) b last).locks (releases_last (releases sh b t) b last).prepared
    released b t true = only_decides (Done a) (releases sh b t) b _ record { tombstoned = stays_joined sh.locks.tombs b a d.tombstoned; free = none_kept held_by (is_other_holder b) sh.locks.holders a d.free; unprepared = d.unprepared }
    released b t false = record { tombstoned = stays_joined sh.locks.tombs b a d.tombstoned; free = none_kept held_by (is_other_holder b) sh.locks.holders a d.free; unprepared = d.unprepared }

pub gone_after : (sh : Shard) (latest : ℕ) (r : Request) (a : Attempt) → IsGone sh a → IsGone (shard_after sh latest r) a
gone_after sh latest r a d = done_gone (shard_after sh latest r) a (done_after sh latest r a (gone_done sh a d))
