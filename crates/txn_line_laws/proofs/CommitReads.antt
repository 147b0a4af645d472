-- What a committed transaction sees of each key that it reads.
use Rattle.std.proofs.Common.{◌≡◌, ◌⊎◌, inl, inr, ℕ, ◌<◌, ◌≤◌, Bool, true, false, List, Option, Some, None, refl, sym, ap, ◌∙◌, subst, arith}
use Rattle.std.specs.Prelude.{IsTrue}
use Rattle.rss_names.specs.declared.attempt.Attempt.{Attempt}
use Rattle.rss_names.specs.declared.service.Key.{Key}
use Rattle.pipeline_lang.specs.Config.{home_of}
use Rattle.pipeline_lang.specs.declared.config.Config.{Config}
use Rattle.rss_wire.specs.declared.messages.Version.{Version}
use Rattle.rss_tables.specs.Attempts.{same_attempt}
use Rattle.rss_tables.specs.Lines.{Line, shown_on, version_in, coordinator_of}
use Rattle.rss_tables.specs.Locks.{LockHolder, has_key}
use Rattle.rss_tables.specs.Prepared.{PreparedWriter, prepared_of}
use Rattle.rss_tables.specs.ShardRow.{Shard}
use Rattle.rss_tables.specs.TransactionSession.{TxnSession, attempt_of, computed, writes_on}
use Rattle.rss_tables.specs.Versions.{newest_version}
use Rattle.rss_machine.specs.State.{State, owner_at, shard_at}
use Rattle.rss_machine.specs.declared.session.Session.TheVariants as session
use Rattle.shard_laws.specs.Closed.{writes_key}
use Rattle.shard_laws.specs.Committed.{written_value, keeps_key}
use Rattle.shard_laws.specs.Entries.{holder_of}
use Rattle.shard_laws.specs.Locked.{IsGone, HoldsFor, AreExcluded}
use Rattle.shard_laws.proofs.Entries.{same_is}
use Rattle.shard_laws.proofs.Laters.{exclude, prepared_hold_for}
use Rattle.shard_laws.specs.Applied.{IsApplied}
use Rattle.shard_laws.specs.Orderly.{IsOrderly, HoldsShown}
use Rattle.shard_laws.proofs.Found.{prepared_attempt, prepared_itself, found_attempt, found_itself, read_locked}
use Rattle.session_laws.specs.Frames.{nth_line}
use Rattle.session_laws.proofs.Shown.{newest_in_there}
use Rattle.txn_state_laws.proofs.Commits.{commits_granted}
use Rattle.txn_shard_laws.proofs.InOrder.{no_entry}
use Rattle.txn_line_laws.proofs.Facts.{Facts, CommitKnown}
use Rattle.txn_line_laws.proofs.Readers.{Seen, shown_to}
use Rattle.txn_line_laws.proofs.Sees.{Sees, sees_closed, sees_below, sees_newest}
use Rattle.txn_line_laws.proofs.Shows.{KeyShown}
use Rattle.txn_line_laws.proofs.Stands.{LineStands, is_prepared, is_applied, line_stands}

-- a version that is seen right below a time
pub record SeenBelow (sh : Shard) (key : Key) (o time : ℕ) (v : Version) : Type 0 where
  pub sees : Sees sh key o time v
  pub below : v.time < time

-- nobody else is prepared to write what an attempt that holds its locks reads
only_one : (sh : Shard) → IsOrderly sh → (a : Attempt) (h : LockHolder) → holder_of sh.locks.holders a ≡ Some h → (key : Key) → has_key h.reads key ≡ true → (q : PreparedWriter) → prepared_of sh.prepared q.attempt ≡ Some q → IsTrue (writes_key q key) → q.attempt.call ≡ a.call
only_one sh x a h e key r q f w = by_same (same_attempt q.attempt a) refl
  where
    g : HoldsFor sh q.attempt q.coordinator
    g = prepared_hold_for sh x.reached q f

    at : (j : LockHolder) → holder_of sh.locks.holders q.attempt ≡ Some j → holder_of sh.locks.holders j.attempt ≡ Some j
    at j i = found_itself sh.locks.holders q.attempt j i

    true_false : (b : Bool) → b ≡ true → b ≡ false → ⊥
    true_false true i j = cc
    true_false false i j = cc

    by_same : (b : Bool) → same_attempt q.attempt a ≡ b → q.attempt.call ≡ a.call
    by_same true i = ap (λ (z : Attempt). z.call) (same_is q.attempt a i)
    by_same false i =
        let k : AreExcluded g.holder h = exclude sh x.reached g.holder h (at g.holder g.holds) (found_itself sh.locks.holders a h e)
        (ap (λ (z : Attempt). same_attempt z h.attempt) (found_attempt sh.locks.holders q.attempt g.holder g.holds) ∙ (ap (λ (z : Attempt). same_attempt q.attempt z) (found_attempt sh.locks.holders a h e) ∙ i)) in
        absurd (true_false (has_key h.reads key) r (k.first key (x.locked.each q g.holder f g.holds key w)).1)

-- what a committed transaction was shown stands right below its time
pub record CommitSeen (c : Config) (s : State) (lines : List Line) (key : Key) (o time : ℕ) : Type 0 where
  pub seen : Seen c s lines key o time
  pub below : (shown_on lines key).time < time

module _ (c : Config) (s : State) (h : Facts c s) (o time : ℕ) (x : TxnSession) (key : Key) (e : (owner_at s o).session ≡ session.Transaction x) (k : CommitKnown s x time) (g : has_key x.reads key ≡ true) where
  by_value : (sh : Shard) (l : Line) (v : Version) → IsApplied sh x.call time l.reads l.shown (writes_on l (computed x)) → has_key l.reads key ≡ true → version_in l.shown key ≡ Some v → keeps_key sh.store key ≡ true → (value : Option ℕ) → written_value (writes_on l (computed x)) key ≡ value → SeenBelow sh key o time v
  by_value sh l v a r there keeps None f = record { sees = sees_closed (a.unwritten key v r there f); below = (a.below key v r there).1 }
  by_value sh l v a r there keeps (Some value) f =
      let b = a.below key v r there in
      let d = b.1 in
      record {
        sees = subst (λ (n : ℕ). Sees sh key n time v) (h.framed.txn o x e).call (sees_below value (omega (arith, d)) b.0 (a.written key value f keeps));
        below = b.1;
      }

  by_holding : (sh : Shard) (l : Line) (v : Version) → IsOrderly sh → has_key l.reads key ≡ true → version_in l.shown key ≡ Some v → (p : PreparedWriter) → prepared_of sh.prepared (attempt_of x) ≡ Some p → p.prepare_time ≤ time → HoldsShown sh (attempt_of x) l.reads l.writes l.shown ⊎ IsGone sh (attempt_of x) → SeenBelow sh key o time v
  by_holding sh l v y r there p f d (inr gone) = absurd (no_entry sh.prepared (attempt_of x) p f gone.unprepared)
  by_holding sh l v y r there p f d (inl held) = record { sees = sees_newest newest below only; below = below }
    where
      reads : has_key held.holder.reads key ≡ true
      reads = ap (λ (keys : List Key). has_key keys key) held.reads_same ∙ r

      newest : v ≡ newest_version sh.store key
      newest = same (sym there ∙ (ap (λ (l : List (Key × Version)). version_in l key) (sym held.newest) ∙ newest_in_there sh.store l.reads key r))
        where
          same : Some v ≡ Some (newest_version sh.store key) → v ≡ newest_version sh.store key
          same i = cc

      above : (newest_version sh.store key).time < p.prepare_time
      above = y.above p held.holder (prepared_itself sh.prepared (attempt_of x) p f) (ap (holder_of sh.locks.holders) (prepared_attempt sh.prepared (attempt_of x) p f) ∙ held.there) key (read_locked held.holder key reads)

      below : v.time < time
      below = let i = ap (λ (u : Version). u.time) newest in omega (arith, i, above, d)

      only : (q : PreparedWriter) → prepared_of sh.prepared q.attempt ≡ Some q → IsTrue (writes_key q key) → q.attempt.call ≡ o
      only q i w = only_one sh y (attempt_of x) held.holder held.there key reads q i w ∙ (h.framed.txn o x e).call

  by_line : (m : KeyShown c x.lines key) → LineStands (shard_at s (nth_line x.lines m.home.place).shard) x (nth_line x.lines m.home.place) time → SeenBelow (shard_at s (nth_line x.lines m.home.place).shard) key o time m.version
  by_line m (is_applied a) =
      by_value (shard_at s (nth_line x.lines m.home.place).shard) (nth_line x.lines m.home.place) m.version a m.home.has m.there
      (ap (λ (n : ℕ). keeps_key (shard_at s n).store key) m.home.on ∙ h.orderly.keys key m.home.is_key)
      (written_value (writes_on (nth_line x.lines m.home.place) (computed x)) key) refl
  by_line m (is_prepared p f d a b) =
      by_holding (shard_at s (nth_line x.lines m.home.place).shard) (nth_line x.lines m.home.place) m.version (h.orderly.orderly (nth_line x.lines m.home.place).shard) m.home.has m.there p f d
      (h.orderly.granted (nth_line x.lines m.home.place).shard (attempt_of x) (coordinator_of x.lines) (nth_line x.lines m.home.place).reads (nth_line x.lines m.home.place).writes (nth_line x.lines m.home.place).shown
      ((h.told.txn o m.home.place x e m.home.inside).granted (commits_granted x.phase time (nth_line x.lines m.home.place).state k.at)))

  seen_at : (m : KeyShown c x.lines key) → SeenBelow (shard_at s (nth_line x.lines m.home.place).shard) key o time m.version → CommitSeen c s x.lines key o time
  seen_at m b = record {
    seen = record {
      first = m.home.is_key.first;
      sees = subst (λ (v : Version). Sees (shard_at s (home_of c key.index)) key o time v) (sym m.on) (subst (λ (n : ℕ). Sees (shard_at s n) key o time m.version) m.home.on b.sees);
    };
    below = subst (λ (v : Version). v.time < time) (sym m.on) b.below;
  }

  pub commit_seen : CommitSeen c s x.lines key o time
  commit_seen =
      let m = shown_to c s h o x key e (λ i l. commits_granted x.phase time (nth_line x.lines i).state k.at) g in
      seen_at m (by_line m (line_stands c s h o time x e k m.home.place m.home.inside))
