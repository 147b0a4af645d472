-- A request that was sent stays just, as sessions go on and decisions stay.
use Rattle.std.proofs.Common.{◌≡◌, ◌⊎◌, inl, inr, ℕ, ◌<◌, Bool, true, List, Some, IsTrue, filter, refl, sym, ap, ◌∙◌, subst}
use Rattle.rss_names.specs.declared.attempt.Attempt.{Attempt}
use Rattle.rss_names.specs.declared.service.Key.{Key}
use Rattle.rss_wire.specs.declared.messages.Outcome.TheVariants.{Committed, Aborted}
use Rattle.rss_wire.specs.declared.messages.Request.{Request}
use Rattle.rss_wire.specs.declared.messages.Request.TheVariants.{Lock, Prepare, Decide, Commit, Abort, Inquire, Release, Snapshot, Fix, Ask, Stamp, Store}
use Rattle.rss_tables.specs.Lines.{Line}
use Rattle.rss_tables.specs.Locks.{has_key}
use Rattle.rss_tables.specs.TransactionSession.{computed, writes_on, greatest_prepared}
use Rattle.rss_tables.specs.declared.phases.SnapPhase.TheVariants.{First}
use Rattle.rss_tables.specs.declared.phases.TxnPhase.TheVariants as phase
use Rattle.rss_machine.specs.State.{State, owner_at}
use Rattle.session_laws.specs.Frames.{Frame, IsLine, frame_of, frames_of, nth_line}
use Rattle.session_laws.proofs.Frames.{frames_length, frames_nth}
use Rattle.txn_state_laws.specs.Justified.{IsJust, LockIs, PrepareIs, PreparesNow, DecideIs, ReleaseIs, SnapshotIs, may_be_committed}
use Rattle.txn_state_laws.specs.Onward.{SnapGoesOn}
use Rattle.txn_state_laws.specs.Told.{freeing_time, snap_time}
use Rattle.txn_state_laws.proofs.Grows.{AttemptGrows, LineGrows, line_grows}
use Rattle.txn_decision_laws.proofs.Grows.{Grows, attempt_grown, kept_grown, coordinator_grows, present_before}

-- the parts of a frame
pub frame_shard : (l m : Line) → frame_of l ≡ frame_of m → l.shard ≡ m.shard
frame_shard l m e = ap (λ (f : Frame). f.shard) e

pub frame_reads : (l m : Line) → frame_of l ≡ frame_of m → l.reads ≡ m.reads
frame_reads l m e = ap (λ (f : Frame). f.reads) e

pub frame_writes : (l m : Line) → frame_of l ≡ frame_of m → l.writes ≡ m.writes
frame_writes l m e = ap (λ (f : Frame). f.writes) e

-- the writes on a line are those of its keys
pub writes_same : (l m : Line) (u v : List (Key × ℕ)) → l.writes ≡ m.writes → u ≡ v → writes_on l u ≡ writes_on m v
writes_same l m u v e f = ap (λ (keys : List Key). filter (λ (write : Key × ℕ). has_key keys write.0) u) e ∙ ap (writes_on m) f

-- a line of the same place in other lines of the same frames
pub record LineCopy (lines : List Line) (l : Line) : Type 0 where
  pub line : Line
  pub is : IsLine lines line
  pub frame : frame_of line ≡ frame_of l

pub line_copy : (u v : List Line) → frames_of v ≡ frames_of u → (l : Line) → IsLine u l → LineCopy v l
line_copy u v e l i = record {
  line = nth_line v i.place;
  is = record { place = i.place; inside = subst (λ (n : ℕ). i.place < n) (sym (frames_length v u e)) i.inside; at = refl };
  frame = frames_nth v u e i.place ∙ ap frame_of i.at;
}

module _ (s t : State) (g : Grows s t) where
  lock_stays : (shard : ℕ) (a : Attempt) (coordinator : ℕ) (reads writes : List Key) → LockIs s shard a coordinator reads writes → LockIs t shard a coordinator reads writes
  lock_stays shard a coordinator reads writes h = record {
    txn = w.txn;
    of = w.of;
    line = l.line;
    is_line = l.is_line;
    coordinator_is = h.coordinator_is ∙ sym (coordinator_grows h.txn w.txn w.onward);
    reads_are = h.reads_are ∙ sym (frame_reads l.line h.line l.frame);
    writes_are = h.writes_are ∙ sym (frame_writes l.line h.line l.frame);
  }
    where
      w : AttemptGrows t a h.txn
      w = attempt_grown s t g a h.txn h.of

      l : LineGrows w.txn shard h.line
      l = line_grows h.txn w.txn w.onward shard h.line h.is_line

  prepare_stays : (shard : ℕ) (a : Attempt) (least earliest_end : ℕ) (writes : List (Key × ℕ)) → PrepareIs s shard a least earliest_end writes → PrepareIs t shard a least earliest_end writes
  prepare_stays shard a least earliest_end writes h = record {
    txn = w.txn;
    of = w.of;
    line = l.line;
    is_line = l.is_line;
    least_is = h.least_is ∙ sym w.onward.same.least;
    fits = λ key i. subst (λ (keys : List Key). IsTrue (has_key keys key)) (sym (frame_writes l.line h.line l.frame)) (h.fits key i);
    now = λ e. now (present_before h.txn w.txn a.k w.onward h.of.last e);
  }
    where
      w : AttemptGrows t a h.txn
      w = attempt_grown s t g a h.txn h.of

      l : LineGrows w.txn shard h.line
      l = line_grows h.txn w.txn w.onward shard h.line h.is_line

      now : (a.k ≡ h.txn.k) × (w.txn.k ≡ h.txn.k) → PreparesNow w.txn l.line earliest_end writes
      now e =
          let p = h.now e.0 in
          let q = (w.onward.attempt e.1).prepared p.may in
          record {
            may = q.0;
            ends = p.ends ∙ sym q.1;
            writes_are = p.writes_are ∙ sym (writes_same l.line h.line (computed w.txn) (computed h.txn) (frame_writes l.line h.line l.frame) q.2);
          }

  decide_stays : (shard : ℕ) (a : Attempt) (commit : Bool) (time : ℕ) → DecideIs s shard a commit time → DecideIs t shard a commit time
  decide_stays shard a commit time h = record {
    txn = w.txn;
    of = w.of;
    at = h.at ∙ sym (coordinator_grows h.txn w.txn w.onward);
    line = l.line;
    is_line = l.is_line;
    now = λ f e. now f (present_before h.txn w.txn a.k w.onward h.of.last e);
  }
    where
      w : AttemptGrows t a h.txn
      w = attempt_grown s t g a h.txn h.of

      l : LineGrows w.txn shard h.line
      l = line_grows h.txn w.txn w.onward shard h.line h.is_line

      now : commit ≡ true → (a.k ≡ h.txn.k) × (w.txn.k ≡ h.txn.k) → (may_be_committed w.txn.phase ≡ true) × (time ≡ greatest_prepared w.txn.lines)
      now f e =
          let p = h.now f e.0 in
          let q = (w.onward.attempt e.1).committed p.0 in
          (q.0, p.1 ∙ sym q.1)

  release_stays : (shard : ℕ) (a : Attempt) (time : ℕ) (last : Bool) → ReleaseIs s shard a time last → ReleaseIs t shard a time last
  release_stays shard a time last h = record {
    txn = w.txn;
    of = w.of;
    line = l.line;
    is_line = l.is_line;
    at = λ f. h.at f ∙ sym (coordinator_grows h.txn w.txn w.onward);
    now = λ e. now (present_before h.txn w.txn a.k w.onward h.of.last e);
  }
    where
      w : AttemptGrows t a h.txn
      w = attempt_grown s t g a h.txn h.of

      l : LineGrows w.txn shard h.line
      l = line_grows h.txn w.txn w.onward shard h.line h.is_line

      now : (a.k ≡ h.txn.k) × (w.txn.k ≡ h.txn.k) → (freeing_time w.txn.phase ≡ Some time) ⊎ (w.txn.phase ≡ phase.Undoing)
      now e = by_phase (h.now e.0)
        where
          by_phase : (freeing_time h.txn.phase ≡ Some time) ⊎ (h.txn.phase ≡ phase.Undoing) → (freeing_time w.txn.phase ≡ Some time) ⊎ (w.txn.phase ≡ phase.Undoing)
          by_phase (inl f) = (w.onward.attempt e.1).freeing time f
          by_phase (inr f) = inr ((w.onward.attempt e.1).undoing f)

  snapshot_stays : (o shard read_time least : ℕ) (keys : List Key) (skip : Bool) → SnapshotIs s o shard read_time least keys skip → SnapshotIs t o shard read_time least keys skip
  snapshot_stays o shard read_time least keys skip h = record {
    snap = w.snap;
    under_way = w.under_way;
    line = l.line;
    is_line = l.is;
    on = frame_shard l.line h.line l.frame ∙ h.on;
    least_is = h.least_is ∙ sym w.onward.same.least;
    keys_are = h.keys_are ∙ sym (frame_reads l.line h.line l.frame);
    first = λ f. by_phase (h.first f);
    second = λ f. w.onward.later read_time (h.second f);
  }
    where
      w : SnapGoesOn h.snap (owner_at t o).session
      w = g.snap o h.snap h.under_way

      l : LineCopy w.snap.lines h.line
      l = line_copy h.snap.lines w.snap.lines w.onward.same.frames h.line h.is_line

      by_phase : (h.snap.phase ≡ First read_time) ⊎ ((time : ℕ) × (snap_time h.snap.phase ≡ Some time)) → (w.snap.phase ≡ First read_time) ⊎ ((time : ℕ) × (snap_time w.snap.phase ≡ Some time))
      by_phase (inl f) = w.onward.first read_time f
      by_phase (inr f) = inr (f.0, w.onward.later f.0 f.1)

  pub just_stays : (o shard : ℕ) (q : Request) → IsJust s o shard q → IsJust t o shard q
  just_stays o shard (Lock a coordinator reads writes) h = lock_stays shard a coordinator reads writes h
  just_stays o shard (Prepare a least earliest_end writes) h = prepare_stays shard a least earliest_end writes h
  just_stays o shard (Decide a commit time) h = decide_stays shard a commit time h
  just_stays o shard (Commit a time) h = kept_grown s t g a (Committed time) h
  just_stays o shard (Abort a) h = kept_grown s t g a Aborted h
  just_stays o shard (Inquire a) h = h
  just_stays o shard (Release a time last) h = release_stays shard a time last h
  just_stays o shard (Snapshot read_time least keys skip) h = snapshot_stays o shard read_time least keys skip h
  just_stays o shard (Fix deps) h = h
  just_stays o shard (Ask key) h = h
  just_stays o shard (Stamp key) h = h
  just_stays o shard (Store key value stamp writer) h = h
