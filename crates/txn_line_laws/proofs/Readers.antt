-- What each placed call sees of each key that it reads: on the shard of the key, at its time.
use Rattle.std.proofs.Common.{◌≡◌, ℕ, ◌<◌, ◌≤◌, true, List, [], length, Some, refl, sym, ap, ◌∙◌, subst}
use Rattle.rss_names.specs.declared.service.Key.{Key}
use Rattle.rss_names.specs.declared.service.Target.TheVariants.{Shard as OfShard}
use Rattle.pipeline_lang.specs.Config.{home_of}
use Rattle.pipeline_lang.specs.declared.config.Config.{Config}
use Rattle.rss_wire.specs.declared.messages.Reply.TheVariants as reply
use Rattle.rss_wire.specs.declared.messages.Request.TheVariants as request
use Rattle.rss_wire.specs.declared.messages.Version.{Version}
use Rattle.rss_tables.specs.Lines.{Line, lines_of, shown_on, coordinator_of}
use Rattle.rss_tables.specs.Locks.{has_key}
use Rattle.rss_tables.specs.SnapshotSession.{SnapSession}
use Rattle.rss_tables.specs.TransactionSession.{TxnSession, attempt_of, written_keys, leads}
use Rattle.rss_tables.specs.declared.phases.SnapPhase.TheVariants.{Done}
use Rattle.rss_tables.specs.declared.phases.TxnPhase.TheVariants as phase
use Rattle.rss_machine.specs.State.{State, owner_at, shard_at}
use Rattle.rss_machine.specs.declared.session.Session.TheVariants as session
use Rattle.shard_laws.specs.Snapshots.{ClosesAt}
use Rattle.session_laws.specs.Frames.{Frame, frame_of, nth_line}
use Rattle.session_laws.proofs.Frames.{frames_length, frames_nth, lines_of_home}
use Rattle.txn_state_laws.specs.Replied.{Replied}
use Rattle.txn_state_laws.specs.Told.{IsFinal, snap_time, has_granted, freeing_time, has_released}
use Rattle.txn_line_laws.proofs.Facts.{Facts, present, txn_reads, snap_reads}
use Rattle.txn_line_laws.proofs.Sees.{Sees, sees_closed}
use Rattle.txn_line_laws.proofs.Shows.{KeyShown, key_shown, granted_shows, answer_shows_keys}

-- a key as it is shown to a call at a time, and seen on its shard
pub record Seen (c : Config) (s : State) (lines : List Line) (key : Key) (o time : ℕ) : Type 0 where
  pub first : 1 ≤ home_of c key.index
  pub sees : Sees (shard_at s (home_of c key.index)) key o time (shown_on lines key)

module _ (c : Config) (s : State) (h : Facts c s) where
  -- the keys of a line are at home on its shard
  txn_homes : (o : ℕ) (x : TxnSession) (key : Key) → (owner_at s o).session ≡ session.Transaction x → (i : ℕ) → i < length x.lines → has_key (nth_line x.lines i).reads key ≡ true → home_of c key.index ≡ (nth_line x.lines i).shard
  txn_homes o x key e i l g =
      let opened = lines_of (home_of c) x.reads (written_keys x.writes) in
      let f = (h.framed.txn o x e).frames.frames in
      let same : frame_of (nth_line x.lines i) ≡ frame_of (nth_line opened i) = frames_nth x.lines opened f i in
      (lines_of_home (home_of c) x.reads (written_keys x.writes) key i (subst (λ (n : ℕ). i < n) (frames_length x.lines opened f) l) (ap (λ (y : Frame). has_key y.reads key) (sym same) ∙ g)).0 ∙ ap (λ (y : Frame). y.shard) (sym same)

  snap_homes : (o : ℕ) (x : SnapSession) (key : Key) → (owner_at s o).session ≡ session.Snapshot x → (i : ℕ) → i < length x.lines → has_key (nth_line x.lines i).reads key ≡ true → home_of c key.index ≡ (nth_line x.lines i).shard
  snap_homes o x key e i l g =
      let opened = lines_of (home_of c) x.keys [] in
      let f = (h.framed.snap o x e).frames.frames in
      let same : frame_of (nth_line x.lines i) ≡ frame_of (nth_line opened i) = frames_nth x.lines opened f i in
      (lines_of_home (home_of c) x.keys [] key i (subst (λ (n : ℕ). i < n) (frames_length x.lines opened f) l) (ap (λ (y : Frame). has_key y.reads key) (sym same) ∙ g)).0 ∙ ap (λ (y : Frame). y.shard) (sym same)

  -- a snapshot that has ended
  pub snap_seen : (o time : ℕ) (x : SnapSession) (key : Key) → (owner_at s o).session ≡ session.Snapshot x → x.phase ≡ Done time → has_key x.keys key ≡ true → Seen c s x.lines key o time
  snap_seen o time x key e p g = seen (final m.home.place m.home.inside)
    where
      final : (i : ℕ) → i < length x.lines → IsFinal s x (nth_line x.lines i) time
      final i l = let t = h.told.snap o i x e l in t.final time (ap snap_time p) (t.done time p)

      m : KeyShown c x.lines key
      m = key_shown c x.lines key (h.framed.snap o x e).lines (snap_homes o x key e) (λ i l. let f = final i l in answer_shows_keys s h.sound _ f.read_time x.least (nth_line x.lines i).reads f.skip (nth_line x.lines i).shown (nth_line x.lines i).skipped f.replied) (snap_reads c s h o x key e g)

      seen : IsFinal s x (nth_line x.lines m.home.place) time → Seen c s x.lines key o time
      seen f = record {
        first = m.home.is_key.first;
        sees = subst (λ (v : Version). Sees (shard_at s (home_of c key.index)) key o time v) (sym m.on)
            (sees_closed (subst (λ (n : ℕ). ClosesAt (shard_at s n) key time m.version) m.home.on
            (h.closed.answered _ f.read_time x.least (nth_line x.lines m.home.place).reads f.skip (nth_line x.lines m.home.place).shown (nth_line x.lines m.home.place).skipped f.replied key m.version time m.home.has m.there f.upto f.passed (f.below key m.version m.there))));
      }

  -- what the lines of a transaction that was granted its locks show
  pub shown_to : (o : ℕ) (x : TxnSession) (key : Key) → (owner_at s o).session ≡ session.Transaction x → ((i : ℕ) → i < length x.lines → has_granted x.phase (nth_line x.lines i).state ≡ true) → has_key x.reads key ≡ true → KeyShown c x.lines key
  shown_to o x key e f g =
      key_shown c x.lines key (h.framed.txn o x e).lines (txn_homes o x key e) (λ i l. granted_shows s h.sound _ (attempt_of x) (coordinator_of x.lines) (nth_line x.lines i).reads (nth_line x.lines i).writes (nth_line x.lines i).shown ((h.told.txn o i x e l).granted (f i l))) (txn_reads c s h o x key e g)

  -- a transaction whose guard failed
  pub failed_seen : (o time : ℕ) (x : TxnSession) (key : Key) → (owner_at s o).session ≡ session.Transaction x → x.phase ≡ phase.Failed time → has_key x.reads key ≡ true → Seen c s x.lines key o time
  failed_seen o time x key e p g = record {
    first = m.home.is_key.first;
    sees = subst (λ (v : Version). Sees (shard_at s (home_of c key.index)) key o time v) (sym m.on) (sees_closed (subst (λ (n : ℕ). ClosesAt (shard_at s n) key time m.version) m.home.on closes));
  }
    where
      m : KeyShown c x.lines key
      m = shown_to o x key e (λ i l. ap (λ q. has_granted q (nth_line x.lines i).state) p) g

      freeing : freeing_time x.phase ≡ Some time
      freeing = ap freeing_time p

      released : Replied s (OfShard (nth_line x.lines m.home.place).shard) (request.Release (attempt_of x) time (leads x (nth_line x.lines m.home.place))) reply.Released
      released = (h.told.txn o m.home.place x e m.home.inside).released time freeing (ap (λ q. has_released q (leads x (nth_line x.lines m.home.place)) (nth_line x.lines m.home.place).state) p)

      closes : ClosesAt (shard_at s (nth_line x.lines m.home.place).shard) key time m.version
      closes =
          h.closed.freed (nth_line x.lines m.home.place).shard (attempt_of x) x (nth_line x.lines m.home.place) time
          ((h.framed.txn o x e).lines.first m.home.place m.home.inside)
          (h.closed.released _ (attempt_of x) time (leads x (nth_line x.lines m.home.place)) released)
          (present c s h o x e) refl (record { is = record { place = m.home.place; inside = m.home.inside; at = refl }; on = refl }) freeing key m.version m.home.has m.there
