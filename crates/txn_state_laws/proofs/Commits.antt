-- A commit that is kept is one of the present attempt, which keeps what it was shown and what it writes.
use Rattle.std.proofs.Common.{◌≡◌, ◌⊎◌, inl, inr, ℕ, ◌<◌, true, List, refl, sym, ap, ◌∙◌, subst}
use Rattle.std.specs.List.{filter}
use Rattle.rss_names.specs.declared.attempt.Attempt.{Attempt}
use Rattle.rss_names.specs.declared.service.Key.{Key}
use Rattle.pipeline_lang.specs.declared.config.Config.{Config}
use Rattle.rss_wire.specs.declared.messages.Outcome.TheVariants.{Committed}
use Rattle.rss_wire.specs.declared.messages.Version.{Version}
use Rattle.rss_tables.specs.Lines.{Line, coordinator_of}
use Rattle.rss_tables.specs.Locks.{has_key}
use Rattle.rss_tables.specs.ShardRow.{Shard}
use Rattle.rss_tables.specs.TransactionSession.{TxnSession, computed, writes_on}
use Rattle.rss_tables.specs.declared.lines.LineState.{LineState}
use Rattle.rss_tables.specs.declared.phases.TxnPhase.{TxnPhase}
use Rattle.rss_tables.specs.declared.phases.TxnPhase.TheVariants as phase
use Rattle.rss_machine.specs.State.{State, shard_at}
use Rattle.session_laws.specs.Frames.{Frame, frame_of, nth_line}
use Rattle.session_laws.proofs.Frames.{frames_length, frames_nth}
use Rattle.shard_laws.specs.Applied.{IsApplied}
use Rattle.txn_state_laws.specs.Decided.{AllDecided, CommitsAt, DecidedIs}
use Rattle.txn_state_laws.specs.Framed.{AllFramed, OfAttempt, IsLineOf}
use Rattle.txn_state_laws.specs.Justified.{Kept, may_be_prepared}
use Rattle.txn_state_laws.specs.Onward.{AllOnward, AttemptOnward}
use Rattle.txn_state_laws.specs.Told.{has_granted}
use Rattle.txn_state_laws.specs.Voted.{LineApplied}
use Rattle.txn_state_laws.proofs.Grows.{AttemptGrows, attempt_grows, coordinator_numbered, one_txn}

-- who has a commit time was granted its locks
pub commits_granted : (p : TxnPhase) (time : ℕ) (state : LineState) → CommitsAt p time → has_granted p state ≡ true
commits_granted phase.Locking time state f = absurd f
commits_granted phase.Preparing time state f = absurd f
commits_granted (phase.Freeing other) time state f = absurd f
commits_granted (phase.FreeingLast other) time state f = absurd f
commits_granted (phase.Deciding other) time state f = refl
commits_granted phase.Undoing time state f = absurd f
commits_granted (phase.Waiting other) time state f = refl
commits_granted (phase.Committed other) time state f = refl
commits_granted (phase.Failed other) time state f = absurd f

-- and asked to be prepared
pub commits_prepared : (p : TxnPhase) (time : ℕ) → CommitsAt p time → may_be_prepared p ≡ true
commits_prepared phase.Locking time f = absurd f
commits_prepared phase.Preparing time f = absurd f
commits_prepared (phase.Freeing other) time f = absurd f
commits_prepared (phase.FreeingLast other) time f = absurd f
commits_prepared (phase.Deciding other) time f = refl
commits_prepared phase.Undoing time f = absurd f
commits_prepared (phase.Waiting other) time f = refl
commits_prepared (phase.Committed other) time f = refl
commits_prepared (phase.Failed other) time f = absurd f

-- and is not being undone
pub not_undone : (p : TxnPhase) (time : ℕ) → CommitsAt p time → p ≡ phase.Undoing → ⊥
not_undone p time f e = subst (λ (q : TxnPhase). CommitsAt q time) e f

-- an attempt whose commit is kept is the present one of its transaction
pub record IsCommitted (a : Attempt) (x : TxnSession) (time : ℕ) : Type 0 where
  pub present : a.k ≡ x.k
  pub at : CommitsAt x.phase time

pub kept_committed : (c : Config) (s : State) → AllFramed c s → AllDecided s → (a : Attempt) (time : ℕ) → Kept s a (Committed time) → (x : TxnSession) → OfAttempt s a x → IsCommitted a x time
kept_committed c s framed decided a time k x of =
    let d : DecidedIs s (coordinator_of k.txn.lines) a (Committed time) = decided.at (coordinator_of k.txn.lines) a (Committed time) (coordinator_numbered c s framed a k.txn k.of) k.kept in
    let e = d.committed time refl in
    subst (λ (y : TxnSession). IsCommitted a y time) (one_txn s a d.txn x d.of of) record { present = e.0; at = e.1 }

-- what is applied of a line is so of one with the same keys, that was shown the same
pub applied_same : (sh : Shard) (call time : ℕ) (l m : Line) (writes others : List (Key × ℕ)) → m.reads ≡ l.reads → m.writes ≡ l.writes → m.shown ≡ l.shown → others ≡ writes → IsApplied sh call time l.reads l.shown (writes_on l writes) → IsApplied sh call time m.reads m.shown (writes_on m others)
applied_same sh call time l m writes others reads_same writes_same shown_same all_same h =
    subst (λ (keys : List Key). IsApplied sh call time keys m.shown (writes_on m others)) (sym reads_same)
    (subst (λ (shown : List (Key × Version)). IsApplied sh call time l.reads shown (writes_on m others)) (sym shown_same)
    (subst (λ (list : List (Key × ℕ)). IsApplied sh call time l.reads l.shown list) (sym same) h))
  where
    same : writes_on m others ≡ writes_on l writes
    same = ap (λ (keys : List Key). filter (λ (write : Key × ℕ). has_key keys write.0) others) writes_same ∙ ap (writes_on l) all_same

-- a line whose shard has applied its commit, as the transaction goes on
pub line_applied : (c : Config) (s t : State) → AllFramed c s → AllFramed c t → AllOnward s t → AllDecided s → AllDecided t → (n : ℕ) (a : Attempt) (time : ℕ) → Kept s a (Committed time) → Kept t a (Committed time) → (x : TxnSession) → OfAttempt s a x → (l : Line) → IsLineOf x n l → IsApplied (shard_at t n) a.call time l.reads l.shown (writes_on l (computed x)) → LineApplied t n a time
line_applied c s t framed framed' on decided decided' n a time k k' x of l i h = record {
  txn = g.txn;
  of = g.of;
  present = now.present;
  line = nth_line g.txn.lines i.is.place;
  is_line = record {
    is = record { place = i.is.place; inside = subst (λ (long : ℕ). i.is.place < long) (sym (frames_length g.txn.lines x.lines g.onward.same.frames)) i.is.inside; at = refl };
    on = ap (λ (f : Frame). f.shard) frame ∙ i.on;
  };
  applied = applied_same (shard_at t n) a.call time l (nth_line g.txn.lines i.is.place) (computed x) (computed g.txn) (ap (λ (f : Frame). f.reads) frame) (ap (λ (f : Frame). f.writes) frame) shown (more.prepared (commits_prepared x.phase time before.at)).2 h;
}
  where
    g : AttemptGrows t a x
    g = attempt_grows s t on a x of

    before : IsCommitted a x time
    before = kept_committed c s framed decided a time k x of

    now : IsCommitted a g.txn time
    now = kept_committed c t framed' decided' a time k' g.txn g.of

    more : AttemptOnward x g.txn
    more = g.onward.attempt (sym now.present ∙ before.present)

    frame : frame_of (nth_line g.txn.lines i.is.place) ≡ frame_of l
    frame = frames_nth g.txn.lines x.lines g.onward.same.frames i.is.place ∙ ap frame_of i.is.at

    by_phase : (g.txn.phase ≡ phase.Undoing) ⊎ ((nth_line g.txn.lines i.is.place).shown ≡ (nth_line x.lines i.is.place).shown) → (nth_line g.txn.lines i.is.place).shown ≡ l.shown
    by_phase (inl e) = absurd (not_undone g.txn.phase time now.at e)
    by_phase (inr e) = e ∙ ap (λ (m : Line). m.shown) i.is.at

    shown : (nth_line g.txn.lines i.is.place).shown ≡ l.shown
    shown = by_phase (more.shown i.is.place i.is.inside (commits_granted x.phase time (nth_line x.lines i.is.place).state before.at))
