-- What a line was told stays told, while the attempt is the same.
use Rattle.std.proofs.Common.{◌≡◌, ℕ, Bool, true, false, List, Some, sym, ap, ◌∙◌, subst, filter}
use Rattle.std.specs.Prelude.{◌==◌}
use Rattle.truetime.specs.Reading.{Reading}
use Rattle.rss_names.specs.declared.attempt.Attempt.{Attempt}
use Rattle.rss_names.specs.declared.service.Key.{Key}
use Rattle.rss_names.specs.declared.service.Target.TheVariants.{Shard}
use Rattle.rss_wire.specs.declared.messages.Version.{Version}
use Rattle.rss_wire.specs.declared.messages.Reply.TheVariants as reply
use Rattle.rss_wire.specs.declared.messages.Request.TheVariants as request
use Rattle.rss_tables.specs.Lines.{Line, coordinator_of, is_answered}
use Rattle.rss_tables.specs.Locks.{has_key}
use Rattle.rss_tables.specs.TransactionSession.{TxnSession, attempt_of, computed, leads}
use Rattle.rss_tables.specs.declared.lines.LineState.{LineState}
use Rattle.rss_tables.specs.declared.phases.TxnPhase.{TxnPhase}
use Rattle.rss_tables.specs.declared.phases.TxnPhase.TheVariants as phase
use Rattle.rss_machine.specs.State.{State}
use Rattle.session_laws.specs.Frames.{Frame, frame_of, SameTxn}
use Rattle.shard_event_laws.specs.Facts.{NetGrows}
use Rattle.shard_event_laws.specs.Known.{Known}
use Rattle.txn_state_laws.specs.Replied.{Replied}
use Rattle.txn_state_laws.specs.Told.{has_granted, has_voted, freeing_time, has_released, LineTold}
use Rattle.txn_session_laws.proofs.Alike.{coordinator_alike}
use Rattle.txn_session_laws.proofs.Replies.{replied_grows}

-- what a line is told, by what the request and the reply are made of
abbrev Granting : State → Attempt → ℕ → Frame → List (Key × Version) → Type 0
Granting s a coordinator f shown = Replied s (Shard f.shard) (request.Lock a coordinator f.reads f.writes) (reply.Granted shown)

abbrev written_there : List Key → List (Key × ℕ) → List (Key × ℕ)
written_there keys writes = filter (λ (write : Key × ℕ). has_key keys write.0) writes

abbrev Preparing : State → Attempt → ℕ → ℕ → List (Key × ℕ) → Frame → ℕ → Type 0
Preparing s a least earliest_end writes f time = Replied s (Shard f.shard) (request.Prepare a least earliest_end (written_there f.writes writes)) (reply.Prepared time)

abbrev Releasing : State → Attempt → ℕ → ℕ → Frame → Type 0
Releasing s a time coordinator f = Replied s (Shard f.shard) (request.Release a time (f.shard == coordinator)) reply.Released

abbrev pub Granted : State → TxnSession → Line → Type 0
Granted s x l = Granting s (attempt_of x) (coordinator_of x.lines) (frame_of l) l.shown

abbrev pub Voted : State → TxnSession → Line → Type 0
Voted s x l = Preparing s (attempt_of x) x.least x.earliest_end (computed x) (frame_of l) l.prepare_time

abbrev pub Released : State → TxnSession → Line → ℕ → Type 0
Released s x l time = Releasing s (attempt_of x) time (coordinator_of x.lines) (frame_of l)

abbrev attempt_at : ℕ → ℕ → Attempt
attempt_at call k = record { call = call; k = k }

attempt_same : (x y : TxnSession) → SameTxn x y → y.k ≡ x.k → attempt_of y ≡ attempt_of x
attempt_same x y s k = ap (λ (call : ℕ). attempt_at call y.k) s.call ∙ ap (attempt_at x.call) k

pub leads_same : (x y : TxnSession) (l m : Line) → SameTxn x y → frame_of m ≡ frame_of l → leads y m ≡ leads x l
leads_same x y l m s f = ap (λ (g : Frame). g.shard == coordinator_of y.lines) f ∙ ap (λ (n : ℕ). l.shard == n) (coordinator_alike y.lines x.lines s.frames)

module _ (s : State) (x y : TxnSession) (l m : Line) (same : SameTxn x y) (k : y.k ≡ x.k) (f : frame_of m ≡ frame_of l) where
  pub granted_same : m.shown ≡ l.shown → Granted s x l → Granted s y m
  granted_same e h =
      subst (λ (a : Attempt). Granting s a (coordinator_of y.lines) (frame_of m) m.shown) (sym (attempt_same x y same k))
      (subst (λ (n : ℕ). Granting s (attempt_of x) n (frame_of m) m.shown) (sym (coordinator_alike y.lines x.lines same.frames))
      (subst (λ (g : Frame). Granting s (attempt_of x) (coordinator_of x.lines) g m.shown) (sym f)
      (subst (Granting s (attempt_of x) (coordinator_of x.lines) (frame_of l)) (sym e) h)))

  pub voted_same : m.prepare_time ≡ l.prepare_time → y.earliest_end ≡ x.earliest_end → computed y ≡ computed x → Voted s x l → Voted s y m
  voted_same e n c h =
      subst (λ (a : Attempt). Preparing s a y.least y.earliest_end (computed y) (frame_of m) m.prepare_time) (sym (attempt_same x y same k))
      (subst (λ (least : ℕ). Preparing s (attempt_of x) least y.earliest_end (computed y) (frame_of m) m.prepare_time) (sym same.least)
      (subst (λ (end : ℕ). Preparing s (attempt_of x) x.least end (computed y) (frame_of m) m.prepare_time) (sym n)
      (subst (λ (writes : List (Key × ℕ)). Preparing s (attempt_of x) x.least x.earliest_end writes (frame_of m) m.prepare_time) (sym c)
      (subst (λ (g : Frame). Preparing s (attempt_of x) x.least x.earliest_end (computed x) g m.prepare_time) (sym f)
      (subst (Preparing s (attempt_of x) x.least x.earliest_end (computed x) (frame_of l)) (sym e) h)))))

  pub released_same : (time : ℕ) → Released s x l time → Released s y m time
  released_same time h =
      subst (λ (a : Attempt). Releasing s a time (coordinator_of y.lines) (frame_of m)) (sym (attempt_same x y same k))
      (subst (λ (n : ℕ). Releasing s (attempt_of x) time n (frame_of m)) (sym (coordinator_alike y.lines x.lines same.frames))
      (subst (Releasing s (attempt_of x) time (coordinator_of x.lines)) (sym f) h))

  -- what a line was told in an earlier phase of the attempt
  pub told_same : (has_granted y.phase m.state ≡ true → (has_granted x.phase l.state ≡ true) × (m.shown ≡ l.shown))
      → (has_voted y.phase m.state ≡ true → (has_voted x.phase l.state ≡ true) × (m.prepare_time ≡ l.prepare_time) × (y.earliest_end ≡ x.earliest_end) × (computed y ≡ computed x))
      → ((time : ℕ) → freeing_time y.phase ≡ Some time → has_released y.phase (leads x l) m.state ≡ true → (freeing_time x.phase ≡ Some time) × (has_released x.phase (leads x l) l.state ≡ true))
      → LineTold s x l → LineTold s y m
  told_same g v r h = record {
    granted = λ e. granted_same (g e).1 (h.granted (g e).0);
    voted = λ e. voted_same (v e).1 (v e).2 (v e).3 (h.voted (v e).0);
    released = λ time e a. let b = r time e (subst (λ (leading : Bool). has_released y.phase leading m.state ≡ true) (leads_same x y l m same f) a) in released_same time (h.released time b.0 b.1);
  }

-- what lines were told stays, when the net grows
pub told_grows : (at : Reading) (s t : State) (x : TxnSession) (l : Line) → Known at s → NetGrows s t → LineTold s x l → LineTold t x l
told_grows at s t x l known grows h = record {
  granted = λ e. replied_grows at s t _ _ _ known grows (h.granted e);
  voted = λ e. replied_grows at s t _ _ _ known grows (h.voted e);
  released = λ time e a. replied_grows at s t _ _ _ known grows (h.released time e a);
}

-- a line that is not answered where it was not before was told no more
pub granted_more : (p : TxnPhase) (a b : LineState) → (is_answered a ≡ true → is_answered b ≡ true) → has_granted p a ≡ true → has_granted p b ≡ true
granted_more phase.Locking a b h e = h e
granted_more phase.Preparing a b h e = e
granted_more (phase.Freeing time) a b h e = e
granted_more (phase.FreeingLast time) a b h e = e
granted_more (phase.Deciding time) a b h e = e
granted_more phase.Undoing a b h e = e
granted_more (phase.Waiting time) a b h e = e
granted_more (phase.Committed time) a b h e = e
granted_more (phase.Failed time) a b h e = e

pub voted_more : (p : TxnPhase) (a b : LineState) → (is_answered a ≡ true → is_answered b ≡ true) → has_voted p a ≡ true → has_voted p b ≡ true
voted_more phase.Locking a b h e = e
voted_more phase.Preparing a b h e = h e
voted_more (phase.Freeing time) a b h e = e
voted_more (phase.FreeingLast time) a b h e = e
voted_more (phase.Deciding time) a b h e = e
voted_more phase.Undoing a b h e = e
voted_more (phase.Waiting time) a b h e = e
voted_more (phase.Committed time) a b h e = e
voted_more (phase.Failed time) a b h e = e

pub released_more : (p : TxnPhase) (leading : Bool) (a b : LineState) → (is_answered a ≡ true → is_answered b ≡ true) → has_released p leading a ≡ true → has_released p leading b ≡ true
released_more phase.Locking leading a b h e = e
released_more phase.Preparing leading a b h e = e
released_more (phase.Freeing time) true a b h e = e
released_more (phase.Freeing time) false a b h e = h e
released_more (phase.FreeingLast time) true a b h e = e
released_more (phase.FreeingLast time) false a b h e = e
released_more (phase.Deciding time) leading a b h e = e
released_more phase.Undoing leading a b h e = e
released_more (phase.Waiting time) leading a b h e = e
released_more (phase.Committed time) leading a b h e = e
released_more (phase.Failed time) leading a b h e = e
