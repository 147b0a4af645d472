-- The request of a phase to a line is just: what a transaction or a snapshot asks its lines.
use Rattle.std.proofs.Common.{◌≡◌, inl, ℕ, zero, suc, ◌<◌, Bool, true, false, List, [], ◌∷◌, All, length, get_or, Some, IsTrue, refl, sym, ap, ◌∙◌, subst, arith}
use Rattle.std.proofs.lemmas.Bool.{true≢false}
use Rattle.std.proofs.lemmas.List.Elements.{All-cons, All-nil, All-map, All-from_get_or}
use Rattle.rss_names.specs.declared.attempt.Attempt.{Attempt}
use Rattle.rss_names.specs.declared.service.Key.{Key}
use Rattle.rss_names.specs.declared.service.Target.{Target}
use Rattle.rss_names.specs.declared.service.Target.TheVariants.{Shard}
use Rattle.pipeline_lang.specs.declared.config.Config.{Config}
use Rattle.rss_wire.specs.declared.messages.Outcome.{Outcome}
use Rattle.rss_wire.specs.declared.messages.Outcome.TheVariants.{Committed, Aborted}
use Rattle.rss_wire.specs.declared.messages.Request.{Request}
use Rattle.rss_tables.specs.Lines.{Line, line_at, coordinator_of, decision_request, tells_decision}
use Rattle.rss_tables.specs.Locks.{has_key}
use Rattle.rss_tables.specs.Outs.{Out, line_out, told}
use Rattle.rss_tables.specs.SnapshotSession.{SnapSession, snap_request, snap_asks}
use Rattle.rss_tables.specs.TransactionSession.{TxnSession, attempt_of, computed, txn_request, asks_lines}
use Rattle.rss_tables.specs.declared.phases.SnapPhase.{SnapPhase}
use Rattle.rss_tables.specs.declared.phases.SnapPhase.TheVariants.{First, Second, Done}
use Rattle.rss_tables.specs.declared.phases.TxnPhase.{TxnPhase}
use Rattle.rss_tables.specs.declared.phases.TxnPhase.TheVariants as phase
use Rattle.rss_machine.specs.State.{State, owner_at}
use Rattle.rss_machine.specs.declared.session.Session.TheVariants as session
use Rattle.session_laws.specs.Frames.{IsLine, frames_of, nth_line}
use Rattle.session_laws.proofs.Frames.{line_at_nth}
use Rattle.session_laws.proofs.Shown.{computed_fits}
use Rattle.txn_state_laws.specs.Framed.{OfAttempt, TxnFramed, IsLineOf, LinesFit}
use Rattle.txn_state_laws.specs.Justified.{IsJust, Kept, ReleaseIs, may_be_prepared, may_be_committed}
use Rattle.txn_state_laws.specs.Told.{TxnKnows, freeing_time, snap_time}
use Rattle.txn_state_laws.proofs.Grows.{coordinator_is}
use Rattle.txn_decision_laws.proofs.Heard.{attempt_now}
use Rattle.txn_decision_laws.proofs.JustStays.{LineCopy, line_copy, frame_shard, frame_reads, frame_writes, writes_same}
use Rattle.txn_decision_laws.proofs.Replies.{shard_same}

-- what is sent to a shard is just
abbrev pub OutJust : State → ℕ → Out → Type 0
OutJust t o out = (shard : ℕ) → out.target ≡ Shard shard → IsJust t o shard out.request

-- a request to a line
pub out_just : (t : State) (o shard : ℕ) (q : Request) → IsJust t o shard q → (other : ℕ) → ◌≡◌ {A = Target} (Shard shard) (Shard other) → IsJust t o other q
out_just t o shard q h other f = subst (λ (n : ℕ). IsJust t o n q) (shard_same shard other f) h

-- the phases whose requests go to the coordinator alone
abbrev pub asks_leader : TxnPhase → Bool
asks_leader phase.Locking = false
asks_leader phase.Preparing = false
asks_leader (phase.Freeing time) = false
asks_leader (phase.FreeingLast time) = true
asks_leader (phase.Deciding time) = true
asks_leader phase.Undoing = true
asks_leader (phase.Waiting time) = false
asks_leader (phase.Committed time) = false
asks_leader (phase.Failed time) = false

-- THE LINES THAT ARE ASKED

-- each line of a list, and each that a test picks
pub each_line : (lines : List Line) → All (IsLine lines) lines
each_line lines = All-from_get_or (IsLine lines) lines (nth_line lines (length lines)) (λ i l. record { place = i; inside = l; at = same lines i l })
  where
    same : (xs : List Line) (i : ℕ) → i < length xs → nth_line xs i ≡ get_or xs i (nth_line lines (length lines))
    same [] i l = absurd (omega (arith, l))
    same (x ∷ xs) zero l = refl
    same (x ∷ xs) (suc i) l = same xs i (omega (arith, l))

pub copies : (u v : List Line) → frames_of v ≡ frames_of u → (lines : List Line) → All (IsLine u) lines → All (LineCopy v) lines
copies u v e lines h k d l = line_copy u v e (get_or lines k d) (h k d l)

-- the coordinator's line
pub leader_line : (c : Config) (lines : List Line) → LinesFit c lines → (shard : ℕ) → shard ≡ coordinator_of lines → IsLine lines (line_at lines shard) × ((line_at lines shard).shard ≡ coordinator_of lines)
leader_line c lines f shard e =
    let first : shard ≡ (nth_line lines 0).shard = e ∙ coordinator_is lines in
    let found : line_at lines shard ≡ nth_line lines 0 = ap (line_at lines) first ∙ line_at_nth lines f.apart 0 f.some in
    (record { place = 0; inside = f.some; at = sym found }, ap (λ (l : Line). l.shard) found ∙ sym (coordinator_is lines))

-- TRANSACTIONS

module _ (c : Config) (t : State) (o : ℕ) (y : TxnSession) (f : TxnFramed c t o y) (e : (owner_at t o).session ≡ session.Transaction y) (k : TxnKnows y) where
  now : OfAttempt t (attempt_of y) y
  now = attempt_now c t o y f e

  is_line_of : (l : Line) (i : LineCopy y.lines l) → IsLineOf y l.shard i.line
  is_line_of l i = record { is = i.is; on = frame_shard i.line l i.frame }

  release_just : (p : TxnPhase) (time : ℕ) (last : Bool) → y.phase ≡ p → freeing_time p ≡ Some time → (l : Line) (i : LineCopy y.lines l) → (last ≡ true → l.shard ≡ coordinator_of y.lines) → ReleaseIs t l.shard (attempt_of y) time last
  release_just p time last q g l i h = record { txn = y; of = now; line = i.line; is_line = is_line_of l i; at = h; now = λ n. inl (ap freeing_time q ∙ g) }

  pub request_just : (p : TxnPhase) → y.phase ≡ p → (l : Line) → LineCopy y.lines l → (asks_leader p ≡ true → l.shard ≡ coordinator_of y.lines) → IsJust t o l.shard (txn_request y p l)
  request_just phase.Locking q l i h = record {
    txn = y;
    of = now;
    line = i.line;
    is_line = is_line_of l i;
    coordinator_is = refl;
    reads_are = sym (frame_reads i.line l i.frame);
    writes_are = sym (frame_writes i.line l i.frame);
  }
  request_just phase.Preparing q l i h = record {
    txn = y;
    of = now;
    line = i.line;
    is_line = is_line_of l i;
    least_is = refl;
    fits = λ key w. subst (λ (keys : List Key). IsTrue (has_key keys key)) (sym (frame_writes i.line l i.frame)) (computed_fits l (computed y) key w);
    now = λ n. record { may = ap (λ (z : TxnPhase). may_be_prepared z) q; ends = refl; writes_are = writes_same l i.line (computed y) (computed y) (sym (frame_writes i.line l i.frame)) refl };
  }
  request_just (phase.Freeing time) q l i h = release_just (phase.Freeing time) time false q refl l i (λ z. absurd (true≢false (sym z)))
  request_just (phase.FreeingLast time) q l i h = release_just (phase.FreeingLast time) time true q refl l i (λ z. h refl)
  request_just (phase.Deciding time) q l i h = record {
    txn = y;
    of = now;
    at = h refl;
    line = i.line;
    is_line = is_line_of l i;
    now = λ z n. (ap may_be_committed q, k.deciding time q);
  }
  request_just phase.Undoing q l i h = record {
    txn = y;
    of = now;
    at = h refl;
    line = i.line;
    is_line = is_line_of l i;
    now = λ z n. absurd (true≢false (sym z));
  }
  request_just (phase.Waiting time) q l i h = tt
  request_just (phase.Committed time) q l i h = tt
  request_just (phase.Failed time) q l i h = tt

  -- all that a phase asks of lines, and of the coordinator's alone
  pub lines_just : (lines : List Line) → asks_leader y.phase ≡ false → All (LineCopy y.lines) lines → All (OutJust t o) (asks_lines y lines)
  lines_just lines n h = All-map (OutJust t o) (λ (l : Line). line_out l.shard (txn_request y y.phase l)) lines
      (λ i d g. out_just t o (get_or lines i d).shard (txn_request y y.phase (get_or lines i d)) (request_just y.phase refl (get_or lines i d) (h i d g) (λ z. absurd (true≢false (sym z ∙ n)))))

  pub leader_just : (shard : ℕ) → shard ≡ coordinator_of y.lines → All (OutJust t o) (asks_lines y (line_at y.lines shard ∷ []))
  leader_just shard z =
      let l = line_at y.lines shard in
      let p = leader_line c y.lines f.lines shard z in
      All-cons (OutJust t o) (line_out l.shard (txn_request y y.phase l)) [] (out_just t o l.shard (txn_request y y.phase l) (request_just y.phase refl l record { line = l; is = p.0; frame = refl } (λ n. p.1))) (All-nil (OutJust t o))

-- SNAPSHOTS

module _ (t : State) (o : ℕ) (y : SnapSession) (e : (owner_at t o).session ≡ session.Snapshot y) where
  pub snap_request_just : (p : SnapPhase) → y.phase ≡ p → (l : Line) → LineCopy y.lines l → IsJust t o l.shard (snap_request y p l)
  snap_request_just (First read_time) q l i = record {
    snap = y;
    under_way = e;
    line = i.line;
    is_line = i.is;
    on = frame_shard i.line l i.frame;
    least_is = refl;
    keys_are = sym (frame_reads i.line l i.frame);
    first = λ z. inl q;
    second = λ z. absurd (true≢false z);
  }
  snap_request_just (Second time) q l i = record {
    snap = y;
    under_way = e;
    line = i.line;
    is_line = i.is;
    on = frame_shard i.line l i.frame;
    least_is = refl;
    keys_are = sym (frame_reads i.line l i.frame);
    first = λ z. absurd (true≢false (sym z));
    second = λ z. ap snap_time q;
  }
  snap_request_just (Done time) q l i = record {
    snap = y;
    under_way = e;
    line = i.line;
    is_line = i.is;
    on = frame_shard i.line l i.frame;
    least_is = refl;
    keys_are = sym (frame_reads i.line l i.frame);
    first = λ z. absurd (true≢false (sym z));
    second = λ z. ap snap_time q;
  }

  pub snap_lines_just : (lines : List Line) → All (LineCopy y.lines) lines → All (OutJust t o) (snap_asks y lines)
  snap_lines_just lines h = All-map (OutJust t o) (λ (l : Line). line_out l.shard (snap_request y y.phase l)) lines
      (λ i d g. out_just t o (get_or lines i d).shard (snap_request y y.phase (get_or lines i d)) (snap_request_just y.phase refl (get_or lines i d) (h i d g)))

-- DECISIONS

-- a decision that is kept is told
pub decision_just : (t : State) (o shard : ℕ) (a : Attempt) (outcome : Outcome) → Kept t a outcome → IsJust t o shard (decision_request a outcome)
decision_just t o shard a (Committed time) h = h
decision_just t o shard a Aborted h = h

pub decisions_just : (t : State) (o : ℕ) (a : Attempt) (outcome : Outcome) (shards : List ℕ) → Kept t a outcome → All (OutJust t o) (tells_decision a outcome shards)
decisions_just t o a outcome shards h = All-map (OutJust t o) (λ shard. told shard (decision_request a outcome)) shards
    (λ i d g. out_just t o (get_or shards i d) (decision_request a outcome) (decision_just t o (get_or shards i d) a outcome h))
