-- What decisions are heard: each is the one that is kept at the coordinator.
use Rattle.std.proofs.Common.{◌≡◌, ℕ, zero, suc, Bool, true, false, List, Option, Some, None, refl, sym, ap, ◌∙◌, subst, arith}
use Rattle.std.proofs.lemmas.Bool.{true≢false}
use Rattle.truetime.specs.Reading.{Reading}
use Rattle.rss_names.specs.declared.attempt.Attempt.{Attempt}
use Rattle.rss_names.specs.declared.service.Target.{Target}
use Rattle.rss_names.specs.declared.service.Target.TheVariants.{Shard}
use Rattle.pipeline_lang.specs.declared.config.Config.{Config}
use Rattle.rss_wire.specs.declared.messages.Holder.{Holder}
use Rattle.rss_wire.specs.declared.messages.Outcome.{Outcome}
use Rattle.rss_wire.specs.declared.messages.Outcome.TheVariants.{Committed}
use Rattle.rss_wire.specs.declared.messages.Reply.{Reply}
use Rattle.rss_wire.specs.declared.messages.Reply.TheVariants as reply
use Rattle.rss_wire.specs.declared.messages.Request.{Request}
use Rattle.rss_wire.specs.declared.messages.Request.TheVariants as request
use Rattle.rss_tables.specs.Lines.{Line, coordinator_of}
use Rattle.rss_tables.specs.ShardRow.{decision_in}
use Rattle.rss_tables.specs.SnapshotSession.{SnapSession, snap_request}
use Rattle.rss_tables.specs.TransactionSession.{TxnSession, attempt_of, txn_request}
use Rattle.rss_tables.specs.Turns.{Turn}
use Rattle.rss_tables.specs.declared.lines.LineState.{LineState}
use Rattle.rss_tables.specs.declared.lines.LineState.TheVariants.{Awaiting, Inquiring}
use Rattle.rss_tables.specs.declared.phases.SnapPhase.{SnapPhase}
use Rattle.rss_tables.specs.declared.phases.SnapPhase.TheVariants.{First, Second, Done}
use Rattle.rss_tables.specs.declared.phases.TxnPhase.{TxnPhase}
use Rattle.rss_tables.specs.declared.phases.TxnPhase.TheVariants as phase
use Rattle.rss_machine.specs.Effect.{least_shard}
use Rattle.rss_machine.specs.State.{State, owner_at, shard_at}
use Rattle.rss_machine.specs.declared.session.Session.TheVariants as session
use Rattle.session_laws.specs.Awaits.{awaited_by, txn_awaits, snap_awaits}
use Rattle.session_laws.specs.Cases.{awaits_decision, TxnTurn, granted, prepares, frees, prepared, decides, released, frees_last, fails, wounded, commits, waits, aborts, undone, blocked, resolves, sleeps, asks}
use Rattle.session_laws.specs.Frames.{nth_line}
use Rattle.session_laws.proofs.TxnCases.{txn_case, some_request, none_awaited}
use Rattle.shard_event_laws.specs.Events.{Hears}
use Rattle.txn_state_laws.specs.Awaited.{AnswersHeard, LineHears}
use Rattle.txn_state_laws.specs.Decided.{AllDecided, DecidedIs, CommitsAt}
use Rattle.txn_state_laws.specs.Framed.{OfAttempt, AllFramed, TxnFramed}
use Rattle.txn_state_laws.specs.Justified.{Kept}
use Rattle.txn_state_laws.specs.Replied.{Replied}
use Rattle.txn_state_laws.proofs.Grows.{one_txn, coordinator_first}

-- wherever a decision is found, it is kept for the attempt at its coordinator
pub kept_of : (s : State) → AllDecided s → (shard : ℕ) (a : Attempt) (outcome : Outcome) → decision_in (shard_at s shard).decisions a ≡ Some outcome → Kept s a outcome
kept_of s h zero a outcome e =
    let d = h.at 1 a outcome (omega arith) e in
    record { txn = d.txn; of = d.of; kept = ap (λ (n : ℕ). decision_in (shard_at s n).decisions a) (sym d.at) ∙ e }
kept_of s h (suc n) a outcome e =
    let d = h.at (suc n) a outcome (omega arith) e in
    record { txn = d.txn; of = d.of; kept = ap (λ (m : ℕ). decision_in (shard_at s m).decisions a) (sym d.at) ∙ e }

-- the present attempt of an owner's transaction
pub attempt_now : (c : Config) (s : State) (o : ℕ) (x : TxnSession) → TxnFramed c s o x → (owner_at s o).session ≡ session.Transaction x → OfAttempt s (attempt_of x) x
attempt_now c s o x f e = record {
  under_way = ap (λ (n : ℕ). (owner_at s n).session) f.call ∙ e;
  first = f.attempts;
  last = omega arith;
}

-- what is kept for an attempt is kept at the coordinator of its transaction
pub kept_at : (s : State) (a : Attempt) (x : TxnSession) (outcome : Outcome) → OfAttempt s a x → Kept s a outcome → decision_in (shard_at s (coordinator_of x.lines)).decisions a ≡ Some outcome
kept_at s a x outcome i k = ap (λ (y : TxnSession). decision_in (shard_at s (coordinator_of y.lines)).decisions a) (one_txn s a x k.txn i k.of) ∙ k.kept

-- WHAT A LINE AWAITS

abbrev target_in : Target → Option (Target × Request) → Target
target_in other None = other
target_in other (Some z) = z.0

pub some_target : (target target' : Target) (q q' : Request) → ◌≡◌ {A = Option (Target × Request)} (Some (target, q)) (Some (target', q')) → target ≡ target'
some_target target target' q q' e = ap (target_in target) e

pub txn_awaited : (x : TxnSession) (p : TxnPhase) (l : Line) (z : Target × Request) → txn_awaits x p l ≡ Some z → awaited_by l.state l.shard (txn_request x p l) ≡ Some z
txn_awaited x phase.Locking l z e = e
txn_awaited x phase.Preparing l z e = e
txn_awaited x (phase.Freeing time) l z e = e
txn_awaited x (phase.FreeingLast time) l z e = e
txn_awaited x (phase.Deciding time) l z e = e
txn_awaited x phase.Undoing l z e = e
txn_awaited x (phase.Waiting time) l z e = none_awaited z e
txn_awaited x (phase.Committed time) l z e = none_awaited z e
txn_awaited x (phase.Failed time) l z e = none_awaited z e

pub snap_awaited : (x : SnapSession) (p : SnapPhase) (l : Line) (z : Target × Request) → snap_awaits x p l ≡ Some z → awaited_by l.state l.shard (snap_request x p l) ≡ Some z
snap_awaited x (First time) l z e = e
snap_awaited x (Second time) l z e = e
snap_awaited x (Done time) l z e = none_awaited z e

-- the coordinator's decision is awaited
pub record DecideAwaited (x : TxnSession) (l : Line) (target : Target) (q : Request) : Type 0 where
  pub commit : Bool
  pub time : ℕ
  pub to : target ≡ Shard l.shard
  pub asks : q ≡ request.Decide (attempt_of x) commit time

decide_awaited : (x : TxnSession) (p : TxnPhase) (l : Line) (target : Target) (q : Request) → awaits_decision p ≡ true → l.state ≡ Awaiting → txn_awaits x p l ≡ Some (target, q) → DecideAwaited x l target q
decide_awaited x (phase.Deciding time) l target q d s e =
    let f : ◌≡◌ {A = Option (Target × Request)} (Some (Shard l.shard, request.Decide (attempt_of x) true time)) (Some (target, q)) = ap (λ (z : LineState). awaited_by z l.shard (request.Decide (attempt_of x) true time)) (sym s) ∙ e in
    record { commit = true; time = time; to = sym (some_target (Shard l.shard) target _ q f); asks = sym (some_request (Shard l.shard) target _ q f) }
decide_awaited x phase.Undoing l target q d s e =
    let f : ◌≡◌ {A = Option (Target × Request)} (Some (Shard l.shard, request.Decide (attempt_of x) false 0)) (Some (target, q)) = ap (λ (z : LineState). awaited_by z l.shard (request.Decide (attempt_of x) false 0)) (sym s) ∙ e in
    record { commit = false; time = 0; to = sym (some_target (Shard l.shard) target _ q f); asks = sym (some_request (Shard l.shard) target _ q f) }
decide_awaited x phase.Locking l target q d s e = absurd (true≢false (sym d))
decide_awaited x phase.Preparing l target q d s e = absurd (true≢false (sym d))
decide_awaited x (phase.Freeing time) l target q d s e = absurd (true≢false (sym d))
decide_awaited x (phase.FreeingLast time) l target q d s e = absurd (true≢false (sym d))
decide_awaited x (phase.Waiting time) l target q d s e = absurd (true≢false (sym d))
decide_awaited x (phase.Committed time) l target q d s e = absurd (true≢false (sym d))
decide_awaited x (phase.Failed time) l target q d s e = absurd (true≢false (sym d))

-- a holder's decision is awaited
pub inquire_awaited : (holder : Holder) (state : LineState) (shard : ℕ) (asked : Request) (target : Target) (q : Request) → state ≡ Inquiring holder → awaited_by state shard asked ≡ Some (target, q)
    → (target ≡ Shard holder.coordinator) × (q ≡ request.Inquire holder.attempt)
inquire_awaited holder state shard asked target q s e =
    let f : ◌≡◌ {A = Option (Target × Request)} (Some (Shard holder.coordinator, request.Inquire holder.attempt)) (Some (target, q)) = ap (λ (z : LineState). awaited_by z shard asked) (sym s) ∙ e in
    (sym (some_target (Shard holder.coordinator) target _ q f), sym (some_request (Shard holder.coordinator) target _ q f))

-- WHO HEARS A DECISION

abbrev is_decision : Reply → Bool
is_decision (reply.Decided outcome) = true
is_decision (reply.Granted shown) = false
is_decision (reply.Prepared time) = false
is_decision reply.Released = false
is_decision reply.Wounded = false
is_decision (reply.Wait holders) = false
is_decision (reply.Blocked holders) = false
is_decision (reply.Outcome outcome) = false
is_decision reply.Open = false
is_decision reply.Done = false
is_decision (reply.Values versions skipped) = false
is_decision reply.Fixed = false
is_decision (reply.Held value stamp writer) = false
is_decision reply.Stored = false

-- a line that hears a decision awaits one
hears_decision : (x : TxnSession) (l : Line) (at : Reading) (r : Reply) (turn : Turn TxnSession) → TxnTurn x l at r turn → is_decision r ≡ true → (awaits_decision x.phase ≡ true) × (l.state ≡ Awaiting)
hears_decision x l at _ _ (commits d time p s e) i = (ap awaits_decision p, s)
hears_decision x l at _ _ (waits d time p s e) i = (ap awaits_decision p, s)
hears_decision x l at _ _ (aborts p s) i = (p, s)
hears_decision x l at _ _ (undone time p s) i = (ap awaits_decision p, s)
hears_decision x l at _ _ (granted shown p s e) i = absurd (true≢false (sym i))
hears_decision x l at _ _ (prepares shown p s e g) i = absurd (true≢false (sym i))
hears_decision x l at _ _ (frees shown p s e g) i = absurd (true≢false (sym i))
hears_decision x l at _ _ (prepared time p s e) i = absurd (true≢false (sym i))
hears_decision x l at _ _ (decides time p s e) i = absurd (true≢false (sym i))
hears_decision x l at _ _ (released time p s e) i = absurd (true≢false (sym i))
hears_decision x l at _ _ (frees_last time p s e) i = absurd (true≢false (sym i))
hears_decision x l at _ _ (fails time p s) i = absurd (true≢false (sym i))
hears_decision x l at _ _ (wounded p s) i = absurd (true≢false (sym i))
hears_decision x l at _ _ (blocked holder holders p s) i = absurd (true≢false (sym i))
hears_decision x l at _ _ (resolves holder outcome s) i = absurd (true≢false (sym i))
hears_decision x l at _ _ (sleeps holder s) i = absurd (true≢false (sym i))
hears_decision x l at _ _ (asks holder outcome s) i = absurd (true≢false (sym i))

-- a reply to a request that is known otherwise
replied_as : (s : State) (target target' : Target) (q q' : Request) (r : Reply) → target ≡ target' → q ≡ q' → Replied s target q r → Replied s target' q' r
replied_as s target target' q q' r e f h = subst (λ (z : Target). Replied s z q' r) e (subst (λ (z : Request). Replied s target z r) f h)

-- a decision that a transaction hears is kept for its present attempt
pub decision_heard : (c : Config) (at : Reading) (s : State) → AllFramed c s → AnswersHeard s → AllDecided s → (o slot : ℕ) (x : TxnSession) (outcome : Outcome) → (owner_at s o).session ≡ session.Transaction x
    → Hears s o slot (reply.Decided outcome) → Kept s (attempt_of x) outcome
decision_heard c at s f a d o slot x outcome e h =
    let w : LineHears s slot x.lines (txn_awaits x x.phase) (reply.Decided outcome) = a.txn o slot x (reply.Decided outcome) e h in
    let l : Line = nth_line x.lines w.place in
    let p = hears_decision x l at (reply.Decided outcome) _ (txn_case x l at w.target w.asked (reply.Decided outcome) w.awaited w.fits) refl in
    let q : DecideAwaited x l w.target w.asked = decide_awaited x x.phase l w.target w.asked p.0 p.1 w.awaited in
    kept_of s d l.shard (attempt_of x) outcome (d.decided l.shard (attempt_of x) q.commit q.time outcome (replied_as s w.target (Shard l.shard) w.asked (request.Decide (attempt_of x) q.commit q.time) (reply.Decided outcome) q.to q.asks w.replied))

-- the outcome that the line of a transaction hears of a holder is kept for it
pub outcome_heard : (s : State) → AllDecided s → (slot : ℕ) (x : TxnSession) (outcome : Outcome) (holder : Holder) (r : Reply) → r ≡ reply.Outcome outcome → (w : LineHears s slot x.lines (txn_awaits x x.phase) r)
    → (nth_line x.lines w.place).state ≡ Inquiring holder → Kept s holder.attempt outcome
outcome_heard s d slot x outcome holder r e w i =
    let l : Line = nth_line x.lines w.place in
    let q = inquire_awaited holder l.state l.shard (txn_request x x.phase l) w.target w.asked i (txn_awaited x x.phase l (w.target, w.asked) w.awaited) in
    kept_of s d holder.coordinator holder.attempt outcome (d.inquired holder.coordinator holder.attempt outcome (replied_as s w.target (Shard holder.coordinator) w.asked (request.Inquire holder.attempt) (reply.Outcome outcome) q.0 q.1 (subst (Replied s w.target w.asked) e w.replied)))

-- and the one that the line of a snapshot hears
pub snap_outcome_heard : (s : State) → AllDecided s → (slot : ℕ) (x : SnapSession) (outcome : Outcome) (holder : Holder) (r : Reply) → r ≡ reply.Outcome outcome → (w : LineHears s slot x.lines (snap_awaits x x.phase) r)
    → (nth_line x.lines w.place).state ≡ Inquiring holder → Kept s holder.attempt outcome
snap_outcome_heard s d slot x outcome holder r e w i =
    let l : Line = nth_line x.lines w.place in
    let q = inquire_awaited holder l.state l.shard (snap_request x x.phase l) w.target w.asked i (snap_awaited x x.phase l (w.target, w.asked) w.awaited) in
    kept_of s d holder.coordinator holder.attempt outcome (d.inquired holder.coordinator holder.attempt outcome (replied_as s w.target (Shard holder.coordinator) w.asked (request.Inquire holder.attempt) (reply.Outcome outcome) q.0 q.1 (subst (Replied s w.target w.asked) e w.replied)))

-- the decision that a stub hears is kept for the attempt that it settles
pub stub_heard : (s : State) → AnswersHeard s → AllDecided s → (o slot : ℕ) (a : Attempt) (shards : List ℕ) (outcome : Outcome) → (owner_at s o).session ≡ session.Settling a shards
    → Hears s o slot (reply.Decided outcome) → Kept s a outcome
stub_heard s a d o slot b shards outcome e h = kept_of s d (least_shard shards) b outcome (d.decided (least_shard shards) b false 0 outcome (a.stub o slot b shards (reply.Decided outcome) e h))

-- A COMMIT THAT NOBODY ASKED FOR

-- an attempt that asked to be undone hears of no commit
pub never_undone : (c : Config) (at : Reading) (s : State) → AllFramed c s → AnswersHeard s → AllDecided s → (o slot : ℕ) (x : TxnSession) (time : ℕ) → (owner_at s o).session ≡ session.Transaction x
    → x.phase ≡ phase.Undoing → Hears s o slot (reply.Decided (Committed time)) → ⊥
never_undone c at s f a d o slot x time e u h =
    let g : TxnFramed c s o x = f.txn o x e in
    let now : OfAttempt s (attempt_of x) x = attempt_now c s o x g e in
    let k : Kept s (attempt_of x) (Committed time) = decision_heard c at s f a d o slot x (Committed time) e h in
    let i : DecidedIs s (coordinator_of x.lines) (attempt_of x) (Committed time) = d.at (coordinator_of x.lines) (attempt_of x) (Committed time) (coordinator_first c x.lines g.lines) (kept_at s (attempt_of x) x (Committed time) now k) in
    let y : x ≡ i.txn = one_txn s (attempt_of x) x i.txn now i.of in
    subst (λ (p : TxnPhase). CommitsAt p time) u (subst (λ (z : TxnSession). CommitsAt z.phase time) (sym y) (i.committed time refl).1)
