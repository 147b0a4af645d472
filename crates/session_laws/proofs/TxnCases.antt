-- What a transaction does with each reply that it awaits.
use Rattle.std.proofs.Common.{◌≡◌, ℕ, true, false, List, [], Option, Some, None, refl, sym, ap, subst}
use Rattle.std.specs.Prelude.{nat_lt, if◌then◌else◌}
use Rattle.std.proofs.lemmas.Bool.{cond_both}
use Rattle.truetime.specs.Reading.{Reading}
use Rattle.rss_names.specs.declared.service.Key.{Key}
use Rattle.rss_names.specs.declared.service.Target.{Target}
use Rattle.rss_names.specs.declared.service.Target.TheVariants.{Shard}
use Rattle.rss_wire.specs.declared.messages.Holder.{Holder}
use Rattle.rss_wire.specs.declared.messages.Outcome.{Outcome}
use Rattle.rss_wire.specs.declared.messages.Outcome.TheVariants.{Committed, Aborted}
use Rattle.rss_wire.specs.declared.messages.Version.{Version}
use Rattle.rss_wire.specs.declared.messages.Request.{Request}
use Rattle.rss_wire.specs.declared.messages.Request.TheVariants as request
use Rattle.rss_wire.specs.declared.messages.Reply.{Reply}
use Rattle.rss_wire.specs.declared.messages.Reply.TheVariants as reply
use Rattle.rss_tables.specs.Lines.{Line, in_state, all_answered, resolving_state, resolving_outs, sleeping_state, decision_request}
use Rattle.rss_tables.specs.Turns.{quiet}
use Rattle.rss_tables.specs.ShardRow.{Shard as ShardState, shard_reply}
use Rattle.rss_tables.specs.TransactionSession.{TxnSession, attempt_of, values_shown, guard_of, goes_to_prepare, goes_to_free, failing_time, is_phase_done, phase_ends, is_locked, is_prepared, wait_of, is_committed, line_goes, txn_request, txn_hears}
use Rattle.rss_tables.specs.declared.lines.LineState.{LineState}
use Rattle.rss_tables.specs.declared.lines.LineState.TheVariants.{Awaiting, Answered, Inquiring, Resolving, Asleep, Dropped}
use Rattle.rss_tables.specs.declared.phases.TxnPhase.{TxnPhase}
use Rattle.rss_tables.specs.declared.phases.TxnPhase.TheVariants as phase
use Rattle.session_laws.specs.Awaits.{awaited_by, txn_awaits, IsReplyTo}
use Rattle.session_laws.specs.Cases.{answered, shown_line, timed_line, may_be_wounded, awaits_decision, other_lines, TxnTurn, granted, prepares, frees, prepared, decides, released, frees_last, fails, wounded, commits, waits, aborts, undone, blocked, resolves, sleeps, asks}
use Rattle.session_laws.proofs.ReplyForms.{LockReply, lock_wounded, lock_granted, lock_waits, PrepareReply, prepare_wounded, is_prepared_at, DecideReply, decides_as, ReleaseReply, release_wounded, has_released, InquireReply, not_decided, decided_as, DecisionReply, is_done, lock_kind, prepare_kind, decide_kind, release_kind, inquire_kind, decision_kind}

-- the request that is awaited
abbrev request_in : Request → Option (Target × Request) → Request
request_in other None = other
request_in other (Some x) = x.1

pub some_request : (target target' : Target) (q q' : Request) → ◌≡◌ {A = Option (Target × Request)} (Some (target, q)) (Some (target', q')) → q ≡ q'
some_request target target' q q' e = ap (request_in q) e

pub none_awaited : {A : Type 0} (x : Target × Request) → ◌≡◌ {A = Option (Target × Request)} None (Some x) → A
none_awaited x e = absurd cc

module _ (t : TxnSession) (l : Line) (at : Reading) where
  -- it turns so with a reply
  abbrev Turns : Reply → Type 0
  Turns r = TxnTurn t l at r (txn_hears t l at r)

  is_granted : (shown : List (Key × Version)) → t.phase ≡ phase.Locking → l.state ≡ Awaiting → Turns (reply.Granted shown)
  is_granted shown p s = subst (λ (x : TxnPhase). TxnTurn t l at (reply.Granted shown) (if is_phase_done u x then phase_ends u at x else quiet u)) (sym p)
      (cond_both (all_answered u.lines) (is_locked u at) (quiet u) (TxnTurn t l at (reply.Granted shown))
      (λ e. cond_both (guard_of t.guard (values_shown u)) (goes_to_prepare u at) (goes_to_free u (failing_time u at) (other_lines u)) (TxnTurn t l at (reply.Granted shown))
      (λ g. prepares shown p s e g) (λ g. frees shown p s e g))
      (λ e. granted shown p s e))
    where
      u : TxnSession
      u = answered t (shown_line l shown)

  is_prepared_now : (time : ℕ) → t.phase ≡ phase.Preparing → l.state ≡ Awaiting → Turns (reply.Prepared time)
  is_prepared_now time p s = subst (λ (x : TxnPhase). TxnTurn t l at (reply.Prepared time) (if is_phase_done u x then phase_ends u at x else quiet u)) (sym p)
      (cond_both (all_answered u.lines) (is_prepared u) (quiet u) (TxnTurn t l at (reply.Prepared time)) (λ e. decides time p s e) (λ e. prepared time p s e))
    where
      u : TxnSession
      u = answered t (timed_line l time)

  is_released : (time : ℕ) → t.phase ≡ phase.Freeing time → l.state ≡ Awaiting → Turns reply.Released
  is_released time p s = subst (λ (x : TxnPhase). TxnTurn t l at reply.Released (if is_phase_done u x then phase_ends u at x else quiet u)) (sym p)
      (cond_both (all_answered u.lines) (phase_ends u at (phase.Freeing time)) (quiet u) (TxnTurn t l at reply.Released) (λ e. frees_last time p s e) (λ e. released time p s e))
    where
      u : TxnSession
      u = answered t l

  is_released_last : (time : ℕ) → t.phase ≡ phase.FreeingLast time → l.state ≡ Awaiting → Turns reply.Released
  is_released_last time p s = subst (λ (x : TxnPhase). TxnTurn t l at reply.Released (if is_phase_done u x then phase_ends u at x else quiet u)) (sym p) (fails time p s)
    where
      u : TxnSession
      u = answered t l

  has_decided : (d : ℕ) (outcome : Outcome) → t.phase ≡ phase.Deciding d → l.state ≡ Awaiting → Turns (reply.Decided outcome)
  has_decided d (Committed time) p s =
      cond_both (nat_lt (wait_of t time) at.earliest) (is_committed t time) (quiet (record t { phase = phase.Waiting time })) (TxnTurn t l at (reply.Decided (Committed time)))
      (λ e. commits d time p s e) (λ e. waits d time p s e)
  has_decided d Aborted p s = aborts (ap awaits_decision p) s

  has_undone : (outcome : Outcome) → t.phase ≡ phase.Undoing → l.state ≡ Awaiting → Turns (reply.Decided outcome)
  has_undone (Committed time) p s = undone time p s
  has_undone Aborted p s = aborts (ap awaits_decision p) s

  by_lock : (r : Reply) → LockReply r → t.phase ≡ phase.Locking → l.state ≡ Awaiting → Turns r
  by_lock _ lock_wounded p s = wounded (ap may_be_wounded p) s
  by_lock _ (lock_granted shown) p s = is_granted shown p s
  by_lock _ (lock_waits holder holders) p s = blocked holder holders p s

  by_prepare : (r : Reply) → PrepareReply r → t.phase ≡ phase.Preparing → l.state ≡ Awaiting → Turns r
  by_prepare _ prepare_wounded p s = wounded (ap may_be_wounded p) s
  by_prepare _ (is_prepared_at time) p s = is_prepared_now time p s

  by_release : (time : ℕ) (r : Reply) → ReleaseReply r → t.phase ≡ phase.Freeing time → l.state ≡ Awaiting → Turns r
  by_release time _ release_wounded p s = wounded (ap may_be_wounded p) s
  by_release time _ has_released p s = is_released time p s

  by_release_last : (time : ℕ) (r : Reply) → ReleaseReply r → t.phase ≡ phase.FreeingLast time → l.state ≡ Awaiting → Turns r
  by_release_last time _ release_wounded p s = wounded (ap may_be_wounded p) s
  by_release_last time _ has_released p s = is_released_last time p s

  by_decide : (d : ℕ) (r : Reply) → DecideReply r → t.phase ≡ phase.Deciding d → l.state ≡ Awaiting → Turns r
  by_decide d _ (decides_as outcome) p s = has_decided d outcome p s

  by_undo : (r : Reply) → DecideReply r → t.phase ≡ phase.Undoing → l.state ≡ Awaiting → Turns r
  by_undo _ (decides_as outcome) p s = has_undone outcome p s

  by_inquire : (holder : Holder) (r : Reply) → InquireReply r → l.state ≡ Inquiring holder → Turns r
  by_inquire holder _ not_decided s =
      subst (λ (x : LineState). TxnTurn t l at reply.Open (line_goes t (in_state l (sleeping_state x)) [])) (sym s) (sleeps holder s)
  by_inquire holder _ (decided_as outcome) s =
      subst (λ (x : LineState). TxnTurn t l at (reply.Outcome outcome) (line_goes t (in_state l (resolving_state x outcome)) (resolving_outs l.shard x outcome))) (sym s) (resolves holder outcome s)

  by_decision : (holder : Holder) (outcome : Outcome) (r : Reply) → DecisionReply r → l.state ≡ Resolving holder outcome → Turns r
  by_decision holder outcome _ is_done s = asks holder outcome s

  module _ (sh : ShardState) (latest : ℕ) (target : Target) (q : Request) where
    by_state : (asked : Request) → (l.state ≡ Awaiting → Turns (shard_reply sh latest asked)) → (s : LineState) → l.state ≡ s → awaited_by s l.shard asked ≡ Some (target, q) → Turns (shard_reply sh latest q)
    by_state asked own Awaiting s e = subst (λ (x : Request). Turns (shard_reply sh latest x)) (some_request (Shard l.shard) target asked q e) (own s)
    by_state asked own Answered s e = none_awaited (target, q) e
    by_state asked own (Inquiring holder) s e = subst (λ (x : Request). Turns (shard_reply sh latest x)) (some_request (Shard holder.coordinator) target (request.Inquire holder.attempt) q e)
        (by_inquire holder (shard_reply sh latest (request.Inquire holder.attempt)) (inquire_kind sh latest holder.attempt) s)
    by_state asked own (Resolving holder outcome) s e = subst (λ (x : Request). Turns (shard_reply sh latest x)) (some_request (Shard l.shard) target (decision_request holder.attempt outcome) q e)
        (by_decision holder outcome (shard_reply sh latest (decision_request holder.attempt outcome)) (decision_kind sh latest holder.attempt outcome) s)
    by_state asked own (Asleep holder) s e = none_awaited (target, q) e
    by_state asked own Dropped s e = none_awaited (target, q) e

    by_phase : (p : TxnPhase) → t.phase ≡ p → txn_awaits t p l ≡ Some (target, q) → Turns (shard_reply sh latest q)
    by_phase phase.Locking p e = by_state (txn_request t phase.Locking l) (λ s. by_lock _ (lock_kind sh latest (attempt_of t) _ l.reads l.writes) p s) l.state refl e
    by_phase phase.Preparing p e = by_state (txn_request t phase.Preparing l) (λ s. by_prepare _ (prepare_kind sh latest (attempt_of t) t.least t.earliest_end _) p s) l.state refl e
    by_phase (phase.Freeing time) p e = by_state (txn_request t (phase.Freeing time) l) (λ s. by_release time _ (release_kind sh latest (attempt_of t) time false) p s) l.state refl e
    by_phase (phase.FreeingLast time) p e = by_state (txn_request t (phase.FreeingLast time) l) (λ s. by_release_last time _ (release_kind sh latest (attempt_of t) time true) p s) l.state refl e
    by_phase (phase.Deciding time) p e = by_state (txn_request t (phase.Deciding time) l) (λ s. by_decide time _ (decide_kind sh latest (attempt_of t) true time) p s) l.state refl e
    by_phase phase.Undoing p e = by_state (txn_request t phase.Undoing l) (λ s. by_undo _ (decide_kind sh latest (attempt_of t) false 0) p s) l.state refl e
    by_phase (phase.Waiting time) p e = none_awaited (target, q) e
    by_phase (phase.Committed time) p e = none_awaited (target, q) e
    by_phase (phase.Failed time) p e = none_awaited (target, q) e

pub txn_case : (t : TxnSession) (l : Line) (at : Reading) (target : Target) (q : Request) (r : Reply) → txn_awaits t t.phase l ≡ Some (target, q) → IsReplyTo q r → TxnTurn t l at r (txn_hears t l at r)
txn_case t l at target q r e i = subst (λ (x : Reply). TxnTurn t l at x (txn_hears t l at x)) (sym i.gives) (by_phase t l at i.shard i.latest target q t.phase refl e)
