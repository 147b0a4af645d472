-- What a snapshot does with each reply that it awaits.
use Rattle.std.proofs.Common.{◌≡◌, ℕ, true, false, List, [], Some, refl, sym, subst}
use Rattle.std.proofs.lemmas.Bool.{cond_both}
use Rattle.rss_names.specs.declared.service.Key.{Key}
use Rattle.rss_names.specs.declared.service.Target.{Target}
use Rattle.rss_names.specs.declared.service.Target.TheVariants.{Shard}
use Rattle.rss_wire.specs.declared.messages.Holder.{Holder}
use Rattle.rss_wire.specs.declared.messages.Outcome.{Outcome}
use Rattle.rss_wire.specs.declared.messages.Skipped.{Skipped}
use Rattle.rss_wire.specs.declared.messages.Version.{Version}
use Rattle.rss_wire.specs.declared.messages.Request.{Request}
use Rattle.rss_wire.specs.declared.messages.Request.TheVariants as request
use Rattle.rss_wire.specs.declared.messages.Reply.{Reply}
use Rattle.rss_wire.specs.declared.messages.Reply.TheVariants as reply
use Rattle.rss_tables.specs.Lines.{Line, in_state, all_answered, resolving_state, resolving_outs, sleeping_state, decision_request}
use Rattle.rss_tables.specs.Turns.{quiet}
use Rattle.rss_tables.specs.ShardRow.{Shard as ShardState, shard_reply}
use Rattle.rss_tables.specs.SnapshotSession.{SnapSession, snap_request, snap_phase_ends, snap_line_goes, snap_hears}
use Rattle.rss_tables.specs.declared.lines.LineState.{LineState}
use Rattle.rss_tables.specs.declared.lines.LineState.TheVariants.{Awaiting, Answered, Inquiring, Resolving, Asleep, Dropped}
use Rattle.rss_tables.specs.declared.phases.SnapPhase.{SnapPhase}
use Rattle.rss_tables.specs.declared.phases.SnapPhase.TheVariants.{First, Second, Done}
use Rattle.session_laws.specs.Awaits.{awaited_by, snap_awaits, IsReplyTo}
use Rattle.session_laws.specs.SnapCases.{snap_answered, told_line, SnapTurn, shown, first_done, second_done, blocked, resolves, sleeps, asks}
use Rattle.session_laws.proofs.ReplyForms.{SnapReply, snap_values, snap_blocked, InquireReply, not_decided, decided_as, DecisionReply, is_done, snapshot_kind, inquire_kind, decision_kind}
use Rattle.session_laws.proofs.TxnCases.{some_request, none_awaited}

module _ (t : SnapSession) (l : Line) where
  -- it turns so with a reply
  abbrev Turns : Reply → Type 0
  Turns r = SnapTurn t l r (snap_hears t l r)

  module _ (versions : List (Key × Version)) (skipped : List Skipped) where
    abbrev told : SnapSession
    told = snap_answered t (told_line l versions skipped)

    first_shown : (time : ℕ) → t.phase ≡ First time → l.state ≡ Awaiting → Turns (reply.Values versions skipped)
    first_shown time p s = cond_both (all_answered told.lines) (snap_phase_ends told t.phase) (quiet told) (SnapTurn t l (reply.Values versions skipped))
        (λ e. subst (λ (x : SnapPhase). SnapTurn t l (reply.Values versions skipped) (snap_phase_ends told x)) (sym p) (first_done time versions skipped p s e))
        (λ e. shown versions skipped s e)

    second_shown : (time : ℕ) → t.phase ≡ Second time → l.state ≡ Awaiting → Turns (reply.Values versions skipped)
    second_shown time p s = cond_both (all_answered told.lines) (snap_phase_ends told t.phase) (quiet told) (SnapTurn t l (reply.Values versions skipped))
        (λ e. subst (λ (x : SnapPhase). SnapTurn t l (reply.Values versions skipped) (snap_phase_ends told x)) (sym p) (second_done time versions skipped p s e))
        (λ e. shown versions skipped s e)

  by_first : (time : ℕ) (r : Reply) → SnapReply r → t.phase ≡ First time → l.state ≡ Awaiting → Turns r
  by_first time _ (snap_values versions skipped) p s = first_shown versions skipped time p s
  by_first time _ (snap_blocked holder holders) p s = blocked holder holders s

  by_second : (time : ℕ) (r : Reply) → SnapReply r → t.phase ≡ Second time → l.state ≡ Awaiting → Turns r
  by_second time _ (snap_values versions skipped) p s = second_shown versions skipped time p s
  by_second time _ (snap_blocked holder holders) p s = blocked holder holders s

  by_inquire : (holder : Holder) (r : Reply) → InquireReply r → l.state ≡ Inquiring holder → Turns r
  by_inquire holder _ not_decided s =
      subst (λ (x : LineState). SnapTurn t l reply.Open (snap_line_goes t (in_state l (sleeping_state x)) [])) (sym s) (sleeps holder s)
  by_inquire holder _ (decided_as outcome) s =
      subst (λ (x : LineState). SnapTurn t l (reply.Outcome outcome) (snap_line_goes t (in_state l (resolving_state x outcome)) (resolving_outs l.shard x outcome))) (sym s) (resolves holder outcome s)

  by_decision : (holder : Holder) (outcome : Outcome) (r : Reply) → DecisionReply r → l.state ≡ Resolving holder outcome → Turns r
  by_decision holder outcome _ is_done s = asks holder outcome s

  module _ (sh : ShardState) (latest : ℕ) (target : Target) (q : Request) where
    by_state : (asked : Request) → (l.state ≡ Awaiting → Turns (shard_reply sh latest asked)) → (s : LineState) → l.state ≡ s → awaited_by s l.shard asked ≡ Some (target, q) → Turns (shard_reply sh latest q)
    by_state asked own Awaiting s e = subst (λ (x : Request). Turns (shard_reply sh latest x)) (some_request (Shard l.shard) target asked q e) (own s)
    by_state asked own Answered s e = none_awaited (target, q) e
    by_state asked own (Inquiring holder) s e = subst (λ (x : Request). Turns (shard_reply sh latest x)) (some_request (Shard holder.coordinator) target (request.Inquire holder.attempt) q e)
        (by_inquire holder (shard_reply sh latest (request.Inquire holder.attempt)) (inquire_kind sh latest holder.attempt) s)
    by_state asked own (Resolving holder outcome) s e = subst (λ (x : Request). Turns (shard_reply sh latest x)) (some_request (Shard l.shard) target (decision_request holder.attempt outcome) q e)
        (by_decision holder outcome (shard_reply sh latest (decision_request holder.attempt outcome)) (decision_kind sh latest holder.attempt outcome) s)
    by_state asked own (Asleep holder) s e = none_awaited (target, q) e
    by_state asked own Dropped s e = none_awaited (target, q) e

    by_phase : (p : SnapPhase) → t.phase ≡ p → snap_awaits t p l ≡ Some (target, q) → Turns (shard_reply sh latest q)
    by_phase (First time) p e = by_state (snap_request t (First time) l) (λ s. by_first time _ (snapshot_kind sh latest time t.least l.reads true) p s) l.state refl e
    by_phase (Second time) p e = by_state (snap_request t (Second time) l) (λ s. by_second time _ (snapshot_kind sh latest time t.least l.reads false) p s) l.state refl e
    by_phase (Done time) p e = none_awaited (target, q) e

pub snap_case : (t : SnapSession) (l : Line) (target : Target) (q : Request) (r : Reply) → snap_awaits t t.phase l ≡ Some (target, q) → IsReplyTo q r → SnapTurn t l r (snap_hears t l r)
snap_case t l target q r e i = subst (λ (x : Reply). SnapTurn t l x (snap_hears t l x)) (sym i.gives) (by_phase t l i.shard i.latest target q t.phase refl e)
