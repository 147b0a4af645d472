-- What lines were told, whatever a snapshot hears.
use Rattle.std.proofs.Common.{◌≡◌, true, false, refl, sym, ap, ◌∙◌}
use Rattle.std.proofs.lemmas.Bool.{true≢false}
use Rattle.truetime.specs.Reading.{Reading}
use Rattle.rss_names.specs.declared.service.Target.TheVariants.{Shard}
use Rattle.rss_wire.specs.declared.messages.Reply.{Reply}
use Rattle.rss_tables.specs.Lines.{Line, is_answered, woken_state}
use Rattle.rss_tables.specs.Turns.{Turn}
use Rattle.rss_tables.specs.SnapshotSession.{SnapSession, snap_request, snap_wakes}
use Rattle.rss_tables.specs.declared.lines.LineState.{LineState}
use Rattle.rss_tables.specs.declared.lines.LineState.TheVariants.{Awaiting, Answered, Inquiring, Resolving, Asleep, Dropped}
use Rattle.rss_tables.specs.declared.phases.SnapPhase.{SnapPhase}
use Rattle.rss_machine.specs.State.{State}
use Rattle.shard_event_laws.specs.Known.{Known}
use Rattle.session_laws.specs.Frames.{IsLine, AreApartShards}
use Rattle.session_laws.specs.SnapCases.{snap_answered, told_line, SnapTurn, shown, first_done, second_done, blocked, resolves, sleeps, asks}
use Rattle.txn_state_laws.specs.Replied.{Replied}
use Rattle.txn_session_laws.proofs.SnapTold.{SnapTold, stated_told, shown_told, round_told, end_told}
use Rattle.txn_session_laws.proofs.Never.{no}

-- a line that wakes is answered where it was before
woken_answered : (state : LineState) → is_answered (woken_state state) ≡ is_answered state
woken_answered Awaiting = refl
woken_answered Answered = refl
woken_answered (Inquiring holder) = refl
woken_answered (Resolving holder outcome) = refl
woken_answered (Asleep holder) = refl
woken_answered Dropped = refl

-- whatever a line hears
module _ (at : Reading) (s : State) (known : Known at s) (x : SnapSession) (l : Line) (i : IsLine x.lines l) (apart : AreApartShards x.lines) (told : SnapTold s x) where
  not_answered : (state : LineState) → is_answered state ≡ false → l.state ≡ state → is_answered l.state ≡ true → ⊥
  not_answered state f e a = true≢false (sym a ∙ ap is_answered e ∙ f)

  pub snap_turn_told : (r : Reply) (turn : Turn SnapSession) → SnapTurn x l r turn → ((p : SnapPhase) → x.phase ≡ p → l.state ≡ Awaiting → Replied s (Shard l.shard) (snap_request x p l) r) → SnapTold s turn.after
  snap_turn_told _ _ (shown versions skipped w e) own = shown_told at s known x l i apart told versions skipped (λ p f. own p f w)
  snap_turn_told _ _ (first_done read_time versions skipped p w e) own = round_told at s known (snap_answered x (told_line l versions skipped)) (shown_told at s known x l i apart told versions skipped (λ q f. own q f w)) read_time p e
  snap_turn_told _ _ (second_done time versions skipped p w e) own = end_told at s known (snap_answered x (told_line l versions skipped)) (shown_told at s known x l i apart told versions skipped (λ q f. own q f w)) time p e
  snap_turn_told _ _ (blocked holder holders w) own = stated_told at s known x l i apart told (Inquiring holder) (λ e. no e) (λ e. absurd (not_answered Awaiting refl w e))
  snap_turn_told _ _ (resolves holder outcome w) own = stated_told at s known x l i apart told (Resolving holder outcome) (λ e. no e) (λ e. absurd (not_answered (Inquiring holder) refl w e))
  snap_turn_told _ _ (sleeps holder w) own = stated_told at s known x l i apart told (Asleep holder) (λ e. no e) (λ e. absurd (not_answered (Inquiring holder) refl w e))
  snap_turn_told _ _ (asks holder outcome w) own = stated_told at s known x l i apart told Awaiting (λ e. no e) (λ e. absurd (not_answered (Resolving holder outcome) refl w e))

  pub snap_wake_told : SnapTold s (snap_wakes x l).after
  snap_wake_told = stated_told at s known x l i apart told (woken_state l.state) (λ e. sym (woken_answered l.state) ∙ e) (λ e. woken_answered l.state ∙ e)
