-- What lines were told, whatever a transaction does.
use Rattle.std.proofs.Common.{◌≡◌, ℕ, true, refl, ap}
use Rattle.truetime.specs.Reading.{Reading}
use Rattle.rss_names.specs.declared.service.Target.TheVariants.{Shard}
use Rattle.rss_wire.specs.declared.messages.Outcome.TheVariants as outcomes
use Rattle.rss_wire.specs.declared.messages.Reply.{Reply}
use Rattle.rss_wire.specs.declared.messages.Reply.TheVariants as reply
use Rattle.rss_tables.specs.Lines.{Line, is_answered, woken_state}
use Rattle.rss_tables.specs.Turns.{Turn}
use Rattle.rss_tables.specs.TransactionSession.{TxnSession, txn_request, txn_wakes, txn_passes}
use Rattle.rss_tables.specs.declared.lines.LineState.{LineState}
use Rattle.rss_tables.specs.declared.lines.LineState.TheVariants.{Awaiting, Answered, Inquiring, Resolving, Asleep, Dropped}
use Rattle.rss_tables.specs.declared.phases.TxnPhase.{TxnPhase}
use Rattle.rss_tables.specs.declared.phases.TxnPhase.TheVariants as phase
use Rattle.rss_machine.specs.State.{State}
use Rattle.session_laws.specs.Cases.{answered, shown_line, timed_line, TxnTurn, granted, prepares, frees, prepared, decides, released, frees_last, fails, wounded, commits, waits, aborts, undone, blocked, resolves, sleeps, asks}
use Rattle.session_laws.specs.Frames.{IsLine, AreApartShards, SameTxn}
use Rattle.txn_state_laws.specs.Replied.{Replied}
use Rattle.txn_state_laws.specs.Told.{has_granted, has_voted, is_past_guard}
use Rattle.txn_session_laws.specs.Alone.{IsAlone}
use Rattle.txn_session_laws.proofs.ToldHears.{granted_told, same_granted, prepared_told, same_prepared, stated_told, released_told, same_answered, failed_told}
use Rattle.txn_session_laws.proofs.ToldParts.{Told, same_between}
use Rattle.txn_session_laws.proofs.ToldPhases.{prepares_told, frees_told, decides_told, frees_last_told, wounded_told, aborts_told, known_told}
use Rattle.txn_session_laws.proofs.Never.{no}

-- a line that wakes is answered where it was before
woken_answered : (state : LineState) → is_answered (woken_state state) ≡ true → is_answered state ≡ true
woken_answered Awaiting e = e
woken_answered Answered e = e
woken_answered (Inquiring holder) e = e
woken_answered (Resolving holder outcome) e = e
woken_answered (Asleep holder) e = e
woken_answered Dropped e = e

module _ (s : State) (x : TxnSession) (l : Line) (i : IsLine x.lines l) (apart : AreApartShards x.lines) (told : Told s x) where
  -- whatever the line hears
  pub turn_told : (at : Reading) (r : Reply) (turn : Turn TxnSession) → IsAlone x → ((time : ℕ) → x.phase ≡ phase.Undoing → r ≡ reply.Decided (outcomes.Committed time) → ⊥) → TxnTurn x l at r turn → SameTxn x turn.after
      → ((p : TxnPhase) → x.phase ≡ p → l.state ≡ Awaiting → Replied s (Shard l.shard) (txn_request x p l) r) → Told s turn.after
  turn_told at _ _ alone never (granted shown p w e) same own = granted_told s x l i apart told shown p (own phase.Locking p w)
  turn_told at _ _ alone never (prepares shown p w e g) same own =
      prepares_told s (answered x (shown_line l shown)) (granted_told s x l i apart told shown p (own phase.Locking p w)) at p e g
      (same_between x (answered x (shown_line l shown)) _ (same_granted s x l i apart told shown p (own phase.Locking p w)) same)
  turn_told at _ _ alone never (frees shown p w e g) same own =
      frees_told s (answered x (shown_line l shown)) (granted_told s x l i apart told shown p (own phase.Locking p w)) at p e g
      (same_between x (answered x (shown_line l shown)) _ (same_granted s x l i apart told shown p (own phase.Locking p w)) same)
  turn_told at _ _ alone never (prepared time p w e) same own = prepared_told s x l i apart told time p (own phase.Preparing p w)
  turn_told at _ _ alone never (decides time p w e) same own =
      decides_told s (answered x (timed_line l time)) (prepared_told s x l i apart told time p (own phase.Preparing p w)) p e
      (same_between x (answered x (timed_line l time)) _ (same_prepared s x l i apart told time p (own phase.Preparing p w)) same)
  turn_told at _ _ alone never (released time p w e) same own = released_told s x l i apart told time p (own (phase.Freeing time) p w)
  turn_told at _ _ alone never (frees_last time p w e) same own =
      frees_last_told s (answered x l) (released_told s x l i apart told time p (own (phase.Freeing time) p w)) time p e (same_between x (answered x l) _ (same_answered s x l i apart told) same)
  turn_told at _ _ alone never (fails time p w) same own = failed_told s x l i apart told time p w alone (own (phase.FreeingLast time) p w)
  turn_told at _ _ alone never (wounded p w) same own = wounded_told s x told
  turn_told at _ _ alone never (commits d time p w e) same own = known_told s x told (phase.Committed time) (λ state. ap (λ (q : TxnPhase). has_granted q state) p) (λ state. ap (λ (q : TxnPhase). has_voted q state) p) (ap is_past_guard p) refl (λ t f. absurd cc)
  turn_told at _ _ alone never (waits d time p w e) same own = known_told s x told (phase.Waiting time) (λ state. ap (λ (q : TxnPhase). has_granted q state) p) (λ state. ap (λ (q : TxnPhase). has_voted q state) p) (ap is_past_guard p) refl (λ t f. absurd cc)
  turn_told at _ _ alone never (aborts p w) same own = aborts_told s x told at
  turn_told at _ _ alone never (undone time p w) same own = absurd (never time p refl)
  turn_told at _ _ alone never (blocked holder holders p w) same own = stated_told s x l i apart told (Inquiring holder) (λ e. no e)
  turn_told at _ _ alone never (resolves holder outcome w) same own = stated_told s x l i apart told (Resolving holder outcome) (λ e. no e)
  turn_told at _ _ alone never (sleeps holder w) same own = stated_told s x l i apart told (Asleep holder) (λ e. no e)
  turn_told at _ _ alone never (asks holder outcome w) same own = stated_told s x l i apart told Awaiting (λ e. no e)

  pub wake_told : Told s (txn_wakes x l).after
  wake_told = stated_told s x l i apart told (woken_state l.state) (woken_answered l.state)

-- the time of a commit passes
pub pass_told : (s : State) (x : TxnSession) → Told s x → Told s (txn_passes x x.phase).after
pass_told s x told = by_phase x.phase refl
  where
    by_phase : (p : TxnPhase) → x.phase ≡ p → Told s (txn_passes x p).after
    by_phase (phase.Waiting time) p = known_told s x told (phase.Committed time) (λ state. ap (λ (q : TxnPhase). has_granted q state) p) (λ state. ap (λ (q : TxnPhase). has_voted q state) p) (ap is_past_guard p) refl (λ t f. absurd cc)
    by_phase phase.Locking p = told
    by_phase phase.Preparing p = told
    by_phase (phase.Freeing time) p = told
    by_phase (phase.FreeingLast time) p = told
    by_phase (phase.Deciding time) p = told
    by_phase phase.Undoing p = told
    by_phase (phase.Committed time) p = told
    by_phase (phase.Failed time) p = told
