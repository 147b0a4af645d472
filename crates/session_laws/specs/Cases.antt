-- What a transaction does with the reply that one of its lines awaits: one case for each thing that can happen.
use Rattle.std.specs.Prelude.{◌≡◌, ℕ, Bool, true, false, not, List, [], ◌∷◌, nat_lt}
use Rattle.std.specs.List.{filter}
use Rattle.truetime.specs.Reading.{Reading}
use Rattle.rss_names.specs.declared.service.Key.{Key}
use Rattle.rss_wire.specs.declared.messages.Holder.{Holder}
use Rattle.rss_wire.specs.declared.messages.Outcome.{Outcome}
use Rattle.rss_wire.specs.declared.messages.Outcome.TheVariants.{Committed, Aborted}
use Rattle.rss_wire.specs.declared.messages.Version.{Version}
use Rattle.rss_wire.specs.declared.messages.Reply.{Reply}
use Rattle.rss_wire.specs.declared.messages.Reply.TheVariants as reply
use Rattle.rss_tables.specs.Lines.{Line, with_line, in_state, all_answered, inquiry, decision_request}
use Rattle.rss_tables.specs.Outs.{line_out}
use Rattle.rss_tables.specs.Turns.{Turn, quiet}
use Rattle.rss_tables.specs.TransactionSession.{TxnSession, values_shown, guard_of, leads, goes_to_prepare, goes_to_free, goes_to_free_last, failing_time, is_prepared, is_wounded, wait_of, is_committed, is_decided, line_goes, txn_request}
use Rattle.rss_tables.specs.declared.lines.LineState.TheVariants.{Awaiting, Answered, Inquiring, Resolving, Asleep}
use Rattle.rss_tables.specs.declared.phases.TxnPhase.{TxnPhase}
use Rattle.rss_tables.specs.declared.phases.TxnPhase.TheVariants as phase

-- a session with a line answered
abbrev pub answered : TxnSession → Line → TxnSession
answered t l = record t { lines = with_line t.lines (in_state l Answered) }

-- a line that is shown versions, and one that is told its prepare time
abbrev pub shown_line : Line → List (Key × Version) → Line
shown_line l shown = record l { shown = shown }

abbrev pub timed_line : Line → ℕ → Line
timed_line l time = record l { prepare_time = time }

-- the phases in which an attempt can learn that it was wounded, and those in which it awaits its decision
abbrev pub may_be_wounded : TxnPhase → Bool
may_be_wounded phase.Locking = true
may_be_wounded phase.Preparing = true
may_be_wounded (phase.Freeing time) = true
may_be_wounded (phase.FreeingLast time) = true
may_be_wounded (phase.Deciding time) = false
may_be_wounded phase.Undoing = false
may_be_wounded (phase.Waiting time) = false
may_be_wounded (phase.Committed time) = false
may_be_wounded (phase.Failed time) = false

abbrev pub awaits_decision : TxnPhase → Bool
awaits_decision phase.Locking = false
awaits_decision phase.Preparing = false
awaits_decision (phase.Freeing time) = false
awaits_decision (phase.FreeingLast time) = false
awaits_decision (phase.Deciding time) = true
awaits_decision phase.Undoing = true
awaits_decision (phase.Waiting time) = false
awaits_decision (phase.Committed time) = false
awaits_decision (phase.Failed time) = false

-- the lines of the others than the coordinator
abbrev pub other_lines : TxnSession → List Line
other_lines t = filter (λ (l : Line). not (leads t l)) t.lines

-- line `l` of `t` hears a reply, in a step with this reading
pub data TxnTurn (t : TxnSession) (l : Line) (at : Reading) : Reply → Turn TxnSession → Type 0 where
  -- it is granted its locks: others are still to answer, or all are held and the guard holds, or it does not
  granted : (shown : List (Key × Version)) → t.phase ≡ phase.Locking → l.state ≡ Awaiting → all_answered (answered t (shown_line l shown)).lines ≡ false →
      TxnTurn t l at (reply.Granted shown) (quiet (answered t (shown_line l shown)))
  prepares : (shown : List (Key × Version)) → t.phase ≡ phase.Locking → l.state ≡ Awaiting → all_answered (answered t (shown_line l shown)).lines ≡ true → guard_of t.guard (values_shown (answered t (shown_line l shown))) ≡ true →
      TxnTurn t l at (reply.Granted shown) (goes_to_prepare (answered t (shown_line l shown)) at)
  frees : (shown : List (Key × Version)) → t.phase ≡ phase.Locking → l.state ≡ Awaiting → all_answered (answered t (shown_line l shown)).lines ≡ true → guard_of t.guard (values_shown (answered t (shown_line l shown))) ≡ false →
      TxnTurn t l at (reply.Granted shown) (goes_to_free (answered t (shown_line l shown)) (failing_time (answered t (shown_line l shown)) at) (other_lines (answered t (shown_line l shown))))
  -- it is prepared: others are still to answer, or all are
  prepared : (time : ℕ) → t.phase ≡ phase.Preparing → l.state ≡ Awaiting → all_answered (answered t (timed_line l time)).lines ≡ false →
      TxnTurn t l at (reply.Prepared time) (quiet (answered t (timed_line l time)))
  decides : (time : ℕ) → t.phase ≡ phase.Preparing → l.state ≡ Awaiting → all_answered (answered t (timed_line l time)).lines ≡ true →
      TxnTurn t l at (reply.Prepared time) (is_prepared (answered t (timed_line l time)))
  -- it has given its locks back: others are still to answer, or the coordinator comes last, or it was the coordinator
  released : (time : ℕ) → t.phase ≡ phase.Freeing time → l.state ≡ Awaiting → all_answered (answered t l).lines ≡ false →
      TxnTurn t l at reply.Released (quiet (answered t l))
  frees_last : (time : ℕ) → t.phase ≡ phase.Freeing time → l.state ≡ Awaiting → all_answered (answered t l).lines ≡ true →
      TxnTurn t l at reply.Released (goes_to_free_last (answered t l) time)
  fails : (time : ℕ) → t.phase ≡ phase.FreeingLast time → l.state ≡ Awaiting →
      TxnTurn t l at reply.Released (quiet (record (answered t l) { phase = phase.Failed time }))
  -- it was wounded
  wounded : may_be_wounded t.phase ≡ true → l.state ≡ Awaiting → TxnTurn t l at reply.Wounded (is_wounded t)
  -- the decision comes: a commit whose time has passed, or is waited for; an abort; and a commit that nobody asked for
  commits : (d time : ℕ) → t.phase ≡ phase.Deciding d → l.state ≡ Awaiting → nat_lt (wait_of t time) at.earliest ≡ true →
      TxnTurn t l at (reply.Decided (Committed time)) (is_committed t time)
  waits : (d time : ℕ) → t.phase ≡ phase.Deciding d → l.state ≡ Awaiting → nat_lt (wait_of t time) at.earliest ≡ false →
      TxnTurn t l at (reply.Decided (Committed time)) (quiet (record t { phase = phase.Waiting time }))
  aborts : awaits_decision t.phase ≡ true → l.state ≡ Awaiting → TxnTurn t l at (reply.Decided Aborted) (is_decided t at Aborted)
  undone : (time : ℕ) → t.phase ≡ phase.Undoing → l.state ≡ Awaiting → TxnTurn t l at (reply.Decided (Committed time)) (is_decided t at (Committed time))
  -- somebody is in its way: it asks for that one's decision, passes it on, or sleeps, and asks again
  blocked : (holder : Holder) (holders : List Holder) → t.phase ≡ phase.Locking → l.state ≡ Awaiting →
      TxnTurn t l at (reply.Wait (holder ∷ holders)) (line_goes t (in_state l (Inquiring holder)) (inquiry l.shard holder ∷ []))
  resolves : (holder : Holder) (outcome : Outcome) → l.state ≡ Inquiring holder →
      TxnTurn t l at (reply.Outcome outcome) (line_goes t (in_state l (Resolving holder outcome)) (line_out l.shard (decision_request holder.attempt outcome) ∷ []))
  sleeps : (holder : Holder) → l.state ≡ Inquiring holder → TxnTurn t l at reply.Open (line_goes t (in_state l (Asleep holder)) [])
  asks : (holder : Holder) (outcome : Outcome) → l.state ≡ Resolving holder outcome →
      TxnTurn t l at reply.Done (line_goes t (in_state l Awaiting) (line_out l.shard (txn_request t t.phase l) ∷ []))
