-- What an owner answers.
use Rattle.std.proofs.Common.{◌≡◌, ℕ, ◌+◌, ◌-◌, ◌<◌, ◌≤◌, ◌==◌, Bool, true, false, List, [], ◌∷◌, ◌++◌, length, map, get_or, drop, Option, Some, None, refl, sym, ap, subst, ◌∙◌, arith, append_assoc}
use Rattle.std.specs.Prelude.{if◌then◌else◌}
use Rattle.truetime.specs.Reading.{Reading}
use Rattle.causal_context.specs.Seen.{Seen}
use Rattle.pipeline_lang.specs.declared.config.Config.{Config}
use Rattle.rss_names.specs.declared.attempt.Attempt.{Attempt}
use Rattle.rss_names.specs.declared.service.Key.{Key}
use Rattle.rss_names.specs.declared.service.ServiceId.{ServiceId}
use Rattle.rss_names.specs.declared.service.Target.{Target}
use Rattle.rss_model.specs.declared.op.Op.{Op}
use Rattle.rss_model.specs.declared.op.Op.TheVariants as op
use Rattle.rss_wire.specs.declared.messages.Reply.{Reply}
use Rattle.rss_wire.specs.declared.messages.Request.{Request}
use Rattle.rss_tables.specs.Outs.{Out, awaited, slot_shard, told}
use Rattle.rss_tables.specs.Lines.{Line, no_line, line_at}
use Rattle.rss_tables.specs.Turns.{Turn, quiet}
use Rattle.rss_machine.specs.Session.{Session, service_of}
use Rattle.rss_machine.specs.State.{State, Owner}
use Rattle.rss_machine.specs.declared.session.OwnerKind.{OwnerKind}
use Rattle.rss_machine.specs.declared.session.OwnerKind.TheVariants as kind
use Rattle.rss_machine.specs.declared.session.Session.TheVariants as session
use Rattle.turn_laws.specs.Turns as turn
use Rattle.turn_laws.specs.Turns.{OwnerTurn, goes_with, lines_in, txn_turn, snap_turn}
use Rattle.owner_sessions.specs.Boxed.{HasBoxRoom, HasStubRoom}
use Rattle.owner_sessions.specs.Parts.{settling_in, txn_in, snap_in, reads_in, writes_in, keys_in, TellsTxn, TellsSnap}
use Rattle.owner_sessions.specs.declared.called.Called.{Called}
use Rattle.owner_sessions.specs.declared.doing.Doing.{Doing}
use Rattle.owner_sessions.specs.declared.outbox.Outbox.{Outbox}
use Rattle.owner_turns.specs.Whole.{OwnerView, OwnerFits, KindFits, HasToSettle}
use Rattle.owner_turns.specs.declared.aim.Aim.{Aim}
use Rattle.owner_turns.specs.declared.aim.Aim.TheVariants as aim
use Rattle.owner_turns.specs.declared.way.Way.{Way}
use Rattle.owner_turns.specs.declared.way.Way.TheVariants as way
use Rattle.rss_wire.specs.declared.messages.Holder.{Holder}
use Rattle.rss_tables.specs.Lines.{asleep_on}
use Rattle.rss_tables.specs.TransactionSession.{TxnSession, txn_end, has_failed, waiting_time}
use Rattle.rss_tables.specs.declared.phases.TxnPhase.{TxnPhase}
use Rattle.rss_tables.specs.declared.phases.TxnPhase.TheVariants as phase
use Rattle.rss_machine.specs.Enabling.{owner_enabling, session_enabling, txn_enabling, stub_waits}
use Rattle.rss_machine.specs.Places.{session_stamp, failed_time, first_time}
use Rattle.rss_machine.specs.Standing.{is_running}
use Rattle.rss_machine.specs.declared.state.OwnerFate.{OwnerFate}
use Rattle.rss_machine.specs.declared.state.OwnerFate.TheVariants.{Running, Ended, Dropped, CutOff}
use Rattle.rss_machine.specs.declared.turn.Enabling.TheVariants.{Never, Always, After}
use Rattle.std.proofs.lemmas.List.{drop_more, drop_all}
use Rattle.owner_turns.specs.declared.reading.OwnerEnabling.{OwnerEnabling}
use Rattle.owner_turns.specs.declared.reading.OwnerEnabling.TheVariants as enabled
use Rattle.owner_turns.specs.Asked.{attempt_under, is_read_under, after_or, session_enabling_in, enabling_in, stub_enabling_in, unless_started, enabling_as, awaited_holder, awaited_in, time_at, EnablingIsTold, StubEnablingIsTold}

by_kind : (P : Session → Type 0) → P session.Idle → ((attempt : Attempt) (shards : List ℕ) → P (session.Settling attempt shards)) → (k : OwnerKind) → P (settling_in k)
by_kind P i s (kind.Stubbing (Some unsettled)) = s unsettled.0 unsettled.1
by_kind P i s (kind.Stubbing None) = i
by_kind P i s (kind.Calling x) = i
by_kind P i s kind.Fencing = i

pub never : (k : OwnerKind) → session_enabling_in (settling_in k) ≡ enabled.Never
never k = by_kind (λ x. session_enabling_in x ≡ enabled.Never) refl (λ a b. refl) k

pub ruleset no_enabling = (never)

pub no_line_there : (k : OwnerKind) → lines_in (settling_in k) ≡ []
no_line_there k = by_kind (λ x. lines_in x ≡ []) refl (λ a b. refl) k

pub ruleset no_lines = (no_line_there)

pub awaits_on : (lines : List Line) (at : ℕ) → at < length lines → asleep_on (get_or lines at no_line).state ≡ None → awaited_in (drop at lines) ≡ awaited_in (drop (at + 1) lines)
awaits_on lines at h e = ap awaited_in (drop_more lines at no_line h) ∙ ap (λ (x : Option Holder). awaited_holder x (awaited_in (drop (at + 1) lines))) e

pub awaits_here : (lines : List Line) (at : ℕ) (holder : Holder) → at < length lines → asleep_on (get_or lines at no_line).state ≡ Some holder → awaited_in (drop at lines) ≡ Some holder.attempt
awaits_here lines at holder h e = ap awaited_in (drop_more lines at no_line h) ∙ ap (λ (x : Option Holder). awaited_holder x (awaited_in (drop (at + 1) lines))) e

pub awaits_past : (lines : List Line) (at : ℕ) → length lines ≤ at → awaited_in (drop at lines) ≡ None
awaits_past lines at h = ap awaited_in (drop_all at lines h)

pub ruleset awaits_more = (awaits_on, awaits_here, awaits_past)

pub no_time_at : (decided : Option ℕ) (k : OwnerKind) → time_at decided (settling_in k) ≡ None
no_time_at decided k = by_kind (λ x. time_at decided x ≡ None) refl (λ a b. refl) k

pub failed_at : (p : TxnPhase) → has_failed p ≡ true → failed_time p ≡ txn_end p
failed_at (phase.Failed time) e = refl
failed_at phase.Locking e = cc
failed_at phase.Preparing e = cc
failed_at (phase.Freeing time) e = cc
failed_at (phase.FreeingLast time) e = cc
failed_at (phase.Deciding time) e = cc
failed_at (phase.Waiting time) e = cc
failed_at phase.Undoing e = cc
failed_at (phase.Committed time) e = cc

pub not_failed : (p : TxnPhase) → has_failed p ≡ false → failed_time p ≡ None
not_failed (phase.Failed time) e = cc
not_failed phase.Locking e = refl
not_failed phase.Preparing e = refl
not_failed (phase.Freeing time) e = refl
not_failed (phase.FreeingLast time) e = refl
not_failed (phase.Deciding time) e = refl
not_failed (phase.Waiting time) e = refl
not_failed phase.Undoing e = refl
not_failed (phase.Committed time) e = refl

pub ruleset times = (no_time_at, failed_at, not_failed)

pub no_stamp : (stored : Bool) (k : OwnerKind) → session_stamp (settling_in k) stored ≡ None
no_stamp stored k = by_kind (λ x. session_stamp x stored ≡ None) refl (λ a b. refl) k

pub ruleset no_stamps = (no_stamp)

pub no_attempt : (k : OwnerKind) → attempt_under (settling_in k) ≡ None
no_attempt k = by_kind (λ x. attempt_under x ≡ None) refl (λ a b. refl) k

pub no_read : (k : OwnerKind) → is_read_under (settling_in k) ≡ false
no_read k = by_kind (λ x. is_read_under x ≡ false) refl (λ a b. refl) k

pub ruleset no_attempts = (no_attempt)

pub ruleset no_reads = (no_read)

txn_told : (s : State) (lines : List Line) (wait : Option ℕ) → txn_enabling s wait lines ≡ enabling_as s lines (after_or wait enabled.Lines)
txn_told s lines None = refl
txn_told s lines (Some time) = refl

session_told : (s : State) (x : Session) → session_enabling s x ≡ enabling_as s (lines_in x) (session_enabling_in x)
session_told s (session.Transaction t) = txn_told s t.lines (waiting_time t t.phase)
session_told s (session.Snapshot t) = refl
session_told s session.Idle = refl
session_told s (session.Fixing r) = refl
session_told s (session.Register r) = refl
session_told s (session.Settling a b) = refl

by_wait : (s : State) (wait : Option ℕ) (x : Session) → owner_enabling s wait x ≡ enabling_as s (lines_in x) (after_or wait (session_enabling_in x))
by_wait s None x = session_told s x
by_wait s (Some time) x = refl

pub enabling_told : EnablingIsTold
enabling_told s w = by_wait s w.works.wait w.session

stub_told : (s : State) (started : Bool) (wait : Option ℕ) → stub_waits started wait ≡ enabling_as s [] (unless_started started wait)
stub_told s false wait = refl
stub_told s true None = refl
stub_told s true (Some time) = refl

pub stub_enabling_told : StubEnablingIsTold
stub_enabling_told s w = by (is_running w.fate)
  where
    by : (b : Bool) → (if b then stub_waits w.started w.works.wait else Never) ≡ enabling_as s [] (if b then unless_started w.started w.works.wait else enabled.Never)
    by true = stub_told s w.started w.works.wait
    by false = refl
