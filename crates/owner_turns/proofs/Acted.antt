-- What an owner does by itself.
use Rattle.std.proofs.Common.{◌≡◌, ℕ, ◌+◌, ◌-◌, ◌<◌, ◌≤◌, ◌==◌, Bool, true, false, List, [], ◌∷◌, ◌++◌, length, map, get_or, drop, Option, Some, None, refl, sym, ap, subst, ◌∙◌, arith, append_assoc}
use Rattle.std.specs.Prelude.{if◌then◌else◌}
use Rattle.truetime.specs.Reading.{Reading}
use Rattle.causal_context.specs.Seen.{Seen}
use Rattle.pipeline_lang.specs.declared.config.Config.{Config}
use Rattle.rss_names.specs.declared.attempt.Attempt.{Attempt}
use Rattle.rss_names.specs.declared.service.Key.{Key}
use Rattle.rss_names.specs.declared.service.ServiceId.{ServiceId}
use Rattle.rss_names.specs.declared.service.Target.{Target}
use Rattle.rss_model.specs.declared.op.Op.{Op}
use Rattle.rss_model.specs.declared.op.Op.TheVariants as op
use Rattle.rss_wire.specs.declared.messages.Reply.{Reply}
use Rattle.rss_wire.specs.declared.messages.Request.{Request}
use Rattle.rss_tables.specs.Outs.{Out, awaited, slot_shard, told}
use Rattle.rss_tables.specs.Lines.{Line, no_line, line_at}
use Rattle.rss_tables.specs.Turns.{Turn, quiet}
use Rattle.rss_machine.specs.Session.{Session, service_of}
use Rattle.rss_machine.specs.State.{State, Owner}
use Rattle.rss_machine.specs.declared.session.OwnerKind.{OwnerKind}
use Rattle.rss_machine.specs.declared.session.OwnerKind.TheVariants as kind
use Rattle.rss_machine.specs.declared.session.Session.TheVariants as session
use Rattle.turn_laws.specs.Turns as turn
use Rattle.turn_laws.specs.Turns.{OwnerTurn, goes_with, lines_in, txn_turn, snap_turn}
use Rattle.owner_sessions.specs.Boxed.{HasBoxRoom, HasStubRoom}
use Rattle.owner_sessions.specs.Parts.{settling_in, txn_in, snap_in, reads_in, writes_in, keys_in, TellsTxn, TellsSnap}
use Rattle.owner_sessions.specs.declared.called.Called.{Called}
use Rattle.owner_sessions.specs.declared.doing.Doing.{Doing}
use Rattle.owner_sessions.specs.declared.outbox.Outbox.{Outbox}
use Rattle.owner_turns.specs.Whole.{OwnerView, OwnerFits, KindFits, HasToSettle}
use Rattle.owner_turns.specs.declared.aim.Aim.{Aim}
use Rattle.owner_turns.specs.declared.aim.Aim.TheVariants as aim
use Rattle.owner_turns.specs.declared.way.Way.{Way}
use Rattle.owner_turns.specs.declared.way.Way.TheVariants as way
use Rattle.rss_tables.specs.TransactionSession.{TxnSession, waiting_time, txn_passes, txn_wakes}
use Rattle.rss_tables.specs.SnapshotSession.{SnapSession, snap_wakes}
use Rattle.turn_laws.specs.Turns.{session_act_turn, txn_act_turn, txn_wake_turn, snap_wake_turn, wait_turn, work_turn, through_turn, through, fenced, with_session, forgets_owner}
use Rattle.rss_tables.specs.declared.phases.TxnPhase.{TxnPhase}
use Rattle.rss_tables.specs.declared.phases.TxnPhase.TheVariants as phase
use Rattle.rss_tables.specs.declared.fences.FenceWork.{FenceWork}
use Rattle.owner_turns.specs.Going.{SpareView, HasStart, HasEnd, ReadyToAct, IsTimed, PlaceFits, line_of, way_of, waits_in, wakes_turn, timed_turn, timed_wakes, timed_passes}
use Rattle.owner_turns.proofs.Through.{through_plans}
use Rattle.owner_turns.proofs.Heard.{txn_turns_so, snap_turns_so, forgets_then, lines_sent, sent_after, txn_timed, snap_timed}

by_kind : (P : Session → Type 0) → P session.Idle → ((attempt : Attempt) (shards : List ℕ) → P (session.Settling attempt shards)) → (k : OwnerKind) → P (settling_in k)
by_kind P i s (kind.Stubbing (Some unsettled)) = s unsettled.0 unsettled.1
by_kind P i s (kind.Stubbing None) = i
by_kind P i s (kind.Calling x) = i
by_kind P i s kind.Fencing = i

pub no_wait : (k : OwnerKind) → waits_in (settling_in k) ≡ None
no_wait k = by_kind (λ x. waits_in x ≡ None) refl (λ a b. refl) k

pub ruleset no_waits = (no_wait)

pub work_plans : (c : Config) (o step : ℕ) (at : Reading) (w : Owner) (works : List (ServiceId × FenceWork)) → (work_turn c o step at w works).fences ≡ []
work_plans c o step at w [] = refl
work_plans c o step at w (x ∷ works) = through_plans c o step at (through at (fenced w x.0) works)

pub waits_some : (c : Config) (o step : ℕ) (at : Reading) (line : Option Line) (wait : Option ℕ) (t : ℕ) (w : Owner) → wait ≡ Some t → wait_turn c o step at line wait w ≡ work_turn c o step at w w.works.left
waits_some c o step at line wait t w e = ap (λ (x : Option ℕ). wait_turn c o step at line x w) e

pub waits_none : (c : Config) (o step : ℕ) (at : Reading) (line : Option Line) (wait : Option ℕ) (w : Owner) → wait ≡ None → wait_turn c o step at line wait w ≡ session_act_turn line w.session w
waits_none c o step at line wait w e = ap (λ (x : Option ℕ). wait_turn c o step at line x w) e

pub wait_ready : (c : Config) (at : Reading) (copy : Seen) (k : OwnerKind) (s : SpareView) (wait : Option ℕ) (t : ℕ) (x : Session) → wait ≡ Some t → ReadyToAct c at copy k s wait x → HasStart c at copy k s
wait_ready c at copy k s wait t x e h = subst (λ (y : Option ℕ). ReadyToAct c at copy k s y x) e h

pub act_ready : (c : Config) (at : Reading) (copy : Seen) (k : OwnerKind) (s : SpareView) (wait : Option ℕ) (x : Session) → wait ≡ None → ReadyToAct c at copy k s wait x → ReadyToAct c at copy k s None x
act_ready c at copy k s wait x e h = subst (λ (y : Option ℕ). ReadyToAct c at copy k s y x) e h

pub ruleset acts = (work_plans, waits_some, waits_none, wait_ready, act_ready, sent_after)

-- the session of a transaction
pub txn_passed : (line : Option Line) (x : Session) (t : ℕ) (w : Owner) → way_of x ≡ way.Transaction → waits_in x ≡ Some t → session_act_turn line x w ≡ timed_turn w (timed_passes x)
txn_passed line (session.Transaction u) t w e q = ap (λ (y : Option ℕ). txn_act_turn u y line w) q ∙ txn_turns_so w (txn_passes u u.phase)
txn_passed line session.Idle t w e q = cc
txn_passed line (session.Fixing f) t w e q = cc
txn_passed line (session.Register f) t w e q = cc
txn_passed line (session.Snapshot u) t w e q = cc
txn_passed line (session.Settling a b) t w e q = cc

wakes_txn : (u : TxnSession) (line : Option Line) (w : Owner) → w.session ≡ session.Transaction u → txn_wake_turn u line w ≡ wakes_turn line w
wakes_txn u None w e = refl
wakes_txn u (Some l) w e = txn_turns_so w (txn_wakes u l) ∙ ap (λ (x : Session). timed_turn w (timed_wakes x l)) (sym e)

wakes_snap : (u : SnapSession) (line : Option Line) (w : Owner) → w.session ≡ session.Snapshot u → snap_wake_turn u line w ≡ wakes_turn line w
wakes_snap u None w e = refl
wakes_snap u (Some l) w e = snap_turns_so w (snap_wakes u l) ∙ ap (λ (x : Session). timed_turn w (timed_wakes x l)) (sym e)

pub txn_woken : (line : Option Line) (x : Session) (w : Owner) → w.session ≡ x → way_of x ≡ way.Transaction → waits_in x ≡ None → session_act_turn line x w ≡ wakes_turn line w
txn_woken line (session.Transaction u) w s e q = ap (λ (y : Option ℕ). txn_act_turn u y line w) q ∙ wakes_txn u line w s
txn_woken line session.Idle w s e q = cc
txn_woken line (session.Fixing f) w s e q = cc
txn_woken line (session.Register f) w s e q = cc
txn_woken line (session.Snapshot u) w s e q = cc
txn_woken line (session.Settling a b) w s e q = cc

pub snap_woken : (line : Option Line) (x : Session) (w : Owner) → w.session ≡ x → way_of x ≡ way.Snapshot → session_act_turn line x w ≡ wakes_turn line w
snap_woken line (session.Snapshot u) w s e = wakes_snap u line w s
snap_woken line session.Idle w s e = cc
snap_woken line (session.Fixing f) w s e = cc
snap_woken line (session.Register f) w s e = cc
snap_woken line (session.Transaction u) w s e = cc
snap_woken line (session.Settling a b) w s e = cc

pub act_idle : (line : Option Line) (x : Session) (w : Owner) → way_of x ≡ way.Idle → session_act_turn line x w ≡ goes_with w []
act_idle line session.Idle w e = refl
act_idle line (session.Fixing f) w e = cc
act_idle line (session.Register f) w e = cc
act_idle line (session.Transaction u) w e = cc
act_idle line (session.Snapshot u) w e = cc
act_idle line (session.Settling a b) w e = cc

pub act_fixing : (line : Option Line) (x : Session) (w : Owner) → way_of x ≡ way.Fixing → session_act_turn line x w ≡ goes_with w []
act_fixing line (session.Fixing f) w e = refl
act_fixing line session.Idle w e = cc
act_fixing line (session.Register f) w e = cc
act_fixing line (session.Transaction u) w e = cc
act_fixing line (session.Snapshot u) w e = cc
act_fixing line (session.Settling a b) w e = cc

pub act_register : (line : Option Line) (x : Session) (w : Owner) → way_of x ≡ way.Register → session_act_turn line x w ≡ goes_with w []
act_register line (session.Register f) w e = refl
act_register line session.Idle w e = cc
act_register line (session.Fixing f) w e = cc
act_register line (session.Transaction u) w e = cc
act_register line (session.Snapshot u) w e = cc
act_register line (session.Settling a b) w e = cc

pub act_settling : (line : Option Line) (x : Session) (w : Owner) → way_of x ≡ way.Settling → session_act_turn line x w ≡ goes_with w []
act_settling line (session.Settling a b) w e = refl
act_settling line session.Idle w e = cc
act_settling line (session.Fixing f) w e = cc
act_settling line (session.Register f) w e = cc
act_settling line (session.Transaction u) w e = cc
act_settling line (session.Snapshot u) w e = cc

pub act_ends : (c : Config) (at : Reading) (copy : Seen) (k : OwnerKind) (s : SpareView) (x : Session) → IsTimed x → ReadyToAct c at copy k s None x → HasEnd copy s
act_ends c at copy k s (session.Transaction u) i h = h
act_ends c at copy k s (session.Snapshot u) i h = h
act_ends c at copy k s session.Idle i h = absurd i
act_ends c at copy k s (session.Fixing f) i h = absurd i
act_ends c at copy k s (session.Register f) i h = absurd i
act_ends c at copy k s (session.Settling a b) i h = absurd i

txn_calm : (u : TxnSession) (p : TxnPhase) → (txn_passes u p).anew ≡ false
txn_calm u phase.Locking = refl
txn_calm u phase.Preparing = refl
txn_calm u (phase.Freeing time) = refl
txn_calm u (phase.FreeingLast time) = refl
txn_calm u (phase.Deciding time) = refl
txn_calm u (phase.Waiting time) = refl
txn_calm u phase.Undoing = refl
txn_calm u (phase.Committed time) = refl
txn_calm u (phase.Failed time) = refl

pub passes_calm : (x : Session) → (timed_passes x).anew ≡ false
passes_calm (session.Transaction u) = txn_calm u u.phase
passes_calm (session.Snapshot u) = refl
passes_calm session.Idle = refl
passes_calm (session.Fixing f) = refl
passes_calm (session.Register f) = refl
passes_calm (session.Settling a b) = refl

pub ruleset session_acts = (txn_passed, txn_woken, snap_woken, act_idle, act_fixing, act_register, act_settling, act_ends, txn_timed, snap_timed, forgets_then, lines_sent, passes_calm)

-- a wake and a time that passes begin no phase
pub wakes_calm : (x : Session) (l : Line) → (timed_wakes x l).anew ≡ false
wakes_calm (session.Transaction u) l = refl
wakes_calm (session.Snapshot u) l = refl
wakes_calm session.Idle l = refl
wakes_calm (session.Fixing f) l = refl
wakes_calm (session.Register f) l = refl
wakes_calm (session.Settling a b) l = refl

pub wakes_some : (line : Option Line) (l : Line) (w : Owner) → line ≡ Some l → wakes_turn line w ≡ timed_turn w (timed_wakes w.session l)
wakes_some line l w e = ap (λ (x : Option Line). wakes_turn x w) e

pub ruleset wakes = (wakes_calm, wakes_some, forgets_then, lines_sent)
