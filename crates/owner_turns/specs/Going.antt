-- What a turn needs beside the owner: what is made ready for it.
use Rattle.std.specs.Prelude.{◌≡◌, ℕ, ◌+◌, ◌<◌, ◌≤◌, ◌^◌, ⊤, max, Bool, true, false, List, [], ◌∷◌, ◌++◌, length, map, get_or, Option, Some, None, if◌then◌else◌}
use Rattle.truetime.specs.Reading.{Reading}
use Rattle.causal_context.specs.ContextView.{ContextView}
use Rattle.causal_context.specs.declared.dep.Dep.{Dep}
use Rattle.causal_context.specs.LeastTimes.{least_of}
use Rattle.causal_context.specs.Services.{IsService}
use Rattle.causal_context.specs.Seen.{Seen, nothing_seen, after_read, after_write, after_txn}
use Rattle.pipeline_lang.specs.Config.{home_of}
use Rattle.pipeline_lang.specs.declared.config.Config.{Config}
use Rattle.rss_names.specs.declared.service.Key.{Key}
use Rattle.rss_names.specs.declared.service.ServiceId.{ServiceId}
use Rattle.rss_model.specs.declared.op.Op.{Op}
use Rattle.rss_model.specs.declared.op.Op.TheVariants as op
use Rattle.rss_model.specs.declared.op.Shown.{Shown}
use Rattle.rss_wire.specs.declared.messages.Reply.{Reply}
use Rattle.rss_wire.specs.declared.messages.Reply.TheVariants as reply
use Rattle.rss_wire.specs.declared.messages.Outcome.{Outcome}
use Rattle.rss_names.specs.declared.service.Target.{Target}
use Rattle.rss_wire.specs.declared.messages.Request.{Request}
use Rattle.rss_wire.specs.declared.messages.Request.TheVariants as request
use Rattle.rss_machine.specs.Effect.{least_shard}
use Rattle.rss_tables.specs.Lines.{Line, lines_of, line_at, no_line, tells_decision}
use Rattle.rss_tables.specs.Outs.{Out, slot_replica, slot_shard, line_out}
use Rattle.rss_tables.specs.RegisterSession.{RegSession, session_after, phase_end}
use Rattle.rss_tables.specs.SnapshotSession.{SnapSession, snap_hears, snap_wakes, snap_end}
use Rattle.rss_tables.specs.Turns.{Turn, quiet}
use Rattle.rss_tables.specs.TransactionSession.{TxnSession, written_keys, txn_hears, txn_wakes, txn_passes, txn_end, waiting_time, shown_reply}
use Rattle.rss_tables.specs.declared.phases.TxnPhase.TheVariants.{Locking}
use Rattle.rss_tables.specs.declared.phases.SnapPhase.TheVariants.{First}
use Rattle.rss_tables.specs.declared.register_session.RegEnd.{RegEnd}
use Rattle.rss_tables.specs.declared.register_session.RegEnd.TheVariants as ends
use Rattle.rss_tables.specs.declared.register_session.RegWork.{RegWork}
use Rattle.rss_tables.specs.declared.register_session.RegWork.TheVariants as work
use Rattle.rss_machine.specs.Session.{Session, service_of}
use Rattle.rss_machine.specs.State.{Owner}
use Rattle.rss_machine.specs.declared.session.OwnerKind.{OwnerKind}
use Rattle.rss_machine.specs.declared.session.OwnerKind.TheVariants as kind
use Rattle.rss_machine.specs.declared.session.Session.TheVariants as session
use Rattle.rss_tables.specs.declared.fences.FenceWork.{FenceWork}
use Rattle.session_stub.specs.Passing.{first_ended}
use Rattle.session_stub.specs.declared.works.Next.{Next}
use Rattle.session_stub.specs.declared.works.Next.TheVariants as next
use Rattle.shard_lines.specs.Flat.{has_line, AreHomed}
use Rattle.snapshot_reads.specs.Session.{SessionView as SnapView, versions_shown as snap_shown, writers_skipped as snap_skipped}
use Rattle.two_phase.specs.Session.{SessionView as TxnView, versions_shown as txn_shown}
use Rattle.turn_laws.specs.Turns as turn
use Rattle.turn_laws.specs.Turns.{Through, OwnerTurn, launch_turn, goes_with, entering, register_launch, fix_turn, with_session, forgets_owner, lines_in}
use Rattle.owner_sessions.specs.Boxed.{HasStubRoom}
use Rattle.owner_sessions.specs.Parts.{reads_in, writes_in, keys_in}
use Rattle.owner_sessions.specs.Rounds.{next_round, goes_to_next}
use Rattle.owner_sessions.specs.declared.outbox.Outbox.{Outbox}
use Rattle.owner_turns.specs.declared.aim.Aim.{Aim}
use Rattle.owner_turns.specs.declared.way.Way.{Way}
use Rattle.owner_turns.specs.declared.way.Way.TheVariants as way
use Rattle.owner_turns.specs.declared.aim.Aim.TheVariants as aim
use Rattle.owner_turns.specs.Whole.{OwnerView}

-- what is made before a turn: room for a list of dependencies and for a reply, the sessions of a call that may begin its own,
-- and a copy of its context
pub record SpareView : Type 0 where
  pub deps : ℕ
  pub shown : ℕ
  pub txn : Option TxnView
  pub snap : Option SnapView
  pub context : Option ContextView

-- the session of a transaction that has sent nothing, with these lines
abbrev pub OpensTxn : List Line → Option TxnView → Type 0
OpensTxn lines None = ⊥
OpensTxn lines (Some t) = (t.k ≡ 1) × (t.phase ≡ Locking) × (t.earliest_end ≡ 0) × (t.lines ≡ lines)

-- the session of a snapshot that has sent nothing, with these lines, at this read time
abbrev pub OpensSnap : List Line → ℕ → Option SnapView → Type 0
OpensSnap lines time None = ⊥
OpensSnap lines time (Some t) = (t.phase ≡ First time) × (t.lines ≡ lines)

-- the session that a call can begin is made
abbrev pub OpensOp : Config → Reading → Seen → SpareView → Op → Type 0
OpensOp c at seen s (op.Read key) = ⊤
OpensOp c at seen s (op.Write key value) = ⊤
OpensOp c at seen s (op.Snap keys) = OpensSnap (lines_of (home_of c) keys []) (max at.latest (least_of seen.least (service_of (op.Snap keys)))) s.snap
OpensOp c at seen s (op.Txn reads guard writes) = OpensTxn (lines_of (home_of c) reads (written_keys writes)) s.txn

abbrev pub OpensKind : Config → Reading → Seen → SpareView → OwnerKind → Type 0
OpensKind c at seen s (kind.Calling x) = OpensOp c at seen s x
OpensKind c at seen s kind.Fencing = ⊤
OpensKind c at seen s (kind.Stubbing unsettled) = ⊤

-- all that an owner needs to go through its works: room for the dependencies of its copy, and its session
pub record HasStart (c : Config) (at : Reading) (copy : Seen) (k : OwnerKind) (s : SpareView) : Type 0 where
  pub deps : length copy.deps ≤ s.deps
  pub opens : OpensKind c at copy s k

-- an equal context, with room for one dependency more
abbrev pub HasContext : Seen → Option ContextView → Type 0
HasContext seen None = ⊥
HasContext seen (Some x) = (x.seen ≡ seen) × (1 ≤ x.spare)

-- all that an owner needs to end: room for its reply, and a copy of its context
pub record HasEnd (copy : Seen) (s : SpareView) : Type 0 where
  pub shown : 8 ≤ s.shown
  pub context : HasContext copy s.context

-- what an owner is about to do
abbrev pub aim_of_op : Op → Aim
aim_of_op (op.Read key) = aim.Read key
aim_of_op (op.Write key value) = aim.Write key value
aim_of_op (op.Snap keys) = aim.Snap (service_of (op.Snap keys))
aim_of_op (op.Txn reads guard writes) = aim.Txn (service_of (op.Txn reads guard writes))

abbrev pub aim_of : OwnerKind → Aim
aim_of (kind.Calling x) = aim_of_op x
aim_of kind.Fencing = aim.Fence
aim_of (kind.Stubbing unsettled) = aim.Stub

-- what comes next of works
abbrev pub through_of : Next → Owner → Through
through_of next.Over w = turn.over w
through_of (next.Waits time) w = turn.waits w
through_of (next.Fix id) w = turn.stores w id

-- rounds under way hear a reply
abbrev pub session_heard : Session → ℕ → Reply → Session
session_heard (session.Fixing g) from r = session.Fixing (session_after g from r)
session_heard (session.Register g) from r = session.Register (session_after g from r)
session_heard session.Idle from r = session.Idle
session_heard (session.Transaction t) from r = session.Transaction t
session_heard (session.Snapshot t) from r = session.Snapshot t
session_heard (session.Settling attempt shards) from r = session.Settling attempt shards

-- how rounds under way have ended, if they have
abbrev pub round_end : Session → Option RegEnd
round_end (session.Fixing r) = phase_end r.phase
round_end (session.Register r) = phase_end r.phase
round_end session.Idle = None
round_end (session.Transaction t) = None
round_end (session.Snapshot t) = None
round_end (session.Settling attempt shards) = None

-- how a register call ends, by the copy of its context
abbrev pub answer_of : Seen → RegWork → RegEnd → turn.TurnEnd
answer_of seen (work.Read key) (ends.Read cell dep) = turn.replied (record { key = key; value = cell.value; writer = cell.writer } ∷ []) (after_read seen key.service dep)
answer_of seen (work.Write key value) (ends.Written stamp) = turn.replied [] (after_write seen key.service)
answer_of seen (work.Read key) (ends.Written stamp) = turn.goes
answer_of seen (work.Read key) ends.Fixed = turn.goes
answer_of seen (work.Write key value) (ends.Read cell dep) = turn.goes
answer_of seen (work.Write key value) ends.Fixed = turn.goes
answer_of seen (work.Fix deps) end = turn.goes

-- the slot is one of what is under way: of a replica, or of a line's shard
abbrev pub SlotFits : Session → ℕ → Type 0
SlotFits (session.Fixing r) slot = slot < 7
SlotFits (session.Register r) slot = slot < 7
SlotFits (session.Transaction t) slot = (7 ≤ slot) × (has_line t.lines (slot_shard slot) ≡ true)
SlotFits (session.Snapshot t) slot = (7 ≤ slot) × (has_line t.lines (slot_shard slot) ≡ true)
SlotFits session.Idle slot = ⊤
SlotFits (session.Settling attempt shards) slot = ⊤

-- a transaction has had few attempts
abbrev pub AttemptsFit : Session → Type 0
AttemptsFit (session.Transaction t) = t.k + 1 < 2 ^ 32
AttemptsFit (session.Fixing r) = ⊤
AttemptsFit (session.Register r) = ⊤
AttemptsFit (session.Snapshot t) = ⊤
AttemptsFit session.Idle = ⊤
AttemptsFit (session.Settling attempt shards) = ⊤

-- a call begins its own session
abbrev pub launches : Config → ℕ → ℕ → Reading → OwnerKind → Owner → OwnerTurn
launches c o step at (kind.Calling x) w = launch_turn c o step at x w
launches c o step at kind.Fencing w = goes_with w []
launches c o step at (kind.Stubbing unsettled) w = goes_with w []

-- a call enters its service, where its plan says so
abbrev pub enters_first : ℕ → Reading → ServiceId → Owner → Owner
enters_first step at id w = if w.works.enter then entering step id at.latest w else w

-- a register call begins its rounds, and first stores dependencies if there are any
abbrev pub starts_register : Config → ℕ → ℕ → RegWork → ServiceId → List Dep → Owner → OwnerTurn
starts_register c o step work id [] w = register_launch c o step work id w
starts_register c o step work id (dep ∷ deps) w = fix_turn c o id w

-- the service of a call has a number from 1 to 8
abbrev pub AimServed : Aim → Type 0
AimServed (aim.Read key) = IsService key.service
AimServed (aim.Write key value) = IsService key.service
AimServed (aim.Snap id) = IsService id
AimServed (aim.Txn id) = IsService id
AimServed aim.Fence = ⊤
AimServed aim.Stub = ⊤

-- the first of its works has ended, if there is one, and it has nothing under way
abbrev pub works_ended : Owner → List (ServiceId × FenceWork) → Owner
works_ended w works = record w { works = first_ended w.works works; session = session.Idle }

-- what is under way, in short
abbrev pub way_of : Session → Way
way_of session.Idle = way.Idle
way_of (session.Fixing r) = way.Fixing
way_of (session.Register r) = way.Register
way_of (session.Transaction t) = way.Transaction
way_of (session.Snapshot t) = way.Snapshot
way_of (session.Settling attempt shards) = way.Settling

-- how what is under way ends, where that is a register session
abbrev pub answer_in : Seen → Session → RegEnd → turn.TurnEnd
answer_in seen (session.Register r) end = answer_of seen r.work end
answer_in seen (session.Fixing r) end = turn.goes
answer_in seen session.Idle end = turn.goes
answer_in seen (session.Transaction t) end = turn.goes
answer_in seen (session.Snapshot t) end = turn.goes
answer_in seen (session.Settling attempt shards) end = turn.goes

-- how a transaction or a snapshot ends, by the copy of its context
abbrev pub timed_answer : Seen → OwnerKind → List Shown → Option ℕ → turn.TurnEnd
timed_answer seen (kind.Calling x) shown (Some time) = turn.replied shown (after_txn seen (service_of x) time)
timed_answer seen (kind.Calling x) shown None = turn.goes
timed_answer seen kind.Fencing shown time = turn.goes
timed_answer seen (kind.Stubbing unsettled) shown time = turn.goes

-- whether a reply begins the next round, and what is sent then
abbrev pub goes_on_in : Session → ℕ → Reply → Bool
goes_on_in (session.Register g) from r = goes_to_next g from r
goes_on_in (session.Fixing g) from r = false
goes_on_in session.Idle from r = false
goes_on_in (session.Transaction t) from r = false
goes_on_in (session.Snapshot t) from r = false
goes_on_in (session.Settling attempt shards) from r = false

abbrev pub sends_in : Session → ℕ → Reply → List (Target × Request)
sends_in (session.Register g) from r = next_round (goes_to_next g from r) (session_after g from r)
sends_in (session.Fixing g) from r = []
sends_in session.Idle from r = []
sends_in (session.Transaction t) from r = []
sends_in (session.Snapshot t) from r = []
sends_in (session.Settling attempt shards) from r = []

-- a turn of a transaction or a snapshot, as one of what is under way
abbrev pub txn_step : Turn TxnSession → Turn Session
txn_step u = record { after = session.Transaction u.after; anew = u.anew; outs = u.outs }

abbrev pub snap_step : Turn SnapSession → Turn Session
snap_step u = record { after = session.Snapshot u.after; anew = u.anew; outs = u.outs }

-- what is under way hears a reply, where that is a transaction or a snapshot
abbrev pub timed_hears : Session → ℕ → Reading → Reply → Turn Session
timed_hears (session.Transaction t) slot at r = txn_step (txn_hears t (line_at t.lines (slot_shard slot)) at r)
timed_hears (session.Snapshot t) slot at r = snap_step (snap_hears t (line_at t.lines (slot_shard slot)) r)
timed_hears (session.Fixing g) slot at r = quiet (session.Fixing g)
timed_hears (session.Register g) slot at r = quiet (session.Register g)
timed_hears session.Idle slot at r = quiet session.Idle
timed_hears (session.Settling attempt shards) slot at r = quiet (session.Settling attempt shards)

-- what it was shown, and with which time it has ended, if it has
abbrev pub shown_in : Session → List Shown
shown_in (session.Transaction t) = shown_reply t.reads t.lines
shown_in (session.Snapshot t) = shown_reply t.keys t.lines
shown_in session.Idle = []
shown_in (session.Fixing r) = []
shown_in (session.Register r) = []
shown_in (session.Settling attempt shards) = []

abbrev pub time_in : Session → Option ℕ
time_in (session.Transaction t) = txn_end t.phase
time_in (session.Snapshot t) = snap_end t.phase
time_in session.Idle = None
time_in (session.Fixing r) = None
time_in (session.Register r) = None
time_in (session.Settling attempt shards) = None

-- the owner in a turn of its transaction or snapshot
abbrev pub timed_turn : Owner → Turn Session → OwnerTurn
timed_turn w u = record {
  after = with_session u.after (forgets_owner u.anew w);
  outs = u.outs;
  fences = [];
  ending = timed_answer w.works.copy w.kind (shown_in u.after) (time_in u.after);
}

-- a stub has room for the fences of all services
abbrev pub FencesFit : OwnerKind → ℕ → Type 0
FencesFit (kind.Stubbing unsettled) fences = 16 ≤ fences
FencesFit (kind.Calling x) fences = ⊤
FencesFit kind.Fencing fences = ⊤

-- all that an owner needs to hear a reply
abbrev pub ReadyToHear : Config → Reading → Reply → OwnerView → SpareView → Outbox → Session → Type 0
ReadyToHear c at r w s o (session.Fixing g) = HasStart c at w.row.works.copy w.row.kind s
ReadyToHear c at r w s o (session.Register g) = HasEnd w.row.works.copy s
ReadyToHear c at r w s o (session.Transaction t) = HasEnd w.row.works.copy s × (txn_shown r ≤ w.versions)
ReadyToHear c at r w s o (session.Snapshot t) = HasEnd w.row.works.copy s × (snap_shown r ≤ w.versions) × (snap_skipped r ≤ w.skips)
ReadyToHear c at r w s o (session.Settling attempt shards) = HasStart c at w.row.works.copy w.row.kind s × FencesFit w.row.kind w.fences × HasStubRoom o
ReadyToHear c at r w s o session.Idle = ⊤

-- all that an owner needs to go on by itself
abbrev pub ReadyToAct : Config → Reading → Seen → OwnerKind → SpareView → Option ℕ → Session → Type 0
ReadyToAct c at copy k s (Some time) x = HasStart c at copy k s
ReadyToAct c at copy k s None (session.Transaction t) = HasEnd copy s
ReadyToAct c at copy k s None (session.Snapshot t) = HasEnd copy s
ReadyToAct c at copy k s None (session.Fixing g) = ⊤
ReadyToAct c at copy k s None (session.Register g) = ⊤
ReadyToAct c at copy k s None session.Idle = ⊤
ReadyToAct c at copy k s None (session.Settling attempt shards) = ⊤

-- the line that wakes, by its place
abbrev pub line_of : Session → Option ℕ → Option Line
line_of x None = None
line_of x (Some place) = Some (get_or (lines_in x) place no_line)

-- the place is one of a line
abbrev pub PlaceFits : Session → Option ℕ → Type 0
PlaceFits x None = ⊤
PlaceFits x (Some place) = place < length (lines_in x)

-- the keys of an operation have their homes
abbrev pub HomesFit : Config → OwnerKind → Type 0
HomesFit c k = AreHomed c.homes (reads_in k) × AreHomed c.homes (written_keys (writes_in k)) × AreHomed c.homes (keys_in k)

-- what a context that is there has seen
abbrev pub seen_of : Option ContextView → Seen
seen_of None = nothing_seen
seen_of (Some x) = x.seen

-- a transaction or a snapshot is under way
abbrev pub IsTimed : Session → Type 0
IsTimed (session.Transaction t) = ⊤
IsTimed (session.Snapshot t) = ⊤
IsTimed session.Idle = ⊥
IsTimed (session.Fixing r) = ⊥
IsTimed (session.Register r) = ⊥
IsTimed (session.Settling attempt shards) = ⊥

-- there is room for what a reply shows
abbrev pub ShownFits : Reply → ℕ → ℕ → Session → Type 0
ShownFits r versions skips (session.Transaction t) = txn_shown r ≤ versions
ShownFits r versions skips (session.Snapshot t) = (snap_shown r ≤ versions) × (snap_skipped r ≤ skips)
ShownFits r versions skips session.Idle = ⊤
ShownFits r versions skips (session.Fixing g) = ⊤
ShownFits r versions skips (session.Register g) = ⊤
ShownFits r versions skips (session.Settling attempt shards) = ⊤

-- a line of what is under way wakes, and the time of a transaction passes
abbrev pub timed_wakes : Session → Line → Turn Session
timed_wakes (session.Transaction t) l = txn_step (txn_wakes t l)
timed_wakes (session.Snapshot t) l = snap_step (snap_wakes t l)
timed_wakes (session.Fixing g) l = quiet (session.Fixing g)
timed_wakes (session.Register g) l = quiet (session.Register g)
timed_wakes session.Idle l = quiet session.Idle
timed_wakes (session.Settling attempt shards) l = quiet (session.Settling attempt shards)

abbrev pub timed_passes : Session → Turn Session
timed_passes (session.Transaction t) = txn_step (txn_passes t t.phase)
timed_passes (session.Snapshot t) = quiet (session.Snapshot t)
timed_passes (session.Fixing g) = quiet (session.Fixing g)
timed_passes (session.Register g) = quiet (session.Register g)
timed_passes session.Idle = quiet session.Idle
timed_passes (session.Settling attempt shards) = quiet (session.Settling attempt shards)

-- the service of a call
abbrev pub service_in : OwnerKind → Option ServiceId
service_in (kind.Calling x) = Some (service_of x)
service_in kind.Fencing = None
service_in (kind.Stubbing unsettled) = None

-- the time that a transaction waits for
abbrev pub waits_in : Session → Option ℕ
waits_in (session.Transaction t) = waiting_time t t.phase
waits_in (session.Snapshot t) = None
waits_in session.Idle = None
waits_in (session.Fixing r) = None
waits_in (session.Register r) = None
waits_in (session.Settling attempt shards) = None

-- a line wakes, if one can
abbrev pub wakes_turn : Option Line → Owner → OwnerTurn
wakes_turn None w = goes_with w []
wakes_turn (Some l) w = timed_turn w (timed_wakes w.session l)

-- a stub asks its coordinator
abbrev pub settles_in : OwnerKind → Owner → OwnerTurn
settles_in (kind.Stubbing (Some unsettled)) w = goes_with (record w { started = true; session = session.Settling unsettled.0 unsettled.1 }) (line_out (least_shard unsettled.1) (request.Decide unsettled.0 false 0) ∷ [])
settles_in (kind.Stubbing None) w = goes_with w []
settles_in (kind.Calling x) w = goes_with w []
settles_in kind.Fencing w = goes_with w []

-- what a stub tells its shards, where it settles an attempt
abbrev pub told_in : Session → Outcome → List Out
told_in (session.Settling attempt shards) outcome = tells_decision attempt outcome shards
told_in session.Idle outcome = []
told_in (session.Fixing r) outcome = []
told_in (session.Register r) outcome = []
told_in (session.Transaction t) outcome = []
told_in (session.Snapshot t) outcome = []

-- whether a reply tells a decision
abbrev pub is_decision : Reply → Bool
is_decision (reply.Decided outcome) = true
is_decision reply.Wounded = false
is_decision (reply.Granted shown) = false
is_decision (reply.Wait holders) = false
is_decision (reply.Prepared time) = false
is_decision reply.Done = false
is_decision (reply.Outcome outcome) = false
is_decision reply.Open = false
is_decision reply.Released = false
is_decision (reply.Blocked holders) = false
is_decision (reply.Values versions skipped) = false
is_decision reply.Fixed = false
is_decision (reply.Held value stamp writer) = false
is_decision reply.Stored = false

-- what may begin a session of its own: nothing is under way, a round of dependencies, a stub that settles, or works that wait
abbrev pub may_start : Option ℕ → Session → Bool
may_start (Some time) x = true
may_start None session.Idle = true
may_start None (session.Fixing r) = true
may_start None (session.Settling attempt shards) = true
may_start None (session.Register r) = false
may_start None (session.Transaction t) = false
may_start None (session.Snapshot t) = false

-- what an owner needs to begin a session, where it may
abbrev pub IfStarts : Bool → Config → Reading → Seen → OwnerKind → SpareView → Type 0
IfStarts true c at copy k s = HasStart c at copy k s
IfStarts false c at copy k s = ⊤
