-- The turn of an owner: what it then is, what it sends, which fences it plans, and how it ends. All of
-- it over the owner's own record. The tables of the machine (`rss_machine/specs/{Calls,Effect}.antt`)
-- decide; that these turns are their rows is what this crate shows.
use Rattle.std.specs.Prelude.{◌≡◌, ℕ, ◌<◌, Bool, true, false, List, [], ◌∷◌, ◌++◌, drop, length, set, nat_lt, Option, Some, None, if◌then◌else◌}
use Rattle.truetime.specs.Reading.{Reading}
use Rattle.causal_context.specs.Deps.{deps_of}
use Rattle.causal_context.specs.LeastTimes.{least_of}
use Rattle.causal_context.specs.Seen.{Seen, after_txn, after_read, after_write, after_fence, entered, deps_cleared}
use Rattle.causal_context.specs.declared.dep.Dep.{Dep}
use Rattle.pipeline_lang.specs.declared.config.Config.{Config}
use Rattle.pipeline_lang.specs.Config.{body_of, home_of, replicas_of}
use Rattle.rss_names.specs.declared.attempt.Attempt.{Attempt}
use Rattle.rss_names.specs.declared.service.ServiceId.{ServiceId}
use Rattle.rss_model.specs.declared.op.Op.{Op}
use Rattle.rss_model.specs.declared.op.Op.TheVariants as op
use Rattle.rss_model.specs.declared.op.Shown.{Shown}
use Rattle.rss_wire.specs.declared.messages.Reply.{Reply}
use Rattle.rss_wire.specs.declared.messages.Reply.TheVariants as reply
use Rattle.rss_wire.specs.declared.messages.Request.TheVariants as request
use Rattle.rss_tables.specs.Losses.{cut_replicas}
use Rattle.rss_tables.specs.Outs.{Out, awaited, line_out, slot_replica, slot_shard}
use Rattle.rss_tables.specs.Lines.{Line, line_at, tells_decision}
use Rattle.rss_tables.specs.Turns.{Turn}
use Rattle.rss_tables.specs.Works.{planned, plan_all}
use Rattle.rss_tables.specs.RegisterSession.{RegSession, opening_session, session_after, phase_end, round_requests}
use Rattle.rss_tables.specs.SnapshotSession.{SnapSession, opening_snapshot, snap_starts, snap_hears, snap_wakes, snap_end}
use Rattle.rss_tables.specs.TransactionSession.{TxnSession, opening_txn, txn_starts, txn_hears, txn_wakes, txn_passes, txn_end, waiting_time, shown_reply}
use Rattle.rss_tables.specs.declared.fences.FenceWork.{FenceWork}
use Rattle.rss_tables.specs.declared.fences.FenceWork.TheVariants.{Nothing, Past, Fix}
use Rattle.rss_tables.specs.declared.register_session.RegWork.{RegWork}
use Rattle.rss_tables.specs.declared.register_session.RegWork.TheVariants as work
use Rattle.rss_tables.specs.declared.register_session.RegEnd.{RegEnd}
use Rattle.rss_tables.specs.declared.register_session.RegEnd.TheVariants as ends
use Rattle.rss_machine.specs.Calls.{replies, fenced_context, goes_on_with_works}
use Rattle.rss_machine.specs.Effect.{owner_hears, owner_acts, acts, stub_of_stage, stub_acts, opens_round, least_shard, waking_line}
use Rattle.rss_machine.specs.Moves.{with_owner, sends, listens, counts_fences, ends_fence, ends_stub}
use Rattle.rss_machine.specs.Session.{Session, service_of}
use Rattle.rss_machine.specs.State.{State, Owner, owner_at, stage_at, no_currents}
use Rattle.rss_machine.specs.declared.session.OwnerKind.{OwnerKind}
use Rattle.rss_machine.specs.declared.session.OwnerKind.TheVariants as kind
use Rattle.rss_machine.specs.declared.session.Session.TheVariants as session
use Rattle.rss_model.specs.Cursor.{next_cursor}

-- how a turn ends: the owner goes on; or a call has its reply and the context that it leaves; or a
-- fence statement or a stub is done
pub data TurnEnd : Type 0 where
  goes : TurnEnd
  replied : List Shown → Seen → TurnEnd
  fence_over : TurnEnd
  stub_over : TurnEnd

pub record OwnerTurn : Type 0 where
  pub after : Owner
  pub outs : List Out
  pub fences : List (ServiceId × FenceWork)
  pub ending : TurnEnd

-- a turn without its end: the owner is put, its fences are counted, its requests are sent
abbrev pub turns : State → ℕ → OwnerTurn → State
turns s o t = sends (record (with_owner s o t.after) { planned = counts_fences t.fences s.planned }) o t.outs

-- its end: where the owner meets its stage
abbrev pub ends_turn : Config → State → ℕ → TurnEnd → State
ends_turn c s o goes = s
ends_turn c s o (replied shown seen) = replies c s o shown seen
ends_turn c s o fence_over =
    ends_fence s o (next_cursor (stage_at s (owner_at s o).stage).cursor) (fenced_context (stage_at s (owner_at s o).stage).context (owner_at s o).works.copy)
ends_turn c s o stub_over = ends_stub c s o

abbrev pub takes_turn : Config → State → ℕ → OwnerTurn → State
takes_turn c s o t = ends_turn c (turns s o t) o t.ending

-- CHANGES OF ONE OWNER

abbrev pub with_session : Session → Owner → Owner
with_session x w = record w { session = x }

abbrev pub without_currents : Owner → Owner
without_currents w = record w { currents = no_currents }

abbrev pub forgets_owner : Bool → Owner → Owner
forgets_owner true w = without_currents w
forgets_owner false w = w

-- the current exchange of a slot has ended
abbrev pub listening : ℕ → Owner → Owner
listening slot w = record w { currents = set w.currents slot None }

-- the first of its works, the fence of this service, has ended
abbrev pub fenced : Owner → ServiceId → Owner
fenced w id = record w {
  works = record w.works { copy = after_fence w.works.copy id; left = drop 1 w.works.left; wait = None };
  session = session.Idle;
}

-- it waits for a time
abbrev pub waiting : Owner → ℕ → Owner
waiting w time = record w { works = record w.works { wait = Some time } }

-- it enters a service
abbrev pub entering : ℕ → ServiceId → ℕ → Owner → Owner
entering step id latest w = record w {
  works = record w.works { copy = entered w.works.copy id latest; enter = false };
  dates = record w.dates { entered = step };
}

-- the dependencies of its copy are stored at a majority
abbrev pub cleared : Owner → Owner
cleared w = record w { works = record w.works { copy = deps_cleared w.works.copy }; session = session.Idle }

-- it begins its own session
abbrev pub launched : ℕ → Session → Owner → Owner
launched step x w = record w { session = x; dates = record w.dates { launched = step } }

-- it goes on with requests, and nothing else
abbrev pub goes_with : Owner → List Out → OwnerTurn
goes_with w outs = record { after = w; outs = outs; fences = []; ending = goes }

-- it ends, and sends nothing
abbrev pub ends_with : Owner → TurnEnd → OwnerTurn
ends_with w ending = record { after = w; outs = []; fences = []; ending = ending }

-- HOW A CALL BEGINS ITS SESSION

-- a register session over the replicas that are not cut off
abbrev pub rounds_for : Config → ℕ → RegWork → ServiceId → Owner → RegSession
rounds_for c o work id w = opening_session o work id (replicas_of c id) (cut_replicas c.tries w.losses id)

-- a round that stores the copy's dependencies on a service's registers
abbrev pub fix_turn : Config → ℕ → ServiceId → Owner → OwnerTurn
fix_turn c o id w =
    let r = rounds_for c o (work.Fix (deps_of id w.works.copy.deps)) id w in
    goes_with (with_session (session.Fixing r) w) (awaited (round_requests r))

abbrev pub register_launch : Config → ℕ → ℕ → RegWork → ServiceId → Owner → OwnerTurn
register_launch c o step work id w =
    let r = rounds_for c o work id w in
    goes_with (launched step (session.Register r) w) (awaited (round_requests r))

abbrev pub launch_turn : Config → ℕ → ℕ → Reading → Op → Owner → OwnerTurn
launch_turn c o step at (op.Read key) w = register_launch c o step (work.Read key) key.service w
launch_turn c o step at (op.Write key value) w = register_launch c o step (work.Write key value) key.service w
launch_turn c o step at (op.Snap keys) w =
    let turn = snap_starts (opening_snapshot (home_of c) o keys (least_of w.works.copy.least (service_of (op.Snap keys))) at) in
    goes_with (launched step (session.Snapshot turn.after) w) turn.outs
launch_turn c o step at (op.Txn reads guard writes) w =
    let turn = txn_starts (opening_txn (home_of c) o reads guard writes (least_of w.works.copy.least (service_of (op.Txn reads guard writes))) (body_of c w.stage).earliest_end) in
    goes_with (launched step (session.Transaction turn.after) w) turn.outs

-- a call at a register service first stores the dependencies of its copy, if there are any
abbrev pub register_start : Config → ℕ → ℕ → Reading → Op → List Dep → Owner → OwnerTurn
register_start c o step at op [] w = launch_turn c o step at op w
register_start c o step at op (dep ∷ deps) w = fix_turn c o (service_of op) w

abbrev pub start_turn : Config → ℕ → ℕ → Reading → Op → Owner → OwnerTurn
start_turn c o step at (op.Read key) w = register_start c o step at (op.Read key) w.works.copy.deps w
start_turn c o step at (op.Write key value) w = register_start c o step at (op.Write key value) w.works.copy.deps w
start_turn c o step at (op.Snap keys) w = launch_turn c o step at (op.Snap keys) w
start_turn c o step at (op.Txn reads guard writes) w = launch_turn c o step at (op.Txn reads guard writes) w

-- a call whose works are done enters its service first, where its plan says so
abbrev pub entered_before : ℕ → Reading → Op → Owner → Owner
entered_before step at op w = if w.works.enter then entering step (service_of op) at.latest w else w

-- HOW AN OWNER GOES THROUGH ITS WORKS

-- what comes after the fences that owe nothing: nothing more, a time to wait for, or dependencies to store
pub data Through : Type 0 where
  over : Owner → Through
  waits : Owner → Through
  stores : Owner → ServiceId → Through

abbrev pub through : Reading → Owner → List (ServiceId × FenceWork) → Through
through at w [] = over w
through at w ((id, Nothing) ∷ works) = through at (fenced w id) works
through at w ((id, Past time) ∷ works) =
    if nat_lt time at.earliest then through at (fenced w id) works else waits (waiting w time)
through at w ((id, Fix) ∷ works) = stores w id

-- its works are done
abbrev pub works_over_turn : Config → ℕ → ℕ → Reading → Owner → OwnerKind → OwnerTurn
works_over_turn c o step at w (kind.Calling op) = start_turn c o step at op (entered_before step at op w)
works_over_turn c o step at w kind.Fencing = ends_with w fence_over
works_over_turn c o step at w (kind.Stubbing unsettled) = ends_with w stub_over

abbrev pub through_turn : Config → ℕ → ℕ → Reading → Through → OwnerTurn
through_turn c o step at (over w) = works_over_turn c o step at w w.kind
through_turn c o step at (waits w) = goes_with w []
through_turn c o step at (stores w id) = fix_turn c o id w

-- an owner goes on with what is left of its works: so a call and a fence statement begin
abbrev pub begin_turn : Config → ℕ → ℕ → Reading → Owner → OwnerTurn
begin_turn c o step at w = through_turn c o step at (through at w w.works.left)

-- the first of its works has ended, and it goes on with the others
abbrev pub work_turn : Config → ℕ → ℕ → Reading → Owner → List (ServiceId × FenceWork) → OwnerTurn
work_turn c o step at w [] = goes_with w []
work_turn c o step at w (x ∷ works) = through_turn c o step at (through at (fenced w x.0) works)

-- WHAT AN OWNER HEARS

-- the call goes on behind its own round of dependencies
abbrev pub cleared_turn : Config → ℕ → ℕ → Reading → OwnerKind → Owner → OwnerTurn
cleared_turn c o step at (kind.Calling op) w = launch_turn c o step at op w
cleared_turn c o step at kind.Fencing w = goes_with w []
cleared_turn c o step at (kind.Stubbing unsettled) w = goes_with w []

-- a round of dependencies has reached a majority: it was that of the first work, or the call's own
abbrev pub fixed_turn : Config → ℕ → ℕ → Reading → Owner → List (ServiceId × FenceWork) → OwnerTurn
fixed_turn c o step at w [] = cleared_turn c o step at w.kind (cleared w)
fixed_turn c o step at w (x ∷ works) = work_turn c o step at w (x ∷ works)

abbrev pub fixing_turn : Config → ℕ → ℕ → Reading → RegSession → Option RegEnd → Owner → OwnerTurn
fixing_turn c o step at g None w = goes_with (with_session (session.Fixing g) w) []
fixing_turn c o step at g (Some end) w =
    fixed_turn c o step at (without_currents (with_session (session.Fixing g) w)) w.works.left

-- how a register call ends
abbrev pub register_end : Owner → RegWork → RegEnd → TurnEnd
register_end w (work.Read key) (ends.Read cell dep) = replied (record { key = key; value = cell.value; writer = cell.writer } ∷ []) (after_read w.works.copy key.service dep)
register_end w (work.Write key value) (ends.Written stamp) = replied [] (after_write w.works.copy key.service)
register_end w (work.Read key) (ends.Written stamp) = goes
register_end w (work.Read key) ends.Fixed = goes
register_end w (work.Write key value) (ends.Read cell dep) = goes
register_end w (work.Write key value) ends.Fixed = goes
register_end w (work.Fix deps) end = goes

-- a register session goes on: it has ended, or its next round begins, or it hears on
abbrev pub register_turn : Owner → RegSession → Bool → Option RegEnd → OwnerTurn
register_turn w g anew (Some end) = ends_with (without_currents (with_session (session.Register g) w)) (register_end w g.work end)
register_turn w g true None = goes_with (with_session (session.Register g) (without_currents w)) (awaited (round_requests g))
register_turn w g false None = goes_with (with_session (session.Register g) w) []

-- how a transaction or a snapshot ends
abbrev pub timed_end : Owner → OwnerKind → List Shown → Option ℕ → TurnEnd
timed_end w (kind.Calling op) shown (Some time) = replied shown (after_txn w.works.copy (service_of op) time)
timed_end w (kind.Calling op) shown None = goes
timed_end w kind.Fencing shown time = goes
timed_end w (kind.Stubbing unsettled) shown time = goes

-- a transaction takes a turn
abbrev pub txn_turn : Owner → Turn TxnSession → OwnerTurn
txn_turn w turn = record {
  after = with_session (session.Transaction turn.after) (forgets_owner turn.anew w);
  outs = turn.outs;
  fences = [];
  ending = timed_end w w.kind (shown_reply turn.after.reads turn.after.lines) (txn_end turn.after.phase);
}

-- a snapshot takes a turn
abbrev pub snap_turn : Owner → Turn SnapSession → OwnerTurn
snap_turn w turn = record {
  after = with_session (session.Snapshot turn.after) (forgets_owner turn.anew w);
  outs = turn.outs;
  fences = [];
  ending = timed_end w w.kind (shown_reply turn.after.keys turn.after.lines) (snap_end turn.after.phase);
}

-- a turn that first sends these requests, whose replies nobody awaits, and plans these fences
abbrev pub behind : List Out → List (ServiceId × FenceWork) → OwnerTurn → OwnerTurn
behind outs fences t = record t { outs = outs ++ t.outs; fences = fences ++ t.fences }

-- a stub plans the fences of its copy
abbrev pub planning : Owner → Owner
planning w = record w { started = true; session = session.Idle; works = planned w.works.copy (plan_all w.works.copy) }

-- a stub plans, and goes through its works
abbrev pub plan_turn : Config → ℕ → ℕ → Reading → Owner → OwnerTurn
plan_turn c o step at w = behind [] (plan_all w.works.copy).fences (begin_turn c o step at (planning w))

-- a stub's attempt is settled: the decision is told to its shards, and its fences are planned
abbrev pub settle_turn : Config → ℕ → ℕ → Reading → Attempt → List ℕ → Reply → Owner → OwnerTurn
settle_turn c o step at attempt shards (reply.Decided outcome) w =
    behind (tells_decision attempt outcome shards) [] (plan_turn c o step at w)
settle_turn c o step at attempt shards reply.Wounded w = goes_with w []
settle_turn c o step at attempt shards (reply.Granted shown) w = goes_with w []
settle_turn c o step at attempt shards (reply.Wait holders) w = goes_with w []
settle_turn c o step at attempt shards (reply.Prepared time) w = goes_with w []
settle_turn c o step at attempt shards reply.Done w = goes_with w []
settle_turn c o step at attempt shards (reply.Outcome outcome) w = goes_with w []
settle_turn c o step at attempt shards reply.Open w = goes_with w []
settle_turn c o step at attempt shards reply.Released w = goes_with w []
settle_turn c o step at attempt shards (reply.Blocked holders) w = goes_with w []
settle_turn c o step at attempt shards (reply.Values versions skipped) w = goes_with w []
settle_turn c o step at attempt shards reply.Fixed w = goes_with w []
settle_turn c o step at attempt shards (reply.Held value stamp writer) w = goes_with w []
settle_turn c o step at attempt shards reply.Stored w = goes_with w []

-- an owner hears the reply of the current exchange of a slot; the owner is listening there already
abbrev pub session_turn : Config → ℕ → ℕ → Reading → ℕ → Reply → Session → Owner → OwnerTurn
session_turn c o step at slot r (session.Fixing f) w =
    let g = session_after f (slot_replica slot) r in fixing_turn c o step at g (phase_end g.phase) w
session_turn c o step at slot r (session.Register f) w =
    let g = session_after f (slot_replica slot) r in register_turn w g (opens_round f.phase g.phase) (phase_end g.phase)
session_turn c o step at slot r (session.Transaction t) w = txn_turn w (txn_hears t (line_at t.lines (slot_shard slot)) at r)
session_turn c o step at slot r (session.Snapshot t) w = snap_turn w (snap_hears t (line_at t.lines (slot_shard slot)) r)
session_turn c o step at slot r (session.Settling attempt shards) w = settle_turn c o step at attempt shards r w
session_turn c o step at slot r session.Idle w = goes_with w []

abbrev pub hear_turn : Config → ℕ → ℕ → Reading → ℕ → Reply → Owner → OwnerTurn
hear_turn c o step at slot r w = session_turn c o step at slot r w.session (listening slot w)

-- WHAT AN OWNER DOES BY ITSELF

-- a line of a transaction or a snapshot wakes, if one can
abbrev pub txn_wake_turn : TxnSession → Option Line → Owner → OwnerTurn
txn_wake_turn t None w = goes_with w []
txn_wake_turn t (Some l) w = txn_turn w (txn_wakes t l)

abbrev pub snap_wake_turn : SnapSession → Option Line → Owner → OwnerTurn
snap_wake_turn t None w = goes_with w []
snap_wake_turn t (Some l) w = snap_turn w (snap_wakes t l)

-- the time of a transaction has passed, or a line of it wakes
abbrev pub txn_act_turn : TxnSession → Option ℕ → Option Line → Owner → OwnerTurn
txn_act_turn t (Some time) line w = txn_turn w (txn_passes t t.phase)
txn_act_turn t None line w = txn_wake_turn t line w

-- the lines of a session
abbrev pub lines_in : Session → List Line
lines_in (session.Transaction t) = t.lines
lines_in (session.Snapshot t) = t.lines
lines_in session.Idle = []
lines_in (session.Fixing r) = []
lines_in (session.Register r) = []
lines_in (session.Settling attempt shards) = []

-- what is under way goes on by itself, where this line is the first that can wake, if one can
abbrev pub session_act_turn : Option Line → Session → Owner → OwnerTurn
session_act_turn line (session.Transaction t) w = txn_act_turn t (waiting_time t t.phase) line w
session_act_turn line (session.Snapshot t) w = snap_wake_turn t line w
session_act_turn line session.Idle w = goes_with w []
session_act_turn line (session.Fixing r) w = goes_with w []
session_act_turn line (session.Register r) w = goes_with w []
session_act_turn line (session.Settling attempt shards) w = goes_with w []

-- an owner goes on by itself: the time that its works wait for has passed, or its session acts
abbrev pub wait_turn : Config → ℕ → ℕ → Reading → Option Line → Option ℕ → Owner → OwnerTurn
wait_turn c o step at line (Some time) w = work_turn c o step at w w.works.left
wait_turn c o step at line None w = session_act_turn line w.session w

abbrev pub act_turn : Config → ℕ → ℕ → Reading → Option Line → Owner → OwnerTurn
act_turn c o step at line w = wait_turn c o step at line w.works.wait w

-- STUBS

-- a stub starts: with an attempt to settle it asks the coordinator to decide without commit
abbrev pub stub_start_turn : Config → ℕ → ℕ → Reading → OwnerKind → Owner → OwnerTurn
stub_start_turn c o step at (kind.Stubbing (Some unsettled)) w =
    goes_with (record w { started = true; session = session.Settling unsettled.0 unsettled.1 }) (line_out (least_shard unsettled.1) (request.Decide unsettled.0 false 0) ∷ [])
stub_start_turn c o step at (kind.Stubbing None) w = plan_turn c o step at w
stub_start_turn c o step at (kind.Calling op) w = goes_with w []
stub_start_turn c o step at kind.Fencing w = goes_with w []

abbrev pub started_turn : Config → ℕ → ℕ → Reading → Bool → Owner → OwnerTurn
started_turn c o step at false w = stub_start_turn c o step at w.kind w
started_turn c o step at true w = work_turn c o step at w w.works.left

abbrev pub stub_turn : Config → ℕ → ℕ → Reading → Owner → OwnerTurn
stub_turn c o step at w = started_turn c o step at w.started w

-- THE LAWS

-- going through works is a turn
abbrev pub BeginningIsATurn : Type 0
BeginningIsATurn = (c : Config) (s : State) (o : ℕ) (at : Reading) → o < length s.owners
    → goes_on_with_works c s o at ≡ takes_turn c s o (begin_turn c o s.steps at (owner_at s o))

-- hearing a reply is a turn
abbrev pub HearingIsATurn : Type 0
HearingIsATurn = (c : Config) (s : State) (o slot : ℕ) (at : Reading) (r : Reply) → o < length s.owners
    → owner_hears c (listens s o slot) o slot at r (owner_at s o).session ≡ takes_turn c s o (hear_turn c o s.steps at slot r (owner_at s o))

-- going on by itself is a turn
abbrev pub ActingIsATurn : Type 0
ActingIsATurn = (c : Config) (s : State) (o : ℕ) (at : Reading) → o < length s.owners
    → owner_acts c s o at (owner_at s o).works.wait ≡ takes_turn c s o (act_turn c o s.steps at (waking_line s (lines_in (owner_at s o).session)) (owner_at s o))

-- the step of a stub is a turn
abbrev pub StubsTakeTurns : Type 0
StubsTakeTurns = (c : Config) (s : State) (o : ℕ) (at : Reading) → o < length s.owners
    → stub_acts c s o at (owner_at s o).started ≡ takes_turn c s o (stub_turn c o s.steps at (owner_at s o))
