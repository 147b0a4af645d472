-- How an owner goes through its works, and how a call begins and ends its own session.
use Rattle.std.specs.Prelude.{ℕ, ◌+◌, ◌==◌, Bool, true, false, ◌||◌, not, List, [], ◌∷◌, length, Option, Some, None, nat_lt, if◌then◌else◌}
use Rattle.truetime.specs.Reading.{Reading}
use Rattle.rss_names.specs.declared.service.Key.{Key}
use Rattle.rss_names.specs.declared.service.ServiceId.{ServiceId}
use Rattle.causal_context.specs.declared.dep.Dep.{Dep}
use Rattle.causal_context.specs.Deps.{deps_of}
use Rattle.causal_context.specs.LeastTimes.{least_of}
use Rattle.causal_context.specs.Seen.{Seen, after_txn, after_read, after_write, fenced_outside}
use Rattle.pipeline_lang.specs.declared.config.Config.{Config}
use Rattle.pipeline_lang.specs.Config.{body_of, home_of, replicas_of}
use Rattle.rss_model.specs.CallStatement.{after_call}
use Rattle.rss_model.specs.Cursor.{next_cursor}
use Rattle.rss_model.specs.Operation.{values_of}
use Rattle.rss_model.specs.declared.op.Op.{Op}
use Rattle.rss_model.specs.declared.op.Op.TheVariants as op
use Rattle.rss_model.specs.declared.op.Shown.{Shown}
use Rattle.rss_tables.specs.Losses.{cut_replicas}
use Rattle.rss_tables.specs.Outs.{Out, awaited}
use Rattle.rss_tables.specs.RegisterSession.{RegSession, opening_session, round_requests}
use Rattle.rss_tables.specs.SnapshotSession.{SnapSession, opening_snapshot, snap_starts, snap_end}
use Rattle.rss_tables.specs.TransactionSession.{TxnSession, opening_txn, txn_starts, txn_end, shown_reply}
use Rattle.rss_tables.specs.Turns.{Turn}
use Rattle.rss_tables.specs.declared.fences.FenceWork.{FenceWork}
use Rattle.rss_tables.specs.declared.fences.FenceWork.TheVariants.{Nothing, Past, Fix}
use Rattle.rss_tables.specs.declared.register_session.RegWork.{RegWork}
use Rattle.rss_tables.specs.declared.register_session.RegWork.TheVariants as work
use Rattle.rss_tables.specs.declared.register_session.RegEnd.{RegEnd}
use Rattle.rss_tables.specs.declared.register_session.RegEnd.TheVariants as ends
use Rattle.rss_machine.specs.Enabling.{next_statement}
use Rattle.rss_machine.specs.Moves.{sends, waits_for, fence_ends, enters, goes_on, turns_session, clears, launches, forgets, ends_call, ends_fence, ends_stub}
use Rattle.rss_machine.specs.Session.{Session, service_of}
use Rattle.rss_machine.specs.declared.session.Session.TheVariants as session
use Rattle.rss_machine.specs.State.{State, stage_at, owner_at}
use Rattle.rss_machine.specs.declared.session.OwnerKind.{OwnerKind}
use Rattle.rss_machine.specs.declared.session.OwnerKind.TheVariants as kind

-- a register session of an owner, over the replicas that are not cut off from it
abbrev pub session_for : Config → State → ℕ → RegWork → ServiceId → RegSession
session_for c s o w service =
    opening_session o w service (replicas_of c service) (cut_replicas c.tries (owner_at s o).losses service)

-- an owner begins a round that stores its copy's dependencies on a service's registers
abbrev pub fixes : Config → State → ℕ → ServiceId → State
fixes c s o service =
    let r = session_for c s o (work.Fix (deps_of service (owner_at s o).works.copy.deps)) service in
    goes_on s o (session.Fixing r) (awaited (round_requests r))

-- the least time of a service in an owner's copy
abbrev pub least_for : State → ℕ → ServiceId → ℕ
least_for s o service = least_of (owner_at s o).works.copy.least service

-- a register call sends its own first round
abbrev pub launches_register : Config → State → ℕ → RegWork → ServiceId → State
launches_register c s o w service =
    let r = session_for c s o w service in
    launches s o (session.Register r) (awaited (round_requests r))

-- a call sends its own first round, in a step with this reading
abbrev pub launches_call : Config → State → ℕ → Reading → Op → State
launches_call c s o at (op.Read key) = launches_register c s o (work.Read key) key.service
launches_call c s o at (op.Write key value) = launches_register c s o (work.Write key value) key.service
launches_call c s o at (op.Snap keys) =
    let turn = snap_starts (opening_snapshot (home_of c) o keys (least_for s o (service_of (op.Snap keys))) at) in
    launches s o (session.Snapshot turn.after) turn.outs
launches_call c s o at (op.Txn reads guard writes) =
    let margin = (body_of c (owner_at s o).stage).earliest_end in
    let turn = txn_starts (opening_txn (home_of c) o reads guard writes (least_for s o (service_of (op.Txn reads guard writes))) margin) in
    launches s o (session.Transaction turn.after) turn.outs

-- a call at a register service first stores the dependencies of its copy, if there are any
abbrev pub starts_at_register : Config → State → ℕ → Reading → Op → List Dep → State
starts_at_register c s o at op [] = launches_call c s o at op
starts_at_register c s o at op (dep ∷ deps) = fixes c s o (service_of op)

abbrev pub starts_call : Config → State → ℕ → Reading → Op → State
starts_call c s o at (op.Read key) = starts_at_register c s o at (op.Read key) (owner_at s o).works.copy.deps
starts_call c s o at (op.Write key value) = starts_at_register c s o at (op.Write key value) (owner_at s o).works.copy.deps
starts_call c s o at (op.Snap keys) = launches_call c s o at (op.Snap keys)
starts_call c s o at (op.Txn reads guard writes) = launches_call c s o at (op.Txn reads guard writes)

-- a call whose works are done enters its service, where its plan says so
abbrev pub entered_first : State → ℕ → Op → Reading → State
entered_first s o op at =
    if (owner_at s o).works.enter then enters s o (service_of op) at.latest else s

-- the context of a stage whose fence statement is done: unchanged where nothing was used last
abbrev pub fenced_context : Seen → Seen → Seen
fenced_context before copy =
    if (length before.last.services == 0) then (if before.last.outside then fenced_outside copy else before) else fenced_outside copy

-- an owner's works are done
abbrev pub works_over : Config → State → ℕ → Reading → OwnerKind → State
works_over c s o at (kind.Calling op) = starts_call c (entered_first s o op at) o at op
works_over c s o at kind.Fencing =
    ends_fence s o (next_cursor (stage_at s (owner_at s o).stage).cursor) (fenced_context (stage_at s (owner_at s o).stage).context (owner_at s o).works.copy)
works_over c s o at (kind.Stubbing unsettled) = ends_stub c s o

-- an owner goes through its works: nothing is owed, or a time has passed, and the next one comes;
-- else it waits for the time, or stores dependencies
abbrev pub goes_through : Config → State → ℕ → Reading → List (ServiceId × FenceWork) → State
goes_through c s o at [] = works_over c s o at (owner_at s o).kind
goes_through c s o at ((id, Nothing) ∷ works) = goes_through c (fence_ends s o id) o at works
goes_through c s o at ((id, Past time) ∷ works) =
    if nat_lt time at.earliest then goes_through c (fence_ends s o id) o at works else waits_for s o time
goes_through c s o at ((id, Fix) ∷ works) = fixes c s o id

-- an owner goes on with what is left of its works
abbrev pub goes_on_with_works : Config → State → ℕ → Reading → State
goes_on_with_works c s o at = goes_through c s o at (owner_at s o).works.left

-- the first of its works has ended, and it goes on with the others
abbrev pub ends_work : Config → State → ℕ → Reading → List (ServiceId × FenceWork) → State
ends_work c s o at [] = s
ends_work c s o at (w ∷ works) = goes_through c (fence_ends s o w.0) o at works

-- the operation of an owner that is a call goes on behind its own round of dependencies
abbrev pub launches_cleared : Config → State → ℕ → Reading → OwnerKind → State
launches_cleared c s o at (kind.Calling op) = launches_call c s o at op
launches_cleared c s o at kind.Fencing = s
launches_cleared c s o at (kind.Stubbing unsettled) = s

-- a round of dependencies has reached a majority: it was that of the first work, or the call's own
abbrev pub fix_ends : Config → State → ℕ → Reading → List (ServiceId × FenceWork) → State
fix_ends c s o at [] = launches_cleared c (clears s o) o at (owner_at s o).kind
fix_ends c s o at (w ∷ works) = ends_work c s o at (w ∷ works)

-- a call ends with this reply, and leaves its stage this context
abbrev pub replies : Config → State → ℕ → List Shown → Seen → State
replies c s o shown seen =
    ends_call s o shown (after_call (stage_at s (owner_at s o).stage).cursor (next_statement c s (owner_at s o).stage) (values_of shown)) seen

-- a register call ends
abbrev pub register_ends : Config → State → ℕ → RegWork → RegEnd → State
register_ends c s o (work.Read key) (ends.Read cell dep) =
    replies c s o (record { key = key; value = cell.value; writer = cell.writer } ∷ []) (after_read (owner_at s o).works.copy key.service dep)
register_ends c s o (work.Write key value) (ends.Written stamp) =
    replies c s o [] (after_write (owner_at s o).works.copy key.service)
register_ends c s o (work.Read key) (ends.Written stamp) = s
register_ends c s o (work.Read key) ends.Fixed = s
register_ends c s o (work.Write key value) (ends.Read cell dep) = s
register_ends c s o (work.Write key value) ends.Fixed = s
register_ends c s o (work.Fix deps) end = s

-- a transaction or a snapshot ends at a time
abbrev pub ends_at : Config → State → ℕ → OwnerKind → List Shown → Option ℕ → State
ends_at c s o (kind.Calling op) shown (Some time) = replies c s o shown (after_txn (owner_at s o).works.copy (service_of op) time)
ends_at c s o (kind.Calling op) shown None = s
ends_at c s o kind.Fencing shown time = s
ends_at c s o (kind.Stubbing unsettled) shown time = s

-- the older exchanges of an owner are forgotten where a new phase begins
abbrev pub forgets_if : Bool → State → ℕ → State
forgets_if true s o = forgets s o
forgets_if false s o = s

-- a transaction takes a turn
abbrev pub txn_turns : Config → State → ℕ → Turn TxnSession → State
txn_turns c s o turn =
    ends_at c (goes_on (forgets_if turn.anew s o) o (session.Transaction turn.after) turn.outs) o (owner_at s o).kind (shown_reply turn.after.reads turn.after.lines) (txn_end turn.after.phase)

-- a snapshot takes a turn
abbrev pub snap_turns : Config → State → ℕ → Turn SnapSession → State
snap_turns c s o turn =
    ends_at c (goes_on (forgets_if turn.anew s o) o (session.Snapshot turn.after) turn.outs) o (owner_at s o).kind (shown_reply turn.after.keys turn.after.lines) (snap_end turn.after.phase)
