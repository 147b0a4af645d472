-- What each kind of step does. Rows only choose among the moves.
use Rattle.std.specs.Prelude.{ℕ, ◌+◌, ◌-◌, Bool, true, false, ◌==◌, List, [], ◌∷◌, length, get_or, map, Option, Some, None, nat_lt, if◌then◌else◌}
use Rattle.truetime.specs.Reading.{Reading}
use Rattle.rss_names.specs.declared.service.Key.{Key}
use Rattle.rss_names.specs.declared.service.ServiceId.{ServiceId}
use Rattle.rss_names.specs.declared.service.Target.{Target}
use Rattle.rss_names.specs.declared.service.Target.TheVariants.{Shard, Replica}
use Rattle.rss_names.specs.declared.attempt.Attempt.{Attempt}
use Rattle.causal_context.specs.Seen.{Seen}
use Rattle.pipeline_lang.specs.declared.config.Config.{Config}
use Rattle.pipeline_lang.specs.declared.script.Statement.{Statement}
use Rattle.pipeline_lang.specs.declared.script.Statement.TheVariants as statement
use Rattle.pipeline_lang.specs.Config.{script_of, ends_of, replicas_of}
use Rattle.rss_model.specs.CallStatement.{op_of_statement}
use Rattle.rss_model.specs.Cursor.{Cursor, next_cursor, with_variable, after_local}
use Rattle.rss_model.specs.Formula.{formula_value}
use Rattle.rss_model.specs.declared.history.How.TheVariants.{Killed, Unavailable}
use Rattle.rss_model.specs.declared.history.Token.TheVariants as token
use Rattle.rss_model.specs.declared.op.Op.{Op}
use Rattle.rss_wire.specs.declared.envelope.Envelope.{Envelope}
use Rattle.rss_wire.specs.declared.message.Body.{Body as MessageBody}
use Rattle.rss_wire.specs.declared.message.Body.TheVariants as body
use Rattle.rss_wire.specs.declared.message.Fate.TheVariants as fate
use Rattle.rss_wire.specs.declared.messages.Outcome.{Outcome}
use Rattle.rss_wire.specs.declared.messages.Request.{Request}
use Rattle.rss_wire.specs.declared.messages.Request.TheVariants as request
use Rattle.rss_wire.specs.declared.messages.Reply.{Reply}
use Rattle.rss_wire.specs.declared.messages.Reply.TheVariants as reply
use Rattle.rss_wire.specs.Messages.{message_at}
use Rattle.rss_tables.specs.declared.endings.StubEnd.{StubEnd}
use Rattle.rss_tables.specs.declared.endings.StubEnd.TheVariants.{Fenced, Unfenced}
use Rattle.rss_tables.specs.Lines.{Line, line_at, tells_decision}
use Rattle.rss_tables.specs.Losses.{losses_of, reaches_tries, is_quorum_lost}
use Rattle.rss_tables.specs.Outs.{Out, awaited, line_out, slot_replica, slot_shard}
use Rattle.rss_tables.specs.Pipes.{Chunk, EndMark, no_mark, fenced_mark, bare_mark}
use Rattle.rss_tables.specs.RegisterSession.{RegSession, session_after, phase_end, round_requests, goes_on as starts_round}
use Rattle.rss_tables.specs.Round.{hears, is_reached}
use Rattle.rss_tables.specs.SnapshotSession.{SnapSession, snap_hears, snap_wakes}
use Rattle.rss_tables.specs.TransactionSession.{TxnSession, txn_hears, txn_wakes, txn_passes, waiting_time}
use Rattle.rss_tables.specs.declared.register_session.RegPhase.{RegPhase}
use Rattle.rss_tables.specs.declared.register_session.RegEnd.{RegEnd}
use Rattle.rss_machine.specs.Calls.{goes_on_with_works, ends_work, fix_ends, register_ends, txn_turns, snap_turns}
use Rattle.rss_machine.specs.Enabling.{next_statement, can_wake}
use Rattle.rss_machine.specs.Moves.{ticks, marks_message, sends_one, sends, serves_shard, serves_replica, notes_served, opens_call, opens_fence, plans_stub, starts_stub, turns_session, goes_on, listens, forgets, counts_loss, cuts_off, counts_act, moves_on, spawns, receives, takes_chunk, puts, closes, exits, dies, loses_stub}
use Rattle.rss_machine.specs.Session.{Session}
use Rattle.rss_machine.specs.declared.session.Session.TheVariants as session
use Rattle.rss_machine.specs.Slots.{slot_in}
use Rattle.rss_machine.specs.Standing.{is_running, stage_state, is_settled, exit_context}
use Rattle.rss_machine.specs.State.{State, stage_at, owner_at, pipe_at}
use Rattle.rss_machine.specs.declared.session.OwnerKind.{OwnerKind}
use Rattle.rss_machine.specs.declared.session.OwnerKind.TheVariants as kind
use Rattle.rss_machine.specs.declared.ending.StageState.{StageState}
use Rattle.rss_machine.specs.declared.ending.StageState.TheVariants as standing
use Rattle.rss_machine.specs.declared.state.OwnerFate.TheVariants.{Dropped, CutOff}
use Rattle.rss_machine.specs.declared.step.Step.{Step}
use Rattle.rss_machine.specs.declared.step.StepKind.{StepKind}
use Rattle.rss_machine.specs.declared.step.StepKind.TheVariants.{Act, Go, Lose, Again, Kill, Stub}

-- STATEMENTS

-- a stage begins a call, and goes through its works
abbrev pub begins_call : Config → State → ℕ → Reading → Option Op → State
begins_call c s n at None = s
begins_call c s n at (Some op) = goes_on_with_works c (opens_call s n op) (length s.owners) at

-- behind a statement that sets `status`
abbrev pub with_status : Cursor → ℕ → Cursor
with_status cursor status = next_cursor (with_variable cursor 0 status)

-- behind a take: the value and `status` are set
abbrev pub after_take : Cursor → ℕ → ℕ → ℕ → Cursor
after_take cursor variable value status = with_status (with_variable cursor variable value) status

-- a stage takes the first chunk of a pipe, or meets its end mark, which stays
abbrev pub takes_end : State → ℕ → ℕ → ℕ → EndMark → State
takes_end s n variable p no_mark = s
takes_end s n variable p (fenced_mark number seen) =
    receives s n (token.Chunk p number) seen (after_take (stage_at s n).cursor variable 0 1)
takes_end s n variable p bare_mark = moves_on s n (after_take (stage_at s n).cursor variable 0 2)

abbrev pub takes : State → ℕ → ℕ → ℕ → List Chunk → State
takes s n variable p [] = takes_end s n variable p (pipe_at s p).mark
takes s n variable p (chunk ∷ chunks) =
    receives (takes_chunk s p) n (token.Chunk p chunk.number) chunk.context (after_take (stage_at s n).cursor variable chunk.value 0)

-- a stage waits for a child that has exited, or whose stub is done
abbrev pub waits_over : State → ℕ → ℕ → StageState → State
waits_over s n child standing.Exited =
    receives s n (token.Exit child) (exit_context s child) (with_status (stage_at s n).cursor 0)
waits_over s n child (standing.Ended how (Some Fenced)) =
    receives s n (token.Exit child) (exit_context s child) (with_status (stage_at s n).cursor 1)
waits_over s n child (standing.Ended how (Some (Unfenced target))) = moves_on s n (with_status (stage_at s n).cursor 2)
waits_over s n child (standing.Ended how None) = s
waits_over s n child standing.Unborn = s
waits_over s n child standing.Live = s

-- a stage makes a statement, in a step with this reading
abbrev pub makes : Config → State → ℕ → Reading → Statement ℕ Key ℕ ℕ → State
makes c s n at (statement.Let variable value) =
    moves_on s n (after_local (script_of c n) (stage_at s n).cursor (statement.Let variable value))
makes c s n at (statement.Repeat times) =
    moves_on s n (after_local (script_of c n) (stage_at s n).cursor (statement.Repeat times))
makes c s n at (statement.When test) =
    moves_on s n (after_local (script_of c n) (stage_at s n).cursor (statement.When test))
makes c s n at statement.End =
    moves_on s n (after_local (script_of c n) (stage_at s n).cursor statement.End)
makes c s n at (statement.Read variable key) =
    begins_call c s n at (op_of_statement (statement.Read variable key) (stage_at s n).cursor.variables)
makes c s n at (statement.Write key value) =
    begins_call c s n at (op_of_statement (statement.Write key value) (stage_at s n).cursor.variables)
makes c s n at (statement.Snap pairs) =
    begins_call c s n at (op_of_statement (statement.Snap pairs) (stage_at s n).cursor.variables)
makes c s n at (statement.Txn reads guard writes) =
    begins_call c s n at (op_of_statement (statement.Txn reads guard writes) (stage_at s n).cursor.variables)
makes c s n at statement.Fence = goes_on_with_works c (opens_fence s n) (length s.owners) at
makes c s n at (statement.Spawn child) = spawns s n child (next_cursor (stage_at s n).cursor)
makes c s n at (statement.Wait child) = waits_over s n child (stage_state s child)
makes c s n at (statement.Put p value) =
    puts s n p (formula_value value (stage_at s n).cursor.variables) (is_settled c s (ends_of c p).taker) (next_cursor (stage_at s n).cursor)
makes c s n at (statement.Take variable p) = takes s n variable p (pipe_at s p).chunks
makes c s n at (statement.Close p) =
    moves_on (closes s n (stage_at s n).context p) n (next_cursor (stage_at s n).cursor)
makes c s n at statement.Exit = exits c s n

-- ACTS OF OWNERS

-- the first line that can wake
abbrev pub waking_line : State → List Line → Option Line
waking_line s [] = None
waking_line s (l ∷ lines) = if can_wake s l then Some l else waking_line s lines

-- a line of a transaction wakes
abbrev pub txn_line_wakes : Config → State → ℕ → TxnSession → Option Line → State
txn_line_wakes c s o t None = s
txn_line_wakes c s o t (Some l) = txn_turns c s o (txn_wakes t l)

-- a line of a snapshot wakes
abbrev pub snap_line_wakes : Config → State → ℕ → SnapSession → Option Line → State
snap_line_wakes c s o t None = s
snap_line_wakes c s o t (Some l) = snap_turns c s o (snap_wakes t l)

-- a transaction's time has passed, or a line of it wakes
abbrev pub txn_acts : Config → State → ℕ → TxnSession → Option ℕ → State
txn_acts c s o t (Some time) = txn_turns c s o (txn_passes t t.phase)
txn_acts c s o t None = txn_line_wakes c s o t (waking_line s t.lines)

-- an owner whose works wait for nothing goes on with what it has under way
abbrev pub session_acts : Config → State → ℕ → Session → State
session_acts c s o (session.Transaction t) = txn_acts c s o t (waiting_time t t.phase)
session_acts c s o (session.Snapshot t) = snap_line_wakes c s o t (waking_line s t.lines)
session_acts c s o session.Idle = s
session_acts c s o (session.Fixing r) = s
session_acts c s o (session.Register r) = s
session_acts c s o (session.Settling attempt shards) = s

-- an owner goes on by itself: the time that its works wait for has passed, or its session acts
abbrev pub owner_acts : Config → State → ℕ → Reading → Option ℕ → State
owner_acts c s o at (Some time) = ends_work c s o at (owner_at s o).works.left
owner_acts c s o at None = session_acts c s o (owner_at s o).session

-- a stage acts: its call or fence statement goes on, or it makes its next statement
abbrev pub acts : Config → State → ℕ → Reading → Option ℕ → State
acts c s n at None = makes c s n at (next_statement c s n)
acts c s n at (Some o) = owner_acts c s o at (owner_at s o).works.wait

-- MESSAGES

-- a request comes to its target
abbrev pub request_comes : State → ℕ → ℕ → Reading → Target → Request → State
request_comes s m o at (Shard shard) r = serves_shard s m shard at.latest r
request_comes s m o at (Replica service replica) r =
    notes_served (serves_replica s m service replica r) o service r

-- a round of dependencies goes on, or has reached a majority
abbrev pub fix_goes_on : Config → State → ℕ → Reading → RegSession → Option RegEnd → State
fix_goes_on c s o at r None = turns_session s o (session.Fixing r)
fix_goes_on c s o at r (Some end) = fix_ends c (forgets (turns_session s o (session.Fixing r)) o) o at (owner_at s o).works.left

-- a register call goes on: with its round, with the next round, or it has ended
abbrev pub register_goes_on : Config → State → ℕ → RegSession → Bool → Option RegEnd → State
register_goes_on c s o r anew (Some end) = register_ends c (forgets (turns_session s o (session.Register r)) o) o r.work end
register_goes_on c s o r true None = goes_on (forgets s o) o (session.Register r) (awaited (round_requests r))
register_goes_on c s o r false None = turns_session s o (session.Register r)

-- whether a reply is the last one of a round behind which another begins
abbrev pub opens_round : RegPhase → RegPhase → Bool
opens_round before after = if starts_round before then (if starts_round after then false else true) else false

-- a stub's attempt is settled: the decision is told to its shards, and its fences are planned
abbrev pub stub_settles : Config → State → ℕ → Reading → Attempt → List ℕ → Reply → State
stub_settles c s o at attempt shards (reply.Decided outcome) =
    goes_on_with_works c (plans_stub (sends s o (tells_decision attempt outcome shards)) o) o at
stub_settles c s o at attempt shards reply.Wounded = s
stub_settles c s o at attempt shards (reply.Granted shown) = s
stub_settles c s o at attempt shards (reply.Wait holders) = s
stub_settles c s o at attempt shards (reply.Prepared time) = s
stub_settles c s o at attempt shards reply.Done = s
stub_settles c s o at attempt shards (reply.Outcome outcome) = s
stub_settles c s o at attempt shards reply.Open = s
stub_settles c s o at attempt shards reply.Released = s
stub_settles c s o at attempt shards (reply.Blocked holders) = s
stub_settles c s o at attempt shards (reply.Values versions skipped) = s
stub_settles c s o at attempt shards reply.Fixed = s
stub_settles c s o at attempt shards (reply.Held value stamp writer) = s
stub_settles c s o at attempt shards reply.Stored = s

-- an owner hears the reply of a current exchange
abbrev pub owner_hears : Config → State → ℕ → ℕ → Reading → Reply → Session → State
owner_hears c s o slot at r (session.Fixing f) =
    let g = session_after f (slot_replica slot) r in fix_goes_on c s o at g (phase_end g.phase)
owner_hears c s o slot at r (session.Register f) =
    let g = session_after f (slot_replica slot) r in register_goes_on c s o g (opens_round f.phase g.phase) (phase_end g.phase)
owner_hears c s o slot at r (session.Transaction t) = txn_turns c s o (txn_hears t (line_at t.lines (slot_shard slot)) at r)
owner_hears c s o slot at r (session.Snapshot t) = snap_turns c s o (snap_hears t (line_at t.lines (slot_shard slot)) r)
owner_hears c s o slot at r (session.Settling attempt shards) = stub_settles c s o at attempt shards r
owner_hears c s o slot at r session.Idle = s

-- a reply comes; only that of a current exchange is heard
abbrev pub reply_comes : Config → State → ℕ → Reading → Reply → Option ℕ → State
reply_comes c s o at r None = s
reply_comes c s o at r (Some slot) = owner_hears c (listens s o slot) o slot at r (owner_at s o).session

-- a message comes
abbrev pub comes : Config → State → ℕ → Reading → Envelope → MessageBody → State
comes c s m at e (body.Request r) = request_comes s m e.owner at e.target r
comes c s m at e (body.Reply r) = reply_comes c s e.owner at r (slot_in (owner_at s e.owner).currents e.exchange)

-- LOSSES

-- a target is lost to an owner: a call or fence statement ends its stage, and a stub ends unfenced
abbrev pub target_lost : Config → State → ℕ → Target → OwnerKind → State
target_lost c s o target (kind.Calling op) = dies s (owner_at s o).stage Unavailable (CutOff target)
target_lost c s o target kind.Fencing = dies s (owner_at s o).stage Unavailable (CutOff target)
target_lost c s o target (kind.Stubbing unsettled) = loses_stub c s o target

-- a target is cut off from an owner; a shard ends it, and a replica where a majority cannot spare it
abbrev pub is_cut_off : Config → State → ℕ → Target → State
is_cut_off c s o (Shard shard) = target_lost c s o (Shard shard) (owner_at s o).kind
is_cut_off c s o (Replica service replica) =
    let t = cuts_off s o (Replica service replica) in
    if is_quorum_lost c.tries (owner_at s o).losses service (replicas_of c service) then
    target_lost c t o (Replica service replica) (owner_at s o).kind
    else
    t

-- the request of an exchange, once more
abbrev pub asks_again : State → ℕ → ℕ → Target → MessageBody → State
asks_again s o slot target (body.Request r) = sends_one s o record { slot = Some slot; target = target; request = r }
asks_again s o slot target (body.Reply r) = s

-- the request of a lost message is sent again where its exchange is current
abbrev pub replaces : State → ℕ → Target → ℕ → Option ℕ → State
replaces s o target exchange None = s
replaces s o target exchange (Some slot) = asks_again s o slot target (message_at s.net exchange).body

-- an owner that is running has lost one message more: the target is cut off, or the request sent again
abbrev pub loss_counts : Config → State → ℕ → Envelope → State
loss_counts c s o e =
    let t = counts_loss s o e.target in
    if reaches_tries c.tries (owner_at s o).losses e.target then
    is_cut_off c t o e.target
    else
    (if nat_lt (losses_of (owner_at t o).losses e.target) c.tries
    then replaces t o e.target e.exchange (slot_in (owner_at t o).currents e.exchange)
    else t)

-- a message is lost
abbrev pub loses : Config → State → Envelope → State
loses c s e = if is_running (owner_at s e.owner).fate then loss_counts c s e.owner e else s

-- STUBS

-- the coordinator is the least of the shards
abbrev pub least_shard : List ℕ → ℕ
least_shard [] = 0
least_shard (shard ∷ shards) = shard

-- a stub asks the coordinator of an attempt to decide without commit
abbrev pub settles : State → ℕ → Attempt → List ℕ → State
settles s o attempt shards =
    goes_on (starts_stub s o) o (session.Settling attempt shards) (line_out (least_shard shards) (request.Decide attempt false 0) ∷ [])

-- a stub starts: with an attempt to settle it asks the coordinator to decide without commit
abbrev pub stub_starts : Config → State → ℕ → Reading → OwnerKind → State
stub_starts c s o at (kind.Stubbing (Some unsettled)) = settles s o unsettled.0 unsettled.1
stub_starts c s o at (kind.Stubbing None) = goes_on_with_works c (plans_stub s o) o at
stub_starts c s o at (kind.Calling op) = s
stub_starts c s o at kind.Fencing = s

-- a stub goes on
abbrev pub stub_acts : Config → State → ℕ → Reading → Bool → State
stub_acts c s o at false = stub_starts c s o at (owner_at s o).kind
stub_acts c s o at true = ends_work c s o at (owner_at s o).works.left

abbrev pub stub_of_stage : Config → State → Option ℕ → Reading → State
stub_of_stage c s None at = s
stub_of_stage c s (Some o) at = stub_acts c s o at (owner_at s o).started

-- the effect of a step of this kind, once it is counted
unfoldable pub effect : Config → State → Reading → StepKind → State
effect c s at (Act n) = acts c (counts_act s n) n at (stage_at s n).owner
effect c s at (Go m) = comes c (marks_message s m fate.Delivered) m at (message_at s.net m).envelope (message_at s.net m).body
effect c s at (Again m) = comes c (marks_message s m fate.Repeated) m at (message_at s.net m).envelope (message_at s.net m).body
effect c s at (Lose m) = loses c (marks_message s m fate.Lost) (message_at s.net m).envelope
effect c s at (Kill n) = dies s n Killed Dropped
effect c s at (Stub n) = stub_of_stage c s (stage_at s n).stub at

-- the state after a step that is not refused
abbrev pub stepped : Config → State → Step → State
stepped c s step = effect c (ticks s step.at) step.at step.kind
