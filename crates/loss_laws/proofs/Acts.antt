-- No step but a loss loses anything: the walk over statements, acts, messages and stubs.
use Rattle.std.proofs.Common.{◌≡◌, ℕ, ◌-◌, Bool, true, false, List, [], ◌∷◌, length, Option, Some, None, refl, sym, subst}
use Rattle.std.proofs.Math.ListN.{set}
use Rattle.truetime.specs.Reading.{Reading}
use Rattle.rss_names.specs.declared.attempt.Attempt.{Attempt}
use Rattle.rss_names.specs.declared.service.Key.{Key}
use Rattle.rss_names.specs.declared.service.Target.{Target}
use Rattle.rss_names.specs.declared.service.Target.TheVariants.{Shard, Replica}
use Rattle.causal_context.specs.Seen.{Seen}
use Rattle.pipeline_lang.specs.declared.config.Config.{Config}
use Rattle.pipeline_lang.specs.declared.script.Statement.{Statement}
use Rattle.pipeline_lang.specs.declared.script.Statement.TheVariants as statement
use Rattle.rss_model.specs.CallStatement.{op_of_statement}
use Rattle.rss_model.specs.Cursor.{Cursor}
use Rattle.rss_model.specs.declared.history.Token.{Token}
use Rattle.rss_model.specs.declared.op.Op.{Op}
use Rattle.rss_wire.specs.declared.envelope.Envelope.{Envelope}
use Rattle.rss_wire.specs.declared.message.Body.{Body as MessageBody}
use Rattle.rss_wire.specs.declared.message.Body.TheVariants as body
use Rattle.rss_wire.specs.declared.message.Fate.{Fate}
use Rattle.rss_wire.specs.declared.messages.Request.{Request}
use Rattle.rss_wire.specs.declared.messages.Request.TheVariants as request
use Rattle.rss_wire.specs.declared.messages.Reply.{Reply}
use Rattle.rss_wire.specs.declared.messages.Reply.TheVariants as reply
use Rattle.rss_tables.specs.declared.endings.StubEnd.TheVariants.{Fenced, Unfenced}
use Rattle.rss_tables.specs.Lines.{Line, line_at, tells_decision}
use Rattle.rss_tables.specs.Outs.{awaited, line_out, slot_replica, slot_shard}
use Rattle.rss_tables.specs.Pipes.{Chunk, EndMark, no_mark, fenced_mark, bare_mark}
use Rattle.rss_tables.specs.RegisterSession.{RegSession, session_after, phase_end, round_requests}
use Rattle.rss_tables.specs.SnapshotSession.{SnapSession, snap_hears, snap_wakes}
use Rattle.rss_tables.specs.TransactionSession.{TxnSession, txn_hears, txn_wakes, txn_passes, waiting_time}
use Rattle.rss_tables.specs.declared.register_session.RegEnd.{RegEnd}
use Rattle.rss_machine.specs.Effect.{begins_call, takes_end, takes, waits_over, makes, waking_line, txn_line_wakes, snap_line_wakes, txn_acts, session_acts, owner_acts, acts, request_comes, fix_goes_on, register_goes_on, opens_round, stub_settles, owner_hears, reply_comes, comes, least_shard, stub_starts, stub_acts, stub_of_stage}
use Rattle.rss_machine.specs.Enabling.{next_statement}
use Rattle.rss_machine.specs.Moves.{marks_message, opens_call, opens_fence, plans_stub, starts_stub, sends, turns_session, listens, forgets, counts_act, moves_on, spawns, receives}
use Rattle.rss_machine.specs.Session.{Session}
use Rattle.rss_machine.specs.Slots.{slot_in}
use Rattle.rss_machine.specs.Standing.{stage_state, exit_context}
use Rattle.rss_machine.specs.State.{State, Stage, stage_at, owner_at, pipe_at}
use Rattle.rss_machine.specs.declared.ending.StageState.{StageState}
use Rattle.rss_machine.specs.declared.ending.StageState.TheVariants as standing
use Rattle.rss_machine.specs.declared.session.OwnerKind.{OwnerKind}
use Rattle.rss_machine.specs.declared.session.OwnerKind.TheVariants as kind
use Rattle.rss_machine.specs.declared.session.Session.TheVariants as session
use Rattle.loss_laws.proofs.Steady.{Steady, SteadyStages, owners_goes, owners_more, stages_goes, stages_lives, stages_then, same, after, by_owners, by_stages}
use Rattle.loss_laws.proofs.Calls.{s_sends, s_own, s_goes_on, s_exits, s_goes_through, s_ends_work, s_fix_ends, s_register_ends, s_txn_turns, s_snap_turns}

module _ (X : ℕ → Target → Type 0) (Y : ℕ → Type 0) where
  stays : (s : State) → Steady X Y s s
  stays s = same X Y s s refl refl

  -- a stage goes on
  s_stage : (s t : State) (n : ℕ) (x : Stage) → t.owners ≡ s.owners → t.stages ≡ set s.stages (n - 1) x → x.life ≡ (stage_at s n).life → Steady X Y s t
  s_stage s t n x a b q = by_stages X Y s t a (subst (SteadyStages Y s.stages) (sym b) (stages_goes Y s.stages (n - 1) x q))

  s_moves_on : (s : State) (n : ℕ) (cursor : Cursor) → Steady X Y s (moves_on s n cursor)
  s_moves_on s n cursor = s_stage s _ n _ refl refl refl

  s_receives : (s : State) (n : ℕ) (t : Token) (seen : Seen) (cursor : Cursor) → Steady X Y s (receives s n t seen cursor)
  s_receives s n t seen cursor = s_stage s _ n _ refl refl refl

  s_spawns : (s : State) (n child : ℕ) (cursor : Cursor) → Steady X Y s (spawns s n child cursor)
  s_spawns s n child cursor = by_stages X Y s _ refl (stages_then Y s.stages (set s.stages (n - 1) (record (stage_at s n) { cursor = cursor })) _ (stages_goes Y s.stages (n - 1) _ refl) (stages_lives Y _ (child - 1) _ refl))

  s_opens_call : (s : State) (n : ℕ) (x : Op) → Steady X Y s (opens_call s n x)
  s_opens_call s n x = record { owners = owners_more X s.owners _ refl refl; stages = stages_goes Y s.stages (n - 1) _ refl }

  s_opens_fence : (s : State) (n : ℕ) → Steady X Y s (opens_fence s n)
  s_opens_fence s n = record { owners = owners_more X s.owners _ refl refl; stages = stages_goes Y s.stages (n - 1) _ refl }

  -- statements
  s_begins_call : (c : Config) (s : State) (n : ℕ) (at : Reading) (x : Option Op) → Steady X Y s (begins_call c s n at x)
  s_begins_call c s n at None = stays s
  s_begins_call c s n at (Some x) = after X Y s (opens_call s n x) _ (s_opens_call s n x) (s_goes_through X Y c (opens_call s n x) (length s.owners) at (owner_at (opens_call s n x) (length s.owners)).works.left)

  s_takes_end : (s : State) (n variable p : ℕ) (mark : EndMark) → Steady X Y s (takes_end s n variable p mark)
  s_takes_end s n variable p no_mark = stays s
  s_takes_end s n variable p (fenced_mark number seen) = s_receives s n _ seen _
  s_takes_end s n variable p bare_mark = s_moves_on s n _

  s_takes : (s : State) (n variable p : ℕ) (chunks : List Chunk) → Steady X Y s (takes s n variable p chunks)
  s_takes s n variable p [] = s_takes_end s n variable p (pipe_at s p).mark
  s_takes s n variable p (chunk ∷ chunks) = s_stage s _ n _ refl refl refl

  s_waits_over : (s : State) (n child : ℕ) (x : StageState) → Steady X Y s (waits_over s n child x)
  s_waits_over s n child standing.Exited = s_receives s n _ (exit_context s child) _
  s_waits_over s n child (standing.Ended how (Some Fenced)) = s_receives s n _ (exit_context s child) _
  s_waits_over s n child (standing.Ended how (Some (Unfenced target))) = s_moves_on s n _
  s_waits_over s n child (standing.Ended how None) = stays s
  s_waits_over s n child standing.Unborn = stays s
  s_waits_over s n child standing.Live = stays s

  s_makes : (c : Config) (s : State) (n : ℕ) (at : Reading) (x : Statement ℕ Key ℕ ℕ) → Steady X Y s (makes c s n at x)
  s_makes c s n at (statement.Let variable value) = s_moves_on s n _
  s_makes c s n at (statement.Repeat times) = s_moves_on s n _
  s_makes c s n at (statement.When test) = s_moves_on s n _
  s_makes c s n at statement.End = s_moves_on s n _
  s_makes c s n at (statement.Read variable key) = s_begins_call c s n at (op_of_statement (statement.Read variable key) (stage_at s n).cursor.variables)
  s_makes c s n at (statement.Write key value) = s_begins_call c s n at (op_of_statement (statement.Write key value) (stage_at s n).cursor.variables)
  s_makes c s n at (statement.Snap pairs) = s_begins_call c s n at (op_of_statement (statement.Snap pairs) (stage_at s n).cursor.variables)
  s_makes c s n at (statement.Txn reads guard writes) = s_begins_call c s n at (op_of_statement (statement.Txn reads guard writes) (stage_at s n).cursor.variables)
  s_makes c s n at statement.Fence = after X Y s (opens_fence s n) _ (s_opens_fence s n) (s_goes_through X Y c (opens_fence s n) (length s.owners) at (owner_at (opens_fence s n) (length s.owners)).works.left)
  s_makes c s n at (statement.Spawn child) = s_spawns s n child _
  s_makes c s n at (statement.Wait child) = s_waits_over s n child (stage_state s child)
  s_makes c s n at (statement.Put p value) = s_stage s _ n _ refl refl refl
  s_makes c s n at (statement.Take variable p) = s_takes s n variable p (pipe_at s p).chunks
  s_makes c s n at (statement.Close p) = s_stage s _ n _ refl refl refl
  s_makes c s n at statement.Exit = s_exits X Y c s n

  -- acts
  s_txn_line_wakes : (c : Config) (s : State) (o : ℕ) (t : TxnSession) (l : Option Line) → Steady X Y s (txn_line_wakes c s o t l)
  s_txn_line_wakes c s o t None = stays s
  s_txn_line_wakes c s o t (Some l) = s_txn_turns X Y c s o (txn_wakes t l)

  s_snap_line_wakes : (c : Config) (s : State) (o : ℕ) (t : SnapSession) (l : Option Line) → Steady X Y s (snap_line_wakes c s o t l)
  s_snap_line_wakes c s o t None = stays s
  s_snap_line_wakes c s o t (Some l) = s_snap_turns X Y c s o (snap_wakes t l)

  s_txn_acts : (c : Config) (s : State) (o : ℕ) (t : TxnSession) (time : Option ℕ) → Steady X Y s (txn_acts c s o t time)
  s_txn_acts c s o t (Some time) = s_txn_turns X Y c s o (txn_passes t t.phase)
  s_txn_acts c s o t None = s_txn_line_wakes c s o t (waking_line s t.lines)

  s_session_acts : (c : Config) (s : State) (o : ℕ) (x : Session) → Steady X Y s (session_acts c s o x)
  s_session_acts c s o (session.Transaction t) = s_txn_acts c s o t (waiting_time t t.phase)
  s_session_acts c s o (session.Snapshot t) = s_snap_line_wakes c s o t (waking_line s t.lines)
  s_session_acts c s o session.Idle = stays s
  s_session_acts c s o (session.Fixing r) = stays s
  s_session_acts c s o (session.Register r) = stays s
  s_session_acts c s o (session.Settling attempt shards) = stays s

  s_owner_acts : (c : Config) (s : State) (o : ℕ) (at : Reading) (time : Option ℕ) → Steady X Y s (owner_acts c s o at time)
  s_owner_acts c s o at (Some time) = s_ends_work X Y c s o at (owner_at s o).works.left
  s_owner_acts c s o at None = s_session_acts c s o (owner_at s o).session

  s_acts : (c : Config) (s : State) (n : ℕ) (at : Reading) (o : Option ℕ) → Steady X Y s (acts c s n at o)
  s_acts c s n at None = s_makes c s n at (next_statement c s n)
  s_acts c s n at (Some o) = s_owner_acts c s o at (owner_at s o).works.wait

  pub s_act : (c : Config) (s : State) (n : ℕ) (at : Reading) (o : Option ℕ) → Steady X Y s (acts c (counts_act s n) n at o)
  s_act c s n at o = after X Y s (counts_act s n) _ (s_stage s _ n _ refl refl refl) (s_acts c (counts_act s n) n at o)

  -- messages
  s_request_comes : (s : State) (m o : ℕ) (at : Reading) (target : Target) (r : Request) → Steady X Y s (request_comes s m o at target r)
  s_request_comes s m o at (Shard shard) r = same X Y s _ refl refl
  s_request_comes s m o at (Replica service replica) r = by_owners X Y s _ refl (owners_goes X s.owners o _ refl refl)

  s_fix_goes_on : (c : Config) (s : State) (o : ℕ) (at : Reading) (r : RegSession) (e : Option RegEnd) → Steady X Y s (fix_goes_on c s o at r e)
  s_fix_goes_on c s o at r None = s_own X Y s o _ refl refl
  s_fix_goes_on c s o at r (Some e) =
      let t = turns_session s o (session.Fixing r) in
      after X Y s t _ (s_own X Y s o _ refl refl) (after X Y t (forgets t o) _ (s_own X Y t o _ refl refl) (s_fix_ends X Y c (forgets t o) o at (owner_at s o).works.left))

  s_register_goes_on : (c : Config) (s : State) (o : ℕ) (r : RegSession) (anew : Bool) (e : Option RegEnd) → Steady X Y s (register_goes_on c s o r anew e)
  s_register_goes_on c s o r anew (Some e) =
      let t = turns_session s o (session.Register r) in
      after X Y s t _ (s_own X Y s o _ refl refl) (after X Y t (forgets t o) _ (s_own X Y t o _ refl refl) (s_register_ends X Y c (forgets t o) o r.work e))
  s_register_goes_on c s o r true None = after X Y s (forgets s o) _ (s_own X Y s o _ refl refl) (s_goes_on X Y (forgets s o) o (session.Register r) (awaited (round_requests r)))
  s_register_goes_on c s o r false None = s_own X Y s o _ refl refl

  s_plans_stub : (s : State) (o : ℕ) → Steady X Y s (plans_stub s o)
  s_plans_stub s o = by_owners X Y s _ refl (owners_goes X s.owners o _ refl refl)

  s_stub_settles : (c : Config) (s : State) (o : ℕ) (at : Reading) (attempt : Attempt) (shards : List ℕ) (r : Reply) → Steady X Y s (stub_settles c s o at attempt shards r)
  s_stub_settles c s o at attempt shards (reply.Decided outcome) =
      let t = sends s o (tells_decision attempt outcome shards) in
      after X Y s t _ (s_sends X Y s o (tells_decision attempt outcome shards)) (after X Y t (plans_stub t o) _ (s_plans_stub t o) (s_goes_through X Y c (plans_stub t o) o at (owner_at (plans_stub t o) o).works.left))
  s_stub_settles c s o at attempt shards reply.Wounded = stays s
  s_stub_settles c s o at attempt shards (reply.Granted shown) = stays s
  s_stub_settles c s o at attempt shards (reply.Wait holders) = stays s
  s_stub_settles c s o at attempt shards (reply.Prepared time) = stays s
  s_stub_settles c s o at attempt shards reply.Done = stays s
  s_stub_settles c s o at attempt shards (reply.Outcome outcome) = stays s
  s_stub_settles c s o at attempt shards reply.Open = stays s
  s_stub_settles c s o at attempt shards reply.Released = stays s
  s_stub_settles c s o at attempt shards (reply.Blocked holders) = stays s
  s_stub_settles c s o at attempt shards (reply.Values versions skipped) = stays s
  s_stub_settles c s o at attempt shards reply.Fixed = stays s
  s_stub_settles c s o at attempt shards (reply.Held value stamp writer) = stays s
  s_stub_settles c s o at attempt shards reply.Stored = stays s

  s_owner_hears : (c : Config) (s : State) (o slot : ℕ) (at : Reading) (r : Reply) (x : Session) → Steady X Y s (owner_hears c s o slot at r x)
  s_owner_hears c s o slot at r (session.Fixing f) = let g = session_after f (slot_replica slot) r in s_fix_goes_on c s o at g (phase_end g.phase)
  s_owner_hears c s o slot at r (session.Register f) = let g = session_after f (slot_replica slot) r in s_register_goes_on c s o g (opens_round f.phase g.phase) (phase_end g.phase)
  s_owner_hears c s o slot at r (session.Transaction t) = s_txn_turns X Y c s o (txn_hears t (line_at t.lines (slot_shard slot)) at r)
  s_owner_hears c s o slot at r (session.Snapshot t) = s_snap_turns X Y c s o (snap_hears t (line_at t.lines (slot_shard slot)) r)
  s_owner_hears c s o slot at r (session.Settling attempt shards) = s_stub_settles c s o at attempt shards r
  s_owner_hears c s o slot at r session.Idle = stays s

  s_reply_comes : (c : Config) (s : State) (o : ℕ) (at : Reading) (r : Reply) (slot : Option ℕ) → Steady X Y s (reply_comes c s o at r slot)
  s_reply_comes c s o at r None = stays s
  s_reply_comes c s o at r (Some slot) = after X Y s (listens s o slot) _ (s_own X Y s o _ refl refl) (s_owner_hears c (listens s o slot) o slot at r (owner_at s o).session)

  s_comes : (c : Config) (s : State) (m : ℕ) (at : Reading) (e : Envelope) (b : MessageBody) → Steady X Y s (comes c s m at e b)
  s_comes c s m at e (body.Request r) = s_request_comes s m e.owner at e.target r
  s_comes c s m at e (body.Reply r) = s_reply_comes c s e.owner at r (slot_in (owner_at s e.owner).currents e.exchange)

  pub s_delivers : (c : Config) (s : State) (m : ℕ) (f : Fate) (at : Reading) (e : Envelope) (b : MessageBody) → Steady X Y s (comes c (marks_message s m f) m at e b)
  s_delivers c s m f at e b = after X Y s (marks_message s m f) _ (same X Y s _ refl refl) (s_comes c (marks_message s m f) m at e b)

  -- stubs
  s_stub_starts : (c : Config) (s : State) (o : ℕ) (at : Reading) (k : OwnerKind) → Steady X Y s (stub_starts c s o at k)
  s_stub_starts c s o at (kind.Stubbing (Some u)) = after X Y s (starts_stub s o) _ (s_own X Y s o _ refl refl) (s_goes_on X Y (starts_stub s o) o (session.Settling u.0 u.1) (line_out (least_shard u.1) (request.Decide u.0 false 0) ∷ []))
  s_stub_starts c s o at (kind.Stubbing None) = after X Y s (plans_stub s o) _ (s_plans_stub s o) (s_goes_through X Y c (plans_stub s o) o at (owner_at (plans_stub s o) o).works.left)
  s_stub_starts c s o at (kind.Calling x) = stays s
  s_stub_starts c s o at kind.Fencing = stays s

  s_stub_acts : (c : Config) (s : State) (o : ℕ) (at : Reading) (b : Bool) → Steady X Y s (stub_acts c s o at b)
  s_stub_acts c s o at false = s_stub_starts c s o at (owner_at s o).kind
  s_stub_acts c s o at true = s_ends_work X Y c s o at (owner_at s o).works.left

  pub s_stub : (c : Config) (s : State) (o : Option ℕ) (at : Reading) → Steady X Y s (stub_of_stage c s o at)
  s_stub c s None at = stays s
  s_stub c s (Some o) at = s_stub_acts c s o at (owner_at s o).started
