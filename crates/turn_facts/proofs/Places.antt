-- A step takes a cursor one place further at most, and so cursors stand near the scripts in every run.
use Rattle.std.proofs.Common.{◌≡◌, ℕ, zero, suc, ◌+◌, ◌-◌, ◌≤◌, Bool, true, false, List, [], ◌∷◌, length, get_or, Option, Some, None, refl, ap, sym, ◌∙◌, subst, arith}
use Rattle.std.specs.Prelude.{if◌then◌else◌}
use Rattle.std.proofs.Math.ListN.{set}
use Rattle.truetime.specs.Reading.{Reading}
use Rattle.rss_names.specs.declared.service.Target.{Target}
use Rattle.rss_names.specs.declared.service.Target.TheVariants.{Shard, Replica}
use Rattle.causal_context.specs.Seen.{Seen}
use Rattle.pipeline_lang.specs.Config.{script_of}
use Rattle.pipeline_lang.specs.declared.config.Config.{Config}
use Rattle.pipeline_lang.specs.declared.script.Statement.TheVariants as statement
use Rattle.rss_model.specs.CallStatement.{op_of_statement}
use Rattle.rss_model.specs.Cursor.{NumberedStatement, Cursor, next_cursor, with_variable, after_local}
use Rattle.rss_model.specs.Operation.{values_of}
use Rattle.rss_model.specs.declared.history.How.{How}
use Rattle.rss_model.specs.declared.history.How.TheVariants.{Unavailable, Killed}
use Rattle.rss_model.specs.declared.op.Op.{Op}
use Rattle.rss_wire.specs.Messages.{message_at}
use Rattle.rss_wire.specs.declared.envelope.Envelope.{Envelope}
use Rattle.rss_wire.specs.declared.message.Body.{Body as MessageBody}
use Rattle.rss_wire.specs.declared.message.Body.TheVariants as body
use Rattle.rss_wire.specs.declared.message.Fate.{Fate}
use Rattle.rss_wire.specs.declared.message.Fate.TheVariants as fate
use Rattle.rss_wire.specs.declared.messages.Reply.{Reply}
use Rattle.rss_wire.specs.declared.messages.Request.{Request}
use Rattle.rss_tables.specs.Pipes.{Chunk, EndMark, no_mark, fenced_mark, bare_mark}
use Rattle.rss_tables.specs.declared.endings.StubEnd.TheVariants.{Fenced, Unfenced}
use Rattle.rss_machine.specs.Effect.{begins_call, with_status, after_take, takes_end, takes, waits_over, makes, acts, request_comes, reply_comes, comes, loss_counts, loses, stub_of_stage, effect, stepped}
use Rattle.rss_machine.specs.Enabling.{next_statement}
use Rattle.rss_machine.specs.Moves.{ticks, marks_message, listens, counts_act, opens_call, opens_fence, closes_owner, gives_exit, dies, closed, with_owner}
use Rattle.rss_machine.specs.Refusal.{refusal}
use Rattle.rss_machine.specs.Run.{run}
use Rattle.rss_machine.specs.Session.{Session}
use Rattle.rss_machine.specs.Slots.{slot_in}
use Rattle.rss_machine.specs.Standing.{is_running, stage_state}
use Rattle.rss_machine.specs.State.{State, Stage, stage_at, owner_at, pipe_at, no_stage, stages_from}
use Rattle.rss_machine.specs.declared.ending.StageState.{StageState}
use Rattle.rss_machine.specs.declared.ending.StageState.TheVariants as standing
use Rattle.rss_machine.specs.declared.session.Session.TheVariants as session
use Rattle.rss_machine.specs.declared.state.OwnerFate.{OwnerFate}
use Rattle.rss_machine.specs.declared.state.OwnerFate.TheVariants.{Dropped, CutOff}
use Rattle.rss_machine.specs.declared.step.Step.{Step}
use Rattle.rss_machine.specs.declared.step.StepKind.{StepKind}
use Rattle.rss_machine.specs.declared.step.StepKind.TheVariants.{Act, Go, Lose, Again, Kill, Stub}
use Rattle.world_laws.specs.Calls.{is_call}
use Rattle.world_laws.proofs.Clock.{clock_step}
use Rattle.world_laws.proofs.Looks.{looks}
use Rattle.world_laws.proofs.OwnerFits.{is_own, own_is_call}
use Rattle.world_laws.proofs.Runs.{run_keeps}
use Rattle.world_laws.proofs.ToldLaws.{told_start, told_step, told_ticks}
use Rattle.world_laws.proofs.ToldRuns.{AllTold, Stepping, pipes_step}
use Rattle.token_laws.proofs.Cuts.{cuts_same}
use Rattle.token_laws.proofs.Marks.{closes_owners}
use Rattle.token_laws.proofs.Outcomes.{Outcome, quiet, replied, fenced, stubbed, lost, cut, OfCall, through_outcome, acts_outcome, heard_outcome, loss_outcome, stub_outcome}
use Rattle.turn_facts.proofs.Cursors.{IsNear, near_up, near_next, near_variable, near_local, near_call, CursorsNear, cursors_up, cursors_set}

-- a call whose rounds are under way is one
kind_same : (s : State) (o slot : ℕ) → (owner_at (listens s o slot) o).kind ≡ (owner_at s o).kind
kind_same s o slot = grind (arith, looks)

of_call : (c : Config) (at : Reading) (s : State) (o slot : ℕ) (x : Session) → (owner_at s o).session ≡ x → Stepping s → OfCall c at (listens s o slot) o x
of_call c at s o slot (session.Register f) e h = ap is_call (kind_same s o slot) ∙ own_is_call (owner_at s o).kind (owner_at s o).session (h.told.fits o).session (ap is_own e)
of_call c at s o slot (session.Transaction t) e h = tt
of_call c at s o slot (session.Snapshot t) e h = tt
of_call c at s o slot session.Idle e h = tt
of_call c at s o slot (session.Fixing r) e h = tt
of_call c at s o slot (session.Settling attempt shards) e h = tt

closed_stages : (s : State) (o : Option ℕ) (f : OwnerFate) → (closes_owner s o f).stages ≡ s.stages
closed_stages s None f = refl
closed_stages s (Some o) f = refl

-- a stage that dies stands where it stood
dead_near : (b : ℕ) (s : State) (n : ℕ) (how : How) (f : OwnerFate) → CursorsNear b s.stages → CursorsNear b (dies s n how f).stages
dead_near b s n how f h =
    let t = closes_owner s (stage_at s n).owner f in
    let k : CursorsNear b t.stages = subst (CursorsNear b) (sym (closed_stages s (stage_at s n).owner f)) h in
    cursors_set b t.stages (n - 1) _ (k.each (n - 1)) k

exit_near : (c : Config) (b : ℕ) (s : State) (n : ℕ) (seen : Seen) → CursorsNear b s.stages → CursorsNear b (gives_exit c s n seen).stages
exit_near c b s n seen h = subst (CursorsNear b) (sym (closes_owners c n seen c.pipe_ends s 1).1) h

module _ (c : Config) (at : Reading) (b : ℕ) (scripts : (n : ℕ) → length (script_of c n) ≤ b) where
  later : (stages : List Stage) → CursorsNear b stages → CursorsNear (b + 1) stages
  later stages h = cursors_up b (b + 1) stages (omega arith) h

  -- one stage has another cursor
  moved : (n : ℕ) (x : Stage) → IsNear (b + 1) x.cursor → (stages : List Stage) → CursorsNear b stages → CursorsNear (b + 1) (set stages (n - 1) x)
  moved n x k stages h = cursors_set (b + 1) stages (n - 1) x k (later stages h)

  near_outcome : (s : State) (o : ℕ) (t : State) → Outcome c s o t → CursorsNear b s.stages → CursorsNear (b + 1) t.stages
  near_outcome s o t (quiet d) h = later t.stages (subst (CursorsNear b) (sym d.stages) h)
  near_outcome s o _ (replied v shown seen d e) h =
      let k : CursorsNear b v.stages = subst (CursorsNear b) (sym d.stages) h in
      let n = (owner_at v o).stage in
      moved n _ (near_call b (stage_at v n).cursor (next_statement c v n) (values_of shown) (k.each (n - 1))) v.stages k
  near_outcome s o _ (fenced v seen d e) h =
      let k : CursorsNear b v.stages = subst (CursorsNear b) (sym d.stages) h in
      let n = (owner_at v o).stage in
      moved n _ (near_next b (stage_at v n).cursor (k.each (n - 1))) v.stages k
  near_outcome s o _ (stubbed v d e) h = exit_near c (b + 1) _ (owner_at v o).stage _ (later v.stages (subst (CursorsNear b) (sym d.stages) h))
  near_outcome s o _ (lost v target d e) h = dead_near (b + 1) v (owner_at v o).stage Unavailable (CutOff target) (later v.stages (subst (CursorsNear b) (sym d.stages) h))
  near_outcome s o _ (cut v target d e) h =
      subst (CursorsNear (b + 1)) (sym (cuts_same c (owner_at v o).stage c.pipe_ends (with_owner v o (closed v o (CutOff target))) 1).stages) (later v.stages (subst (CursorsNear b) (sym d.stages) h))

  -- statements
  near_begins : (s : State) (n : ℕ) (x : Option Op) → CursorsNear b s.stages → CursorsNear (b + 1) (begins_call c s n at x).stages
  near_begins s n None h = later s.stages h
  near_begins s n (Some x) h =
      let t = opens_call s n x in
      near_outcome t (length s.owners) _ (through_outcome c at t (length s.owners) (owner_at t (length s.owners)).works.left) (cursors_set b s.stages (n - 1) _ (h.each (n - 1)) h)

  near_status : (at : Cursor) (status : ℕ) → IsNear b at → IsNear (b + 1) (with_status at status)
  near_status at status h = near_next b (with_variable at 0 status) (near_variable b at 0 status h)

  near_take : (at : Cursor) (variable value status : ℕ) → IsNear b at → IsNear (b + 1) (after_take at variable value status)
  near_take at variable value status h = near_status (with_variable at variable value) status (near_variable b at variable value h)

  near_takes_end : (s : State) (n variable p : ℕ) (mark : EndMark) → CursorsNear b s.stages → CursorsNear (b + 1) (takes_end s n variable p mark).stages
  near_takes_end s n variable p no_mark h = later s.stages h
  near_takes_end s n variable p (fenced_mark number seen) h = moved n _ (near_take (stage_at s n).cursor variable 0 1 (h.each (n - 1))) s.stages h
  near_takes_end s n variable p bare_mark h = moved n _ (near_take (stage_at s n).cursor variable 0 2 (h.each (n - 1))) s.stages h

  near_takes : (s : State) (n variable p : ℕ) (chunks : List Chunk) → CursorsNear b s.stages → CursorsNear (b + 1) (takes s n variable p chunks).stages
  near_takes s n variable p [] h = near_takes_end s n variable p (pipe_at s p).mark h
  near_takes s n variable p (chunk ∷ chunks) h = moved n _ (near_take (stage_at s n).cursor variable chunk.value 0 (h.each (n - 1))) s.stages h

  near_waits : (s : State) (n child : ℕ) (x : StageState) → CursorsNear b s.stages → CursorsNear (b + 1) (waits_over s n child x).stages
  near_waits s n child standing.Exited h = moved n _ (near_status (stage_at s n).cursor 0 (h.each (n - 1))) s.stages h
  near_waits s n child (standing.Ended how (Some Fenced)) h = moved n _ (near_status (stage_at s n).cursor 1 (h.each (n - 1))) s.stages h
  near_waits s n child (standing.Ended how (Some (Unfenced target))) h = moved n _ (near_status (stage_at s n).cursor 2 (h.each (n - 1))) s.stages h
  near_waits s n child (standing.Ended how None) h = later s.stages h
  near_waits s n child standing.Unborn h = later s.stages h
  near_waits s n child standing.Live h = later s.stages h

  near_moves : (s : State) (n : ℕ) (x : NumberedStatement) → CursorsNear b s.stages → IsNear (b + 1) (after_local (script_of c n) (stage_at s n).cursor x)
  near_moves s n x h = near_local b (script_of c n) (stage_at s n).cursor x (scripts n) (h.each (n - 1))

  near_makes : (s : State) (n : ℕ) (x : NumberedStatement) → CursorsNear b s.stages → CursorsNear (b + 1) (makes c s n at x).stages
  near_makes s n (statement.Let variable value) h = moved n _ (near_moves s n (statement.Let variable value) h) s.stages h
  near_makes s n (statement.Repeat times) h = moved n _ (near_moves s n (statement.Repeat times) h) s.stages h
  near_makes s n (statement.When test) h = moved n _ (near_moves s n (statement.When test) h) s.stages h
  near_makes s n statement.End h = moved n _ (near_moves s n statement.End h) s.stages h
  near_makes s n (statement.Read variable key) h = near_begins s n (op_of_statement (statement.Read variable key) (stage_at s n).cursor.variables) h
  near_makes s n (statement.Write key value) h = near_begins s n (op_of_statement (statement.Write key value) (stage_at s n).cursor.variables) h
  near_makes s n (statement.Snap pairs) h = near_begins s n (op_of_statement (statement.Snap pairs) (stage_at s n).cursor.variables) h
  near_makes s n (statement.Txn reads guard writes) h = near_begins s n (op_of_statement (statement.Txn reads guard writes) (stage_at s n).cursor.variables) h
  near_makes s n statement.Fence h =
      let t = opens_fence s n in
      near_outcome t (length s.owners) _ (through_outcome c at t (length s.owners) (owner_at t (length s.owners)).works.left) (cursors_set b s.stages (n - 1) _ (h.each (n - 1)) h)
  near_makes s n (statement.Spawn child) h =
      let k = moved n (record (stage_at s n) { cursor = next_cursor (stage_at s n).cursor }) (near_next b (stage_at s n).cursor (h.each (n - 1))) s.stages h in
      cursors_set (b + 1) _ (child - 1) _ (near_up b (b + 1) (stage_at s child).cursor (omega arith) (h.each (child - 1))) k
  near_makes s n (statement.Wait child) h = near_waits s n child (stage_state s child) h
  near_makes s n (statement.Put p value) h = moved n _ (near_next b (stage_at s n).cursor (h.each (n - 1))) s.stages h
  near_makes s n (statement.Take variable p) h = near_takes s n variable p (pipe_at s p).chunks h
  near_makes s n (statement.Close p) h = moved n _ (near_next b (stage_at s n).cursor (h.each (n - 1))) s.stages h
  near_makes s n statement.Exit h = exit_near c (b + 1) _ n _ (moved n _ (near_up b (b + 1) (stage_at s n).cursor (omega arith) (h.each (n - 1))) s.stages h)

  near_acts : (s : State) (n : ℕ) (o : Option ℕ) → CursorsNear b s.stages → CursorsNear (b + 1) (acts c (counts_act s n) n at o).stages
  near_acts s n None h = let u = counts_act s n in near_makes u n (next_statement c u n) (cursors_set b s.stages (n - 1) _ (h.each (n - 1)) h)
  near_acts s n (Some o) h = let u = counts_act s n in near_outcome u o _ (acts_outcome c at u o (owner_at u o).works.wait) (cursors_set b s.stages (n - 1) _ (h.each (n - 1)) h)

  -- messages
  near_request : (s : State) (m o : ℕ) (target : Target) (r : Request) → CursorsNear b s.stages → CursorsNear (b + 1) (request_comes s m o at target r).stages
  near_request s m o (Shard shard) r h = later s.stages h
  near_request s m o (Replica service replica) r h = later s.stages h

  near_reply : (s : State) (o : ℕ) (r : Reply) (slot : Option ℕ) → Stepping s → CursorsNear b s.stages → CursorsNear (b + 1) (reply_comes c s o at r slot).stages
  near_reply s o r None y h = later s.stages h
  near_reply s o r (Some slot) y h = near_outcome s o _ (heard_outcome c at s o slot r (owner_at s o).session (of_call c at s o slot (owner_at s o).session refl y)) h

  near_comes : (s : State) (m : ℕ) (e : Envelope) (x : MessageBody) → Stepping s → CursorsNear b s.stages → CursorsNear (b + 1) (comes c s m at e x).stages
  near_comes s m e (body.Request r) y h = near_request s m e.owner e.target r h
  near_comes s m e (body.Reply r) y h = near_reply s e.owner r (slot_in (owner_at s e.owner).currents e.exchange) y h

  near_loses : (s : State) (e : Envelope) → CursorsNear b s.stages → CursorsNear (b + 1) (loses c s e).stages
  near_loses s e h = by_running (is_running (owner_at s e.owner).fate)
    where
      by_running : (t : Bool) → CursorsNear (b + 1) (if t then loss_counts c s e.owner e else s).stages
      by_running true = near_outcome s e.owner _ (loss_outcome c at s e.owner e) h
      by_running false = later s.stages h

  near_stub : (s : State) (o : Option ℕ) → CursorsNear b s.stages → CursorsNear (b + 1) (stub_of_stage c s o at).stages
  near_stub s None h = later s.stages h
  near_stub s (Some o) h = near_outcome s o _ (stub_outcome c at s o (owner_at s o).started) h

  marked : (s : State) (m : ℕ) (f : Fate) → Stepping s → Stepping (marks_message s m f)
  marked s m f h = pipes_step s (marks_message s m f) refl refl refl refl h

  pub near_effect : (s : State) (x : StepKind) → Stepping s → CursorsNear b s.stages → CursorsNear (b + 1) (effect c s at x).stages
  unfolding effect
  near_effect s (Act n) y h = near_acts s n (stage_at s n).owner h
  near_effect s (Go m) y h = near_comes (marks_message s m fate.Delivered) m (message_at s.net m).envelope (message_at s.net m).body (marked s m fate.Delivered y) h
  near_effect s (Again m) y h = near_comes (marks_message s m fate.Repeated) m (message_at s.net m).envelope (message_at s.net m).body (marked s m fate.Repeated y) h
  near_effect s (Lose m) y h = near_loses (marks_message s m fate.Lost) (message_at s.net m).envelope h
  near_effect s (Kill n) y h = dead_near (b + 1) s n Killed Dropped (later s.stages h)
  near_effect s (Stub n) y h = near_stub s (stage_at s n).stub h

-- before the first step
near_from : (c : Config) (n left b : ℕ) (i : ℕ) → IsNear b (get_or (stages_from c n left) i no_stage).cursor
near_from c n zero b zero = record { position = omega arith; blocks = tt }
near_from c n zero b (suc i) = record { position = omega arith; blocks = tt }
near_from c n (suc left) b zero = record { position = omega arith; blocks = tt }
near_from c n (suc left) b (suc i) = near_from c (n + 1) left b i

-- what is told of calls, and where cursors stand
record Walks (s : State) : Type 0 where
  told : AllTold s
  near : CursorsNear (256 + s.steps) s.stages

walks_step : (c : Config) → ((n : ℕ) → length (script_of c n) ≤ 256) → (s : State) (step : Step) → refusal c s step ≡ None → Walks s → Walks (stepped c s step)
walks_step c scripts s step r h = record {
  told = told_step c s step r h.told;
  near = subst (λ (b : ℕ). CursorsNear b (stepped c s step).stages) (one s.steps (stepped c s step).steps (clock_step c s step r).0) (near_effect c step.at (256 + s.steps) (λ n. let l = scripts n in omega (arith, l)) (ticks s step.at) step.kind (told_ticks s step.at h.told) h.near);
}
  where
    one : (a b : ℕ) → b ≡ a + 1 → 256 + a + 1 ≡ 256 + b
    one a b e = omega (arith, e)

pub near_run : (c : Config) (steps : List Step) (s : State) → ((n : ℕ) → length (script_of c n) ≤ 256) → run c steps ≡ Some s → CursorsNear (256 + s.steps) s.stages
near_run c steps s scripts e = (run_keeps c Walks (walks_step c scripts) (record { told = told_start c; near = record { each = near_from c 1 _ _ } }) steps s e).near
