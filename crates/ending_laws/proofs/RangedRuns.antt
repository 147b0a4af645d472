-- In every run whose steps name stages by their numbers from 1 each owner is of a stage of the file, and so is each message.
use Rattle.std.proofs.Common.{◌≡◌, ◌⊎◌, inl, inr, ℕ, zero, suc, ◌-◌, ◌<◌, ◌≤◌, Bool, true, false, List, [], ◌∷◌, ◌++◌, length, get_or, Option, Some, None, refl, sym, ap, ◌∙◌, subst, arith}
use Rattle.std.proofs.Math.ListN.{length-set}
use Rattle.std.proofs.lemmas.Bool.{true≢false, and_parts, ltb-true}
use Rattle.std.specs.Prelude.{nat_lt, if◌then◌else◌}
use Rattle.truetime.specs.Reading.{Reading}
use Rattle.rss_names.specs.declared.service.Key.{Key}
use Rattle.rss_names.specs.declared.service.Target.{Target}
use Rattle.rss_names.specs.declared.service.Target.TheVariants.{Shard, Replica}
use Rattle.pipeline_lang.specs.declared.config.Config.{Config}
use Rattle.pipeline_lang.specs.declared.script.Statement.{Statement}
use Rattle.pipeline_lang.specs.declared.script.Statement.TheVariants as statement
use Rattle.rss_model.specs.CallStatement.{op_of_statement}
use Rattle.rss_model.specs.declared.history.How.TheVariants.{Killed}
use Rattle.rss_model.specs.declared.op.Op.{Op}
use Rattle.rss_tables.specs.declared.endings.StubEnd.TheVariants.{Fenced, Unfenced}
use Rattle.rss_tables.specs.Pipes.{Chunk, EndMark, no_mark, fenced_mark, bare_mark}
use Rattle.rss_tables.specs.ReplicaRow.{replica_reply}
use Rattle.rss_tables.specs.ShardRow.{shard_reply}
use Rattle.rss_wire.specs.Messages.{message_at, is_sent}
use Rattle.rss_wire.specs.declared.envelope.Envelope.{Envelope}
use Rattle.rss_wire.specs.declared.message.Body.{Body as MessageBody}
use Rattle.rss_wire.specs.declared.message.Body.TheVariants as body
use Rattle.rss_wire.specs.declared.message.Fate.{Fate}
use Rattle.rss_wire.specs.declared.message.Fate.TheVariants as fate
use Rattle.rss_wire.specs.declared.messages.Reply.{Reply}
use Rattle.rss_wire.specs.declared.messages.Request.{Request}
use Rattle.rss_machine.specs.Calls.{goes_on_with_works}
use Rattle.rss_machine.specs.Effect.{begins_call, takes_end, takes, waits_over, makes, acts, request_comes, reply_comes, comes, stub_of_stage, effect, stepped, waking_line}
use Rattle.rss_machine.specs.Enabling.{next_statement, live_enabling, is_enabled_at}
use Rattle.rss_machine.specs.Moves.{ticks, marks_message, opens_call, opens_fence, counts_act}
use Rattle.rss_machine.specs.Refusal.{refusal, kind_refusal, unless_enabled}
use Rattle.rss_machine.specs.Run.{run, run_from}
use Rattle.rss_machine.specs.Slots.{slot_in}
use Rattle.rss_machine.specs.Standing.{is_running, is_live, is_over, stage_state}
use Rattle.rss_machine.specs.State.{State, Stage, Owner, start, stage_at, owner_at, pipe_at, no_stage, shard_at, cells_at}
use Rattle.rss_machine.specs.declared.ending.StageState.{StageState}
use Rattle.rss_machine.specs.declared.ending.StageState.TheVariants as standing
use Rattle.rss_machine.specs.declared.state.OwnerFate.TheVariants.{Dropped}
use Rattle.rss_machine.specs.declared.step.Step.{Step}
use Rattle.rss_machine.specs.declared.step.StepKind.{StepKind}
use Rattle.rss_machine.specs.declared.step.StepKind.TheVariants.{Act, Go, Lose, Again, Kill, Stub}
use Rattle.rss_machine.specs.declared.step.StepRefusal.TheVariants.{StageOver}
use Rattle.rss_machine.specs.declared.turn.Enabling.{Enabling}
use Rattle.rss_machine.specs.declared.turn.Enabling.TheVariants.{Never}
use Rattle.world_laws.specs.Calls.{Onward}
use Rattle.world_laws.specs.Numbered.{is_numbered, are_numbered}
use Rattle.world_laws.proofs.Looks.{looks, some_is_not, get_or_past}
use Rattle.world_laws.proofs.Runs.{run_none, run_rest, run_before, run_ends, passes}
use Rattle.world_laws.proofs.Scripts.{onward_from}
use Rattle.world_laws.proofs.StagesOwned.{running_there}
use Rattle.world_laws.proofs.StoreMoves.{IsSent, by_sent}
use Rattle.world_laws.proofs.ToldLaws.{told_ticks, told_step, told_start}
use Rattle.world_laws.proofs.ToldRuns.{AllTold, Stepping, current_runs, pipes_step}
use Rattle.turn_laws.specs.Turns.{begin_turn, hear_turn, act_turn, lines_in, stub_turn}
use Rattle.turn_laws.proofs.Acts.{acting_is_a_turn, stubs_take_turns}
use Rattle.turn_laws.proofs.Hears.{hearing_is_a_turn}
use Rattle.turn_laws.proofs.Works.{beginning_is_a_turn}
use Rattle.turn_ends.proofs.Least.{begin_same, hear_same, act_same, stub_same}
use Rattle.ending_laws.proofs.Ranged.{IsStage, Ranged, put, begun, marked, answered, closed_pipes, turned, died, lost_one}
use Rattle.ending_laws.proofs.Stages.{stub_runs, step_long}

-- a stage that lives is there
live_there : (s : State) (n : ℕ) → is_live (stage_at s n).life ≡ true → n - 1 < length s.stages
live_there s n e = by_place (get_or_past s.stages (n - 1) no_stage)
  where
    by_place : (n - 1 < length s.stages) ⊎ (get_or s.stages (n - 1) no_stage ≡ no_stage) → n - 1 < length s.stages
    by_place (inl l) = l
    by_place (inr q) = absurd (true≢false (sym e ∙ ap (λ (x : Stage). is_live x.life) q))

live_acts : (over live : Bool) (x : Enabling) (earliest : ℕ) → (if over then Some StageOver else unless_enabled (is_enabled_at (if live then x else Never) earliest)) ≡ None → live ≡ true
live_acts true live x earliest e = absurd (some_is_not _ e)
live_acts false true x earliest e = refl
live_acts false false x earliest e = absurd (some_is_not _ e)

live_dies : (over live : Bool) → (if over then Some StageOver else unless_enabled live) ≡ None → live ≡ true
live_dies true live e = absurd (some_is_not _ e)
live_dies false true e = refl
live_dies false false e = absurd (some_is_not _ e)

-- the owner of number 0 does nothing
abbrev IsIdle : State → Type 0
IsIdle s = is_running (owner_at s 0).fate ≡ false

runs_above : (s : State) (o : ℕ) → IsIdle s → is_running (owner_at s o).fate ≡ true → 1 ≤ o
runs_above s zero f r = absurd (true≢false (sym r ∙ f))
runs_above s (suc o) f r = omega arith

module _ (c : Config) (at : Reading) (many : ℕ) where
  -- a new owner goes through its works
  goes_through_works : (t : State) (o : ℕ) → 1 ≤ o → o < length t.owners → Ranged many t → Ranged many (goes_on_with_works c t o at)
  goes_through_works t o z l h =
      subst (Ranged many) (sym (beginning_is_a_turn c t o at l))
      (turned many c t o (begin_turn c o t.steps at (owner_at t o)) (begin_same c o t.steps at (owner_at t o)).0 z l h)

  longer : (s : State) (w : Owner) → length s.owners < length (s.owners ++ w ∷ [])
  longer s w = grind (arith, looks)

  begins : (s : State) (n : ℕ) (x : Option Op) → IsStage many n → 0 < length s.owners → Ranged many s → Ranged many (begins_call c s n at x)
  begins s n None k z h = h
  begins s n (Some x) k z h = goes_through_works (opens_call s n x) (length s.owners) z (longer s _) (begun many s.owners s.net _ k h)

  takes_end_ranged : (s : State) (n variable p : ℕ) (mark : EndMark) → Ranged many s → Ranged many (takes_end s n variable p mark)
  takes_end_ranged s n variable p no_mark h = h
  takes_end_ranged s n variable p (fenced_mark number seen) h = h
  takes_end_ranged s n variable p bare_mark h = h

  takes_ranged : (s : State) (n variable p : ℕ) (chunks : List Chunk) → Ranged many s → Ranged many (takes s n variable p chunks)
  takes_ranged s n variable p [] h = takes_end_ranged s n variable p (pipe_at s p).mark h
  takes_ranged s n variable p (chunk ∷ chunks) h = h

  waits_ranged : (s : State) (n child : ℕ) (x : StageState) → Ranged many s → Ranged many (waits_over s n child x)
  waits_ranged s n child standing.Exited h = h
  waits_ranged s n child (standing.Ended how (Some Fenced)) h = h
  waits_ranged s n child (standing.Ended how (Some (Unfenced target))) h = h
  waits_ranged s n child (standing.Ended how None) h = h
  waits_ranged s n child standing.Unborn h = h
  waits_ranged s n child standing.Live h = h

  made : (s : State) (n : ℕ) (x : Statement ℕ Key ℕ ℕ) → IsStage many n → 0 < length s.owners → Ranged many s → Ranged many (makes c s n at x)
  made s n (statement.Let variable value) k z h = h
  made s n (statement.Repeat times) k z h = h
  made s n (statement.When test) k z h = h
  made s n statement.End k z h = h
  made s n (statement.Read variable key) k z h = begins s n (op_of_statement (statement.Read variable key) (stage_at s n).cursor.variables) k z h
  made s n (statement.Write key value) k z h = begins s n (op_of_statement (statement.Write key value) (stage_at s n).cursor.variables) k z h
  made s n (statement.Snap pairs) k z h = begins s n (op_of_statement (statement.Snap pairs) (stage_at s n).cursor.variables) k z h
  made s n (statement.Txn reads guard writes) k z h = begins s n (op_of_statement (statement.Txn reads guard writes) (stage_at s n).cursor.variables) k z h
  made s n statement.Fence k z h = goes_through_works (opens_fence s n) (length s.owners) z (longer s _) (begun many s.owners s.net _ k h)
  made s n (statement.Spawn child) k z h = h
  made s n (statement.Wait child) k z h = waits_ranged s n child (stage_state s child) h
  made s n (statement.Put p value) k z h = h
  made s n (statement.Take variable p) k z h = takes_ranged s n variable p (pipe_at s p).chunks h
  made s n (statement.Close p) k z h = h
  made s n statement.Exit k z h = closed_pipes many c c.pipe_ends _ n 1 (stage_at s n).context h

  acted : (s : State) (n : ℕ) (o : Option ℕ) → IsStage many n → 0 < length s.owners → ((i : ℕ) → o ≡ Some i → (1 ≤ i) × (i < length s.owners)) → Ranged many s → Ranged many (acts c s n at o)
  acted s n None k z l h = made s n (next_statement c s n) k z h
  acted s n (Some o) k z l h =
      let i = l o refl in
      let line = waking_line s (lines_in (owner_at s o).session) in
      subst (Ranged many) (sym (acting_is_a_turn c s o at i.1))
      (turned many c s o (act_turn c o s.steps at line (owner_at s o)) (act_same c o s.steps at line (owner_at s o)).0 i.0 i.1 h)

  -- messages
  replied : (s : State) (o exchange : ℕ) (r : Reply) (slot : Option ℕ) → slot_in (owner_at s o).currents exchange ≡ slot → 1 ≤ o → Stepping s → Ranged many s → Ranged many (reply_comes c s o at r slot)
  replied s o exchange r None e z y h = h
  replied s o exchange r (Some slot) e z y h =
      let l = running_there s o (current_runs s o slot exchange e y) in
      subst (Ranged many) (sym (hearing_is_a_turn c s o slot at r l))
      (turned many c s o (hear_turn c o s.steps at slot r (owner_at s o)) (hear_same c o s.steps at slot r (owner_at s o)).0 z l h)

  requested : (s : State) (m o : ℕ) (target : Target) (r : Request) → 1 ≤ m → m < length s.net → Ranged many s → Ranged many (request_comes s m o at target r)
  requested s m o (Shard shard) r z l h = answered many s.owners s.net m (shard_reply (shard_at s shard) at.latest r) z l h
  requested s m o (Replica service replica) r z l h = put many s.owners _ o _ refl (answered many s.owners s.net m (replica_reply (cells_at s service replica) r) z l h)

  came : (s : State) (m : ℕ) (e : Envelope) (b : MessageBody) → 1 ≤ e.owner → 1 ≤ m → m < length s.net → Stepping s → Ranged many s → Ranged many (comes c s m at e b)
  came s m e (body.Request r) i z l y h = requested s m e.owner e.target r z l h
  came s m e (body.Reply r) i z l y h = replied s e.owner e.exchange r (slot_in (owner_at s e.owner).currents e.exchange) refl i y h

  delivered : (s : State) (m : ℕ) (f : Fate) → IsSent s m → Stepping s → Ranged many s → Ranged many (comes c (marks_message s m f) m at (message_at s.net m).envelope (message_at s.net m).body)
  delivered s m f d y h =
      came (marks_message s m f) m (message_at s.net m).envelope (message_at s.net m).body (h.messages m d.numbered d.sent).owner d.numbered (subst (λ (n : ℕ). m < n) (sym (length-set s.net m _)) d.sent)
      (pipes_step s (marks_message s m f) refl refl refl refl y) (marked many s m f d.numbered h)

  -- stubs
  stubbed : (s : State) (o : Option ℕ) → ((i : ℕ) → o ≡ Some i → (1 ≤ i) × (i < length s.owners)) → Ranged many s → Ranged many (stub_of_stage c s o at)
  stubbed s None l h = h
  stubbed s (Some o) l h =
      let i = l o refl in
      subst (Ranged many) (sym (stubs_take_turns c s o at i.1))
      (turned many c s o (stub_turn c o s.steps at (owner_at s o)) (stub_same c o s.steps at (owner_at s o)).0 i.0 i.1 h)

  -- a stage that lives is one of the file
  is_stage : (s : State) (n : ℕ) → nat_lt 0 n ≡ true → length s.stages ≡ many → is_live (stage_at s n).life ≡ true → IsStage many n
  is_stage s n z l e =
      let first : 0 < n = ltb-true 0 n z in
      let there = live_there s n e in
      (omega (arith, first), omega (arith, first, there, l))

  -- every kind of step
  ranged_effect : (s : State) (x : StepKind) → kind_refusal c s at x ≡ None → is_numbered x ≡ true → length s.stages ≡ many → IsIdle s → Stepping s → Ranged many s → Ranged many (effect c s at x)
  unfolding effect
  ranged_effect s (Act n) e z l f y h =
      let live = live_acts (is_over (stage_at s n).life) (is_live (stage_at s n).life) (live_enabling c s n (stage_at s n).owner) at.earliest e in
      acted (counts_act s n) n (stage_at s n).owner (is_stage s n z l live) y.told.some
      (λ o q. let r = (y.told.stages.owner n o q).running in (runs_above s o f r, running_there s o r)) h
  ranged_effect s (Go m) e z l f y h = delivered s m fate.Delivered (by_sent s m (is_sent s.net m) refl _ e) y h
  ranged_effect s (Again m) e z l f y h = delivered s m fate.Repeated (by_sent s m (is_sent s.net m) refl _ e) y h
  ranged_effect s (Lose m) e z l f y h =
      let d = by_sent s m (is_sent s.net m) refl _ e in
      lost_one many c (marks_message s m fate.Lost) (message_at s.net m).envelope (h.messages m d.numbered d.sent).owner (λ o r. running_there s o r) (marked many s m fate.Lost d.numbered h)
  ranged_effect s (Kill n) e z l f y h = died many s n Killed Dropped (is_stage s n z l (live_dies (is_over (stage_at s n).life) (is_live (stage_at s n).life) e)) h
  ranged_effect s (Stub n) e z l f y h =
      stubbed s (stage_at s n).stub (λ o q. let r = stub_runs c at s (stage_at s n).stub o e q in (runs_above s o f r, running_there s o r)) h

-- RUNS

idle_step : (c : Config) (s : State) (step : Step) → refusal c s step ≡ None → AllTold s → IsIdle s → IsIdle (stepped c s step)
idle_step c s step r h f =
    let t = stepped c s step in
    let o : Onward s t = onward_from c (step ∷ []) s t h (run_before c s step [] t r (run_ends c t)) in
    ap is_running ((o.each 0 h.told.some).fate f) ∙ f

-- as many stages as at the beginning, and all of these
pub record KeepsStages (many : ℕ) (s : State) : Type 0 where
  pub long : length s.stages ≡ many
  pub ranged : Ranged many s

stages_from_one : (c : Config) (many : ℕ) (steps : List Step) (u s : State) → run_from c u steps ≡ Some s → are_numbered steps ≡ true → AllTold u → IsIdle u → KeepsStages many u → KeepsStages many s
stages_from_one c many [] u s e z y f h = subst (KeepsStages many) (run_none c u s e) h
stages_from_one c many (step ∷ steps) u s e z y f h =
    let t = run_rest c u step steps s e in
    let b = and_parts _ _ z in
    stages_from_one c many steps (stepped c u step) s t.1 b.1 (told_step c u step t.0 y) (idle_step c u step t.0 y f)
    (record {
      long = step_long c u step t.0 y ∙ h.long;
      ranged = ranged_effect c step.at many (ticks u step.at) step.kind (passes c u step t.0).kind b.0 h.long f (told_ticks u step.at y) h.ranged;
    })

pub stages_run : (c : Config) (steps : List Step) (s : State) → are_numbered steps ≡ true → run c steps ≡ Some s → KeepsStages (length (start c).stages) s
unfolding run
stages_run c steps s z e =
    stages_from_one c (length (start c).stages) steps (start c) s e z (told_start c) refl
    (record {
      long = refl;
      ranged = record { owners = λ o a b. absurd (omega (arith, a, b)); some = omega arith; first = refl; messages = λ m a b. absurd (omega (arith, a, b)) };
    })
