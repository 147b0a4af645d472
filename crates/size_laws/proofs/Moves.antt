-- All that a step does keeps contexts, works, sessions, messages and shards fine under a bound that readings do not pass.
use Rattle.std.proofs.Common.{◌≡◌, ◌⊎◌, inl, inr, ℕ, ◌-◌, ◌≤◌, Bool, true, false, List, [], ◌∷◌, ◌++◌, length, get_or, Option, Some, None, All, refl, sym, subst, arith}
use Rattle.std.specs.Prelude.{⊤, ◌==◌, if◌then◌else◌}
use Rattle.std.proofs.Math.ListN.{set}
use Rattle.std.proofs.lemmas.Bool.{cond_both}
use Rattle.std.proofs.lemmas.List.Elements.{All-nil, All-head, All-tail, All-drop, All-push, All-cons}
use Rattle.truetime.specs.Reading.{Reading}
use Rattle.rss_names.specs.declared.attempt.Attempt.{Attempt}
use Rattle.rss_names.specs.declared.service.Key.{Key}
use Rattle.rss_names.specs.declared.service.Target.TheVariants.{Replica}
use Rattle.causal_context.specs.declared.dep.Dep.{Dep}
use Rattle.causal_context.specs.Services.{IsService}
use Rattle.causal_context.specs.Seen.{Seen, after_txn, after_read, after_write, fenced_outside}
use Rattle.pipeline_lang.specs.declared.config.Config.{Config}
use Rattle.rss_model.specs.Cursor.{Cursor}
use Rattle.rss_model.specs.declared.history.Token.{Token}
use Rattle.rss_model.specs.declared.history.How.{How}
use Rattle.rss_model.specs.declared.op.Shown.{Shown}
use Rattle.rss_wire.specs.Messages.{no_message, message_at}
use Rattle.rss_wire.specs.declared.message.Fate.{Fate}
use Rattle.rss_wire.specs.declared.message.Message.{Message}
use Rattle.rss_wire.specs.declared.messages.Outcome.{Outcome}
use Rattle.rss_wire.specs.declared.messages.Reply.{Reply}
use Rattle.rss_wire.specs.declared.messages.Reply.TheVariants as reply
use Rattle.rss_tables.specs.Lines.{Line, tells_decision, line_at}
use Rattle.rss_tables.specs.Outs.{Out, slot_replica, slot_shard}
use Rattle.rss_tables.specs.Pipes.{Pipe, opening_pipe, pipe_put, pipe_taken}
use Rattle.rss_tables.specs.RegisterSession.{session_after}
use Rattle.rss_tables.specs.SnapshotSession.{SnapSession, snap_end, snap_hears, snap_wakes}
use Rattle.rss_tables.specs.TransactionSession.{TxnSession, txn_end, txn_hears, txn_wakes, txn_passes, shown_reply}
use Rattle.rss_tables.specs.Turns.{Turn}
use Rattle.rss_tables.specs.declared.register_session.RegWork.{RegWork}
use Rattle.rss_tables.specs.declared.register_session.RegWork.TheVariants as work
use Rattle.rss_tables.specs.declared.phases.SnapPhase.{SnapPhase}
use Rattle.rss_tables.specs.declared.phases.SnapPhase.TheVariants as snap
use Rattle.rss_tables.specs.declared.phases.TxnPhase.{TxnPhase}
use Rattle.rss_tables.specs.declared.phases.TxnPhase.TheVariants as phase
use Rattle.rss_machine.specs.Calls.{replies, fenced_context, ends_at, forgets_if, txn_turns, snap_turns}
use Rattle.rss_machine.specs.Effect.{waking_line}
use Rattle.rss_machine.specs.Enabling.{can_wake}
use Rattle.rss_machine.specs.Moves.{sends_one, sends, plans_stub, listens, turns_session, goes_on, closed, closes_owner, dies, ends_call, ends_fence}
use Rattle.rss_machine.specs.Session.{Session, service_of}
use Rattle.rss_machine.specs.Standing.{exit_context, exit_context_of}
use Rattle.rss_machine.specs.State.{State, Stage, Owner, no_stage, no_owner, owner_at, stage_at, pipe_at}
use Rattle.rss_machine.specs.declared.session.OwnerKind.{OwnerKind}
use Rattle.rss_machine.specs.declared.session.OwnerKind.TheVariants as kind
use Rattle.rss_machine.specs.declared.session.Session.TheVariants as session
use Rattle.rss_machine.specs.declared.state.OwnerFate.{OwnerFate}
use Rattle.world_laws.specs.Shapes.{IsSoundFile}
use Rattle.world_laws.specs.Times.{OutcomeUpTo, ReplyTimesUpTo, BodyTimesUpTo, LineUpTo, TxnPhaseUpTo, TxnUpTo, SnapPhaseUpTo, SnapUpTo}
use Rattle.world_laws.proofs.Doings.{Changed, Heard, Beginning, calls, fences, Leaving, waits, fixes_work, fixes_own, asks_register, stamps_register, begins_snapshot, begins_txn, fence_done, stub_done, Doing, listens_one, fix_hears, fix_reached, register_hears, register_stores, register_reached, read_ends, write_ends, txn_ends, snap_ends, counts_one, cuts_one, is_closed, forgets_all, turns, stub_asks}
use Rattle.world_laws.proofs.Looks.{looks, get_or_past, some_is, none_is_not}
use Rattle.world_laws.proofs.Sent.{sends_each}
use Rattle.world_laws.proofs.SessionMoves.{session_at}
use Rattle.world_laws.proofs.StageMoves.{Quiet, StageMove, counts, goes_to, spawns_one, gets, takes_one, puts_one, closes_one, cuts_off_one, is_over, exit_given, Giving, own, by_stub, Lying, exited, stubbed, marked, BeginNotes, LeavingNotes, DoingNotes, AnyFate, AnyState, ended_to}
use Rattle.world_laws.proofs.TurnMoves.{StepMoves, IsNoTurn, ShardTurn, txn_answered, snap_answered, txn_wakes_one, snap_wakes_one, txn_passes_time}
use Rattle.size_laws.specs.Fine.{Fine, WorkServed, SessionFine, KindFine, OwnerFine, ChunkFine, MarkFine, PipeFine, NetFine, OwnersFine, StagesFine, PipesFine, ShardsFine, AllFine}
use Rattle.size_laws.proofs.Contexts.{joined_fine, txn_fine, read_fine, write_fine, outside_fine}
use Rattle.size_laws.proofs.Owners.{round_up, after_served, without_fine, owner_kept, owner_turned, bare_fine, planned_all, beginning_fine, resting_fine, working_fine, Left, leaving_fine}
use Rattle.size_laws.proofs.Turns.{OutUpTo, tells_up, line_up, TxnTurn, txn_hears_up, txn_wakes_up, txn_passes_up, SnapTurn, snap_hears_up, snap_wakes_up}

-- LISTS

-- what is true of each element stays true of each where one is put in its place, or behind all
pub set_each : {X : Type 0} (Q : X → Type 0) (d : X) (xs : List X) (k : ℕ) (x : X) → Q x → ((i : ℕ) → Q (get_or xs i d)) → (i : ℕ) → Q (get_or (set xs k x) i d)
set_each Q d xs k x q h i = by_place (at xs k x i d)
  where
    at : {X : Type 0} (xs : List X) (k : ℕ) (x : X) (i : ℕ) (d : X) → (get_or (set xs k x) i d ≡ x) ⊎ (get_or (set xs k x) i d ≡ get_or xs i d)
    at xs k x i d = grind (arith, looks)

    by_place : (get_or (set xs k x) i d ≡ x) ⊎ (get_or (set xs k x) i d ≡ get_or xs i d) → Q (get_or (set xs k x) i d)
    by_place (inl e) = subst Q (sym e) q
    by_place (inr e) = subst Q (sym e) (h i)

pub push_each : {X : Type 0} (Q : X → Type 0) (d : X) (xs : List X) (x : X) → Q x → ((i : ℕ) → Q (get_or xs i d)) → (i : ℕ) → Q (get_or (xs ++ x ∷ []) i d)
push_each Q d xs x q h i = by_place (at xs x i d)
  where
    at : {X : Type 0} (xs : List X) (x : X) (i : ℕ) (d : X) → (get_or (xs ++ x ∷ []) i d ≡ x) ⊎ (get_or (xs ++ x ∷ []) i d ≡ get_or xs i d)
    at xs x i d = let p = get_or_past xs i d in grind (arith, looks, p)

    by_place : (get_or (xs ++ x ∷ []) i d ≡ x) ⊎ (get_or (xs ++ x ∷ []) i d ≡ get_or xs i d) → Q (get_or (xs ++ x ∷ []) i d)
    by_place (inl e) = subst Q (sym e) q
    by_place (inr e) = subst Q (sym e) (h i)

-- the net, owners, stages and pipes, one of them changed
abbrev pub Says : ℕ → Message → Type 0
Says b x = BodyTimesUpTo b x.body

pub more_told : (b : ℕ) (net : List Message) (x : Message) → Says b x → NetFine b net → NetFine b (net ++ x ∷ [])
more_told b net x k h = push_each (Says b) no_message net x k h

pub fated : (b : ℕ) (net : List Message) (n : ℕ) (f : Fate) → NetFine b net → NetFine b (set net n (record (message_at net n) { fate = f }))
fated b net n f h = set_each (Says b) no_message net n (record (message_at net n) { fate = f }) (h n) h

pub set_owner : (b : ℕ) (owners : List Owner) (o : ℕ) (w : Owner) → OwnerFine b w → OwnersFine b owners → OwnersFine b (set owners o w)
set_owner b owners o w q h = set_each (OwnerFine b) no_owner owners o w q h

push_owner : (b : ℕ) (owners : List Owner) (w : Owner) → OwnerFine b w → OwnersFine b owners → OwnersFine b (owners ++ w ∷ [])
push_owner b owners w q h = push_each (OwnerFine b) no_owner owners w q h

set_stage : (b : ℕ) (stages : List Stage) (i : ℕ) (w : Stage) → Fine b w.context → StagesFine b stages → StagesFine b (set stages i w)
set_stage b stages i w q h = set_each (λ (x : Stage). Fine b x.context) no_stage stages i w q h

set_pipe : (b : ℕ) (pipes : List Pipe) (i : ℕ) (w : Pipe) → PipeFine b w → PipesFine b pipes → PipesFine b (set pipes i w)
set_pipe b pipes i w q h = set_each (PipeFine b) opening_pipe pipes i w q h

-- STAGES AND PIPES

exit_fine : (b : ℕ) (s : State) (n : ℕ) → AllFine b s → Fine b (exit_context s n)
exit_fine b s n h = by_kept (stage_at s n).stub
  where
    by_kept : (stub : Option ℕ) → Fine b (exit_context_of s (stage_at s n) stub)
    by_kept None = h.stages (n - 1)
    by_kept (Some o) = (h.owners o).copy

giving_fine : (b : ℕ) (s : State) (n : ℕ) (seen : Seen) → Giving s n seen → AllFine b s → Fine b seen
giving_fine b s n seen (own e) h = subst (Fine b) (sym e) (h.stages (n - 1))
giving_fine b s n seen (by_stub o k l e) h = subst (Fine b) (sym e) (h.owners o).copy

lying_fine : (b : ℕ) (c : Config) (s : State) (n : ℕ) (t : Token) (seen : Seen) → Lying c s n t seen → AllFine b s → Fine b seen
lying_fine b c s n _ _ (exited child e f) h = exit_fine b s child h
lying_fine b c s n _ _ (stubbed child how e f) h = exit_fine b s child h
lying_fine b c s n _ _ (marked variable p number seen e f) h = subst (MarkFine b) f (h.pipes (p - 1)).mark

put_fine : (b : ℕ) (pipe : Pipe) (value : ℕ) (seen : Seen) (dropped : Bool) → Fine b seen → PipeFine b pipe → PipeFine b (pipe_put pipe value seen dropped)
put_fine b pipe value seen true q h = record { chunks = h.chunks; mark = h.mark }
put_fine b pipe value seen false q h = record { chunks = All-push (ChunkFine b) pipe.chunks (record { number = pipe.next; value = value; context = seen }) h.chunks q; mark = h.mark }

pub stage_moves : (b : ℕ) (c : Config) (s t : State) → StageMove c s t → AllFine b s → AllFine b t
stage_moves b c s _ (counts n) h = record { told = h.told; owners = h.owners; stages = set_stage b s.stages (n - 1) _ (h.stages (n - 1)) h.stages; pipes = h.pipes; shards = h.shards }
stage_moves b c s _ (goes_to n cursor) h = record { told = h.told; owners = h.owners; stages = set_stage b s.stages (n - 1) _ (h.stages (n - 1)) h.stages; pipes = h.pipes; shards = h.shards }
stage_moves b c s _ (spawns_one n child cursor m e) h = record { told = h.told; owners = h.owners; stages = set_stage b (set s.stages (n - 1) _) (child - 1) _ (h.stages (n - 1)) (set_stage b s.stages (n - 1) _ (h.stages (n - 1)) h.stages); pipes = h.pipes; shards = h.shards }
stage_moves b c s _ (gets n t seen cursor m l) h = record { told = h.told; owners = h.owners; stages = set_stage b s.stages (n - 1) _ (joined_fine b (stage_at s n).context seen (h.stages (n - 1)) (lying_fine b c s n t seen l h)) h.stages; pipes = h.pipes; shards = h.shards }
stage_moves b c s _ (takes_one n variable p chunk chunks cursor m e f) h =
    let q = (h.pipes (p - 1)).chunks in
    let a : Fine b chunk.context = All-head (ChunkFine b) chunk chunks (subst (All (ChunkFine b)) f q) in
    record {
      told = h.told;
      owners = h.owners;
      stages = set_stage b s.stages (n - 1) _ (joined_fine b (stage_at s n).context chunk.context (h.stages (n - 1)) a) h.stages;
      pipes = set_pipe b s.pipes (p - 1) (pipe_taken (pipe_at s p)) (record { chunks = All-drop (ChunkFine b) 1 (pipe_at s p).chunks q; mark = (h.pipes (p - 1)).mark }) h.pipes;
      shards = h.shards;
    }
stage_moves b c s _ (puts_one n p value dropped cursor m) h = record {
  told = h.told;
  owners = h.owners;
  stages = set_stage b s.stages (n - 1) _ (h.stages (n - 1)) h.stages;
  pipes = set_pipe b s.pipes (p - 1) _ (put_fine b (pipe_at s p) value (stage_at s n).context dropped (h.stages (n - 1)) (h.pipes (p - 1))) h.pipes;
  shards = h.shards;
}
stage_moves b c s _ (closes_one n p seen g) h = record { told = h.told; owners = h.owners; stages = h.stages; pipes = set_pipe b s.pipes (p - 1) _ (record { chunks = (h.pipes (p - 1)).chunks; mark = giving_fine b s n seen g h }) h.pipes; shards = h.shards }
stage_moves b c s _ (cuts_off_one p) h = record { told = h.told; owners = h.owners; stages = h.stages; pipes = set_pipe b s.pipes (p - 1) _ (record { chunks = (h.pipes (p - 1)).chunks; mark = tt }) h.pipes; shards = h.shards }
stage_moves b c s _ (is_over n m) h = record { told = h.told; owners = h.owners; stages = set_stage b s.stages (n - 1) _ (h.stages (n - 1)) h.stages; pipes = h.pipes; shards = h.shards }
stage_moves b c s _ (exit_given n seen g) h = record { told = h.told; owners = h.owners; stages = h.stages; pipes = h.pipes; shards = h.shards }

-- DEATHS

closes_fine : (b : ℕ) (s : State) (o : Option ℕ) (f : OwnerFate) → AllFine b s → AllFine b (closes_owner s o f)
closes_fine b s None f h = h
closes_fine b s (Some o) f h = record { told = h.told; owners = set_owner b s.owners o (closed s o f) (owner_kept b (owner_at s o) _ refl refl refl (h.owners o)) h.owners; stages = h.stages; pipes = h.pipes; shards = h.shards }

pub dies_fine : (b : ℕ) (s : State) (n : ℕ) (how : How) (f : OwnerFate) → AllFine b s → AllFine b (dies s n how f)
dies_fine b s n how f h =
    let t = closes_owner s (stage_at s n).owner f in
    let k : AllFine b t = closes_fine b s (stage_at s n).owner f h in
    record {
      told = k.told;
      owners = push_owner b t.owners _ (bare_fine b n s.steps (kind.Stubbing _) (stage_at s n).context tt (h.stages (n - 1))) k.owners;
      stages = set_stage b t.stages (n - 1) _ (k.stages (n - 1)) k.stages;
      pipes = k.pipes;
      shards = k.shards;
    }

-- WHAT OWNERS SEND

send_one : (b o : ℕ) (s : State) (out : Out) → OutUpTo b out → AllFine b s → AllFine b (sends_one s o out)
send_one b o s out q h = record { told = more_told b s.net _ q h.told; owners = set_owner b s.owners o _ (owner_kept b (owner_at s o) _ refl refl refl (h.owners o)) h.owners; stages = h.stages; pipes = h.pipes; shards = h.shards }

send_all : (b o : ℕ) (outs : List Out) (s : State) → All (OutUpTo b) outs → AllFine b s → AllFine b (sends s o outs)
send_all b o outs s a h = sends_each (AllFine b) (OutUpTo b) o (λ t out q p. send_one b o t out q p) outs s a h

-- owners change, and stages, pipes and the history stay
quiet_fine : (b : ℕ) (new : List Dep) (s t : State) (owners : List Owner) → Quiet s t → Changed new owners s t → OwnersFine b owners → AllFine b s → AllFine b t
quiet_fine b new s t owners q d w h = record {
  told = subst (NetFine b) (sym d.stores.net) h.told;
  owners = subst (OwnersFine b) (sym d.owned) w;
  stages = subst (StagesFine b) (sym q.stages) h.stages;
  pipes = subst (PipesFine b) (sym q.pipes) h.pipes;
  shards = subst (ShardsFine b) (sym d.stores.shards) h.shards;
}

quiet_one : (b : ℕ) (new : List Dep) (s t : State) (o : ℕ) (w : Owner) → Quiet s t → Changed new (set s.owners o w) s t → OwnerFine b w → AllFine b s → AllFine b t
quiet_one b new s t o w q d k h = quiet_fine b new s t (set s.owners o w) q d (set_owner b s.owners o w k h.owners) h

-- CALLS AND FENCE STATEMENTS

ends_call_fine : (b : ℕ) (s : State) (o : ℕ) (shown : List Shown) (cursor : Cursor) (seen : Seen) → Fine b seen → AllFine b s → AllFine b (ends_call s o shown cursor seen)
ends_call_fine b s o shown cursor seen q h = record { told = h.told; owners = set_owner b s.owners o _ (owner_kept b (owner_at s o) _ refl refl refl (h.owners o)) h.owners; stages = set_stage b s.stages ((owner_at s o).stage - 1) _ q h.stages; pipes = h.pipes; shards = h.shards }

pub replies_fine : (b : ℕ) (c : Config) (s : State) (o : ℕ) (shown : List Shown) (seen : Seen) → Fine b seen → AllFine b s → AllFine b (replies c s o shown seen)
replies_fine b c s o shown seen q h = ends_call_fine b s o shown _ seen q h

fenced_fine : (b : ℕ) (before copy : Seen) → Fine b before → Fine b copy → Fine b (fenced_context before copy)
fenced_fine b before copy h k =
    let inner = if before.last.outside then fenced_outside copy else before in
    cond_both (length before.last.services == 0) inner (fenced_outside copy) (Fine b)
    (λ e. cond_both before.last.outside (fenced_outside copy) before (Fine b) (λ f. outside_fine b copy k) (λ f. h)) (λ e. outside_fine b copy k)

ends_fence_fine : (b : ℕ) (s : State) (o : ℕ) (cursor : Cursor) (seen : Seen) → Fine b seen → AllFine b s → AllFine b (ends_fence s o cursor seen)
ends_fence_fine b s o cursor seen q h = record { told = h.told; owners = set_owner b s.owners o _ (owner_kept b (owner_at s o) _ refl refl refl (h.owners o)) h.owners; stages = set_stage b s.stages ((owner_at s o).stage - 1) _ q h.stages; pipes = h.pipes; shards = h.shards }

begins_fine : (b : ℕ) (c : Config) (s t : State) (w : Owner) → IsSoundFile c → (x : Beginning c s w) → BeginNotes c s w x t → AllFine b s → AllFine b t
begins_fine b c s t w f (calls n x e) y h = subst (AllFine b) (sym y.1) (record { told = h.told; owners = push_owner b s.owners _ (beginning_fine b c s _ f (calls n x e) h) h.owners; stages = set_stage b s.stages (n - 1) _ (h.stages (n - 1)) h.stages; pipes = h.pipes; shards = h.shards })
begins_fine b c s t w f (fences n) y h = subst (AllFine b) (sym y.1) (record { told = h.told; owners = push_owner b s.owners _ (beginning_fine b c s _ f (fences n) h) h.owners; stages = set_stage b s.stages (n - 1) _ (h.stages (n - 1)) h.stages; pipes = h.pipes; shards = h.shards })

leaves_fine : (b : ℕ) (c : Config) (at : Reading) (s t : State) (o : ℕ) (w : Owner) (outs : List Out) → (x : Leaving c at s o w outs) → LeavingNotes c at s o w outs x t → Changed [] (set s.owners o w) s t → Left b w outs → AllFine b s → AllFine b t
leaves_fine b c at s t o w outs (waits id time rest l) q d k h = quiet_one b [] s t o w q d k.owner h
leaves_fine b c at s t o w outs (fixes_work id rest l) q d k h = quiet_one b [] s t o w q d k.owner h
leaves_fine b c at s t o w outs (fixes_own x dep deps l e f) q d k h = quiet_one b [] s t o w q d k.owner h
leaves_fine b c at s t o w outs (asks_register key l e f) q d k h = quiet_one b [] s t o w q d k.owner h
leaves_fine b c at s t o w outs (stamps_register key value l e f) q d k h = quiet_one b [] s t o w q d k.owner h
leaves_fine b c at s t o w outs (begins_snapshot keys x l e f) q d k h = quiet_one b [] s t o w q d k.owner h
leaves_fine b c at s t o w outs (begins_txn reads guard writes x l e f) q d k h = quiet_one b [] s t o w q d k.owner h
leaves_fine b c at s t o w outs (fence_done l e) q d k h = subst (AllFine b) (sym q) (ends_fence_fine b s o _ _ (fenced_fine b (stage_at s (owner_at s o).stage).context (owner_at s o).works.copy (h.stages ((owner_at s o).stage - 1)) (h.owners o).copy) h)
leaves_fine b c at s t o w outs (stub_done u l e) q d k h = quiet_one b [] s t o w q d k.owner h

-- what an owner has under way
under : (b : ℕ) (s : State) (o : ℕ) (x : Session) → session_at s o ≡ x → AllFine b s → SessionFine b x
under b s o x e h = subst (SessionFine b) e (h.owners o).session

heard_up : (b : ℕ) (s : State) (o slot : ℕ) (r : Reply) → Heard s o slot r → AllFine b s → ReplyTimesUpTo b r
heard_up b s o slot r d h = subst (BodyTimesUpTo b) d.says (h.told d.number)

does_fine : (b : ℕ) (c : Config) (s t : State) (o : ℕ) (w : Owner) (outs : List Out) (new : List Dep) → (x : Doing s o w outs new) → IsNoTurn s o w outs new x → DoingNotes c s o w outs new x t → Changed new (set s.owners o w) s t → AllFine b s → AllFine b (sends t o outs)
does_fine b c s t o w _ _ (listens_one slot r k) n q d h = quiet_one b [] s t o w q d (owner_kept b (owner_at s o) w refl refl refl (h.owners o)) h
does_fine b c s t o w _ _ (fix_hears f slot r x k e) n q d h = quiet_one b [] s t o w q d (owner_turned b (owner_at s o) w refl refl tt (h.owners o)) h
does_fine b c s t o w _ _ (fix_reached f slot r y x k e) n q d h = quiet_one b [] s t o w q d (owner_turned b (owner_at s o) w refl refl tt (h.owners o)) h
does_fine b c s t o w _ _ (register_hears f slot r x k a e) n q d h = quiet_one b [] s t o w q d (owner_turned b (owner_at s o) w refl refl (after_served f (slot_replica slot) r (under b s o (session.Register f) x h)) (h.owners o)) h
does_fine b c s t o w outs _ (register_stores f slot r x k a e) n q d h = send_all b o outs t (round_up b (session_after f (slot_replica slot) r)) (quiet_one b [] s t o w q d (owner_turned b (owner_at s o) w refl refl (after_served f (slot_replica slot) r (under b s o (session.Register f) x h)) (h.owners o)) h)
does_fine b c s t o w _ _ (register_reached f slot r y x k e) n q d h = absurd q
does_fine b c s t o w _ _ (read_ends f key cell dep x a e) n q d h = absurd q
does_fine b c s t o w _ _ (write_ends f key value e x a k) n q d h = absurd q
does_fine b c s t o w _ _ (txn_ends x y time a e k) n q d h = absurd n
does_fine b c s t o w _ _ (snap_ends x y time a e k) n q d h = absurd n
does_fine b c s t o w _ _ (counts_one target) n q d h = quiet_one b [] s t o w q d (owner_kept b (owner_at s o) w refl refl refl (h.owners o)) h
does_fine b c s t o w _ _ (cuts_one id replica) n q d h = quiet_one b [] s t o w q d (owner_turned b (owner_at s o) w refl refl (without_fine b (owner_at s o).session (Replica id replica) (h.owners o).session) (h.owners o)) h
does_fine b c s t o w _ _ (is_closed f) n q d h = quiet_one b [] s t o w q.1 d (owner_kept b (owner_at s o) w refl refl refl (h.owners o)) h
does_fine b c s t o w _ _ forgets_all n q d h = absurd n
does_fine b c s t o w _ _ (turns x outs y) n q d h = absurd n
does_fine b c s t o w outs _ (stub_asks attempt shards e k) n q d h = send_all b o outs t (All-cons (OutUpTo b) _ [] (omega arith) (All-nil (OutUpTo b))) (quiet_one b [] s t o w q d (owner_turned b (owner_at s o) w refl refl tt (h.owners o)) h)

-- TURNS OF TRANSACTIONS AND SNAPSHOTS

txn_end_up : (b : ℕ) (x : TxnPhase) (time : ℕ) → TxnPhaseUpTo b x → txn_end x ≡ Some time → time ≤ b
txn_end_up b (phase.Committed n) time h e = subst (λ (m : ℕ). m ≤ b) (some_is n time e) h
txn_end_up b (phase.Failed n) time h e = subst (λ (m : ℕ). m ≤ b) (some_is n time e) h
txn_end_up b phase.Locking time h e = absurd (none_is_not time e)
txn_end_up b phase.Preparing time h e = absurd (none_is_not time e)
txn_end_up b (phase.Freeing n) time h e = absurd (none_is_not time e)
txn_end_up b (phase.FreeingLast n) time h e = absurd (none_is_not time e)
txn_end_up b (phase.Deciding n) time h e = absurd (none_is_not time e)
txn_end_up b (phase.Waiting n) time h e = absurd (none_is_not time e)
txn_end_up b phase.Undoing time h e = absurd (none_is_not time e)

snap_end_up : (b : ℕ) (x : SnapPhase) (time : ℕ) → SnapPhaseUpTo b x → snap_end x ≡ Some time → time ≤ b
snap_end_up b (snap.Done n) time h e = subst (λ (m : ℕ). m ≤ b) (some_is n time e) h
snap_end_up b (snap.First n) time h e = absurd (none_is_not time e)
snap_end_up b (snap.Second n) time h e = absurd (none_is_not time e)

ends_at_fine : (b : ℕ) (c : Config) (s : State) (o : ℕ) (k : OwnerKind) (shown : List Shown) (time : Option ℕ) → KindFine k → ((n : ℕ) → time ≡ Some n → n ≤ b) → AllFine b s → AllFine b (ends_at c s o k shown time)
ends_at_fine b c s o (kind.Calling x) shown (Some time) i l h = replies_fine b c s o shown (after_txn (owner_at s o).works.copy (service_of x) time) (txn_fine b (owner_at s o).works.copy (service_of x) time i (l time refl) (h.owners o).copy) h
ends_at_fine b c s o (kind.Calling x) shown None i l h = h
ends_at_fine b c s o kind.Fencing shown time i l h = h
ends_at_fine b c s o (kind.Stubbing u) shown time i l h = h

forgets_fine : (b : ℕ) (x : Bool) (s : State) (o : ℕ) → AllFine b s → AllFine b (forgets_if x s o)
forgets_fine b true s o h = record { told = h.told; owners = set_owner b s.owners o _ (owner_kept b (owner_at s o) _ refl refl refl (h.owners o)) h.owners; stages = h.stages; pipes = h.pipes; shards = h.shards }
forgets_fine b false s o h = h

goes_on_fine : (b : ℕ) (s : State) (o : ℕ) (x : Session) (outs : List Out) → SessionFine b x → All (OutUpTo b) outs → AllFine b s → AllFine b (goes_on s o x outs)
goes_on_fine b s o x outs q a h = send_all b o outs (turns_session s o x) a (record { told = h.told; owners = set_owner b s.owners o _ (owner_turned b (owner_at s o) _ refl refl q (h.owners o)) h.owners; stages = h.stages; pipes = h.pipes; shards = h.shards })

txn_turns_fine : (b : ℕ) (c : Config) (s : State) (o : ℕ) (turn : Turn TxnSession) → TxnTurn b turn → AllFine b s → AllFine b (txn_turns c s o turn)
txn_turns_fine b c s o turn k h =
    ends_at_fine b c (goes_on (forgets_if turn.anew s o) o (session.Transaction turn.after) turn.outs) o (owner_at s o).kind (shown_reply turn.after.reads turn.after.lines) (txn_end turn.after.phase) (h.owners o).kind
    (λ n e. txn_end_up b turn.after.phase n k.after.of_phase e) (goes_on_fine b (forgets_if turn.anew s o) o (session.Transaction turn.after) turn.outs k.after k.outs (forgets_fine b turn.anew s o h))

snap_turns_fine : (b : ℕ) (c : Config) (s : State) (o : ℕ) (turn : Turn SnapSession) → SnapTurn b turn → AllFine b s → AllFine b (snap_turns c s o turn)
snap_turns_fine b c s o turn k h =
    ends_at_fine b c (goes_on (forgets_if turn.anew s o) o (session.Snapshot turn.after) turn.outs) o (owner_at s o).kind (shown_reply turn.after.keys turn.after.lines) (snap_end turn.after.phase) (h.owners o).kind
    (λ n e. snap_end_up b turn.after.phase n k.after.of_phase e) (goes_on_fine b (forgets_if turn.anew s o) o (session.Snapshot turn.after) turn.outs k.after k.outs (forgets_fine b turn.anew s o h))

listens_fine : (b : ℕ) (s : State) (o slot : ℕ) → AllFine b s → AllFine b (listens s o slot)
listens_fine b s o slot h = record { told = h.told; owners = set_owner b s.owners o _ (owner_kept b (owner_at s o) _ refl refl refl (h.owners o)) h.owners; stages = h.stages; pipes = h.pipes; shards = h.shards }

waking_up : (b : ℕ) (s : State) (lines : List Line) (l : Line) → All (LineUpTo b) lines → waking_line s lines ≡ Some l → LineUpTo b l
waking_up b s [] l h e = absurd (none_is_not l e)
waking_up b s (x ∷ lines) l h e = by_test (waking_up b s lines l (All-tail (LineUpTo b) x lines h)) (can_wake s x) e
  where
    by_test : (waking_line s lines ≡ Some l → LineUpTo b l) → (t : Bool) → (if t then Some x else waking_line s lines) ≡ Some l → LineUpTo b l
    by_test r true p = subst (LineUpTo b) (some_is x l p) (All-head (LineUpTo b) x lines h)
    by_test r false p = r p

turns_fine : (b : ℕ) (c : Config) (at : Reading) (s t : State) (o : ℕ) → at.latest ≤ b → ShardTurn c at s o t → AllFine b s → AllFine b t
turns_fine b c at s _ o l (txn_answered t slot r e d) h =
    let k : TxnUpTo b t = under b s o (session.Transaction t) e h in
    txn_turns_fine b c (listens s o slot) o (txn_hears t (line_at t.lines (slot_shard slot)) at r) (txn_hears_up b t (line_at t.lines (slot_shard slot)) at r l (line_up b t.lines (slot_shard slot) k.lines) (heard_up b s o slot r d h) k) (listens_fine b s o slot h)
turns_fine b c at s _ o l (snap_answered t slot r e d) h =
    let k : SnapUpTo b t = under b s o (session.Snapshot t) e h in
    snap_turns_fine b c (listens s o slot) o (snap_hears t (line_at t.lines (slot_shard slot)) r) (snap_hears_up b t (line_at t.lines (slot_shard slot)) r (line_up b t.lines (slot_shard slot) k.lines) (heard_up b s o slot r d h) k) (listens_fine b s o slot h)
turns_fine b c at s _ o l (txn_wakes_one t x e w f) h = let k : TxnUpTo b t = under b s o (session.Transaction t) e h in txn_turns_fine b c s o (txn_wakes t x) (txn_wakes_up b t x (waking_up b s t.lines x k.lines f) k) h
turns_fine b c at s _ o l (snap_wakes_one t x e f) h = let k : SnapUpTo b t = under b s o (session.Snapshot t) e h in snap_turns_fine b c s o (snap_wakes t x) (snap_wakes_up b t x (waking_up b s t.lines x k.lines f) k) h
turns_fine b c at s _ o l (txn_passes_time t time e w f) h = let k : TxnUpTo b t = under b s o (session.Transaction t) e h in txn_turns_fine b c s o (txn_passes t t.phase) (txn_passes_up b t k) h

settles_fine : (b : ℕ) (s : State) (o slot : ℕ) (a : Attempt) (shards : List ℕ) (outcome : Outcome) → OutcomeUpTo b outcome → AllFine b s → AllFine b (plans_stub (sends (listens s o slot) o (tells_decision a outcome shards)) o)
settles_fine b s o slot a shards outcome q h =
    let v = sends (listens s o slot) o (tells_decision a outcome shards) in
    let k : AllFine b v = send_all b o (tells_decision a outcome shards) (listens s o slot) (tells_up b a outcome shards q) (listens_fine b s o slot h) in
    record { told = k.told; owners = set_owner b v.owners o _ (planned_all b _ (k.owners o).copy refl refl (k.owners o).kind) k.owners; stages = k.stages; pipes = k.pipes; shards = k.shards }

-- THE WALK

served_read : (w : RegWork) (key : Key) → w ≡ work.Read key → WorkServed w → IsService key.service
served_read w key e h = subst WorkServed e h

served_write : (w : RegWork) (key : Key) (value : ℕ) → w ≡ work.Write key value → WorkServed w → IsService key.service
served_write w key value e h = subst WorkServed e h

pub fine_moves : (b : ℕ) (c : Config) (at : Reading) → IsSoundFile c → at.latest ≤ b → StepMoves c at AnyFate AnyState (AllFine b) (λ s o. AllFine b s) (λ s o. AllFine b s)
fine_moves b c at f l = record {
  E = λ s o. ⊤;
  ready = λ s o x k e g h. tt;
  clears = λ s t o x r e i a k g d y z q n h m. tt;
  acting = λ s n o e h. tt;
  heard = λ s o slot exchange e h. tt;
  runs = λ x e. tt;
  counted = λ s n h. tt;
  fates = λ s m x h. record { told = fated b s.net m x h.told; owners = h.owners; stages = h.stages; pipes = h.pipes; shards = h.shards };
  again = λ s o exchange slot target r d h. send_one b o s (record { slot = Some slot; target = target; request = r }) (subst (BodyTimesUpTo b) d.asked (h.told exchange)) h;
  stages = λ s t y d h. stage_moves b c s t y h;
  dies = λ s n how x y h. dies_fine b s n how x h;
  begins = λ s t w x y a d h. begins_fine b c s t w f x y h;
  rests = λ s t o w i a x y q d h. quiet_one b [] s t o w q d (resting_fine b s o w x (h.owners o)) h;
  settles = λ s o slot attempt shards outcome i a e d h. settles_fine b s o slot attempt shards outcome (heard_up b s o slot (reply.Decided outcome) d h) h;
  settled = λ s o h. h;
  works = λ s t o w i x q d h. quiet_one b [] s t o w q d (working_fine b at s o w l x (h.owners o)) h;
  leaves = λ s t o w outs i x q y d h. (let k = leaving_fine b c at s o w outs f l x (h.owners o) in send_all b o outs t k.sent (leaves_fine b c at s t o w outs x q d k h));
  does = λ s t o w outs new a x n q d h. does_fine b c s t o w outs new x n q d h;
  reaches = λ s t o g slot r e i a x y z q d h. quiet_one b [] s t o (ended_to s o g slot r) q d (owner_turned b (owner_at s o) (ended_to s o g slot r) refl refl (after_served g (slot_replica slot) r (under b s o (session.Register g) x h)) (h.owners o)) h;
  reads = λ s t o g key cell dep a x y z q d h. subst (AllFine b) (sym q) (replies_fine b c s o (record { key = key; value = cell.value; writer = cell.writer } ∷ []) (after_read (owner_at s o).works.copy key.service dep) (read_fine b (owner_at s o).works.copy key.service dep (served_read g.work key y (under b s o (session.Register g) x h)) (h.owners o).copy) h);
  writes = λ s t o g key value stamp a x y z q d h. subst (AllFine b) (sym q) (replies_fine b c s o [] (after_write (owner_at s o).works.copy key.service) (write_fine b (owner_at s o).works.copy key.service (served_write g.work key value y (under b s o (session.Register g) x h)) (h.owners o).copy) h);
  unfit = λ s o g e x y z h. h;
  turns = λ s t o a x h. turns_fine b c at s t o l x h;
}
