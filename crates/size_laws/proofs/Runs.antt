-- In every run contexts, works, sessions, messages and shards are fine under the limit of readings and a step for each.
use Rattle.std.proofs.Common.{◌≡◌, ◌⊎◌, inl, inr, ℕ, zero, suc, ◌+◌, ◌-◌, ◌<◌, ◌≤◌, ◌^◌, List, [], ◌∷◌, length, get_or, Some, None, All, refl, sym, subst, arith}
use Rattle.std.specs.Prelude.{replicate}
use Rattle.std.proofs.lemmas.List.Elements.{All-nil, All-head, All-tail, All-map, All-weaker}
use Rattle.truetime.specs.Reading.{Reading, IsReading}
use Rattle.rss_names.specs.declared.attempt.Attempt.{Attempt}
use Rattle.rss_names.specs.declared.service.Key.{Key}
use Rattle.rss_names.specs.declared.service.ServiceId.{ServiceId}
use Rattle.rss_names.specs.declared.service.Target.{Target}
use Rattle.rss_names.specs.declared.service.Target.TheVariants.{Shard as OnShard, Replica}
use Rattle.pipeline_lang.specs.declared.config.Config.{Config}
use Rattle.rss_wire.specs.Messages.{no_message, message_at}
use Rattle.rss_wire.specs.declared.messages.Outcome.{Outcome}
use Rattle.rss_wire.specs.declared.messages.Request.{Request}
use Rattle.rss_tables.specs.Pipes.{Chunk, EndMark, no_mark, fenced_mark, bare_mark, opening_pipe}
use Rattle.rss_tables.specs.ShardRow.{opening_shard}
use Rattle.rss_tables.specs.declared.fences.FenceWork.{FenceWork}
use Rattle.rss_machine.specs.Effect.{stepped, request_comes}
use Rattle.rss_machine.specs.Moves.{ticks, marks_message, serves_shard, serves_replica, notes_served}
use Rattle.rss_machine.specs.Refusal.{refusal}
use Rattle.rss_machine.specs.Run.{run, run_from, readings_of}
use Rattle.rss_machine.specs.Session.{Session}
use Rattle.rss_machine.specs.State.{State, Owner, start, no_stage, no_owner, stages_from, shards_from, keys_from, owner_at, pipe_at, shard_at, cells_at}
use Rattle.rss_machine.specs.declared.session.Session.TheVariants as session
use Rattle.rss_machine.specs.declared.step.Step.{Step}
use Rattle.world_laws.specs.Shapes.{IsSoundFile}
use Rattle.world_laws.specs.Times.{SeenUpTo, MarkUpTo, OutcomeUpTo, RequestTimesUpTo, BodyTimesUpTo, SessionTimesUpTo, WorksUpTo, FenceUpTo, PreparedUpTo, ShardUpTo, TimesUpTo}
use Rattle.world_laws.proofs.Clock.{clock_step}
use Rattle.world_laws.proofs.Looks.{looks, get_or_repeat}
use Rattle.world_laws.proofs.OwnerWalk.{Served, step_or_serves}
use Rattle.world_laws.proofs.Runs.{passes, run_rest, run_none}
use Rattle.world_laws.proofs.StageMoves.{AnyFate, AnyState}
use Rattle.size_laws.specs.Fine.{Fine, WorkFine, SessionFine, OwnerFine, ChunkFine, MarkFine, PipeFine, AllFine}
use Rattle.size_laws.proofs.Contexts.{nothing_fine}
use Rattle.size_laws.proofs.Moves.{Says, set_each, more_told, fated, set_owner, fine_moves}
use Rattle.size_laws.proofs.Owners.{owner_kept}
use Rattle.size_laws.proofs.Raised.{all_more}
use Rattle.size_laws.proofs.Rows.{OneUpTo, KeyUpTo, after_up, reply_up, replica_up}

-- A TARGET SERVES

shard_serves : (b : ℕ) (s : State) (m shard latest : ℕ) (r : Request) → latest ≤ b → RequestTimesUpTo b r → AllFine b s → AllFine (suc b) (serves_shard s m shard latest r)
shard_serves b s m shard latest r l q h =
    let k = all_more b (suc b) s (omega arith) h in
    let sh = h.shards (shard - 1) in
    record {
      told = more_told (suc b) s.net _ (reply_up b (shard_at s shard) latest r l q sh) k.told;
      owners = k.owners;
      stages = k.stages;
      pipes = k.pipes;
      shards = set_each (ShardUpTo (suc b)) (opening_shard []) s.shards (shard - 1) _ (after_up b (shard_at s shard) latest r l q sh) k.shards;
    }

replica_serves : (b : ℕ) (s : State) (m o : ℕ) (id : ServiceId) (replica : ℕ) (r : Request) → AllFine b s → AllFine b (notes_served (serves_replica s m id replica r) o id r)
replica_serves b s m o id replica r h = record {
  told = more_told b s.net _ (replica_up b (cells_at s id replica) r) h.told;
  owners = set_owner b s.owners o _ (owner_kept b (owner_at s o) _ refl refl refl (h.owners o)) h.owners;
  stages = h.stages;
  pipes = h.pipes;
  shards = h.shards;
}

comes_fine : (b : ℕ) (s : State) (m o : ℕ) (at : Reading) (target : Target) (r : Request) → at.latest ≤ b → RequestTimesUpTo b r → AllFine b s → AllFine (suc b) (request_comes s m o at target r)
comes_fine b s m o at (OnShard shard) r l q h = shard_serves b s m shard at.latest r l q h
comes_fine b s m o at (Replica id replica) r l q h = all_more b (suc b) _ (omega arith) (replica_serves b s m o id replica r h)

-- STEPS AND RUNS

pub fine_step : (limit : ℕ) (c : Config) (s : State) (step : Step) → IsSoundFile c → step.at.latest < limit → refusal c s step ≡ None → AllFine (limit + s.steps) s → AllFine (limit + (stepped c s step).steps) (stepped c s step)
fine_step limit c s step f l r h = by_way (step_or_serves c step.at AnyFate AnyState (AllFine (limit + s.steps)) (λ t o. AllFine (limit + s.steps) t) (λ t o. AllFine (limit + s.steps) t) (fine_moves (limit + s.steps) c step.at f below) u step.kind (passes c s step r).kind tt before)
  where
    below : step.at.latest ≤ limit + s.steps
    below = omega (arith, l)

    u : State
    u = ticks s step.at

    before : AllFine (limit + s.steps) u
    before = record { told = h.told; owners = h.owners; stages = h.stages; pipes = h.pipes; shards = h.shards }

    counted : (stepped c s step).steps ≡ s.steps + 1
    counted = (clock_step c s step r).0

    up : (t : State) (k : ℕ) → t.steps ≡ s.steps + 1 → k ≤ limit + (s.steps + 1) → AllFine k t → AllFine (limit + t.steps) t
    up t k e m g = subst (λ (i : ℕ). AllFine (limit + i) t) (sym e) (all_more k (limit + (s.steps + 1)) t m g)

    by_way : (AllFine (limit + s.steps) (stepped c s step)) ⊎ Served c step.at u (stepped c s step) → AllFine (limit + (stepped c s step).steps) (stepped c s step)
    by_way (inl k) = up (stepped c s step) (limit + s.steps) counted (omega arith) k
    by_way (inr k) =
        let v = marks_message u k.number k.fate in
        let x = message_at v.net k.number in
        let q : AllFine (limit + s.steps) v = record { told = fated (limit + s.steps) u.net k.number k.fate before.told; owners = before.owners; stages = before.stages; pipes = before.pipes; shards = before.shards } in
        let y : AllFine (suc (limit + s.steps)) (stepped c s step) = subst (AllFine (suc (limit + s.steps))) (sym k.same) (comes_fine (limit + s.steps) v k.number x.envelope.owner step.at x.envelope.target k.request below (subst (BodyTimesUpTo (limit + s.steps)) k.asks (q.told k.number)) q) in
        up (stepped c s step) (suc (limit + s.steps)) counted (omega arith) y

fine_from : (limit : ℕ) (c : Config) (steps : List Step) (u s : State) → IsSoundFile c → All (λ (at : Reading). at.latest < limit) (readings_of steps) → AllFine (limit + u.steps) u → run_from c u steps ≡ Some s → AllFine (limit + s.steps) s
fine_from limit c [] u s f a h e = subst (λ (t : State). AllFine (limit + t.steps) t) (run_none c u s e) h
fine_from limit c (step ∷ steps) u s f a h e =
    let t = run_rest c u step steps s e in
    let P = λ (at : Reading). at.latest < limit in
    fine_from limit c steps (stepped c u step) s f (All-tail P step.at (readings_of steps) a) (fine_step limit c u step f (All-head P step.at (readings_of steps) a) t.0 h) t.1

-- THE START

stages_start : (b : ℕ) (c : Config) (n left i : ℕ) → Fine b (get_or (stages_from c n left) i no_stage).context
stages_start b c n zero i = nothing_fine b
stages_start b c n (suc left) zero = nothing_fine b
stages_start b c n (suc left) (suc i) = stages_start b c (n + 1) left i

opening_up : (b : ℕ) (keys : List Key) → ShardUpTo b (opening_shard keys)
opening_up b keys = record {
  floor = omega arith;
  prepared = All-nil (PreparedUpTo b);
  decisions = All-nil (λ (d : Attempt × Outcome). OutcomeUpTo b d.1);
  store = All-map (KeyUpTo b) (λ (key : Key). record { key = key; versions = [] }) keys (λ k d l. All-nil (OneUpTo b));
}

shards_start : (b : ℕ) (c : Config) (n : ℕ) (services : List ServiceId) (i : ℕ) → ShardUpTo b (get_or (shards_from c n services) i (opening_shard []))
shards_start b c n [] i = opening_up b []
shards_start b c n (id ∷ services) zero = opening_up b (keys_from id n c.homes 0)
shards_start b c n (id ∷ services) (suc i) = shards_start b c (n + 1) services i

pub fine_start : (b : ℕ) (c : Config) → AllFine b (start c)
fine_start b c = record {
  told = λ m. subst (Says b) (sym (first m)) tt;
  owners = λ o. subst (OwnerFine b) (sym (alone o)) nobody;
  stages = stages_start b c 1 (length c.bodies);
  pipes = λ i. subst (PipeFine b) (sym (empty (length c.pipe_ends) i)) (record { chunks = All-nil (ChunkFine b); mark = tt });
  shards = shards_start b c 1 c.shard_services;
}
  where
    first : (m : ℕ) → get_or (no_message ∷ []) m no_message ≡ no_message
    first m = grind (arith, looks)

    alone : (o : ℕ) → get_or (no_owner ∷ []) o no_owner ≡ no_owner
    alone o = grind (arith, looks)

    empty : (n i : ℕ) → get_or (replicate n opening_pipe) i opening_pipe ≡ opening_pipe
    empty n i = let q = get_or_repeat n opening_pipe i opening_pipe in grind (arith, q)

    nobody : OwnerFine b no_owner
    nobody = record { copy = nothing_fine b; left = All-nil (WorkFine b); few = omega arith; wait = tt; session = tt; kind = tt }

pub fine_run : (limit : ℕ) (c : Config) (steps : List Step) (s : State) → IsSoundFile c → All (λ (at : Reading). at.latest < limit) (readings_of steps) → run c steps ≡ Some s → AllFine (limit + s.steps) s
unfolding run
fine_run limit c steps s f a e = fine_from limit c steps (start c) s f a (fine_start (limit + 0) c) e

-- AS THE LAW SAYS IT

session_is : (b : ℕ) (x : Session) → SessionFine b x → SessionTimesUpTo b x
session_is b (session.Transaction t) h = h
session_is b (session.Snapshot t) h = h
session_is b (session.Register r) h = tt
session_is b (session.Fixing r) h = tt
session_is b session.Idle h = tt
session_is b (session.Settling attempt shards) h = tt

works_is : (b : ℕ) (w : Owner) → OwnerFine b w → WorksUpTo b w.works
works_is b w h = record { copy = h.copy.times; left = All-weaker (WorkFine b) (λ (x : ServiceId × FenceWork). FenceUpTo b x.1) (λ x k. k.0) w.works.left h.left; wait = h.wait }

mark_is : (b : ℕ) (x : EndMark) → MarkFine b x → MarkUpTo b x
mark_is b no_mark h = tt
mark_is b (fenced_mark number seen) h = h.times
mark_is b bare_mark h = tt

times_are : (b : ℕ) (s : State) → AllFine b s → TimesUpTo b s
times_are b s h = record {
  told = h.told;
  sessions = λ o. session_is b (owner_at s o).session (h.owners o).session;
  works = λ o. works_is b (owner_at s o) (h.owners o);
  stages = λ n. (h.stages (n - 1)).times;
  chunks = λ p. All-weaker (ChunkFine b) (λ (x : Chunk). SeenUpTo b x.context) (λ x k. k.times) (pipe_at s p).chunks (h.pipes (p - 1)).chunks;
  marks = λ p. mark_is b (pipe_at s p).mark (h.pipes (p - 1)).mark;
  shards = λ n. h.shards (n - 1);
}

pub read_run : (c : Config) (steps : List Step) (s : State) → IsSoundFile c → All IsReading (readings_of steps) → run c steps ≡ Some s → AllFine (2 ^ 62 + s.steps) s
read_run c steps s f a e = fine_run (2 ^ 62) c steps s f (All-weaker IsReading (λ (at : Reading). at.latest < 2 ^ 62) (λ at k. k.1) (readings_of steps) a) e

pub times_run : (c : Config) (steps : List Step) (s : State) → IsSoundFile c → All IsReading (readings_of steps) → run c steps ≡ Some s → TimesUpTo (2 ^ 62 + s.steps) s
times_run c steps s f a e = times_are (2 ^ 62 + s.steps) s (read_run c steps s f a e)
