-- Where dependencies stand: in the contexts of stages, of the chunks and end marks of pipes, and of the
-- copies that owners go through their works with. What is true of each dependency there stays true of
-- each where contexts are copied, joined, fenced, entered and left behind by calls.
use Rattle.std.proofs.Common.{◌≡◌, ℕ, zero, suc, ◌+◌, ◌-◌, ◌<◌, ◌⊎◌, inl, inr, Bool, true, false, List, [], ◌∷◌, length, get_or, All, Option, Some, None, sym, subst}
use Rattle.std.specs.Prelude.{◌==◌, nat_lt, not, if◌then◌else◌}
use Rattle.std.proofs.Math.ListN.{set}
use Rattle.std.proofs.lemmas.List.Elements.{All-cons, All-nil, All-head, All-tail, All-filter, All-set, All-push, All-drop, All-get_or, All-weaker, All-replicate}
use Rattle.rss_names.specs.declared.service.ServiceId.{ServiceId}
use Rattle.rss_names.specs.declared.service.ServiceId.TheVariants.{Txn, Reg}
use Rattle.rss_names.specs.Services.{same_service}
use Rattle.carstamps.specs.Stamp.{stamp_lt}
use Rattle.causal_context.specs.declared.dep.Dep.{Dep}
use Rattle.causal_context.specs.Deps.{put_dep, deps_joined, deps_of, deps_fenced}
use Rattle.causal_context.specs.Seen.{Seen}
use Rattle.pipeline_lang.specs.declared.config.Config.{Config}
use Rattle.rss_tables.specs.Pipes.{Pipe, opening_pipe, pipe_put, pipe_taken}
use Rattle.rss_machine.specs.Standing.{exit_context, exit_context_of}
use Rattle.rss_machine.specs.State.{State, Owner, start, stages_from, no_stage, no_owner, stage_at, owner_at, pipe_at}
use Rattle.world_laws.specs.Contexts.{mark_deps, StageHolds, CopyHolds, ChunkHolds, PipeHolds, AllDeps}
use Rattle.world_laws.proofs.Looks.{get_or_past}

-- what is true of all dependencies, through what is done to lists of them
put_holds : (G : Dep → Type 0) (new : Dep) (deps : List Dep) → G new → All G deps → All G (put_dep new deps)
put_holds G new [] p a = All-cons G new [] p (All-nil G)
put_holds G new (d ∷ deps) p a = by_place (put_holds G new deps p (All-tail G d deps a)) (nat_lt new.key.index d.key.index) (new.key.index == d.key.index) (stamp_lt d.stamp new.stamp)
  where
    by_place : All G (put_dep new deps) → (b c s : Bool) → All G (if b then new ∷ d ∷ deps else if c then (if s then new else d) ∷ deps else d ∷ put_dep new deps)
    by_place r true c s = All-cons G new (d ∷ deps) p a
    by_place r false true true = All-cons G new deps p (All-tail G d deps a)
    by_place r false true false = a
    by_place r false false s = All-cons G d (put_dep new deps) (All-head G d deps a) r

pub joined_hold : (G : Dep → Type 0) (deps others : List Dep) → All G deps → All G others → All G (deps_joined deps others)
joined_hold G deps [] a b = a
joined_hold G deps (d ∷ others) a b = joined_hold G (put_dep d deps) others (put_holds G d deps (All-head G d others b) a) (All-tail G d others b)

pub fenced_hold : (G : Dep → Type 0) (id : ServiceId) (deps : List Dep) → All G deps → All G (deps_fenced id deps)
fenced_hold G (Txn n) deps a = a
fenced_hold G (Reg n) deps a = All-filter (λ (d : Dep). not (same_service (Reg n) d.key.service)) G deps a

pub of_hold : (G : Dep → Type 0) (id : ServiceId) (deps : List Dep) → All G deps → All G (deps_of id deps)
of_hold G id deps a = All-filter (λ (d : Dep). same_service id d.key.service) G deps a

-- what is true of each element is true at each place, where it is of the default
pub at_place : {X : Type 0} (Q : X → Type 0) (xs : List X) (i : ℕ) (d : X) → Q d → All Q xs → Q (get_or xs i d)
at_place Q xs i d e a = by_place (get_or_past xs i d)
  where
    by_place : (i < length xs) ⊎ (get_or xs i d ≡ d) → Q (get_or xs i d)
    by_place (inl l) = All-get_or Q xs i d l a
    by_place (inr p) = subst Q (sym p) e

pub stages_hold : (G : Dep → Type 0) (s : State) (n : ℕ) → All (StageHolds G) s.stages → All G (stage_at s n).context.deps
stages_hold G s n h = at_place (StageHolds G) s.stages (n - 1) no_stage (All-nil G) h

pub stage_holds : (G : Dep → Type 0) (s : State) (n : ℕ) → AllDeps G s → All G (stage_at s n).context.deps
stage_holds G s n h = stages_hold G s n h.stages

pub copy_holds : (G : Dep → Type 0) (s : State) (o : ℕ) → AllDeps G s → All G (owner_at s o).works.copy.deps
copy_holds G s o h = at_place (CopyHolds G) s.owners o no_owner (All-nil G) h.copies

pub pipe_holds : (G : Dep → Type 0) (s : State) (p : ℕ) → AllDeps G s → PipeHolds G (pipe_at s p)
pipe_holds G s p h = at_place (PipeHolds G) s.pipes (p - 1) opening_pipe (record { chunks = All-nil (ChunkHolds G); mark = All-nil G }) h.pipes

pub exit_holds : (G : Dep → Type 0) (s : State) (n : ℕ) → AllDeps G s → All G (exit_context s n).deps
exit_holds G s n h = by_stub (stage_at s n).stub
  where
    by_stub : (stub : Option ℕ) → All G (exit_context_of s (stage_at s n) stub).deps
    by_stub None = stage_holds G s n h
    by_stub (Some o) = copy_holds G s o h

-- pipes after a put, a take and an end
pub put_pipe : (G : Dep → Type 0) (pipe : Pipe) (value : ℕ) (seen : Seen) (dropped : Bool) → All G seen.deps → PipeHolds G pipe → PipeHolds G (pipe_put pipe value seen dropped)
put_pipe G pipe value seen true a h = record { chunks = h.chunks; mark = h.mark }
put_pipe G pipe value seen false a h = record { chunks = All-push (ChunkHolds G) pipe.chunks (record { number = pipe.next; value = value; context = seen }) h.chunks a; mark = h.mark }

pub taken_pipe : (G : Dep → Type 0) (pipe : Pipe) → PipeHolds G pipe → PipeHolds G (pipe_taken pipe)
taken_pipe G pipe h = record { chunks = All-drop (ChunkHolds G) 1 pipe.chunks h.chunks; mark = h.mark }

-- what follows from what is true of each dependency
pub deps_weaker : (G H : Dep → Type 0) → ((d : Dep) → G d → H d) → (s : State) → AllDeps G s → AllDeps H s
deps_weaker G H f s h = record {
  stages = All-weaker (StageHolds G) (StageHolds H) (λ x a. All-weaker G H f x.context.deps a) s.stages h.stages;
  pipes = All-weaker (PipeHolds G) (PipeHolds H) (λ x a. record {
    chunks = All-weaker (ChunkHolds G) (ChunkHolds H) (λ y b. All-weaker G H f y.context.deps b) x.chunks a.chunks;
    mark = All-weaker G H f (mark_deps x.mark) a.mark;
  }) s.pipes h.pipes;
  copies = All-weaker (CopyHolds G) (CopyHolds H) (λ x a. All-weaker G H f x.works.copy.deps a) s.owners h.copies;
}

-- before the first step there is none
stages_start : (G : Dep → Type 0) (c : Config) (n left : ℕ) → All (StageHolds G) (stages_from c n left)
stages_start G c n zero = All-nil (StageHolds G)
stages_start G c n (suc left) = All-cons (StageHolds G) _ (stages_from c (n + 1) left) (All-nil G) (stages_start G c (n + 1) left)

pub deps_start : (G : Dep → Type 0) (c : Config) → AllDeps G (start c)
deps_start G c = record {
  stages = stages_start G c 1 (length c.bodies);
  pipes = All-replicate (PipeHolds G) (length c.pipe_ends) opening_pipe (record { chunks = All-nil (ChunkHolds G); mark = All-nil G });
  copies = All-cons (CopyHolds G) no_owner [] (All-nil G) (All-nil (CopyHolds G));
}

-- an owner in the place of what it was, with the copy that it had
pub set_copies : (G : Dep → Type 0) (s : State) (o : ℕ) (w : Owner) → w.works.copy ≡ (owner_at s o).works.copy → AllDeps G s → All (CopyHolds G) (set s.owners o w)
set_copies G s o w e h = All-set (CopyHolds G) s.owners o w (subst (λ (x : Seen). All G x.deps) (sym e) (copy_holds G s o h)) h.copies
