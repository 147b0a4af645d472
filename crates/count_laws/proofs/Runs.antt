-- Sizes, in every run.
use Rattle.std.proofs.Common.{◌≡◌, ℕ, zero, suc, ◌+◌, ◌-◌, ◌*◌, ◌≤◌, List, [], ◌∷◌, length, get_or, Some, None, refl, ap, sym, ◌∙◌, subst, arith}
use Rattle.std.specs.Prelude.{replicate}
use Rattle.std.proofs.lemmas.List.{length-replicate}
use Rattle.rss_names.specs.declared.service.ServiceId.{ServiceId}
use Rattle.rss_names.specs.declared.service.ServiceId.TheVariants as service
use Rattle.pipeline_lang.specs.Config.{replicas_of}
use Rattle.pipeline_lang.specs.declared.config.Config.{Config}
use Rattle.rss_tables.specs.Losses.{no_losses, target_place}
use Rattle.rss_tables.specs.Pipes.{opening_pipe}
use Rattle.rss_machine.specs.Effect.{stepped}
use Rattle.rss_machine.specs.Moves.{ticks}
use Rattle.rss_machine.specs.Refusal.{refusal}
use Rattle.rss_machine.specs.Run.{run}
use Rattle.rss_machine.specs.State.{State, Owner, start, no_stage, no_owner, owner_at, stages_from, shards_from}
use Rattle.rss_machine.specs.declared.step.Step.{Step}
use Rattle.world_laws.specs.Shapes.{IsSoundFile}
use Rattle.world_laws.specs.Sizes.{FitsSizes}
use Rattle.world_laws.proofs.Clock.{run_counted}
use Rattle.world_laws.proofs.Looks.{looks, get_or_repeat}
use Rattle.world_laws.proofs.Runs.{run_keeps}
use Rattle.count_laws.proofs.Budget.{attempt_number, FewOwner, AllFew, Grew}
use Rattle.count_laws.proofs.Ordinals.{ordinals_run}
use Rattle.count_laws.proofs.Steps.{a_step, g_effect}
use Rattle.count_laws.proofs.Works.{FewOf}

-- what one owner has, against the steps made
pub record OwnerSized (n : ℕ) (w : Owner) : Type 0 where
  pub losses : (place : ℕ) → get_or w.losses place 0 ≤ n
  pub attempts : attempt_number w.session ≤ n

pub record Sized (c : Config) (s : State) : Type 0 where
  pub stages : length s.stages ≡ length c.bodies
  pub pipes : length s.pipes ≡ length c.pipe_ends
  pub shards : length s.shards ≡ length c.shard_services
  pub owners : length s.owners ≤ s.steps + 1
  pub messages : length s.net ≤ 32 * s.steps + 1
  pub entries : length s.history ≤ 18 * s.steps
  pub acts : (i : ℕ) → (get_or s.stages i no_stage).acts ≤ s.steps
  pub next : (i : ℕ) → (get_or s.pipes i opening_pipe).next ≤ s.steps + 1
  pub each : (o : ℕ) → OwnerSized s.steps (owner_at s o)
  pub few : AllFew s

-- a step
sized_step : (c : Config) → FewOf c → (s : State) (step : Step) → refusal c s step ≡ None → Sized c s → Sized c (stepped c s step)
sized_step c f s step r h =
    let u = ticks s step.at in
    let t = stepped c s step in
    let g : Grew a_step u t = g_effect c u step.at step.kind f h.few in
    let n : t.steps ≡ s.steps + 1 = g.steps in
    record {
      stages = g.long.stages ∙ h.stages;
      pipes = g.long.pipes ∙ h.pipes;
      shards = g.long.shards ∙ h.shards;
      owners = let a = g.owners in let b = h.owners in omega (arith, a, b, n);
      messages = let a = g.net in let b = h.messages in omega (arith, a, b, n);
      entries = let a = g.entries in let b = h.entries in omega (arith, a, b, n);
      acts = λ i. (let a = g.acts i in let b = h.acts i in omega (arith, a, b, n));
      next = λ i. (let a = g.next i in let b = h.next i in omega (arith, a, b, n));
      each = λ o. record {
        losses = λ p. (let a = (g.each o).losses p in let b = (h.each o).losses p in omega (arith, a, b, n));
        attempts = let a = (g.each o).attempts in let b = (h.each o).attempts in omega (arith, a, b, n);
      };
      few = g.few h.few;
    }

-- THE START

stages_count : (c : Config) (n left : ℕ) → length (stages_from c n left) ≡ left
stages_count c n zero = refl
stages_count c n (suc left) = ap suc (stages_count c (n + 1) left)

stages_idle : (c : Config) (n left i : ℕ) → (get_or (stages_from c n left) i no_stage).acts ≡ 0
stages_idle c n zero i = refl
stages_idle c n (suc left) zero = refl
stages_idle c n (suc left) (suc i) = stages_idle c (n + 1) left i

pipes_open : (n i : ℕ) → (get_or (replicate n opening_pipe) i opening_pipe).next ≡ 1
pipes_open n i = let q = get_or_repeat n opening_pipe i opening_pipe in grind (arith, q)

nobody_sized : OwnerSized 0 no_owner
nobody_sized = record { losses = λ p. (let e = at p in omega (arith, e)); attempts = omega arith }
  where
    at : (p : ℕ) → get_or no_losses p 0 ≡ 0
    at p = let q = get_or_repeat {X = ℕ} 72 0 p 0 in grind (arith, q)

alone : (o : ℕ) → get_or (no_owner ∷ []) o no_owner ≡ no_owner
alone o = grind (arith, looks)

nobody_few : FewOwner no_owner
nobody_few = record { session = tt; kind = tt }

shards_count : (c : Config) (shard : ℕ) (services : List ServiceId) → length (shards_from c shard services) ≡ length services
shards_count c shard [] = refl
shards_count c shard (service ∷ services) = ap suc (shards_count c (shard + 1) services)

sized_start : (c : Config) → Sized c (start c)
sized_start c = record {
  stages = stages_count c 1 (length c.bodies);
  pipes = length-replicate (length c.pipe_ends) opening_pipe;
  shards = shards_count c 1 c.shard_services;
  owners = omega arith;
  messages = omega arith;
  entries = omega arith;
  acts = λ i. (let e = stages_idle c 1 (length c.bodies) i in omega (arith, e));
  next = λ i. (let e = pipes_open (length c.pipe_ends) i in omega (arith, e));
  each = λ o. subst (OwnerSized 0) (sym (alone o)) nobody_sized;
  few = λ o. subst FewOwner (sym (alone o)) nobody_few;
}

pub sized_run : (c : Config) → FewOf c → (steps : List Step) (s : State) → run c steps ≡ Some s → Sized c s
sized_run c f steps s e = run_keeps c (Sized c) (sized_step c f) (sized_start c) steps s e

-- what is used of a file that is sound
few_of : (c : Config) → IsSoundFile c → FewOf c
few_of c f = record { replicas = by_kind; pipes = f.within.pipes }
  where
    by_kind : (x : ServiceId) → replicas_of c x ≤ 7
    by_kind (service.Reg number) = f.within.places.replicas number
    by_kind (service.Txn number) = let e = f.within.places.others number in omega (arith, e)

pub sizes_run : (c : Config) (steps : List Step) (s : State) → IsSoundFile c → run c steps ≡ Some s → FitsSizes c s
sizes_run c steps s f e =
    let h = sized_run c (few_of c f) steps s e in
    record {
      steps = (run_counted c steps s e).1;
      stages = h.stages;
      pipes = h.pipes;
      shards = h.shards;
      owners = h.owners;
      messages = h.messages;
      entries = h.entries;
      acts = λ n. h.acts (n - 1);
      next = λ p. h.next (p - 1);
      losses = λ o target. (h.each o).losses (target_place target);
      attempts = λ o t g. (let a = (h.each o).attempts in let b = ap attempt_number g in omega (arith, a, b));
      ordinals = ordinals_run c steps s e;
    }
