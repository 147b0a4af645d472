-- The walk: what a step does, once it is counted, is events, and each state between them is known.
use Rattle.std.proofs.Common.{◌≡◌, ℕ, [], None, refl, ap}
use Rattle.std.specs.Prelude.{⊤}
use Rattle.truetime.specs.Reading.{Reading}
use Rattle.pipeline_lang.specs.declared.config.Config.{Config}
use Rattle.rss_machine.specs.Effect.{effect}
use Rattle.rss_machine.specs.Refusal.{kind_refusal}
use Rattle.rss_machine.specs.State.{State}
use Rattle.rss_machine.specs.declared.step.StepKind.{StepKind}
use Rattle.world_laws.proofs.Beside.{beside}
use Rattle.world_laws.proofs.OwnerMoves.{OwnerKeeps}
use Rattle.world_laws.proofs.OwnerWalk.{AllKeeps, StepKeeps, step_walk}
use Rattle.world_laws.proofs.Replies.{Sound, sound_keeps}
use Rattle.world_laws.proofs.Stacked.{stacked}
use Rattle.world_laws.proofs.StoreWalk.{store_owner}
use Rattle.world_laws.proofs.ToldLaws.{told_keeps}
use Rattle.world_laws.proofs.ToldRuns.{Stepping, AtRest, Reached, Running}
use Rattle.world_laws.proofs.Told.{Told}
use Rattle.world_laws.proofs.ToldMoves.{Fresh}
use Rattle.world_laws.proofs.TurnMoves.{StepMoves, step_moves}
use Rattle.reg_laws.proofs.Awaiting as awaiting
use Rattle.reg_laws.proofs.Awaiting.{Awaiting}
use Rattle.reg_laws.proofs.Awaits.{awaited_under}
use Rattle.shard_event_laws.specs.Events.{Event}
use Rattle.shard_event_laws.specs.Facts.{is_with_shards}
use Rattle.causal_context.specs.Deps.{given_dep}
use Rattle.shard_event_laws.specs.Steps.{Happens, then}
use Rattle.shard_event_laws.proofs.Clocks.{Clocked, clocked_same, event_clock, known_of}
use Rattle.shard_event_laws.proofs.MoveEvents.{of_fates, of_stages, of_shards, of_replicas, of_again, of_begins, of_dies}
use Rattle.shard_event_laws.proofs.OwnerEvents.{of_rests, of_works, of_leaves, of_does, of_round}
use Rattle.shard_event_laws.proofs.ShardTurns.{of_turns, of_settles}
use Rattle.std.specs.Prelude.{⊤}

-- what is known of each state of a step: what stages and the history tell of calls, that messages are sound, and
-- that an owner with nothing under way awaits nothing
abbrev pub Base : State → Type 0
Base s = Stepping s × (Sound s × Awaiting s)

abbrev pub BaseAt : State → ℕ → Type 0
BaseAt s o = AtRest s o × (Sound s × awaiting.AtRest s o)

abbrev pub BaseDone : State → ℕ → Type 0
BaseDone s o = Reached s o × (Sound s × Awaiting s)

awaiting_keeps : (c : Config) (at : Reading) → OwnerKeeps c at (λ s. Sound s × Awaiting s) (λ s o. Sound s × awaiting.AtRest s o)
awaiting_keeps c at = stacked c at Sound (λ s o. Sound s) Awaiting awaiting.AtRest (store_owner c at Sound sound_keeps) (awaited_under c at)

pub base_keeps : (c : Config) (at : Reading) → AllKeeps c at Running Fresh Base BaseAt BaseDone
base_keeps c at = record {
  moves = beside c at Running Fresh Stepping AtRest Reached (λ s. Sound s × Awaiting s) (λ s o. Sound s × awaiting.AtRest s o) (told_keeps c at).moves (awaiting_keeps c at).moves;
  shards = λ s m shard r d h. ((told_keeps c at).shards s m shard r d h.0, (awaiting_keeps c at).shards s m shard r d h.1);
  replicas = λ s m id replica r d h. ((told_keeps c at).replicas s m id replica r d h.0, (awaiting_keeps c at).replicas s m id replica r d h.1);
}

module _ (c : Config) (at : Reading) (s0 : State) where
  -- the clock, and the events so far
  abbrev pub Path : State → Type 0
  Path s = Clocked at s × Happens c at s0 s

  goes : (s t : State) → Told s → Sound s → Path s → Event c at s t → Path t
  goes s t h g p e = (clocked_same at s t (event_clock c at s t e) p.0, then s t p.1 (known_of at s h g p.0) e)

  on : (s t : State) → Base s → Path s → Event c at s t → Path t
  on s t h p e = goes s t h.0.told h.1.0 p e

  base : StepMoves c at Running Fresh Base BaseAt BaseDone
  base = step_moves c at Running Fresh Base BaseAt BaseDone (base_keeps c at).moves

  pub path_moves : StepMoves c at Running Fresh (λ s. Base s × Path s) (λ s o. BaseAt s o × Path s) (λ s o. BaseDone s o × Path s)
  path_moves = record {
    E = λ s o. ⊤;
    ready = λ s o x l e f h. tt;
    clears = λ s t o x r e i a b l d y z q n h m. tt;
    acting = λ s n o e h. base.acting s n o e h.0;
    heard = λ s o slot exchange e h. base.heard s o slot exchange e h.0;
    runs = base.runs;
    counted = base.counted;
    fates = λ s m f h. (base.fates s m f h.0, on s _ h.0 h.1 (of_fates c at s m f));
    again = λ s o exchange slot target r d h. (base.again s o exchange slot target r d h.0, on s _ h.0 h.1 (of_again c at s o exchange slot target r d h.0.0 h.0.1.0));
    stages = λ s t y d h. (base.stages s t y d h.0, on s t h.0 h.1 (of_stages c at s t d));
    dies = λ s n how f y h. (base.dies s n how f y h.0, on s _ h.0 h.1 (of_dies c at s n how f y h.0.0));
    begins = λ s t w b q f d h. (base.begins s t w b q f d h.0, on s t h.0 h.1 (of_begins c at s t w b d));
    rests = λ s t o w i a b x q d h. (base.rests s t o w i a b x q d h.0, on s t h.0 h.1 (of_rests c at s t o w b d h.0.1.1));
    settles = λ s o slot attempt shards outcome i a e d h. (base.settles s o slot attempt shards outcome i a e d h.0, on s _ h.0 h.1 (of_settles c at s o slot attempt shards outcome a e d));
    settled = λ s o h. (base.settled s o h.0, h.1);
    works = λ s t o w i b q d h. (base.works s t o w i b q d h.0, goes s t h.0.0.all.told h.0.1.0 h.1 (of_works c at s t o w b d h.0.0.idle));
    leaves = λ s t o w outs i b q y d h. ((base_keeps c at).moves.leaves s t o w outs i b q d h.0, goes s _ h.0.0.all.told h.0.1.0 h.1 (of_leaves c at s t o w outs b d h.0.0.runs h.0.0.idle h.0.1.1.0));
    does = λ s t o w outs new a b n q d h. (base.does s t o w outs new a b n q d h.0, on s _ h.0 h.1 (of_does c at s t o w outs new b n q d a h.0.1.1));
    turns = λ s t o a y h. (base.turns s t o a y h.0, on s t h.0 h.1 (of_turns c at s t o a y h.0.0));
    reaches = λ s t o f slot r e i a x y z q d h. (base.reaches s t o f slot r e i a x y z q d h.0, on s t h.0 h.1 (of_round c at s t o _ [] (ap is_with_shards x) d (record { kind = refl; stage = refl; begun = refl; none = refl })));
    reads = λ s t o f key cell dep a x y z q d h. (base.reads s t o f key cell dep a x y z q d h.0, goes s t h.0.0.told h.0.1.0 h.1 (of_round c at s t o _ (given_dep dep) (ap is_with_shards x) d (record { kind = refl; stage = refl; begun = refl; none = ap is_with_shards x })));
    writes = λ s t o f key value stamp a x y z q d h. (base.writes s t o f key value stamp a x y z q d h.0, goes s t h.0.0.told h.0.1.0 h.1 (of_round c at s t o _ [] (ap is_with_shards x) d (record { kind = refl; stage = refl; begun = refl; none = ap is_with_shards x })));
    unfit = λ s o f e x y z h. (base.unfit s o f e x y z h.0, h.1);
  }

  pub path_keeps : StepKeeps c at Running Fresh (λ s. Base s × Path s) (λ s o. BaseAt s o × Path s) (λ s o. BaseDone s o × Path s)
  path_keeps = record {
    moves = path_moves;
    shards = λ s m shard r d h. ((base_keeps c at).shards s m shard r d h.0, on s _ h.0 h.1 (of_shards c at s m shard r d));
    replicas = λ s m id replica r d h. ((base_keeps c at).replicas s m id replica r d h.0, on s _ h.0 h.1 (of_replicas c at s m id replica r d));
  }

  pub path_walk : (s : State) (x : StepKind) → kind_refusal c s at x ≡ None → Fresh s → Base s × Path s → Base (effect c s at x) × Path (effect c s at x)
  path_walk s x e f h = step_walk c at Running Fresh (λ s. Base s × Path s) (λ s o. BaseAt s o × Path s) (λ s o. BaseDone s o × Path s) path_keeps s x e f h
