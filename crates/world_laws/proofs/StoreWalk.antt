-- The walk over what a step does to the clock, the net, the shards and the replicas: the induction principle
-- for all that the stores keep. It is the walk over owners, of which it only looks at the stores.
use Rattle.std.proofs.Common.{◌≡◌, ℕ, List, [], ◌∷◌, Some, refl}
use Rattle.truetime.specs.Reading.{Reading}
use Rattle.pipeline_lang.specs.declared.config.Config.{Config}
use Rattle.rss_tables.specs.Lines.{tells_decision}
use Rattle.rss_tables.specs.Outs.{Out}
use Rattle.rss_machine.specs.Moves.{sends_one, sends, plans_stub, listens}
use Rattle.rss_machine.specs.State.{State}
use Rattle.world_laws.proofs.StoreMoves.{StoreKeeps}
use Rattle.world_laws.proofs.OwnerMoves.{OwnerKeeps}
use Rattle.std.proofs.Common.{◌≡◌, None}
use Rattle.pipeline_lang.specs.declared.config.Config.{Config}
use Rattle.rss_machine.specs.Effect.{effect}
use Rattle.rss_machine.specs.Refusal.{kind_refusal}
use Rattle.rss_machine.specs.declared.step.StepKind.{StepKind}
use Rattle.world_laws.proofs.OwnerWalk.{owner_walk}

-- what only looks at the stores is kept by all that owners do
module _ (c : Config) (at : Reading) (P : State → Type 0) (k : StoreKeeps P) where
  all_sent : (o : ℕ) (outs : List Out) (s : State) → P s → P (sends s o outs)
  all_sent o [] s p = p
  all_sent o (out ∷ outs) s p = all_sent o outs (sends_one s o out) (k.sends s o out p)

  pub store_owner : OwnerKeeps c at P (λ s o. P s)
  store_owner = record {
    shards = λ s m shard r d p. k.shards s m shard at.latest r d p;
    replicas = k.replicas;
    moves = record {
      fates = k.fates;
      again = λ s o exchange slot target r d p. k.sends s o (record { slot = Some slot; target = target; request = r }) p;
      stages = λ s t d p. k.others s t d.stores p;
      dies = λ s t n u d p. k.others s t d.stores p;
      begins = λ s t w b d p. k.others s t d.stores p;
      rests = λ s t o w i b d p. k.others s t d.stores p;
      settles = λ s o slot a shards outcome i e d p.
          let u = sends (listens s o slot) o (tells_decision a outcome shards) in
          k.others u (plans_stub u o) (record { steps = refl; moment = refl; moments = refl; net = refl; shards = refl; replicas = refl; marks = refl })
          (all_sent o (tells_decision a outcome shards) (listens s o slot) (k.others s (listens s o slot) (record { steps = refl; moment = refl; moments = refl; net = refl; shards = refl; replicas = refl; marks = refl }) p));
      settled = λ s o p. p;
      works = λ s t o w i b d p. k.others s t d.stores p;
      leaves = λ s t o w outs i b d p. all_sent o outs t (k.others s t d.stores p);
      does = λ s t o w outs new b d p. all_sent o outs t (k.others s t d.stores p);
    };
  }

-- every kind of step that is not refused
pub store_walk : (c : Config) (P : State → Type 0) → StoreKeeps P → (s : State) (at : Reading) (x : StepKind) → kind_refusal c s at x ≡ None → P s → P (effect c s at x)
store_walk c P k s at x e h = owner_walk c at P (λ t o. P t) (store_owner c at P k) s x e h
