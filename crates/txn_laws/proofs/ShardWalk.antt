-- The walk over what a step does to the stores, where what shards serve is known to be served at the step's reading.
use Rattle.std.proofs.Common.{◌≡◌, ℕ, List, [], ◌∷◌, Some, None, refl}
use Rattle.truetime.specs.Reading.{Reading}
use Rattle.rss_names.specs.declared.service.ServiceId.{ServiceId}
use Rattle.rss_names.specs.declared.service.Target.TheVariants.{Shard, Replica}
use Rattle.pipeline_lang.specs.declared.config.Config.{Config}
use Rattle.rss_wire.specs.declared.message.Fate.{Fate}
use Rattle.rss_wire.specs.declared.messages.Request.{Request}
use Rattle.rss_wire.specs.Messages.{message_at}
use Rattle.rss_tables.specs.Lines.{tells_decision}
use Rattle.rss_tables.specs.Outs.{Out}
use Rattle.rss_machine.specs.Effect.{effect}
use Rattle.rss_machine.specs.Moves.{marks_message, sends_one, sends, plans_stub, listens, serves_shard, serves_replica, notes_served}
use Rattle.rss_machine.specs.Refusal.{kind_refusal}
use Rattle.rss_machine.specs.State.{State}
use Rattle.rss_machine.specs.declared.step.StepKind.{StepKind}
use Rattle.world_laws.proofs.StoreMoves.{SameStores, Serves}
use Rattle.world_laws.proofs.OwnerMoves.{OwnerKeeps}
use Rattle.world_laws.proofs.OwnerWalk.{owner_walk}

-- what has to be shown of a predicate: that these moves keep it
pub record ShardKeeps (at : Reading) (P : State → Type 0) : Type 0 where
  pub fates : (s : State) (m : ℕ) (f : Fate) → P s → P (marks_message s m f)
  pub sends : (s : State) (o : ℕ) (out : Out) → P s → P (sends_one s o out)
  pub shards : (s : State) (m shard : ℕ) (r : Request) → Serves s m r (Shard shard) → P s → P (serves_shard s m shard at.latest r)
  pub replicas : (s : State) (m : ℕ) (service : ServiceId) (replica : ℕ) (r : Request) → Serves s m r (Replica service replica) → P s → P (notes_served (serves_replica s m service replica r) (message_at s.net m).envelope.owner service r)
  pub others : (s t : State) → SameStores s t → P s → P t

module _ (c : Config) (at : Reading) (P : State → Type 0) (k : ShardKeeps at P) where
  all_sent : (o : ℕ) (outs : List Out) (s : State) → P s → P (sends s o outs)
  all_sent o [] s p = p
  all_sent o (out ∷ outs) s p = all_sent o outs (sends_one s o out) (k.sends s o out p)

  pub shard_owner : OwnerKeeps c at P (λ s o. P s)
  shard_owner = record {
    shards = k.shards;
    replicas = k.replicas;
    moves = record {
      fates = k.fates;
      again = λ s o exchange slot target r d p. k.sends s o (record { slot = Some slot; target = target; request = r }) p;
      stages = λ s t d p. k.others s t d.stores p;
      dies = λ s t n u d p. k.others s t d.stores p;
      begins = λ s t w b d p. k.others s t d.stores p;
      rests = λ s t o w i b d p. k.others s t d.stores p;
      settles = λ s o slot a shards outcome i e d p.
          let u = sends (listens s o slot) o (tells_decision a outcome shards) in
          k.others u (plans_stub u o) (record { steps = refl; moment = refl; moments = refl; net = refl; shards = refl; replicas = refl; marks = refl })
          (all_sent o (tells_decision a outcome shards) (listens s o slot) (k.others s (listens s o slot) (record { steps = refl; moment = refl; moments = refl; net = refl; shards = refl; replicas = refl; marks = refl }) p));
      settled = λ s o p. p;
      works = λ s t o w i b d p. k.others s t d.stores p;
      leaves = λ s t o w outs i b d p. all_sent o outs t (k.others s t d.stores p);
      does = λ s t o w outs new b d p. all_sent o outs t (k.others s t d.stores p);
    };
  }

-- every kind of step that is not refused
pub shard_walk : (c : Config) (P : State → Type 0) (s : State) (at : Reading) (x : StepKind) → ShardKeeps at P → kind_refusal c s at x ≡ None → P s → P (effect c s at x)
shard_walk c P s at x k e h = owner_walk c at P (λ t o. P t) (shard_owner c at P k) s x e h
