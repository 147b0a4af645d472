-- Predicates that stand on others, over the walk that weighs requests against losses.
use Rattle.std.proofs.Common.{◌≡◌, ℕ, ◌<◌, false, List, [], ◌∷◌, ◌++◌, length, Option, Some, refl}
use Rattle.std.proofs.Math.ListN.{set}
use Rattle.truetime.specs.Reading.{Reading}
use Rattle.rss_names.specs.declared.attempt.Attempt.{Attempt}
use Rattle.rss_names.specs.declared.service.ServiceId.{ServiceId}
use Rattle.rss_names.specs.declared.service.Target.{Target}
use Rattle.rss_names.specs.declared.service.Target.TheVariants.{Shard, Replica}
use Rattle.causal_context.specs.declared.dep.Dep.{Dep}
use Rattle.pipeline_lang.specs.declared.config.Config.{Config}
use Rattle.rss_wire.specs.declared.message.Fate.{Fate}
use Rattle.rss_wire.specs.declared.messages.Outcome.{Outcome}
use Rattle.rss_wire.specs.declared.messages.Request.{Request}
use Rattle.rss_wire.specs.declared.messages.Reply.TheVariants as reply
use Rattle.rss_wire.specs.Messages.{message_at}
use Rattle.world_laws.proofs.StoreMoves.{Serves}
use Rattle.rss_tables.specs.Lines.{tells_decision}
use Rattle.rss_tables.specs.Outs.{Out}
use Rattle.rss_machine.specs.Moves.{marks_message, sends_one, sends, counts_loss, counts_act, serves_shard, serves_replica, notes_served, plans_stub, listens}
use Rattle.rss_machine.specs.State.{State, Owner, stage_at}
use Rattle.rss_machine.specs.declared.session.OwnerKind.TheVariants as kind
use Rattle.rss_machine.specs.declared.session.Session.TheVariants as session
use Rattle.rss_tables.specs.Works.{no_works}
use Rattle.rss_machine.specs.State.{opening_owner}
use Rattle.world_laws.proofs.Doings.{Changed, Heard, Beginning, Resting, Working, Leaving, Doing, counts_one}
use Rattle.world_laws.proofs.SessionMoves.{session_at, IsAgain}
use Rattle.world_laws.proofs.OwnerMoves.{OwnerKeeps, kept_changed}
use Rattle.bound_laws.proofs.Walk.{StepKeeps}

-- what has to be shown of a predicate, where others are known
pub record StepKeepsUnder (c : Config) (at : Reading) (F S : State → Type 0) (T : State → ℕ → Type 0) (P : State → Type 0) (R : State → ℕ → Type 0) : Type 1 where
  pub counted : (s : State) (n : ℕ) → F s → F (counts_act s n)
  pub fates : (s : State) (m : ℕ) (f : Fate) → S s → P s → P (marks_message s m f)
  pub shards : (s : State) (m shard : ℕ) (r : Request) → Serves s m r (Shard shard) → S s → P s → P (serves_shard s m shard at.latest r)
  pub replicas : (s : State) (m : ℕ) (service : ServiceId) (replica : ℕ) (r : Request) → Serves s m r (Replica service replica) → S s → P s → P (notes_served (serves_replica s m service replica r) (message_at s.net m).envelope.owner service r)
  pub again : (s : State) (o exchange slot : ℕ) (target : Target) (r : Request) → IsAgain (counts_loss s o target) o exchange slot target r → S s → P s → P (sends_one (counts_loss s o target) o (record { slot = Some slot; target = target; request = r }))
  pub stages : (s t : State) → Changed [] s.owners s t → S s → P s → P t
  pub dies : (s t : State) (n : ℕ) (u : Option (Attempt × List ℕ)) → Changed [] (s.owners ++ opening_owner n (kind.Stubbing u) false (no_works (stage_at s n).context) s.steps ∷ []) s t → S s → P s → P t
  pub begins : (s t : State) (w : Owner) → Beginning c s w → F s → Changed [] (s.owners ++ w ∷ []) s t → S s → P s → R t (length s.owners)
  pub rests : (s t : State) (o : ℕ) (w : Owner) → o < length s.owners → Resting s o w → Changed [] (set s.owners o w) s t → S s → P s → R t o
  pub settles : (s : State) (o slot : ℕ) (attempt : Attempt) (shards : List ℕ) (outcome : Outcome) → o < length s.owners → session_at s o ≡ session.Settling attempt shards → Heard s o slot (reply.Decided outcome) → S s → P s →
      R (plans_stub (sends (listens s o slot) o (tells_decision attempt outcome shards)) o) o
  pub settled : (s : State) (o : ℕ) → T s o → R s o → P s
  pub works : (s t : State) (o : ℕ) (w : Owner) → o < length s.owners → Working at s o w → Changed [] (set s.owners o w) s t → T s o → R s o → R t o
  pub leaves : (s t : State) (o : ℕ) (w : Owner) (outs : List Out) → o < length s.owners → Leaving c at s o w outs → Changed [] (set s.owners o w) s t → T s o → R s o → P (sends t o outs)
  pub does : (s t : State) (o : ℕ) (w : Owner) (outs : List Out) (new : List Dep) → Doing s o w outs new → Changed new (set s.owners o w) s t → S s → P s → P (sends t o outs)

-- one predicate on another
pub stacked_steps : (c : Config) (at : Reading) (F S : State → Type 0) (T : State → ℕ → Type 0) (P : State → Type 0) (R : State → ℕ → Type 0) → OwnerKeeps c at S T → StepKeepsUnder c at F S T P R → StepKeeps c at F (λ s. S s × P s) (λ s o. T s o × R s o)
stacked_steps c at F S T P R a b = record {
  shards = λ s m shard r d h. (a.shards s m shard r d h.0, b.shards s m shard r d h.0 h.1);
  replicas = λ s m service replica r d h. (a.replicas s m service replica r d h.0, b.replicas s m service replica r d h.0 h.1);
  moves = record {
    counted = b.counted;
    fates = λ s m f h. (a.moves.fates s m f h.0, b.fates s m f h.0 h.1);
    again = λ s o exchange slot target r d h. (a.moves.again (counts_loss s o target) o exchange slot target r d (a.moves.does s (counts_loss s o target) o _ [] [] (counts_one target) (kept_changed s o _ refl) h.0), b.again s o exchange slot target r d h.0 h.1);
    stages = λ s t d h. (a.moves.stages s t d h.0, b.stages s t d h.0 h.1);
    dies = λ s t n u d h. (a.moves.dies s t n u d h.0, b.dies s t n u d h.0 h.1);
    begins = λ s t w y x d h. (a.moves.begins s t w y d h.0, b.begins s t w y x d h.0 h.1);
    rests = λ s t o w i y d h. (a.moves.rests s t o w i y d h.0, b.rests s t o w i y d h.0 h.1);
    settles = λ s o slot x shards outcome i e d h. (a.moves.settles s o slot x shards outcome i e d h.0, b.settles s o slot x shards outcome i e d h.0 h.1);
    settled = λ s o h. (a.moves.settled s o h.0, b.settled s o h.0 h.1);
    works = λ s t o w i y d h. (a.moves.works s t o w i y d h.0, b.works s t o w i y d h.0 h.1);
    leaves = λ s t o w outs i y d h. (a.moves.leaves s t o w outs i y d h.0, b.leaves s t o w outs i y d h.0 h.1);
    does = λ s t o w outs new y d h. (a.moves.does s t o w outs new y d h.0, b.does s t o w outs new y d h.0 h.1);
  };
}
