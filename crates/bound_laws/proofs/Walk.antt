-- The walk over all that a step does, for what owners send: a loss that is counted and the request that is sent
-- again for it are one move, so that what a request costs can be weighed against the loss.
use Rattle.std.proofs.Common.{◌≡◌, ℕ, ◌<◌, false, List, [], ◌∷◌, ◌++◌, length, Option, Some, None}
use Rattle.std.proofs.Math.ListN.{set}
use Rattle.truetime.specs.Reading.{Reading}
use Rattle.rss_names.specs.declared.attempt.Attempt.{Attempt}
use Rattle.rss_names.specs.declared.service.Target.{Target}
use Rattle.causal_context.specs.declared.dep.Dep.{Dep}
use Rattle.pipeline_lang.specs.declared.config.Config.{Config}
use Rattle.rss_wire.specs.declared.message.Fate.{Fate}
use Rattle.rss_wire.specs.declared.messages.Outcome.{Outcome}
use Rattle.rss_wire.specs.declared.messages.Request.{Request}
use Rattle.rss_wire.specs.declared.messages.Reply.TheVariants as reply
use Rattle.causal_context.specs.Deps.{given_dep}
use Rattle.rss_tables.specs.declared.register_session.RegEnd.TheVariants as ends
use Rattle.rss_tables.specs.Lines.{tells_decision}
use Rattle.rss_tables.specs.Outs.{Out}
use Rattle.rss_tables.specs.Works.{no_works}
use Rattle.rss_machine.specs.Moves.{marks_message, sends_one, sends, plans_stub, listens, counts_act, counts_loss, dies, closed}
use Rattle.rss_machine.specs.State.{State, Owner, stage_at, owner_at, opening_owner}
use Rattle.rss_machine.specs.declared.session.OwnerKind.TheVariants as kind
use Rattle.rss_machine.specs.declared.session.Session.TheVariants as session
use Rattle.rss_machine.specs.declared.state.OwnerFate.TheVariants.{Ended}
use Rattle.world_laws.proofs.Doings.{Changed, Heard, Beginning, Resting, Working, Leaving, Doing, register_reached, read_ends, write_ends}
use Rattle.world_laws.proofs.SessionMoves.{session_at, IsAgain}
use Rattle.rss_names.specs.declared.service.Target.TheVariants.{Shard, Replica}
use Rattle.rss_wire.specs.Messages.{message_at}
use Rattle.rss_machine.specs.Moves.{serves_shard, serves_replica, notes_served}
use Rattle.rss_names.specs.declared.service.ServiceId.{ServiceId}
use Rattle.world_laws.proofs.StoreMoves.{Serves}
use Rattle.world_laws.proofs.OwnerWalk.{walk}
use Rattle.world_laws.proofs.StageMoves.{AnyFate, DoingNotes, ended_to, owner_dies}
use Rattle.world_laws.proofs.TurnMoves.{WalkMoves, w_turns}
use Rattle.rss_machine.specs.Refusal.{kind_refusal}
use Rattle.rss_machine.specs.Effect.{effect}
use Rattle.rss_machine.specs.declared.step.StepKind.{StepKind}
use Rattle.std.specs.Prelude.{⊤}

-- what has to be shown of a predicate on states, and of one on states with an owner at rest: that it is kept
-- by all that owners do, and where a message meets a fate. `F` is what is known of a state in which nothing has happened in this step yet
pub record OwnerSteps (c : Config) (at : Reading) (F P : State → Type 0) (R : State → ℕ → Type 0) : Type 1 where
  pub counted : (s : State) (n : ℕ) → F s → F (counts_act s n)
  pub fates : (s : State) (m : ℕ) (f : Fate) → P s → P (marks_message s m f)
  pub again : (s : State) (o exchange slot : ℕ) (target : Target) (r : Request) → IsAgain (counts_loss s o target) o exchange slot target r → P s → P (sends_one (counts_loss s o target) o (record { slot = Some slot; target = target; request = r }))
  pub stages : (s t : State) → Changed [] s.owners s t → P s → P t
  pub dies : (s t : State) (n : ℕ) (u : Option (Attempt × List ℕ)) → Changed [] (s.owners ++ opening_owner n (kind.Stubbing u) false (no_works (stage_at s n).context) s.steps ∷ []) s t → P s → P t
  pub begins : (s t : State) (w : Owner) → Beginning c s w → F s → Changed [] (s.owners ++ w ∷ []) s t → P s → R t (length s.owners)
  pub rests : (s t : State) (o : ℕ) (w : Owner) → o < length s.owners → Resting s o w → Changed [] (set s.owners o w) s t → P s → R t o
  pub settles : (s : State) (o slot : ℕ) (attempt : Attempt) (shards : List ℕ) (outcome : Outcome) → o < length s.owners → session_at s o ≡ session.Settling attempt shards → Heard s o slot (reply.Decided outcome) → P s →
      R (plans_stub (sends (listens s o slot) o (tells_decision attempt outcome shards)) o) o
  pub settled : (s : State) (o : ℕ) → R s o → P s
  pub works : (s t : State) (o : ℕ) (w : Owner) → o < length s.owners → Working at s o w → Changed [] (set s.owners o w) s t → R s o → R t o
  pub leaves : (s t : State) (o : ℕ) (w : Owner) (outs : List Out) → o < length s.owners → Leaving c at s o w outs → Changed [] (set s.owners o w) s t → R s o → P (sends t o outs)
  pub does : (s t : State) (o : ℕ) (w : Owner) (outs : List Out) (new : List Dep) → Doing s o w outs new → Changed new (set s.owners o w) s t → P s → P (sends t o outs)

-- and where a shard or a replica serves a request
pub record StepKeeps (c : Config) (at : Reading) (F P : State → Type 0) (R : State → ℕ → Type 0) : Type 1 where
  pub moves : OwnerSteps c at F P R
  pub shards : (s : State) (m shard : ℕ) (r : Request) → Serves s m r (Shard shard) → P s → P (serves_shard s m shard at.latest r)
  pub replicas : (s : State) (m : ℕ) (service : ServiceId) (replica : ℕ) (r : Request) → Serves s m r (Replica service replica) → P s → P (notes_served (serves_replica s m service replica r) (message_at s.net m).envelope.owner service r)

-- a predicate on what owners have
module _ (c : Config) (at : Reading) (F P : State → Type 0) (R : State → ℕ → Type 0) (k : OwnerSteps c at F P R) where
  owner_does : (s t : State) (o : ℕ) (w : Owner) (outs : List Out) (new : List Dep) → AnyFate (owner_at s o).fate → (b : Doing s o w outs new) → DoingNotes c s o w outs new b t → Changed new (set s.owners o w) s t → P s → P (sends t o outs)
  owner_does s t o w outs new a b q d h = k.does s t o w outs new b d h

  owner_moves : WalkMoves c at AnyFate F P R (λ s o. P s)
  owner_moves = record {
    E = λ s o. ⊤;
    ready = λ s o x l e f h. tt;
    clears = λ s t o x r e i a b l d y z q n h m. tt;
    acting = λ s n o e h. tt;
    heard = λ s o slot exchange e h. tt;
    runs = λ f e. tt;
    counted = k.counted;
    fates = k.fates;
    again = λ s o exchange slot target r a d h. k.again s o exchange slot target r d h;
    stages = λ s t y d h. k.stages s t d h;
    dies = λ s n how f y h. owner_dies P k.dies k.does s n how f h;
    begins = λ s t w b y a d h. k.begins s t w b a d h;
    rests = λ s t o w i a b x q d h. k.rests s t o w i b d h;
    settles = λ s o slot attempt shards outcome i a e d h. k.settles s o slot attempt shards outcome i e d h;
    settled = k.settled;
    works = λ s t o w i b q d h. k.works s t o w i b d h;
    leaves = λ s t o w outs i b q y d h. k.leaves s t o w outs i b d h;
    does = λ s t o w outs new a b x y d h. k.does s t o w outs new b d h;
    reaches = λ s t o f slot r e i a x y z q d h. k.does s t o (ended_to s o f slot r) [] [] (register_reached f slot r e x y z) d h;
    reads = λ s t o f key cell dep a x y z q d h. k.does s t o (closed s o Ended) [] (given_dep dep) (read_ends f key cell dep x y z) d h;
    writes = λ s t o f key value stamp a x y z q d h. k.does s t o (closed s o Ended) [] [] (write_ends f key value (ends.Written stamp) x y z) d h;
    unfit = λ s o f e x y z h. h;
    turns = w_turns c at AnyFate P owner_does;
  }

-- every kind of step that is not refused
pub step_walk : (c : Config) (at : Reading) (F P : State → Type 0) (R : State → ℕ → Type 0) → StepKeeps c at F P R → (s : State) (x : StepKind) → kind_refusal c s at x ≡ None → F s → P s → P (effect c s at x)
step_walk c at F P R k = walk c at AnyFate F P R (λ t o. P t) (record { moves = owner_moves c at F P R k.moves; shards = k.shards; replicas = k.replicas })
