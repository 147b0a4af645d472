-- A move of one part leaves the others as they are, and a move over two parts is its two halves.
use Rattle.std.specs.Prelude.{◌≡◌, ℕ, List, [], ◌∷◌, length, Option, Some, None}
use Rattle.causal_context.specs.Seen.{Seen, fenced_outside}
use Rattle.pipeline_lang.specs.declared.config.Config.{Config}
use Rattle.pipeline_lang.specs.declared.config.PipeEnds.{PipeEnds}
use Rattle.rss_names.specs.declared.service.ServiceId.{ServiceId}
use Rattle.rss_names.specs.declared.service.Target.{Target}
use Rattle.rss_model.specs.Cursor.{Cursor}
use Rattle.rss_model.specs.declared.history.Entry.TheVariants.{Begin, End}
use Rattle.rss_model.specs.declared.history.How.{How}
use Rattle.rss_model.specs.declared.op.Op.{Op}
use Rattle.rss_model.specs.declared.op.Shown.{Shown}
use Rattle.rss_wire.specs.declared.message.Fate.{Fate}
use Rattle.rss_wire.specs.declared.messages.Request.{Request}
use Rattle.rss_tables.specs.Outs.{Out}
use Rattle.rss_tables.specs.ReplicaRow.{replica_reply}
use Rattle.rss_tables.specs.ShardRow.{shard_reply}
use Rattle.rss_tables.specs.Works.{plan_for, plan_all}
use Rattle.rss_tables.specs.declared.fences.FenceWork.{FenceWork}
use Rattle.rss_machine.specs.Moves.{with_owner, sends, counts_fences, marks_message, counts_loss, cuts_off, closed, opens_call, opens_fence, ends_call, ends_fence, dies, ends_stub, loses_stub, closes_from, cuts_from, gives_exit, serves_shard, serves_replica, notes_served}
use Rattle.rss_machine.specs.Session.{service_of}
use Rattle.rss_machine.specs.State.{State, Owner}
use Rattle.rss_machine.specs.declared.session.OwnerKind.TheVariants as kind
use Rattle.rss_machine.specs.declared.state.OwnerFate.{OwnerFate}
use Rattle.rss_machine.specs.declared.state.OwnerFate.TheVariants.{Ended, CutOff}
use Rattle.world_parts.specs.Parts.{Clock, Staging, Traffic, Stores, assembled, in_staging, in_traffic, stage_in, owner_in}
use Rattle.world_parts.specs.Halves.{opens_owner, opens_stub, closes_in, closes_left, unsettled_in, closes_stub_in, answers_in, notes_stored, has_owner, behind_owner, leaves_stub, served_shard, served_replica, noted_marks, shard_in, cells_in}

-- a move of owners and the net leaves the other parts as they are, whatever the step
abbrev pub MovesTraffic : (State → State) → Type 0
MovesTraffic f = (step : ℕ) (k : Clock) (g : Staging) (t : Traffic) (d : Stores) → f (assembled k g t d) ≡ assembled k g (in_traffic step f t) d

-- a move of stages, pipes and the history leaves the other parts as they are
abbrev pub MovesStaging : (State → State) → Type 0
MovesStaging f = (k : Clock) (g : Staging) (t : Traffic) (d : Stores) → f (assembled k g t d) ≡ assembled k (in_staging f g) t d

-- moves of owners and the net
pub record TrafficMoves : Type 0 where
  pub put : (o : ℕ) (w : Owner) → MovesTraffic (λ (s : State). with_owner s o w)
  pub counted : (fences : List (ServiceId × FenceWork)) → MovesTraffic (λ (s : State). record s { planned = counts_fences fences s.planned })
  pub sent : (o : ℕ) (outs : List Out) → MovesTraffic (λ (s : State). sends s o outs)
  pub turned : (o : ℕ) (w : Owner) (fences : List (ServiceId × FenceWork)) (outs : List Out) → MovesTraffic (λ (s : State). sends (record (with_owner s o w) { planned = counts_fences fences s.planned }) o outs)
  pub marked : (m : ℕ) (fate : Fate) → MovesTraffic (λ (s : State). marks_message s m fate)
  pub lost : (o : ℕ) (target : Target) → MovesTraffic (λ (s : State). counts_loss s o target)
  pub cut : (o : ℕ) (target : Target) → MovesTraffic (λ (s : State). cuts_off s o target)

-- moves of stages, pipes and the history
pub record StagingMoves : Type 0 where
  pub closed : (c : Config) (n : ℕ) (seen : Seen) (p : ℕ) (ends : List PipeEnds) → MovesStaging (λ (s : State). closes_from c s n seen p ends)
  pub cut : (c : Config) (n p : ℕ) (ends : List PipeEnds) → MovesStaging (λ (s : State). cuts_from c s n p ends)
  pub exit : (c : Config) (n : ℕ) (seen : Seen) → MovesStaging (λ (s : State). gives_exit c s n seen)

-- moves over two parts, in halves
pub record SplitMoves (k : Clock) (g : Staging) (t : Traffic) (d : Stores) : Type 0 where
  pub opens-call : (n : ℕ) (op : Op) → opens_call (assembled k g t d) n op
      ≡ assembled k (has_owner g n (length t.owners) (Begin (length t.owners) n op ∷ [])) (opens_owner k.steps t n (kind.Calling op) (stage_in g n).context (plan_for (stage_in g n).context (service_of op))) d
  pub opens-fence : (n : ℕ) → opens_fence (assembled k g t d) n
      ≡ assembled k (record g { stages = (has_owner g n (length t.owners) []).stages }) (opens_owner k.steps t n kind.Fencing (stage_in g n).context (plan_all (stage_in g n).context)) d
  pub ends-call : (o : ℕ) (shown : List Shown) (cursor : Cursor) (seen : Seen) → ends_call (assembled k g t d) o shown cursor seen
      ≡ assembled k (behind_owner g (owner_in t o).stage cursor seen (End o shown ∷ [])) (closes_in k.steps t o Ended) d
  pub ends-fence : (o : ℕ) (cursor : Cursor) (seen : Seen) → ends_fence (assembled k g t d) o cursor seen
      ≡ assembled k (record g { stages = (behind_owner g (owner_in t o).stage cursor seen []).stages }) (closes_in k.steps t o Ended) d
  pub dies : (n : ℕ) (how : How) (f : OwnerFate) → dies (assembled k g t d) n how f
      ≡ assembled k (leaves_stub g n how (length (closes_left k.steps t (stage_in g n).owner f).owners)) (opens_stub k.steps (closes_left k.steps t (stage_in g n).owner f) n (unsettled_in t (stage_in g n).owner) (stage_in g n).context) d
  pub ends-stub : (c : Config) (o : ℕ) → ends_stub c (assembled k g t d) o
      ≡ assembled k (in_staging (λ (s : State). gives_exit c s (owner_in t o).stage (fenced_outside (owner_in t o).works.copy)) g) (closes_stub_in k.steps t o) d
  pub loses-stub : (c : Config) (o : ℕ) (target : Target) → loses_stub c (assembled k g t d) o target
      ≡ assembled k (in_staging (λ (s : State). cuts_from c s (owner_in t o).stage 1 c.pipe_ends) g) (closes_in k.steps t o (CutOff target)) d
  pub serves-shard : (m shard latest : ℕ) (r : Request) → serves_shard (assembled k g t d) m shard latest r
      ≡ assembled k g (answers_in t m (shard_reply (shard_in d shard) latest r)) (served_shard d shard latest r)
  pub serves-replica : (m : ℕ) (service : ServiceId) (replica : ℕ) (r : Request) → serves_replica (assembled k g t d) m service replica r
      ≡ assembled k g (answers_in t m (replica_reply (cells_in d service replica) r)) (served_replica d service replica r)
  pub notes-served : (o : ℕ) (service : ServiceId) (r : Request) → notes_served (assembled k g t d) o service r
      ≡ assembled k g (notes_stored t o r) (noted_marks k.steps d service r)

abbrev pub MovesSplit : Type 0
MovesSplit = (k : Clock) (g : Staging) (t : Traffic) (d : Stores) → SplitMoves k g t d
