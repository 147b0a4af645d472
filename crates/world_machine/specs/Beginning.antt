-- What a call or a fence statement needs that begins.
use Rattle.std.specs.Prelude.{◌≡◌, ℕ, ◌+◌, ◌<◌, ◌≤◌, ◌^◌, ◌++◌, length, true, Some, None, IsSome, option_to_list}
use Rattle.causal_context.specs.Seen.{Seen}
use Rattle.rss_model.specs.CallStatement.{op_of_statement}
use Rattle.rss_model.specs.declared.op.Op.{Op}
use Rattle.rss_tables.specs.Works.{plan_for, plan_all, planned}
use Rattle.rss_machine.specs.Enabling.{next_statement}
use Rattle.rss_machine.specs.Session.{service_of}
use Rattle.rss_machine.specs.State.{Owner, stage_at, opening_owner}
use Rattle.rss_machine.specs.declared.session.OwnerKind.TheVariants as kind
use Rattle.world_parts.specs.Halves.{adds_owner}
use Rattle.world_parts.specs.Parts.{stage_in}
use Rattle.world_stages.specs.View.{StagingView}
use Rattle.pipeline_lang.specs.declared.config.Config.{Config}
use Rattle.truetime.specs.Reading.{Reading}
use Rattle.owner_turns.specs.Whole.{FewReplicas}
use Rattle.world_traffic.specs.View.{TrafficView, next_of, made_of, CountsFit, HasRoomFor, IsQuiet}
use Rattle.world_machine.specs.declared.machine.Machine.{Machine}
use Rattle.world_machine.specs.Ending.{FenceRoom}
use Rattle.world_machine.specs.Machine.{state_of}

-- the owner that was made ready has begun, and there is room for so many more
abbrev pub opened : TrafficView → ℕ → TrafficView
opened v free = record v {
  traffic = adds_owner v.traffic (next_of v.next) (next_of v.next).works.left;
  each = v.each ++ option_to_list v.next;
  free = free;
  next = None;
}

-- this owner was made ready
pub record NextIs (v : TrafficView) (w : Owner) : Type 0 where
  pub next : next_of v.next ≡ w
  pub there : IsSome v.next
  pub free : 0 < v.free
  pub counts : CountsFit (length (next_of v.next).works.left) v.traffic.planned

-- the owner of a call, and of a fence statement, of a stage that has seen this
abbrev pub call_owner : ℕ → ℕ → Seen → Op → Owner
call_owner step n seen x = opening_owner n (kind.Calling x) true (planned seen (plan_for seen (service_of x))) step

abbrev pub fence_owner : ℕ → ℕ → Seen → Owner
fence_owner step n seen = opening_owner n kind.Fencing true (planned seen (plan_all seen)) step

-- there is room for the turn by which the owner that was made ready begins
pub record NextTurn (c : Config) (at : Reading) (t : TrafficView) : Type 0 where
  pub messages : 32 ≤ t.messages
  pub made : HasRoomFor c at None (made_of t.next) t.spare t.outbox
  pub quiet : IsQuiet t
  pub replicas : FewReplicas c
  pub few : length t.traffic.net + 32 < 2 ^ 32
  pub counts : CountsFit 32 t.traffic.planned

-- a call of a stage
pub record CallRoom (c : Config) (at : Reading) (v : StagingView) (t : TrafficView) (step n : ℕ) (x : Op) : Type 0 where
  pub entries : 1 ≤ v.room
  pub owner : NextIs t (call_owner step n (stage_in v.staging n).context x)
  pub turn : NextTurn c at t

-- the call of a stage's next statement is made ready
pub record CanBegin (m : Machine) (n : ℕ) (at : Reading) : Type 0 where
  pub operation : Op
  pub made : m.op ≡ Some operation
  pub room : CallRoom m.config at m.staging m.traffic m.clock.steps n operation
  pub same : op_of_statement (next_statement m.config (state_of m) n) (stage_at (state_of m) n).cursor.variables ≡ Some operation

-- a fence statement of a stage, and what the stage has seen where it ends at once
pub record FenceStart (c : Config) (at : Reading) (v : StagingView) (t : TrafficView) (step n : ℕ) : Type 0 where
  pub owner : NextIs t (fence_owner step n (stage_in v.staging n).context)
  pub turn : NextTurn c at t
  pub ends : FenceRoom v n (stage_in v.staging n).context

abbrev pub CanFence : Machine → ℕ → Reading → Type 0
CanFence m n at = FenceStart m.config at m.staging m.traffic m.clock.steps n
