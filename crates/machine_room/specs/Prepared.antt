-- Room that is made before a step.
use Rattle.std.specs.Prelude.{◌≡◌, ℕ, ◌<◌, ◌≤◌, ⊤, true, false, Option, Some, None, IsSome, is_some}
use Rattle.causal_context.specs.Seen.{Seen}
use Rattle.pipeline_lang.specs.declared.config.Config.{Config}
use Rattle.truetime.specs.Reading.{Reading}
use Rattle.rss_wire.specs.declared.envelope.Envelope.{Envelope}
use Rattle.rss_wire.specs.Messages.{request_at, reply_at}
use Rattle.rss_wire.specs.declared.messages.Request.{Request}
use Rattle.rss_machine.specs.Slots.{slot_in}
use Rattle.rss_machine.specs.Session.{left_unsettled}
use Rattle.rss_machine.specs.State.{Owner}
use Rattle.rss_machine.specs.declared.session.OwnerKind.{OwnerKind}
use Rattle.rss_machine.specs.declared.session.OwnerKind.TheVariants as kind
use Rattle.owner_turns.specs.Whole.{KindFits}
use Rattle.world_laws.specs.Calls.{is_stub}
use Rattle.world_parts.specs.Parts.{Traffic, owner_in}
use Rattle.world_stores.specs.StoresView.{StoresView, is_ready_for}
use Rattle.world_stages.specs.View.{StagingView}
use Rattle.world_traffic.specs.Turned.{said_in}
use Rattle.world_traffic.specs.View.{TrafficView, HasTurnRoom}
use Rattle.world_machine.specs.Ending.{FenceRoom, StubRoom}
use Rattle.world_machine.specs.Rooms.{DeathIn}

-- what an owner of a kind may need where its turn ends it, but for an entry
abbrev pub KindRoom : Config → StagingView → ℕ → Seen → OwnerKind → Type 0
KindRoom c v n copy (kind.Calling x) = ⊤
KindRoom c v n copy kind.Fencing = FenceRoom v n copy
KindRoom c v n copy (kind.Stubbing unsettled) = StubRoom c v copy

-- room for each end that a turn of this owner can have
pub record EndsRoom (c : Config) (v : StagingView) (w : Owner) : Type 0 where
  pub entry : 1 ≤ v.room
  pub kind : KindRoom c v w.stage w.works.copy w.kind

-- room for the loss of a message with this outside
pub record LossIn (v : StagingView) (t : TrafficView) (step : ℕ) (e : Envelope) : Type 0 where
  pub messages : 0 < t.messages
  pub again : t.again ≡ request_at t.traffic.net e.exchange
  pub death : is_stub (owner_in t.traffic e.owner).kind ≡ false → DeathIn v t step (owner_in t.traffic e.owner).stage

-- room for a turn in which an owner hears what a message says
pub record HearIn (c : Config) (at : Reading) (v : StagingView) (t : TrafficView) (o message : ℕ) : Type 0 where
  pub room : HasTurnRoom c at t o (Some (said_in t.traffic.net message))
  pub ends : EndsRoom c v (owner_in t.traffic o)

-- what each owner would leave unsettled is few enough to settle
pub record LeavesFit (t : Traffic) : Type 0 where
  pub fits : (o : ℕ) → KindFits (kind.Stubbing (left_unsettled (owner_in t o).session))

-- room for a message with this outside that comes
pub record ComeIn (c : Config) (at : Reading) (v : StagingView) (t : TrafficView) (d : StoresView) (number : ℕ) (e : Envelope) : Type 0 where
  pub served : (r : Request) → request_at t.traffic.net number ≡ Some r → is_ready_for d e.target r ≡ true
  pub messages : 0 < t.messages
  pub heard : IsSome (reply_at t.traffic.net number) → is_some (slot_in (owner_in t.traffic e.owner).currents e.exchange) ≡ true → HearIn c at v t e.owner number

-- room for a turn of an owner by itself
pub record TurnIn (c : Config) (at : Reading) (v : StagingView) (t : TrafficView) (o : ℕ) : Type 0 where
  pub turn : HasTurnRoom c at t o None
  pub ends : EndsRoom c v (owner_in t.traffic o)

-- room for a turn of an owner, if there is one
abbrev pub TurnIf : Config → Reading → StagingView → TrafficView → Option ℕ → Type 0
TurnIf c at v t None = ⊤
TurnIf c at v t (Some o) = TurnIn c at v t o
