-- What a message needs that comes.
use Rattle.std.specs.Prelude.{◌≡◌, ℕ, ◌<◌, true, Some, IsSome}
use Rattle.rss_wire.specs.declared.envelope.Envelope.{Envelope}
use Rattle.rss_wire.specs.declared.messages.Request.{Request}
use Rattle.rss_wire.specs.Messages.{message_at, envelope_at, request_at, reply_at}
use Rattle.rss_machine.specs.Slots.{slot_in}
use Rattle.truetime.specs.Reading.{Reading}
use Rattle.world_parts.specs.Parts.{owner_in}
use Rattle.world_stores.specs.StoresView.{is_ready_for}
use Rattle.world_traffic.specs.Turned.{said_in, hearing}
use Rattle.world_traffic.specs.View.{IsBegun, HasTurnRoom}
use Rattle.world_machine.specs.declared.machine.Machine.{Machine}
use Rattle.world_machine.specs.Ending.{CanEnd}
use Rattle.world_machine.specs.Serving.{IsServable}
use Rattle.world_machine.specs.Turning.{CanListen}

-- the reply of a current exchange can be heard
abbrev pub CanHear : Machine → ℕ → Envelope → Reading → Type 0
CanHear m number e at =
    (slot : ℕ) → slot_in (owner_in m.traffic.traffic e.owner).currents e.exchange ≡ Some slot → CanListen m e.owner slot number at

-- there is room to hear it
pub record ListenRoom (m : Machine) (o slot number : ℕ) (at : Reading) : Type 0 where
  pub room : HasTurnRoom m.config at m.traffic o (Some (said_in m.traffic.traffic.net number))
  pub ends : CanEnd m o (hearing m.config o m.clock.steps at slot number m.traffic.traffic).ending

abbrev pub HearRoom : Machine → ℕ → Envelope → Reading → Type 0
HearRoom m number e at =
    (slot : ℕ) → slot_in (owner_in m.traffic.traffic e.owner).currents e.exchange ≡ Some slot → ListenRoom m e.owner slot number at

-- there is room for a message that comes: a request is served and answered, a reply is heard
pub record ComeRoom (m : Machine) (number : ℕ) (at : Reading) : Type 0 where
  pub served : (r : Request) → request_at m.traffic.traffic.net number ≡ Some r → is_ready_for m.stores (message_at m.traffic.traffic.net number).envelope.target r ≡ true
  pub messages : 0 < m.traffic.messages
  pub heard : IsSome (reply_at m.traffic.traffic.net number) → HearRoom m number (message_at m.traffic.traffic.net number).envelope at

-- a message that was sent can come
pub record CanCome (m : Machine) (number : ℕ) (e : Envelope) (at : Reading) : Type 0 where
  pub sent : envelope_at m.traffic.traffic.net number ≡ Some e
  pub begun : IsBegun m.traffic.traffic e.owner
  pub servable : IsSome (request_at m.traffic.traffic.net number) → IsServable m number e.target
  pub heard : IsSome (reply_at m.traffic.traffic.net number) → CanHear m number e at
