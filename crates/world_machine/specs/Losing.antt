-- What the loss of a message needs.
use Rattle.std.specs.Prelude.{◌≡◌, ℕ, ◌<◌, None}
use Rattle.rss_wire.specs.Messages.{message_at, request_at}
use Rattle.rss_wire.specs.Net.{lose_refusal}
use Rattle.world_traffic.specs.View.{IsBegun, MayLose}
use Rattle.world_machine.specs.declared.machine.Machine.{Machine}
use Rattle.world_machine.specs.Dying.{CanLose}

pub record CanBear (m : Machine) (number : ℕ) : Type 0 where
  pub pending : lose_refusal m.traffic.traffic.net number ≡ None
  pub may : MayLose m.traffic.traffic (message_at m.traffic.traffic.net number).envelope
  pub messages : 0 < m.traffic.messages
  pub again : m.traffic.again ≡ request_at m.traffic.traffic.net (message_at m.traffic.traffic.net number).envelope.exchange
  pub begun : IsBegun m.traffic.traffic (message_at m.traffic.traffic.net number).envelope.owner
  pub lost : CanLose m (message_at m.traffic.traffic.net number).envelope.owner
