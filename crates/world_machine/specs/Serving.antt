-- Which requests are stores of their owners, and when a request can be served.
use Rattle.std.specs.Prelude.{◌≡◌, ℕ, ◌<◌, ◌^◌, Bool, true, false, length, IfSome}
use Rattle.rss_names.specs.declared.service.Target.{Target}
use Rattle.rss_names.specs.declared.service.Target.TheVariants.{Shard, Replica}
use Rattle.rss_wire.specs.declared.messages.Request.{Request}
use Rattle.rss_wire.specs.Messages.{is_asked, request_at}
use Rattle.rss_machine.specs.Marks.{is_store}
use Rattle.world_stores.specs.StoresView.{is_ready_for, is_timely, IsThere}
use Rattle.world_machine.specs.declared.machine.Machine.{Machine}

-- whether a request at a target stores what its owner writes
abbrev pub stores_at : Target → Request → Bool
stores_at (Shard shard) r = false
stores_at (Replica service replica) r = is_store r

-- a request can be served at its target, and answered
pub record IsServable (m : Machine) (number : ℕ) (target : Target) : Type 0 where
  pub here : IsThere m.stores.stores.shards target
  pub room : IfSome (request_at m.traffic.traffic.net number) (λ r. is_ready_for m.stores target r ≡ true)
  pub timely : IfSome (request_at m.traffic.traffic.net number) (λ r. is_timely target r ≡ true)
  pub asked : is_asked m.traffic.traffic.net number ≡ true
  pub messages : 0 < m.traffic.messages
  pub few : length m.traffic.traffic.net < 2 ^ 32
