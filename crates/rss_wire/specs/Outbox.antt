-- The requests of a session in one step, on their way to the net.
use Rattle.std.specs.Prelude.{ℕ, List}
use Rattle.rss_names.specs.declared.service.Target.{Target}
use Rattle.rss_wire.specs.declared.messages.Request.{Request}

-- an outbox as its callers see it: its requests in order, each with its target, and for how many more there is room
pub record OutboxView : Type 0 where
  pub requests : List (Target × Request)
  pub room : ℕ
