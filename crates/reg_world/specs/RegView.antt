-- The register services as callers see them.
use Rattle.std.specs.Prelude.{Bool, List}
use Rattle.rss_wire.specs.declared.messages.RegReply.{RegReply}
use Rattle.rss_machine.specs.declared.state.Mark.{Mark}

-- what each replica of each service holds of each register; of each register, when a majority first
-- held which stamp; whether each register has room for one more mark, and whether all have
pub record RegView : Type 0 where
  pub replicas : List (List (List RegReply))
  pub marks : List (List Mark)
  pub rooms : List Bool
  pub room : Bool
