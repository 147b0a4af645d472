-- The machine's state, read from the parts that the code keeps.
use Rattle.std.specs.Prelude.{◌≡◌}
use Rattle.pipeline_lang.specs.declared.config.Config.{Config}
use Rattle.rss_machine.specs.State.{State, start}
use Rattle.world_parts.specs.Parts.{assembled}
use Rattle.world_machine.specs.Clock.{clock_in}
use Rattle.world_machine.specs.declared.machine.Machine.{Machine}

abbrev pub state_of : Machine → State
state_of m = assembled (clock_in m.clock) m.staging.staging m.traffic.traffic m.stores.stores

-- the parts before the first step of a file
pub record IsOpening (m : Machine) (c : Config) : Type 0 where
  pub config : m.config ≡ c
  pub state : state_of m ≡ start c

-- only room was made
pub record SameButRoom (old new : Machine) : Type 0 where
  pub config : new.config ≡ old.config
  pub state : state_of new ≡ state_of old
