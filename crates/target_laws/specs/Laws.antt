-- Which shards messages are with.
use Rattle.std.specs.Prelude.{◌≡◌, List, Some}
use Rattle.std.specs.List.{All}
use Rattle.pipeline_lang.specs.declared.config.Config.{Config}
use Rattle.rss_machine.specs.Run.{run, readings_of}
use Rattle.rss_machine.specs.State.{State}
use Rattle.rss_machine.specs.declared.step.Step.{Step}
use Rattle.world_laws.specs.Laws.{IsOrdered}
use Rattle.world_laws.specs.Shapes.{IsSoundFile}
use Rattle.world_laws.specs.Targets.{ShardsHavePlaces}
use Rattle.target_laws.specs.InFile.{TargetsIn}

-- each message with a shard is with one of the file, and who is named as a coordinator is one
abbrev pub ShardsAreTheFiles : Type 0
ShardsAreTheFiles = (c : Config) (steps : List Step) (s : State) → IsSoundFile c → All IsOrdered (readings_of steps) → run c steps ≡ Some s → TargetsIn c s

-- so each has a place
abbrev pub TargetsHavePlaces : Type 0
TargetsHavePlaces = (c : Config) (steps : List Step) (s : State) → IsSoundFile c → All IsOrdered (readings_of steps) → run c steps ≡ Some s → ShardsHavePlaces s
