-- What messages are with, and what shards are asked about.
use Rattle.std.specs.Prelude.{◌≡◌, List, Some}
use Rattle.std.specs.List.{All}
use Rattle.pipeline_lang.specs.declared.config.Config.{Config}
use Rattle.rss_machine.specs.Run.{run, readings_of}
use Rattle.rss_machine.specs.State.{State}
use Rattle.rss_machine.specs.declared.step.Step.{Step}
use Rattle.world_laws.specs.Laws.{IsOrdered}
use Rattle.world_laws.specs.Shapes.{IsSoundFile}
use Rattle.world_laws.specs.Traffic.{TargetsFit}

-- messages are with targets of the file, and shards are asked about their own keys
abbrev pub RequestsFitTargets : Type 0
RequestsFitTargets = (c : Config) (steps : List Step) (s : State) → IsSoundFile c → All IsOrdered (readings_of steps) → run c steps ≡ Some s → TargetsFit c s

-- what every run of a file that is sound keeps, whose readings begin no later than they end
abbrev pub InRunsOf : (Config → State → Type 0) → Type 0
InRunsOf P = (c : Config) (steps : List Step) (s : State) → IsSoundFile c → All IsOrdered (readings_of steps) → run c steps ≡ Some s → P c s

-- and what says nothing of the file
abbrev pub InRuns : (State → Type 0) → Type 0
InRuns P = (c : Config) (steps : List Step) (s : State) → IsSoundFile c → All IsOrdered (readings_of steps) → run c steps ≡ Some s → P s
