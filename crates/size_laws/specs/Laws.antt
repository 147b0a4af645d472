-- How great times are in every run, how much lies in pipes, and whom lines wait for.
use Rattle.std.specs.Prelude.{◌≡◌, ◌+◌, ◌^◌, List, Some}
use Rattle.std.specs.List.{All}
use Rattle.truetime.specs.Reading.{IsReading}
use Rattle.pipeline_lang.specs.declared.config.Config.{Config}
use Rattle.rss_machine.specs.Run.{run, readings_of}
use Rattle.rss_machine.specs.State.{State}
use Rattle.rss_machine.specs.declared.step.Step.{Step}
use Rattle.world_laws.specs.Shapes.{IsSoundFile}
use Rattle.world_laws.specs.Sizes.{HasRoom}
use Rattle.world_laws.specs.Times.{TimesUpTo}
use Rattle.size_laws.specs.Callers.{AllCalls}

-- what every run of a file that is sound keeps, whose readings can be
abbrev pub InReadRuns : (Config → State → Type 0) → Type 0
InReadRuns P = (c : Config) (steps : List Step) (s : State) → IsSoundFile c → All IsReading (readings_of steps) → run c steps ≡ Some s → P c s

-- no time is above the limit of readings and a step for each
abbrev pub TimesAreBounded : Type 0
TimesAreBounded = InReadRuns (λ (c : Config) (s : State). TimesUpTo (2 ^ 62 + s.steps) s)

-- pipes have room for what lies in them
abbrev pub PipesHaveRoom : Type 0
PipesHaveRoom = InReadRuns HasRoom

-- whom lines wait for are calls
abbrev pub LinesWaitForCalls : Type 0
LinesWaitForCalls = (c : Config) (steps : List Step) (s : State) → run c steps ≡ Some s → AllCalls s
