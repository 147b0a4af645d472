-- How much there is of everything in every run.
use Rattle.std.specs.Prelude.{◌≡◌, List, Some}
use Rattle.pipeline_lang.specs.declared.config.Config.{Config}
use Rattle.rss_machine.specs.Run.{run}
use Rattle.rss_machine.specs.State.{State}
use Rattle.rss_machine.specs.declared.step.Step.{Step}
use Rattle.world_laws.specs.Shapes.{IsSoundFile}
use Rattle.world_laws.specs.Sizes.{FitsSizes}

-- every state of a run fits its number of steps
abbrev pub SizesAreCounted : Type 0
SizesAreCounted = (c : Config) (steps : List Step) (s : State) → IsSoundFile c → run c steps ≡ Some s → FitsSizes c s
