-- What the laws of this machine come to: every run of every file that is read keeps what every reported run owes.
use Rattle.std.specs.Prelude.{◌≡◌, true, List, Some}
use Rattle.std.specs.List.{All}
use Rattle.pipeline_lang.specs.declared.config.Config.{Config}
use Rattle.rss_machine.specs.Headline.{KeepsPromise}
use Rattle.rss_machine.specs.Run.{run, readings_of}
use Rattle.rss_machine.specs.State.{State}
use Rattle.rss_machine.specs.declared.step.Step.{Step}
use Rattle.world_laws.specs.Laws.{IsOrdered}
use Rattle.world_laws.specs.Numbered.{are_numbered}
use Rattle.world_laws.specs.Shapes.{IsSoundFile}

-- where each reading begins no later than it ends, and steps name stages by their numbers from 1
abbrev pub RunsKeepPromise : Type 0
RunsKeepPromise =
    (c : Config) (steps : List Step) (s : State) → IsSoundFile c → All IsOrdered (readings_of steps) → are_numbered steps ≡ true → run c steps ≡ Some s → KeepsPromise c steps
