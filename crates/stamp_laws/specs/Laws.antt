-- How great stamps are in every run.
use Rattle.std.specs.Prelude.{◌≡◌, List, Some}
use Rattle.pipeline_lang.specs.declared.config.Config.{Config}
use Rattle.rss_machine.specs.Run.{run}
use Rattle.rss_machine.specs.State.{State}
use Rattle.rss_machine.specs.declared.step.Step.{Step}
use Rattle.world_laws.specs.Stamps.{StampsUpTo}

-- no stamp has a number above that of the steps
abbrev pub StampsAreBounded : Type 0
StampsAreBounded = (c : Config) (steps : List Step) (s : State) → run c steps ≡ Some s → StampsUpTo s.steps s
