-- The laws of this crate.
use Rattle.std.specs.Prelude.{◌≡◌, true, List, Some, All}
use Rattle.pipeline_lang.specs.declared.config.Config.{Config}
use Rattle.rss_model.specs.Regular.{Regular}
use Rattle.rss_machine.specs.Places.{places_of, placed_calls, order_of}
use Rattle.rss_machine.specs.Run.{run, readings_of, history_of}
use Rattle.rss_machine.specs.State.{State}
use Rattle.rss_machine.specs.declared.step.Step.{Step}
use Rattle.world_laws.specs.Laws.{IsOrdered}
use Rattle.world_laws.specs.Numbered.{are_numbered}
use Rattle.world_laws.specs.Shapes.{IsSoundFile}

-- in every run the places of calls, over all services, are a regular order for the history
abbrev pub PlacesAreRegular : Type 0
PlacesAreRegular = (c : Config) (steps : List Step) (s : State) → IsSoundFile c → All IsOrdered (readings_of steps) → are_numbered steps ≡ true → run c steps ≡ Some s → Regular s.history (placed_calls (places_of s))

-- so they are for every list of steps; where one of them is refused there is no history, and no order
abbrev pub OrdersAreRegular : Type 0
OrdersAreRegular = (c : Config) (steps : List Step) → IsSoundFile c → All IsOrdered (readings_of steps) → are_numbered steps ≡ true → Regular (history_of c steps) (order_of c steps)
