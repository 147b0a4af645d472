-- What holds of the places of calls, in every run.
use Rattle.std.specs.Prelude.{◌≡◌, true, List, Some}
use Rattle.pipeline_lang.specs.declared.config.Config.{Config}
use Rattle.rss_model.specs.Regular.{Regular}
use Rattle.rss_machine.specs.Places.{places_of, placed_calls, order_of}
use Rattle.rss_machine.specs.Run.{run, history_of}
use Rattle.rss_machine.specs.State.{State}
use Rattle.rss_machine.specs.declared.step.Step.{Step}
use Rattle.reg_laws.specs.Files.{IsInOrder}
use Rattle.place_laws.specs.Alone.{KeepsToServices, are_alone}
use Rattle.place_laws.specs.Dependencies.{DependenciesFirst}

-- files whose scripts pass the test are such
abbrev pub AloneFilesKeepToServices : Type 0
AloneFilesKeepToServices = (c : Config) → are_alone c.bodies ≡ true → KeepsToServices c

-- what a read left as a dependency comes before the later calls of its stage
abbrev pub DependenciesComeFirst : Type 0
DependenciesComeFirst = (c : Config) (steps : List Step) (s : State) → IsInOrder c → KeepsToServices c → run c steps ≡ Some s → DependenciesFirst s

-- the places of a state are regular for its history
abbrev pub HasRegularPlaces : State → Type 0
HasRegularPlaces s = Regular s.history (placed_calls (places_of s))

-- the places of register calls are regular
abbrev pub RegisterPlacesAreRegular : Type 0
RegisterPlacesAreRegular =
    (c : Config) (steps : List Step) (s : State) → IsInOrder c → KeepsToServices c → run c steps ≡ Some s → HasRegularPlaces s

-- and so it is over every list of steps; where one of them is refused there is neither a call nor a place
abbrev pub RegisterOrdersAreRegular : Type 0
RegisterOrdersAreRegular = (c : Config) (steps : List Step) → IsInOrder c → KeepsToServices c → Regular (history_of c steps) (order_of c steps)
