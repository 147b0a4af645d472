-- What holds of times against true moments.
use Rattle.std.specs.Prelude.{◌≡◌, List, length, Some}
use Rattle.truetime.specs.Reading.{Reading}
use Rattle.pipeline_lang.specs.declared.config.Config.{Config}
use Rattle.rss_machine.specs.Moves.{ticks}
use Rattle.rss_machine.specs.Run.{run, readings_of}
use Rattle.rss_machine.specs.State.{State, start}
use Rattle.rss_machine.specs.declared.step.Step.{Step}
use Rattle.std.proofs.Common.{All}
use Rattle.world_laws.specs.Laws.{IsOrdered}
use Rattle.txn_state_laws.specs.Dated.{AllDated}
use Rattle.txn_state_laws.specs.Justified.{AllJust}
use Rattle.txn_state_laws.specs.Onward.{Between}
use Rattle.txn_state_laws.specs.Orderly.{AllOrderly}
use Rattle.txn_decision_laws.specs.Entered.{AllEntered}

-- times fit true moments through each event
abbrev pub DatedKeeps : Type 0
DatedKeeps = (c : Config) (at : Reading) (s t : State) → Between c at s t → AllJust s → AllOrderly c s → AllDated s → AllDated t

-- they do so before the first step
abbrev pub DatedStart : Type 0
DatedStart = (c : Config) → AllDated (start c)

-- and where a step is counted
abbrev pub DatedTicks : Type 0
DatedTicks = (s : State) (at : Reading) → length s.moments ≡ s.steps → AllDated s → AllDated (ticks s at)

-- in every run, whose readings begin no later than they end, entries have raised least times
abbrev pub EntriesRaise : Type 0
EntriesRaise = (c : Config) (steps : List Step) (s : State) → All IsOrdered (readings_of steps) → run c steps ≡ Some s → AllEntered s
