-- Snapshots are fresh, stated of one event.
use Rattle.truetime.specs.Reading.{Reading}
use Rattle.pipeline_lang.specs.declared.config.Config.{Config}
use Rattle.rss_machine.specs.Moves.{ticks}
use Rattle.rss_machine.specs.State.{State, start}
use Rattle.txn_state_laws.specs.Dated.{AllDated}
use Rattle.txn_state_laws.specs.Decided.{AllDecided}
use Rattle.txn_state_laws.specs.Fresh.{AllFresh}
use Rattle.txn_state_laws.specs.Onward.{Between}
use Rattle.txn_state_laws.specs.Orderly.{AllOrderly}
use Rattle.txn_state_laws.specs.Passed.{AllPassed}
use Rattle.txn_state_laws.specs.Voted.{AllVoted}

-- each event keeps snapshots fresh
abbrev pub FreshKeeps : Type 0
FreshKeeps = (c : Config) (at : Reading) (s t : State) → Between c at s t → AllDecided s → AllOrderly c s → AllVoted s → AllPassed s → AllDated s → AllDated t → AllFresh s → AllFresh t

-- they are so before the first step
abbrev pub FreshStart : Type 0
FreshStart = (c : Config) → AllFresh (start c)

-- and a step that is counted leaves them so
abbrev pub FreshTicks : Type 0
FreshTicks = (s : State) (at : Reading) → AllFresh s → AllFresh (ticks s at)
