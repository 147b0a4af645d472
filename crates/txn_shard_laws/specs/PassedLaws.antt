-- What answered snapshots pass by, stated of one event.
use Rattle.truetime.specs.Reading.{Reading}
use Rattle.pipeline_lang.specs.declared.config.Config.{Config}
use Rattle.rss_machine.specs.Moves.{ticks}
use Rattle.rss_machine.specs.State.{State, start}
use Rattle.txn_state_laws.specs.Decided.{AllDecided}
use Rattle.txn_state_laws.specs.Justified.{AllJust}
use Rattle.txn_state_laws.specs.Onward.{Between}
use Rattle.txn_state_laws.specs.Orderly.{AllOrderly, AllInOrder}
use Rattle.txn_state_laws.specs.Passed.{AllPassed}

-- each event keeps what answered snapshots may have missed
abbrev pub PassedKept : Type 0
PassedKept = (c : Config) (at : Reading) (s t : State) → Between c at s t → AllJust s → AllDecided s → AllDecided t → AllOrderly c s → AllInOrder s → AllPassed s → AllPassed t

-- it is so before the first step
abbrev pub PassedAtFirst : Type 0
PassedAtFirst = (c : Config) → AllPassed (start c)

-- and stays so where a step is counted
abbrev pub PassedCounted : Type 0
PassedCounted = (s : State) (at : Reading) → AllPassed s → AllPassed (ticks s at)
