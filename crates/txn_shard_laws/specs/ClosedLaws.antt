-- What is closed is kept: at first, as a step is counted, and by every event.
use Rattle.truetime.specs.Reading.{Reading}
use Rattle.pipeline_lang.specs.declared.config.Config.{Config}
use Rattle.rss_machine.specs.Moves.{ticks}
use Rattle.rss_machine.specs.State.{State, start}
use Rattle.txn_state_laws.specs.Decided.{AllDecided}
use Rattle.txn_state_laws.specs.Justified.{AllJust}
use Rattle.txn_state_laws.specs.Onward.{Between}
use Rattle.txn_state_laws.specs.Orderly.{AllOrderly, AllInOrder}
use Rattle.txn_shard_laws.specs.Unreleased.{AllClosing}

-- before the first step
abbrev pub ClosedAtFirst : Type 0
ClosedAtFirst = (c : Config) → AllClosing (start c)

-- as a step is counted
abbrev pub ClosedThroughTicks : Type 0
ClosedThroughTicks = (s : State) (at : Reading) → AllClosing s → AllClosing (ticks s at)

-- through an event
abbrev pub ClosedThroughEvents : Type 0
ClosedThroughEvents = (c : Config) (at : Reading) (s t : State) → Between c at s t → AllJust s → AllDecided s → AllDecided t → AllOrderly c s → AllInOrder s → AllClosing s → AllClosing t
