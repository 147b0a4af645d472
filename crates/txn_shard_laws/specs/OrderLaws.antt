-- What holds of the order in which shards serve requests.
use Rattle.truetime.specs.Reading.{Reading}
use Rattle.pipeline_lang.specs.declared.config.Config.{Config}
use Rattle.rss_machine.specs.Moves.{ticks}
use Rattle.rss_machine.specs.State.{State, start}
use Rattle.txn_state_laws.specs.Decided.{AllDecided}
use Rattle.txn_state_laws.specs.Framed.{AllFramed}
use Rattle.txn_state_laws.specs.Justified.{AllJust}
use Rattle.txn_state_laws.specs.Onward.{Between}
use Rattle.txn_state_laws.specs.Orderly.{AllOrderly, AllInOrder}
use Rattle.txn_state_laws.specs.Told.{AllTold}
use Rattle.txn_state_laws.specs.Voted.{AllVoted}

-- each request that was sent to a shard keeps it orderly
abbrev pub RequestsKeepOrderly : Type 0
RequestsKeepOrderly = (c : Config) (s : State) → AllFramed c s → AllTold s → AllJust s → AllDecided s → AllOrderly c s → AllVoted s → AllInOrder s

-- shards stay orderly through each event
abbrev pub OrderlyKeeps : Type 0
OrderlyKeeps = (c : Config) (at : Reading) (s t : State) → Between c at s t → AllJust s → AllInOrder s → AllOrderly c s → AllOrderly c t

-- they are so before the first step
abbrev pub OrderlyStart : Type 0
OrderlyStart = (c : Config) → AllOrderly c (start c)

-- and a step that is counted leaves them so
abbrev pub OrderlyTicks : Type 0
OrderlyTicks = (c : Config) (s : State) (at : Reading) → AllOrderly c s → AllOrderly c (ticks s at)
