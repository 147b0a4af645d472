-- What every event keeps of transactions, snapshots and their lines.
use Rattle.truetime.specs.Reading.{Reading}
use Rattle.pipeline_lang.specs.declared.config.Config.{Config}
use Rattle.rss_machine.specs.Moves.{ticks}
use Rattle.rss_machine.specs.State.{State, start}
use Rattle.shard_event_laws.specs.Events.{Event}
use Rattle.shard_event_laws.specs.Known.{Known}
use Rattle.txn_state_laws.specs.Awaited.{AnswersHeard}
use Rattle.txn_state_laws.specs.Framed.{AllFramed}
use Rattle.txn_state_laws.specs.Onward.{AllOnward}
use Rattle.txn_state_laws.specs.Told.{AllTold}
use Rattle.txn_session_laws.specs.Alone.{AllAlone}
use Rattle.txn_session_laws.specs.Undone.{NeverUndone}

-- messages, owners, transactions and snapshots go on
abbrev pub SessionsGoOn : Type 0
SessionsGoOn =
    (c : Config) (at : Reading) (s t : State) → Known at s → AllFramed c s → AnswersHeard s → NeverUndone s → Event c at s t → AllOnward s t

-- lines were told what their states say
pub record LinesAreTold : Type 0 where
  pub keeps : (c : Config) (at : Reading) (s t : State) → Known at s → Known at t → AllFramed c s → AnswersHeard s → NeverUndone s → AllAlone s → AllOnward s t → Event c at s t → AllTold s → AllTold t
  pub first : (c : Config) → AllTold (start c)
  pub ticks_keep : (s : State) (at : Reading) → AllTold s → AllTold (ticks s at)
