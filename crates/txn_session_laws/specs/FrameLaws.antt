-- What is kept of transactions and snapshots under way, whatever happens.
use Rattle.truetime.specs.Reading.{Reading}
use Rattle.pipeline_lang.specs.declared.config.Config.{Config}
use Rattle.rss_machine.specs.Moves.{ticks}
use Rattle.rss_machine.specs.State.{State, start}
use Rattle.shard_event_laws.specs.Events.{Event}
use Rattle.shard_event_laws.specs.Known.{Known}
use Rattle.txn_state_laws.specs.Awaited.{AllAwaited, AnswersHeard}
use Rattle.txn_laws.specs.Files.{NamesKeys}
use Rattle.txn_state_laws.specs.Framed.{AllFramed}
use Rattle.txn_session_laws.specs.Standing.{NoneFirst, AllLed, UnderWay}

-- what is heard is the reply to what is awaited
abbrev pub AnswersAreHeard : Type 0
AnswersAreHeard = (c : Config) (at : Reading) (s : State) → Known at s → AllFramed c s → AllAwaited s → AnswersHeard s

-- what is known of transactions and snapshots under way is kept
abbrev pub FramesAreKept : Type 0
FramesAreKept = (c : Config) (at : Reading) (s t : State) → NamesKeys c → Known at s → NoneFirst s → AnswersHeard s → Event c at s t → AllFramed c s → AllFramed c t

abbrev pub FramesAtTheStart : Type 0
FramesAtTheStart = (c : Config) → AllFramed c (start c)

abbrev pub FramesTick : Type 0
FramesTick = (c : Config) (s : State) (at : Reading) → AllFramed c s → AllFramed c (ticks s at)

-- no owner stands at number 0
abbrev pub NoneStaysFirst : Type 0
NoneStaysFirst = (c : Config) (at : Reading) (s t : State) → Event c at s t → NoneFirst s → NoneFirst t

abbrev pub NoneFirstAtTheStart : Type 0
NoneFirstAtTheStart = (c : Config) → NoneFirst (start c)

abbrev pub NoneTicks : Type 0
NoneTicks = (s : State) (at : Reading) → NoneFirst s → NoneFirst (ticks s at)

-- what is awaited is kept, where lines stand as they do while the coordinator alone is asked
abbrev pub WhatIsAwaitedIsKept : Type 0
WhatIsAwaitedIsKept = (c : Config) (at : Reading) (s t : State) → Known at s → AllFramed c s → AllLed s → AnswersHeard s → Event c at s t → AllAwaited s → AllAwaited t

abbrev pub NothingIsAwaitedAtTheStart : Type 0
NothingIsAwaitedAtTheStart = (c : Config) → AllAwaited (start c)

abbrev pub WhatIsAwaitedTicks : Type 0
WhatIsAwaitedTicks = (s : State) (at : Reading) → AllAwaited s → AllAwaited (ticks s at)

-- so is how lines stand then
abbrev pub LedStays : Type 0
LedStays = (c : Config) (at : Reading) (s t : State) → AnswersHeard s → Event c at s t → AllLed s → AllLed t

abbrev pub LedAtTheStart : Type 0
LedAtTheStart = (c : Config) → AllLed (start c)

abbrev pub LedTicks : Type 0
LedTicks = (s : State) (at : Reading) → AllLed s → AllLed (ticks s at)

-- all of it together: from the start on, step by step and event by event, with no more than what is known of the net
abbrev pub UnderWayIsKept : Type 0
UnderWayIsKept = (c : Config) (at : Reading) (s t : State) → NamesKeys c → Known at s → Event c at s t → UnderWay c s → UnderWay c t

abbrev pub UnderWayAtTheStart : Type 0
UnderWayAtTheStart = (c : Config) → UnderWay c (start c)

abbrev pub UnderWayTicks : Type 0
UnderWayTicks = (c : Config) (s : State) (at : Reading) → UnderWay c s → UnderWay c (ticks s at)
