-- What becomes of votes, stated of one event.
use Rattle.truetime.specs.Reading.{Reading}
use Rattle.pipeline_lang.specs.declared.config.Config.{Config}
use Rattle.rss_machine.specs.Moves.{ticks}
use Rattle.rss_machine.specs.State.{State, start}
use Rattle.txn_state_laws.specs.Decided.{AllDecided}
use Rattle.txn_state_laws.specs.Justified.{AllJust}
use Rattle.txn_state_laws.specs.Onward.{Between}
use Rattle.txn_state_laws.specs.Orderly.{AllOrderly, AllInOrder}
use Rattle.txn_state_laws.specs.Voted.{AllVoted}

-- each event keeps what becomes of votes
abbrev pub VotesKept : Type 0
VotesKept = (c : Config) (at : Reading) (s t : State) → Between c at s t → AllJust s → AllDecided s → AllDecided t → AllOrderly c s → AllInOrder s → AllVoted s → AllVoted t

-- it is so before the first step
abbrev pub VotesAtFirst : Type 0
VotesAtFirst = (c : Config) → AllVoted (start c)

-- and stays so where a step is counted
abbrev pub VotesCounted : Type 0
VotesCounted = (s : State) (at : Reading) → AllVoted s → AllVoted (ticks s at)
