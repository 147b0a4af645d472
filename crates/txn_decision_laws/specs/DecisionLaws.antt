-- What holds of requests to shards and of decisions, from one state to the next.
use Rattle.std.specs.Prelude.{◌≡◌, ℕ}
use Rattle.truetime.specs.Reading.{Reading}
use Rattle.pipeline_lang.specs.declared.config.Config.{Config}
use Rattle.rss_wire.specs.declared.messages.Outcome.TheVariants.{Committed}
use Rattle.rss_wire.specs.declared.messages.Reply.TheVariants as reply
use Rattle.rss_tables.specs.TransactionSession.{TxnSession}
use Rattle.rss_tables.specs.declared.phases.TxnPhase.TheVariants as phase
use Rattle.rss_machine.specs.Moves.{ticks}
use Rattle.rss_machine.specs.State.{State, start, owner_at}
use Rattle.rss_machine.specs.declared.session.Session.TheVariants as session
use Rattle.shard_event_laws.specs.Events.{Hears}
use Rattle.txn_state_laws.specs.Awaited.{AnswersHeard}
use Rattle.txn_state_laws.specs.Decided.{AllDecided}
use Rattle.txn_state_laws.specs.Framed.{AllFramed}
use Rattle.txn_state_laws.specs.Justified.{AllJust}
use Rattle.txn_state_laws.specs.Onward.{Between}
use Rattle.txn_decision_laws.specs.Calm.{AllCalm}

-- something holds before the first step, and stays where a step is counted
abbrev pub HoldsAtFirst : (State → Type 0) → Type 0
HoldsAtFirst P = (c : Config) → P (start c)

abbrev pub StaysAsStepsAreCounted : (State → Type 0) → Type 0
StaysAsStepsAreCounted P = (s : State) (at : Reading) → P s → P (ticks s at)

-- and stays through every event
abbrev pub LinesStayCalm : Type 0
LinesStayCalm = (c : Config) (at : Reading) (s t : State) → Between c at s t → AllCalm s → AllCalm t

abbrev pub RequestsStayJust : Type 0
RequestsStayJust = (c : Config) (at : Reading) (s t : State) → Between c at s t → AllCalm s → AllJust s → AllDecided s → AllJust t

abbrev pub DecisionsStayKept : Type 0
DecisionsStayKept = (c : Config) (at : Reading) (s t : State) → Between c at s t → AllJust s → AllDecided s → AllDecided t

-- an attempt that asked to be undone hears of no commit
abbrev pub NoneIsUndone : Type 0
NoneIsUndone = (c : Config) (at : Reading) (s : State) → AllFramed c s → AnswersHeard s → AllDecided s → (o slot : ℕ) (x : TxnSession) (time : ℕ) → (owner_at s o).session ≡ session.Transaction x
    → x.phase ≡ phase.Undoing → Hears s o slot (reply.Decided (Committed time)) → ⊥
