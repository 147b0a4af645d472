-- What holds of every run.
use Rattle.std.specs.Prelude.{◌≡◌, ℕ, ◌<◌, ◌≤◌, ◌+◌, ◌↔◌, List, [], ◌∷◌, ◌++◌, length, Some, None}
use Rattle.std.specs.List.{All}
use Rattle.truetime.specs.Reading.{Reading, AreConsistent}
use Rattle.truetime.specs.TrueMoment.{IsTrueMoment, true_moment}
use Rattle.rss_names.specs.declared.service.Key.{Key}
use Rattle.rss_names.specs.declared.service.ServiceId.{ServiceId}
use Rattle.rss_names.specs.declared.service.Target.TheVariants.{Replica}
use Rattle.carstamps.specs.declared.carstamp.Carstamp.{Carstamp}
use Rattle.pipeline_lang.specs.declared.config.Config.{Config}
use Rattle.rss_wire.specs.Messages.{message_at}
use Rattle.rss_wire.specs.declared.message.Body.TheVariants as body
use Rattle.rss_wire.specs.declared.messages.Request.{Request}
use Rattle.rss_machine.specs.State.{State, marks_at}
use Rattle.rss_machine.specs.Effect.{stepped}
use Rattle.rss_machine.specs.Refusal.{refusal}
use Rattle.rss_machine.specs.Run.{run, steps_of, readings_of}
use Rattle.rss_machine.specs.Times.{step_of_time, step_of_stamp, marked_step}
use Rattle.rss_machine.specs.declared.step.Logged.{Logged}
use Rattle.rss_machine.specs.declared.step.Step.{Step}
use Rattle.world_laws.specs.Ascending.{Ascending}
use Rattle.world_laws.specs.Exchanges.{Exchanges}
use Rattle.world_laws.specs.Later.{Later}
use Rattle.world_laws.specs.Own.{AreOwn}
use Rattle.world_laws.specs.Proper.{AreProper, registers_of}
use Rattle.world_laws.specs.Registers.{IsRegister, NamesRegisters}
use Rattle.world_laws.specs.Calls.{StagesOwn, HistoryTells, DatesTell, Onward}
use Rattle.world_laws.specs.Scripted.{AreScripted}
use Rattle.world_laws.specs.Planned.{WorksPlanned}

-- a run goes on by a step that is not refused
abbrev pub RunsGoOn : Type 0
RunsGoOn =
    (c : Config) (steps : List Step) (s : State) (next : Step) → run c steps ≡ Some s → refusal c s next ≡ None → run c (steps ++ next ∷ []) ≡ Some (stepped c s next)

-- a run counts its steps, and has no more than the file allows
abbrev pub RunsAreCounted : Type 0
RunsAreCounted =
    (c : Config) (steps : List Step) (s : State) → run c steps ≡ Some s → (s.steps ≡ length steps) × (s.steps ≤ c.max_steps)

-- a log with one more step has its steps and that one
abbrev pub LogsGrow : Type 0
LogsGrow = (log : List Logged) (l : Logged) → steps_of (log ++ l ∷ []) ≡ steps_of log ++ l.step ∷ []

-- a reading begins no later than it ends
abbrev pub IsOrdered : Reading → Type 0
IsOrdered at = at.earliest ≤ at.latest

-- the readings of a run are consistent
abbrev pub ReadingsAreConsistent : Type 0
ReadingsAreConsistent =
    (c : Config) (steps : List Step) (s : State) → run c steps ≡ Some s → All IsOrdered (readings_of steps) → AreConsistent (readings_of steps)

-- the moment of a state is the true moment after the readings of its run
abbrev pub MomentsAreTrue : Type 0
MomentsAreTrue =
    (c : Config) (steps : List Step) (s : State) → run c steps ≡ Some s → (s.moment ≡ true_moment (readings_of steps)) × IsTrueMoment (readings_of steps) (length steps) s.moment

-- the step of a time is one of the run's, or one more than their number, and a greater time has no earlier step
pub record StepsRise (s : State) : Type 0 where
  pub first : (time : ℕ) → 1 ≤ step_of_time s time
  pub last : (time : ℕ) → step_of_time s time ≤ s.steps + 1
  pub rise : (a b : ℕ) → a ≤ b → step_of_time s a ≤ step_of_time s b

-- from a state of a run to a later one: the step of a time has come at the first exactly where the true moment
-- there is above the time; where it has come it stays, and where it has not it was one more than the steps
pub record StepsStay (s later : State) : Type 0 where
  pub come : (time : ℕ) → step_of_time later time ≤ s.steps ↔ time < s.moment
  pub stay : (time : ℕ) → step_of_time later time ≤ s.steps → step_of_time s time ≡ step_of_time later time
  pub ahead : (time : ℕ) → s.steps < step_of_time later time → step_of_time s time ≡ s.steps + 1

abbrev pub TimesHaveSteps : Type 0
TimesHaveSteps = (c : Config) (steps : List Step) (s : State) → run c steps ≡ Some s → StepsRise s

abbrev pub StepsOfTimesStay : Type 0
StepsOfTimesStay =
    (c : Config) (steps more : List Step) (s later : State) → run c steps ≡ Some s → run c (steps ++ more) ≡ Some later → StepsStay s later

-- nothing changes back from a state of a run to a later one
abbrev pub NothingChangesBack : Type 0
NothingChangesBack =
    (c : Config) (steps more : List Step) (s t : State) → run c steps ≡ Some s → run c (steps ++ more) ≡ Some t → Later s t

-- every message of a run is sound
abbrev pub RepliesFit : Type 0
RepliesFit = (c : Config) (steps : List Step) (s : State) → run c steps ≡ Some s → Exchanges s.net

-- every message of a run is proper
abbrev pub RequestsAreProper : Type 0
RequestsAreProper = (c : Config) (steps : List Step) (s : State) → run c steps ≡ Some s → AreProper s

-- every register that a replica is asked about is one of the file
abbrev pub AsksRegisters : Config → State → Type 0
AsksRegisters c s =
    (m : ℕ) (service : ServiceId) (replica : ℕ) (r : Request) → (message_at s.net m).envelope.target ≡ Replica service replica → (message_at s.net m).body ≡ body.Request r → All (IsRegister c) (registers_of r)

-- where the scripts name registers of the file alone, replicas are asked about such alone
abbrev pub RegistersAreTheFiles : Type 0
RegistersAreTheFiles =
    (c : Config) (steps : List Step) (s : State) → NamesRegisters c → run c steps ≡ Some s → AsksRegisters c s

-- the notes of a state tell the step of every stamp of a register of the file
abbrev pub MarksTellSteps : Type 0
MarksTellSteps =
    (c : Config) (key : Key) (stamp : Carstamp) (steps : List Step) (s : State) → NamesRegisters c → IsRegister c key → run c steps ≡ Some s → step_of_stamp c steps key stamp ≡ marked_step s key stamp

-- the notes of each register ascend
abbrev pub MarksAscend : Type 0
MarksAscend = (c : Config) (steps : List Step) (s : State) (key : Key) → run c steps ≡ Some s → Ascending s.steps (marks_at s key)

-- every store of a run is of its own call
abbrev pub StoresAreOwn : Type 0
StoresAreOwn = (c : Config) (steps : List Step) (s : State) → run c steps ≡ Some s → AreOwn s

-- what stages have under way
abbrev pub StagesOwnCalls : Type 0
StagesOwnCalls = (c : Config) (steps : List Step) (s : State) → run c steps ≡ Some s → StagesOwn s

-- the history tells of calls
abbrev pub HistoryTellsCalls : Type 0
HistoryTellsCalls = (c : Config) (steps : List Step) (s : State) → run c steps ≡ Some s → HistoryTells s

-- the dates of owners stand in their order
abbrev pub DatesStandInOrder : Type 0
DatesStandInOrder = (c : Config) (steps : List Step) (s : State) → run c steps ≡ Some s → DatesTell s

-- calls, fence statements and messages are of the scripts
abbrev pub CallsAreScripted : Type 0
CallsAreScripted = (c : Config) (steps : List Step) (s : State) → run c steps ≡ Some s → AreScripted c s

-- owners go on from a state of a run to a later one
abbrev pub OwnersGoOn : Type 0
OwnersGoOn = (c : Config) (steps more : List Step) (u s : State) → run c steps ≡ Some u → run c (steps ++ more) ≡ Some s → Onward u s

-- the works of owners are planned
abbrev pub WorksArePlanned : Type 0
WorksArePlanned = (c : Config) (steps : List Step) (s : State) → run c steps ≡ Some s → WorksPlanned s
