-- What the machine does with the steps of the serial policy.
use Rattle.std.specs.Prelude.{◌≡◌, ◌⊎◌, ℕ, ◌+◌, ◌<◌, ◌≤◌, true, false, List, length, Some, None}
use Rattle.std.specs.List.{All}
use Rattle.pipeline_lang.specs.declared.config.Config.{Config}
use Rattle.rss_machine.specs.Effect.{stepped}
use Rattle.rss_machine.specs.Refusal.{refusal}
use Rattle.rss_machine.specs.Run.{run, readings_of}
use Rattle.rss_machine.specs.Serial.{Stepping, has_step, step_of_stage, serial}
use Rattle.rss_machine.specs.State.{State}
use Rattle.rss_machine.specs.Turns.{next_for}
use Rattle.rss_machine.specs.declared.step.Step.{Step}
use Rattle.world_laws.specs.Laws.{IsOrdered}
use Rattle.world_laws.specs.Numbered.{are_numbered}
use Rattle.world_laws.specs.Shapes.{IsSoundFile}

-- the true moment is not above the beginning of what a clock has read last
abbrev pub IsAhead : Stepping → State → Type 0
IsAhead clock s = s.moment + clock.half ≤ clock.now

-- a step of the policy is made, and its clock is ahead of the state behind it
pub record IsTaken (c : Config) (s : State) (made : Step × Stepping) : Type 0 where
  pub allowed : refusal c s made.0 ≡ None
  pub counted : (stepped c s made.0).steps ≡ s.steps + 1
  pub ahead : IsAhead made.1 (stepped c s made.0)

-- in every run whose log is not full, by a clock that is ahead
abbrev pub PolicyStepsAreTaken : Type 0
PolicyStepsAreTaken =
    (c : Config) (steps : List Step) (s : State) (clock : Stepping) (n : ℕ) (made : Step × Stepping) → run c steps ≡ Some s → s.steps < c.max_steps → IsAhead clock s → step_of_stage c s clock n ≡ Some made → IsTaken c s made

-- these steps lead from the beginning to some state
pub record IsRun (c : Config) (steps : List Step) : Type 0 where
  pub state : State
  pub runs : run c steps ≡ Some state

-- the steps of the policy are a run
abbrev pub PoliciesRun : Type 0
PoliciesRun = (c : Config) → IsRun c (serial c)

-- these steps begin their readings no later than they end, and name stages by their numbers from 1
pub record AreProper (steps : List Step) : Type 0 where
  pub ordered : All IsOrdered (readings_of steps)
  pub numbered : are_numbered steps ≡ true

-- the steps of the policy are proper
abbrev pub PoliciesAreProper : Type 0
PoliciesAreProper = (c : Config) → AreProper (serial c)

-- no stage has a step
abbrev pub HaveNone : Config → State → Type 0
HaveNone c s = (n : ℕ) → 1 ≤ n → n ≤ length s.stages → has_step (next_for c s n) ≡ false

-- a run has ended: its log is full, or no stage has a step
abbrev pub HasEnded : Config → State → Type 0
HasEnded c s = (s.steps ≡ c.max_steps) ⊎ HaveNone c s

-- these steps lead to a state in which the run has ended
pub record IsWhole (c : Config) (steps : List Step) : Type 0 where
  pub state : State
  pub runs : run c steps ≡ Some state
  pub ends : HasEnded c state

-- so do the steps of the policy: its clock always has a reading above the time that a turn waits for
abbrev pub PoliciesEndWhole : Type 0
PoliciesEndWhole = (c : Config) → IsSoundFile c → IsWhole c (serial c)
