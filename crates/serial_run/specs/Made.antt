-- The World that the serial policy makes of a file.
use Rattle.std.specs.Prelude.{◌≡◌, ℕ, ◌+◌, ◌++◌, List, [], ◌∷◌, Option, Some, None}
use Rattle.pipeline_lang.specs.declared.config.Config.{Config}
use Rattle.rss_machine.specs.Run.{run}
use Rattle.rss_machine.specs.Serial.{Stepping, serial, serial_from}
use Rattle.rss_machine.specs.declared.step.Logged.{Logged}
use Rattle.rss_machine.specs.declared.step.Step.{Step}
use Rattle.event_world.specs.World.{WorldView}
use Rattle.policy_laws.specs.Laws.{IsAhead}

-- these steps, each made by a driver
abbrev pub made_by : ℕ → List Step → List Logged
made_by driver [] = []
made_by driver (step ∷ steps) = record { step = step; driver = driver } ∷ made_by driver steps

-- the number of a stage, and 0 for none
abbrev pub number_of : Option ℕ → ℕ
number_of None = 0
number_of (Some stage) = stage

-- a World whose log is exactly the steps of the policy, made by driver 0, in the state that they lead to
pub record IsSerial (c : Config) (w : WorldView) : Type 0 where
  pub config : w.config ≡ c
  pub log : w.log ≡ made_by 0 (serial c)
  pub runs : run c (serial c) ≡ Some w.state

-- a World that makes the steps of the policy, where so many steps are left, this is the clock, and this
-- stage is under way: the log, and behind it what the policy makes from here, are what it makes in all
pub record IsUnderWay (c : Config) (left : ℕ) (w : WorldView) (clock : Stepping) (stage : ℕ) : Type 0 where
  pub config : w.config ≡ c
  pub whole : w.log ++ made_by 0 (serial_from left c w.state clock stage) ≡ made_by 0 (serial c)
  pub counted : w.state.steps + left ≡ c.max_steps
  pub ahead : IsAhead clock w.state
