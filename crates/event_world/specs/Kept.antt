-- What every World keeps.
use Rattle.std.specs.Prelude.{ℕ, ◌≡◌, ◌+◌, ◌≤◌, true, List, [], ◌∷◌, Option, Some, None}
use Rattle.truetime.specs.Reading.{Reading, IsReading}
use Rattle.rss_machine.specs.Refusal.{refusal}
use Rattle.rss_machine.specs.Run.{run, steps_of, readings_of}
use Rattle.rss_machine.specs.declared.step.Logged.{Logged}
use Rattle.rss_machine.specs.declared.step.Step.{Step}
use Rattle.world_laws.specs.Numbered.{are_numbered}
use Rattle.world_laws.specs.Shapes.{IsSoundFile}
use Rattle.world_machine.specs.declared.machine.Machine.{Machine}
use Rattle.world_machine.specs.Machine.{state_of}
use Rattle.world_machine.specs.StepRooms.{HasRoom}
use Rattle.world_traffic.specs.View.{IsQuiet}

-- the ends of each reading are in order
abbrev pub AreReadings : List Reading → Type 0
AreReadings [] = Unit {0}
AreReadings (at ∷ readings) = IsReading at × AreReadings readings

-- there is room for the step that was prepared, if one was and it is not refused
abbrev pub IsPrepared : Machine → ℕ → ℕ → Option Step → Type 0
IsPrepared m len capacity None = Unit {0}
IsPrepared m len capacity (Some step) = refusal m.config (state_of m) step ≡ None → (len + 1 ≤ capacity) × HasRoom m step

-- the state is the run of the log, whose steps name stages by their numbers; the file is sound; and nothing is being sent
pub record IsKept (machine : Machine) (log : List Logged) : Type 0 where
  pub replays : run machine.config (steps_of log) ≡ Some (state_of machine)
  pub readings : AreReadings (readings_of (steps_of log))
  pub numbered : are_numbered (steps_of log) ≡ true
  pub file : IsSoundFile machine.config
  pub quiet : IsQuiet machine.traffic

-- and there is room for what was prepared
pub record IsWorld (machine : Machine) (log : List Logged) (capacity len : ℕ) (prepared : Option Step) : Type 0 where
  pub kept : IsKept machine log
  pub room : IsPrepared machine len capacity prepared
