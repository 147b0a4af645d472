-- What becomes of a list of steps that are made one after another.
use Rattle.std.specs.Prelude.{ℕ, ◌≡◌, ◌+◌, List, [], ◌∷◌, ◌++◌, length, Some}
use Rattle.pipeline_lang.specs.declared.config.Config.{Config}
use Rattle.truetime.specs.Reading.{AreConsistent}
use Rattle.rss_machine.specs.State.{State}
use Rattle.rss_machine.specs.Refusal.{refusal}
use Rattle.rss_machine.specs.Run.{run, readings_of}
use Rattle.rss_machine.specs.declared.step.Step.{Step}
use Rattle.rss_machine.specs.declared.step.Logged.{Logged}
use Rattle.rss_machine.specs.declared.step.StepRefusal.{StepRefusal}
use Rattle.event_world.specs.World.{WorldView}
use Rattle.rss_cli.specs.declared.play.PlayError.{PlayError}
use Rattle.rss_cli.specs.declared.play.PlayError.TheVariants.{Refused, OutOfMemory}

-- these steps, each made by driver 0
abbrev pub replayed : List Step → List Logged
replayed [] = []
replayed (step ∷ steps) = record { step = step; driver = 0 } ∷ replayed steps

-- the steps lead from the beginning to this state, and some true moment lies in all their readings
pub record IsRun (c : Config) (steps : List Step) (s : State) : Type 0 where
  pub runs : run c steps ≡ Some s
  pub consistent : AreConsistent (readings_of steps)

-- a World that has made all these steps, and no other
pub record HasPlayed (c : Config) (steps : List Step) (w : WorldView) : Type 0 where
  pub config : w.config ≡ c
  pub log : w.log ≡ replayed steps
  pub run : IsRun c steps w.state

-- the step of this number, counted from 1, is the first one that is refused, for this cause
pub record IsFirstRefused (c : Config) (steps : List Step) (number : ℕ) (cause : StepRefusal) : Type 0 where
  pub front : List Step
  pub step : Step
  pub rest : List Step
  pub state : State
  pub steps_are : steps ≡ front ++ step ∷ rest
  pub number_is : number ≡ length front + 1
  pub runs : run c front ≡ Some state
  pub refused : refusal c state step ≡ Some cause

-- what an error says of the steps
abbrev pub IsPlayError : Config → List Step → PlayError → Type 0
IsPlayError c steps (Refused number cause) = IsFirstRefused c steps number cause
IsPlayError c steps OutOfMemory = Unit {0}
