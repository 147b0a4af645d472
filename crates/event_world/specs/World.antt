-- The World as its callers see it, and what its calls do.
use Rattle.std.specs.Prelude.{ℕ, ◌≡◌, List, [], ◌∷◌, ◌++◌, Option, None}
use Rattle.pipeline_lang.specs.declared.config.Config.{Config}
use Rattle.rss_machine.specs.State.{State, start}
use Rattle.rss_machine.specs.Effect.{stepped}
use Rattle.rss_machine.specs.declared.step.Step.{Step}
use Rattle.rss_machine.specs.declared.step.Logged.{Logged}

-- the file's configuration, the machine's state, the log of the steps made, and the step that there is
-- room for, if there is one
pub record WorldView : Type 0 where
  pub config : Config
  pub state : State
  pub log : List Logged
  pub prepared : Option Step

-- a step is taken: exactly it and its driver are logged, and the state is the machine's
pub record Takes (old new : WorldView) (step : Step) (driver : ℕ) : Type 0 where
  pub config : new.config ≡ old.config
  pub log : new.log ≡ old.log ++ record { step = step; driver = driver } ∷ []
  pub state : new.state ≡ stepped old.config old.state step

-- the same but for room
pub record SameWorld (old new : WorldView) : Type 0 where
  pub config : new.config ≡ old.config
  pub log : new.log ≡ old.log
  pub state : new.state ≡ old.state

-- a World before its first step
pub record IsNew (w : WorldView) (c : Config) : Type 0 where
  pub config : w.config ≡ c
  pub log : w.log ≡ []
  pub state : w.state ≡ start c
